-- What a session answers where a root record or a record was not read.
use Rattle.page_store.specs.declared.refusals.CurrentRefusal.{CurrentRefusal}
use Rattle.page_store.specs.declared.refusals.CurrentRefusal.TheVariants as current
use Rattle.page_store.specs.declared.refusals.FetchRefusal.{FetchRefusal}
use Rattle.page_store.specs.declared.refusals.FetchRefusal.TheVariants as fetch
use Rattle.device_session.specs.declared.refusals.MountRefusal.{MountRefusal}
use Rattle.device_session.specs.declared.refusals.MountRefusal.TheVariants as mount
use Rattle.device_session.specs.declared.refusals.ReadRefusal.{ReadRefusal}
use Rattle.device_session.specs.declared.refusals.ReadRefusal.TheVariants as read

-- the refusal of a mount where the root record was refused
abbrev pub mount_refused : CurrentRefusal → MountRefusal
mount_refused current.BadRoot = mount.BadRoot
mount_refused current.PlatformFault = mount.PlatformFault

-- the refusal of a read where a record was refused
abbrev pub read_refused : FetchRefusal → ReadRefusal
read_refused (fetch.BadRecord addr) = read.BadRecord addr
read_refused fetch.PlatformFault = read.PlatformFault
