-- Why an update isn't ready where a record was not fetched.
use Rattle.page_store.specs.declared.refusals.FetchRefusal.{FetchRefusal}
use Rattle.page_store.specs.declared.refusals.FetchRefusal.TheVariants as fetches
use Rattle.btree_update.specs.declared.refusals.ReadyRefusal.{ReadyRefusal}
use Rattle.btree_update.specs.declared.refusals.ReadyRefusal.TheVariants as ready

-- the refusal of an update where a record was refused
abbrev pub refused : FetchRefusal → ReadyRefusal
refused (fetches.BadRecord addr) = ready.BadRecord addr
refused fetches.PlatformFault = ready.PlatformFault
