-- Why a commit was not prepared where a page was not appended.
use Rattle.page_store.specs.declared.refusals.AppendFault.{AppendFault}
use Rattle.page_store.specs.declared.refusals.AppendFault.TheVariants as appends
use Rattle.shadow_commit.specs.declared.refusals.CommitRefusal.{CommitRefusal}
use Rattle.shadow_commit.specs.declared.refusals.CommitRefusal.TheVariants as commits

-- the refusal of a commit where a page was refused
abbrev pub refused : AppendFault → CommitRefusal
refused appends.TapeFault = commits.TapeFault
refused appends.PlatformFault = commits.PlatformFault
