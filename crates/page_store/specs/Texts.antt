-- What a refusal is printed as.
use Rattle.std.specs.Prelude.{ℕ, List, ◌++◌, codes}
use Rattle.std.specs.Fmt.{decimal}
use Rattle.page_store.specs.declared.refusals.CurrentRefusal.{CurrentRefusal}
use Rattle.page_store.specs.declared.refusals.CurrentRefusal.TheVariants as currents
use Rattle.page_store.specs.declared.refusals.FetchRefusal.{FetchRefusal}
use Rattle.page_store.specs.declared.refusals.FetchRefusal.TheVariants as fetches
use Rattle.page_store.specs.declared.refusals.AppendFault.{AppendFault}
use Rattle.page_store.specs.declared.refusals.AppendFault.TheVariants as appends

-- the text of a refusal of a root
abbrev pub current_text : CurrentRefusal → List ℕ
current_text currents.BadRoot = codes "bad root"
current_text currents.PlatformFault = codes "the medium or the root cell failed"

-- the text of a refusal of a record: a record that is not the one that was wanted is named by its address
abbrev pub fetch_text : FetchRefusal → List ℕ
fetch_text (fetches.BadRecord addr) = codes "bad record " ++ decimal addr
fetch_text fetches.PlatformFault = codes "the medium or the root cell failed"

-- the text of a fault of an append
abbrev pub append_text : AppendFault → List ℕ
append_text appends.TapeFault = codes "no key could be drawn"
append_text appends.PlatformFault = codes "the medium or the root cell failed"
