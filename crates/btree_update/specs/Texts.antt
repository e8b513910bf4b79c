-- What a refusal of an update is printed as.
use Rattle.std.specs.Prelude.{ℕ, List, ◌++◌, codes}
use Rattle.std.specs.Fmt.{decimal}
use Rattle.btree_update.specs.declared.refusals.ReadyRefusal.{ReadyRefusal}
use Rattle.btree_update.specs.declared.refusals.ReadyRefusal.TheVariants.{BadRecord, PlatformFault, Memory}

-- the text of a refusal: a node that is not the one that was wanted is named by its address
abbrev pub ready_text : ReadyRefusal → List ℕ
ready_text (BadRecord addr) = codes "bad record " ++ decimal addr
ready_text PlatformFault = codes "the medium or the root cell failed"
ready_text Memory = codes "out of memory"
