-- What a refusal of a walk is printed as.
use Rattle.std.specs.Prelude.{ℕ, List, ◌++◌, codes}
use Rattle.std.specs.Fmt.{decimal}
use Rattle.btree_walk.specs.declared.refusals.WalkRefusal.{WalkRefusal}
use Rattle.btree_walk.specs.declared.refusals.WalkRefusal.TheVariants.{BadRecord, PlatformFault, Memory}

-- the text of a refusal: a node that is not the one that was wanted is named by its address
abbrev pub walk_text : WalkRefusal → List ℕ
walk_text (BadRecord addr) = codes "bad record " ++ decimal addr
walk_text PlatformFault = codes "the medium or the root cell failed"
walk_text Memory = codes "out of memory"
