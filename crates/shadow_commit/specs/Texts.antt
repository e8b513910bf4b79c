-- What a refusal of a commit is printed as.
use Rattle.std.specs.Prelude.{ℕ, List, ◌++◌, codes}
use Rattle.std.specs.Fmt.{decimal}
use Rattle.shadow_commit.specs.declared.refusals.CommitRefusal.{CommitRefusal}
use Rattle.shadow_commit.specs.declared.refusals.CommitRefusal.TheVariants.{Full, Memory, TapeFault, PlatformFault}

-- the text of a refusal: where too few pages are free, both numbers are told
abbrev pub commit_text : CommitRefusal → List ℕ
commit_text (Full needed free) = decimal needed ++ (codes " pages are needed and " ++ (decimal free ++ codes " are free"))
commit_text Memory = codes "out of memory"
commit_text TapeFault = codes "no key could be drawn"
commit_text PlatformFault = codes "the medium or the root cell failed"
