use Rattle.std.proofs.Common.{take}
use Rattle.std.specs.List.{All}
use Rattle.tpm_nv.specs.Attributes.{IsClear}
use Rattle.tpm_nv.proofs.attributes.first_set.Given as goal

-- none so far was the one that is looked for
abbrev pub invariant-loop-attribute : goal.invariant-loop-attribute
invariant-loop-attribute l = All (IsClear l.attributes) (take l.attribute-index l.list)
