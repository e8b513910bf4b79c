use Rattle.std.proofs.Common.{take}
use Rattle.std.specs.List.{All}
use Rattle.tpm_nv.specs.Attributes.{IsSet}
use Rattle.tpm_nv.proofs.attributes.first_clear.Given as goal

-- none so far was the one that is looked for
abbrev pub invariant-loop-attribute : goal.invariant-loop-attribute
invariant-loop-attribute l = All (IsSet l.attributes) (take l.attribute-index l.list)
