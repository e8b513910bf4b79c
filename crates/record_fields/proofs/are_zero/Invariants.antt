use Rattle.std.proofs.Common.{◌≡◌, take, replicate}
use Rattle.std.specs.Prelude.{◌↔◌}
use Rattle.record_fields.proofs.are_zero.Given as goal

-- the bytes so far are zero exactly where the greatest is
abbrev pub invariant-loop-byte : goal.invariant-loop-byte
invariant-loop-byte l = (l.greatest ≡ 0) ↔ (take l.byte-index l.field ≡ replicate l.byte-index 0)
