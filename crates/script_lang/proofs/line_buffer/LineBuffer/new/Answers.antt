use Rattle.std.proofs.Common.{arith, ◌≡◌, ℕ, zero, suc, refl, get_or, replicate}
use Rattle.script_lang.proofs.line_buffer.LineBuffer.new.Goals as goal

-- a place of a list of one byte has that byte, and so has each place behind it by default
same_at : (n place byte : ℕ) → get_or (replicate n byte) place byte ≡ byte
same_at zero place byte = refl
same_at (suc n) zero byte = refl
same_at (suc n) (suc place) byte = same_at n place byte

pub invariant_of-result : goal.invariant_of-result
invariant_of-result c = record {
  fits = omega arith;
  short = omega arith;
  zeros = λ place _ _. same_at 8300 place 0;
}
