use Rattle.std.proofs.Common.{ℕ, ◌≢◌, ◌<◌, arith, length, get_or, bit_xor, get_or-set_other, get_or-set_same, below_more, sym, ap, ◌∙◌}
use Rattle.std.proofs.lemmas.Grind.{same_number_lists}
use Rattle.std.proofs.lemmas.Nat.{xor_comm}
use Rattle.std.proofs.lemmas.Simd.{get_or-zip2, length-zip2}
use Rattle.seal_record.proofs.keystream.xor_into.Goals as goal

pub returns : goal.returns
returns c =
    same_number_lists _ _
    (omega (arith, length-zip2 bit_xor c.args.bytes.now c.args.out.now c.requires))
    (λ k below.
    let in_out : k < length c.args.out.now = omega arith in
    let in_bytes : k < length c.args.bytes.now = omega arith in
    c.loop-i.invariant.done k (omega arith)
    ∙ sym (get_or-zip2 bit_xor c.args.bytes.now c.args.out.now k 0 0 0 in_bytes in_out))

pub loop-i-preserved : goal.loop-i-preserved
loop-i-preserved c =
    let here : c.loop-i.i < length c.loop-i.out = omega arith in
    record {
      done = below_more _ _
          (λ k h. let other : k ≢ c.loop-i.i = omega arith in rw get_or-set_other (c.loop-i.invariant.done k h))
          (rw get_or-set_same (xor_comm (get_or c.loop-i.out c.loop-i.i 0) (get_or c.args.bytes.now c.loop-i.i 0) ∙ ap (λ (n : ℕ). bit_xor (get_or c.args.bytes.now c.loop-i.i 0) n) (c.loop-i.invariant.left c.loop-i.i (omega arith))));
      left = λ k h. let other : k ≢ c.loop-i.i = omega arith in rw get_or-set_other (c.loop-i.invariant.left k (omega arith));
    }
