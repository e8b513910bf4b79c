use Rattle.std.proofs.Common.{◌≡◌, ℕ, ◌+◌, ◌≤◌, ◌-◌, List, ◌++◌, length, take, drop, length-drop, ap, ◌∙◌, sym, arith, le_refl}
use Rattle.std.proofs.Math.Seq.{take-append-add}
use Rattle.std.proofs.lemmas.List.{take-append-le, length-take-le, length-take}
use Rattle.std.proofs.lemmas.Slice.{take-put_mid_below}
use Rattle.std.proofs.KnownBytes.{Consumes-trans, Consumes-kept}
use borrow.Rule.Slice.PartMut.{put_mid, post_of, same_len_mid}
use Rattle.tpm_cell.proofs.std_tpm.take_reply.Goals as goal
use Rattle.tpm_cell.proofs.std_tpm.take_reply.Goals.{in-Ok, in-Err}

-- a front of a list, and the front of what is written behind it
front_written : (at k n : ℕ) (xs ys : List ℕ) → at ≤ length xs → n ≤ length ys
    → take (at + n) (put_mid at k xs ys) ≡ take at xs ++ take n ys
front_written at k n xs ys within long =
    ap (λ (m : ℕ). take (m + n) (put_mid at k xs ys)) (sym (length-take-le at xs within))
    ∙ take-append-add (take at xs) (ys ++ post_of at k xs) n
    ∙ ap (λ (rest : List ℕ). take at xs ++ rest) (take-append-le n ys (post_of at k xs) long)

-- the file gave the next bytes, or it stayed as it was
pub loop-preserved : goal.loop-preserved
loop-preserved g c =
    let remaining = g.R.Read.remaining in
    let at : ℕ = c.loop.filled in
    let room : ℕ = length c.loop.reply - at in
    let piece : List ℕ = c.read.new.buf in
    let same : length piece ≡ length (take room (drop at c.loop.reply)) = c.read.auto.buf in
    let kept : length (put_mid at room c.loop.reply piece) ≡ length c.loop.reply = same_len_mid at room c.loop.reply piece same in
    elim c.match-read.branch [
      | in-Ok r ↦
          record {
            same = omega (arith, kept, c.loop.invariant.same);
            bound = omega (arith, r.in-Ok.ensures.bound, r.filled-is, kept, same, length-take room (drop at c.loop.reply), length-drop at c.loop.reply, c.loop.invariant.bound);
            front =
                rw r.filled-is (rw (front_written at room r.in-Ok.count c.loop.reply piece c.loop.invariant.bound (omega (arith, r.in-Ok.ensures.bound)))
                (Consumes-trans (remaining c.args.file.now) (remaining c.loop.file) (remaining c.read.new.self)
                (take at c.loop.reply) (take r.in-Ok.count piece) c.loop.invariant.front r.in-Ok.ensures.bytes.0));
          }
      | in-Err r ↦
          record {
            same = omega (arith, kept, c.loop.invariant.same);
            bound = omega (arith, r.filled-is, kept, c.loop.invariant.bound);
            front =
                rw r.filled-is (rw (take-put_mid_below at room c.loop.reply piece at (le_refl at) c.loop.invariant.bound)
                (Consumes-kept (remaining c.args.file.now) (remaining c.loop.file) (remaining c.read.new.self)
                (take at c.loop.reply) c.loop.invariant.front r.in-Err.ensures.bytes));
          }
    ]
