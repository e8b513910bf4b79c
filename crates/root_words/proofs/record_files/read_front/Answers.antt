use Rattle.std.proofs.Common.{◌≡◌, ℕ, ◌+◌, ◌≤◌, ◌-◌, List, ◌++◌, length, take, drop, length-drop, ap, ◌∙◌, sym, arith, le_refl}
use Rattle.std.proofs.Math.Seq.{take-append-add}
use Rattle.std.proofs.lemmas.List.{take-append-le, length-take-le, length-take}
use Rattle.std.proofs.lemmas.Slice.{take-put_mid_below}
use Rattle.std.proofs.KnownBytes.{Consumes-trans, Consumes-kept}
use borrow.Rule.Slice.PartMut.{put_mid, post_of, same_len_mid}
use Rattle.root_words.proofs.record_files.read_front.Goals as goal
use Rattle.root_words.proofs.record_files.read_front.Goals.{in-Ok, in-Err}

-- a front of a list, and the front of what is written behind it
front_written : (at k n : ℕ) (xs ys : List ℕ) → at ≤ length xs → n ≤ length ys
    → take (at + n) (put_mid at k xs ys) ≡ take at xs ++ take n ys
front_written at k n xs ys within long =
    ap (λ (m : ℕ). take (m + n) (put_mid at k xs ys)) (sym (length-take-le at xs within))
    ∙ take-append-add (take at xs) (ys ++ post_of at k xs) n
    ∙ ap (λ (rest : List ℕ). take at xs ++ rest) (take-append-le n ys (post_of at k xs) long)

-- the reader gave the next bytes, or it stayed as it was
pub loop-preserved : goal.loop-preserved
loop-preserved g c =
    let remaining = g.R.Read.remaining in
    let at : ℕ = c.loop.filled in
    let room : ℕ = length c.loop.into - at in
    let piece : List ℕ = c.read.new.buf in
    let same : length piece ≡ length (take room (drop at c.loop.into)) = c.read.auto.buf in
    let kept : length (put_mid at room c.loop.into piece) ≡ length c.loop.into = same_len_mid at room c.loop.into piece same in
    elim c.match-read.branch [
      | in-Ok r ↦
          record {
            same = omega (arith, kept, c.loop.invariant.same);
            bound = omega (arith, r.in-Ok.ensures.bound, r.filled-is, kept, same, length-take room (drop at c.loop.into), length-drop at c.loop.into, c.loop.invariant.bound);
            front =
                rw r.filled-is (rw (front_written at room r.in-Ok.count c.loop.into piece c.loop.invariant.bound (omega (arith, r.in-Ok.ensures.bound)))
                (Consumes-trans (remaining c.args.reader.now) (remaining c.loop.reader) (remaining c.read.new.self)
                (take at c.loop.into) (take r.in-Ok.count piece) c.loop.invariant.front r.in-Ok.ensures.bytes.0));
          }
      | in-Err r ↦
          record {
            same = omega (arith, kept, c.loop.invariant.same);
            bound = omega (arith, r.filled-is, kept, c.loop.invariant.bound);
            front =
                rw r.filled-is (rw (take-put_mid_below at room c.loop.into piece at (le_refl at) c.loop.invariant.bound)
                (Consumes-kept (remaining c.args.reader.now) (remaining c.loop.reader) (remaining c.read.new.self)
                (take at c.loop.into) c.loop.invariant.front r.in-Err.ensures.bytes));
          }
    ]
