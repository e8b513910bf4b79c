use Rattle.std.proofs.Common.{◌≡◌, ℕ, ◌+◌, ◌≤◌, ◌-◌, List, ◌++◌, length, take, drop, length-drop, ap, ◌∙◌, sym, arith}
use Rattle.std.proofs.Math.Seq.{take-append-add}
use Rattle.std.proofs.lemmas.List.{take-append-le, length-take-le, length-take}
use borrow.Rule.Slice.PartMut.{put_mid, post_of, same_len_mid}
use Rattle.sdbt_base.proofs.ToldLaws.{Gave-then, ends_gave}
use Rattle.key_tape.proofs.source_tape.fill.Goals as goal

-- a front of a list, and the front of what is written behind it
front_written : (at k n : ℕ) (xs ys : List ℕ) → at ≤ length xs → n ≤ length ys
    → take (at + n) (put_mid at k xs ys) ≡ take at xs ++ take n ys
front_written at k n xs ys within long =
    ap (λ (m : ℕ). take (m + n) (put_mid at k xs ys)) (sym (length-take-le at xs within))
    ∙ take-append-add (take at xs) (ys ++ post_of at k xs) n
    ∙ ap (λ (rest : List ℕ). take at xs ++ rest) (take-append-le n ys (post_of at k xs) long)

pub takes-preserved : goal.takes-preserved
takes-preserved g c =
    let at : ℕ = c.takes.filled in
    let into : List ℕ = c.take.new.into in
    let room : length into ≡ length (take (length c.takes.bytes - at) (drop at c.takes.bytes)) = c.take.auto.into in
    let fits : c.in-Ok.count ≤ length into = omega (arith, c.in-Ok.ensures.bound) in
    record {
      within = omega (
        arith,
        c.in-Ok.ensures.bound,
        same_len_mid at (length c.takes.bytes - at) c.takes.bytes into room,
        length-take (length c.takes.bytes - at) (drop at c.takes.bytes),
        length-drop at c.takes.bytes,
      );
      gave = rw (front_written at (length c.takes.bytes - at) c.in-Ok.count c.takes.bytes into c.takes.invariant.within fits)
          (Gave-then (g.S.Source.left c.args.source.now) (take at c.takes.bytes) (g.S.Source.left c.takes.source) (take c.in-Ok.count into)
          (g.S.Source.left c.take.new.self) c.takes.invariant.gave c.in-Ok.ensures.taken);
      quiet = omega (arith, c.in-Ok.ensures.cause, c.takes.invariant.quiet);
      open_yet = c.in-Ok.ensures.ended ∙ ends_gave c.in-Ok.count (g.S.Source.ends c.takes.source) c.if-count-gt0.true ∙ c.takes.invariant.open_yet;
    }
