use Rattle.std.proofs.Common.{List, [], ap, arith, inl, inr, length, refl, sym, subst, ℕ, ◌*◌, ◌+◌, ◌∙◌, ◌≡◌}
use Rattle.std.proofs.lemmas.List.{take_all}
use Rattle.std.proofs.lemmas.Slice.{take-put_mid}
use Rattle.byte_arrays.specs.Arrays.{bytes_at}
use Rattle.nbd_terms.specs.Bytes.{array_of}
use Rattle.session_calls.proofs.AlongLaws.{along_start, along_then}
use Rattle.nbd_core.proofs.ArrayLaws.{range_stopped, read_more}
use Rattle.sdbt_base.specs.Counts.{counts}
use Rattle.nbd_core.proofs.ReadLaws.{touched_more, touched_most}
use Rattle.session_calls.proofs.CallLaws.{along_more, calls_more, calls_then, no_draw, platform_quiet}
use Rattle.nbd_core.specs.Found.{FindsBytes}
use Rattle.nbd_core.proofs.FoundLaws.{finds_nothing, read_then, same_start, same_then}
use Rattle.nbd_core.proofs.reading.read_range.Goals as goal

pub loop-done-init : goal.loop-done-init
loop-done-init g c = record {
  along = λ drawn. along_start g.P.Platform _ drawn _ c.requires.open;
  within = omega arith;
  front = λ more. inl refl;
  quiet = refl;
  reads = λ told device array at. (at, refl);
  found = λ told mounted. record { same = same_start _ _; found = finds_nothing _ _ c.args.at; met = tt };
}

pub read_part-requires-clause-open : goal.read_part-requires-clause-open
read_part-requires-clause-open g c = (c.loop-done.invariant.along no_draw).is_open

pub read_part-requires-clause-within : goal.read_part-requires-clause-within
read_part-requires-clause-within g c =
    let part = c.first-part.ensures (c.args.at + c.loop-done.done) 0 (omega arith) (inl refl) in
    omega (arith, part.at, part.within, part.some, c.requires.within, (c.loop-done.invariant.along no_draw).blocks)

pub loop-done-preserved : goal.loop-done-preserved
loop-done-preserved g c = record {
  reads = λ told device array at.
      let before = c.loop-done.invariant.reads told device array at in
      let led = c.in-Ok.ensures.reads told device array before.0 in
      let part = c.first-part.ensures (c.args.at + c.loop-done.done) 0 (omega arith) (inl refl) in
      let k : ℕ = c.first-part.result.count in
      let out : List ℕ = c.loop-done.out in
      let piece : List ℕ = c.read_part.new.out in
      let size : length piece ≡ k = omega (arith, c.in-Ok.ensures.size, part.within) in (
        led.0,
        read_more array c.args.at c.loop-done.done k (4096 * c.first-part.result.block + c.first-part.result.start) out piece _ before.1 led.1 (omega (arith, part.at)) size
            (take-put_mid c.loop-done.done _ out piece (c.loop-done.done + k) (omega (arith, size)) c.loop-done.invariant.within),
      );
  found = λ told mounted.
      let before = c.loop-done.invariant.found told mounted in
      let here = c.in-Ok.ensures.damage told ((c.loop-done.invariant.along no_draw).mounted told mounted) in
      let part = c.first-part.ensures (c.args.at + c.loop-done.done) 0 (omega arith) (inl refl) in
      let k : ℕ = c.first-part.result.count in
      let out : List ℕ = c.loop-done.out in
      let piece : List ℕ = c.read_part.new.out in
      let size : length piece ≡ k = omega (arith, c.in-Ok.ensures.size, part.within) in
      read_then _ _ _ _ _ _ c.args.at c.loop-done.done k (4096 * c.first-part.result.block + c.first-part.result.start) out piece _ before here (omega (arith, part.at)) c.loop-done.invariant.within
      (take-put_mid c.loop-done.done _ out piece (c.loop-done.done + k) (omega (arith, size)) c.loop-done.invariant.within);
  along = λ drawn.
      let part = c.first-part.ensures c.args.at c.loop-done.done refl (c.loop-done.invariant.front c.loop-done-test.true) in
      along_more g.P.Platform 0 0 _ _ _ _ drawn drawn _ _ (omega arith) (omega (arith, touched_more _ _ _ _ _ _ part))
      (along_then g.P.Platform 0 0 _ 21 _ _ _ drawn drawn drawn _ _ _ (c.loop-done.invariant.along drawn) (c.in-Ok.ensures.calls drawn).along);
  front = λ more.
      let part = c.first-part.ensures c.args.at c.loop-done.done refl (c.loop-done.invariant.front c.loop-done-test.true) in
      elim part.back [ inl last ↦ absurd (omega (arith, last, more, c.loop-done.invariant.within)) | inr full ↦ inr (omega (arith, part.at, full)) ];
  quiet = platform_quiet _ _ (c.in-Ok.ensures.calls no_draw).quiet ∙ c.loop-done.invariant.quiet;
  within =
      let part = c.first-part.ensures (c.args.at + c.loop-done.done) 0 (omega arith) (inl refl) in
      omega (arith, part.within);
}

pub returns-in-Err-clause-calls : goal.returns-in-Err-clause-calls
returns-in-Err-clause-calls g c drawn =
    let part = c.first-part.ensures c.args.at c.loop-done.done refl (c.loop-done.invariant.front c.loop-done-test.true) in
    let few = touched_most c.args.at (c.loop-done.done + c.first-part.result.count) (length c.args.out.now) (omega (arith, part.within, c.loop-done.invariant.within)) in
    calls_more g.P.Platform 0 0 _ _ _ _ drawn drawn _ _ _ (omega arith) (omega (arith, touched_more _ _ _ _ _ _ part, few))
    (calls_then g.P.Platform 0 0 _ 21 _ _ _ drawn drawn drawn _ _ _ _ (c.loop-done.invariant.along drawn) c.loop-done.invariant.quiet refl (c.in-Err.ensures.calls drawn))

pub returns-clause-calls : goal.returns-clause-calls
returns-clause-calls g c drawn =
    let few = touched_most c.args.at c.loop-done.done (length c.args.out.now) (omega (arith, c.loop-done.invariant.within)) in
    record { along = along_more g.P.Platform 0 0 _ _ _ _ drawn drawn _ _ (omega arith) (omega (arith, few)) (c.loop-done.invariant.along drawn); stops = tt; quiet = ap (λ (n : ℕ). counts n drawn.faults 0 0 0) c.loop-done.invariant.quiet; cause = tt }

pub slice_bounds-place-end : goal.slice_bounds-place-end
slice_bounds-place-end g c =
    let part = c.first-part.ensures (c.args.at + c.loop-done.done) 0 (omega arith) (inl refl) in
    omega (arith, part.within)

pub loop-done-smaller : goal.loop-done-smaller
loop-done-smaller g c =
    let part = c.first-part.ensures (c.args.at + c.loop-done.done) 0 (omega arith) (inl refl) in
    omega (arith, part.within, part.some)

pub returns-in-Err-clause-reads : goal.returns-in-Err-clause-reads
returns-in-Err-clause-reads g c told device array at =
    range_stopped _ _ device array (4096 * c.first-part.result.block + c.first-part.result.start) c.args.at c.read_part.new.out [] c.in-Err.stop (c.in-Err.ensures.reads told device array (c.loop-done.invariant.reads told device array at).0)

pub returns-clause-reads : goal.returns-clause-reads
returns-clause-reads g c told device array at =
    let so_far = c.loop-done.invariant.reads told device array at in
    let all : c.loop-done.done ≡ length c.loop-done.out = omega (arith, c.loop-done.invariant.within, c.loop-done-test.false) in
    (so_far.0, sym (take_all c.loop-done.done c.loop-done.out (omega (arith, all))) ∙ so_far.1 ∙ ap (bytes_at (array_of array) c.args.at) all)

pub returns-in-Err-clause-damage : goal.returns-in-Err-clause-damage
returns-in-Err-clause-damage g c told mounted =
    let here = c.in-Err.ensures.damage told ((c.loop-done.invariant.along no_draw).mounted told mounted) in
    record { same = same_then _ _ _ _ _ _ (c.loop-done.invariant.found told mounted).same here.same; found = tt; met = here.met }

pub returns-clause-damage : goal.returns-clause-damage
returns-clause-damage g c told mounted =
    let so_far = c.loop-done.invariant.found told mounted in
    let all : c.loop-done.done ≡ length c.loop-done.out = omega (arith, c.loop-done.invariant.within, c.loop-done-test.false) in
    record { same = so_far.same; found = subst (FindsBytes _ _ c.args.at) (take_all c.loop-done.done c.loop-done.out (omega (arith, all))) so_far.found; met = tt }
