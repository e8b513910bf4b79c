use Rattle.std.specs.Prelude.{◌/◌}
use Rattle.std.proofs.Common.{◌≡◌, ◌<◌, ◌*◌, ◌+◌, ◌++◌, ◌-◌, ◌∙◌, ℕ, List, [], ap, sym, inl, refl, subst, length, length-append, length-take, take, arith}
use Rattle.std.proofs.lemmas.List.{take-append-le, take_all}
use Rattle.byte_arrays.specs.Parts.{IsAtPart, IsPart}
use Rattle.byte_arrays.specs.Ranges.{touched_blocks}
use Rattle.byte_arrays.proofs.RangeLaws.{part_block, part_last, part_next}
use Rattle.nbd_lang.specs.declared.replies.Outcome.TheVariants.{Done}
use Rattle.nbd_lang.specs.declared.requests.RequestKind.TheVariants.{Write}
use Rattle.session_calls.specs.Along.{drawn_by}
use Rattle.session_calls.proofs.AlongLaws.{along_start, along_then, pages_still}
use Rattle.nbd_core.proofs.ArrayLaws.{front_of, range_halted, range_step, wrote_range}
use Rattle.nbd_core.proofs.BlameLaws.{blame_done, blame_take, blame_then, cause_wide, same_blocks, same_fell}
use Rattle.session_calls.proofs.CallLaws.{along_more, platform_quiet, tape_quiet}
use Rattle.nbd_core.proofs.ShortLaws.{done_no_space, stop_no_space}
use Rattle.nbd_core.proofs.CameLaws.{came_nothing, length-gone}
use Rattle.nbd_core.proofs.DamageLaws.{HasReply, adds_reply, stop_given}
use Rattle.nbd_core.proofs.DataLaws.{gone_then, gone_skip, data_whole, data_short, data_broken, data_then}
use Rattle.nbd_core.specs.Found.{HasWritten}
use Rattle.nbd_core.proofs.KeptLaws.{written_all, written_start, written_then, wrote_first}
use Rattle.nbd_core.proofs.MeetLaws.{part_meets}
use Rattle.nbd_core.specs.Meets.{MayMeet}
use Rattle.nbd_core.specs.Reads.{reads_at}
use Rattle.nbd_core.proofs.ReadLaws.{write_more, write_with}
use Rattle.nbd_core.proofs.PartLaws.{part_front, part_touched}
use Rattle.nbd_core.proofs.writing.write_range.Goals as goal

pub loop-done-init : goal.loop-done-init
loop-done-init g c = record {
  parts = 0;
  at = λ some. inl (refl, refl);
  along = along_more g.P.Platform 0 0 0 _ _ _ _ _ _ _ (omega arith) (omega arith) (along_start g.P.Platform _ (drawn_by g.T.Tape c.args.tape.now) _ c.requires.open);
  gone = [];
  came = came_nothing _ _ _;
  all = refl;
  within = omega arith;
  found = λ told mounted. written_start _ _ c.args.at (c.args.at / 4096);
  head = omega arith;
  last = λ none. ap (λ (n : ℕ). length (touched_blocks c.args.at n)) (sym none);
  wrote = λ told device array at all long front. at;
  platform = refl;
  tape = refl;
  open_yet = refl;
  input = refl;
}

pub returns-in-Ok-false-clause-along : goal.returns-in-Ok-false-clause-along
returns-in-Ok-false-clause-along g c =
    let so_far = c.loop-done.invariant in
    let at = so_far.at c.loop-done-test.true in
    let part = c.first-part.ensures c.args.at c.loop-done.done refl (part_front c.args.at c.loop-done.done so_far.parts at) in
    let whole : c.loop-done.done + (c.args.count - c.loop-done.done) ≡ c.args.count = omega (arith, so_far.within) in
    let few : so_far.parts < length (touched_blocks c.args.at c.args.count) =
    subst (λ (n : ℕ). so_far.parts < length (touched_blocks c.args.at n)) whole (part_touched c.args.at (c.loop-done.done + (c.args.count - c.loop-done.done)) c.loop-done.done _ _ _ so_far.parts part at) in
    let most = write_with c.args.at _ c.args.count c.loop-done.done _ _ _ whole part in
    along_more g.P.Platform so_far.parts (length (touched_blocks c.args.at c.args.count)) _ _ _ _ _ _ _ _ (omega (arith, few)) (omega (arith, most)) so_far.along

pub returns-in-Err-clause-along : goal.returns-in-Err-clause-along
returns-in-Err-clause-along g c =
    let so_far = c.loop-done.invariant in
    let at = so_far.at c.loop-done-test.true in
    let part = c.first-part.ensures c.args.at c.loop-done.done refl (part_front c.args.at c.loop-done.done so_far.parts at) in
    let whole : c.loop-done.done + (c.args.count - c.loop-done.done) ≡ c.args.count = omega (arith, so_far.within) in
    let few : so_far.parts < length (touched_blocks c.args.at c.args.count) =
    subst (λ (n : ℕ). so_far.parts < length (touched_blocks c.args.at n)) whole (part_touched c.args.at (c.loop-done.done + (c.args.count - c.loop-done.done)) c.loop-done.done _ _ _ so_far.parts part at) in
    let most = write_with c.args.at _ c.args.count c.loop-done.done _ _ _ whole part in
    along_more g.P.Platform so_far.parts (length (touched_blocks c.args.at c.args.count)) _ _ _ _ _ _ _ _ (omega (arith, few)) (omega (arith, most)) so_far.along

pub returns-clause-along : goal.returns-clause-along
returns-clause-along g c =
    let so_far = c.loop-done.invariant in
    let done : c.loop-done.done ≡ c.args.count = omega (arith, so_far.within, c.loop-done-test.false) in
    along_more g.P.Platform so_far.parts (length (touched_blocks c.args.at c.args.count)) _ _ _ _ _ _ _ _ (omega (arith, so_far.last done)) (omega (arith, ap (λ (n : ℕ). reads_at Write c.args.at n) done)) so_far.along

pub returns-clause-bytes : goal.returns-clause-bytes
returns-clause-bytes g c =
    let so_far = c.loop-done.invariant in
    let done : c.loop-done.done ≡ c.args.count = omega (arith, so_far.within, c.loop-done-test.false) in
    let long : length so_far.gone ≡ c.args.count = omega (arith, so_far.all, done) in
    let count = so_far.last done in
    data_whole _ _ _ _ c.args.count _ so_far.gone _ so_far.came long (
      (λ told device array at.
          wrote_range _ _ _ _ _ device array c.args.at c.args.count so_far.parts so_far.gone Done (omega (arith, count)) (inl refl) (λ same. omega (arith, count)) so_far.head so_far.along.needs
          (so_far.wrote told device array at so_far.gone long (take_all c.loop-done.done so_far.gone (omega (arith, so_far.all))))),
      (λ told mounted. written_all _ _ _ _ c.args.at so_far.parts c.args.count so_far.gone long (so_far.last done) (so_far.found told mounted)),
    )

pub write_part-written-requires-clause-open : goal.write_part-written-requires-clause-open
write_part-written-requires-clause-open g c = c.loop-done.invariant.along.is_open

pub write_part-written-requires-clause-within : goal.write_part-written-requires-clause-within
write_part-written-requires-clause-within g c =
    let so_far = c.loop-done.invariant in
    let part = c.first-part.ensures c.args.at c.loop-done.done refl (part_front c.args.at c.loop-done.done so_far.parts (so_far.at c.loop-done-test.true)) in
    omega (arith, part.at, part.within, part.some, c.requires.within, so_far.along.blocks)

pub write_part-written-requires-clause-free : goal.write_part-written-requires-clause-free
write_part-written-requires-clause-free g c =
    let so_far = c.loop-done.invariant in
    let there = so_far.at c.loop-done-test.true in
    let part = c.first-part.ensures c.args.at c.loop-done.done refl (part_front c.args.at c.loop-done.done so_far.parts there) in
    let all : c.loop-done.done + (c.args.count - c.loop-done.done) ≡ c.args.count = omega (arith, so_far.within) in
    let few = subst (λ (n : ℕ). so_far.parts < length (touched_blocks c.args.at n)) all (part_touched c.args.at (c.loop-done.done + (c.args.count - c.loop-done.done)) c.loop-done.done _ _ _ so_far.parts part there) in
    λ full. absurd (omega (arith, full, so_far.along.adds, so_far.along.capacity, c.requires.free, few))

pub write_part-written-requires-clause-some : goal.write_part-written-requires-clause-some
write_part-written-requires-clause-some g c = (c.first-part.ensures c.args.at c.loop-done.done refl (part_front c.args.at c.loop-done.done c.loop-done.invariant.parts (c.loop-done.invariant.at c.loop-done-test.true))).some

pub returns-in-Ok-false-clause-bytes : goal.returns-in-Ok-false-clause-bytes
returns-in-Ok-false-clause-bytes g c =
    let so_far = c.loop-done.invariant in
    let part = c.first-part.ensures c.args.at c.loop-done.done refl (part_front c.args.at c.loop-done.done so_far.parts (so_far.at c.loop-done-test.true)) in
    let end = c.in-Ok-false.ensures.end c.in-Ok-false.field-0-test in
    data_broken _ _ _ _ c.args.count _ so_far.gone
    (gone_then _ _ _ _ _ _ c.args.count c.first-part.result.count so_far.gone _ so_far.came (omega (arith, so_far.all, part.within, so_far.within)) c.in-Ok-false.ensures.came)
    (omega (arith, so_far.all, part.within, so_far.within, end.1, length-append so_far.gone c.need.new.self.ahead)) end.0 ((λ told device array at. tt), (λ told mounted. tt))

pub returns-in-Err-clause-bytes : goal.returns-in-Err-clause-bytes
returns-in-Err-clause-bytes g c =
    let so_far = c.loop-done.invariant in
    let part = c.first-part.ensures c.args.at c.loop-done.done refl (part_front c.args.at c.loop-done.done so_far.parts (so_far.at c.loop-done-test.true)) in
    data_short _ _ _ _ c.args.count _ so_far.gone c.in-Err.stop
    (gone_then _ _ _ _ _ _ c.args.count c.first-part.result.count so_far.gone _ so_far.came (omega (arith, so_far.all, part.within, so_far.within)) c.in-Err.ensures.came)
    (omega (arith, so_far.all, part.within, so_far.within, c.in-Err.ensures.short, length-append so_far.gone c.need.new.self.ahead)) c.in-Err.ensures.input c.in-Err.ensures.limit ((λ told device array at. tt), (λ told mounted. tt))

pub loop-done-smaller : goal.loop-done-smaller
loop-done-smaller g c =
    let so_far = c.loop-done.invariant in
    let part = c.first-part.ensures c.args.at c.loop-done.done refl (part_front c.args.at c.loop-done.done so_far.parts (so_far.at c.loop-done-test.true)) in
    omega (arith, part.within, part.some, so_far.within)

pub overflow_sub-count-in-Err-written : goal.overflow_sub-count-in-Err-written
overflow_sub-count-in-Err-written g c =
    let so_far = c.loop-done.invariant in
    let part = c.first-part.ensures c.args.at c.loop-done.done refl (part_front c.args.at c.loop-done.done so_far.parts (so_far.at c.loop-done-test.true)) in
    omega (arith, part.within, so_far.within)

pub loop-done-preserved : goal.loop-done-preserved
loop-done-preserved g c =
    let so_far = c.loop-done.invariant in
    let at = so_far.at c.loop-done-test.true in
    let part = c.first-part.ensures c.args.at c.loop-done.done refl (part_front c.args.at c.loop-done.done so_far.parts at) in
    let k : ℕ = c.first-part.result.count in
    let there = c.in-Ok-true.ensures.there c.in-Ok-true.field-0-test in
    let d = drawn_by g.T.Tape in
    record {
      parts = so_far.parts + 1;
      at = λ more. part_next c.args.at (c.loop-done.done + (c.args.count - c.loop-done.done)) c.loop-done.done _ _ _ so_far.parts part at (omega (arith, more, so_far.within));
      along = along_more g.P.Platform (so_far.parts + 1) (so_far.parts + 1) _ _ _ _ _ _ _ _ (omega arith) (write_more c.args.at _ c.loop-done.done _ _ k part)
          (along_then g.P.Platform so_far.parts 1 _ _ _ _ _ (d c.args.tape.now) (d c.loop-done.tape) (d c.write_part-written.new.tape) _ _ _ so_far.along c.write_part-written.ensures.calls.along);
      gone = so_far.gone ++ take k c.need.new.self.ahead;
      came = gone_skip _ _ _ c.need.new.self c.skip.new.self c.args.count k so_far.gone
          (gone_then _ _ _ _ _ _ c.args.count k so_far.gone _ so_far.came (omega (arith, so_far.all, part.within, so_far.within)) c.in-Ok-true.ensures.came)
          c.skip.ensures.ahead c.skip.ensures.left;
      all = omega (arith, so_far.all, length-gone so_far.gone c.need.new.self.ahead k there);
      within = omega (arith, part.within, so_far.within);
      found = λ told mounted.
          let piece : List ℕ = take k c.need.new.self.ahead in
          let block : ℕ = c.first-part.result.block in
          let is : take k c.ahead.result.now ≡ piece = ap (take k) c.ahead.ensures in
          let size : length piece ≡ k = omega (arith, length-take k c.need.new.self.ahead, there) in
          let here = subst (HasWritten _ _ _ _ (4096 * block + c.first-part.result.start)) is (c.in-Ok.ensures.damage told (so_far.along.mounted told mounted)) in
          let block_is : block ≡ c.args.at / 4096 + so_far.parts = part_block c.args.at (c.loop-done.done + (c.args.count - c.loop-done.done)) c.loop-done.done block _ k so_far.parts part at in
          written_then _ _ _ _ _ _ c.args.at so_far.parts block c.first-part.result.start so_far.gone piece so_far.along.blocks block_is
          (omega (arith, part.at, part.within, part.some, c.requires.within)) (omega (arith, part.at, so_far.all)) (omega (arith, size, part.inside)) (omega (arith, size, part.some))
          (subst (λ (n : ℕ). IsAtPart c.args.at n so_far.parts) (sym so_far.all) at) (so_far.found told mounted) here;
      head = omega (arith, so_far.head, c.in-Ok.ensures.adds);
      last = λ done.
          let whole : c.loop-done.done + (c.args.count - c.loop-done.done) ≡ c.args.count = omega (arith, so_far.within) in
          subst (λ (n : ℕ). length (touched_blocks c.args.at n) ≡ so_far.parts + 1) whole
          (part_last c.args.at (c.loop-done.done + (c.args.count - c.loop-done.done)) c.loop-done.done _ _ _ so_far.parts part at (omega (arith, done, so_far.within)));
      wrote = λ told device array there all long front.
          let whole : c.loop-done.done + (c.args.count - c.loop-done.done) ≡ c.args.count = omega (arith, so_far.within) in
          range_step (g.P.Platform.history c.write_part-written.new.platform).present c.write_part-written.new.session device array c.args.at c.args.count c.loop-done.done so_far.parts _ _ k so_far.gone (take k c.ahead.result.now) all
          (subst (λ (n : ℕ). IsPart c.args.at n c.loop-done.done c.first-part.result.block c.first-part.result.start k) whole part) at so_far.all long (front ∙ ap (λ (l : List ℕ). so_far.gone ++ take k l) (sym c.ahead.ensures))
          (c.in-Ok.ensures.writes told device _ (so_far.wrote told device array there all long (front_of c.loop-done.done k so_far.gone _ all so_far.all front)));
      platform = platform_quiet _ _ c.in-Ok.ensures.calls.quiet ∙ so_far.platform;
      tape = tape_quiet _ _ c.in-Ok.ensures.calls.quiet ∙ so_far.tape;
      open_yet = c.in-Ok-true.ensures.ended.open_yet c.in-Ok-true.field-0-test ∙ so_far.open_yet;
      input = c.in-Ok-true.ensures.cause ∙ so_far.input;
    }

pub returns-in-Err-written-clause-along : goal.returns-in-Err-written-clause-along
returns-in-Err-written-clause-along g c =
    let so_far = c.loop-done.invariant in
    let at = so_far.at c.loop-done-test.true in
    let part = c.first-part.ensures c.args.at c.loop-done.done refl (part_front c.args.at c.loop-done.done so_far.parts at) in
    let whole : c.loop-done.done + (c.args.count - c.loop-done.done) ≡ c.args.count = omega (arith, so_far.within) in
    let few : so_far.parts < length (touched_blocks c.args.at c.args.count) =
    subst (λ (n : ℕ). so_far.parts < length (touched_blocks c.args.at n)) whole (part_touched c.args.at (c.loop-done.done + (c.args.count - c.loop-done.done)) c.loop-done.done _ _ _ so_far.parts part at) in
    let d = drawn_by g.T.Tape in
    along_more g.P.Platform (so_far.parts + 1) (length (touched_blocks c.args.at c.args.count)) _ _ _ _ _ _ _ _ (omega (arith, few)) (write_with c.args.at _ c.args.count c.loop-done.done _ _ _ whole part)
    (along_then g.P.Platform so_far.parts 1 _ _ _ _ _ (d c.args.tape.now) (d c.loop-done.tape) (d c.write_part-written.new.tape) _ _ _ so_far.along c.in-Err-written.ensures.calls.along)

pub returns-in-Err-written-clause-blame : goal.returns-in-Err-written-clause-blame
returns-in-Err-written-clause-blame g c rest =
    let so_far = c.loop-done.invariant in
    let calls = c.in-Err-written.ensures.calls in
    let P = g.P.Platform in
    let T = g.T.Tape in
    let i = g.I.Source.faults c.need.new.input in
    let before = record rest { platform = P.faults c.loop-done.platform; tape = T.faults c.loop-done.tape } in
    let now = record rest { platform = P.faults c.write_part-written.new.platform; tape = T.faults c.write_part-written.new.tape } in
    blame_then _ (record before { input = i }) _ _ (same_blocks rest _ _ _ _ _ _ so_far.platform so_far.tape (c.in-Ok-true.ensures.cause ∙ so_far.input))
    (c.give_up.ensures.blame before now (record { platform = calls.along.fell.platform; tape = calls.along.fell.tape; input = omega arith; output = omega arith; ledger = omega arith })
    (cause_wide rest _ _ _ _ c.in-Err-written.stop calls.stops calls.cause))

pub returns-in-Ok-false-clause-blame : goal.returns-in-Ok-false-clause-blame
returns-in-Ok-false-clause-blame g c rest =
    let so_far = c.loop-done.invariant in
    let same = same_blocks rest _ _ _ _ _ _ so_far.platform so_far.tape (c.in-Ok-false.ensures.cause ∙ so_far.input) in
    record { fell = same_fell _ _ same; quiet = tt; cause = same }

pub returns-in-Err-clause-blame : goal.returns-in-Err-clause-blame
returns-in-Err-clause-blame g c rest =
    let so_far = c.loop-done.invariant in
    let blocks = record rest { platform = g.P.Platform.faults c.loop-done.platform; tape = g.T.Tape.faults c.loop-done.tape } in
    blame_then _ (record blocks { input = g.I.Source.faults c.loop-done.input }) _ _ (same_blocks rest _ _ _ _ _ _ so_far.platform so_far.tape so_far.input)
    (blame_take blocks _ _ c.in-Err.stop c.in-Err.ensures.fell c.in-Err.ensures.cause)

pub returns-clause-blame : goal.returns-clause-blame
returns-clause-blame g c rest =
    let so_far = c.loop-done.invariant in
    blame_done _ _ _ (same_blocks rest _ _ _ _ _ _ so_far.platform so_far.tape so_far.input)

pub returns-in-Err-written-clause-bytes : goal.returns-in-Err-written-clause-bytes
returns-in-Err-written-clause-bytes g c =
    let so_far = c.loop-done.invariant in
    let at = so_far.at c.loop-done-test.true in
    let part = c.first-part.ensures c.args.at c.loop-done.done refl (part_front c.args.at c.loop-done.done so_far.parts at) in
    let k : ℕ = c.first-part.result.count in
    let there = c.in-Ok-true.ensures.there c.in-Ok-true.field-0-test in
    let piece : List ℕ = take k c.need.new.self.ahead in
    let whole : c.loop-done.done + (c.args.count - c.loop-done.done) ≡ c.args.count = omega (arith, so_far.within) in
    let few : so_far.parts < length (touched_blocks c.args.at c.args.count) =
    subst (λ (n : ℕ). so_far.parts < length (touched_blocks c.args.at n)) whole (part_touched c.args.at (c.loop-done.done + (c.args.count - c.loop-done.done)) c.loop-done.done _ _ _ so_far.parts part at) in
    let size : length (so_far.gone ++ piece) ≡ c.loop-done.done + k = omega (arith, so_far.all, length-gone so_far.gone c.need.new.self.ahead k there) in
    data_then _ _ _ _ c.skip.new.self _ c.args.count (c.args.count - (c.loop-done.done + k)) (so_far.gone ++ piece) _ _ _
    (gone_skip _ _ _ c.need.new.self c.skip.new.self c.args.count k so_far.gone
    (gone_then _ _ _ _ _ _ c.args.count k so_far.gone _ so_far.came (omega (arith, so_far.all, part.within, so_far.within)) c.in-Ok-true.ensures.came)
    c.skip.ensures.ahead c.skip.ensures.left)
    (omega (arith, size, part.within, so_far.within))
    (λ after long_all nothing. (
      (λ told device array at_first.
          let all : List ℕ = (so_far.gone ++ piece) ++ after in
          range_halted _ _ _ _ _ _ device array c.args.at c.args.count so_far.parts c.first-part.result.block c.first-part.result.start k [] all c.in-Err-written.stop _ c.give_up.ensures.outcome few so_far.head c.in-Err-written.ensures.adds
          (omega (arith, so_far.along.needs, c.in-Err-written.ensures.left.needs)) long_all
          (λ whole_is.
          c.in-Err-written.ensures.writes told device _
          (so_far.wrote told device array at_first all whole_is (take-append-le c.loop-done.done (so_far.gone ++ piece) after (omega (arith, size)) ∙ take-append-le c.loop-done.done so_far.gone piece (omega (arith, so_far.all)) ∙ take_all c.loop-done.done so_far.gone (omega (arith, so_far.all)))))),
      (λ told mounted.
          let here : IsPart c.args.at c.args.count c.loop-done.done c.first-part.result.block c.first-part.result.start k = subst (λ (n : ℕ). IsPart c.args.at n c.loop-done.done c.first-part.result.block c.first-part.result.start k) whole part in
          let long : length (take k c.ahead.result.now) ≡ k = ap (λ (l : List ℕ). length (take k l)) c.ahead.ensures ∙ omega (arith, length-take k c.need.new.self.ahead, there) in
          let P = g.P.Platform in
          let all : List ℕ = (so_far.gone ++ piece) ++ after in
          let counts = g.met.P.Platform.counts_pages told in
          let calls = c.in-Err-written.ensures.calls in
          let head = λ (has : HasReply c.in-Err-written.stop). adds_reply _ _ c.in-Err-written.stop has c.in-Err-written.ensures.adds in
          let front : take c.loop-done.done all ≡ so_far.gone =
          take-append-le c.loop-done.done (so_far.gone ++ piece) after (omega (arith, size)) ∙ take-append-le c.loop-done.done so_far.gone piece (omega (arith, so_far.all)) ∙ take_all c.loop-done.done so_far.gone (omega (arith, so_far.all)) in
          let some = λ (has : HasReply c.in-Err-written.stop).
          wrote_first (P.history c.args.platform.now).present (P.history c.loop-done.platform).present (P.history c.write_part-written.new.platform).present c.args.session.now c.loop-done.session c.write_part-written.new.session c.args.at c.loop-done.done so_far.parts so_far.gone all
          front so_far.all (omega (arith, part.some, size, length-append (so_far.gone ++ piece) after)) at (pages_still (P.history c.loop-done.platform) (P.history c.write_part-written.new.platform) _ _ (calls.along.cell told).extends (counts c.loop-done.platform) (counts c.write_part-written.new.platform) (head has))
          (omega (arith, counts c.args.platform.now, counts c.write_part-written.new.platform, head has, so_far.head)) (so_far.found told mounted) c.in-Err-written.ensures.left in
          stop_given (MayMeet Write c.loop-done.session (P.history c.write_part-written.new.platform).present c.args.at c.args.count) _ _ _ _ c.in-Err-written.stop c.give_up.result
          (λ has. (c.loop-done.session, some has, tt)) (λ has addr met. (c.loop-done.session, some has, (addr, met)))
          (part_meets _ c.loop-done.session c.args.at c.args.count c.loop-done.done _ _ k _ c.in-Err-written.stop here long (c.in-Err-written.ensures.damage told (so_far.along.mounted told mounted))) c.give_up.ensures.outcome),
    ))
    c.give_up.ensures.bytes

pub returns-in-Err-written-clause-room : goal.returns-in-Err-written-clause-room
returns-in-Err-written-clause-room g c = stop_no_space c.in-Err-written.stop _ c.give_up.ensures.outcome

pub returns-clause-room : goal.returns-clause-room
returns-clause-room g c = done_no_space
