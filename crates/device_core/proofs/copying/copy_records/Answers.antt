use Rattle.std.proofs.Common.{set, ◌≡◌, ◌∙◌, ap, refl, ◌+◌, ◌<◌, ◌≤◌, ◌++◌, All, Err, arith, length, get_or, take}
use Rattle.std.proofs.lemmas.Result.{err_from_is_err_and}
use Rattle.std.proofs.lemmas.List.Elements.{All-nil}
use Rattle.platform.proofs.Moments.{During-start, whole-now}
use Rattle.node_codec.specs.declared.body.Entry.{Entry}
use Rattle.page_store.specs.Stands.{IsSound}
use Rattle.page_store.proofs.KeepingLaws.{keeps_idle, keeps_from, keeps_then}
use Rattle.tree_build.proofs.AddingLaws.{adds_none, adds_then, adds_within}
use Rattle.device_core.specs.declared.copying.CopyRefusal.TheVariants.{BadRecord, PlatformFault, TapeFault}
use Rattle.device_core.proofs.CopyingLaws.{IsListed, copying_none, copying_more, copying_all, copying_stops, copying_has, if_err, told_on, sound_still, listed_more, listed_all}
use Rattle.device_core.proofs.copying.copy_records.Goals as goal

pub loop-entry-init : goal.loop-entry-init
loop-entry-init g c =
    let P = g.P.Platform in let old = P.history c.args.platform.now in let drawn = g.T.Tape.drawn c.args.tape.now in
    record {
      are = copying_none P.tells (P.head c.args.platform.now) old.present c.args.entries.now;
      keeps = keeps_idle P.tells drawn drawn old old (λ keys. IsSound old.present) (λ keys. IsSound old.present × All (IsListed keys) (take 0 c.args.entries.now)) refl
          (λ told. During-start old (λ image. image ≡ old.present) refl) (λ told keys kept sound. (sound, All-nil (IsListed keys)));
      beside = adds_none P g.T.Tape c.args.platform.now c.args.tape.now;
      platform_quiet = refl;
      tape_quiet = refl;
    }

pub copy_record-requires-clause-within : goal.copy_record-requires-clause-within
copy_record-requires-clause-within g c =
    let P = g.P.Platform in
    let all = c.loop-entry.invariant in
    let entry = get_or c.loop-entry.entries c.loop-entry.entry-index c.entry-item.result in
    let below : entry.addr < P.head c.args.platform.now = copying_has P.tells (P.head c.args.platform.now) (P.head c.loop-entry.platform) _ _ c.loop-entry.entry-index c.args.entries.now c.loop-entry.entries entry c.entry-item.result
    (λ (e : Entry). e.addr < P.head c.args.platform.now) (omega (arith, c.loop-entry-test.true, c.loop-entry.auto.entries)) refl all.are c.requires.can.below in
    omega (arith, below, all.beside.rises)

pub copy_record-requires-clause-room : goal.copy_record-requires-clause-room
copy_record-requires-clause-room g c =
    let all = c.loop-entry.invariant in
    omega (arith, c.loop-entry-test.true, all.beside.at_most, all.beside.capacity, c.requires.can.room)

pub copy_record-requires-clause-block : goal.copy_record-requires-clause-block
copy_record-requires-clause-block g c =
    let P = g.P.Platform in
    let all = c.loop-entry.invariant in
    let entry = get_or c.loop-entry.entries c.loop-entry.entry-index c.entry-item.result in
    copying_has P.tells (P.head c.args.platform.now) (P.head c.loop-entry.platform) _ _ c.loop-entry.entry-index c.args.entries.now c.loop-entry.entries entry c.entry-item.result
    (λ (e : Entry). e.low < 1048576) (omega (arith, c.loop-entry-test.true, c.loop-entry.auto.entries)) refl all.are c.requires.can.lows

pub returns-in_err-entry-clause-wrong : goal.returns-in_err-entry-clause-wrong
returns-in_err-entry-clause-wrong g c =
    let P = g.P.Platform in
    let all = c.loop-entry.invariant in
    let entry = get_or c.loop-entry.entries c.loop-entry.entry-index c.entry-item.result in
    let p = err_from_is_err_and c.from_residual.result c.from_residual.ensures.1 in
    rw (p.1, p.2) (λ told addr is.
    let same : c.in_err-entry.field-0.0 ≡ BadRecord addr = cc in
    let wrong = c.in_err-entry.ensures.wrong told addr (ap Err same) in
    copying_stops P.tells (P.head c.args.platform.now) (P.head c.loop-entry.platform) (P.history c.args.platform.now).present (P.history c.loop-entry.platform).present c.loop-entry.entry-index addr c.args.entries.now c.loop-entry.entries entry c.entry-item.result
    (omega (arith, c.loop-entry-test.true, c.loop-entry.auto.entries)) refl all.are told wrong.0 wrong.1)

pub returns-in_err-entry-clause-keeps : goal.returns-in_err-entry-clause-keeps
returns-in_err-entry-clause-keeps g c =
    let P = g.P.Platform in
    let p = err_from_is_err_and c.from_residual.result c.from_residual.ensures.1 in
    let all = c.loop-entry.invariant in
    let old = P.history c.args.platform.now in let mid = P.history c.loop-entry.platform in
    keeps_then P.tells (g.T.Tape.drawn c.args.tape.now) (g.T.Tape.drawn c.loop-entry.tape) (g.T.Tape.drawn c.copy_record.new.tape) old mid (P.history c.copy_record.new.platform)
    (λ keys. IsSound old.present) (λ keys. IsSound mid.present × All (IsListed keys) (take c.loop-entry.entry-index c.loop-entry.entries)) (λ keys. IsSound mid.present) _ _
    all.keeps c.copy_record.ensures.keeps (λ told keys kept ready. ready.0) (λ told keys more ready done. if_err c.from_residual.result p.0 _ p.1)

pub returns-in_err-entry-clause-beside : goal.returns-in_err-entry-clause-beside
returns-in_err-entry-clause-beside g c =
    adds_then g.P.Platform g.T.Tape c.loop-entry.entry-index 1 (length c.args.entries.now) c.loop-entry.entry-index 1 (length c.args.entries.now) c.args.platform.now c.loop-entry.platform c.copy_record.new.platform c.args.tape.now c.loop-entry.tape c.copy_record.new.tape
    (omega (arith, c.loop-entry-test.true)) (omega (arith, c.loop-entry-test.true)) c.loop-entry.invariant.beside c.copy_record.ensures.beside

pub returns-in_err-entry-clause-platform_cause : goal.returns-in_err-entry-clause-platform_cause
returns-in_err-entry-clause-platform_cause g c =
    let p = err_from_is_err_and c.from_residual.result c.from_residual.ensures.1 in
    rw (p.1, p.2) (told_on PlatformFault c.in_err-entry.field-0.0 (g.P.Platform.faults c.args.platform.now) (g.P.Platform.faults c.loop-entry.platform) (g.P.Platform.faults c.copy_record.new.platform) c.in_err-entry.ensures.platform_cause c.loop-entry.invariant.platform_quiet)

pub returns-in_err-entry-clause-tape_cause : goal.returns-in_err-entry-clause-tape_cause
returns-in_err-entry-clause-tape_cause g c =
    let p = err_from_is_err_and c.from_residual.result c.from_residual.ensures.1 in
    rw (p.1, p.2) (told_on TapeFault c.in_err-entry.field-0.0 (g.T.Tape.faults c.args.tape.now) (g.T.Tape.faults c.loop-entry.tape) (g.T.Tape.faults c.copy_record.new.tape) c.in_err-entry.ensures.tape_cause c.loop-entry.invariant.tape_quiet)

pub loop-entry-preserved : goal.loop-entry-preserved
loop-entry-preserved g c =
    let P = g.P.Platform in
    let all = c.loop-entry.invariant in
    let index = c.loop-entry.entry-index in
    let entry = get_or c.loop-entry.entries index c.entry-item.result in
    let old = P.history c.args.platform.now in let mid = P.history c.loop-entry.platform in let new = P.history c.copy_record.new.platform in
    let within : index < length c.loop-entry.entries = omega (arith, c.loop-entry-test.true, c.loop-entry.auto.entries) in
    let below : entry.addr < P.head c.args.platform.now = copying_has P.tells (P.head c.args.platform.now) (P.head c.loop-entry.platform) old.present mid.present index c.args.entries.now c.loop-entry.entries entry c.entry-item.result
    (λ (e : Entry). e.addr < P.head c.args.platform.now) within refl all.are c.requires.can.below in
    record {
      are = copying_more P.tells (P.head c.args.platform.now) (P.head c.loop-entry.platform) (P.head c.copy_record.new.platform) old.present mid.present new.present index c.args.entries.now c.loop-entry.entries entry c.in_ok-entry.field-0 c.entry-item.result
          (λ told. (whole-now old).as_many ∙ g.met.P.Platform.counts_pages told c.args.platform.now) below within refl all.are c.in_ok-entry.ensures.copied;
      keeps = keeps_then P.tells (g.T.Tape.drawn c.args.tape.now) (g.T.Tape.drawn c.loop-entry.tape) (g.T.Tape.drawn c.copy_record.new.tape) old mid new
          (λ keys. IsSound old.present) (λ keys. IsSound mid.present × All (IsListed keys) (take index c.loop-entry.entries)) (λ keys. IsSound mid.present)
          (λ keys. IsListed keys c.in_ok-entry.field-0) (λ keys. IsSound new.present × All (IsListed keys) (take (index + 1) (set c.loop-entry.entries index c.in_ok-entry.field-0)))
          all.keeps c.in_ok-entry.ensures.keeps (λ told keys kept ready. ready.0)
          (λ told keys more ready done. (sound_still mid new (c.copy_record.ensures.beside.cell told) ready.0, listed_more keys more c.loop-entry.entries index c.in_ok-entry.field-0 within ready.1 done));
      beside = adds_then P g.T.Tape index 1 (index + 1) index 1 (index + 1) c.args.platform.now c.loop-entry.platform c.copy_record.new.platform c.args.tape.now c.loop-entry.tape c.copy_record.new.tape
          (omega arith) (omega arith) all.beside c.copy_record.ensures.beside;
      platform_quiet = c.in_ok-entry.ensures.platform_cause.done ∙ all.platform_quiet;
      tape_quiet = c.in_ok-entry.ensures.tape_cause.done ∙ all.tape_quiet;
    }

pub returns-clause-copies : goal.returns-clause-copies
returns-clause-copies g c =
    let P = g.P.Platform in
    copying_all P.tells (P.head c.args.platform.now) (P.head c.loop-entry.platform) (P.history c.args.platform.now).present (P.history c.loop-entry.platform).present c.loop-entry.entry-index c.args.entries.now c.loop-entry.entries c.loop-entry.invariant.are
    (omega (arith, c.loop-entry-test.false, c.loop-entry.auto.entries))

pub returns-clause-keeps : goal.returns-clause-keeps
returns-clause-keeps g c =
    let P = g.P.Platform in
    let old = P.history c.args.platform.now in let new = P.history c.loop-entry.platform in
    keeps_from P.tells (g.T.Tape.drawn c.args.tape.now) (g.T.Tape.drawn c.loop-entry.tape) old new (λ keys. IsSound old.present) (λ keys. IsSound old.present)
    (λ keys. IsSound new.present × All (IsListed keys) (take c.loop-entry.entry-index c.loop-entry.entries)) _
    c.loop-entry.invariant.keeps (λ told keys sound. sound)
    (λ told keys more sound done. listed_all (keys ++ more) c.loop-entry.entries c.loop-entry.entry-index (omega (arith, c.loop-entry-test.false, c.loop-entry.auto.entries)) done.1)

pub returns-clause-beside : goal.returns-clause-beside
returns-clause-beside g c =
    let within : c.loop-entry.entry-index ≤ length c.args.entries.now = omega (arith, c.loop-entry.auto.entry-index-end) in
    adds_within g.P.Platform g.T.Tape c.loop-entry.entry-index (length c.args.entries.now) c.loop-entry.entry-index (length c.args.entries.now) c.args.platform.now c.loop-entry.platform c.args.tape.now c.loop-entry.tape within within
    c.loop-entry.invariant.beside

pub returns-clause-platform_cause : goal.returns-clause-platform_cause
returns-clause-platform_cause g c = record { done = c.loop-entry.invariant.platform_quiet; failed = λ is. absurd cc; refused = tt }

pub returns-clause-tape_cause : goal.returns-clause-tape_cause
returns-clause-tape_cause g c = record { done = c.loop-entry.invariant.tape_quiet; failed = λ is. absurd cc; refused = tt }
