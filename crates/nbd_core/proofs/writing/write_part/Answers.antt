use Rattle.std.proofs.Common.{◌≡◌, ◌≢◌, ◌<◌, Err, ◌∙◌, ap, false, inl, inr, length, refl, subst, true, arith}
use Rattle.session_calls.specs.Along.{drawn_by}
use Rattle.nbd_terms.proofs.ArrayOfLaws.{padded_whole}
use Rattle.nbd_core.proofs.ArrayLaws.{adds_behind, adds_none, adds_one, on_stop, writes_patched, writes_unread, writes_whole}
use Rattle.nbd_core.proofs.MeetLaws.{if_meets, limit_before, meets_more, part_cut, read_stops, step_before, write_stops}
use Rattle.nbd_core.proofs.ReadLaws.{part_covers, part_touches}
use Rattle.device_session.specs.Damage.{HasPut}
use Rattle.nbd_core.proofs.FoundLaws.{same_of_call}
use Rattle.nbd_core.proofs.KeptLaws.{pasted, put_part, put_whole, writes_found}
use Rattle.session_calls.proofs.CallLaws.{calls_more, calls_of, calls_then, calls_stopped, platform_quiet}
use Rattle.device_session.specs.Damage.{IsAtLimit}
use Rattle.nbd_core.specs.Meets.{IsStepAt}
use Rattle.nbd_core.proofs.KeptLaws.{left_behind, left_both}
use Rattle.nbd_core.proofs.writing.write_part.Goals as goal

pub returns-then-is_whole-clause-calls : goal.returns-then-is_whole-clause-calls
returns-then-is_whole-clause-calls g c =
    let part = c.args.part in
    calls_more g.P.Platform 1 1 _ _ _ _ _ _ _ _ _ (omega arith) (omega (arith, c.requires.open.level, part_touches part.block part.start part.count c.requires.some part.inside))
    (calls_of g.P.Platform 1 _ _ _ _ _ _ _ _ c.write_block.ensures.goes)

pub returns-then-is_whole-clause-writes : goal.returns-then-is_whole-clause-writes
returns-then-is_whole-clause-writes g c told device array at =
    writes_whole _ _ device array c.args.part.block c.args.part.start c.args.part.count _ _ c.requires.size (c.if-is_whole.ensures.0 refl) c.args.part.inside (c.write_block.ensures.leads told device array at)

pub returns-then-is_whole-clause-adds : goal.returns-then-is_whole-clause-adds
returns-then-is_whole-clause-adds g c = adds_one g.P.Platform g.T.Tape _ _ _ _ _ c.write_block.ensures.adds

pub returns-then-is_whole-clause-left : goal.returns-then-is_whole-clause-left
returns-then-is_whole-clause-left g c = left_both c.write_block.result c.args.session.now c.write_block.new.session c.write_block.ensures.goes.along.blocks c.write_block.ensures.goes.mapped_still c.write_block.ensures.goes.needs_still

pub returns-in-Err-clause-calls : goal.returns-in-Err-clause-calls
returns-in-Err-clause-calls g c =
    let part = c.args.part in
    let d = drawn_by g.T.Tape c.args.tape.now in
    calls_stopped g.P.Platform 0 1 _ _ _ _ d d _ _ c.in-Err.stop (omega arith) (omega (arith, c.requires.open.level, part_touches part.block part.start part.count c.requires.some part.inside))
    (calls_of g.P.Platform 0 _ _ _ _ _ _ _ _ (c.in-Err.ensures.goes d))

pub returns-in-Err-clause-writes : goal.returns-in-Err-clause-writes
returns-in-Err-clause-writes g c told device array at = writes_unread _ _ device array c.args.part.block c.args.part.start c.args.part.count c.read_block.new.out c.args.bytes.now c.in-Err.stop (c.in-Err.ensures.leads told device array at)

pub returns-in-Err-clause-adds : goal.returns-in-Err-clause-adds
returns-in-Err-clause-adds g c =
    let along = (c.in-Err.ensures.goes (drawn_by g.T.Tape c.args.tape.now)).along in
    adds_none _ _ c.in-Err.stop (omega (arith, along.rises, along.adds))

pub returns-in-Err-clause-left : goal.returns-in-Err-clause-left
returns-in-Err-clause-left g c =
    let goes = c.in-Err.ensures.goes (drawn_by g.T.Tape c.args.tape.now) in
    record { blocks = goes.along.blocks; mapped = goes.mapped_still; needs = omega (arith, goes.needs_still) }

pub write_block-requires-2-clause-open : goal.write_block-requires-2-clause-open
write_block-requires-2-clause-open g c = (c.in-Ok.ensures.goes (drawn_by g.T.Tape c.args.tape.now)).along.is_open

pub write_block-requires-2-clause-within : goal.write_block-requires-2-clause-within
write_block-requires-2-clause-within g c = omega (arith, c.requires.within, (c.in-Ok.ensures.goes (drawn_by g.T.Tape c.args.tape.now)).along.blocks)

pub write_block-requires-2-clause-free : goal.write_block-requires-2-clause-free
write_block-requires-2-clause-free g c =
    let along = (c.in-Ok.ensures.goes (drawn_by g.T.Tape c.args.tape.now)).along in
    λ full. c.requires.free (omega (arith, full, along.rises, along.adds, along.capacity))

pub returns-clause-calls : goal.returns-clause-calls
returns-clause-calls g c =
    let d = drawn_by g.T.Tape c.args.tape.now in
    let part = c.args.part in
    let along = (c.in-Ok.ensures.goes d).along in
    let other : part.count ≢ 4096 = λ full. (let no : false ≡ true = c.if-is_whole.ensures.1 full in cc) in
    let less : part.count < 4096 = omega (arith, part.inside, other) in
    calls_more g.P.Platform 1 1 _ _ _ _ _ _ _ _ _ (omega arith)
    (omega (arith, c.requires.open.level, along.is_open.level, part_touches part.block part.start part.count c.requires.some part.inside, part_covers part.block part.start part.count less part.inside))
    (calls_then g.P.Platform 0 1 _ _ _ _ _ d d _ _ _ _ _ along (platform_quiet _ _ (c.in-Ok.ensures.goes d).quiet) refl (calls_of g.P.Platform 1 _ _ _ _ _ _ _ _ c.write_block-2.ensures.goes))

pub returns-clause-writes : goal.returns-clause-writes
returns-clause-writes g c told device array at =
    let led = c.in-Ok.ensures.leads told device array at in
    writes_patched _ _ device array c.args.part.block c.args.part.start c.args.part.count _ c.paste.new.block _
    (record {
      size = omega arith;
      is = λ target offset all done part is before. c.paste.ensures target offset all done part is (led.1 ∙ before (omega (arith, ap length led.1)));
    })
    (c.write_block-2.ensures.leads told device array led.0)

pub returns-clause-adds : goal.returns-clause-adds
returns-clause-adds g c =
    let along = (c.in-Ok.ensures.goes (drawn_by g.T.Tape c.args.tape.now)).along in
    adds_behind _ _ _ _ (omega (arith, along.rises, along.adds)) (adds_one g.P.Platform g.T.Tape _ _ _ _ _ c.write_block-2.ensures.adds)

pub returns-clause-left : goal.returns-clause-left
returns-clause-left g c =
    let along = (c.in-Ok.ensures.goes (drawn_by g.T.Tape c.args.tape.now)).along in
    let goes = c.write_block-2.ensures.goes in
    left_behind c.write_block-2.result c.args.session.now c.read_block.new.session c.write_block-2.new.session along.blocks c.in-Ok.ensures.same.0 along.needs (left_both c.write_block-2.result c.read_block.new.session c.write_block-2.new.session goes.along.blocks goes.mapped_still goes.needs_still)

pub returns-clause-damage : goal.returns-clause-damage
returns-clause-damage g c told mounted =
    let part = c.args.part in
    let call = c.in-Ok.ensures in
    let d = drawn_by g.T.Tape c.args.tape.now in
    let counts = g.met.P.Platform.counts_pages told in
    let along = (call.goes d).along in
    let there = along.mounted told mounted in
    let same = same_of_call g.P.Platform _ _ _ d d _ _ (counts c.args.platform.now) (counts c.read_block.new.platform) told along call.same.1 in
    let whole : length c.read_block.new.out ≡ 4096 = omega arith in
    let size : length c.paste.new.block ≡ 4096 = omega arith in
    writes_found _ _ _ _ _ c.args.bytes.now c.write_block-2.result
    (if_meets (IsStepAt (IsAtLimit c.args.session.now) (g.P.Platform.history c.write_block-2.new.platform).present) _ c.write_block-2.result (λ addr step. inl step)
    (step_before _ _ _ c.write_block-2.result (limit_before c.args.session.now c.read_block.new.session along.blocks call.same.0 call.same.1)
    (write_stops _ (g.P.Platform.history c.read_block.new.platform).present (g.P.Platform.history c.write_block-2.new.platform).present
    c.read_block.new.session c.args.part.block c.write_block-2.result c.write_block-2.ensures.any (told, there))))
    (c.write_block-2.ensures.written told there)
    (λ put. put_part _ _ _ _ _ _ part.block part.start part.count c.args.bytes.now c.read_block.new.out c.paste.new.block c.requires.size whole part.inside c.requires.some along.blocks (call.any (told, mounted)) same
    (pasted part.block part.start part.count c.args.bytes.now c.read_block.new.out c.paste.new.block c.requires.size whole part.inside c.requires.some c.paste.ensures)
    (subst (HasPut _ _ _ _ part.block) (padded_whole c.paste.new.block size) put))

pub returns-then-is_whole-clause-damage : goal.returns-then-is_whole-clause-damage
returns-then-is_whole-clause-damage g c told mounted =
    let part = c.args.part in
    let full = c.if-is_whole.ensures.0 refl in
    let size : length c.args.bytes.now ≡ 4096 = omega (arith, c.requires.size, full) in
    writes_found _ _ _ _ _ c.args.bytes.now c.write_block.result
    (if_meets _ _ c.write_block.result (λ addr step. inl step)
    (write_stops _ (g.P.Platform.history c.args.platform.now).present (g.P.Platform.history c.write_block.new.platform).present
    c.args.session.now c.args.part.block c.write_block.result c.write_block.ensures.any (told, mounted)))
    (c.write_block.ensures.written told mounted)
    (λ put. put_whole _ _ _ _ part.block part.start c.args.bytes.now _ size (omega (arith, part.inside, full)) (padded_whole c.args.bytes.now size) put)

pub returns-in-Err-clause-damage : goal.returns-in-Err-clause-damage
returns-in-Err-clause-damage g c told mounted =
    let part = c.args.part in
    let cut = part_cut part.block part.start part.count (length c.args.bytes.now) c.requires.size c.requires.some part.inside (λ full. let no : false ≡ true = c.if-is_whole.ensures.1 full in cc) in
    meets_more _ _ c.in-Err.stop (λ addr place. inr (cut, place))
    (read_stops _ (g.P.Platform.history c.args.platform.now).present (g.P.Platform.history c.read_block.new.platform).present
    c.args.session.now part.block c.read_block.new.out (Err c.in-Err.stop) c.in-Err.ensures.any (told, mounted))
