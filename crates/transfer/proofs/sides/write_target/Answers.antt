use Rattle.std.proofs.Common.{◌*◌, refl, arith}
use Rattle.session_calls.specs.Along.{drawn_by}
use Rattle.session_calls.specs.Damage.{IsMounted}
use Rattle.session_calls.proofs.AlongLaws.{along_start}
use Rattle.session_calls.proofs.CallLaws.{along_more}
use Rattle.transfer.specs.Counts.{counts}
use Rattle.transfer.proofs.BlameLaws.{blames_done, blames_halt, of_tape, to_quiet, to_stopped}
use Rattle.transfer.proofs.MovingLaws.{write_sound}
use Rattle.transfer.proofs.HaltLaws.{write_room, write_to}
use Rattle.transfer.proofs.sides.write_target.Goals as goal

pub returns-in-Ok-clause-along : goal.returns-in-Ok-clause-along
returns-in-Ok-clause-along g c =
    let level = c.requires.ready.is_open.level in
    along_more g.Q.Platform 1 1 (2 * c.args.target.now.grove.level) 40 _ _ (drawn_by g.T.Tape c.args.tape.now) (drawn_by g.T.Tape c.write_block.new.tape) _ _ (omega arith) (omega (arith, level)) c.in-Ok.ensures.goes.along

pub returns-in-Err-clause-along : goal.returns-in-Err-clause-along
returns-in-Err-clause-along g c =
    let level = c.requires.ready.is_open.level in
    along_more g.Q.Platform 1 1 (2 * c.args.target.now.grove.level) 40 _ _ (drawn_by g.T.Tape c.args.tape.now) (drawn_by g.T.Tape c.write_block.new.tape) _ _ (omega arith) (omega (arith, level)) c.in-Err.ensures.goes.along

pub returns-in-Ok-clause-blame : goal.returns-in-Ok-clause-blame
returns-in-Ok-clause-blame g c from output ledger =
    let Q = g.Q.Platform in
    let T = g.T.Tape in
    let before = counts from (Q.faults c.args.to.now) (T.faults c.args.tape.now) output ledger in
    let now = counts from (Q.faults c.write_block.new.platform) (T.faults c.write_block.new.tape) output ledger in
    blames_done before now tt (to_quiet _ _ before now (of_tape _ _ _ _ output ledger) refl c.in-Ok.ensures.goes.quiet)

pub returns-in-Err-clause-blame : goal.returns-in-Err-clause-blame
returns-in-Err-clause-blame g c from output ledger =
    let Q = g.Q.Platform in
    let T = g.T.Tape in
    let before = counts from (Q.faults c.args.to.now) (T.faults c.args.tape.now) output ledger in
    let now = counts from (Q.faults c.write_block.new.platform) (T.faults c.write_block.new.tape) output ledger in
    to_stopped _ _ before now c.in-Err.stop (of_tape _ _ _ _ output ledger) refl c.in-Err.ensures.goes.along.fell c.in-Err.ensures.goes.cause

pub returns-in-Err-clause-wrong : goal.returns-in-Err-clause-wrong
returns-in-Err-clause-wrong g c =
    let Q = g.Q.Platform in
    write_to Q.tells (IsMounted (Q.history c.args.to.now).present c.args.target.now) c.requires.ready.mounted (Q.history c.args.to.now).present (Q.history c.write_block.new.platform).present c.args.target.now c.args.block c.in-Err.stop c.in-Err.ensures.any

pub returns-then-head-capacity-clause-along : goal.returns-then-head-capacity-clause-along
returns-then-head-capacity-clause-along g c =
    let drawn = drawn_by g.T.Tape c.args.tape.now in
    along_more g.Q.Platform 0 1 0 40 _ _ drawn drawn _ _ (omega arith) (omega arith) (along_start g.Q.Platform c.args.to.now drawn c.args.target.now c.requires.ready.is_open)

pub returns-then-head-capacity-clause-blame : goal.returns-then-head-capacity-clause-blame
returns-then-head-capacity-clause-blame g c from output ledger = blames_halt _ _ _ refl refl

pub returns-in-Err-clause-leads : goal.returns-in-Err-clause-leads
returns-in-Err-clause-leads g c told there array at = write_sound (g.Q.Platform.history c.write_block.new.platform).present c.write_block.new.session there array c.args.block c.args.content.now c.in-Err.stop (c.in-Err.ensures.leads told there array at)

pub returns-in-Ok-clause-puts : goal.returns-in-Ok-clause-puts
returns-in-Ok-clause-puts g c told = c.in-Ok.ensures.written told (c.requires.ready.mounted told)

pub returns-in-Err-clause-room : goal.returns-in-Err-clause-room
returns-in-Err-clause-room g c is =
    let Q = g.Q.Platform in
    let within = g.met.Q.Platform.has_room c.args.to.now in
    write_room Q g.T.Tape _ _ _ _ c.in-Err.stop c.in-Err.ensures.adds (omega (arith, within, c.if-head-capacity.false)) c.in-Err.ensures.goes.along.capacity cc
