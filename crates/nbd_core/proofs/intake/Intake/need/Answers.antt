use Rattle.std.proofs.Common.{arith}
use Rattle.nbd_core.proofs.CameLaws.{came_more}
use Rattle.nbd_core.proofs.intake.Intake.need.Goals as goal

pub returns-in-Err-clause-came : goal.returns-in-Err-clause-came
returns-in-Err-clause-came g c =
    came_more (g.I.Source.left c.args.input.now) (g.I.Source.left c.loop-self.input) (g.I.Source.left c.more.new.input) c.args.self.now c.loop-self.self c.more.new.self c.args.count
    c.loop-self.invariant.came (omega (arith, c.loop-self-test.true, c.count.ensures)) c.in-Err.ensures.takes
