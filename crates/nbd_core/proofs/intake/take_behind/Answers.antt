use Rattle.std.proofs.Common.{take, arith, length-take}
use Rattle.nbd_core.proofs.RoomLaws.{room_more}
use Rattle.nbd_core.proofs.intake.take_behind.Goals as goal

pub returns-in-Ok-clause-taken : goal.returns-in-Ok-clause-taken
returns-in-Ok-clause-taken g c = (
  take c.in-Ok.count c.take.new.into,
  omega (arith, length-take c.in-Ok.count c.take.new.into, c.in-Ok.ensures.bound),
  c.in-Ok.ensures.taken,
  room_more c.args.room.now c.take.new.into c.args.at _ c.in-Ok.count (omega (arith, c.requires)) (omega (arith, c.in-Ok.ensures.bound)),
)
