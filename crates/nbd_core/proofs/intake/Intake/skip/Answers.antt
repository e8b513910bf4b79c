use Rattle.std.proofs.Common.{◌≡◌, ◌-◌, ◌∙◌, ap, take, drop, arith, length, length-take, length-drop}
use Rattle.nbd_core.specs.Room.{Room}
use Rattle.nbd_core.proofs.RoomLaws.{room_skip}
use Rattle.nbd_core.proofs.intake.Intake.skip.Goals as goal

pub returns-clause-ahead : goal.returns-clause-ahead
returns-clause-ahead c =
    let s = c.self.inside in
    let is : take (s.to - s.from) (drop s.from s.room.items) ≡ c.args.self.now.ahead = ap (λ (r : Room). r.ahead) c.self.view_is in
    room_skip s.room.items s.from s.to c.args.count (omega (arith, c.requires, ap length is, length-take (s.to - s.from) (drop s.from s.room.items), length-drop s.from s.room.items, c.self.invariant))
    ∙ ap (drop c.args.count) is
