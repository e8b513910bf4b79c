use Rattle.std.specs.Prelude.{◌≡◌, ◌*◌, List, ◌+◌, Some, length, vec_capacity}
use Rattle.device_course.specs.States.{around}
use Rattle.device_session.specs.Open.{blocks_of}
use Rattle.nbd_core.specs.Exchanges.{Exchange}
use Rattle.nbd_core.proofs.ServedLaws.{Replied}
use Rattle.nbd_core.specs.Turns.{IsFrom}
use Rattle.session_calls.specs.Blame.{counts_of}
use Rattle.session_calls.specs.Carrying.{Carries}
use Rattle.nbd_core.specs.Changes.{changes_in}
use Rattle.sdbt_base.specs.Rises.{MayRiseBy}
use Rattle.nbd_core.specs.Rooms.{KeepsRoom}
use Rattle.nbd_core.proofs.serving.serve.Given as goal

abbrev pub invariant-requests : goal.invariant-requests
invariant-requests g l =
    let P = g.P.Platform in
    let T = g.T.Tape in
    let L = g.L.Sink in
    record {
      exchanges : List Exchange;
      replied : Replied (IsFrom P.tells (around P T L l.fn.platform l.fn.tape l.fn.ledger) l.fn.first) P.tells (around P T L l.fn.platform l.fn.tape l.fn.ledger) (around P T L l.platform l.tape l.ledger) l.session (4096 * blocks_of l.fn.first) (g.I.Source.left l.fn.input) (g.I.Source.left l.input) l.fn.intake l.intake (g.O.Sink.written l.fn.output) (g.O.Sink.written l.output) exchanges;
      carries : Carries P.tells (around P T L l.fn.platform l.fn.tape l.fn.ledger) (around P T L l.platform l.tape l.ledger) l.fn.first (Some l.session) (Unit {0});
      changes : P.tells → MayRiseBy (changes_in (4096 * blocks_of l.fn.first) exchanges) (P.changes l.fn.platform) (P.changes l.platform);
      room : KeepsRoom 33554448 (length l.fn.desk.reply.items) (length l.desk.reply.items) (vec_capacity l.fn.desk.reply) (vec_capacity l.desk.reply);
      open_yet : g.I.Source.ends l.input ≡ g.I.Source.ends l.fn.input;
      quiet : counts_of P T g.I.Source g.O.Sink L l.platform l.tape l.input l.output l.ledger ≡ counts_of P T g.I.Source g.O.Sink L l.fn.platform l.fn.tape l.fn.input l.fn.output l.fn.ledger;
    }

abbrev pub decreases-requests : goal.decreases-requests
decreases-requests g l = length l.intake.ahead + l.intake.left
