use Rattle.std.proofs.Common.{◌≡◌, ◌⊎◌, inl, inr, None, Ok, Err, refl, sym, subst, arith}
use Rattle.sdbt_base.specs.Faults.{Rose}
use Rattle.line_run.specs.Puts.{no_line}
use Rattle.line_run.specs.Stops.{status_of}
use Rattle.line_run.specs.declared.stop.Stop.{Stop}
use Rattle.device_cli.specs.World.{World, IsLater, start_by, world_by}
use Rattle.session_calls.specs.declared.stops.DeviceStop.{DeviceStop}
use Rattle.session_calls.specs.declared.stops.DeviceStop.TheVariants as device
use Rattle.line_run.specs.declared.stop.Stop.TheVariants as stops
use Rattle.device_cli.proofs.RanLaws.{Ran-refused, Ran-begun, Ran-ended, Ran-other, Ran-after, IsEarly, sound_of}
use Rattle.device_cli.proofs.StillLaws.{still_after}
use Rattle.device_course.specs.States.{IsListed}
use Rattle.device_cli.proofs.CellLaws.{at_looked}
use Rattle.device_course.proofs.KeysLaws.{on_look, on_done, on_then, listed_none, listed_image}
use Rattle.device_terms.proofs.MomentLaws.{one_look}
use Rattle.device_cli.proofs.run.run.Goals as goal

-- why the cell can't be served
early : (stop : DeviceStop) → (stop ≡ device.BadRoot) ⊎ (stop ≡ device.Platform) → IsEarly stop
early stop (inl e) = subst IsEarly (sym e) tt
early stop (inr e) = subst IsEarly (sym e) tt

pub returns-in-Err-clause-ran : goal.returns-in-Err-clause-ran
returns-in-Err-clause-ran g c =
    let P = g.P.Platform in
    let O = g.O.Sink in
    let written = O.written in
    let old : World = start_by P g.T.Tape c.args.platform.now c.args.tape.now in
    let new : World = world_by P g.T.Tape None c.check_cell.new.platform c.args.tape.now in
    let later : IsLater old new = record { capacity = c.check_cell.ensures.reads_cell.capacity; rises = omega (arith, c.check_cell.ensures.reads_cell.head); within = g.met.P.Platform.has_room c.check_cell.new.platform } in
    let stops_at = early c.in-Err.stop c.in-Err.ensures.stops in (
      None,
      Ran-ended P.tells _ old new (O.faults c.last_line.new.output ≡ O.faults c.args.output.now) (Rose (O.faults c.args.output.now) (O.faults c.last_line.new.output)) c.in-Err.stop c.last_line.result
          (g.I.Source.left c.args.input.now) (g.I.Source.left c.args.input.now) (written c.args.output.now) (written c.args.output.now) (written c.last_line.new.output)
          (Ran-refused P.tells _ old new c.in-Err.stop (g.I.Source.left c.args.input.now) (written c.args.output.now) stops_at refl later c.check_cell.ensures.reads_cell.head (λ told. ((c.check_cell.ensures.reads_cell.reads told).by_one, c.check_cell.ensures.reads_cell.changes told)) refl refl (λ told. (c.check_cell.ensures.reads_cell.time told).extends) c.check_cell.ensures.reads_cell.image
          (λ told entry rep. still_after old new entry refl (c.check_cell.ensures.reads_cell.image told) (c.check_cell.ensures.reads_cell.time told) c.check_cell.ensures.reads_cell.head rep)
          (λ told entry rep. sound_of c.in-Err.stop stops_at (λ e. c.in-Err.ensures.bad_root told (cc) rep.served)))
          c.last_line.ensures.stop,
    )

pub returns-in-Device-clause-ran : goal.returns-in-Device-clause-ran
returns-in-Device-clause-ran g c =
    let P = g.P.Platform in
    let O = g.O.Sink in
    let left = g.I.Source.left in
    let written = O.written in
    let old : World = start_by P g.T.Tape c.args.platform.now c.args.tape.now in
    let mid : World = world_by P g.T.Tape c.new-desk.result.session c.check_cell.new.platform c.args.tape.now in
    let new : World = world_by P g.T.Tape c.serve_input.new.desk.session c.serve_input.new.platform c.serve_input.new.tape in
    let later : IsLater old mid = record { capacity = c.check_cell.ensures.reads_cell.capacity; rises = omega (arith, c.check_cell.ensures.reads_cell.head); within = g.met.P.Platform.has_room c.check_cell.new.platform } in (
      c.serve_input.new.desk.session,
      Ran-ended P.tells _ old new (O.faults c.last_line-in-Device.new.output ≡ O.faults c.serve_input.new.output) (Rose (O.faults c.serve_input.new.output) (O.faults c.last_line-in-Device.new.output)) c.in-Device.stop c.last_line-in-Device.result
          (left c.args.input.now) (left c.serve_input.new.input) (written c.args.output.now) (written c.serve_input.new.output) (written c.last_line-in-Device.new.output)
          (Ran-begun P.tells _ old new no_line _ _ _ _ _ (Ran-after P.tells old mid new no_line (Err (stops.Device c.in-Device.stop)) (left c.args.input.now) (left c.serve_input.new.input) (written c.args.output.now) (written c.serve_input.new.output)
          later c.check_cell.ensures.reads_cell.head (λ told. ((c.check_cell.ensures.reads_cell.reads told).by_one, c.check_cell.ensures.reads_cell.changes told)) c.new-desk.ensures.session refl (λ told. (c.check_cell.ensures.reads_cell.time told).extends) c.check_cell.ensures.reads_cell.image
          (λ told entry rep. still_after old mid entry c.new-desk.ensures.session (c.check_cell.ensures.reads_cell.image told) (c.check_cell.ensures.reads_cell.time told) c.check_cell.ensures.reads_cell.head rep)
          (rw c.in-Device.is at c.in-Err-serve_input.ensures.ran)))
          c.last_line-in-Device.ensures.stop,
    )

pub returns-clause-ran : goal.returns-clause-ran
returns-clause-ran g c =
    let P = g.P.Platform in
    let left = g.I.Source.left in
    let written = g.O.Sink.written in
    let old : World = start_by P g.T.Tape c.args.platform.now c.args.tape.now in
    let mid : World = world_by P g.T.Tape c.new-desk.result.session c.check_cell.new.platform c.args.tape.now in
    let new : World = world_by P g.T.Tape c.serve_input.new.desk.session c.serve_input.new.platform c.serve_input.new.tape in
    let later : IsLater old mid = record { capacity = c.check_cell.ensures.reads_cell.capacity; rises = omega (arith, c.check_cell.ensures.reads_cell.head); within = g.met.P.Platform.has_room c.check_cell.new.platform } in (
      c.serve_input.new.desk.session,
      Ran-other P.tells _ old new (Err c.in-Err-serve_input.stop) (left c.args.input.now) (left c.serve_input.new.input) (written c.args.output.now) (written c.serve_input.new.output)
          (λ stop e. c.in_default-stop.not-Device stop (cc))
          (Ran-begun P.tells _ old new no_line _ _ _ _ _ (Ran-after P.tells old mid new no_line (Err c.in-Err-serve_input.stop) (left c.args.input.now) (left c.serve_input.new.input) (written c.args.output.now) (written c.serve_input.new.output)
          later c.check_cell.ensures.reads_cell.head (λ told. ((c.check_cell.ensures.reads_cell.reads told).by_one, c.check_cell.ensures.reads_cell.changes told)) c.new-desk.ensures.session refl (λ told. (c.check_cell.ensures.reads_cell.time told).extends) c.check_cell.ensures.reads_cell.image
          (λ told entry rep. still_after old mid entry c.new-desk.ensures.session (c.check_cell.ensures.reads_cell.image told) (c.check_cell.ensures.reads_cell.time told) c.check_cell.ensures.reads_cell.head rep)
          c.in-Err-serve_input.ensures.ran)),
    )

pub returns-in_default-clause-ran : goal.returns-in_default-clause-ran
returns-in_default-clause-ran g c =
    let P = g.P.Platform in
    let left = g.I.Source.left in
    let written = g.O.Sink.written in
    let old : World = start_by P g.T.Tape c.args.platform.now c.args.tape.now in
    let mid : World = world_by P g.T.Tape c.new-desk.result.session c.check_cell.new.platform c.args.tape.now in
    let new : World = world_by P g.T.Tape c.serve_input.new.desk.session c.serve_input.new.platform c.serve_input.new.tape in
    let later : IsLater old mid = record { capacity = c.check_cell.ensures.reads_cell.capacity; rises = omega (arith, c.check_cell.ensures.reads_cell.head); within = g.met.P.Platform.has_room c.check_cell.new.platform } in (
      c.serve_input.new.desk.session,
      Ran-other P.tells _ old new (Ok tt) (left c.args.input.now) (left c.serve_input.new.input) (written c.args.output.now) (written c.serve_input.new.output)
          (λ stop e. cc)
          (Ran-begun P.tells _ old new no_line _ _ _ _ _ (Ran-after P.tells old mid new no_line (Ok tt) (left c.args.input.now) (left c.serve_input.new.input) (written c.args.output.now) (written c.serve_input.new.output)
          later c.check_cell.ensures.reads_cell.head (λ told. ((c.check_cell.ensures.reads_cell.reads told).by_one, c.check_cell.ensures.reads_cell.changes told)) c.new-desk.ensures.session refl (λ told. (c.check_cell.ensures.reads_cell.time told).extends) c.check_cell.ensures.reads_cell.image
          (λ told entry rep. still_after old mid entry c.new-desk.ensures.session (c.check_cell.ensures.reads_cell.image told) (c.check_cell.ensures.reads_cell.time told) c.check_cell.ensures.reads_cell.head rep)
          c.in_default.ensures.ran)),
    )

pub returns-in-Err-clause-keeps : goal.returns-in-Err-clause-keeps
returns-in-Err-clause-keeps g c = on_look _ _ _ None _ _ _ _ c.check_cell.ensures.reads_cell.image (λ told. one_look _ _ (c.check_cell.ensures.reads_cell.time told) (c.check_cell.ensures.reads_cell.image told)) (λ told keys kept h. tt)

pub returns-in-Device-clause-keeps : goal.returns-in-Device-clause-keeps
returns-in-Device-clause-keeps g c =
    let P = g.P.Platform in
    let none = c.new-desk.ensures.session in
    let looked = on_look P.tells (g.T.Tape.drawn c.args.tape.now) (g.L.Sink.written c.args.ledger.now) None (P.history c.args.platform.now) (P.history c.check_cell.new.platform) (Unit {0}) (IsListed c.new-desk.result.session (P.history c.check_cell.new.platform).present)
    c.check_cell.ensures.reads_cell.image (λ told. one_look _ _ (c.check_cell.ensures.reads_cell.time told) (c.check_cell.ensures.reads_cell.image told))
    (λ told keys kept h. listed_none None c.new-desk.result.session _ keys none (listed_image None _ _ keys (c.check_cell.ensures.reads_cell.image told) h)) in
    on_then _ _ _ _ _ _ _ None c.new-desk.result.session _ _ _ _ _ _ tt looked (on_done _ _ _ _ _ c.new-desk.result.session _ _ _ _ _ _ c.serve_input.ensures.keeps (λ never. absurd cc) (λ keys h. tt)) (λ told entry at. (entry, at_looked _ _ c.new-desk.result.session entry none (c.check_cell.ensures.reads_cell.image told) at))

pub returns-clause-keeps : goal.returns-clause-keeps
returns-clause-keeps g c =
    let P = g.P.Platform in
    let none = c.new-desk.ensures.session in
    let looked = on_look P.tells (g.T.Tape.drawn c.args.tape.now) (g.L.Sink.written c.args.ledger.now) None (P.history c.args.platform.now) (P.history c.check_cell.new.platform) (Unit {0}) (IsListed c.new-desk.result.session (P.history c.check_cell.new.platform).present)
    c.check_cell.ensures.reads_cell.image (λ told. one_look _ _ (c.check_cell.ensures.reads_cell.time told) (c.check_cell.ensures.reads_cell.image told))
    (λ told keys kept h. listed_none None c.new-desk.result.session _ keys none (listed_image None _ _ keys (c.check_cell.ensures.reads_cell.image told) h)) in
    on_then _ _ _ _ _ _ _ None c.new-desk.result.session _ _ _ _ _ _ tt looked (on_done _ _ _ _ _ c.new-desk.result.session _ _ _ _ _ _ c.serve_input.ensures.keeps (λ never. absurd cc) (λ keys h. tt)) (λ told entry at. (entry, at_looked _ _ c.new-desk.result.session entry none (c.check_cell.ensures.reads_cell.image told) at))

pub returns-in_default-clause-keeps : goal.returns-in_default-clause-keeps
returns-in_default-clause-keeps g c =
    let P = g.P.Platform in
    let none = c.new-desk.ensures.session in
    let looked = on_look P.tells (g.T.Tape.drawn c.args.tape.now) (g.L.Sink.written c.args.ledger.now) None (P.history c.args.platform.now) (P.history c.check_cell.new.platform) (Unit {0}) (IsListed c.new-desk.result.session (P.history c.check_cell.new.platform).present)
    c.check_cell.ensures.reads_cell.image (λ told. one_look _ _ (c.check_cell.ensures.reads_cell.time told) (c.check_cell.ensures.reads_cell.image told))
    (λ told keys kept h. listed_none None c.new-desk.result.session _ keys none (listed_image None _ _ keys (c.check_cell.ensures.reads_cell.image told) h)) in
    on_then _ _ _ _ _ _ _ None c.new-desk.result.session _ _ _ _ _ _ tt looked (on_done _ _ _ _ _ c.new-desk.result.session _ _ _ _ _ _ c.in_default.ensures.keeps (λ ok. refl) (λ keys h. tt)) (λ told entry at. (entry, at_looked _ _ c.new-desk.result.session entry none (c.check_cell.ensures.reads_cell.image told) at))

-- a stop that is none of the device's has another status
not_eight : (stop : Stop) → ((device_stop : DeviceStop) → stop ≡ stops.Device device_stop → ⊥) → status_of stop ≡ 8 → ⊥
not_eight stops.Source other is = omega (arith, is)
not_eight stops.Sink other is = omega (arith, is)
not_eight stops.Limit other is = omega (arith, is)
not_eight (stops.Device device_stop) other is = other device_stop refl

pub returns-clause-said : goal.returns-clause-said
returns-clause-said g c = λ told is. absurd (not_eight c.in-Err-serve_input.stop c.in_default-stop.not-Device is)
