-- Why no device was made, and how the one that another one comes to is opened.
use Rattle.std.specs.Prelude.{◌≡◌, ◌≤◌, ◌+◌, ◌-◌, ℕ, IfErr, IfOk, IsTrue, Option, Result, Some}
use Rattle.sdbt_base.specs.Arrays.{Device, new_device}
use Rattle.sdbt_base.specs.declared.sinks.Sink.{Ghosts as SinkGhosts}
use Rattle.sdbt_base.specs.declared.tapes.Tape.{Ghosts as TapeGhosts}
use Rattle.platform.specs.declared.platforms.Platform.{Ghosts as PlatformGhosts}
use Rattle.page_store.specs.Stands.{Stands}
use Rattle.device_terms.specs.Served.{IsServedImage}
use Rattle.device_course.specs.States.{around}
use Rattle.device_session.specs.Reading.{room_of}
use Rattle.session_calls.specs.Spans.{Spans}
use Rattle.transfer.specs.Counts.{counts}
use Rattle.transfer.specs.Halts.{Blames}
use Rattle.transfer.specs.Moving.{OpensNone}
use Rattle.transfer.specs.Refusals.{IsIdle, IsOn, OpensNot}
use Rattle.transfer.specs.Running.{IsOfOpening, Opens}
use Rattle.transfer.specs.declared.opening.Target.{Target}
use Rattle.device_core.specs.declared.refusals.FormatRefusal.{FormatRefusal}
use Rattle.device_core.specs.declared.refusals.FormatRefusal.TheVariants as format
use Rattle.session_calls.specs.declared.stops.DeviceStop.TheVariants as device
use Rattle.transfer.specs.declared.halts.Halt.{Halt}
use Rattle.transfer.specs.declared.halts.Halt.TheVariants as halts

-- the halt at a device that was not made
abbrev pub halt_of_format : FormatRefusal → Halt
halt_of_format format.NotEmpty = halts.NotEmpty
halt_of_format format.Full = halts.Full
halt_of_format format.Memory = halts.To device.Memory
halt_of_format format.TapeFault = halts.To device.Tape
halt_of_format format.PlatformFault = halts.To device.Platform
halt_of_format format.LedgerFault = halts.To device.Ledger

-- a session was opened on the device that there is, or on a new one of so many blocks and of this order, with room for a node of each level; or none was, and what there was is left, or such a new device came
pub record OpensTarget {R W V : Type 0} (Q : PlatformGhosts R) (T : TapeGhosts W) (L : SinkGhosts V) (to to_now : R) (tape tape_now : W) (ledger ledger_now : V) (blocks order : ℕ) (result : Result Target Halt) : Type 0 where
  pub opened : IfOk result (λ target. Opens Q.tells blocks order (around Q T L to tape ledger) (around Q T L to_now tape_now ledger_now) target.session)
  pub stopped : IfErr result (λ halt. Spans Q.tells (around Q T L to tape ledger) (around Q T L to_now tape_now ledger_now) ⊥)
  pub is_new : IfOk result (λ target. Q.tells → IsTrue target.is_new → (opened : Device) → Stands (Q.history to_now).present (Some opened) → opened ≡ new_device blocks order)
  pub none : IfErr result (λ halt. Q.tells → (there : Option Device) → Stands (Q.history to).present there → IsServedImage (Q.history to).present → OpensNone (Q.history to) (Q.history to_now) there blocks order (Q.capacity to - Q.head to) halt)
  pub adds : IfOk result (λ target. (Q.head to_now ≤ Q.head to + 1) × (Q.capacity to_now ≡ Q.capacity to))
  pub blame : (from output : ℕ) → Blames (counts from (Q.faults to) (T.faults tape) output (L.faults ledger)) (counts from (Q.faults to_now) (T.faults tape_now) output (L.faults ledger_now)) result
  pub stops : IfErr result IsOfOpening
  pub idle : IfOk result (λ target. IsIdle target.session)
  pub room : IfOk result (λ target. 20 ≤ room_of target.session)
  -- a device that there is is only looked at
  pub still : IfOk result (λ target. Q.tells → (IsTrue target.is_new → ⊥) → (Q.history to_now).present ≡ (Q.history to).present)
  pub on : IfOk result (λ target. Q.tells → IsOn (Q.history to).present blocks order target.is_new target.session)
  pub opens_not : IfErr result (λ halt. Q.tells → OpensNot (Q.history to).present (Q.capacity to - Q.head to) halt)
