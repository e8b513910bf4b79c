-- Why no device was made, and whose count rose then.
use Rattle.std.proofs.Common.{◌≡◌, Err}
use Rattle.sdbt_base.specs.Counts as device
use Rattle.sdbt_base.specs.declared.tapes.Tape.{Ghosts as TapeGhosts}
use Rattle.platform.specs.declared.platforms.Platform.{Ghosts as PlatformGhosts}
use Rattle.device_core.specs.Publishing.{IsFormatCause}
use Rattle.device_core.specs.declared.refusals.FormatRefusal.{FormatRefusal}
use Rattle.device_core.specs.declared.refusals.FormatRefusal.TheVariants as format
use Rattle.line_run.proofs.StopLaws.{ArePart}
use Rattle.session_calls.specs.declared.stops.DeviceStop.TheVariants as stops
use Rattle.transfer.specs.Counts.{Counts, with_to}
use Rattle.transfer.specs.Halts.{Blames}
use Rattle.transfer.specs.Opening.{halt_of_format}
use Rattle.transfer.specs.Running.{IsOfOpening}
use Rattle.transfer.specs.declared.halts.Halt.TheVariants as halts
use Rattle.transfer.proofs.BlameLaws.{blames_halt, to_quiet, to_stopped}

pub format_halt : (refusal : FormatRefusal) → IsOfOpening (halt_of_format refusal)
format_halt format.NotEmpty = tt
format_halt format.Full = tt
format_halt format.Memory = tt
format_halt format.TapeFault = tt
format_halt format.PlatformFault = tt
format_halt format.LedgerFault = tt

pub format_blamed : {S R X : Type 0} (P : PlatformGhosts S) (T : TapeGhosts R) (platform platform_now : S) (tape tape_now : R) (one one_now : device.Counts) (before now : Counts) (refusal : FormatRefusal) → ArePart one one_now (with_to before) (with_to now) → now.from ≡ before.from
    → device.NoneFell one one_now → IsFormatCause P T platform platform_now tape tape_now one one_now (Err refusal) → Blames {X = X} before now (Err (halt_of_format refusal))
format_blamed P T platform platform_now tape tape_now one one_now before now format.NotEmpty part other fell cause =
    let same = to_quiet one one_now before now part other cause.2 in
    blames_halt before now halts.NotEmpty same same
format_blamed P T platform platform_now tape tape_now one one_now before now format.Full part other fell cause =
    let same = to_quiet one one_now before now part other cause.3 in
    blames_halt before now halts.Full same same
format_blamed P T platform platform_now tape tape_now one one_now before now format.Memory part other fell cause = to_stopped one one_now before now stops.Memory part other fell cause.3
format_blamed P T platform platform_now tape tape_now one one_now before now format.TapeFault part other fell cause = to_stopped one one_now before now stops.Tape part other fell cause.0
format_blamed P T platform platform_now tape tape_now one one_now before now format.PlatformFault part other fell cause = to_stopped one one_now before now stops.Platform part other fell cause
format_blamed P T platform platform_now tape tape_now one one_now before now format.LedgerFault part other fell cause = to_stopped one one_now before now stops.Ledger part other fell cause.0
