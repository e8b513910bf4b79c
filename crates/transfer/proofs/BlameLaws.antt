-- Whose count of faults rose in a part of a run, by what its calls tell.
use Rattle.std.proofs.Common.{◌≡◌, ◌≤◌, ◌∙◌, inl, inr, ℕ, Result, Ok, Err, refl, sym, ap, subst, arith}
use Rattle.sdbt_base.specs.Counts as device
use Rattle.sdbt_base.specs.Faults.{Rose}
use Rattle.session_calls.specs.Blame as blame
use Rattle.session_calls.specs.Blame.{IsBlamed}
use Rattle.session_calls.specs.declared.stops.DeviceStop.{DeviceStop}
use Rattle.session_calls.specs.declared.stops.DeviceStop.TheVariants as device_stops
use Rattle.line_run.specs.Stops.{IsSound}
use Rattle.line_run.specs.declared.stop.Stop.TheVariants as stops
use Rattle.line_run.proofs.BlameLaws.{fell_wide}
use Rattle.line_run.proofs.StopLaws.{ArePart, cause_wide, quiet_wide}
use Rattle.transfer.specs.Counts.{Counts, NoneFell, counts, with_from, with_to}
use Rattle.transfer.specs.Halts.{Blames, HasCause, HasLastLine, TellsLine, TellsMoved}
use Rattle.transfer.specs.declared.halts.Halt.{Halt}
use Rattle.transfer.specs.declared.halts.Halt.TheVariants as halts

-- ---- calls on one of the platforms

-- counts that are as they were, but for those of the other platform
pub same_from : (before now : Counts) → now.to ≡ before.to → with_from now ≡ with_from before → now ≡ before
same_from before now other same = λ k. counts ((same k).platform) (other k) ((same k).tape) ((same k).output) ((same k).ledger)

pub same_to : (before now : Counts) → now.from ≡ before.from → with_to now ≡ with_to before → now ≡ before
same_to before now other same = λ k. counts (other k) ((same k).platform) ((same k).tape) ((same k).output) ((same k).ledger)

fell_from : (before now : Counts) → now.to ≡ before.to → device.NoneFell (with_from before) (with_from now) → NoneFell before now
fell_from before now other fell = record { from = fell.platform; to = omega (arith, other); tape = fell.tape; output = fell.output; ledger = fell.ledger }

fell_to : (before now : Counts) → now.from ≡ before.from → device.NoneFell (with_to before) (with_to now) → NoneFell before now
fell_to before now other fell = record { from = omega (arith, other); to = fell.platform; tape = fell.tape; output = fell.output; ledger = fell.ledger }

-- a stop of the first platform
pub from_stopped : {X : Type 0} (one one_now : device.Counts) (before now : Counts) (stop : DeviceStop) → ArePart one one_now (with_from before) (with_from now) → now.to ≡ before.to → device.NoneFell one one_now → blame.HasCause one one_now stop
    → Blames {X = X} before now (Err (halts.From stop))
from_stopped one one_now before now stop part other fell cause = record {
  fell = fell_from before now other (fell_wide one one_now (with_from before) (with_from now) part fell);
  quiet = tt;
  cause = (other, cause_wide {T = Unit {0}} one one_now (with_from before) (with_from now) (Err (stops.Device stop)) part cause);
}

-- of the second
pub to_stopped : {X : Type 0} (one one_now : device.Counts) (before now : Counts) (stop : DeviceStop) → ArePart one one_now (with_to before) (with_to now) → now.from ≡ before.from → device.NoneFell one one_now → blame.HasCause one one_now stop
    → Blames {X = X} before now (Err (halts.To stop))
to_stopped one one_now before now stop part other fell cause = record {
  fell = fell_to before now other (fell_wide one one_now (with_to before) (with_to now) part fell);
  quiet = tt;
  cause = (other, cause_wide {T = Unit {0}} one one_now (with_to before) (with_to now) (Err (stops.Device stop)) part cause);
}

-- calls that were done
pub from_quiet : (one one_now : device.Counts) (before now : Counts) → ArePart one one_now (with_from before) (with_from now) → now.to ≡ before.to → one_now ≡ one → now ≡ before
from_quiet one one_now before now part other same = same_from before now other (quiet_wide one one_now (with_from before) (with_from now) part same)

pub to_quiet : (one one_now : device.Counts) (before now : Counts) → ArePart one one_now (with_to before) (with_to now) → now.from ≡ before.from → one_now ≡ one → now ≡ before
to_quiet one one_now before now part other same = same_to before now other (quiet_wide one one_now (with_to before) (with_to now) part same)

pub fell_not : (here : Counts) → NoneFell here here
fell_not here = record { from = omega arith; to = omega arith; tape = omega arith; output = omega arith; ledger = omega arith }

pub fell_same : (before now : Counts) → now ≡ before → NoneFell before now
fell_same before now same = subst (λ (c : Counts). NoneFell before c) (sym same) (fell_not before)

-- a part that was done
pub blames_done : {X : Type 0} (before now : Counts) (x : X) → now ≡ before → Blames before now (Ok x)
blames_done before now x same = record { fell = fell_same before now same; quiet = same; cause = tt }

-- one that halted at no fault
pub blames_halt : {X : Type 0} (before now : Counts) (halt : Halt) → now ≡ before → HasCause before now halt → Blames {X = X} before now (Err halt)
blames_halt before now halt same cause = record { fell = fell_same before now same; quiet = tt; cause = cause }

-- a part that was done, and then another one
pub blames_then : {X : Type 0} (before mid now : Counts) (result : Result X Halt) → mid ≡ before → Blames mid now result → Blames before now result
blames_then before mid now result same = subst (λ (c : Counts). Blames c now result) same

-- the same of any answer at a halt
pub blames_as : {X Y : Type 0} (before now : Counts) (halt : Halt) → Blames {X = X} before now (Err halt) → Blames {X = Y} before now (Err halt)
blames_as before now halt b = record { fell = b.fell; quiet = tt; cause = b.cause }

-- the first platform failed
pub clear_failed : {X : Type 0} (from from_now to tape output ledger : ℕ) → from ≤ from_now → Rose from from_now → Blames {X = X} (counts from to tape output ledger) (counts from_now to tape output ledger) (Err (halts.From device_stops.Platform))
clear_failed from from_now to tape output ledger least rose = record {
  fell = record { from = least; to = omega arith; tape = omega arith; output = omega arith; ledger = omega arith };
  quiet = tt;
  cause = (refl, (rose, refl));
}

-- counts of which each is as it was
pub same_counts : (from from_now to to_now tape tape_now output output_now ledger ledger_now : ℕ) → from_now ≡ from → to_now ≡ to → tape_now ≡ tape → output_now ≡ output → ledger_now ≡ ledger → counts from_now to_now tape_now output_now ledger_now ≡ counts from to tape output ledger
same_counts from from_now to to_now tape tape_now output output_now ledger ledger_now a b c d e = λ k. counts (a k) (b k) (c k) (d k) (e k)

-- ---- which objects play a part

-- the platform alone
pub of_platform : (platform platform_now tape output ledger : ℕ) → ArePart (device.counts platform 0 0 0 0) (device.counts platform_now 0 0 0 0) (device.counts platform tape 0 output ledger) (device.counts platform_now tape 0 output ledger)
of_platform platform platform_now tape output ledger = record {
  platform = inr (refl, refl);
  tape = inl (refl, refl, refl);
  input = inl (refl, refl, refl);
  output = inl (refl, refl, refl);
  ledger = inl (refl, refl, refl);
}

-- with the tape
pub of_tape : (platform platform_now tape tape_now output ledger : ℕ) → ArePart (device.counts platform tape 0 0 0) (device.counts platform_now tape_now 0 0 0) (device.counts platform tape 0 output ledger) (device.counts platform_now tape_now 0 output ledger)
of_tape platform platform_now tape tape_now output ledger = record {
  platform = inr (refl, refl);
  tape = inr (refl, refl);
  input = inl (refl, refl, refl);
  output = inl (refl, refl, refl);
  ledger = inl (refl, refl, refl);
}

-- and with the ledger
pub of_ledger : (platform platform_now tape tape_now output ledger ledger_now : ℕ) → ArePart (device.counts platform tape 0 0 ledger) (device.counts platform_now tape_now 0 0 ledger_now) (device.counts platform tape 0 output ledger) (device.counts platform_now tape_now 0 output ledger_now)
of_ledger platform platform_now tape tape_now output ledger ledger_now = record {
  platform = inr (refl, refl);
  tape = inr (refl, refl);
  input = inl (refl, refl, refl);
  output = inl (refl, refl, refl);
  ledger = inr (refl, refl);
}

-- ---- a last line

abbrev pub with_output : Counts → ℕ → Counts
with_output c output = record c { output = output }

-- a stop with a last line came at no fault
unsound_quiet : (one now : device.Counts) (stop : DeviceStop) → (IsSound stop → ⊥) → blame.HasCause one now stop → now ≡ one
unsound_quiet one now device_stops.Platform has cause = absurd (has tt)
unsound_quiet one now device_stops.Tape has cause = absurd (has tt)
unsound_quiet one now device_stops.Ledger has cause = absurd (has tt)
unsound_quiet one now device_stops.Memory has cause = absurd (has tt)
unsound_quiet one now device_stops.BadRoot has cause = cause
unsound_quiet one now (device_stops.BadRecord addr) has cause = cause

quiet_at : (before now : Counts) (halt : Halt) → HasLastLine halt → HasCause before now halt → now ≡ before
quiet_at before now halts.NoDevice has cause = cause
quiet_at before now halts.NotEmpty has cause = cause
quiet_at before now halts.Full has cause = cause
quiet_at before now halts.Output has cause = absurd has
quiet_at before now (halts.From stop) has cause = same_from before now cause.0 (unsound_quiet (with_from before) (with_from now) stop has cause.1)
quiet_at before now (halts.To stop) has cause = same_to before now cause.0 (unsound_quiet (with_to before) (with_to now) stop has cause.1)

-- the output failed behind calls that left all counts
output_fault : {X : Type 0} (mid now : Counts) → mid.output ≤ now.output → now ≡ with_output mid now.output → Rose mid.output now.output → Blames {X = X} mid now (Err halts.Output)
output_fault mid now least rest rose = record {
  fell = subst (λ (c : Counts). NoneFell mid c) (sym rest) (record { from = omega arith; to = omega arith; tape = omega arith; output = least; ledger = omega arith });
  quiet = tt;
  cause = (rose, rest);
}

-- a last line that was put, or not
pub blames_told : {X Y : Type 0} (before mid now : Counts) (halt ended : Halt) → mid.output ≤ now.output → now ≡ with_output mid now.output → Blames {X = X} before mid (Err halt) → TellsLine halt ended mid.output now.output → Blames {X = Y} before now (Err ended)
blames_told {X = X} {Y = Y} before mid now halt ended least rest b (inl (same, count)) =
    let all : now ≡ mid = rest ∙ ap (with_output mid) count in
    subst (λ (h : Halt). Blames {X = Y} before now (Err h)) (sym same) (subst (λ (c : Counts). Blames {X = Y} before c (Err halt)) (sym all) (blames_as {X = X} before mid halt b))
blames_told {X = X} {Y = Y} before mid now halt ended least rest b (inr (same, has, rose)) =
    subst (λ (h : Halt). Blames {X = Y} before now (Err h)) (sym same) (blames_then before mid now (Err halts.Output) (quiet_at before mid halt has b.cause) (output_fault mid now least rest rose))

-- the line of what was moved
pub blames_moved : {X : Type 0} (before mid now : Counts) (x : X) (ending : Result (Unit {0}) Halt) → mid.output ≤ now.output → now ≡ with_output mid now.output → Blames before mid (Ok x) → TellsMoved ending mid.output now.output → Blames before now ending
blames_moved before mid now x (Ok done) least rest b count = blames_done before now done (rest ∙ ap (with_output mid) count ∙ b.quiet)
blames_moved before mid now x (Err halt) least rest b (same, rose) =
    subst (λ (h : Halt). Blames {X = Unit {0}} before now (Err h)) (sym same) (blames_then before mid now (Err halts.Output) b.quiet (output_fault mid now least rest rose))
