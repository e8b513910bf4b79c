-- Laws on counts of faults and on what stops are due to.
use Rattle.std.proofs.Common.{◌≡◌, ◌⊎◌, ◌∙◌, inl, inr, ℕ, ◌≤◌, ◌^◌, List, Option, Result, Ok, Err, length, sym, ap, subst, arith}
use Rattle.std.specs.Prelude.{IfErr, OnOk}
use Rattle.sdbt_base.specs.Faults.{Rose}
use Rattle.line_run.specs.Stops.{HasCause, IsOfLine, TookUntil}
use Rattle.sdbt_base.specs.Counts.{Counts, counts, PlatformRose, TapeRose, InputRose, OutputRose, LedgerRose, NoneFell}
use Rattle.line_run.specs.declared.stop.Stop.{Stop}
use Rattle.line_run.specs.declared.stop.Stop.TheVariants as stops
use Rattle.session_calls.specs.declared.stops.DeviceStop.TheVariants as device

pub NoneFell-nothing : (a : Counts) → NoneFell a a
NoneFell-nothing a = grind arith

pub NoneFell-then : (a b c : Counts) → NoneFell a b → NoneFell b c → NoneFell a c
NoneFell-then a b c p q = grind arith

-- calls that left the counts, and then a stop
pub HasCause-then : (before mid now : Counts) (stop : Stop) → mid ≡ before → HasCause mid now stop → HasCause before now stop
HasCause-then before mid now stop same = subst (λ (c : Counts). HasCause c now stop) same

-- a count that is not there did not rise
unrisen : Rose 0 0 → ⊥
unrisen (inl more) = omega (arith, more)
unrisen (inr full) = omega (arith, full)

-- where an object plays no part its count is 0 before and after, and stays; or it is there too
abbrev pub IsPart : ℕ → ℕ → ℕ → ℕ → Type 0
IsPart before now wide wide_now = ((before ≡ 0) × (now ≡ 0) × (wide_now ≡ wide)) ⊎ ((before ≡ wide) × (now ≡ wide_now))

rose_wide : (before now wide wide_now : ℕ) → IsPart before now wide wide_now → Rose before now → Rose wide wide_now
rose_wide before now wide wide_now (inl (zero, zero_now, same)) rose = absurd (unrisen (subst (λ (n : ℕ). Rose 0 n) zero_now (subst (λ (n : ℕ). Rose n now) zero rose)))
rose_wide before now wide wide_now (inr (same, same_now)) rose = subst (λ (n : ℕ). Rose wide n) same_now (subst (λ (n : ℕ). Rose n now) same rose)

-- the counts of some of these objects
pub record ArePart (before now wide wide_now : Counts) : Type 0 where
  pub platform : IsPart before.platform now.platform wide.platform wide_now.platform
  pub tape : IsPart before.tape now.tape wide.tape wide_now.tape
  pub input : IsPart before.input now.input wide.input wide_now.input
  pub output : IsPart before.output now.output wide.output wide_now.output
  pub ledger : IsPart before.ledger now.ledger wide.ledger wide_now.ledger

same_wide : (before now wide wide_now : ℕ) → IsPart before now wide wide_now → now ≡ before → wide_now ≡ wide
same_wide before now wide wide_now (inl (zero, zero_now, same)) quiet = same
same_wide before now wide wide_now (inr (same, same_now)) quiet = sym same_now ∙ (quiet ∙ same)

-- counts among some objects that are as they were are so among all
pub quiet_wide : (before now wide wide_now : Counts) → ArePart before now wide wide_now → now ≡ before → wide_now ≡ wide
quiet_wide before now wide wide_now part quiet = λ k. counts
    (same_wide before.platform now.platform wide.platform wide_now.platform part.platform (ap (λ (c : Counts). c.platform) quiet) k)
    (same_wide before.tape now.tape wide.tape wide_now.tape part.tape (ap (λ (c : Counts). c.tape) quiet) k)
    (same_wide before.input now.input wide.input wide_now.input part.input (ap (λ (c : Counts). c.input) quiet) k)
    (same_wide before.output now.output wide.output wide_now.output part.output (ap (λ (c : Counts). c.output) quiet) k)
    (same_wide before.ledger now.ledger wide.ledger wide_now.ledger part.ledger (ap (λ (c : Counts). c.ledger) quiet) k)

-- one that rose among some is the one that rose among all
platform_wide : (before now wide wide_now : Counts) → ArePart before now wide wide_now → PlatformRose before now → PlatformRose wide wide_now
platform_wide before now wide wide_now part rose = (
  rose_wide before.platform now.platform wide.platform wide_now.platform part.platform rose.0,
  λ k. counts wide_now.platform
      (same_wide before.tape now.tape wide.tape wide_now.tape part.tape (ap (λ (c : Counts). c.tape) rose.1) k)
      (same_wide before.input now.input wide.input wide_now.input part.input (ap (λ (c : Counts). c.input) rose.1) k)
      (same_wide before.output now.output wide.output wide_now.output part.output (ap (λ (c : Counts). c.output) rose.1) k)
      (same_wide before.ledger now.ledger wide.ledger wide_now.ledger part.ledger (ap (λ (c : Counts). c.ledger) rose.1) k),
)

tape_wide : (before now wide wide_now : Counts) → ArePart before now wide wide_now → TapeRose before now → TapeRose wide wide_now
tape_wide before now wide wide_now part rose = (
  rose_wide before.tape now.tape wide.tape wide_now.tape part.tape rose.0,
  λ k. counts
      (same_wide before.platform now.platform wide.platform wide_now.platform part.platform (ap (λ (c : Counts). c.platform) rose.1) k)
      wide_now.tape
      (same_wide before.input now.input wide.input wide_now.input part.input (ap (λ (c : Counts). c.input) rose.1) k)
      (same_wide before.output now.output wide.output wide_now.output part.output (ap (λ (c : Counts). c.output) rose.1) k)
      (same_wide before.ledger now.ledger wide.ledger wide_now.ledger part.ledger (ap (λ (c : Counts). c.ledger) rose.1) k),
)

input_wide : (before now wide wide_now : Counts) → ArePart before now wide wide_now → InputRose before now → InputRose wide wide_now
input_wide before now wide wide_now part rose = (
  rose_wide before.input now.input wide.input wide_now.input part.input rose.0,
  λ k. counts
      (same_wide before.platform now.platform wide.platform wide_now.platform part.platform (ap (λ (c : Counts). c.platform) rose.1) k)
      (same_wide before.tape now.tape wide.tape wide_now.tape part.tape (ap (λ (c : Counts). c.tape) rose.1) k)
      wide_now.input
      (same_wide before.output now.output wide.output wide_now.output part.output (ap (λ (c : Counts). c.output) rose.1) k)
      (same_wide before.ledger now.ledger wide.ledger wide_now.ledger part.ledger (ap (λ (c : Counts). c.ledger) rose.1) k),
)

output_wide : (before now wide wide_now : Counts) → ArePart before now wide wide_now → OutputRose before now → OutputRose wide wide_now
output_wide before now wide wide_now part rose = (
  rose_wide before.output now.output wide.output wide_now.output part.output rose.0,
  λ k. counts
      (same_wide before.platform now.platform wide.platform wide_now.platform part.platform (ap (λ (c : Counts). c.platform) rose.1) k)
      (same_wide before.tape now.tape wide.tape wide_now.tape part.tape (ap (λ (c : Counts). c.tape) rose.1) k)
      (same_wide before.input now.input wide.input wide_now.input part.input (ap (λ (c : Counts). c.input) rose.1) k)
      wide_now.output
      (same_wide before.ledger now.ledger wide.ledger wide_now.ledger part.ledger (ap (λ (c : Counts). c.ledger) rose.1) k),
)

ledger_wide : (before now wide wide_now : Counts) → ArePart before now wide wide_now → LedgerRose before now → LedgerRose wide wide_now
ledger_wide before now wide wide_now part rose = (
  rose_wide before.ledger now.ledger wide.ledger wide_now.ledger part.ledger rose.0,
  λ k. counts
      (same_wide before.platform now.platform wide.platform wide_now.platform part.platform (ap (λ (c : Counts). c.platform) rose.1) k)
      (same_wide before.tape now.tape wide.tape wide_now.tape part.tape (ap (λ (c : Counts). c.tape) rose.1) k)
      (same_wide before.input now.input wide.input wide_now.input part.input (ap (λ (c : Counts). c.input) rose.1) k)
      (same_wide before.output now.output wide.output wide_now.output part.output (ap (λ (c : Counts). c.output) rose.1) k)
      wide_now.ledger,
)

-- a cause among some objects is one among all
pub cause_wide : {T : Type 0} (before now wide wide_now : Counts) (result : Result T Stop) → ArePart before now wide wide_now → IfErr result (HasCause before now) → IfErr result (HasCause wide wide_now)
cause_wide before now wide wide_now (Ok done) part cause = tt
cause_wide before now wide wide_now (Err stops.Source) part cause = input_wide before now wide wide_now part cause
cause_wide before now wide wide_now (Err stops.Sink) part cause = output_wide before now wide wide_now part cause
cause_wide before now wide wide_now (Err stops.Limit) part cause = quiet_wide before now wide wide_now part cause
cause_wide before now wide wide_now (Err (stops.Device device.Platform)) part cause = platform_wide before now wide wide_now part cause
cause_wide before now wide wide_now (Err (stops.Device device.Tape)) part cause = tape_wide before now wide wide_now part cause
cause_wide before now wide wide_now (Err (stops.Device device.Ledger)) part cause = ledger_wide before now wide wide_now part cause
cause_wide before now wide wide_now (Err (stops.Device device.BadRoot)) part cause = quiet_wide before now wide wide_now part cause
cause_wide before now wide wide_now (Err (stops.Device (device.BadRecord addr))) part cause = quiet_wide before now wide wide_now part cause
cause_wide before now wide wide_now (Err (stops.Device device.Memory)) part cause = quiet_wide before now wide wide_now part cause

-- and so is what a run tells that was done
pub done_wide : {T : Type 0} (before now wide wide_now : Counts) (result : Result T Stop) → ArePart before now wide wide_now → OnOk result (now ≡ before) → OnOk result (wide_now ≡ wide)
done_wide before now wide wide_now (Ok done) part quiet = quiet_wide before now wide wide_now part quiet
done_wide before now wide wide_now (Err stop) part quiet = tt

-- a stop that a line led to says no more of what was taken than that it is within the limit
pub TookUntil-line : (stop : Stop) (taken : List ℕ) (left : Option (List ℕ)) → IsOfLine stop → length taken ≤ 2 ^ 32 → TookUntil {T = Unit {0}} (Err stop) taken left
TookUntil-line stops.Source taken left line most = absurd line
TookUntil-line stops.Limit taken left line most = absurd line
TookUntil-line stops.Sink taken left line most = record { most = most; whole = tt; failed = λ e. cc; limit = λ e. cc }
TookUntil-line (stops.Device stop) taken left line most = record { most = most; whole = tt; failed = λ e. cc; limit = λ e. cc }
