-- Whose count of faults rose in a part of a run, by what its calls tell.
use Rattle.std.proofs.Common.{◌≡◌, ◌≤◌, inl, inr, ℕ, Result, Err, refl, sym, subst, arith}
use Rattle.sdbt_base.specs.Counts.{Counts, NoneFell, counts}
use Rattle.sdbt_base.specs.Faults.{Rose}
use Rattle.line_run.specs.Stops.{IsBlamedOn}
use Rattle.line_run.specs.declared.stop.Stop.{Stop}
use Rattle.line_run.specs.declared.stop.Stop.TheVariants as stops
use Rattle.line_run.proofs.StopLaws.{ArePart, IsPart, NoneFell-nothing, cause_wide, done_wide}

-- counts that are as they were did not fall
pub fell_not : (before now : Counts) → now ≡ before → NoneFell before now
fell_not before now same = subst (λ (c : Counts). NoneFell before c) (sym same) (NoneFell-nothing before)

-- ---- among some of the objects, and among all

least_wide : (before now wide wide_now : ℕ) → IsPart before now wide wide_now → before ≤ now → wide ≤ wide_now
least_wide before now wide wide_now (inl (zero, zero_now, same)) fell = omega (arith, same)
least_wide before now wide wide_now (inr (same, same_now)) fell = omega (arith, same, same_now, fell)

pub fell_wide : (before now wide wide_now : Counts) → ArePart before now wide wide_now → NoneFell before now → NoneFell wide wide_now
fell_wide before now wide wide_now part fell = record {
  platform = least_wide before.platform now.platform wide.platform wide_now.platform part.platform fell.platform;
  tape = least_wide before.tape now.tape wide.tape wide_now.tape part.tape fell.tape;
  input = least_wide before.input now.input wide.input wide_now.input part.input fell.input;
  output = least_wide before.output now.output wide.output wide_now.output part.output fell.output;
  ledger = least_wide before.ledger now.ledger wide.ledger wide_now.ledger part.ledger fell.ledger;
}

pub blamed_wide : {T : Type 0} (before now wide wide_now : Counts) (result : Result T Stop) → ArePart before now wide wide_now → IsBlamedOn before now result → IsBlamedOn wide wide_now result
blamed_wide before now wide wide_now result part blamed = record {
  fell = fell_wide before now wide wide_now part blamed.fell;
  quiet = done_wide before now wide wide_now result part blamed.quiet;
  cause = cause_wide before now wide wide_now result part blamed.cause;
}

-- ---- one part after another

-- calls that left the counts, and then a part
pub blamed_then : {T : Type 0} (before mid now : Counts) (result : Result T Stop) → mid ≡ before → IsBlamedOn mid now result → IsBlamedOn before now result
blamed_then before mid now result same = subst (λ (c : Counts). IsBlamedOn c now result) same

-- the same of a part that isn't handed the input, of which a take had told no fault
pub blamed_behind : {T : Type 0} (before : Counts) (platform platform_now tape tape_now input input_now output output_now ledger ledger_now : ℕ) (result : Result T Stop) → counts platform tape input output ledger ≡ before → input_now ≡ input
    → IsBlamedOn (counts platform tape 0 output ledger) (counts platform_now tape_now 0 output_now ledger_now) result → IsBlamedOn before (counts platform_now tape_now input_now output_now ledger_now) result
blamed_behind before platform platform_now tape tape_now input input_now output output_now ledger ledger_now result quiet taken blamed =
    let part : ArePart (counts platform tape 0 output ledger) (counts platform_now tape_now 0 output_now ledger_now) (counts platform tape input output ledger) (counts platform_now tape_now input_now output_now ledger_now)
    = record { platform = inr (refl, refl); tape = inr (refl, refl); input = inl (refl, refl, taken); output = inr (refl, refl); ledger = inr (refl, refl) } in
    blamed_then before (counts platform tape input output ledger) (counts platform_now tape_now input_now output_now ledger_now) result quiet (blamed_wide _ _ _ _ result part blamed)

-- calls that left the counts, and then a take that failed
pub blamed_take : {T : Type 0} (before : Counts) (platform tape input input_now output ledger : ℕ) → counts platform tape input output ledger ≡ before → input ≤ input_now → Rose input input_now
    → IsBlamedOn {T = T} before (counts platform tape input_now output ledger) (Err stops.Source)
blamed_take before platform tape input input_now output ledger quiet fell rose =
    blamed_then before (counts platform tape input output ledger) (counts platform tape input_now output ledger) (Err stops.Source) quiet (record {
      fell = record { platform = omega arith; tape = omega arith; input = fell; output = omega arith; ledger = omega arith };
      quiet = tt;
      cause = (rose, refl);
    })
