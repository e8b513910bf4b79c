-- What an exit status says, by how the order ended that the words give.
use Rattle.std.proofs.Common.{◌≡◌, ◌≤◌, ◌<◌, ◌^◌, ◌⊎◌, ◌↔◌, ℕ, List, [], Option, Result, Ok, Err, inl, inr, length, refl, sym, ◌∙◌, subst, arith}
use Rattle.sdbt_base.specs.Counts.{Counts, NoneFell}
use Rattle.sdbt_base.specs.Told.{Gave}
use Rattle.platform.specs.Image.{Image}
use Rattle.session_calls.specs.Handed.{IsBlamedAt}
use Rattle.line_run.specs.Stops.{Ending, HasCause, IsBlamedOn, TookUntil, exit_of, status_of}
use Rattle.line_run.proofs.StopLaws.{ArePart, IsPart, cause_wide, done_wide}
use Rattle.device_cli.specs.Checks.{Checks, IsSaid, status_at}
use Rattle.device_cli.specs.Handed.{Handed}
use Rattle.device_cli.specs.Program.{Exits}
use Rattle.device_cli.specs.Run.{IsStatus, Took}
use Rattle.device_cli.specs.Seizing.{Seizes}
use Rattle.device_cli.specs.Words.{AreWords, AreRunWords, AreCheckWords, AreSeizeWords, AreWorkWords}
use Rattle.device_cli.specs.Working.{IsIdle, Worked}
use Rattle.device_cli.specs.World.{World}
use Rattle.device_cli.specs.declared.checking.Finding.{Finding}
use Rattle.device_cli.specs.declared.checking.Finding.TheVariants as findings
use Rattle.session_calls.specs.declared.stops.DeviceStop.TheVariants as device
use Rattle.line_run.specs.declared.stop.Stop.{Stop}
use Rattle.line_run.specs.declared.stop.Stop.TheVariants as stops
use Rattle.device_cli.proofs.CompleteLaws.{is_exit}
use Rattle.device_cli.proofs.RanLaws.{Took-of}
use Rattle.device_cli.proofs.StatusLaws.{check_status, run_status, seize_status, work_status}

-- ---- 2 comes at no form's end

pub never_two : (stop : Stop) → status_of stop ≡ 2 → ⊥
never_two stops.Source is = omega (arith, is)
never_two stops.Sink is = omega (arith, is)
never_two stops.Limit is = omega (arith, is)
never_two (stops.Device device.Platform) is = omega (arith, is)
never_two (stops.Device device.Tape) is = omega (arith, is)
never_two (stops.Device device.Ledger) is = omega (arith, is)
never_two (stops.Device device.BadRoot) is = omega (arith, is)
never_two (stops.Device (device.BadRecord addr)) is = omega (arith, is)
never_two (stops.Device device.Memory) is = omega (arith, is)

not_two : (ending : Ending) → exit_of ending ≡ 2 → ⊥
not_two (Ok done) is = omega (arith, is)
not_two (Err stop) is = never_two stop is

check_not_two : (e : Result Finding Stop) → status_at e ≡ 2 → ⊥
check_not_two (Ok findings.NoDevice) is = omega (arith, is)
check_not_two (Ok findings.BadRoot) is = omega (arith, is)
check_not_two (Ok (findings.Broken number value)) is = omega (arith, is)
check_not_two (Ok (findings.Accepted commit live deleted)) is = omega (arith, is)
check_not_two (Err stop) is = never_two stop is

formed : (words : List (List ℕ)) (status : ℕ) → AreWords words → (status ≡ 2 → ⊥) → (status ≡ 2) ↔ ¬ (AreWords words)
formed words status are other = (λ two. absurd (other two), λ none. absurd (none are))

-- ---- whom a status blames

-- one that names no fault, where no count rose
quiet_at : (status : ℕ) (before now : Counts) → NoneFell before now → now ≡ before → (3 ≤ status → status ≤ 7 → ⊥) → IsBlamedAt status before now
quiet_at status before now fell same apart = record {
  none_fell = fell;
  input = λ e. absurd (apart (omega (arith, e)) (omega (arith, e)));
  output = λ e. absurd (apart (omega (arith, e)) (omega (arith, e)));
  platform = λ e. absurd (apart (omega (arith, e)) (omega (arith, e)));
  tape = λ e. absurd (apart (omega (arith, e)) (omega (arith, e)));
  ledger = λ e. absurd (apart (omega (arith, e)) (omega (arith, e)));
  quiet = λ other. same;
}

stop_blamed : (before now : Counts) (stop : Stop) → NoneFell before now → HasCause before now stop → IsBlamedAt (status_of stop) before now
stop_blamed before now stops.Source fell cause = record { none_fell = fell; input = λ e. cause; output = λ e. absurd (omega (arith, e)); platform = λ e. absurd (omega (arith, e)); tape = λ e. absurd (omega (arith, e)); ledger = λ e. absurd (omega (arith, e)); quiet = λ other. absurd (other (omega arith) (omega arith)) }
stop_blamed before now stops.Sink fell cause = record { none_fell = fell; input = λ e. absurd (omega (arith, e)); output = λ e. cause; platform = λ e. absurd (omega (arith, e)); tape = λ e. absurd (omega (arith, e)); ledger = λ e. absurd (omega (arith, e)); quiet = λ other. absurd (other (omega arith) (omega arith)) }
stop_blamed before now (stops.Device device.Platform) fell cause = record { none_fell = fell; input = λ e. absurd (omega (arith, e)); output = λ e. absurd (omega (arith, e)); platform = λ e. cause; tape = λ e. absurd (omega (arith, e)); ledger = λ e. absurd (omega (arith, e)); quiet = λ other. absurd (other (omega arith) (omega arith)) }
stop_blamed before now (stops.Device device.Tape) fell cause = record { none_fell = fell; input = λ e. absurd (omega (arith, e)); output = λ e. absurd (omega (arith, e)); platform = λ e. absurd (omega (arith, e)); tape = λ e. cause; ledger = λ e. absurd (omega (arith, e)); quiet = λ other. absurd (other (omega arith) (omega arith)) }
stop_blamed before now (stops.Device device.Ledger) fell cause = record { none_fell = fell; input = λ e. absurd (omega (arith, e)); output = λ e. absurd (omega (arith, e)); platform = λ e. absurd (omega (arith, e)); tape = λ e. absurd (omega (arith, e)); ledger = λ e. cause; quiet = λ other. absurd (other (omega arith) (omega arith)) }
stop_blamed before now (stops.Device device.BadRoot) fell cause = quiet_at 8 before now fell cause (λ a b. omega (arith, b))
stop_blamed before now (stops.Device (device.BadRecord addr)) fell cause = quiet_at 9 before now fell cause (λ a b. omega (arith, b))
stop_blamed before now (stops.Device device.Memory) fell cause = quiet_at 11 before now fell cause (λ a b. omega (arith, b))
stop_blamed before now stops.Limit fell cause = quiet_at 12 before now fell cause (λ a b. omega (arith, b))

blamed_at : (before now : Counts) (ending : Ending) → IsBlamedOn before now ending → IsBlamedAt (exit_of ending) before now
blamed_at before now (Ok done) blame = quiet_at 0 before now blame.fell blame.quiet (λ a b. omega (arith, a))
blamed_at before now (Err stop) blame = stop_blamed before now stop blame.fell blame.cause

check_blamed_at : (before now : Counts) (e : Result Finding Stop) → IsBlamedOn before now e → IsBlamedAt (status_at e) before now
check_blamed_at before now (Ok findings.NoDevice) blame = quiet_at 10 before now blame.fell blame.quiet (λ a b. omega (arith, b))
check_blamed_at before now (Ok findings.BadRoot) blame = quiet_at 8 before now blame.fell blame.quiet (λ a b. omega (arith, b))
check_blamed_at before now (Ok (findings.Broken number value)) blame = quiet_at 10 before now blame.fell blame.quiet (λ a b. omega (arith, b))
check_blamed_at before now (Ok (findings.Accepted commit live deleted)) blame = quiet_at 0 before now blame.fell blame.quiet (λ a b. omega (arith, a))
check_blamed_at before now (Err stop) blame = stop_blamed before now stop blame.fell blame.cause

-- and so among all objects, where an order is handed some of them
fell_one : (before now wide wide_now : ℕ) → IsPart before now wide wide_now → before ≤ now → wide ≤ wide_now
fell_one before now wide wide_now (inl (zero, zero_now, same)) fell = omega (arith, same)
fell_one before now wide wide_now (inr (same, same_now)) fell = omega (arith, same, same_now, fell)

blamed_wide : {T : Type 0} (before now wide wide_now : Counts) (result : Result T Stop) → ArePart before now wide wide_now → IsBlamedOn before now result → IsBlamedOn wide wide_now result
blamed_wide before now wide wide_now result part blame = record {
  fell = record {
    platform = fell_one before.platform now.platform wide.platform wide_now.platform part.platform blame.fell.platform;
    tape = fell_one before.tape now.tape wide.tape wide_now.tape part.tape blame.fell.tape;
    input = fell_one before.input now.input wide.input wide_now.input part.input blame.fell.input;
    output = fell_one before.output now.output wide.output wide_now.output part.output blame.fell.output;
    ledger = fell_one before.ledger now.ledger wide.ledger wide_now.ledger part.ledger blame.fell.ledger;
  };
  quiet = done_wide before now wide wide_now result part blame.quiet;
  cause = cause_wide before now wide wide_now result part blame.cause;
}

-- ---- what was taken

check_is : (e : Result Finding Stop) → IsStatus (status_at e)
check_is (Ok findings.NoDevice) = inr (inr (inr (inr (inr (inr (inr (inr (inr (inl refl)))))))))
check_is (Ok findings.BadRoot) = inr (inr (inr (inr (inr (inr (inr (inl refl)))))))
check_is (Ok (findings.Broken number value)) = inr (inr (inr (inr (inr (inr (inr (inr (inr (inl refl)))))))))
check_is (Ok (findings.Accepted commit live deleted)) = inl refl
check_is (Err stop) = is_exit (Err stop)

-- nothing, or less than the limit
none_short : (taken : List ℕ) → taken ≡ [] → length taken < 2 ^ 32
none_short taken none = subst (λ (t : List ℕ). length t < 2 ^ 32) (sym none) (omega arith)

check_took : (tells : Type 0) (image : Image) (written written_now : Option (List ℕ)) (taken : List ℕ) (left : Option (List ℕ)) (e : Result Finding Stop) → IsSaid tells image written written_now taken left e
    → length taken ≤ 2 ^ 32 → Took (status_at e) taken left
check_took tells image written now taken left (Ok findings.NoDevice) said most =
    record { most = most; whole = λ e. absurd (omega (arith, e)); failed = λ e. absurd (omega (arith, e)); refused = λ e. none_short taken said.0.0; limit = λ e. absurd (omega (arith, e)); nothing = λ e. absurd (omega (arith, e)) }
check_took tells image written now taken left (Ok findings.BadRoot) said most =
    record { most = most; whole = λ e. absurd (omega (arith, e)); failed = λ e. absurd (omega (arith, e)); refused = λ e. absurd (omega (arith, e)); limit = λ e. absurd (omega (arith, e)); nothing = λ e. absurd (omega (arith, e)) }
check_took tells image written now taken left (Ok (findings.Broken number value)) said most =
    record { most = most; whole = λ e. absurd (omega (arith, e)); failed = λ e. absurd (omega (arith, e)); refused = λ e. said.0.2.1.short; limit = λ e. absurd (omega (arith, e)); nothing = λ e. absurd (omega (arith, e)) }
check_took tells image written now taken left (Ok (findings.Accepted commit live deleted)) said most =
    record { most = most; whole = λ e. (said.0.2.1.short, said.0.2.1.end); failed = λ e. absurd (omega (arith, e)); refused = λ e. absurd (omega (arith, e)); limit = λ e. absurd (omega (arith, e)); nothing = λ e. absurd (omega (arith, e)) }
check_took tells image written now taken left (Err stops.Source) ((short, holds), same) most =
    record { most = most; whole = λ e. absurd (omega (arith, e)); failed = λ e. short; refused = λ e. absurd (omega (arith, e)); limit = λ e. absurd (omega (arith, e)); nothing = λ e. absurd (omega (arith, e)) }
check_took tells image written now taken left (Err stops.Limit) ((full, holds), same) most =
    record { most = most; whole = λ e. absurd (omega (arith, e)); failed = λ e. absurd (omega (arith, e)); refused = λ e. absurd (omega (arith, e)); limit = λ e. full; nothing = λ e. absurd (omega (arith, e)) }
check_took tells image written now taken left (Err stops.Sink) said most =
    record { most = most; whole = λ e. absurd (omega (arith, e)); failed = λ e. absurd (omega (arith, e)); refused = λ e. absurd (omega (arith, e)); limit = λ e. absurd (omega (arith, e)); nothing = λ e. absurd (omega (arith, e)) }
check_took tells image written now taken left (Err (stops.Device device.Platform)) said most =
    record { most = most; whole = λ e. absurd (omega (arith, e)); failed = λ e. absurd (omega (arith, e)); refused = λ e. absurd (omega (arith, e)); limit = λ e. absurd (omega (arith, e)); nothing = λ e. absurd (omega (arith, e)) }
check_took tells image written now taken left (Err (stops.Device device.Memory)) said most =
    record { most = most; whole = λ e. absurd (omega (arith, e)); failed = λ e. absurd (omega (arith, e)); refused = λ e. absurd (omega (arith, e)); limit = λ e. absurd (omega (arith, e)); nothing = λ e. absurd (omega (arith, e)) }
check_took tells image written now taken left (Err (stops.Device device.Tape)) said most = absurd said.0
check_took tells image written now taken left (Err (stops.Device device.Ledger)) said most = absurd said.0
check_took tells image written now taken left (Err (stops.Device device.BadRoot)) said most = absurd said.0
check_took tells image written now taken left (Err (stops.Device (device.BadRecord addr))) said most = absurd said.0

-- ---- the end of each order

pub run_exits : {S R I O L : Type 0} (words : List (List ℕ)) (status : ℕ) (old new : Handed S R I O L) (ending : Ending) → status ≡ exit_of ending → AreRunWords words
    → IsBlamedOn old.counts new.counts ending → (taken : List ℕ) → Gave old.left taken new.left → TookUntil ending taken new.left → Exits words status old new
run_exits words status old new ending is run blame taken gave took = record {
  is = subst (λ (n : ℕ). IsStatus n) (sym is) (is_exit ending);
  forms = formed words status (inl (inl run)) (λ two. not_two ending (sym is ∙ two));
  of_words = run_status words status ending is run;
  blame = subst (λ (n : ℕ). IsBlamedAt n old.counts new.counts) (sym is) (blamed_at old.counts new.counts ending blame);
  taken = λ no_seizure no_work. (taken, gave, subst (λ (n : ℕ). Took n taken new.left) (sym is) (Took-of ending taken new.left took));
}

pub check_exits : {S R I O L : Type 0} (tells : Type 0) (words : List (List ℕ)) (status : ℕ) (old new : Handed S R I O L) (before now : Counts) (image : Image) (e : Result Finding Stop)
    → status ≡ status_at e → AreCheckWords words → ArePart before now old.counts new.counts → IsBlamedOn before now e
    → Checks tells image old.left new.left old.written new.written e → Exits words status old new
check_exits tells words status old new before now image e is check part blame checks = record {
  is = subst (λ (n : ℕ). IsStatus n) (sym is) (check_is e);
  forms = formed words status (inl (inr check)) (λ two. check_not_two e (sym is ∙ two));
  of_words = check_status tells image old.written new.written checks.taken new.left words status e checks.is is check;
  blame = subst (λ (n : ℕ). IsBlamedAt n old.counts new.counts) (sym is) (check_blamed_at old.counts new.counts e (blamed_wide before now old.counts new.counts e part blame));
  taken = λ no_seizure no_work. (checks.taken, checks.gave, subst (λ (n : ℕ). Took n checks.taken new.left) (sym is) (check_took tells image old.written new.written checks.taken new.left e checks.is checks.most));
}

pub seize_exits : {S R I O L : Type 0} (tells : Type 0) (words records : List (List ℕ)) (status : ℕ) (old new : Handed S R I O L) (before now : Counts) (head : ℕ) (image : Image) (ending : Ending)
    → status ≡ exit_of ending → AreSeizeWords words → ArePart before now old.counts new.counts → IsBlamedOn before now ending
    → Seizes tells head image records old.written new.written ending → Exits words status old new
seize_exits tells words records status old new before now head image ending is asked part blame seizes = record {
  is = subst (λ (n : ℕ). IsStatus n) (sym is) (is_exit ending);
  forms = formed words status (inr (inl asked)) (λ two. not_two ending (sym is ∙ two));
  of_words = seize_status tells head image records old.written new.written words status ending seizes is;
  blame = subst (λ (n : ℕ). IsBlamedAt n old.counts new.counts) (sym is) (blamed_at old.counts new.counts ending (blamed_wide before now old.counts new.counts ending part blame));
  taken = λ no_seizure no_work. absurd (no_seizure asked);
}

pub work_exits : {S R I O L : Type 0} (tells : Type 0) (words : List (List ℕ)) (seed count status : ℕ) (old new : Handed S R I O L) (before now : Counts) (idle idle_now was then : World) (written written_now : Option (List ℕ)) (ending : Ending)
    → status ≡ exit_of ending → AreWorkWords seed count words → ArePart before now old.counts new.counts → IsBlamedOn before now ending
    → IsIdle idle idle_now written written_now ending ⊎ Worked tells seed count was then written written_now ending → Exits words status old new
work_exits tells words seed count status old new before now idle idle_now was then written written_now ending is asked part blame worked = record {
  is = subst (λ (n : ℕ). IsStatus n) (sym is) (is_exit ending);
  forms = formed words status (inr (inr (seed, count, asked))) (λ two. not_two ending (sym is ∙ two));
  of_words = work_status tells seed count idle idle_now was then written written_now words status ending worked is asked;
  blame = subst (λ (n : ℕ). IsBlamedAt n old.counts new.counts) (sym is) (blamed_at old.counts new.counts ending (blamed_wide before now old.counts new.counts ending part blame));
  taken = λ no_seizure no_work. absurd (no_work (seed, count, asked));
}
