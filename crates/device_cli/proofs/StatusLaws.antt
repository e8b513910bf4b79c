-- Which words an exit status belongs to.
use Rattle.std.proofs.Common.{◌≡◌, ℕ, List, Option, Result, Ok, Err, ◌⊎◌, inl, inr, sym, ◌∙◌, subst, arith}
use Rattle.platform.specs.Image.{Image}
use Rattle.line_run.specs.Stops.{Ending, exit_of}
use Rattle.script_lang.specs.Replies.{Reply}
use Rattle.device_cli.specs.Checks.{IsSaid, status_at}
use Rattle.device_cli.specs.Program.{IsStatusOf}
use Rattle.device_cli.specs.Seizing.{Seizes}
use Rattle.device_cli.specs.Words.{AreRunWords, AreCheckWords, AreWorkWords}
use Rattle.device_cli.specs.Working.{IsIdle, Says, Worked}
use Rattle.device_cli.specs.World.{World}
use Rattle.device_cli.specs.declared.checking.Finding.{Finding}
use Rattle.device_cli.specs.declared.checking.Finding.TheVariants as findings
use Rattle.session_calls.specs.declared.stops.DeviceStop.{DeviceStop}
use Rattle.session_calls.specs.declared.stops.DeviceStop.TheVariants as device
use Rattle.line_run.specs.declared.stop.Stop.{Stop}
use Rattle.line_run.specs.declared.stop.Stop.TheVariants as stops
use Rattle.device_cli.proofs.CompleteLaws.{never_ten}

-- none of three numbers
pub none_of : (n a b c : ℕ) → (n ≡ a → ⊥) → (n ≡ b → ⊥) → (n ≡ c → ⊥) → (n ≡ a) ⊎ (n ≡ b) ⊎ (n ≡ c) → ⊥
none_of n a b c p q r (inl e) = p e
none_of n a b c p q r (inr (inl e)) = q e
none_of n a b c p q r (inr (inr e)) = r e

pub neither : (n a b : ℕ) → (n ≡ a → ⊥) → (n ≡ b → ⊥) → (n ≡ a) ⊎ (n ≡ b) → ⊥
neither n a b p q (inl e) = p e
neither n a b p q (inr e) = q e

pub run_status : (words : List (List ℕ)) (status : ℕ) (ending : Ending) → status ≡ exit_of ending → AreRunWords words → IsStatusOf words status
run_status words status ending is run = record {
  input = λ e. inl run;
  lines = λ e. inl run;
  refused = λ e. absurd (never_ten ending (sym is ∙ e));
}

-- a check serves no line
no_line_checked : (tells : Type 0) (image : Image) (written written_now : Option (List ℕ)) (taken : List ℕ) (left : Option (List ℕ)) (e : Result Finding Stop) → IsSaid tells image written written_now taken left e
    → (status_at e ≡ 6) ⊎ (status_at e ≡ 7) ⊎ (status_at e ≡ 9) → ⊥
no_line_checked tells image written now taken left (Ok findings.NoDevice) said e = none_of 10 6 7 9 (λ x. omega (arith, x)) (λ x. omega (arith, x)) (λ x. omega (arith, x)) e
no_line_checked tells image written now taken left (Ok findings.BadRoot) said e = none_of 8 6 7 9 (λ x. omega (arith, x)) (λ x. omega (arith, x)) (λ x. omega (arith, x)) e
no_line_checked tells image written now taken left (Ok (findings.Broken number value)) said e = none_of 10 6 7 9 (λ x. omega (arith, x)) (λ x. omega (arith, x)) (λ x. omega (arith, x)) e
no_line_checked tells image written now taken left (Ok (findings.Accepted commit live deleted)) said e = none_of 0 6 7 9 (λ x. omega (arith, x)) (λ x. omega (arith, x)) (λ x. omega (arith, x)) e
no_line_checked tells image written now taken left (Err stops.Source) said e = none_of 3 6 7 9 (λ x. omega (arith, x)) (λ x. omega (arith, x)) (λ x. omega (arith, x)) e
no_line_checked tells image written now taken left (Err stops.Sink) said e = none_of 4 6 7 9 (λ x. omega (arith, x)) (λ x. omega (arith, x)) (λ x. omega (arith, x)) e
no_line_checked tells image written now taken left (Err stops.Limit) said e = none_of 12 6 7 9 (λ x. omega (arith, x)) (λ x. omega (arith, x)) (λ x. omega (arith, x)) e
no_line_checked tells image written now taken left (Err (stops.Device device.Platform)) said e = none_of 5 6 7 9 (λ x. omega (arith, x)) (λ x. omega (arith, x)) (λ x. omega (arith, x)) e
no_line_checked tells image written now taken left (Err (stops.Device device.Memory)) said e = none_of 11 6 7 9 (λ x. omega (arith, x)) (λ x. omega (arith, x)) (λ x. omega (arith, x)) e
no_line_checked tells image written now taken left (Err (stops.Device device.Tape)) said e = said.0
no_line_checked tells image written now taken left (Err (stops.Device device.Ledger)) said e = said.0
no_line_checked tells image written now taken left (Err (stops.Device device.BadRoot)) said e = said.0
no_line_checked tells image written now taken left (Err (stops.Device (device.BadRecord addr))) said e = said.0

pub check_status : (tells : Type 0) (image : Image) (written written_now : Option (List ℕ)) (taken : List ℕ) (left : Option (List ℕ)) (words : List (List ℕ)) (status : ℕ) (e : Result Finding Stop)
    → IsSaid tells image written written_now taken left e → status ≡ status_at e → AreCheckWords words → IsStatusOf words status
check_status tells image written now taken left words status e said is check = record {
  input = λ n. inr check;
  lines = λ n. absurd (no_line_checked tells image written now taken left e said (subst (λ (m : ℕ). (m ≡ 6) ⊎ (m ≡ 7) ⊎ (m ≡ 9)) is n));
  refused = λ n. check;
}

-- a seizure takes no input and serves no line
pub seize_status : (tells : Type 0) (head : ℕ) (image : Image) (records : List (List ℕ)) (written written_now : Option (List ℕ)) (words : List (List ℕ)) (status : ℕ) (ending : Ending)
    → Seizes tells head image records written written_now ending → status ≡ exit_of ending → IsStatusOf words status
seize_status tells head image records written now words status ending seizes is = record {
  input = λ n. absurd (untaken ending seizes (subst (λ (m : ℕ). (m ≡ 3) ⊎ (m ≡ 12)) is n));
  lines = λ n. absurd (unserved ending seizes (subst (λ (m : ℕ). (m ≡ 6) ⊎ (m ≡ 7) ⊎ (m ≡ 9)) is n));
  refused = λ n. absurd (never_ten ending (sym is ∙ n));
}
  where
    untaken : (e : Ending) → Seizes tells head image records written now e → (exit_of e ≡ 3) ⊎ (exit_of e ≡ 12) → ⊥
    untaken (Ok done) h e = neither 0 3 12 (λ x. omega (arith, x)) (λ x. omega (arith, x)) e
    untaken (Err stops.Sink) h e = neither 4 3 12 (λ x. omega (arith, x)) (λ x. omega (arith, x)) e
    untaken (Err (stops.Device device.Platform)) h e = neither 5 3 12 (λ x. omega (arith, x)) (λ x. omega (arith, x)) e
    untaken (Err (stops.Device device.BadRoot)) h e = neither 8 3 12 (λ x. omega (arith, x)) (λ x. omega (arith, x)) e
    untaken (Err (stops.Device device.Memory)) h e = neither 11 3 12 (λ x. omega (arith, x)) (λ x. omega (arith, x)) e
    untaken (Err stops.Source) h e = h
    untaken (Err stops.Limit) h e = h
    untaken (Err (stops.Device device.Tape)) h e = h
    untaken (Err (stops.Device device.Ledger)) h e = h
    untaken (Err (stops.Device (device.BadRecord addr))) h e = h

    unserved : (e : Ending) → Seizes tells head image records written now e → (exit_of e ≡ 6) ⊎ (exit_of e ≡ 7) ⊎ (exit_of e ≡ 9) → ⊥
    unserved (Ok done) h e = none_of 0 6 7 9 (λ x. omega (arith, x)) (λ x. omega (arith, x)) (λ x. omega (arith, x)) e
    unserved (Err stops.Sink) h e = none_of 4 6 7 9 (λ x. omega (arith, x)) (λ x. omega (arith, x)) (λ x. omega (arith, x)) e
    unserved (Err (stops.Device device.Platform)) h e = none_of 5 6 7 9 (λ x. omega (arith, x)) (λ x. omega (arith, x)) (λ x. omega (arith, x)) e
    unserved (Err (stops.Device device.BadRoot)) h e = none_of 8 6 7 9 (λ x. omega (arith, x)) (λ x. omega (arith, x)) (λ x. omega (arith, x)) e
    unserved (Err (stops.Device device.Memory)) h e = none_of 11 6 7 9 (λ x. omega (arith, x)) (λ x. omega (arith, x)) (λ x. omega (arith, x)) e
    unserved (Err stops.Source) h e = h
    unserved (Err stops.Limit) h e = h
    unserved (Err (stops.Device device.Tape)) h e = h
    unserved (Err (stops.Device device.Ledger)) h e = h
    unserved (Err (stops.Device (device.BadRecord addr))) h e = h

-- the serving of a script in memory takes no input
stop_untaken : (stop : DeviceStop) → (exit_of (Err (stops.Device stop)) ≡ 3) ⊎ (exit_of (Err (stops.Device stop)) ≡ 12) → ⊥
stop_untaken device.Platform e = neither 5 3 12 (λ x. omega (arith, x)) (λ x. omega (arith, x)) e
stop_untaken device.Tape e = neither 6 3 12 (λ x. omega (arith, x)) (λ x. omega (arith, x)) e
stop_untaken device.Ledger e = neither 7 3 12 (λ x. omega (arith, x)) (λ x. omega (arith, x)) e
stop_untaken device.BadRoot e = neither 8 3 12 (λ x. omega (arith, x)) (λ x. omega (arith, x)) e
stop_untaken (device.BadRecord addr) e = neither 9 3 12 (λ x. omega (arith, x)) (λ x. omega (arith, x)) e
stop_untaken device.Memory e = neither 11 3 12 (λ x. omega (arith, x)) (λ x. omega (arith, x)) e

says_untaken : (seed count : ℕ) (replies : List Reply) (serving : Ending) (written written_now : Option (List ℕ)) (ending : Ending) → Says seed count replies serving written written_now ending → (exit_of ending ≡ 3) ⊎ (exit_of ending ≡ 12) → ⊥
says_untaken seed count replies (Ok done) written now (Ok put) says e = neither 0 3 12 (λ x. omega (arith, x)) (λ x. omega (arith, x)) e
says_untaken seed count replies (Ok done) written now (Err stops.Sink) says e = neither 4 3 12 (λ x. omega (arith, x)) (λ x. omega (arith, x)) e
says_untaken seed count replies (Ok done) written now (Err stops.Source) says e = says
says_untaken seed count replies (Ok done) written now (Err stops.Limit) says e = says
says_untaken seed count replies (Ok done) written now (Err (stops.Device stop)) says e = says
says_untaken seed count replies (Err (stops.Device stop)) written now ending (inl whole) e = stop_untaken stop (subst (λ (x : Ending). (exit_of x ≡ 3) ⊎ (exit_of x ≡ 12)) whole.0 e)
says_untaken seed count replies (Err (stops.Device stop)) written now ending (inr part) e =
    neither 4 3 12 (λ x. omega (arith, x)) (λ x. omega (arith, x)) (subst (λ (x : Ending). (exit_of x ≡ 3) ⊎ (exit_of x ≡ 12)) part.0 e)
says_untaken seed count replies (Err stops.Sink) written now ending says e = stop_untaken device.Memory (subst (λ (x : Ending). (exit_of x ≡ 3) ⊎ (exit_of x ≡ 12)) says.0 e)
says_untaken seed count replies (Err stops.Source) written now ending says e = says
says_untaken seed count replies (Err stops.Limit) written now ending says e = says

pub work_status : (tells : Type 0) (seed count : ℕ) (old new was now : World) (written written_now : Option (List ℕ)) (words : List (List ℕ)) (status : ℕ) (ending : Ending)
    → IsIdle old new written written_now ending ⊎ Worked tells seed count was now written written_now ending → status ≡ exit_of ending → AreWorkWords seed count words → IsStatusOf words status
work_status tells seed count old new was now written written_now words status ending course is work = record {
  input = λ n. absurd (untaken course (subst (λ (m : ℕ). (m ≡ 3) ⊎ (m ≡ 12)) is n));
  lines = λ n. inr (seed, count, work);
  refused = λ n. absurd (never_ten ending (sym is ∙ n));
}
  where
    untaken : IsIdle old new written written_now ending ⊎ Worked tells seed count was now written written_now ending → (exit_of ending ≡ 3) ⊎ (exit_of ending ≡ 12) → ⊥
    untaken (inl i) e = stop_untaken device.Memory (subst (λ (x : Ending). (exit_of x ≡ 3) ⊎ (exit_of x ≡ 12)) i.memory e)
    untaken (inr w) e = says_untaken seed count w.ran.handled.replied.replies w.serving written written_now ending w.says e
