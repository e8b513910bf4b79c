-- The exit status of a run, and what it says.
use Rattle.std.proofs.Common.{◌≡◌, ◌≤◌, ◌∙◌, ◌⊎◌, ℕ, List, [], ◌∷◌, Result, Ok, Err, inl, inr, refl, sym, ap, subst, length, arith}
use Rattle.std.specs.Prelude.{◌==◌, false, map}
use Rattle.sdbt_base.specs.Counts.{Counts, NoneFell, counts}
use Rattle.line_run.specs.Stops.{IsBlamedOn}
use Rattle.line_run.specs.declared.stop.Stop.{Stop}
use Rattle.line_run.specs.declared.stop.Stop.TheVariants as stops
use Rattle.line_run.proofs.StopLaws.{ArePart, cause_wide, quiet_wide}
use Rattle.session_calls.specs.declared.stops.DeviceStop.TheVariants as device
use Rattle.line_run.proofs.BlameLaws.{fell_wide}
use Rattle.volumes.specs.Halts.{Blames, HasCause, HasLastLine, TellsLine, status_at}
use Rattle.session_calls.specs.Handed.{IsBlamedAt}
use Rattle.volumes.specs.Program.{IsStatus}
use Rattle.volumes.specs.declared.halts.Halt.{Halt}
use Rattle.volumes.specs.declared.halts.Halt.TheVariants as halts

pub status_is : (halt : Halt) → IsStatus (status_at halt)
status_is halts.NoDevice = inr (inr (inr (inr (inr (inr (inr (inr (inr (inl refl)))))))))
status_is halts.BadDirectory = inr (inr (inr (inr (inr (inr (inr (inr (inr (inl refl)))))))))
status_is (halts.Stopped stops.Source) = inr (inr (inl refl))
status_is (halts.Stopped stops.Sink) = inr (inr (inr (inl refl)))
status_is (halts.Stopped stops.Limit) = inr (inr (inr (inr (inr (inr (inr (inr (inr (inr (inr (refl)))))))))))
status_is (halts.Stopped (stops.Device device.Platform)) = inr (inr (inr (inr (inl refl))))
status_is (halts.Stopped (stops.Device device.Tape)) = inr (inr (inr (inr (inr (inl refl)))))
status_is (halts.Stopped (stops.Device device.Ledger)) = inr (inr (inr (inr (inr (inr (inl refl))))))
status_is (halts.Stopped (stops.Device device.Memory)) = inr (inr (inr (inr (inr (inr (inr (inr (inr (inr (inl refl))))))))))
status_is (halts.Stopped (stops.Device device.BadRoot)) = inr (inr (inr (inr (inr (inr (inr (inl refl)))))))
status_is (halts.Stopped (stops.Device (device.BadRecord addr))) = inr (inr (inr (inr (inr (inr (inr (inr (inl refl))))))))

-- a run that halts has another status than 0 and 2
pub never_zero : (halt : Halt) → status_at halt ≡ 0 → ⊥
never_zero halts.NoDevice is = omega (arith, is)
never_zero halts.BadDirectory is = omega (arith, is)
never_zero (halts.Stopped stops.Source) is = omega (arith, is)
never_zero (halts.Stopped stops.Sink) is = omega (arith, is)
never_zero (halts.Stopped stops.Limit) is = omega (arith, is)
never_zero (halts.Stopped (stops.Device device.Platform)) is = omega (arith, is)
never_zero (halts.Stopped (stops.Device device.Tape)) is = omega (arith, is)
never_zero (halts.Stopped (stops.Device device.Ledger)) is = omega (arith, is)
never_zero (halts.Stopped (stops.Device device.Memory)) is = omega (arith, is)
never_zero (halts.Stopped (stops.Device device.BadRoot)) is = omega (arith, is)
never_zero (halts.Stopped (stops.Device (device.BadRecord addr))) is = omega (arith, is)

pub never_two : (halt : Halt) → status_at halt ≡ 2 → ⊥
never_two halts.NoDevice is = omega (arith, is)
never_two halts.BadDirectory is = omega (arith, is)
never_two (halts.Stopped stops.Source) is = omega (arith, is)
never_two (halts.Stopped stops.Sink) is = omega (arith, is)
never_two (halts.Stopped stops.Limit) is = omega (arith, is)
never_two (halts.Stopped (stops.Device device.Platform)) is = omega (arith, is)
never_two (halts.Stopped (stops.Device device.Tape)) is = omega (arith, is)
never_two (halts.Stopped (stops.Device device.Ledger)) is = omega (arith, is)
never_two (halts.Stopped (stops.Device device.Memory)) is = omega (arith, is)
never_two (halts.Stopped (stops.Device device.BadRoot)) is = omega (arith, is)
never_two (halts.Stopped (stops.Device (device.BadRecord addr))) is = omega (arith, is)

pub at_eight : (halt : Halt) → status_at halt ≡ 8 → halt ≡ halts.Stopped (stops.Device device.BadRoot)
at_eight halts.NoDevice is = absurd (omega (arith, is))
at_eight halts.BadDirectory is = absurd (omega (arith, is))
at_eight (halts.Stopped stops.Source) is = absurd (omega (arith, is))
at_eight (halts.Stopped stops.Sink) is = absurd (omega (arith, is))
at_eight (halts.Stopped stops.Limit) is = absurd (omega (arith, is))
at_eight (halts.Stopped (stops.Device device.Platform)) is = absurd (omega (arith, is))
at_eight (halts.Stopped (stops.Device device.Tape)) is = absurd (omega (arith, is))
at_eight (halts.Stopped (stops.Device device.Ledger)) is = absurd (omega (arith, is))
at_eight (halts.Stopped (stops.Device device.Memory)) is = absurd (omega (arith, is))
at_eight (halts.Stopped (stops.Device device.BadRoot)) is = refl
at_eight (halts.Stopped (stops.Device (device.BadRecord addr))) is = absurd (omega (arith, is))

pub at_twelve : (halt : Halt) → status_at halt ≡ 12 → halt ≡ halts.Stopped stops.Limit
at_twelve halts.NoDevice is = absurd (omega (arith, is))
at_twelve halts.BadDirectory is = absurd (omega (arith, is))
at_twelve (halts.Stopped stops.Source) is = absurd (omega (arith, is))
at_twelve (halts.Stopped stops.Sink) is = absurd (omega (arith, is))
at_twelve (halts.Stopped stops.Limit) is = refl
at_twelve (halts.Stopped (stops.Device device.Platform)) is = absurd (omega (arith, is))
at_twelve (halts.Stopped (stops.Device device.Tape)) is = absurd (omega (arith, is))
at_twelve (halts.Stopped (stops.Device device.Ledger)) is = absurd (omega (arith, is))
at_twelve (halts.Stopped (stops.Device device.Memory)) is = absurd (omega (arith, is))
at_twelve (halts.Stopped (stops.Device device.BadRoot)) is = absurd (omega (arith, is))
at_twelve (halts.Stopped (stops.Device (device.BadRecord addr))) is = absurd (omega (arith, is))

pub at_three : (halt : Halt) → status_at halt ≡ 3 → halt ≡ halts.Stopped stops.Source
at_three halts.NoDevice is = absurd (omega (arith, is))
at_three halts.BadDirectory is = absurd (omega (arith, is))
at_three (halts.Stopped stops.Source) is = refl
at_three (halts.Stopped stops.Sink) is = absurd (omega (arith, is))
at_three (halts.Stopped stops.Limit) is = absurd (omega (arith, is))
at_three (halts.Stopped (stops.Device device.Platform)) is = absurd (omega (arith, is))
at_three (halts.Stopped (stops.Device device.Tape)) is = absurd (omega (arith, is))
at_three (halts.Stopped (stops.Device device.Ledger)) is = absurd (omega (arith, is))
at_three (halts.Stopped (stops.Device device.Memory)) is = absurd (omega (arith, is))
at_three (halts.Stopped (stops.Device device.BadRoot)) is = absurd (omega (arith, is))
at_three (halts.Stopped (stops.Device (device.BadRecord addr))) is = absurd (omega (arith, is))

pub at_ten : (halt : Halt) → status_at halt ≡ 10 → (halt ≡ halts.NoDevice) ⊎ (halt ≡ halts.BadDirectory)
at_ten halts.NoDevice is = inl refl
at_ten halts.BadDirectory is = inr refl
at_ten (halts.Stopped stops.Source) is = absurd (omega (arith, is))
at_ten (halts.Stopped stops.Sink) is = absurd (omega (arith, is))
at_ten (halts.Stopped stops.Limit) is = absurd (omega (arith, is))
at_ten (halts.Stopped (stops.Device device.Platform)) is = absurd (omega (arith, is))
at_ten (halts.Stopped (stops.Device device.Tape)) is = absurd (omega (arith, is))
at_ten (halts.Stopped (stops.Device device.Ledger)) is = absurd (omega (arith, is))
at_ten (halts.Stopped (stops.Device device.Memory)) is = absurd (omega (arith, is))
at_ten (halts.Stopped (stops.Device device.BadRoot)) is = absurd (omega (arith, is))
at_ten (halts.Stopped (stops.Device (device.BadRecord addr))) is = absurd (omega (arith, is))

pub blamed : (before now : Counts) (halt : Halt) → Blames {X = Unit {0}} before now (Err halt) → IsBlamedAt (status_at halt) before now
blamed before now halts.NoDevice b = record { none_fell = b.fell; input = λ is. absurd (omega (arith, is)); output = λ is. absurd (omega (arith, is)); platform = λ is. absurd (omega (arith, is)); tape = λ is. absurd (omega (arith, is)); ledger = λ is. absurd (omega (arith, is)); quiet = λ outside. b.cause }
blamed before now halts.BadDirectory b = record { none_fell = b.fell; input = λ is. absurd (omega (arith, is)); output = λ is. absurd (omega (arith, is)); platform = λ is. absurd (omega (arith, is)); tape = λ is. absurd (omega (arith, is)); ledger = λ is. absurd (omega (arith, is)); quiet = λ outside. b.cause }
blamed before now (halts.Stopped stops.Source) b = record { none_fell = b.fell; input = λ is. b.cause; output = λ is. absurd (omega (arith, is)); platform = λ is. absurd (omega (arith, is)); tape = λ is. absurd (omega (arith, is)); ledger = λ is. absurd (omega (arith, is)); quiet = λ outside. absurd (outside (omega arith) (omega arith)) }
blamed before now (halts.Stopped stops.Sink) b = record { none_fell = b.fell; input = λ is. absurd (omega (arith, is)); output = λ is. b.cause; platform = λ is. absurd (omega (arith, is)); tape = λ is. absurd (omega (arith, is)); ledger = λ is. absurd (omega (arith, is)); quiet = λ outside. absurd (outside (omega arith) (omega arith)) }
blamed before now (halts.Stopped stops.Limit) b = record { none_fell = b.fell; input = λ is. absurd (omega (arith, is)); output = λ is. absurd (omega (arith, is)); platform = λ is. absurd (omega (arith, is)); tape = λ is. absurd (omega (arith, is)); ledger = λ is. absurd (omega (arith, is)); quiet = λ outside. b.cause }
blamed before now (halts.Stopped (stops.Device device.Platform)) b = record { none_fell = b.fell; input = λ is. absurd (omega (arith, is)); output = λ is. absurd (omega (arith, is)); platform = λ is. b.cause; tape = λ is. absurd (omega (arith, is)); ledger = λ is. absurd (omega (arith, is)); quiet = λ outside. absurd (outside (omega arith) (omega arith)) }
blamed before now (halts.Stopped (stops.Device device.Tape)) b = record { none_fell = b.fell; input = λ is. absurd (omega (arith, is)); output = λ is. absurd (omega (arith, is)); platform = λ is. absurd (omega (arith, is)); tape = λ is. b.cause; ledger = λ is. absurd (omega (arith, is)); quiet = λ outside. absurd (outside (omega arith) (omega arith)) }
blamed before now (halts.Stopped (stops.Device device.Ledger)) b = record { none_fell = b.fell; input = λ is. absurd (omega (arith, is)); output = λ is. absurd (omega (arith, is)); platform = λ is. absurd (omega (arith, is)); tape = λ is. absurd (omega (arith, is)); ledger = λ is. b.cause; quiet = λ outside. absurd (outside (omega arith) (omega arith)) }
blamed before now (halts.Stopped (stops.Device device.Memory)) b = record { none_fell = b.fell; input = λ is. absurd (omega (arith, is)); output = λ is. absurd (omega (arith, is)); platform = λ is. absurd (omega (arith, is)); tape = λ is. absurd (omega (arith, is)); ledger = λ is. absurd (omega (arith, is)); quiet = λ outside. b.cause }
blamed before now (halts.Stopped (stops.Device device.BadRoot)) b = record { none_fell = b.fell; input = λ is. absurd (omega (arith, is)); output = λ is. absurd (omega (arith, is)); platform = λ is. absurd (omega (arith, is)); tape = λ is. absurd (omega (arith, is)); ledger = λ is. absurd (omega (arith, is)); quiet = λ outside. b.cause }
blamed before now (halts.Stopped (stops.Device (device.BadRecord addr))) b = record { none_fell = b.fell; input = λ is. absurd (omega (arith, is)); output = λ is. absurd (omega (arith, is)); platform = λ is. absurd (omega (arith, is)); tape = λ is. absurd (omega (arith, is)); ledger = λ is. absurd (omega (arith, is)); quiet = λ outside. b.cause }

pub blamed_none : (before now : Counts) → Blames {X = Unit {0}} before now (Ok tt) → IsBlamedAt 0 before now
blamed_none before now b = record { none_fell = b.fell; input = λ is. absurd (omega (arith, is)); output = λ is. absurd (omega (arith, is)); platform = λ is. absurd (omega (arith, is)); tape = λ is. absurd (omega (arith, is)); ledger = λ is. absurd (omega (arith, is)); quiet = λ outside. b.quiet }

-- no words
pub no_words : {A B : Type 0} (spelled : A → B) (words : List A) → length words ≡ 0 → map spelled words ≡ []
no_words spelled [] none = refl
no_words spelled (word ∷ words) none = absurd (omega (arith, none))

-- ---- whose count rose

-- among some of the objects, and among all
cause_all : (before now wide wide_now : Counts) (halt : Halt) → ArePart before now wide wide_now → HasCause before now halt → HasCause wide wide_now halt
cause_all before now wide wide_now halts.NoDevice part cause = quiet_wide before now wide wide_now part cause
cause_all before now wide wide_now halts.BadDirectory part cause = quiet_wide before now wide wide_now part cause
cause_all before now wide wide_now (halts.Stopped stop) part cause = cause_wide {T = Unit {0}} before now wide wide_now (Err stop) part cause

pub blames_halt : {X Y : Type 0} (before now wide wide_now : Counts) (halt : Halt) → ArePart before now wide wide_now → Blames {X = X} before now (Err halt) → Blames {X = Y} wide wide_now (Err halt)
blames_halt before now wide wide_now halt part blames = record { fell = fell_wide before now wide wide_now part blames.fell; quiet = tt; cause = cause_all before now wide wide_now halt part blames.cause }

-- a run whose lines ended so
pub blames_lines : (before now : Counts) (stop : Stop) → IsBlamedOn {T = Unit {0}} before now (Err stop) → Blames {X = Unit {0}} before now (Err (halts.Stopped stop))
blames_lines before now stop blamed = record { fell = blamed.fell; quiet = tt; cause = blamed.cause }

pub blames_done : (before now : Counts) → IsBlamedOn {T = Unit {0}} before now (Ok tt) → Blames {X = Unit {0}} before now (Ok tt)
blames_done before now blamed = record { fell = blamed.fell; quiet = blamed.quiet; cause = tt }

-- calls that left the counts before
pub blames_then : {X : Type 0} (before mid now : Counts) (result : Result X Halt) → mid ≡ before → Blames mid now result → Blames before now result
blames_then before mid now result same = subst (λ (c : Counts). Blames c now result) same

-- one with a last line came at no fault
quiet_at : (before now : Counts) (halt : Halt) → HasLastLine halt → HasCause before now halt → now ≡ before
quiet_at before now halts.NoDevice has cause = cause
quiet_at before now halts.BadDirectory has cause = cause
quiet_at before now (halts.Stopped stops.Source) has cause = absurd has
quiet_at before now (halts.Stopped stops.Sink) has cause = absurd has
quiet_at before now (halts.Stopped stops.Limit) has cause = absurd has
quiet_at before now (halts.Stopped (stops.Device device.Platform)) has cause = absurd (has tt)
quiet_at before now (halts.Stopped (stops.Device device.Tape)) has cause = absurd (has tt)
quiet_at before now (halts.Stopped (stops.Device device.Ledger)) has cause = absurd (has tt)
quiet_at before now (halts.Stopped (stops.Device device.Memory)) has cause = absurd (has tt)
quiet_at before now (halts.Stopped (stops.Device device.BadRoot)) has cause = cause
quiet_at before now (halts.Stopped (stops.Device (device.BadRecord addr))) has cause = cause

-- a last line that was put, or not
pub blames_told : (before mid now : Counts) (halt ended : Halt) → mid.output ≤ now.output → now ≡ record mid { output = now.output } → Blames {X = Unit {0}} before mid (Err halt) → TellsLine halt ended mid.output now.output
    → Blames {X = Unit {0}} before now (Err ended)
blames_told before mid now halt ended least rest blames (inl (same, count)) =
    let all : now ≡ mid = rest ∙ ap (λ (n : ℕ). record mid { output = n }) count in
    subst (λ (h : Halt). Blames {X = Unit {0}} before now (Err h)) (sym same) (subst (λ (c : Counts). Blames {X = Unit {0}} before c (Err halt)) (sym all) blames)
blames_told before mid now halt ended least rest blames (inr (same, has, rose)) =
    let quiet : mid ≡ before = quiet_at before mid halt has blames.cause in
    subst (λ (h : Halt). Blames {X = Unit {0}} before now (Err h)) (sym same) (subst (λ (c : Counts). Blames {X = Unit {0}} c now (Err (halts.Stopped stops.Sink))) quiet (record {
      fell = subst (λ (c : Counts). NoneFell mid c) (sym rest) (record { platform = omega arith; tape = omega arith; input = omega arith; output = least; ledger = omega arith });
      quiet = tt;
      cause = (rose, rest);
    }))

-- calls of the platform alone
pub of_platform : (platform platform_now tape input output ledger : ℕ) → ArePart (counts platform 0 0 0 0) (counts platform_now 0 0 0 0) (counts platform tape input output ledger) (counts platform_now tape input output ledger)
of_platform platform platform_now tape input output ledger = record {
  platform = inr (refl, refl);
  tape = inl (refl, refl, refl);
  input = inl (refl, refl, refl);
  output = inl (refl, refl, refl);
  ledger = inl (refl, refl, refl);
}

-- some words
pub some_words : {A B : Type 0} (spelled : A → B) (words : List A) → (length words == 0) ≡ false → map spelled words ≡ [] → ⊥
some_words spelled [] none same = cc
some_words spelled (word ∷ words) none same = cc

pub blamed_two : (here : Counts) → IsBlamedAt 2 here here
blamed_two here = record {
  none_fell = record { platform = omega arith; tape = omega arith; input = omega arith; output = omega arith; ledger = omega arith };
  input = λ is. absurd (omega (arith, is));
  output = λ is. absurd (omega (arith, is));
  platform = λ is. absurd (omega (arith, is));
  tape = λ is. absurd (omega (arith, is));
  ledger = λ is. absurd (omega (arith, is));
  quiet = λ outside. refl;
}
