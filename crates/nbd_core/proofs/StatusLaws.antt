-- The exit status of a run, and what it says.
use Rattle.std.proofs.Common.{◌≡◌, List, [], ◌∷◌, Ok, Err, inl, inr, refl, length, arith}
use Rattle.std.specs.Prelude.{map}
use Rattle.sdbt_base.specs.Counts.{Counts}
use Rattle.nbd_core.specs.Halts.{Blames, status_at}
use Rattle.session_calls.specs.Handed.{IsBlamedAt}
use Rattle.nbd_core.specs.Program.{IsStatus}
use Rattle.nbd_core.specs.declared.stop.Stop.TheVariants as stops
use Rattle.nbd_core.specs.declared.halts.Halt.{Halt}
use Rattle.nbd_core.specs.declared.halts.Halt.TheVariants as halts

pub status_is : (halt : Halt) → IsStatus (status_at halt)
status_is (halts.Client stops.Source) = inr (inr (inl refl))
status_is (halts.Client stops.Sink) = inr (inr (inr (inl refl)))
status_is (halts.Client stops.Limit) = inr (inr (inr (inr (inr (inr (inr (inr (inr (inr (inl refl))))))))))
status_is (halts.Client stops.Broken) = inr (inr (inr (inr (inr (inr (inr (inr (inr (inr (inr refl))))))))))
status_is halts.Platform = inr (inr (inr (inr (inl refl))))
status_is halts.Tape = inr (inr (inr (inr (inr (inl refl)))))
status_is halts.Ledger = inr (inr (inr (inr (inr (inr (inl refl))))))
status_is halts.BadRoot = inr (inr (inr (inr (inr (inr (inr (inl refl)))))))
status_is halts.NoDevice = inr (inr (inr (inr (inr (inr (inr (inr (inl refl))))))))
status_is halts.Unfinished = inr (inr (inr (inr (inr (inr (inr (inr (inl refl))))))))
status_is halts.Memory = inr (inr (inr (inr (inr (inr (inr (inr (inr (inl refl)))))))))

-- a run that halts has another status than 0 and 2
pub never_zero : (halt : Halt) → status_at halt ≡ 0 → ⊥
never_zero (halts.Client stops.Source) is = omega (arith, is)
never_zero (halts.Client stops.Sink) is = omega (arith, is)
never_zero (halts.Client stops.Limit) is = omega (arith, is)
never_zero (halts.Client stops.Broken) is = omega (arith, is)
never_zero halts.Platform is = omega (arith, is)
never_zero halts.Tape is = omega (arith, is)
never_zero halts.Ledger is = omega (arith, is)
never_zero halts.BadRoot is = omega (arith, is)
never_zero halts.NoDevice is = omega (arith, is)
never_zero halts.Unfinished is = omega (arith, is)
never_zero halts.Memory is = omega (arith, is)

pub never_two : (halt : Halt) → status_at halt ≡ 2 → ⊥
never_two (halts.Client stops.Source) is = omega (arith, is)
never_two (halts.Client stops.Sink) is = omega (arith, is)
never_two (halts.Client stops.Limit) is = omega (arith, is)
never_two (halts.Client stops.Broken) is = omega (arith, is)
never_two halts.Platform is = omega (arith, is)
never_two halts.Tape is = omega (arith, is)
never_two halts.Ledger is = omega (arith, is)
never_two halts.BadRoot is = omega (arith, is)
never_two halts.NoDevice is = omega (arith, is)
never_two halts.Unfinished is = omega (arith, is)
never_two halts.Memory is = omega (arith, is)

pub at_eight : (halt : Halt) → status_at halt ≡ 8 → halt ≡ halts.BadRoot
at_eight halts.BadRoot is = refl
at_eight (halts.Client stops.Source) is = absurd (omega (arith, is))
at_eight (halts.Client stops.Sink) is = absurd (omega (arith, is))
at_eight (halts.Client stops.Limit) is = absurd (omega (arith, is))
at_eight (halts.Client stops.Broken) is = absurd (omega (arith, is))
at_eight halts.Platform is = absurd (omega (arith, is))
at_eight halts.Tape is = absurd (omega (arith, is))
at_eight halts.Ledger is = absurd (omega (arith, is))
at_eight halts.NoDevice is = absurd (omega (arith, is))
at_eight halts.Unfinished is = absurd (omega (arith, is))
at_eight halts.Memory is = absurd (omega (arith, is))

pub at_twelve : (halt : Halt) → status_at halt ≡ 12 → halt ≡ halts.Client stops.Limit
at_twelve (halts.Client stops.Limit) is = refl
at_twelve (halts.Client stops.Source) is = absurd (omega (arith, is))
at_twelve (halts.Client stops.Sink) is = absurd (omega (arith, is))
at_twelve (halts.Client stops.Broken) is = absurd (omega (arith, is))
at_twelve halts.Platform is = absurd (omega (arith, is))
at_twelve halts.Tape is = absurd (omega (arith, is))
at_twelve halts.Ledger is = absurd (omega (arith, is))
at_twelve halts.BadRoot is = absurd (omega (arith, is))
at_twelve halts.NoDevice is = absurd (omega (arith, is))
at_twelve halts.Unfinished is = absurd (omega (arith, is))
at_twelve halts.Memory is = absurd (omega (arith, is))

pub blamed : (before now : Counts) (halt : Halt) → Blames {X = Unit {0}} before now (Err halt) → IsBlamedAt (status_at halt) before now
blamed before now (halts.Client stops.Source) b = record { none_fell = b.fell; input = λ is. b.cause; output = λ is. absurd (omega (arith, is)); platform = λ is. absurd (omega (arith, is)); tape = λ is. absurd (omega (arith, is)); ledger = λ is. absurd (omega (arith, is)); quiet = λ outside. absurd (outside (omega arith) (omega arith)) }
blamed before now (halts.Client stops.Sink) b = record { none_fell = b.fell; input = λ is. absurd (omega (arith, is)); output = λ is. b.cause; platform = λ is. absurd (omega (arith, is)); tape = λ is. absurd (omega (arith, is)); ledger = λ is. absurd (omega (arith, is)); quiet = λ outside. absurd (outside (omega arith) (omega arith)) }
blamed before now (halts.Client stops.Limit) b = record { none_fell = b.fell; input = λ is. absurd (omega (arith, is)); output = λ is. absurd (omega (arith, is)); platform = λ is. absurd (omega (arith, is)); tape = λ is. absurd (omega (arith, is)); ledger = λ is. absurd (omega (arith, is)); quiet = λ outside. b.cause }
blamed before now (halts.Client stops.Broken) b = record { none_fell = b.fell; input = λ is. absurd (omega (arith, is)); output = λ is. absurd (omega (arith, is)); platform = λ is. absurd (omega (arith, is)); tape = λ is. absurd (omega (arith, is)); ledger = λ is. absurd (omega (arith, is)); quiet = λ outside. b.cause }
blamed before now halts.Platform b = record { none_fell = b.fell; input = λ is. absurd (omega (arith, is)); output = λ is. absurd (omega (arith, is)); platform = λ is. b.cause; tape = λ is. absurd (omega (arith, is)); ledger = λ is. absurd (omega (arith, is)); quiet = λ outside. absurd (outside (omega arith) (omega arith)) }
blamed before now halts.Tape b = record { none_fell = b.fell; input = λ is. absurd (omega (arith, is)); output = λ is. absurd (omega (arith, is)); platform = λ is. absurd (omega (arith, is)); tape = λ is. b.cause; ledger = λ is. absurd (omega (arith, is)); quiet = λ outside. absurd (outside (omega arith) (omega arith)) }
blamed before now halts.Ledger b = record { none_fell = b.fell; input = λ is. absurd (omega (arith, is)); output = λ is. absurd (omega (arith, is)); platform = λ is. absurd (omega (arith, is)); tape = λ is. absurd (omega (arith, is)); ledger = λ is. b.cause; quiet = λ outside. absurd (outside (omega arith) (omega arith)) }
blamed before now halts.BadRoot b = record { none_fell = b.fell; input = λ is. absurd (omega (arith, is)); output = λ is. absurd (omega (arith, is)); platform = λ is. absurd (omega (arith, is)); tape = λ is. absurd (omega (arith, is)); ledger = λ is. absurd (omega (arith, is)); quiet = λ outside. b.cause }
blamed before now halts.NoDevice b = record { none_fell = b.fell; input = λ is. absurd (omega (arith, is)); output = λ is. absurd (omega (arith, is)); platform = λ is. absurd (omega (arith, is)); tape = λ is. absurd (omega (arith, is)); ledger = λ is. absurd (omega (arith, is)); quiet = λ outside. b.cause }
blamed before now halts.Unfinished b = record { none_fell = b.fell; input = λ is. absurd (omega (arith, is)); output = λ is. absurd (omega (arith, is)); platform = λ is. absurd (omega (arith, is)); tape = λ is. absurd (omega (arith, is)); ledger = λ is. absurd (omega (arith, is)); quiet = λ outside. b.cause }
blamed before now halts.Memory b = record { none_fell = b.fell; input = λ is. absurd (omega (arith, is)); output = λ is. absurd (omega (arith, is)); platform = λ is. absurd (omega (arith, is)); tape = λ is. absurd (omega (arith, is)); ledger = λ is. absurd (omega (arith, is)); quiet = λ outside. b.cause }

pub blamed_none : (before now : Counts) → Blames {X = Unit {0}} before now (Ok tt) → IsBlamedAt 0 before now
blamed_none before now b = record { none_fell = b.fell; input = λ is. absurd (omega (arith, is)); output = λ is. absurd (omega (arith, is)); platform = λ is. absurd (omega (arith, is)); tape = λ is. absurd (omega (arith, is)); ledger = λ is. absurd (omega (arith, is)); quiet = λ outside. b.quiet }

-- no words
pub no_words : {A B : Type 0} (spelled : A → B) (words : List A) → length words ≡ 0 → map spelled words ≡ []
no_words spelled [] none = refl
no_words spelled (word ∷ words) none = absurd (omega (arith, none))
