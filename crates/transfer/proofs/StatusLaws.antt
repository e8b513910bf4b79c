-- The exit status of a run, and what it says.
use Rattle.std.proofs.Common.{◌≡◌, ℕ, List, [], ◌∷◌, Ok, Err, inl, inr, refl, sym, subst, length, arith}
use Rattle.std.specs.Prelude.{◌==◌, false, map}
use Rattle.sdbt_base.specs.Counts as device_counts
use Rattle.session_calls.specs.declared.stops.DeviceStop.TheVariants as device
use Rattle.transfer.specs.Counts.{Counts, FromRose, LedgerRose, TapeRose, ToRose, counts, with_from, with_to}
use Rattle.transfer.specs.Halts.{Blames, status_at}
use Rattle.transfer.specs.Program.{IsBlamedAt, IsStatus, NamesFault}
use Rattle.transfer.specs.declared.halts.Halt.{Halt}
use Rattle.transfer.specs.declared.halts.Halt.TheVariants as halts
use Rattle.transfer.proofs.BlameLaws.{fell_not, same_from, same_to}

is_zero : IsStatus 0
is_zero = inl refl

is_two : IsStatus 2
is_two = inr (inl refl)

is_four : IsStatus 4
is_four = inr (inr (inl refl))

is_five : IsStatus 5
is_five = inr (inr (inr (inl refl)))

is_six : IsStatus 6
is_six = inr (inr (inr (inr (inl refl))))

is_seven : IsStatus 7
is_seven = inr (inr (inr (inr (inr (inl refl)))))

is_eight : IsStatus 8
is_eight = inr (inr (inr (inr (inr (inr (inl refl))))))

is_nine : IsStatus 9
is_nine = inr (inr (inr (inr (inr (inr (inr (inl refl)))))))

is_ten : IsStatus 10
is_ten = inr (inr (inr (inr (inr (inr (inr (inr (inl refl))))))))

is_eleven : IsStatus 11
is_eleven = inr (inr (inr (inr (inr (inr (inr (inr (inr (inl refl)))))))))

is_thirteen : IsStatus 13
is_thirteen = inr (inr (inr (inr (inr (inr (inr (inr (inr (inr refl)))))))))

pub status_is : (halt : Halt) → IsStatus (status_at halt)
status_is halts.NoDevice = is_ten
status_is halts.NotEmpty = is_ten
status_is halts.Full = is_ten
status_is halts.Output = is_four
status_is (halts.From device.Platform) = is_five
status_is (halts.From device.Tape) = is_six
status_is (halts.From device.Ledger) = is_seven
status_is (halts.From device.BadRoot) = is_eight
status_is (halts.From (device.BadRecord addr)) = is_nine
status_is (halts.From device.Memory) = is_eleven
status_is (halts.To device.Platform) = is_thirteen
status_is (halts.To device.Tape) = is_six
status_is (halts.To device.Ledger) = is_seven
status_is (halts.To device.BadRoot) = is_eight
status_is (halts.To (device.BadRecord addr)) = is_nine
status_is (halts.To device.Memory) = is_eleven

pub status_zero : IsStatus 0
status_zero = is_zero

pub status_two : IsStatus 2
status_two = is_two

-- a run that halts has another status than 0 and 2
pub never_zero : (halt : Halt) → status_at halt ≡ 0 → ⊥
never_zero halts.NoDevice is = omega (arith, is)
never_zero halts.NotEmpty is = omega (arith, is)
never_zero halts.Full is = omega (arith, is)
never_zero halts.Output is = omega (arith, is)
never_zero (halts.From device.Platform) is = omega (arith, is)
never_zero (halts.From device.Tape) is = omega (arith, is)
never_zero (halts.From device.Ledger) is = omega (arith, is)
never_zero (halts.From device.BadRoot) is = omega (arith, is)
never_zero (halts.From (device.BadRecord addr)) is = omega (arith, is)
never_zero (halts.From device.Memory) is = omega (arith, is)
never_zero (halts.To device.Platform) is = omega (arith, is)
never_zero (halts.To device.Tape) is = omega (arith, is)
never_zero (halts.To device.Ledger) is = omega (arith, is)
never_zero (halts.To device.BadRoot) is = omega (arith, is)
never_zero (halts.To (device.BadRecord addr)) is = omega (arith, is)
never_zero (halts.To device.Memory) is = omega (arith, is)

pub never_two : (halt : Halt) → status_at halt ≡ 2 → ⊥
never_two halts.NoDevice is = omega (arith, is)
never_two halts.NotEmpty is = omega (arith, is)
never_two halts.Full is = omega (arith, is)
never_two halts.Output is = omega (arith, is)
never_two (halts.From device.Platform) is = omega (arith, is)
never_two (halts.From device.Tape) is = omega (arith, is)
never_two (halts.From device.Ledger) is = omega (arith, is)
never_two (halts.From device.BadRoot) is = omega (arith, is)
never_two (halts.From (device.BadRecord addr)) is = omega (arith, is)
never_two (halts.From device.Memory) is = omega (arith, is)
never_two (halts.To device.Platform) is = omega (arith, is)
never_two (halts.To device.Tape) is = omega (arith, is)
never_two (halts.To device.Ledger) is = omega (arith, is)
never_two (halts.To device.BadRoot) is = omega (arith, is)
never_two (halts.To (device.BadRecord addr)) is = omega (arith, is)
never_two (halts.To device.Memory) is = omega (arith, is)

-- ---- whose count rose

-- at a status that names no fault
blamed_quiet : (status : ℕ) (before now : Counts) → (NamesFault status → ⊥) → now ≡ before → IsBlamedAt status before now
blamed_quiet status before now no_fault same = subst (λ (c : Counts). IsBlamedAt status before c) (sym same) (record {
  none_fell = fell_not before;
  output = λ is. absurd (no_fault (inl is));
  from = λ is. absurd (no_fault (inr (inl is)));
  tape = λ is. absurd (no_fault (inr (inr (inl is))));
  ledger = λ is. absurd (no_fault (inr (inr (inr (inl is)))));
  to = λ is. absurd (no_fault (inr (inr (inr (inr is)))));
  quiet = λ not_named. refl;
})

-- of a side, where the count of the other is as it was
tape_of_from : (before now : Counts) → now.to ≡ before.to → device_counts.TapeRose (with_from before) (with_from now) → TapeRose before now
tape_of_from before now other rose = (rose.0, λ k. counts ((rose.1 k).platform) (other k) now.tape ((rose.1 k).output) ((rose.1 k).ledger))

ledger_of_from : (before now : Counts) → now.to ≡ before.to → device_counts.LedgerRose (with_from before) (with_from now) → LedgerRose before now
ledger_of_from before now other rose = (rose.0, λ k. counts ((rose.1 k).platform) (other k) ((rose.1 k).tape) ((rose.1 k).output) now.ledger)

from_of_from : (before now : Counts) → now.to ≡ before.to → device_counts.PlatformRose (with_from before) (with_from now) → FromRose before now
from_of_from before now other rose = (rose.0, λ k. counts now.from (other k) ((rose.1 k).tape) ((rose.1 k).output) ((rose.1 k).ledger))

tape_of_to : (before now : Counts) → now.from ≡ before.from → device_counts.TapeRose (with_to before) (with_to now) → TapeRose before now
tape_of_to before now other rose = (rose.0, λ k. counts (other k) ((rose.1 k).platform) now.tape ((rose.1 k).output) ((rose.1 k).ledger))

ledger_of_to : (before now : Counts) → now.from ≡ before.from → device_counts.LedgerRose (with_to before) (with_to now) → LedgerRose before now
ledger_of_to before now other rose = (rose.0, λ k. counts (other k) ((rose.1 k).platform) ((rose.1 k).tape) ((rose.1 k).output) now.ledger)

to_of_to : (before now : Counts) → now.from ≡ before.from → device_counts.PlatformRose (with_to before) (with_to now) → ToRose before now
to_of_to before now other rose = (rose.0, λ k. counts (other k) now.to ((rose.1 k).tape) ((rose.1 k).output) ((rose.1 k).ledger))

-- at one that names this fault alone
other_ten : NamesFault 10 → ⊥
other_ten named = elim named [ inl is ↦ omega (arith, is) | inr (inl is) ↦ omega (arith, is) | inr (inr (inl is)) ↦ omega (arith, is) | inr (inr (inr (inl is))) ↦ omega (arith, is) | inr (inr (inr (inr is))) ↦ omega (arith, is) ]

other_eight : NamesFault 8 → ⊥
other_eight named = elim named [ inl is ↦ omega (arith, is) | inr (inl is) ↦ omega (arith, is) | inr (inr (inl is)) ↦ omega (arith, is) | inr (inr (inr (inl is))) ↦ omega (arith, is) | inr (inr (inr (inr is))) ↦ omega (arith, is) ]

other_nine : NamesFault 9 → ⊥
other_nine named = elim named [ inl is ↦ omega (arith, is) | inr (inl is) ↦ omega (arith, is) | inr (inr (inl is)) ↦ omega (arith, is) | inr (inr (inr (inl is))) ↦ omega (arith, is) | inr (inr (inr (inr is))) ↦ omega (arith, is) ]

other_eleven : NamesFault 11 → ⊥
other_eleven named = elim named [ inl is ↦ omega (arith, is) | inr (inl is) ↦ omega (arith, is) | inr (inr (inl is)) ↦ omega (arith, is) | inr (inr (inr (inl is))) ↦ omega (arith, is) | inr (inr (inr (inr is))) ↦ omega (arith, is) ]

other_zero : NamesFault 0 → ⊥
other_zero named = elim named [ inl is ↦ omega (arith, is) | inr (inl is) ↦ omega (arith, is) | inr (inr (inl is)) ↦ omega (arith, is) | inr (inr (inr (inl is))) ↦ omega (arith, is) | inr (inr (inr (inr is))) ↦ omega (arith, is) ]

other_two : NamesFault 2 → ⊥
other_two named = elim named [ inl is ↦ omega (arith, is) | inr (inl is) ↦ omega (arith, is) | inr (inr (inl is)) ↦ omega (arith, is) | inr (inr (inr (inl is))) ↦ omega (arith, is) | inr (inr (inr (inr is))) ↦ omega (arith, is) ]

pub blamed : (before now : Counts) (halt : Halt) → Blames {X = Unit {0}} before now (Err halt) → IsBlamedAt (status_at halt) before now
blamed before now halts.NoDevice b = blamed_quiet 10 before now other_ten b.cause
blamed before now halts.NotEmpty b = blamed_quiet 10 before now other_ten b.cause
blamed before now halts.Full b = blamed_quiet 10 before now other_ten b.cause
blamed before now halts.Output b = record {
  none_fell = b.fell;
  output = λ is. b.cause;
  from = λ is. absurd (omega (arith, is));
  tape = λ is. absurd (omega (arith, is));
  ledger = λ is. absurd (omega (arith, is));
  to = λ is. absurd (omega (arith, is));
  quiet = λ not_named. absurd (not_named (inl refl));
}
blamed before now (halts.From device.Platform) b = record {
  none_fell = b.fell;
  output = λ is. absurd (omega (arith, is));
  from = λ is. from_of_from before now b.cause.0 b.cause.1;
  tape = λ is. absurd (omega (arith, is));
  ledger = λ is. absurd (omega (arith, is));
  to = λ is. absurd (omega (arith, is));
  quiet = λ not_named. absurd (not_named (inr (inl refl)));
}
blamed before now (halts.From device.Tape) b = record {
  none_fell = b.fell;
  output = λ is. absurd (omega (arith, is));
  from = λ is. absurd (omega (arith, is));
  tape = λ is. tape_of_from before now b.cause.0 b.cause.1;
  ledger = λ is. absurd (omega (arith, is));
  to = λ is. absurd (omega (arith, is));
  quiet = λ not_named. absurd (not_named (inr (inr (inl refl))));
}
blamed before now (halts.From device.Ledger) b = record {
  none_fell = b.fell;
  output = λ is. absurd (omega (arith, is));
  from = λ is. absurd (omega (arith, is));
  tape = λ is. absurd (omega (arith, is));
  ledger = λ is. ledger_of_from before now b.cause.0 b.cause.1;
  to = λ is. absurd (omega (arith, is));
  quiet = λ not_named. absurd (not_named (inr (inr (inr (inl refl)))));
}
blamed before now (halts.From device.BadRoot) b = blamed_quiet 8 before now other_eight (same_from before now b.cause.0 b.cause.1)
blamed before now (halts.From (device.BadRecord addr)) b = blamed_quiet 9 before now other_nine (same_from before now b.cause.0 b.cause.1)
blamed before now (halts.From device.Memory) b = blamed_quiet 11 before now other_eleven (same_from before now b.cause.0 b.cause.1)
blamed before now (halts.To device.Platform) b = record {
  none_fell = b.fell;
  output = λ is. absurd (omega (arith, is));
  from = λ is. absurd (omega (arith, is));
  tape = λ is. absurd (omega (arith, is));
  ledger = λ is. absurd (omega (arith, is));
  to = λ is. to_of_to before now b.cause.0 b.cause.1;
  quiet = λ not_named. absurd (not_named (inr (inr (inr (inr refl)))));
}
blamed before now (halts.To device.Tape) b = record {
  none_fell = b.fell;
  output = λ is. absurd (omega (arith, is));
  from = λ is. absurd (omega (arith, is));
  tape = λ is. tape_of_to before now b.cause.0 b.cause.1;
  ledger = λ is. absurd (omega (arith, is));
  to = λ is. absurd (omega (arith, is));
  quiet = λ not_named. absurd (not_named (inr (inr (inl refl))));
}
blamed before now (halts.To device.Ledger) b = record {
  none_fell = b.fell;
  output = λ is. absurd (omega (arith, is));
  from = λ is. absurd (omega (arith, is));
  tape = λ is. absurd (omega (arith, is));
  ledger = λ is. ledger_of_to before now b.cause.0 b.cause.1;
  to = λ is. absurd (omega (arith, is));
  quiet = λ not_named. absurd (not_named (inr (inr (inr (inl refl)))));
}
blamed before now (halts.To device.BadRoot) b = blamed_quiet 8 before now other_eight (same_to before now b.cause.0 b.cause.1)
blamed before now (halts.To (device.BadRecord addr)) b = blamed_quiet 9 before now other_nine (same_to before now b.cause.0 b.cause.1)
blamed before now (halts.To device.Memory) b = blamed_quiet 11 before now other_eleven (same_to before now b.cause.0 b.cause.1)

pub blamed_done : (before now : Counts) → Blames {X = Unit {0}} before now (Ok tt) → IsBlamedAt 0 before now
blamed_done before now b = blamed_quiet 0 before now other_zero b.quiet

pub blamed_two : (here : Counts) → IsBlamedAt 2 here here
blamed_two here = blamed_quiet 2 here here other_two refl

-- ---- words

pub no_words : {A B : Type 0} (spelled : A → B) (words : List A) → length words ≡ 0 → map spelled words ≡ []
no_words spelled [] none = refl
no_words spelled (word ∷ words) none = absurd (omega (arith, none))

pub some_words : {A B : Type 0} (spelled : A → B) (words : List A) → (length words == 0) ≡ false → map spelled words ≡ [] → ⊥
some_words spelled [] none same = cc
some_words spelled (word ∷ words) none same = cc
