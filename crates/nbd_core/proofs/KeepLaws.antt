-- The room of replies.
use Rattle.std.proofs.Common.{◌≡◌, ◌≤◌, ◌<◌, ◌+◌, ◌∙◌, ℕ, Bool, true, false, Option, None, Some, inl, inr, ap, refl, sym, arith}
use Rattle.std.specs.Prelude.{nat_lt}
use Rattle.std.proofs.lemmas.Bool.{cases_lt}
use Rattle.std.proofs.lemmas.Bool.Decides.{nat_tests}
use Rattle.nbd_lang.specs.Refusals.{refusal, refusal_by}
use Rattle.nbd_lang.specs.declared.replies.Outcome.{Outcome}
use Rattle.nbd_lang.specs.declared.requests.Request.{Request}
use Rattle.nbd_lang.specs.declared.requests.RequestKind.{RequestKind}
use Rattle.nbd_lang.specs.declared.requests.RequestKind.TheVariants as kinds
use Rattle.nbd_core.specs.Ample.{unless_refused}
use Rattle.nbd_core.specs.Rooms.{KeepsRoom, room_at, room_for}

pub keeps_same : (most before now capacity capacity_now : ℕ) → now ≡ before → capacity_now ≡ capacity → KeepsRoom most before now capacity capacity_now
keeps_same most before now capacity capacity_now same block = record { kept = omega (arith, same); at_most = λ more. omega (arith, more, same); idle = λ none. block }

-- it takes as much in another way
pub keeps_as : (few most before now capacity capacity_now : ℕ) → few ≡ most → KeepsRoom few before now capacity capacity_now → KeepsRoom most before now capacity capacity_now
keeps_as few most before now capacity capacity_now same keeps = record { kept = keeps.kept; at_most = λ more. omega (arith, keeps.at_most more, same); idle = λ none. keeps.idle (omega (arith, none, same)) }

-- behind it nothing more is taken
pub keeps_on : (most before mid now capacity capacity_mid capacity_now : ℕ) → KeepsRoom most before mid capacity capacity_mid → now ≡ mid → capacity_now ≡ capacity_mid → KeepsRoom most before now capacity capacity_now
keeps_on most before mid now capacity capacity_mid capacity_now keeps same block = record { kept = omega (arith, keeps.kept, same); at_most = λ more. omega (arith, keeps.at_most (omega (arith, more, same)), same); idle = λ none. block ∙ keeps.idle none }

-- one behind another, where neither takes more than this
pub keeps_then : (few most before mid now capacity capacity_mid capacity_now : ℕ) → 0 < most → few ≤ most → KeepsRoom most before mid capacity capacity_mid → KeepsRoom few mid now capacity_mid capacity_now → KeepsRoom most before now capacity capacity_now
keeps_then few most before mid now capacity capacity_mid capacity_now some le one other = record {
  kept = omega (arith, one.kept, other.kept);
  at_most = λ more. elim (cases_lt mid now) [
    | inl rose ↦ omega (arith, other.at_most rose, le)
    | inr stayed ↦ omega (arith, stayed, one.at_most (omega (arith, more, stayed)))
  ];
  idle = λ none. absurd (omega (arith, none, some));
}

-- ---- the greatest reply

nothing_unless : (refused : Option Outcome) → unless_refused refused 0 ≡ 0
nothing_unless None = refl
nothing_unless (Some why) = refl

room_by : (kind : RequestKind) (flags past : Bool) (n : ℕ) → unless_refused (refusal_by kind flags (nat_lt 33554432 n) past) (room_at kind n) ≤ 33554448
room_by kinds.Read true past n = omega arith
room_by kinds.Read false past n = of (nat_lt 33554432 n) refl past
  where
    of : (long : Bool) → nat_lt 33554432 n ≡ long → (past : Bool) → unless_refused (refusal_by kinds.Read false long past) (16 + n) ≤ 33554448
    of true is past = omega arith
    of false is true = omega arith
    of false is false = elim (cases_lt 33554432 n) [
      | inl more ↦
          let fails : nat_lt 33554432 n ≡ true = grind (arith, nat_tests) in
          absurd (let no : true ≡ false = sym fails ∙ is in cc)
      | inr few ↦ omega (arith, few)
    ]
room_by kinds.Write flags past n = omega (arith, nothing_unless (refusal_by kinds.Write flags (nat_lt 33554432 n) past))
room_by kinds.Trim flags past n = omega (arith, nothing_unless (refusal_by kinds.Trim flags (nat_lt 33554432 n) past))
room_by kinds.Flush flags past n = omega (arith, nothing_unless (refusal_by kinds.Flush flags (nat_lt 33554432 n) past))
room_by kinds.Disconnect flags past n = omega (arith, nothing_unless (refusal_by kinds.Disconnect flags (nat_lt 33554432 n) past))
room_by (kinds.Other number) flags past n = omega (arith, nothing_unless (refusal_by (kinds.Other number) flags (nat_lt 33554432 n) past))

pub room_most : (size : ℕ) (request : Request) → room_for size request ≤ 33554448
room_most size request = room_by request.kind (nat_lt 0 request.flags) (nat_lt size (request.offset + request.length)) request.length

-- what such a request takes
pub room_is : (refused : Option Outcome) (kind other : RequestKind) (n : ℕ) → refused ≡ None → kind ≡ other → room_at other n ≡ unless_refused refused (room_at kind n)
room_is refused kind other n whole is = ap (λ (k : RequestKind). room_at k n) (sym is) ∙ ap (λ (r : Option Outcome). unless_refused r (room_at kind n)) (sym whole)

pub room_refused : (size : ℕ) (request : Request) (refused : Option Outcome) → refused ≡ refusal size request → unless_refused refused (room_at request.kind request.length) ≡ room_for size request
room_refused size request refused whole = ap (λ (r : Option Outcome). unless_refused r (room_at request.kind request.length)) whole
