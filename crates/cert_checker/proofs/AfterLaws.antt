-- What a certificate makes of one address.
use Rattle.std.proofs.Common.{◌≡◌, ◌⊎◌, inl, inr, ℕ, zero, suc, ◌<◌, true, false, List, [], ◌∷◌, length, get_or, refl, sym, ◌∙◌, arith}
use Rattle.std.specs.Prelude.{Option, None, Some, Contains, ◌==◌}
use Rattle.std.proofs.lemmas.Bool.{eq-eqb, eqb-true, or_cases, or_left, or_right, false≢true, cases_Bool, both_ways}
use Rattle.std.proofs.lemmas.Option.{none-some}
use Rattle.key_graph.specs.Trace.{Entries, Has, IsChild}
use Rattle.sdbt_base.specs.Traces.{TraceEntry, NodeOver}
use Rattle.cert_maker.specs.Cert.{Cert}
use Rattle.cert_checker.specs.Rules.{is_listed, after, added_by}

listed_at : (xs : List ℕ) (k a : ℕ) → k < length xs → get_or xs k a ≡ a → is_listed xs a ≡ true
listed_at [] k a inside same = absurd (omega arith)
listed_at (x ∷ xs) zero a inside same = or_left (x == a) (is_listed xs a) (eq-eqb x a same)
listed_at (x ∷ xs) (suc k) a inside same = or_right (x == a) (is_listed xs a) (listed_at xs k a (omega arith) same)

pub listed : (xs : List ℕ) (a : ℕ) → Contains xs a → is_listed xs a ≡ true
listed xs a inside = listed_at xs inside.0 a inside.1 inside.2

pub listed_contains : (xs : List ℕ) (a : ℕ) → is_listed xs a ≡ true → Contains xs a
listed_contains [] a is_so = absurd (false≢true is_so)
listed_contains (x ∷ xs) a is_so =
    elim (or_cases (x == a) (is_listed xs a) is_so) [
      | inl first ↦ (0, omega arith, eqb-true x a first)
      | inr later ↦ (let c = listed_contains xs a later in (suc c.0, omega arith, c.2))
    ]

pub cases : (o : Option TraceEntry) → (o ≡ None) ⊎ ((t : TraceEntry) × (o ≡ Some t))
cases None = inl refl
cases (Some t) = inr (t, refl)

pub has_or_not : (entries : Entries) (a : ℕ) → (entries a ≡ None) ⊎ Has entries a
has_or_not entries a = elim (cases (entries a)) [ inl none ↦ inl none | inr some ↦ inr (record { trace = some.0; is = some.1 }) ]

pub has_not : {P : Type 0} (entries : Entries) (a : ℕ) → Has entries a → entries a ≡ None → P
has_not entries a has none = absurd (none-some has.trace (sym none ∙ has.is))

-- a node has an entry
pub parent_has : (entries : Entries) (p c : ℕ) → IsChild entries p c → Has entries p
parent_has entries p c child = record { trace = NodeOver child.children; is = child.node }

-- what becomes of an address
pub data Fate (live : Entries) (cert : Cert) (a : ℕ) : Type 0 where
  IsAdded : (t : TraceEntry) → added_by cert a ≡ Some t → after live cert a ≡ Some t → Fate live cert a
  Goes : added_by cert a ≡ None → Contains cert.gone a → after live cert a ≡ None → Fate live cert a
  Stays : added_by cert a ≡ None → (Contains cert.gone a → ⊥) → after live cert a ≡ live a → Fate live cert a

after_added : (live : Entries) (cert : Cert) (a : ℕ) (t : TraceEntry) → added_by cert a ≡ Some t → after live cert a ≡ Some t
unfolding after
after_added live cert a t is = rw is refl

after_gone : (live : Entries) (cert : Cert) (a : ℕ) → added_by cert a ≡ None → is_listed cert.gone a ≡ true → after live cert a ≡ None
unfolding after
after_gone live cert a is is_so = rw (is, is_so) refl

after_stays : (live : Entries) (cert : Cert) (a : ℕ) → added_by cert a ≡ None → is_listed cert.gone a ≡ false → after live cert a ≡ live a
unfolding after
after_stays live cert a is not_so = rw (is, not_so) refl

pub fate : (live : Entries) (cert : Cert) (a : ℕ) → Fate live cert a
fate live cert a = elim (cases (added_by cert a)) [
  | inr some ↦ IsAdded some.0 some.1 (after_added live cert a some.0 some.1)
  | inl none ↦ elim (cases_Bool (is_listed cert.gone a)) [
    | inl is_so ↦ Goes none (listed_contains cert.gone a is_so) (after_gone live cert a none is_so)
    | inr not_so ↦ Stays none (λ inside. both_ways (is_listed cert.gone a) not_so (listed cert.gone a inside)) (after_stays live cert a none not_so)
  ]
]
