-- What the places of a tree say of an address.
use Rattle.std.proofs.Common.{◌≡◌, ◌≢◌, inl, inr, ℕ, zero, suc, ◌<◌, List, [], ◌∷◌, All, length, get_or, refl, sym, ap, subst, ◌∙◌, arith}
use Rattle.std.specs.Prelude.{AllPairs, Contains, None, Some}
use Rattle.std.proofs.lemmas.Bool.{cases_eq, eq-eqb, ne_eqb}
use Rattle.std.proofs.lemmas.Option.{none-some, same_Some}
use Rattle.std.proofs.lemmas.List.Elements.{All-head, All-tail, Contains-append_right}
use Rattle.platform.specs.Logged.{AllPairs-rest}
use Rattle.sdbt_base.specs.Traces.{TraceEntry}
use Rattle.key_graph.specs.Trace.{Has}
use Rattle.page_store.specs.Tree.{Place}
use Rattle.page_store.proofs.ApartLaws.{AreApart}
use Rattle.cert_maker.specs.Trace.{entries_of}

pub said : (places : List Place) (addr : ℕ) (trace : TraceEntry) → entries_of places addr ≡ Some trace → (p : Place) × Contains places p × (p.addr ≡ addr) × (p.trace ≡ trace)
said [] addr trace is = absurd (none-some trace is)
said (p ∷ ps) addr trace is = elim (cases_eq p.addr addr) [
  | inl same ↦ (p, (0, omega arith, refl), same, same_Some p.trace trace (sym (rw (eq-eqb p.addr addr same) refl) ∙ is))
  | inr other ↦ (let rest = said ps addr trace (sym (rw (ne_eqb p.addr addr other) refl) ∙ is) in (rest.0, Contains-append_right (p ∷ []) ps rest.0 rest.1, rest.2, rest.3))
]

pub says : (places : List Place) (k : ℕ) (p : Place) → AllPairs AreApart places → k < length places → get_or places k p ≡ p → entries_of places p.addr ≡ Some p.trace
says [] k p apart within is = absurd (omega (arith, within))
says (q ∷ qs) zero p apart within is = rw (eq-eqb q.addr p.addr (ap (λ (y : Place). y.addr) is)) (ap (λ (y : Place). Some y.trace) is)
says (q ∷ qs) (suc k) p apart within is =
    let other : q.addr ≢ p.addr = subst (λ (y : Place). q.addr ≢ y.addr) is (apart 0 (suc k) p (omega arith) within) in
    rw (ne_eqb q.addr p.addr other) (says qs k p (AllPairs-rest AreApart q qs apart) (omega (arith, within)) is)

-- of an address that no place has they say nothing
pub silent : (places : List Place) (addr : ℕ) → All (λ p. p.addr ≢ addr) places → entries_of places addr ≡ None
silent [] addr none = refl
silent (p ∷ ps) addr none = rw (ne_eqb p.addr addr (All-head (λ (q : Place). q.addr ≢ addr) p ps none)) (silent ps addr (All-tail (λ (q : Place). q.addr ≢ addr) p ps none))

pub known_in : (places : List Place) (p : Place) → Contains places p → Has (entries_of places) p.addr
known_in [] p (i, within, is) = absurd (omega (arith, within))
known_in (q ∷ qs) p has = elim (cases_eq q.addr p.addr) [
  | inl same ↦ record { trace = q.trace; is = rw (eq-eqb q.addr p.addr same) refl }
  | inr other ↦ behind has other (known_in qs p)
]
  where
    behind : Contains (q ∷ qs) p → (q.addr ≡ p.addr → ⊥) → (Contains qs p → Has (entries_of qs) p.addr) → Has (entries_of (q ∷ qs)) p.addr
    behind (zero, within, is) other below = absurd (other (ap (λ (y : Place). y.addr) is))
    behind (suc i, within, is) other below = let rest = below (i, omega (arith, within), is) in record { trace = rest.trace; is = rw (ne_eqb q.addr p.addr other) rest.is }
