-- What a list of traced addresses says of one of them.
use Rattle.std.proofs.Common.{◌≡◌, ◌≢◌, inl, inr, ℕ, zero, suc, ◌<◌, List, [], ◌∷◌, length, get_or, refl, sym, subst, ap, ◌∙◌, arith}
use Rattle.std.specs.Prelude.{AllPairs, Contains, Some}
use Rattle.std.proofs.lemmas.Bool.{cases_eq, eq-eqb, ne_eqb}
use Rattle.std.proofs.lemmas.Option.{none-some, same_Some}
use Rattle.platform.specs.Logged.{AllPairs-rest}
use Rattle.sdbt_base.specs.Traces.{TraceEntry, Traced}
use Rattle.key_graph.specs.Trace.{entry_in}

-- an item of the list says it
pub entry_has : (ts : List Traced) (addr : ℕ) (trace : TraceEntry) → entry_in ts addr ≡ Some trace → Contains ts (record { addr = addr; trace = trace })
entry_has [] addr trace is = absurd (none-some trace is)
entry_has (t ∷ ts) addr trace is = elim (cases_eq t.addr addr) [
  | inl same ↦
      (let found : t.trace ≡ trace = same_Some t.trace trace (sym (rw (eq-eqb t.addr addr same) refl) ∙ is) in
      (0, omega arith, (λ i. record { addr = same i; trace = found i })))
  | inr other ↦ (let rest = entry_has ts addr trace (sym (rw (ne_eqb t.addr addr other) refl) ∙ is) in (suc rest.0, omega (arith, rest.1), rest.2))
]

abbrev ApartAll : List Traced → Type 0
ApartAll = AllPairs (λ t u. t.addr ≢ u.addr)

-- where each address stands once, each item says what is said of its own
pub has_entry : (ts : List Traced) (t : Traced) (k : ℕ) → ApartAll ts → k < length ts → get_or ts k t ≡ t → entry_in ts t.addr ≡ Some t.trace
has_entry [] t k apart inside is = absurd (omega arith)
has_entry (x ∷ xs) t zero apart inside is = rw (eq-eqb x.addr t.addr (ap (λ (y : Traced). y.addr) is)) (ap (λ (y : Traced). Some y.trace) is)
has_entry (x ∷ xs) t (suc k) apart inside is =
    let other : x.addr ≢ t.addr = subst (λ (y : Traced). x.addr ≢ y.addr) is (apart 0 (suc k) t (omega arith) inside) in
    rw (ne_eqb x.addr t.addr other) (has_entry xs t k (AllPairs-rest (λ (t : Traced) (u : Traced). t.addr ≢ u.addr) x xs apart) (omega arith) is)
