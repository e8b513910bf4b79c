-- Lists that two trees say, in order, are their certificate.
use Rattle.std.proofs.Common.{◌≡◌, inl, inr, ◌<◌, ℕ, zero, suc, List, [], ◌∷◌, length, get_or, refl, sym, ap, ap₂, subst, ◌∙◌, arith}
use Rattle.std.specs.Prelude.{AllPairs, Contains, Some}
use Rattle.std.proofs.lemmas.Bool.{cases_eq, eq-eqb, ne_eqb}
use Rattle.std.proofs.lemmas.Option.{none-some, same_Some}
use Rattle.sdbt_base.specs.declared.lists.Unkept.{Unkept}
use Rattle.key_graph.specs.Trace.{Entries, entry_in}
use Rattle.sdbt_base.specs.Traces.{TraceEntry, Traced}
use Rattle.cert_maker.specs.Cert.{Cert}
use Rattle.cert_maker.specs.CertOf.{CertOf}
use Rattle.cert_maker.specs.Ordered.{AreOneEach, IsOrderOf}
use Rattle.cert_maker.specs.Differ.{Differ}

abbrev Ascend : List Traced → Type 0
Ascend = AllPairs (λ one next. one.addr < next.addr)

as_traced : ℕ → TraceEntry → Traced
as_traced addr trace = record { addr = addr; trace = trace }

entry_has : (xs : List Traced) (addr : ℕ) (trace : TraceEntry) → entry_in xs addr ≡ Some trace → Contains xs (as_traced addr trace)
unfolding as_traced
entry_has [] addr trace is = absurd (none-some trace is)
entry_has (x ∷ xs) addr trace is = elim (cases_eq x.addr addr) [
  | inl same ↦
      (let found : x.trace ≡ trace = same_Some x.trace trace (sym (rw (eq-eqb x.addr addr same) refl) ∙ is) in
      (0, omega arith, ap₂ as_traced same found))
  | inr other ↦ (let rest = entry_has xs addr trace (sym (rw (ne_eqb x.addr addr other) refl) ∙ is) in (suc rest.0, omega (arith, rest.1), rest.2))
]

has_entry : (xs : List Traced) (t : Traced) (k : ℕ) → Ascend xs → k < length xs → get_or xs k t ≡ t → entry_in xs t.addr ≡ Some t.trace
has_entry [] t k up inside is = absurd (omega arith)
has_entry (x ∷ xs) t zero up inside is = rw (eq-eqb x.addr t.addr (ap (λ (y : Traced). y.addr) is)) (ap (λ (y : Traced). Some y.trace) is)
has_entry (x ∷ xs) t (suc k) up inside is =
    let apart : x.addr < t.addr = subst (λ (y : Traced). x.addr < y.addr) is (up 0 (suc k) t (omega arith) inside) in
    rw (ne_eqb x.addr t.addr (λ e. omega (arith, e)))
    (has_entry xs t k (λ i j d below within. up (suc i) (suc j) d (omega arith) (omega arith)) (omega arith) is)

pub certifies : (old new : Entries) (commit root base head : ℕ) (pages : List Unkept) (added : List Traced) (gone : List ℕ) (never : List Unkept) (cert : Cert)
    → Differ old new pages added gone never → cert.commit ≡ commit → cert.root ≡ root → cert.base ≡ base → cert.head ≡ head
    → IsOrderOf (λ item. item.addr) added cert.added → IsOrderOf (λ addr. addr) gone cert.gone → IsOrderOf (λ page. page.addr) never cert.never
    → CertOf old new commit root base head pages cert
unfolding as_traced
certifies old new commit root base head pages added gone never cert differ numbered rooted begins ends adds goes lapses = record {
  numbered = numbered;
  rooted = rooted;
  begins = begins;
  ends = ends;
  added = λ addr trace.
      let t = as_traced addr trace in
      let there = differ.in_new t in
      let same = adds.same t in (
        λ is. there.0 (same.0 (entry_has cert.added addr trace is)),
        λ both. let has = same.1 (there.1 both) in has_entry cert.added t has.0 adds.ascends has.1 has.2,
      );
  gone = λ addr. let there = differ.in_old addr in let same = goes.same addr in (λ has. there.0 (same.0 has), λ both. same.1 (there.1 both));
  never = λ page. let there = differ.in_neither page in let same = lapses.same page in (λ has. there.0 (same.0 has), λ all. same.1 (there.1 all));
  added_ascend = adds.ascends;
  gone_ascend = goes.ascends;
  never_ascend = lapses.ascends;
}

-- what a tree says of its addresses are one item each
pub one_each : (old new : Entries) (pages : List Unkept) (added : List Traced) (gone : List ℕ) (never : List Unkept) → Differ old new pages added gone never → AreOneEach (λ item. item.addr) added
unfolding as_traced
one_each old new pages added gone never differ one other has there same =
    let first : new one.addr ≡ Some one.trace = ((differ.in_new one).0 has).0 in
    let second : new other.addr ≡ Some other.trace = ((differ.in_new other).0 there).0 in
    let traces : one.trace ≡ other.trace = same_Some one.trace other.trace (sym first ∙ ap new same ∙ second) in
    ap₂ as_traced same traces
