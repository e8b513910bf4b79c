-- The certificate of a tree that has no place of the one before it.
use Rattle.std.proofs.Common.{◌≡◌, ◌≢◌, ℕ, ◌<◌, ◌≤◌, List, [], All, subst, arith}
use Rattle.std.specs.Prelude.{AllPairs, Contains, None, Some}
use Rattle.std.proofs.lemmas.List.Elements.{All-weaker, All-contains}
use Rattle.sdbt_base.specs.Traces.{Traced}
use Rattle.key_graph.specs.Trace.{Has}
use Rattle.page_store.specs.Tree.{Place}
use Rattle.page_store.proofs.ApartLaws.{AreApart}
use Rattle.cert_maker.specs.Differ.{Differ}
use Rattle.cert_maker.specs.Trace.{entries_of}
use Rattle.cert_maker.proofs.SaidLaws.{said, says, silent, known_in}
use Rattle.tree_build.specs.Nodes.{traced_of}

-- ---- two trees

-- the one lies below an address and the other from it on; and the lists have just what the other one says, and the addresses of the one
pub record IsAnew (old new : List Place) (head : ℕ) (added : List Traced) (gone : List ℕ) : Type 0 where
  pub below : All (λ p. p.addr < head) old
  pub after : All (λ p. head ≤ p.addr) new
  pub apart : AllPairs AreApart new
  pub of_new : (t : Traced) → Contains added t → (p : Place) × Contains new p × (traced_of p ≡ t)
  pub adds : (p : Place) → Contains new p → Contains added (traced_of p)
  pub of_old : (addr : ℕ) → Contains gone addr → (p : Place) × Contains old p × (p.addr ≡ addr)
  pub lets_go : (p : Place) → Contains old p → Contains gone p.addr

none_old : (old new : List Place) (head : ℕ) (added : List Traced) (gone : List ℕ) → IsAnew old new head added gone → (p : Place) → Contains new p → entries_of old p.addr ≡ None
none_old old new head added gone is p has =
    let from : head ≤ p.addr = All-contains (λ (q : Place). head ≤ q.addr) new p is.after has in
    silent old p.addr (All-weaker (λ (q : Place). q.addr < head) (λ (q : Place). q.addr ≢ p.addr) (λ q under same. omega (arith, from, under, same)) old is.below)

none_new : (old new : List Place) (head : ℕ) (added : List Traced) (gone : List ℕ) → IsAnew old new head added gone → (p : Place) → Contains old p → entries_of new p.addr ≡ None
none_new old new head added gone is p has =
    let under : p.addr < head = All-contains (λ (q : Place). q.addr < head) old p is.below has in
    silent new p.addr (All-weaker (λ (q : Place). head ≤ q.addr) (λ (q : Place). q.addr ≢ p.addr) (λ q from same. omega (arith, from, under, same)) new is.after)

pub anew_differs : (old new : List Place) (head : ℕ) (added : List Traced) (gone : List ℕ) → IsAnew old new head added gone → Differ (entries_of old) (entries_of new) [] added gone []
anew_differs old new head added gone is = record {
  in_new = λ t. (
    λ has.
        let p = is.of_new t has in
        subst (λ (u : Traced). (entries_of new u.addr ≡ Some u.trace) × (entries_of old u.addr ≡ None)) p.2
        (says new p.1.0 p.0 is.apart p.1.1 p.1.2, none_old old new head added gone is p.0 p.1),
    λ both.
        let p = said new t.addr t.trace both.0 in
        subst (Contains added) (λ i. record { addr = p.2 i; trace = p.3 i }) (is.adds p.0 p.1),
  );
  in_old = λ addr. (
    λ has.
        let p = is.of_old addr has in
        subst (λ (a : ℕ). Has (entries_of old) a × (entries_of new a ≡ None)) p.2 (known_in old p.0 p.1, none_new old new head added gone is p.0 p.1),
    λ both.
        let p = said old addr both.0.trace both.0.is in
        subst (Contains gone) p.2 (is.lets_go p.0 p.1),
  );
  in_neither = λ page. (λ has. absurd (omega (arith, has.1)), λ all. all.0);
}
