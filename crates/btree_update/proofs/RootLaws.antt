-- How a root is opened.
use Rattle.std.proofs.Common.{◌≡◌, ℕ, suc, ◌<◌, ◌≤◌, List, sym, subst, ◌∙◌, arith}
use Rattle.std.proofs.lemmas.List.{same_from_push}
use Rattle.page_store.specs.Tree.{Mapped}
use Rattle.btree_twigs.specs.declared.twigs.Child.{Child, Child-F, out-Child}
use Rattle.btree_twigs.specs.declared.twigs.Child.TheOpen.{Kept, Grown}
use Rattle.btree_twigs.specs.declared.twigs.Twig.{Twig}
use Rattle.btree_twigs.specs.Stubs.{Stub, low_in, stubs, stubs_below, nodes, nodes_in, nodes_below}
use Rattle.btree_twigs.specs.Shape.{IsTwig}
use Rattle.btree_twigs.specs.Top.{top_least}
use Rattle.btree_update.specs.GroveTree.{Maps, MapsIn, want_at}
use Rattle.btree_update.specs.Held.{stub_at, Bound, AreBelow, HasLeast, IsReadAs, OnWay, HeldIn, HeldFor, AnyRead, IsTakenUp, CanOpenBelow}
use Rattle.btree_update.specs.Roots.{IsRoot, IsRootBy, HeldRoot, RootMaps}
use Rattle.btree_update.proofs.Places.{read_maps}
use Rattle.btree_update.proofs.OpenLaws.{up_by, up_below_by}
use Rattle.btree_update.proofs.Readings.{read_same}

-- what is known of the node that a root is then
pub record IsRootUp (Reads : ℕ → Stub → Twig → Type 0) (order block below high : ℕ) (x : Child-F Child Twig) (low : ℕ) (twig : Twig) (held : List Twig) : Type 0 where
  pub low_is : low ≡ 0
  pub shaped : IsTwig order below (top_least below) order 0 high twig
  pub few : nodes_below below twig ≤ nodes_in (nodes below) x
  pub on_way : OnWay block (λ high c. HeldFor Reads order block below high c held) high twig

pub root_low : (order below high : ℕ) (x : Child-F Child Twig) → IsRootBy order below high x → low_in x ≡ 0
root_low order below high (Kept low addr key) h = h
root_low order below high (Grown low twig) h = h.0

pub root_least : (order below high : ℕ) (x : Child-F Child Twig) → IsRootBy order below high x → HasLeast order (top_least below) below high x
root_least order below high (Kept low addr key) h = tt
root_least order below high (Grown low twig) h = subst (λ l. IsTwig order below (top_least below) order l high twig) (sym h.0) h.1

pub root_up : (Reads : ℕ → Stub → Twig → Type 0) (order block below high : ℕ) (top new : Child) (held rest : List Twig) (low : ℕ) (twig : Twig) →
    IsRoot order below high top → HeldRoot Reads order block below high top held → IsTakenUp (out-Child top) new held rest → out-Child new ≡ Grown low twig → IsRootUp Reads order block below high (out-Child top) low twig rest
root_up Reads order block below high top new held rest low twig root h t is =
    let u = up_by Reads order (top_least below) block below high (HeldFor Reads order block below) (out-Child top) new held rest low twig (root_least order below high (out-Child top) root) h t is in
    let low_is : low ≡ 0 = u.low_is ∙ root_low order below high (out-Child top) root in
    record { low_is = low_is; shaped = subst (λ l. IsTwig order below (top_least below) order l high twig) low_is u.shaped; few = u.few; on_way = u.on_way }

abbrev grown_of : ℕ → Twig → Child-F Child Twig
grown_of low twig = Grown low twig

root_maps_by : (pages : List (List ℕ)) (order block below high : ℕ) (x : Child-F Child Twig) (new : Child) (held rest : List Twig) (low : ℕ) (twig : Twig) (mapped : List Mapped) →
    HeldIn (IsReadAs pages order) order (top_least below) block (HeldFor (IsReadAs pages order) order block below) below high x held → IsTakenUp x new held rest → out-Child new ≡ Grown low twig → MapsIn pages order (top_least below) below high x mapped → Maps pages order (stubs_below below high twig) mapped
root_maps_by pages order block below high (Kept low' addr key) new held rest low twig mapped h t is m =
    let same = same_from_push h.rest rest h.twig t.0 (sym h.is ∙ t.1) in
    let grown : grown_of low' t.0 ≡ grown_of low twig = sym t.2 ∙ is in
    let twigs : t.0 ≡ twig = cc in
    let r = read_maps pages order below (want_at order (suc below) low' high addr (top_least below)) key m.0 h.reads.entries h.reads.small m.1 h.reads.here in
    subst (λ w. Maps pages order (stubs_below below high w) mapped) (same.1 ∙ twigs)
    (subst (λ ss. Maps pages order ss mapped) (sym (read_same pages order below (stub_at (suc below) low' high addr key) h.twig h.reads)) (subst (Maps pages order _) (sym m.2) r))
root_maps_by pages order block below high (Grown low' twig') new held rest low twig mapped h t is m =
    let grown : grown_of low' twig' ≡ grown_of low twig = sym t.0 ∙ is in
    let twigs : twig' ≡ twig = cc in
    subst (λ w. Maps pages order (stubs_below below high w) mapped) twigs m

pub root_maps : (pages : List (List ℕ)) (order block below high : ℕ) (top new : Child) (held rest : List Twig) (low : ℕ) (twig : Twig) (mapped : List Mapped) →
    HeldRoot (IsReadAs pages order) order block below high top held → IsTakenUp (out-Child top) new held rest → out-Child new ≡ Grown low twig → RootMaps pages order below high top mapped → Maps pages order (stubs_below below high twig) mapped
root_maps pages order block below high top new held rest low twig mapped h t is m = root_maps_by pages order block below high (out-Child top) new held rest low twig mapped h t is m

pub root_below : (order block below high : ℕ) (most : Bound) (top new : Child) (held rest : List Twig) (low : ℕ) (twig : Twig) →
    HeldRoot AnyRead order block below high top held → IsTakenUp (out-Child top) new held rest → out-Child new ≡ Grown low twig → AreBelow most (stubs (suc below) high top) → AreBelow most (stubs_below below high twig)
unfolding stubs
root_below order block below high most top new held rest low twig h t is b = up_below_by order (top_least below) block below high most (HeldFor AnyRead order block below) (out-Child top) new held rest low twig h t is b

abbrev pub below_root : (order block below level high low : ℕ) (x : Child-F Child Twig) (twig : Twig) (held : List Twig) → level ≡ below → block < high → IsRootUp AnyRead order block below high x low twig held → CanOpenBelow level block held twig
below_root order block below level high low x twig held is to u = record {
  order = order;
  least = top_least below;
  low = 0;
  high = high;
  shaped = subst (λ l. IsTwig order l (top_least below) order 0 high twig) (sym is) u.shaped;
  from = omega arith;
  to = to;
  at_hand = subst (λ l. OnWay block (λ high c. HeldFor AnyRead order block l high c held) high twig) (sym is) u.on_way;
}
