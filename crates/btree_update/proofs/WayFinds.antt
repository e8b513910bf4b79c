-- What is found of a block on the way to it.
use Rattle.std.proofs.Common.{Option, None, Some, ◌≡◌, ◌≢◌, ◌↔◌, ℕ, zero, suc, ◌-◌, ◌/◌, ◌<◌, ◌≤◌, List, [], ◌∷◌, Bool, true, false, IsTrue, get_or, take, drop, refl, sym, ap, subst, ◌∙◌, arith}
use Rattle.std.specs.Bool.{OnTrue, OnFalse}
use Rattle.std.proofs.lemmas.Bool.{false≢true}
use Rattle.node_codec.specs.declared.body.Entry.{Entry}
use Rattle.node_codec.specs.Record.{Record, NodeRecord}
use Rattle.btree_update.specs.Reading.{all_kept}
use Rattle.page_store.specs.declared.wants.Want.{Want}
use Rattle.page_store.specs.Places.{FitsAt}
use Rattle.btree_walk.specs.Finds.{Finds}
use Rattle.btree_twigs.specs.declared.twigs.Child.{Child, Child-F, out-Child}
use Rattle.btree_twigs.specs.declared.twigs.Child.TheOpen.{Kept, Grown}
use Rattle.btree_twigs.specs.declared.twigs.Child.TheVariants as made
use Rattle.btree_twigs.specs.declared.twigs.Twig.{Twig}
use Rattle.btree_twigs.specs.declared.twigs.Spot.TheVariants.{Found, Absent, Below}
use Rattle.btree_twigs.specs.Stubs.{Stub, datum, start_by, low_in, low_of, children_of, stubs, stubs_in, stubs_below}
use Rattle.btree_twigs.specs.Shape.{EachBy, Begins, IsChild, IsTwig}
use Rattle.btree_twigs.specs.Updates.{stubs_under}
use Rattle.btree_twigs.specs.Search.{IsAt}
use Rattle.btree_twigs.specs.Top.{top_least}
use Rattle.btree_twigs.proofs.ListLaws.{each_back}
use Rattle.btree_twigs.proofs.Children.{one_datum}
use Rattle.btree_twigs.proofs.Finds.{none_before, found_below, at_one, at_none}
use Rattle.btree_update.specs.declared.siblings.Left.{Left}
use Rattle.btree_update.specs.declared.siblings.Left.TheVariants.{Unmapped, Enough, Short}
use Rattle.btree_update.specs.GroveTree.{want_at}
use Rattle.btree_update.specs.Held.{stub_at}
use Rattle.btree_update.specs.Roots.{IsRootBy}
use Rattle.btree_update.specs.Beside.{HoldsBeside}
use Rattle.btree_update.specs.Holding.{CanHoldBelow, IsNodeFor, IsNodeOf}
use Rattle.btree_update.specs.Finding.{FindsBelow, FindsAmong, ChildFindsBy, ChildFinds, RootFindsBy, RootFinds, IsFoundBy}
use Rattle.btree_update.proofs.OpenLaws.{IsOnWay}
use Rattle.btree_update.proofs.Readings.{start_is, kept_stubs}
use Rattle.btree_update.proofs.WrongLaws.{read_fits}
use Rattle.btree_update.proofs.FoundLaws.{root_want}
use Rattle.btree_update.proofs.NodeFinds.{node_finds}

pub found_as : (A B : Option Entry → Type 0) (left : Left) → ((found : Option Entry) → A found → B found) → IsFoundBy A left → IsFoundBy B left
found_as A B Unmapped f h = f None h
found_as A B Enough f h = (h.0, f (Some h.0) h.1)
found_as A B Short f h = (h.0, f (Some h.0) h.1)

-- what is held beside does not change that
pub beside_found : (Finds : Option Entry → Type 0) (Reads : ℕ → Stub → Twig → Type 0) (order below width high : ℕ) (fs : List Child) (c : Child) (bs : List Child) (old new : List (Option Twig)) (left after : Left) →
    HoldsBeside Reads order below width high fs c bs old new left after → IsFoundBy Finds left → IsFoundBy Finds after
beside_found Finds Reads order below width high fs c bs old new Unmapped after h f = subst (IsFoundBy Finds) (sym h) f
beside_found Finds Reads order below width high fs c bs old new Enough Unmapped h f = absurd h.1
beside_found Finds Reads order below width high fs c bs old new Enough Enough h f = f
beside_found Finds Reads order below width high fs c bs old new Enough Short h f = f
beside_found Finds Reads order below width high fs c bs old new Short Unmapped h f = absurd h.left
beside_found Finds Reads order below width high fs c bs old new Short Enough h f = f
beside_found Finds Reads order below width high fs c bs old new Short Short h f = f

-- as a truth value
pub told_found : (Finds : Option Entry → Type 0) (left : Left) (b : Bool) → IsTrue b ↔ ¬ (left ≡ Unmapped) → IsFoundBy Finds left → OnTrue b ((entry : Entry) × Finds (Some entry)) × OnFalse b (Finds None)
told_found Finds Unmapped true i h = absurd (i.0 refl refl)
told_found Finds Unmapped false i h = (tt, h)
told_found Finds Enough true i h = (h, tt)
told_found Finds Enough false i h = absurd (false≢true (i.1 (λ e. absurd cc)))
told_found Finds Short true i h = (h, tt)
told_found Finds Short false i h = absurd (false≢true (i.1 (λ e. absurd cc)))

module _ (Fits : Want → List ℕ → Record → Type 0) (order level least low high block : ℕ) (twig : Twig) (shaped : IsTwig order level least order low high twig) where
  -- before the first child there is nothing
  pub first_finds : block < start_by low_of (children_of twig) high → FindsAmong Fits order block (stubs_below level high twig) None
  first_finds lt = record { spot = Absent; is = none_before order level least order low high block (children_of twig) shaped.node lt; finds = refl }

  module _ (n : ℕ) (c : Child) (w : IsOnWay order block level high (children_of twig) n c) where
    -- what is found below the child on the way is found below the node
    pub way_finds : (found : Option Entry) → FindsAmong Fits order block (stubs level (start_by low_of (drop (suc w.at) (children_of twig)) high) c) found → FindsAmong Fits order block (stubs_below level high twig) found
    way_finds found f =
        let one : suc w.at - 1 ≡ w.at = omega arith in
        let here = subst (λ i. c ≡ get_or (children_of twig) i c) (sym one) w.here in
        record {
          spot = f.spot;
          is = found_below order level least order low high block (children_of twig) shaped.node (suc w.at) c f.spot (omega arith) (omega (arith, w.within)) here w.from w.to (λ is. f.is);
          finds = f.finds;
        }

-- a data record is there for its block, and for no other
datum_finds : (Fits : Want → List ℕ → Record → Type 0) (order block low addr : ℕ) (key : List ℕ) (left : Left) → low ≤ block → (is_it : Bool) → (IsTrue is_it → low ≡ block) → (low ≡ block → IsTrue is_it) → OnTrue is_it (left ≢ Unmapped) → OnFalse is_it (left ≡ Unmapped) →
    IsFoundBy (FindsAmong Fits order block (datum low addr key ∷ [])) left
datum_finds Fits order block low addr key left le true f g t u = there left t
  where
    here : (entry : Entry) × FindsAmong Fits order block (datum low addr key ∷ []) (Some entry)
    here = (
      record { low = block; addr = addr; key = key },
      record { spot = Found addr key; is = subst (λ b. IsAt block (datum low addr key ∷ []) (datum b addr key ∷ [])) (f refl) (at_one block (datum low addr key)); finds = refl },
    )

    there : (left : Left) → left ≢ Unmapped → IsFoundBy (FindsAmong Fits order block (datum low addr key ∷ [])) left
    there Unmapped t = absurd (t refl)
    there Enough t = here
    there Short t = here
datum_finds Fits order block low addr key left le false f g t u =
    let other : low ≢ block = λ same. false≢true (g same) in
    subst (IsFoundBy (FindsAmong Fits order block (datum low addr key ∷ []))) (sym u)
    (record { spot = Absent; is = at_none block (datum low addr key) (omega (arith, le, other)); finds = refl })

-- in a leaf the child on the way decides
pub leaf_finds : (Fits : Want → List ℕ → Record → Type 0) (order level least low high block n : ℕ) (twig : Twig) (c : Child) → level ≡ 0 → IsTwig order level least order low high twig → (w : IsOnWay order block level high (children_of twig) n c) → (left : Left) →
    (is_it : Bool) → (IsTrue is_it → low_of c ≡ block) → (low_of c ≡ block → IsTrue is_it) → OnTrue is_it (left ≢ Unmapped) → OnFalse is_it (left ≡ Unmapped) → IsFoundBy (FindsAmong Fits order block (stubs_below level high twig)) left
leaf_finds Fits order (suc level) least low high block n twig c is shaped w left is_it f g t u = absurd (omega (arith, is))
leaf_finds Fits order zero least low high block n twig c is shaped w left is_it f g t u =
    let bs = drop (suc w.at) (children_of twig) in
    let end = start_by low_of bs high in
    let back = each_back low_of (IsChild order 0) high (take w.at (children_of twig)) (c ∷ bs) (subst (EachBy low_of (IsChild order 0) high) w.split shaped.node.each) in
    let one = one_datum order end c back.1 in
    found_as (FindsAmong Fits order block (stubs 0 end c)) (FindsAmong Fits order block (stubs_below 0 high twig)) left (way_finds Fits order 0 least low high block twig shaped n c w)
    (subst (λ ss. IsFoundBy (FindsAmong Fits order block ss) left) (sym (one.stubs_are end)) (datum_finds Fits order block (low_of c) one.addr one.key left w.from is_it f g t u))

-- what is found from a child on is found among its places
child_in : (Fits : Want → List ℕ → Record → Type 0) (order block below high : ℕ) (x : Child-F Child Twig) (found : Option Entry) → low_in x ≤ block → block < high → ChildFindsBy Fits order (order / 2) block below high x found →
    FindsAmong Fits order block (stubs_in (stubs below) (suc below) high x) found
child_in Fits order block below high (Kept low addr key) found from to f =
    record { spot = Below (suc below) low high addr key; is = (omega arith, from, to, at_one block (stub_at (suc below) low high addr key)); finds = f }
child_in Fits order block below high (Grown low twig) found from to f = f

pub child_finds : (Fits : Want → List ℕ → Record → Type 0) (order block level below high : ℕ) (c : Child) (found : Option Entry) → level ≡ suc below → low_of c ≤ block → block < high → ChildFinds Fits order (order / 2) block below high c found →
    FindsAmong Fits order block (stubs level high c) found
unfolding stubs
child_finds Fits order block zero below high c found is from to f = absurd (omega (arith, is))
child_finds Fits order block (suc level) below high c found is from to f =
    child_in Fits order block level high (out-Child c) found from to (subst (λ k. ChildFinds Fits order (order / 2) block k high c found) (omega (arith, is)) f)

-- what is found below a node that fits is found from its place on
pub read_finds : (Fits : Want → List ℕ → Record → Type 0) (order least block level high head low addr : ℕ) (key : List ℕ) (twig : Twig) (entries : List Entry) (found : Option Entry) → CanHoldBelow order level block high head twig → children_of twig ≡ all_kept entries →
    Fits (want_at order (suc level) low high addr least) key (NodeRecord (suc level) entries) → FindsAmong Fits order block (stubs_below level high twig) found → ChildFinds Fits order least block level high (made.Kept low addr key) found
read_finds Fits order least block level high head low addr key twig entries found at kids fits f =
    let begins = inner level at.low (start_by low_of (children_of twig) high) at.shaped.node.begins in
    let start = ap (λ cs. start_by low_of cs high) kids ∙ start_is entries high in
    let finds = node_finds Fits order block level (want_at order (suc level) low high addr least) key entries found fits (λ one. (let b = begins one in omega (arith, b, start, at.from))) at.to
    (subst (λ ss. FindsAmong Fits order block ss found) (ap (stubs_under level high) kids ∙ kept_stubs level high entries) f) in
    let one : level ≡ suc level - 1 = omega arith in
    subst (λ x. ChildFindsBy Fits order least block level high x found) (sym (made.outs-Kept low addr key))
    (finds.0, subst (λ n. Finds Fits order block found n (want_at order (suc level) low high addr least) key finds.0) one finds.1)
  where
    inner : (level low start : ℕ) → Begins level low start → 1 ≤ level → start ≡ low
    inner zero low start h one = absurd (omega (arith, one))
    inner (suc level) low start h one = h

pub kept_finds : (pages : List (List ℕ)) (order least block level high head low addr : ℕ) (key : List ℕ) (twig : Twig) (found : Option Entry) → CanHoldBelow order level block high head twig →
    IsNodeFor (want_at order (suc level) low high addr least) key twig → IsNodeOf pages (want_at order (suc level) low high addr least) key twig → FindsAmong (FitsAt pages) order block (stubs_below level high twig) found →
    ChildFinds (FitsAt pages) order least block level high (made.Kept low addr key) found
kept_finds pages order least block level high head low addr key twig found at fits node f =
    let r = read_fits pages level low high addr least order key twig fits node in
    read_finds (FitsAt pages) order least block level high head low addr key twig r.0 found at r.2 r.1 f

root_in : (Fits : Want → List ℕ → Record → Type 0) (order block below high : ℕ) (x : Child-F Child Twig) (found : Option Entry) → IsRootBy order below high x → ChildFindsBy Fits order (top_least below) block below high x found → RootFindsBy Fits order block below high x found
root_in Fits order block below high (Kept low addr key) found root f = subst (λ w. FindsBelow Fits block w key found) (root_want order below low high addr root) f
root_in Fits order block below high (Grown low twig) found root f = f

-- what is found from a root on is found below it
pub to_root : (Fits : Want → List ℕ → Record → Type 0) (order block below high : ℕ) (top : Child) (found : Option Entry) → IsRootBy order below high (out-Child top) → ChildFinds Fits order (top_least below) block below high top found → RootFinds Fits order block below high top found
to_root Fits order block below high top found root f = root_in Fits order block below high (out-Child top) found root f

-- and the other way round
from_root_in : (Fits : Want → List ℕ → Record → Type 0) (order block below high : ℕ) (x : Child-F Child Twig) (found : Option Entry) → IsRootBy order below high x → RootFindsBy Fits order block below high x found → ChildFindsBy Fits order (top_least below) block below high x found
from_root_in Fits order block below high (Kept low addr key) found root f = subst (λ w. FindsBelow Fits block w key found) (sym (root_want order below low high addr root)) f
from_root_in Fits order block below high (Grown low twig) found root f = f

pub from_root : (Fits : Want → List ℕ → Record → Type 0) (order block below high : ℕ) (top : Child) (found : Option Entry) → IsRootBy order below high (out-Child top) → RootFinds Fits order block below high top found → ChildFinds Fits order (top_least below) block below high top found
from_root Fits order block below high top found root f = from_root_in Fits order block below high (out-Child top) found root f

-- where something is left, something is found
pub any_found : (Finds : Option Entry → Type 0) (left : Left) → IsFoundBy Finds left → (found : Option Entry) × Finds found
any_found Finds Unmapped h = (None, h)
any_found Finds Enough h = (Some h.0, h.1)
any_found Finds Short h = (Some h.0, h.1)
