-- Where the cache keeps the way to a block, and what is read then.
use Rattle.std.proofs.lemmas.List.{map-append}
use Rattle.std.proofs.Common.{◌≡◌, ℕ, zero, suc, ◌-◌, ◌/◌, ◌<◌, ◌≤◌, List, [], ◌∷◌, ◌++◌, Option, sym, ap, subst, ◌∙◌, arith}
use Rattle.node_codec.specs.declared.body.Entry.{Entry}
use Rattle.node_codec.specs.declared.body.NodeBody.{NodeBody}
use Rattle.node_codec.specs.Record.{Record}
use Rattle.page_store.specs.declared.wants.Want.{Want}
use Rattle.page_store.specs.Places.{child_want}
use Rattle.node_cache.specs.declared.slots.CachedNode.{CachedNode}
use Rattle.node_cache.specs.Cached.{Cached, cached_node, IsCached}
use Rattle.btree_walk.specs.Sights.{CachedFits, StillKeeps}
use Rattle.btree_walk.specs.Finds.{Finds}
use Rattle.btree_walk.proofs.FindLaws.{finds_map, first_fits, inner_inverse}
use Rattle.btree_walk.proofs.SightLaws.{in_range_of}
use Rattle.btree_walk.proofs.WayLaws.{way_entry}
use Rattle.btree_twigs.specs.declared.twigs.Child.{Child, Child-F, out-Child}
use Rattle.btree_twigs.specs.declared.twigs.Child.TheOpen.{Kept, Grown}
use Rattle.btree_twigs.specs.declared.twigs.Child.TheVariants as made
use Rattle.btree_twigs.specs.declared.twigs.Twig.{Twig}
use Rattle.btree_twigs.specs.declared.twigs.Spot.TheVariants.{Below}
use Rattle.btree_twigs.specs.Search.{IsSpot}
use Rattle.btree_twigs.specs.Stubs.{start_by, low_in, low_of, children_of, stubs, stubs_in, stubs_below}
use Rattle.btree_twigs.specs.Shape.{EachBy, IsChild, IsTwig}
use Rattle.btree_twigs.specs.Updates.{stubs_under}
use Rattle.btree_twigs.proofs.ListLaws.{stubs_append, each_front, each_back, tiles_by}
use Rattle.btree_twigs.proofs.Children.{tiles_child, low_of_kept}
use Rattle.btree_twigs.proofs.Finds.{tiles_before, tiles_after, at_one}
use Rattle.btree_update.specs.GroveTree.{want_at}
use Rattle.btree_update.specs.Reading.{kept_of, all_kept}
use Rattle.btree_update.specs.Held.{stub_at}
use Rattle.btree_update.specs.Holding.{CanHoldBelow}
use Rattle.btree_update.specs.Finding.{FindsAmong, ChildFindsBy, ChildFinds}
use Rattle.btree_update.specs.Warm.{KeepsFromChild, KeepsBelow}
use Rattle.btree_update.proofs.Readings.{start_is}
use Rattle.btree_update.proofs.HoldLaws.{same_way}
use Rattle.btree_update.proofs.KeptWay.{finds_there, spot_narrow}

-- what is found among the places of a node is found among those of the child on the way
way_narrow : (Fits : Want → List ℕ → Record → Type 0) (order level least low high block : ℕ) (twig : Twig) (front back : List Child) (c : Child) (found : Option Entry) → IsTwig order level least order low high twig → children_of twig ≡ front ++ c ∷ back →
    low_of c ≤ block → block < start_by low_of back high → FindsAmong Fits order block (stubs_below level high twig) found → FindsAmong Fits order block (stubs level (start_by low_of back high) c) found
way_narrow Fits order level least low high block twig front back c found shaped split from to f =
    let each = subst (EachBy low_of (IsChild order level) high) split shaped.node.each in
    let fronts = each_front low_of (IsChild order level) high front (c ∷ back) each in
    let backs = each_back low_of (IsChild order level) high front (c ∷ back) each in
    let one = λ (high : ℕ) (c : Child). tiles_child order level high c in
    let ts = tiles_by low_of (IsChild order level) (stubs level) one (low_of c) front fronts in
    let us = tiles_by low_of (IsChild order level) (stubs level) one high back backs.2 in
    let all : stubs_below level high twig ≡ stubs_under level (low_of c) front ++ (stubs level (start_by low_of back high) c ++ stubs_under level high back)
    = ap (stubs_under level high) split ∙ stubs_append low_of (stubs level) high front (c ∷ back) in
    record {
      spot = f.spot;
      is = spot_narrow block (stubs_under level (low_of c) front) (stubs level (start_by low_of back high) c) (stubs_under level high back) f.spot
          (tiles_before (start_by low_of front (low_of c)) (low_of c) block _ ts from) (tiles_after (start_by low_of back high) high block _ us to)
          (subst (λ ss. IsSpot block ss f.spot) all f.is);
      finds = f.finds;
    }

-- what is found among the places of a child is found from it on
child_from : (Fits : Want → List ℕ → Record → Type 0) (order block below high : ℕ) (x : Child-F Child Twig) (found : Option Entry) → low_in x ≤ block → block < high → FindsAmong Fits order block (stubs_in (stubs below) (suc below) high x) found →
    ChildFindsBy Fits order (order / 2) block below high x found
child_from Fits order block below high (Kept low addr key) found from to f =
    finds_there Fits order block (stub_at (suc below) low high addr key ∷ []) (Below (suc below) low high addr key) found (omega arith, from, to, at_one block (stub_at (suc below) low high addr key)) f
child_from Fits order block below high (Grown low twig) found from to f = f

pub from_child : (Fits : Want → List ℕ → Record → Type 0) (order block level high : ℕ) (c : Child) (found : Option Entry) → 1 ≤ level → low_of c ≤ block → block < high → FindsAmong Fits order block (stubs level high c) found →
    ChildFinds Fits order (order / 2) block (level - 1) high c found
unfolding stubs
from_child Fits order block zero high c found one from to f = absurd (omega (arith, one))
from_child Fits order block (suc level) high c found one from to f =
    let same : level ≡ suc level - 1 = omega arith in
    subst (λ k. ChildFinds Fits order (order / 2) block k high c found) same (child_from Fits order block level high (out-Child c) found from to f)

-- below a child in memory the cache keeps the way
pub below_grown : (kept : List CachedNode) (order least block level high head low : ℕ) (twig : Twig) → CanHoldBelow order level block high head twig → KeepsFromChild kept order least block level high (made.Grown low twig) → KeepsBelow kept order block level high twig
below_grown kept order least block level high head low twig can keeps one front back c split from to =
    let f = subst (λ x. ChildFindsBy (CachedFits kept) order least block level high x keeps.0) (made.outs-Grown low twig) keeps.1 in
    let there = way_narrow (CachedFits kept) order level can.least can.low high block twig front back c keeps.0 can.shaped split from to f in
    (keeps.0, from_child (CachedFits kept) order block level (start_by low_of back high) c keeps.0 one from to there)

-- the node of a child that isn't in memory is cached, where the cache keeps the way
pub first_cached : (kept : List CachedNode) (order least block level high low addr : ℕ) (key : List ℕ) → KeepsFromChild kept order least block level high (made.Kept low addr key) → (node : NodeBody) × IsCached kept addr key node
first_cached kept order least block level high low addr key keeps =
    let f = subst (λ x. ChildFindsBy (CachedFits kept) order least block level high x keeps.0) (made.outs-Kept low addr key) keeps.1 in
    let first = first_fits (CachedFits kept) order block keeps.0 (suc level - 1) (want_at order (suc level) low high addr least) key f.0 f.1 in
    (first.1.node, first.1.here)

-- and once that node was used, the cache keeps the way below it
pub below_kept : (order least block level high head low addr : ℕ) (key : List ℕ) (twig : Twig) (old new : Cached) → CanHoldBelow order level block high head twig →
    ((node : NodeBody) → IsCached old.nodes addr key node → (children_of twig ≡ all_kept node.entries.items) × StillKeeps addr old new) → KeepsFromChild old.nodes order least block level high (made.Kept low addr key) → KeepsBelow new.nodes order block level high twig
below_kept order least block level high head low addr key twig old new can read keeps one front back c split from to =
    let want = want_at order (suc level) low high addr least in
    let found = keeps.0 in
    let f = subst (λ x. ChildFindsBy (CachedFits old.nodes) order least block level high x found) (made.outs-Kept low addr key) keeps.1 in
    let deep : suc level - 1 ≡ suc (level - 1) = omega (arith, one) in
    let on = inner_inverse (CachedFits old.nodes) order block found (suc level - 1) (level - 1) want key f.0 deep f.1 in
    let r = read on.fits.node on.fits.here in
    let entries : on.entries ≡ on.fits.node.entries.items = let e = on.fits.is in cc in
    let before = on.way.before in
    let after = on.way.after in
    let all : children_of twig ≡ all_kept before ++ kept_of on.entry ∷ all_kept after = r.0 ∙ ap all_kept (sym entries ∙ on.way.split) ∙ map-append kept_of before (on.entry ∷ after) in
    let each = subst (EachBy low_of (IsChild order level) high) all can.shaped.node.each in
    let low_is = low_of_kept on.entry.low on.entry.addr on.entry.key in
    let ends : start_by low_of (all_kept after) high ≡ on.bound = start_is after high ∙ sym on.way.ends in
    let same = same_way order level high block (all_kept before) front (kept_of on.entry) c (all_kept after) back each (sym all ∙ split) (omega (arith, low_is, on.way.from)) (omega (arith, ends, on.way.below)) from to in
    let range = in_range_of old.nodes want key (suc (suc (level - 1))) on.entries on.fits in
    let less : on.entry.addr < addr = way_entry (λ (e : Entry). e.addr < addr) on.entries high block on.bound on.entry range.below on.way in
    let next = child_want order (suc (level - 1)) on.entry on.bound in
    let goes = finds_map (CachedFits old.nodes) (CachedFits new.nodes) order block addr
    (λ want k l es s. (in_range_of old.nodes want k l es s).below)
    (λ want k value below s. record { node = s.node; here = r.1 (cached_node want.addr k s.node) (λ h. omega (arith, h, below)) s.here; fits = s.fits; is = s.is })
    found (level - 1) next on.entry.key on.rest less on.goes in
    let level_is : level - 1 ≡ suc (level - 1) - 1 = omega arith in
    let there : ChildFindsBy (CachedFits new.nodes) order (order / 2) block (level - 1) on.bound (Kept on.entry.low on.entry.addr on.entry.key) found =
    (on.rest, subst (λ n. Finds (CachedFits new.nodes) order block found n next on.entry.key on.rest) level_is goes) in
    let here = subst (λ x. ChildFindsBy (CachedFits new.nodes) order (order / 2) block (level - 1) on.bound x found) (sym (made.outs-Kept on.entry.low on.entry.addr on.entry.key)) there in
    let end : on.bound ≡ start_by low_of back high = sym ends ∙ ap (λ bs. start_by low_of bs high) same.1 in (
      found,
      subst (λ x. ChildFinds (CachedFits new.nodes) order (order / 2) block (level - 1) (start_by low_of back high) x found) same.0
          (subst (λ n. ChildFinds (CachedFits new.nodes) order (order / 2) block (level - 1) n (kept_of on.entry) found) end here),
    )
