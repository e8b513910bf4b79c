-- What a look-up of a block looks at below a root.
use Rattle.std.proofs.Common.{◌≡◌, ℕ, suc, ◌-◌, ◌≤◌, ◌<◌, List, Option, inl, subst, arith}
use Rattle.node_codec.specs.declared.body.Entry.{Entry}
use Rattle.page_store.specs.Places.{FitsAt}
use Rattle.node_cache.specs.Cached.{Cached}
use Rattle.btree_walk.specs.Sights.{CachedFits, StandsOver}
use Rattle.btree_walk.specs.Finds.{Finds}
use Rattle.page_store.specs.declared.wants.Want.{Want}
use Rattle.btree_walk.proofs.FindLaws.{finds_map}
use Rattle.btree_walk.proofs.SightLaws.{in_range_of}
use Rattle.btree_walk.proofs.MappedLaws.{sees_page}
use Rattle.btree_twigs.specs.declared.twigs.Child.{Child, Child-F, out-Child}
use Rattle.btree_twigs.specs.declared.twigs.Child.TheVariants as made
use Rattle.btree_twigs.specs.declared.twigs.Child.TheOpen.{Kept, Grown}
use Rattle.btree_twigs.specs.declared.twigs.Twig.{Twig}
use Rattle.btree_twigs.specs.declared.twigs.Spot.{Spot}
use Rattle.btree_twigs.specs.declared.twigs.Spot.TheVariants.{Found, Absent, Below}
use Rattle.btree_twigs.specs.Stubs.{stubs_below}
use Rattle.btree_twigs.specs.Shape.{IsTwig}
use Rattle.btree_twigs.specs.Search.{IsSpot}
use Rattle.btree_twigs.specs.Top.{top_least}
use Rattle.btree_update.specs.GroveTree.{want_of, want_at, top_want}
use Rattle.btree_update.specs.Held.{stub_at}
use Rattle.btree_update.specs.Roots.{IsRootBy}
use Rattle.btree_update.specs.Holding.{CanHoldRoot}
use Rattle.btree_update.specs.Finding.{FindsFrom, RootFinds, RootFindsBy}
use Rattle.btree_update.proofs.RootHolds.{root_grown}
use Rattle.btree_update.proofs.FoundLaws.{want_is}

-- where the search in the nodes in memory ends
pub spot_is : (order level block high head low : ℕ) (twig : Twig) (top : Child) (spot : Spot) → CanHoldRoot order level block high head top → top ≡ made.Grown low twig →
    ((order level least most low : ℕ) → IsTwig order level least most low high twig → low ≤ block → block < high → IsSpot block (stubs_below level high twig) spot) →
    IsSpot block (stubs_below (level - 1) high twig) spot
spot_is order level block high head low twig top spot can is find =
    let at = root_grown order level block high head low twig (subst (CanHoldRoot order level block high head) is can) in
    find order (level - 1) at.least order at.low at.shaped at.from at.to

-- what is wanted of a root on the medium
pub root_want_is : (order level block high head low addr least : ℕ) (key : List ℕ) (top : Child) → CanHoldRoot order level block high head top → top ≡ made.Kept low addr key → least ≡ top_least (level - 1) →
    want_at order level low high addr least ≡ top_want order high (suc (level - 1)) addr
root_want_is order level block high head low addr least key top can is least_is =
    want_is order high level low addr least can.one (subst (IsRootBy order (level - 1) high) (made.outs-Kept low addr key) (subst (CanHoldRoot order level block high head) is can).shaped) least_is

-- ---- what the cache alone leads to

-- over pages over which the cache stands
module _ (pages : List (List ℕ)) (cache : Cached) (over : StandsOver pages cache) (order block : ℕ) (found : Option Entry) where
  -- it is what they lead to
  kept_page : (level : ℕ) (want : Want) (key path : List ℕ) → Finds (CachedFits cache.nodes) order block found level want key path → Finds (FitsAt pages) order block found level want key path
  kept_page level want key path is =
      finds_map (CachedFits cache.nodes) (FitsAt pages) order block (suc want.addr)
      (λ w k l es s. (in_range_of cache.nodes w k l es s).below)
      (λ w k value below s. sees_page pages cache w k value over (inl s))
      found level want key path (omega arith) is

  from_page : (spot : Spot) → FindsFrom (CachedFits cache.nodes) order block spot found → FindsFrom (FitsAt pages) order block spot found
  from_page (Found addr key) is = is
  from_page Absent is = is
  from_page (Below level low high addr key) is = (is.0, kept_page (level - 1) (want_of order (stub_at level low high addr key)) key is.0 is.1)

  by_page : (below high : ℕ) (x : Child-F Child Twig) → RootFindsBy (CachedFits cache.nodes) order block below high x found → RootFindsBy (FitsAt pages) order block below high x found
  by_page below high (Kept low addr key) is = (is.0, kept_page (suc below - 1) (top_want order high (suc below) addr) key is.0 is.1)
  by_page below high (Grown low twig) is = record { spot = is.spot; is = is.is; finds = from_page is.spot is.finds }

  -- also from a root on
  pub root_page : (below high : ℕ) (top : Child) → RootFinds (CachedFits cache.nodes) order block below high top found → RootFinds (FitsAt pages) order block below high top found
  root_page below high top is = by_page below high (out-Child top) is
