-- That the nodes on the medium which a tree names are among these places, and what reading such nodes does to a cache.
use Rattle.std.specs.Prelude.{ℕ, ◌≤◌, List}
use Rattle.std.specs.List.{AllByRecursion}
use Rattle.platform.specs.declared.platforms.Platform.{Ghosts}
use Rattle.page_store.specs.Tree.{Place}
use Rattle.node_cache.specs.Cached.{Cached}
use Rattle.btree_walk.specs.Sights.{StandsOver, ForgetsNone}
use Rattle.btree_walk.specs.Among.{IsAmong, GoDown, StaysAmong}
use Rattle.btree_twigs.specs.Stubs.{Stub}
use Rattle.btree_twigs.specs.declared.twigs.Spot.{Spot}
use Rattle.btree_twigs.specs.declared.twigs.Spot.TheVariants.{Found, Absent, Below}

-- each node of a tree's places on the medium has the address and the key of one of these places
abbrev pub NodesAmong : List Place → List Stub → Type 0
NodesAmong places stubs = AllByRecursion (λ s. 1 ≤ s.level → IsAmong places s.addr s.key) stubs

-- and these go down
abbrev pub HaveNodes : List (List ℕ) → List Stub → List Place → Type 0
HaveNodes pages stubs places = GoDown pages places × NodesAmong places stubs

-- so has the node below which a search goes on from where it ended in memory, if it does
abbrev pub HaveSpot : List (List ℕ) → Spot → List Place → Type 0
HaveSpot pages (Found addr key) places = Unit {0}
HaveSpot pages Absent places = Unit {0}
HaveSpot pages (Below level low high addr key) places = GoDown pages places × IsAmong places addr key

-- the cache has room for as many nodes as before, and forgets none; where each that it kept is what its page is, so is each that it keeps now, and what is new
-- are nodes of such places over the pages
pub record CachesAmong {S : Type 0} (P : Ghosts S) (Such : List (List ℕ) → List Place → Type 0) (platform : S) (old new : Cached) : Type 0 where
  pub forgets : ForgetsNone old new
  pub stands : P.tells → StandsOver (P.history platform).present.readable old → StandsOver (P.history platform).present.readable new
  pub among : P.tells → StandsOver (P.history platform).present.readable old → StaysAmong (Such (P.history platform).present.readable) old new
