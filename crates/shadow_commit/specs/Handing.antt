-- What a sealing hands over to the medium, and what it does beside that.
use Rattle.std.specs.Prelude.{◌≡◌, ◌≤◌, ◌+◌, ℕ, List, [], ◌∷◌, ◌++◌, Option, Contains, length, map}
use Rattle.std.specs.List.{AllByRecursion}
use Rattle.sdbt_base.specs.Arrays.{Device}
use Rattle.sdbt_base.specs.Keys.{bare}
use Rattle.sdbt_base.specs.declared.tapes.Tape.{Ghosts as TapeGhosts}
use Rattle.platform.specs.Image.{Image, IsEither, MayHavePage, all_synced}
use Rattle.platform.specs.History.{CellStays}
use Rattle.sdbt_base.specs.Rises.{MayRiseBy}
use Rattle.platform.specs.declared.platforms.Platform.{Ghosts as PlatformGhosts}
use Rattle.page_store.specs.Keeping.{DrewAll}
use Rattle.page_store.specs.Stands.{Stands}
use Rattle.btree_twigs.specs.Stubs.{Stub}
use Rattle.shadow_commit.specs.Sealed.{Sealed, page_of, with_nodes}
use Rattle.shadow_commit.specs.NewTree.{AreNodesOver}

-- the medium has the pages of such nodes more, in their order, each under a key that was drawn for it
pub record Adds (Are : List Sealed → Type 0) (tells : Type 0) (old new : Image) (old_head new_head : ℕ) (drawn drawn_now : Option (List (List ℕ))) : Type 0 where
  pub nodes : List Sealed
  pub is : Are nodes
  pub image : tells → new ≡ with_nodes old nodes
  pub head : new_head ≡ old_head + length nodes
  pub drew : DrewAll drawn (map (λ n. bare n.key) nodes) drawn_now

-- the image as it was, or, with a last node, as it may be after a fault of its append
abbrev pub MayHave : Image → List Sealed → Image → Type 0
MayHave image [] new = new ≡ image
MayHave image (n ∷ ns) new = MayHavePage image (page_of n) new × (ns ≡ [])

-- a fault came after the pages of some nodes, each under a key that was drawn for it; the page of a last one may have been handed over
pub record Stops (Are : List Sealed → Type 0) (tells : Type 0) (old new : Image) (drawn drawn_now : Option (List (List ℕ))) : Type 0 where
  pub nodes : List Sealed
  pub last : List Sealed
  pub are : Are (nodes ++ last)
  pub image : tells → MayHave (with_nodes old nodes) last new
  pub drew : DrewAll drawn (map (λ n. bare n.key) (nodes ++ last)) drawn_now

-- a fault came in a sealing of a version from this address on over these places, or in the sync after it
pub record StopsFrom (version head : ℕ) (places : List Stub) (tells : Type 0) (old new : Image) (drawn drawn_now : Option (List (List ℕ))) : Type 0 where
  pub written : Image
  pub stops : Stops (AreNodesOver version head places) tells old written drawn drawn_now
  pub synced : tells → IsEither written (all_synced written) new

-- beside its purpose a call only adds pages, and syncs so often at most: at each moment the cell is the one from before, no page is read, and counts of
-- faults don't fall
pub record OnlyAdds {S R : Type 0} (P : PlatformGhosts S) (T : TapeGhosts R) (syncs : ℕ) (platform platform_now : S) (tape tape_now : R) : Type 0 where
  pub cell : P.tells → CellStays (P.history platform) (P.history platform_now)
  pub head : P.head platform ≤ P.head platform_now
  pub capacity : P.capacity platform_now ≡ P.capacity platform
  pub reads : P.tells → P.reads platform_now ≡ P.reads platform
  pub changes : P.tells → MayRiseBy syncs (P.changes platform) (P.changes platform_now)
  pub platform_faults : P.faults platform ≤ P.faults platform_now
  pub tape_faults : T.faults tape ≤ T.faults tape_now

-- the image stands, and the key of each of these places is listed
pub record KnowsPlaces (image : Image) (places : List Stub) (keys : List (List ℕ)) : Type 0 where
  pub device : Option Device
  pub stands : Stands image device
  pub listed : AllByRecursion (λ s. Contains keys (bare s.key)) places
