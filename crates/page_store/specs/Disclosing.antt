-- What the pages of a run disclose to whoever has its root records.
use Rattle.std.specs.Prelude.{◌≤◌, ◌<◌, ◌↔◌, ℕ, List, [], ◌∷◌, ◌++◌, All, Contains}
use Rattle.sdbt_base.specs.Keys.{bare}
use Rattle.platform.specs.Image.{Image, LeavesOnly}
use Rattle.platform.specs.History.{History, During, image_at, moment}
use Rattle.root_codec.specs.declared.root.Root.{Root}
use Rattle.key_graph.specs.Chains.{Reached, KeyPremises}
use Rattle.page_store.specs.Kept.{IsRootOf, Kept, ReachesTree}
use Rattle.page_store.specs.Floors.{IsInTree, IsReached, floor_of, NeverReached, ReachesStill}

-- any of the keys reach, over the pages of a later image, what they reached over those of the earlier one
abbrev pub ReachNoMore : List (List ℕ) → Image → Image → Type 0
ReachNoMore keys before after =
    (roots : List (List ℕ)) → All (Contains keys) roots → (addr : ℕ) → Reached roots after.recorded addr ↔ Reached roots before.recorded addr

-- at each moment of a run, and after a loss of power then, chains of opening from the key in the cell end at exactly the addresses of the
-- tree, and do so over the pages of each later moment; what was deleted at a moment is reached at no later one; and the keys from
-- before the run reach at each moment what they reached before it
pub record DisclosesTrees (keys : List (List ℕ)) (old new : History) : Type 0 where
  pub exact : During old new (LeavesOnly ReachesTree)
  pub still : ReachesStill old new
  pub deleted : NeverReached old new
  pub no_more : During old new (ReachNoMore keys old.present)

-- each moment of a run keeps the keys from before it with those that were drawn in it, and, under the premises on all of these, discloses
-- its trees and no more
pub record DisclosesBy (keys grew : List (List ℕ)) (old new : History) : Type 0 where
  pub kept : During old new (Kept (keys ++ grew))
  pub trees : KeyPremises (keys ++ grew) new.present.recorded → DisclosesTrees keys old new

-- two runs with a loss of power between them: what was deleted at a moment of the first is reached at none of the second, where floors are no
-- lower; and the key in the cell at a moment of the first reaches, over the pages of each moment of the second, exactly the tree of its own moment
pub record DisclosesOn (keys one : List (List ℕ)) (old mid cut new : History) : Type 0 where
  pub first : DisclosesTrees keys old mid
  pub second : DisclosesTrees (keys ++ one) cut new
  pub floors : (i j : ℕ) → moment old ≤ i → i ≤ moment mid → moment cut ≤ j → j ≤ moment new → floor_of old mid i ≤ floor_of cut new j
  pub deleted : (i j : ℕ) → moment old ≤ i → i ≤ moment mid → moment cut ≤ j → j ≤ moment new
      → (addr : ℕ) → IsReached (image_at new j) addr → addr < floor_of old mid i → IsInTree (image_at mid i) addr
  pub still : (i j : ℕ) → moment old ≤ i → i ≤ moment mid → moment cut ≤ j → j ≤ moment new
      → (root : Root) → IsRootOf (image_at mid i) root
      → (addr : ℕ) → Reached (bare root.key ∷ []) (image_at new j).recorded addr ↔ IsInTree (image_at mid i) addr
  pub no_more : During cut new (ReachNoMore keys old.present)
