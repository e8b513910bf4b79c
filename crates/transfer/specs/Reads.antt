-- How often a move reads a page of either platform, or looks at its cell.
use Rattle.std.specs.Prelude.{◌≡◌, ◌⊎◌, ◌≤◌, ◌+◌, ◌*◌, ℕ, Bool, IsTrue, List, None, length}
use Rattle.platform.specs.Image.{Image}
use Rattle.platform.specs.declared.platforms.Platform.{Ghosts as PlatformGhosts}
use Rattle.root_codec.specs.declared.root.Root.{Root}
use Rattle.page_store.specs.Kept.{IsRootOf}
use Rattle.page_store.specs.Places.{root_want}
use Rattle.btree_walk.specs.Nodes.{FirstNodes, Node, NodesOf}
use Rattle.device_session.specs.Open.{number_of, root_of}
use Rattle.device_session.specs.Sessions.{Session}
use Rattle.transfer.specs.Refusals.{AreUnlike}
use Rattle.transfer.specs.Running.{HasMapped}

-- these are the nodes of the tree of a root record, or the first ones of them, each before those below it; each fits its place
abbrev pub AreFirstNodes : Image → Root → List Node → Type 0
AreFirstNodes image root nodes = NodesOf image.readable root nodes ⊎ FirstNodes image.readable root.order root.level (root_want root) root.key nodes

-- so many pages at most: one for each node of the root record's tree that one walk meets, one more, and so many beside them
pub record Walks (image : Image) (root : Root) (beside most : ℕ) : Type 0 where
  pub nodes : List Node
  pub are : AreFirstNodes image root nodes
  pub within : most ≤ (length nodes + 1) + beside

-- what a comparison with these blocks reads of the first platform, and of the second: the second one's tree, and where that has as many blocks, 21 pages of each on either
pub record ReadsCompared (to_tells : Type 0) (to : Image) (target : Session) (blocks : List ℕ) (few most : ℕ) : Type 0 where
  pub compared : ℕ
  pub within : compared ≤ length blocks
  pub mapped : compared ≤ (root_of target).mapped
  pub first : few ≤ 21 * compared
  pub second : to_tells → Walks to (root_of target) (21 * compared) most

-- the session's device was written: it has a commit, or a mapped block
abbrev pub IsWritten : Session → Type 0
IsWritten session = (number_of session ≡ 0) × (session.mapped ≡ 0) → ⊥

-- what is read where a device is found on the second platform: these blocks on the first one, and there its tree, and 40 pages for each block, or 21 where that device was written, so that
-- blocks are only compared
pub record ReadsFound (to_tells : Type 0) (to : Image) (target : Session) (blocks : List ℕ) (few most : ℕ) : Type 0 where
  pub first : few ≤ 21 * length blocks
  pub second : to_tells → Walks to (root_of target) (40 * length blocks) most
  pub compared : to_tells → IsWritten target → Walks to (root_of target) (21 * length blocks) most

-- the same with the first device's tree, whose root record says how many blocks are mapped; where the second device is new its tree isn't read
pub record ReadsFilled (from_tells to_tells : Type 0) (from to : Image) (source target : Session) (is_new : Bool) (few most : ℕ) : Type 0 where
  pub first : from_tells → Walks from (root_of source) (21 * (root_of source).mapped) few
  pub second : to_tells → Walks to (root_of target) (40 * (root_of source).mapped) most
  pub compared : to_tells → (IsTrue is_new → ⊥) → IsWritten target → Walks to (root_of target) (21 * (root_of source).mapped) most
  pub new : IsTrue is_new → most ≤ 40 * (root_of source).mapped

-- the cell has a root record, and so many reads were made at most: one for each node of its tree that one walk meets, one more, and so many beside them
pub record WalksOnce (image : Image) (beside reads reads_now : ℕ) : Type 0 where
  pub root : Root
  pub is_root : IsRootOf image root
  pub nodes : List Node
  pub are : AreFirstNodes image root nodes
  pub within : reads_now ≤ reads + ((length nodes + 1) + beside)

-- the cell was looked at so often at most; or it was, and one walk was made, and so many reads beside it
abbrev pub ReadsOnce : Image → ℕ → ℕ → ℕ → ℕ → Type 0
ReadsOnce image looks beside reads reads_now = (reads_now ≤ reads + looks) ⊎ WalksOnce image (looks + beside) reads reads_now

-- what a move reads of either platform at most, where it looks at the first cell so often. So many blocks are moved as the first root record says are mapped, if any is. The first
-- device's tree is walked over once, and 21 pages are read of each block. Where the second cell is empty that is looked at three times, since a device is made and mounted there, and 40 pages
-- are read to write each block; else it is looked at once, its tree is walked over once too, and 40 pages are read to write each block, or 21 to compare it, where a device was written
-- there. Of devices of other sizes, or other orders, no page is read
pub record ReadsFew {S R : Type 0} (P : PlatformGhosts S) (Q : PlatformGhosts R) (looks : ℕ) (first first_now : S) (second second_now : R) : Type 0 where
  pub blocks : ℕ
  pub mapped : P.tells → (blocks ≡ 0) ⊎ HasMapped (P.history first).present blocks
  pub from : P.tells → ReadsOnce (P.history first).present looks (21 * blocks) (P.reads first) (P.reads first_now)
  pub new : Q.tells → (Q.history second).present.cell ≡ None → Q.reads second_now ≤ Q.reads second + (3 + 40 * blocks)
  pub found : Q.tells → ((Q.history second).present.cell ≡ None → ⊥) → ReadsOnce (Q.history second).present 1 (40 * blocks) (Q.reads second) (Q.reads second_now)
  pub compared : Q.tells → (root : Root) → IsRootOf (Q.history second).present root → ((root.commit ≡ 0) × (root.mapped ≡ 0) → ⊥) → ReadsOnce (Q.history second).present 1 (21 * blocks) (Q.reads second) (Q.reads second_now)
  pub unlike : P.tells → Q.tells → AreUnlike (P.history first).present (Q.history second).present → (P.reads first_now ≤ P.reads first + looks) × (Q.reads second_now ≤ Q.reads second + 1)
