-- What a move that was done found of a device, on any pages.
use Rattle.std.specs.Prelude.{◌≡◌, ◌≢◌, ◌<◌, ◌≤◌, ◌⊎◌, ℕ, None, Bool, false, Contains, List, [], All, IfOk, IsTrue, Result, OnOk, length, map}
use Rattle.std.specs.FinMap.{from_entries}
use Rattle.sdbt_base.specs.Arrays.{Blocks, content_of}
use Rattle.platform.specs.History.{History, image_at, moment}
use Rattle.platform.specs.Image.{Image}
use Rattle.root_codec.specs.declared.root.Root.{Root}
use Rattle.page_store.specs.Kept.{IsRootOf}
use Rattle.page_store.specs.Stands.{pairs_of}
use Rattle.page_store.specs.Tree.{Parts, Tree}
use Rattle.btree_walk.specs.Nodes.{Node, NodesOf, listed}
use Rattle.device_session.specs.Open.{blocks_of, is_touched, number_of, root_of}
use Rattle.device_session.specs.Reading.{FindsContent, KeepsBlock}
use Rattle.device_session.specs.Sessions.{Session}
use Rattle.session_calls.specs.Damage.{IsMounted, IsWrongPage}
use Rattle.transfer.specs.declared.halts.Halt.{Halt}

-- the root record of a device of so many blocks and of this order that was never written
pub record IsFreshRoot (blocks order : ℕ) (root : Root) : Type 0 where
  pub blocks_are : root.blocks ≡ blocks
  pub order_is : root.order ≡ order
  pub commit : root.commit ≡ 0
  pub mapped : root.mapped ≡ 0

-- each node below the root record fits its place, and these are the blocks of their entries, in their order
pub record HasBlocks (image : Image) (root : Root) (blocks : List ℕ) : Type 0 where
  pub nodes : List Node
  pub are : NodesOf image.readable root nodes
  pub is : blocks ≡ map (λ e. e.low) (listed nodes)

-- the device of the root record in the cell has no block: each node below it fits its place, they have no entry of a block, and it says that none is mapped
pub record HasNone (image : Image) : Type 0 where
  pub root : Root
  pub is_root : IsRootOf image root
  pub blocks : HasBlocks image root []
  pub count : root.mapped ≡ 0

-- where the platform tells, a look-up of the block in the session's tree comes to a content
abbrev pub IsRead : Type 0 → Image → Session → ℕ → Type 0
IsRead tells image session block = tells → (content : List ℕ) × FindsContent image.readable session.grove block content

-- a read leaves the session's tree; and where it was done, a look-up of the block comes to these bytes
pub record ReadsTree (tells : Type 0) (image : Image) (session now : Session) (block : ℕ) (bytes : List ℕ) (result : Result (Unit {0}) Halt) : Type 0 where
  pub tree : now.grove ≡ session.grove
  pub found : tells → OnOk result (FindsContent image.readable session.grove block bytes)

-- a block has one content on both: a look-up of it comes to that in the tree of either session, where its platform tells
pub record HasOne (from_tells to_tells : Type 0) (from to : Image) (source target : Session) (block : ℕ) : Type 0 where
  pub content : List ℕ
  pub here : from_tells → FindsContent from.readable source.grove block content
  pub there : to_tells → FindsContent to.readable target.grove block content

-- a block has contents that differ: a look-up of it comes to the one in the tree of the first session, and to the other in that of the second, where its platform tells
pub record HasTwo (from_tells to_tells : Type 0) (from to : Image) (source target : Session) (block : ℕ) : Type 0 where
  pub content : List ℕ
  pub other : List ℕ
  pub differ : content ≢ other
  pub here : from_tells → FindsContent from.readable source.grove block content
  pub there : to_tells → FindsContent to.readable target.grove block other

-- a block was compared: it has one content on both where this says so, and else contents that differ
pub record Compares (from_tells to_tells : Type 0) (from to : Image) (source target : Session) (block : ℕ) (same : Bool) : Type 0 where
  pub one : IsTrue same → HasOne from_tells to_tells from to source target block
  pub two : (IsTrue same → ⊥) → HasTwo from_tells to_tells from to source target block

-- these blocks were compared: each has one content on both where this says so, and else one of them has contents that differ
pub record ComparesAll (from_tells to_tells : Type 0) (from to : Image) (source target : Session) (blocks : List ℕ) (same : Bool) : Type 0 where
  pub one : IsTrue same → All (HasOne from_tells to_tells from to source target) blocks
  pub two : (IsTrue same → ⊥) → (block : ℕ) × Contains blocks block × HasTwo from_tells to_tells from to source target block

-- these blocks were copied: a look-up of each comes to one content on both, and one of each other block on the second to what it came to before
pub record CopiesTree (from_tells to_tells : Type 0) (from to to_now : Image) (source target target_now : Session) (blocks : List ℕ) : Type 0 where
  pub each : All (HasOne from_tells to_tells from to_now source target_now) blocks
  pub others : to_tells → (other : ℕ) → other < blocks_of target → (Contains blocks other → ⊥) → KeepsBlock to.readable to_now.readable target target_now other

-- it is an image of this time
abbrev pub IsWithin : History → History → Image → Type 0
IsWithin old new image = (i : ℕ) × (moment old ≤ i) × (i ≤ moment new) × (image ≡ image_at new i)

-- at a moment these blocks were copied, into a session that was open on the second platform
pub record CopiesOnce (from_tells to_tells : Type 0) (from : Image) (to to_now : History) (source target : Session) (blocks : List ℕ) : Type 0 where
  pub image : Image
  pub within : to_tells → IsWithin to to_now image
  pub session : Session
  pub mounted : to_tells → IsMounted image session
  pub copies : CopiesTree from_tells to_tells from to.present image source target session blocks

-- a session's tree was read: its nodes, of which these are the blocks, as many as the root record says, and the content of each of these
pub record IsReadThrough (tells : Type 0) (image : Image) (session : Session) : Type 0 where
  pub blocks : List ℕ
  pub listed : tells → HasBlocks image (root_of session) blocks
  pub count : length blocks ≡ (root_of session).mapped
  pub each : All (IsRead tells image session) blocks

-- each node of the second device's tree fit its place, and it had none but these blocks
pub record BeginsWithin (image : Image) (target : Session) (blocks : List ℕ) : Type 0 where
  pub others : List ℕ
  pub listed : HasBlocks image (root_of target) others
  pub among : All (Contains blocks) others

-- these blocks were copied to a device that had none but them. Either this holds, or nothing was written, and that device was read through too
pub record FillsOnce (from_tells to_tells : Type 0) (from : Image) (to to_now : History) (source target : Session) (blocks : List ℕ) (New : Type 0) : Type 0 where
  pub begins : to_tells → BeginsWithin to.present target blocks
  pub once : CopiesOnce from_tells to_tells from to to_now source target blocks
  pub kept : New ⊎ ((once.session ≡ target) × (once.image ≡ to.present) × IsReadThrough to_tells to.present target)

-- all blocks of a device were, to one as large and of the same order
pub record IsFilled (from_tells to_tells : Type 0) (from : Image) (to to_now : History) (source target : Session) (New : Type 0) : Type 0 where
  pub blocks : List ℕ
  pub listed : from_tells → HasBlocks from (root_of source) blocks
  pub count : length blocks ≡ (root_of source).mapped
  pub alike : blocks_of target ≡ blocks_of source
  pub same_order : (root_of target).order ≡ (root_of source).order
  pub fills : FillsOnce from_tells to_tells from to to_now source target blocks New

-- the nodes of the second device's tree fit, and these are their blocks, as many as its root record says; they are those of the first one, and each has one content on both, where it is found so; else they are others, or one of them has contents that differ
pub record SeesAll (from_tells to_tells : Type 0) (from to : Image) (source target : Session) (blocks : List ℕ) (has : Bool) : Type 0 where
  pub others : List ℕ
  pub listed : to_tells → HasBlocks to (root_of target) others
  pub count : length others ≡ (root_of target).mapped
  pub same : IsTrue has → (others ≡ blocks) × All (HasOne from_tells to_tells from to source target) blocks
  pub unlike : (IsTrue has → ⊥) → (others ≢ blocks) ⊎ ((block : ℕ) × Contains blocks block × HasTwo from_tells to_tells from to source target block)

-- these are the first device's blocks, and the second one's were read, which has others, or another content of one of them
pub record SeesOther (from_tells to_tells : Type 0) (from to : Image) (source target : Session) : Type 0 where
  pub blocks : List ℕ
  pub listed : from_tells → HasBlocks from (root_of source) blocks
  pub sees : SeesAll from_tells to_tells from to source target blocks false

-- the root record in the cell has a tree: each node and each data record fits its place, and as many blocks are mapped as it says. So there is no page that a run could name
pub record HasWholeTree (image : Image) : Type 0 where
  pub root : Root
  pub is_root : IsRootOf image root
  pub parts : Parts
  pub tree : Tree image.readable root parts
  pub count : length parts.mapped ≡ root.mapped
  pub sound : (addr : ℕ) → IsWrongPage image addr → ⊥

-- there was no device, or one as large and of the same order that was never written
abbrev pub WasFresh : Root → Image → Type 0
WasFresh root image = (image.cell ≡ None) ⊎ ((other : Root) × IsRootOf image other × IsFreshRoot root.blocks root.order other)

-- the session's device is new, or was never written
abbrev pub IsNew : Bool → Session → Type 0
IsNew is_new session = IsTrue is_new ⊎ ((number_of session ≡ 0) × (session.mapped ≡ 0))

-- all of the first device was copied: at a moment of this time a session was open on the second one, on the root record in its cell, in whose tree a look-up of each block of the device
-- comes to the content that the first one's whole tree has. Where there was a device that had been written, its own tree is whole too, and that session has no change
pub record IsCopied (from : Image) (to to_now : History) : Type 0 where
  pub whole : HasWholeTree from
  pub contents : Blocks
  pub are : contents ≡ from_entries (pairs_of whole.parts)
  pub image : Image
  pub within : IsWithin to to_now image
  pub session : Session
  pub mounted : IsMounted image session
  pub kept : WasFresh whole.root to.present ⊎ (HasWholeTree image × (is_touched session ≡ false))
  pub each : (block : ℕ) → block < whole.root.blocks → FindsContent image.readable session.grove block (content_of contents block)

-- a session's tree was read through, and where that had no change, all of it was copied
pub record IsMoved (from_tells to_tells : Type 0) (from : Image) (to to_now : History) (source : Session) : Type 0 where
  pub read : IsReadThrough from_tells from source
  pub copied : is_touched source ≡ false → from_tells → to_tells → IsCopied from to to_now

-- where a part of a move was done, or the first platform's cell is empty behind it, this holds
abbrev pub WhereDone : {X : Type 0} → Type 0 → Image → Result X Halt → Type 0 → Type 0
WhereDone tells from_now result Holds = IfOk result (λ x. Holds) × (tells → from_now.cell ≡ None → Holds)

-- the first device's tree is whole, and all of it was copied
abbrev pub IsWholeMove : Type 0 → Type 0 → Image → History → History → Type 0
IsWholeMove from_tells to_tells from to to_now = (from_tells → HasWholeTree from) × (from_tells → to_tells → IsCopied from to to_now)

-- so it is where a device was moved, and wherever its root record was cleared, whatever is answered
pub record MovesWhole {X : Type 0} (from_tells to_tells : Type 0) (from from_now : Image) (to to_now : History) (result : Result X Halt) : Type 0 where
  pub done : IfOk result (λ x. IsWholeMove from_tells to_tells from to to_now)
  pub cleared : from_tells → (from.cell ≡ None → ⊥) → from_now.cell ≡ None → IsWholeMove from_tells to_tells from to to_now
