-- What a session is over any pages, forged ones too, and what of the pages below its root record isn't as it should be.
use Rattle.std.specs.Prelude.{◌≡◌, ◌≢◌, ◌⊎◌, ◌+◌, ◌<◌, ◌≤◌, ℕ, List, None, Some, Bool, true, false, length}
use Rattle.platform.specs.Image.{Image}
use Rattle.node_codec.specs.declared.body.Entry.{Entry}
use Rattle.root_codec.specs.declared.root.Root.{Root}
use Rattle.page_store.specs.Tree.{Parts, Mapped, Tree, Wrong}
use Rattle.btree_walk.specs.Sights.{StandsOver}
use Rattle.btree_update.specs.declared.groves.Grove.{Grove}
use Rattle.btree_update.specs.Finding.{GroveFinds}
use Rattle.btree_update.specs.Groves.{GroveMaps, IsWrongOnWay}
use Rattle.grove_accounts.specs.Followed.{FollowsTree}
use Rattle.device_session.specs.Reading.{FindsContent, KeepsOthers}
use Rattle.device_session.specs.Sessions.{Session}

-- the tree maps so many blocks
pub record MapsMany (pages : List (List ℕ)) (grove : Grove) (count : ℕ) : Type 0 where
  pub mapped : List Mapped
  pub maps : GroveMaps pages grove mapped
  pub many : length mapped ≡ count

-- the session was opened on these pages, forged ones too: each place of its tree is one of its root record's tree, or a data record that it wrote; where
-- the root record has a tree of as many blocks as it says, the session's tree maps as many as the session counts; and the cache keeps what is on the pages
pub record Follows (session : Session) (image : Image) : Type 0 where
  pub places : FollowsTree image.readable session.root session.grove
  pub counted : (parts : Parts) → Tree image.readable session.root parts → length parts.mapped ≡ session.root.mapped → MapsMany image.readable session.grove session.mapped
  pub cached : StandsOver image.readable session.cache

-- the root record says how many blocks are mapped, and no tree of these pages has that many
abbrev pub IsMiscounted : List (List ℕ) → Root → Type 0
IsMiscounted pages root = (parts : Parts) → Tree pages root parts → length parts.mapped ≢ root.mapped

-- a place of the root's tree at this address doesn't fit, or it is the root node's, and the blocks are miscounted
abbrev pub IsDamaged : List (List ℕ) → Root → ℕ → Type 0
IsDamaged pages root addr = Wrong pages root addr ⊎ ((addr ≡ root.addr) × IsMiscounted pages root)

-- no block more can be mapped: as many are as the device has, or the tree has as many levels as it may
abbrev pub IsAtLimit : Session → Type 0
IsAtLimit session = (session.root.blocks ≤ session.mapped) ⊎ (20 ≤ session.grove.level)

-- another one can
abbrev pub HasRoom : Session → Type 0
HasRoom session = (session.mapped < session.root.blocks) × (session.grove.level < 20)

-- a look-up finds the block in the session's tree, or it doesn't
abbrev pub IsFound : Bool → List (List ℕ) → Session → ℕ → Type 0
IsFound true pages session block = (entry : Entry) × GroveFinds pages block session.grove (Some entry)
IsFound false pages session block = GroveFinds pages block session.grove None

-- what a write makes of the count: the block was mapped, and it stays; or the block wasn't, another one could be, and it is one more
abbrev pub CountsPut : List (List ℕ) → ℕ → Session → Session → Type 0
CountsPut pages block session now =
    (IsFound true pages session block × (now.mapped ≡ session.mapped)) ⊎ (IsFound false pages session block × HasRoom session × (now.mapped ≡ session.mapped + 1))

-- and a trim: the block wasn't mapped, and it stays; or the block was, and it is one less
abbrev pub CountsTaken : List (List ℕ) → ℕ → Session → Session → Type 0
CountsTaken pages block session now =
    (IsFound false pages session block × (now.mapped ≡ session.mapped)) ⊎ (IsFound true pages session block × (now.mapped + 1 ≡ session.mapped))

-- a look-up of the block comes to the content behind this, and one of each other block to what it came to before
pub record LeavesPut (pages after : List (List ℕ)) (session now : Session) (block : ℕ) (bytes : List ℕ) : Type 0 where
  pub content : FindsContent after now.grove block bytes
  pub others : KeepsOthers pages after session now block

-- a write that was done, on any pages
pub record HasPut (pages after : List (List ℕ)) (session now : Session) (block : ℕ) (bytes : List ℕ) : Type 0 where
  pub counts : CountsPut pages block session now
  pub left : LeavesPut pages after session now block bytes

-- and a trim: a look-up finds the block no more, and one of each other block comes to what it came to
pub record HasTaken (pages after : List (List ℕ)) (session now : Session) (block : ℕ) : Type 0 where
  pub counts : CountsTaken pages block session now
  pub gone : IsFound false after now block
  pub others : KeepsOthers pages after session now block

-- this is the root node, where a block that isn't mapped is to be and no more can
abbrev pub IsPastLimit : List (List ℕ) → Session → ℕ → ℕ → Type 0
IsPastLimit pages session block addr = (addr ≡ session.root.addr) × IsAtLimit session × IsFound false pages session block

-- this is the root node, where a block is mapped and none is counted
abbrev pub IsUncounted : List (List ℕ) → Session → ℕ → ℕ → Type 0
IsUncounted pages session block addr = (addr ≡ session.root.addr) × (session.mapped ≡ 0) × IsFound true pages session block

-- what a write names that meets damage: a node on the way to the block, or beside it, that doesn't fit, or the root node
abbrev pub IsWriteMisfit : List (List ℕ) → Session → ℕ → ℕ → Type 0
IsWriteMisfit pages session block addr = IsWrongOnWay pages block session.grove addr ⊎ IsPastLimit pages session block addr

-- of a session that follows the pages such a node is a place of the root's tree
abbrev pub IsWriteDamage : List (List ℕ) → Session → ℕ → ℕ → Type 0
IsWriteDamage pages session block addr = Wrong pages session.root addr ⊎ IsPastLimit pages session block addr

-- the same of a trim
abbrev pub IsTrimMisfit : List (List ℕ) → Session → ℕ → ℕ → Type 0
IsTrimMisfit pages session block addr = IsWrongOnWay pages block session.grove addr ⊎ IsUncounted pages session block addr

abbrev pub IsTrimDamage : List (List ℕ) → Session → ℕ → ℕ → Type 0
IsTrimDamage pages session block addr = Wrong pages session.root addr ⊎ IsUncounted pages session block addr

-- what an update names that meets damage: by the look-ups alone, where the cache keeps what is on the pages, and as damage of the tree, where the session follows them
pub record NamesDamage (image after : Image) (session : Session) (addr : ℕ) (Misfit Damage : Type 0) : Type 0 where
  pub misfit : StandsOver image.readable session.cache → Misfit
  pub damage : Follows session image → Damage × IsDamaged after.readable session.root addr
