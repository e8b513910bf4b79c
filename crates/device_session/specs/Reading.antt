-- What a session reads, on any pages, forged ones too.
use Rattle.std.specs.Prelude.{◌≡◌, ◌≢◌, ◌↔◌, ◌⊎◌, ◌<◌, ◌≤◌, ◌+◌, ◌-◌, ◌*◌, ℕ, List, Option, None, Some, Result, Ok, Err, OnOk, replicate}
use Rattle.sdbt_base.specs.Arrays.{Blocks, content_of}
use Rattle.platform.specs.declared.platforms.Platform.{Ghosts}
use Rattle.node_codec.specs.declared.body.Entry.{Entry}
use Rattle.node_codec.specs.Record.{DataRecord}
use Rattle.page_store.specs.Places.{FitsAt, NothingFits, block_want}
use Rattle.btree_update.specs.declared.groves.Grove.{Grove}
use Rattle.btree_walk.specs.Sights.{CachedFits}
use Rattle.btree_update.specs.Finding.{GroveFinds, GroveStops, KeepsWay, RootFinds}
use Rattle.device_session.specs.declared.refusals.ReadRefusal.{ReadRefusal}
use Rattle.device_session.specs.declared.refusals.ReadRefusal.TheVariants as refusals
use Rattle.device_session.specs.Open.{blocks_of}
use Rattle.device_session.specs.Sessions.{Session}

-- a block has this content: without an entry zeros, and else that of its data record, which the page at the entry is under its key
abbrev pub ReadsAs : List (List ℕ) → ℕ → Option Entry → List ℕ → Type 0
ReadsAs pages block None content = content ≡ replicate 4096 0
ReadsAs pages block (Some entry) content = FitsAt pages (block_want entry.addr block) entry.key (DataRecord block content)

-- the tree has this of the block, and its content is what is there
pub record FindsContent (pages : List (List ℕ)) (grove : Grove) (block : ℕ) (content : List ℕ) : Type 0 where
  pub found : Option Entry
  pub finds : GroveFinds pages block grove found
  pub reads : ReadsAs pages block found content

-- a look-up of the block comes to the same with one session over these pages as with the other over those: to the same entry, or to none, and to the same content
pub record KeepsBlock (pages after : List (List ℕ)) (session now : Session) (block : ℕ) : Type 0 where
  pub entry : (found : Option Entry) → GroveFinds pages block session.grove found ↔ GroveFinds after block now.grove found
  pub content : (content : List ℕ) → FindsContent pages session.grove block content ↔ FindsContent after now.grove block content

-- so it does of each other block of the device
abbrev pub KeepsOthers : List (List ℕ) → List (List ℕ) → Session → Session → ℕ → Type 0
KeepsOthers pages after session now block = (other : ℕ) → other < blocks_of session → other ≢ block → KeepsBlock pages after session now other

-- the first record on the way to the block that doesn't fit is at this address: a node, or the data record that the block's entry names
abbrev pub IsFirstMisfit : List (List ℕ) → Grove → ℕ → ℕ → Type 0
IsFirstMisfit pages grove block addr =
    GroveStops pages block addr grove
    ⊎ ((entry : Entry) × GroveFinds pages block grove (Some entry) × (addr ≡ entry.addr) × NothingFits pages (block_want entry.addr block) entry.key)

-- how many nodes the session's cache can keep
abbrev pub room_of : Session → ℕ
room_of session = session.cache.capacity

-- it keeps each node on the way to the block that isn't in memory
abbrev pub KeepsWayTo : Session → ℕ → Type 0
KeepsWayTo session block = KeepsWay session.cache.nodes block session.grove

-- what a read costs: one page for each level of the tree and one for the block at most, and none where the device has no such block; one alone where the cache
-- keeps the way to the block, as it does after a read that was done, where it has room for a node of each level
pub record ReadsFew {S : Type 0} (P : Ghosts S) (block : ℕ) (platform after : S) (session now : Session) (result : Result (Unit {0}) ReadRefusal) : Type 0 where
  pub most : P.tells → P.reads after ≤ P.reads platform + (session.grove.level + 1)
  pub none : P.tells → blocks_of session ≤ block → P.reads after ≡ P.reads platform
  pub warm : P.tells → KeepsWayTo session block → P.reads after ≤ P.reads platform + 1
  pub fills : P.tells → OnOk result (now.grove.level ≤ room_of now → KeepsWayTo now block)

-- the nodes in memory, and below them those that its cache keeps, say that the block isn't mapped
abbrev pub KnowsUnmapped : Session → ℕ → Type 0
KnowsUnmapped session block = RootFinds (CachedFits session.cache.nodes) session.grove.order block (session.grove.level - 1) session.grove.blocks session.grove.top None

-- what a trim costs: two pages for each level of the tree at most; and where it is known that the block isn't mapped nothing is read or brought into memory
pub record TrimsFew {S : Type 0} (P : Ghosts S) (block : ℕ) (platform after : S) (session now : Session) : Type 0 where
  pub most : P.tells → P.reads after ≤ P.reads platform + 2 * session.grove.level
  pub known : KnowsUnmapped session block → (after ≡ platform) × (now ≡ session)

-- what was read of an array: the content of the block; a record that doesn't fit is never met
abbrev pub ReadsArray : Blocks → ℕ → List ℕ → Result (Unit {0}) ReadRefusal → Type 0
ReadsArray contents block content (Ok done) = content ≡ content_of contents block
ReadsArray contents block content (Err (refusals.BadRecord addr)) = ⊥
ReadsArray contents block content (Err refusals.Range) = Unit {0}
ReadsArray contents block content (Err refusals.PlatformFault) = Unit {0}
