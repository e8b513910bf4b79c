-- A device's tree while it is updated: when it is sound, when an update can't fail, and what an update lets go.
use Rattle.std.specs.Prelude.{◌≡◌, ◌⊎◌, ℕ, ◌+◌, ◌-◌, ◌<◌, ◌≤◌, List, [], ◌∷◌, ◌++◌, Option, None, Some, Bool, map, vec_len, vec_capacity}
use Rattle.std.specs.List.{AllByRecursion}
use Rattle.sdbt_base.specs.declared.lists.Unkept.{Unkept}
use Rattle.page_store.specs.Tree.{Mapped}
use Rattle.btree_twigs.specs.Stubs.{Stub, datum, stubs, nodes}
use Rattle.btree_twigs.specs.Updates.{IsOpen, HasSpares}
use Rattle.btree_twigs.specs.Levels.{Node, IsMedium, rows_at}
use Rattle.btree_twigs.specs.Search.{IsAt}
use Rattle.btree_twigs.specs.Top.{top_least}
use Rattle.btree_update.specs.declared.groves.Grove.{Grove}
use Rattle.btree_update.specs.Held.{AnyRead, IsReadAs}
use Rattle.btree_update.specs.Tells.{Tells}
use Rattle.btree_update.specs.GroveTree.{want_in}
use Rattle.btree_update.specs.Opens.{Opens, IsThere}
use Rattle.btree_update.specs.Roots.{IsRoot, HeldRoot, RootMaps}
use Rattle.btree_update.specs.Wrong.{WrongFrom}
use Rattle.btree_update.specs.Beside.{IsReadWhere, HelpsFrom}

-- the order and the root are as they may be, and the lists for new nodes have room for them
pub record IsSound (grove : Grove) : Type 0 where
  pub least : 4 ≤ grove.order
  pub most : grove.order ≤ 64
  pub one : 1 ≤ grove.level
  pub shaped : IsRoot grove.order (grove.level - 1) grove.blocks grove.top
  pub spares : HasSpares grove.order 0 grove.spares.items

-- the nodes on the way to a block are in memory or held
abbrev pub IsAtHand : ℕ → Grove → Type 0
IsAtHand block grove = HeldRoot AnyRead grove.order block (grove.level - 1) grove.blocks grove.top grove.held.items

-- and those that are held are what these pages say
abbrev pub IsReadFrom : List (List ℕ) → ℕ → Grove → Type 0
IsReadFrom pages block grove = HeldRoot (IsReadAs pages grove.order) grove.order block (grove.level - 1) grove.blocks grove.top grove.held.items

-- all is at hand that an insertion of this block may need
pub record CanInsert (block : ℕ) (grove : Grove) : Type 0 where
  pub sound : IsSound grove
  pub to : block < grove.blocks
  pub at_hand : IsAtHand block grove
  pub spares : HasSpares grove.order (grove.level + 1) grove.spares.items
  pub gone_room : vec_len grove.gone + vec_len grove.held < vec_capacity grove.gone
  pub never_room : vec_len grove.never < vec_capacity grove.never

-- the neighbours that a removal of a block needs are in memory or held
abbrev pub HasBeside : ℕ → Grove → ℕ → Type 0
HasBeside block grove loses = HelpsFrom AnyRead grove.order block (grove.level - 1) grove.blocks grove.top grove.held.items grove.beside.items loses

-- and those that are held are what these pages say
abbrev pub IsReadBeside : List (List ℕ) → ℕ → Grove → Type 0
IsReadBeside pages block grove = (loses : ℕ) × HelpsFrom (IsReadAs pages grove.order) grove.order block (grove.level - 1) grove.blocks grove.top grove.held.items grove.beside.items loses

-- all is at hand that a removal of this block may need
pub record CanRemove (block : ℕ) (grove : Grove) : Type 0 where
  pub sound : IsSound grove
  pub to : block < grove.blocks
  pub at_hand : IsAtHand block grove
  pub loses : ℕ
  pub beside : HasBeside block grove loses
  pub gone_room : vec_len grove.gone + (vec_len grove.held + vec_len grove.beside) < vec_capacity grove.gone
  pub never_room : vec_len grove.never < vec_capacity grove.never

-- the mapped blocks of the tree over these pages, in order
abbrev pub GroveMaps : List (List ℕ) → Grove → List Mapped → Type 0
GroveMaps pages grove mapped = RootMaps pages grove.order (grove.level - 1) grove.blocks grove.top mapped

-- over these pages, a place at this address is on the way to a block or beside it, and nothing fits there
abbrev pub IsWrongOnWay : List (List ℕ) → ℕ → Grove → ℕ → Type 0
IsWrongOnWay pages block grove addr = WrongFrom pages grove.order (top_least (grove.level - 1)) block addr (grove.level - 1) grove.blocks grove.top

-- an address is refused only where a place there is wrong, on the way to a block or beside it, and none is where the tree maps anything at all
pub record RefusesWrong (pages : List (List ℕ)) (block : ℕ) (grove : Grove) (Refuses : ℕ → Type 0) : Type 0 where
  pub wrong : (addr : ℕ) → Refuses addr → IsWrongOnWay pages block grove addr
  pub never : (mapped : List Mapped) → GroveMaps pages grove mapped → (addr : ℕ) → ¬ (Refuses addr)

-- the root's level stays or goes up by one; where the block is mapped it stays, since its record only gives way to another
pub record MayRise (block : ℕ) (old new : Grove) : Type 0 where
  pub rises : (new.level ≡ old.level) ⊎ (new.level ≡ old.level + 1)
  pub stays : CanRemove block old → new.level ≡ old.level

-- the places on the medium, from left to right
abbrev pub places_of : Grove → List Stub
places_of grove = stubs grove.level grove.blocks grove.top

-- how many nodes are in memory
abbrev pub grown_in : Grove → ℕ
grown_in grove = nodes grove.level grove.top

-- the address of a block's data record among these places, or none
abbrev pub IsAddressOf : ℕ → List Stub → Option ℕ → Type 0
IsAddressOf block stubs None = IsAt block stubs []
IsAddressOf block stubs (Some addr) = (key : List ℕ) × IsAt block stubs (datum block addr key ∷ [])

-- a committed address comes to those that are gone, another one with its block to those that are never committed
abbrev pub LetsGo : ℕ → ℕ → Option ℕ → List ℕ → List ℕ → List Unkept → List Unkept → Type 0
LetsGo head block None gone more never most = (more ≡ gone) × (most ≡ never)
LetsGo head block (Some addr) gone more never most =
    (addr < head → (more ≡ gone ++ addr ∷ []) × (most ≡ never)) × (head ≤ addr → (more ≡ gone) × (most ≡ never ++ record { block = block; addr = addr } ∷ []))

-- the same, at such places
abbrev pub IsReadBesideAt : List (List ℕ) → (Stub → Bool) → ℕ → Grove → Type 0
IsReadBesideAt pages may block grove = (loses : ℕ) × HelpsFrom (IsReadWhere pages may grove.order) grove.order block (grove.level - 1) grove.blocks grove.top grove.held.items grove.beside.items loses

-- below a root at a level an update of a block opens such places until the way to it is open, and makes this of them; their nodes were there, and
-- are gone, and so is the block's data record
pub record Goes (pages : List (List ℕ)) (order top head block : ℕ) (May : Stub → Type 0) (Makes : List Stub → Type 0) (old : List Stub) (gone more : List ℕ) (never most : List Unkept) : Type 0 where
  pub opened : List Stub
  pub places : List Stub
  pub opens : Opens pages order places old opened
  pub may : AllByRecursion May places
  pub fit : AllByRecursion (λ s. IsThere pages (want_in order top s) s.key) places
  pub is_open : IsOpen block opened
  pub makes : Makes opened
  pub replaced : Option ℕ
  pub was : IsAddressOf block opened replaced
  pub goes : LetsGo head block replaced (gone ++ map (λ s. s.addr) places) more never most

-- the nodes at each level of the tree, of which the medium has these below a place
abbrev pub levels_of : (Stub → ℕ → List Node) → Grove → ℕ → List Node
levels_of medium grove = rows_at medium grove.level grove.blocks grove.top

-- the levels of the tree over these pages
pub record HasLevels (pages : List (List ℕ)) (grove : Grove) (levels : ℕ → List Node) : Type 0 where
  pub medium : Stub → ℕ → List Node
  pub bounds : IsMedium medium
  pub told : Tells pages medium (places_of grove)
  pub are : (j : ℕ) → levels j ≡ levels_of medium grove j

-- the tree and what it let go are the same
pub record KeepsTree (old new : Grove) : Type 0 where
  pub order : new.order ≡ old.order
  pub blocks : new.blocks ≡ old.blocks
  pub head : new.head ≡ old.head
  pub level : new.level ≡ old.level
  pub top : new.top ≡ old.top
  pub gone : new.gone.items ≡ old.gone.items
  pub never : new.never.items ≡ old.never.items
