-- What an upgrade is asked and answers: which root record it begins on, how many pages it needs, and why it is refused.
use Rattle.std.specs.Prelude.{◌≡◌, ◌≢◌, ◌≤◌, ◌<◌, ◌+◌, ◌-◌, ◌*◌, ◌⊎◌, min, ℕ, List, [], All, Option, None, Some, Result, Ok, Err, length}
use Rattle.std.specs.FinMap as map
use Rattle.sdbt_base.specs.Arrays.{Device}
use Rattle.sdbt_base.specs.Counts.{Counts, PlatformRose, TapeRose, LedgerRose}
use Rattle.sdbt_base.specs.Keys.{IsKeyOf}
use Rattle.sdbt_base.specs.declared.tapes.Tape.{Ghosts as TapeGhosts}
use Rattle.platform.specs.declared.platforms.Platform.{Ghosts as PlatformGhosts}
use Rattle.platform.specs.Image.{Image}
use Rattle.sdbt_base.specs.Rises.{MayRiseBy}
use Rattle.platform.specs.History.{History, CellStays}
use Rattle.root_codec.specs.declared.root.Root.{Root}
use Rattle.root_codec.specs.RootRecord.{FitsRoot, root_bytes}
use Rattle.page_store.specs.Places.{root_want}
use Rattle.page_store.specs.Reading.{MayLook}
use Rattle.page_store.specs.Roots.{IsRootWithin, IsBadCell}
use Rattle.page_store.specs.Stands.{Stands, StandsBy}
use Rattle.page_store.specs.Tree.{Parts}
use Rattle.cert_maker.specs.Cert.{Cert}
use Rattle.device_terms.specs.Effects.{ChangesBehind}
use Rattle.device_terms.specs.Certifying.{AddsSynced, IsOfTrees, PutsEntry}
use Rattle.btree_walk.specs.Nodes.{Node, NodesOf, FirstWrongOf, CutShort, listed}
use Rattle.tree_build.specs.Building.{DrewFew}
use Rattle.tree_build.specs.Shape.{built}
use Rattle.device_core.specs.Copying.{StopsAt}
use Rattle.device_core.specs.Publishing.{IsUnmade}
use Rattle.device_core.specs.declared.refusals.UpgradeRefusal.{UpgradeRefusal}
use Rattle.device_core.specs.declared.refusals.UpgradeRefusal.TheVariants as upgrade

-- the order of a device of version 2 that had this one
abbrev pub order_above : ℕ → ℕ
order_above order = min order 48

-- how many pages an upgrade adds: one for each mapped block, and those of the nodes over them
abbrev pub pages_over : ℕ → ℕ → ℕ
pages_over order mapped = mapped + built (order_above order) mapped

-- by a root record, and by the device
abbrev pub needed_of_root : Root → ℕ
needed_of_root root = pages_over root.order root.mapped

abbrev pub needed_of_device : Device → ℕ
needed_of_device device = pages_over device.order (map.len device.contents)

-- the root record in the cell is this one, which can be served
pub record IsOn (tells : Type 0) (image : Image) (head : ℕ) (root : Root) : Type 0 where
  pub within : IsRootWithin head root
  pub cell : tells → image.cell ≡ Some (root_bytes root)

-- it is of version 1, and as many pages are free as an upgrade needs
pub record Begins (tells : Type 0) (image : Image) (head capacity : ℕ) (root : Root) : Type 0 where
  pub on : IsOn tells image head root
  pub version : root.version ≡ 1
  pub room : needed_of_root root ≤ capacity - head

-- the root record that follows it by an upgrade: of version 2, naming the last of so many pages
pub record IsUpgradedRoot (root : Root) (head : ℕ) (next : Root) : Type 0 where
  pub in_range : FitsRoot next
  pub key : IsKeyOf 2 next.key
  pub version : next.version ≡ 2
  pub order : next.order ≡ order_above root.order
  pub blocks : next.blocks ≡ root.blocks
  pub commit : next.commit ≡ root.commit + 1
  pub mapped : next.mapped ≡ root.mapped
  pub node : next.addr + 1 ≡ head
  pub head_is : next.head ≡ head

-- the image stands for the device by a tree whose places are all at this address or behind it; or for none
abbrev pub StandsFrom : ℕ → Option Device → Image → Type 0
StandsFrom first None image = Stands image None
StandsFrom first (Some device) image = (root : Root) × (parts : Parts) × StandsBy image device root parts × All (λ p. first ≤ p.addr) parts.places

-- the nodes of the tree of a root record all fit, and list another number of blocks than it says
pub record ListsAnother (pages : List (List ℕ)) (root : Root) : Type 0 where
  pub nodes : List Node
  pub are : NodesOf pages root nodes
  pub another : length (listed nodes) ≢ root.mapped

-- a listing of its blocks stops at this address: at the first of its nodes, in their order, that doesn't fit; or, where all fit and list another number, at the root node
abbrev pub StopsListing : List (List ℕ) → Root → ℕ → Type 0
StopsListing pages root addr = FirstWrongOf pages root addr ⊎ ((addr ≡ root.addr) × ListsAnother pages root)

-- its nodes list as many blocks as it says, and in the order of these the first data record that doesn't fit has this address
pub record StopsCopying (pages : List (List ℕ)) (root : Root) (addr : ℕ) : Type 0 where
  pub nodes : List Node
  pub are : NodesOf pages root nodes
  pub many : length (listed nodes) ≡ root.mapped
  pub stops : StopsAt pages addr (listed nodes)

-- an upgrade of the root record stops at this address: where the listing of its blocks does, or else the copying of their data records
abbrev pub IsDamaged : List (List ℕ) → Root → ℕ → Type 0
IsDamaged pages root addr = StopsListing pages root addr ⊎ StopsCopying pages root addr

-- what was added so far is a part of what is needed, and at each moment the cell is as it was; so often, at most, all was synced
pub record IsPartly {S : Type 0} (P : PlatformGhosts S) (syncs : ℕ) (platform platform_now : S) (root : Root) : Type 0 where
  pub begins : Begins P.tells (P.history platform).present (P.head platform) (P.capacity platform) root
  pub most : P.head platform_now ≤ P.head platform + needed_of_root root
  pub still : P.tells → CellStays (P.history platform) (P.history platform_now)
  pub changes : P.tells → MayRiseBy syncs (P.changes platform) (P.changes platform_now)

-- an upgrade of the root record in the cell drew no more keys than it adds pages, and looked at the cell once, and read each node of the tree before it twice and
-- each data record once, and synced once and replaced the root record once, at most, and neither before it
-- had added all pages that it needs
pub record SpendsOn {S R : Type 0} (P : PlatformGhosts S) (T : TapeGhosts R) (platform platform_now : S) (tape tape_now : R) : Type 0 where
  pub root : Root
  pub begins : Begins P.tells (P.history platform).present (P.head platform) (P.capacity platform) root
  pub draws : DrewFew (needed_of_root root) (T.drawn tape) (T.drawn tape_now)
  pub reads : P.tells → (nodes : List Node) × NodesOf (P.history platform).present.readable root nodes × (P.reads platform_now ≤ P.reads platform + (1 + 2 * length nodes + root.mapped))
  pub changes : P.tells → MayRiseBy 2 (P.changes platform) (P.changes platform_now)
  pub behind : ChangesBehind P (needed_of_root root) platform platform_now

-- of the tree of a root record nothing was read; or a walk over its nodes was cut short, and read none twice; or each node was read, and, only where they list as many entries as the
-- root record says, each once more at most, or by a second walk that was cut short
abbrev pub ReadsCut : List (List ℕ) → Root → ℕ → ℕ → Type 0
ReadsCut pages root reads reads_now =
    (reads_now ≡ reads) ⊎ CutShort pages (root_want root) root.key reads reads_now
    ⊎ ((nodes : List Node) × NodesOf pages root nodes
    × ((reads_now ≡ reads + length nodes)
    ⊎ ((length (listed nodes) ≡ root.mapped) × ((reads_now ≤ reads + 2 * length nodes) ⊎ CutShort pages (root_want root) root.key (reads + length nodes) reads_now))))

-- the cell was looked at, once at most, and no page read; or behind one look at it an upgrade of its root record began, and read so of its tree
abbrev pub ReadsFew : {S : Type 0} → PlatformGhosts S → S → S → Type 0
ReadsFew P platform platform_now =
    (P.tells → MayLook P platform platform_now)
    ⊎ ((root : Root) × Begins P.tells (P.history platform).present (P.head platform) (P.capacity platform) root
    × (P.tells → ReadsCut (P.history platform).present.readable root (P.reads platform + 1) (P.reads platform_now)))

-- so it is; or no key was drawn and nothing synced, there is no upgrade, and each node was read twice at most, and no data record
abbrev pub SpendsUpgrade : {S R : Type 0} → PlatformGhosts S → TapeGhosts R → S → S → R → R → Type 0 → Type 0
SpendsUpgrade P T platform platform_now tape tape_now Done =
    ((T.drawn tape_now ≡ T.drawn tape) × (Done → ⊥) × (P.tells → P.changes platform_now ≡ P.changes platform) × ReadsFew P platform platform_now) ⊎ SpendsOn P T platform platform_now tape tape_now

-- the ledger is as it was; or it got something, and before that the pages that an upgrade of the root record in the cell needs were added and all pages were synced
abbrev pub PutsUpgrade : {S W : Type 0} → PlatformGhosts S → S → S → W → W → Type 0
PutsUpgrade P platform platform_now ledger ledger_now =
    (ledger_now ≡ ledger) ⊎ ((root : Root) × Begins P.tells (P.history platform).present (P.head platform) (P.capacity platform) root × AddsSynced P (needed_of_root root) platform platform_now)

-- a device of version 1 is made one of version 2, with the next number, where as many pages are free as are needed, and these are added then. Else there is no device, or none that can be served, or it is of version 2, or too few pages are
-- free, exactly so, and nothing comes of it; memory is asked for behind that. Then a record is named that doesn't fit, the first one that is met, or the root node, where the nodes all fit and list another number of blocks. But for the object that an answer names none failed
abbrev pub IsUpgradeCause : {S R : Type 0} → PlatformGhosts S → TapeGhosts R → S → S → R → R → Counts → Counts → Result ℕ UpgradeRefusal → Type 0
IsUpgradeCause P T platform platform_now tape tape_now before now (Ok number) =
    (root : Root) × Begins P.tells (P.history platform).present (P.head platform) (P.capacity platform) root × (number ≡ root.commit + 1)
    × (P.head platform_now ≡ P.head platform + needed_of_root root)
    × (P.tells → (next : Root) × IsUpgradedRoot root (P.head platform_now) next × ((P.history platform_now).present.cell ≡ Some (root_bytes next))) × (now ≡ before)
IsUpgradeCause P T platform platform_now tape tape_now before now (Err upgrade.NoDevice) =
    (P.tells → (P.history platform).present.cell ≡ None) × IsUnmade P T platform platform_now tape tape_now × (now ≡ before)
IsUpgradeCause P T platform platform_now tape tape_now before now (Err upgrade.BadRoot) =
    (P.tells → IsBadCell (P.head platform) (P.history platform).present.cell) × IsUnmade P T platform platform_now tape tape_now × (now ≡ before)
IsUpgradeCause P T platform platform_now tape tape_now before now (Err upgrade.AlreadyUpgraded) =
    ((root : Root) × IsOn P.tells (P.history platform).present (P.head platform) root × (root.version ≡ 2)) × IsUnmade P T platform platform_now tape tape_now × (now ≡ before)
IsUpgradeCause P T platform platform_now tape tape_now before now (Err (upgrade.Full needed free)) =
    ((root : Root) × IsOn P.tells (P.history platform).present (P.head platform) root × (root.version ≡ 1) × (needed ≡ needed_of_root root) × (free ≡ P.capacity platform - P.head platform) × (free < needed))
    × IsUnmade P T platform platform_now tape tape_now × (now ≡ before)
IsUpgradeCause P T platform platform_now tape tape_now before now (Err upgrade.Memory) =
    ((root : Root) × Begins P.tells (P.history platform).present (P.head platform) (P.capacity platform) root) × IsUnmade P T platform platform_now tape tape_now × (now ≡ before)
IsUpgradeCause P T platform platform_now tape tape_now before now (Err (upgrade.BadRecord addr)) =
    ((root : Root) × IsPartly P 0 platform platform_now root × (P.tells → IsDamaged (P.history platform).present.readable root addr)) × (now ≡ before)
IsUpgradeCause P T platform platform_now tape tape_now before now (Err upgrade.TapeFault) = TapeRose before now × (root : Root) × IsPartly P 0 platform platform_now root
IsUpgradeCause P T platform platform_now tape tape_now before now (Err upgrade.LedgerFault) = LedgerRose before now × (root : Root) × IsPartly P 1 platform platform_now root
IsUpgradeCause P T platform platform_now tape tape_now before now (Err upgrade.PlatformFault) =
    PlatformRose before now
    × (((P.head platform_now ≡ P.head platform) × (P.tells → CellStays (P.history platform) (P.history platform_now))) ⊎ ((root : Root) × Begins P.tells (P.history platform).present (P.head platform) (P.capacity platform) root × (P.head platform_now ≤ P.head platform + needed_of_root root)))

-- an upgrade's certificate, over an image that stands: that of the tree before it, of the tree after it, and of no data page
abbrev pub IsOfUpgrade : Root → Image → Image → Root → Cert → Type 0
IsOfUpgrade root old new next cert = (device : Device) (before : Parts) → StandsBy old device root before → IsOfTrees before.places root.head new.readable next [] cert

-- what an upgrade put: nothing, with the cell as it was at each moment, or an entry, whose certificate goes on from the root record in the cell
abbrev pub CertifiesUpgrade : Type 0 → Option (List ℕ) → Option (List ℕ) → History → History → Type 0 → Type 0
CertifiesUpgrade tells written written_now old new Done =
    ((written_now ≡ written) × (tells → CellStays old new))
    ⊎ ((root : Root) × FitsRoot root × IsKeyOf root.version root.key × (tells → old.present.cell ≡ Some (root_bytes root))
    × PutsEntry tells written written_now old new root.head (root.commit + 1) (IsOfUpgrade root old.present new.present) Done)
