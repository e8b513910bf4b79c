-- What an upgrade reads of a device before it draws a key.
use Rattle.std.specs.Prelude.{◌≡◌, ◌<◌, ◌+◌, ◌-◌, ◌*◌, ℕ, List, None, Result, Ok, Err, All, length, map}
use Rattle.std.specs.List.Sorted.{IsStrictlyIncreasing}
use Rattle.sdbt_base.specs.Faults.{Rose}
use Rattle.platform.specs.declared.platforms.Platform.{Ghosts}
use Rattle.node_codec.specs.declared.body.Entry.{Entry}
use Rattle.root_codec.specs.declared.root.Root.{Root}
use Rattle.page_store.specs.Roots.{IsBadCell}
use Rattle.page_store.specs.declared.refusals.CurrentRefusal.{CurrentRefusal}
use Rattle.page_store.specs.declared.refusals.CurrentRefusal.TheVariants as currents
use Rattle.btree_walk.specs.Nodes.{Node, NodesOf, listed}
use Rattle.btree_walk.specs.declared.refusals.WalkRefusal.{WalkRefusal}
use Rattle.btree_walk.specs.declared.refusals.WalkRefusal.TheVariants as walks
use Rattle.device_core.specs.Upgrading.{IsOn, Begins, StopsListing, needed_of_root}
use Rattle.device_core.specs.declared.refusals.UpgradeRefusal.{UpgradeRefusal}
use Rattle.device_core.specs.declared.refusals.UpgradeRefusal.TheVariants as upgrade
use Rattle.device_core.specs.declared.surveying.Survey.{Survey}

-- why there is no upgrade where no root record was answered, or a tree was not listed
abbrev pub unseen : CurrentRefusal → UpgradeRefusal
unseen currents.BadRoot = upgrade.BadRoot
unseen currents.PlatformFault = upgrade.PlatformFault

abbrev pub unlisted : WalkRefusal → UpgradeRefusal
unlisted (walks.BadRecord addr) = upgrade.BadRecord addr
unlisted walks.PlatformFault = upgrade.PlatformFault
unlisted walks.Memory = upgrade.Memory

-- a root record was answered on which an upgrade begins; or there is none, or none that can be served, or it is of version 2, or too few pages are free
abbrev pub IsBeginCause : {S : Type 0} → Ghosts S → S → S → Result Root UpgradeRefusal → Type 0
IsBeginCause P platform platform_now (Ok root) = Begins P.tells (P.history platform).present (P.head platform) (P.capacity platform) root × (P.faults platform_now ≡ P.faults platform)
IsBeginCause P platform platform_now (Err upgrade.NoDevice) = (P.tells → (P.history platform).present.cell ≡ None) × (P.faults platform_now ≡ P.faults platform)
IsBeginCause P platform platform_now (Err upgrade.BadRoot) = (P.tells → IsBadCell (P.head platform) (P.history platform).present.cell) × (P.faults platform_now ≡ P.faults platform)
IsBeginCause P platform platform_now (Err upgrade.AlreadyUpgraded) =
    ((root : Root) × IsOn P.tells (P.history platform).present (P.head platform) root × (root.version ≡ 2)) × (P.faults platform_now ≡ P.faults platform)
IsBeginCause P platform platform_now (Err (upgrade.Full needed free)) =
    ((root : Root) × IsOn P.tells (P.history platform).present (P.head platform) root × (root.version ≡ 1) × (needed ≡ needed_of_root root) × (free ≡ P.capacity platform - P.head platform) × (free < needed))
    × (P.faults platform_now ≡ P.faults platform)
IsBeginCause P platform platform_now (Err upgrade.PlatformFault) = Rose (P.faults platform) (P.faults platform_now)
IsBeginCause P platform platform_now (Err other) = ⊥

-- as many entries as the root record says, in the order of its blocks, whose data records lie below the root node
abbrev pub IsListing : Root → List Entry → Type 0
IsListing root entries = (length entries ≡ root.mapped) × IsStrictlyIncreasing (map (λ (e : Entry). e.low) entries) × All (λ (e : Entry). e.low < root.blocks) entries × All (λ (e : Entry). e.addr < root.addr) entries

-- entries and addresses that are those of the tree of a root record
pub record AreOf (tells : Type 0) (pages : List (List ℕ)) (root : Root) (entries : List Entry) (addrs : List ℕ) : Type 0 where
  pub listing : IsListing root entries
  pub listed_are : tells → (nodes : List Node) × NodesOf pages root nodes × (entries ≡ listed nodes)
  pub addrs_are : tells → (nodes : List Node) × NodesOf pages root nodes × (addrs ≡ map (λ n. n.addr) nodes)

abbrev pub IsSurvey : Type 0 → List (List ℕ) → Root → Survey → Type 0
IsSurvey tells pages root found = AreOf tells pages root found.items.items found.nodes

-- each node of the tree of a root record fits, they list as many entries as it says, and each was read twice
pub record ReadsTwice (pages : List (List ℕ)) (root : Root) (reads reads_now : ℕ) : Type 0 where
  pub nodes : List Node
  pub are : NodesOf pages root nodes
  pub many : length (listed nodes) ≡ root.mapped
  pub read : reads_now ≡ reads + 2 * length nodes

-- what was to be read of the tree of a root record was read, or no memory was given, or a listing of its blocks stops at the address that is named, or the platform failed
abbrev pub IsSurveyCause : {S A : Type 0} → Ghosts S → S → S → Root → Result A UpgradeRefusal → Type 0
IsSurveyCause P platform platform_now root (Ok found) = P.faults platform_now ≡ P.faults platform
IsSurveyCause P platform platform_now root (Err upgrade.Memory) = P.faults platform_now ≡ P.faults platform
IsSurveyCause P platform platform_now root (Err (upgrade.BadRecord addr)) = (P.tells → StopsListing (P.history platform).present.readable root addr) × (P.faults platform_now ≡ P.faults platform)
IsSurveyCause P platform platform_now root (Err upgrade.PlatformFault) = Rose (P.faults platform) (P.faults platform_now)
IsSurveyCause P platform platform_now root (Err other) = ⊥
