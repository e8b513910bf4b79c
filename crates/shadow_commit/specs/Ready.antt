-- A commit that is ready but for its root record.
use Rattle.std.specs.Prelude.{◌≡◌, ◌≢◌, ◌⊎◌, ◌-◌, ℕ, suc, ◌+◌, ◌<◌, ◌≤◌, List, Option, None, Some, Result, Ok, Err, All, AllPairs, Contains, length, slice_get}
use Rattle.std.specs.FinMap.{from_entries}
use Rattle.sdbt_base.specs.Arrays.{Device}
use Rattle.sdbt_base.specs.Faults.{Rose}
use Rattle.sdbt_base.specs.Keys.{bare, key_size, IsKeyOf}
use Rattle.sdbt_base.specs.Traces.{Traced}
use Rattle.sdbt_base.specs.declared.lists.Unkept.{Unkept}
use Rattle.sdbt_base.specs.declared.tapes.Tape.{Ghosts as TapeGhosts}
use Rattle.platform.specs.Image.{Image, all_synced, with_cell}
use Rattle.platform.specs.declared.platforms.Platform.{Ghosts as PlatformGhosts}
use Rattle.root_codec.specs.declared.root.Root.{Root}
use Rattle.root_codec.specs.RootRecord.{FitsRoot, root_bytes}
use Rattle.key_graph.specs.Trace.{Entries}
use Rattle.page_store.specs.Tree.{Parts, joined}
use Rattle.page_store.specs.Kept.{KnowsTree}
use Rattle.page_store.specs.Stands.{StandsBy, pairs_of}
use Rattle.node_cache.specs.Cached.{Cached, forgotten}
use Rattle.cert_maker.specs.Cert.{Cert}
use Rattle.cert_maker.specs.CertOf.{CertOf}
use Rattle.cert_maker.specs.Differ.{Differ}
use Rattle.cert_maker.specs.Ordered.{AreOneEach, IsOrderOf}
use Rattle.cert_codec.specs.Text.{entry, Fits as FitsText}
use Rattle.btree_twigs.specs.declared.twigs.Child.{Child}
use Rattle.btree_twigs.specs.Stubs.{Stub, addr_of, stubs, nodes}
use Rattle.btree_twigs.specs.Top.{IsTop}
use Rattle.btree_update.specs.GroveTree.{HasEach}
use Rattle.btree_update.specs.Held.{bound, AreBelow}
use Rattle.btree_update.specs.Groves.{IsSound, places_of}
use Rattle.btree_update.specs.declared.groves.Grove.{Grove}
use Rattle.shadow_commit.specs.Sealed.{Sealed, Seals}
use Rattle.shadow_commit.specs.Caching.{with_sealed}
use Rattle.shadow_commit.specs.Handing.{Adds}
use Rattle.shadow_commit.specs.NewTree.{AreParts, AreNodesOver}
use Rattle.shadow_commit.specs.Planned.{added_by}
use Rattle.shadow_commit.specs.declared.prepared.Prepared.{Prepared}
use Rattle.shadow_commit.specs.declared.refusals.CommitRefusal.{CommitRefusal}
use Rattle.shadow_commit.specs.declared.refusals.CommitRefusal.TheVariants as refused

-- the tree is that of a root record with changes: its root node is in memory, and all that it has on the medium is below the head, under keys
-- of the root record's version
pub record CanPrepare (head : ℕ) (root : Root) (mapped : ℕ) (grove : Grove) : Type 0 where
  pub sound : IsSound grove
  pub in_range : FitsRoot root
  pub order : grove.order ≡ root.order
  pub blocks : grove.blocks ≡ root.blocks
  pub level_most : grove.level ≤ 20
  pub in_memory : addr_of grove.top ≡ None
  pub below : AreBelow (bound head (key_size root.version)) (places_of grove)
  pub within : root.head ≤ head
  pub most : mapped ≤ root.blocks

-- a root node in memory that can be sealed, with changes to the tree of a root record
pub record CanSealTop (head capacity : ℕ) (root : Root) (mapped : ℕ) (top : Child) : Type 0 where
  pub in_range : FitsRoot root
  pub within : root.head ≤ head
  pub most : mapped ≤ root.blocks
  pub level : ℕ
  pub level_most : level < 20
  pub shaped : IsTop root.order level root.blocks top
  pub below : AreBelow (bound head (key_size root.version)) (stubs (suc level) root.blocks top)
  pub room : head + nodes (suc level) top ≤ capacity

-- below these places stand these parts, all of them recorded and apart, and they map so many blocks
pub record Stand (image : Image) (order : ℕ) (places : List Stub) (each : List Parts) (mapped : ℕ) : Type 0 where
  pub has : HasEach image.readable order places each
  pub apart : AllPairs (λ p q. p.addr ≢ q.addr) (joined each).places
  pub below : All (λ p. p.addr < length image.recorded) (joined each).places
  pub recorded : All (λ p. slice_get image.readable p.addr ≡ slice_get image.recorded p.addr) (joined each).places
  pub count : length (joined each).mapped ≡ mapped

-- the root record that follows another by a commit: it is of the same version, and names the last of so many pages
pub record IsNextRoot (root : Root) (mapped level head : ℕ) (next : Root) : Type 0 where
  pub version : next.version ≡ root.version
  pub order : next.order ≡ root.order
  pub blocks : next.blocks ≡ root.blocks
  pub commit : next.commit ≡ root.commit + 1
  pub level_is : next.level ≡ level
  pub mapped_is : next.mapped ≡ mapped
  pub addr : next.addr + 1 ≡ head
  pub key : IsKeyOf next.version next.key
  pub head_is : next.head ≡ head

-- the device that a commit makes
abbrev pub device_with : Root → List Parts → Device
device_with root each = record { version = root.version; blocks = root.blocks; order = root.order; number = root.commit; contents = from_entries (pairs_of (joined each)) }

-- with the root record in the cell the image stands for the device, by the sealed nodes and the parts below them
pub record StandsWith (image : Image) (root : Root) (ns : List Sealed) (each : List Parts) : Type 0 where
  pub parts : Parts
  pub are : AreParts ns each parts
  pub stands : StandsBy (with_cell image (Some (root_bytes root))) (device_with root each) root parts

-- the nodes in memory of a root node were sealed, their pages appended and synced, the cache keeps them, and the root record is known that makes the commit
pub record IsSealed (tells : Type 0) (old new : Image) (head head_now : ℕ) (drawn drawn_now : Option (List (List ℕ))) (cache cache_now : Cached) (root : Root) (mapped level : ℕ) (top : Child) (places : List Stub) (next : Root) : Type 0 where
  pub written : Image
  pub adds : Adds (λ ns. Seals root.version level head top ns (record { low = 0; addr = next.addr; key = next.key })) tells old written head head_now drawn drawn_now
  pub over : AreNodesOver root.version head places adds.nodes
  pub cached : cache_now ≡ with_sealed cache adds.nodes
  pub synced : tells → new ≡ all_synced written
  pub next_is : IsNextRoot root mapped level head_now next
  pub in_range : FitsRoot next
  pub grown : head_now ≡ head + nodes level top
  pub stands : tells → (each : List Parts) → Stand old root.order places each mapped → StandsWith new next adds.nodes each

-- a certificate has these numbers and these lists, each in the order of its addresses; where the lists are what two trees differ by, it is the
-- certificate of these
pub record CertifiesBy (commit base head node : ℕ) (added : List Traced) (gone : List ℕ) (never : List Unkept) (cert : Cert) : Type 0 where
  pub commit_is : cert.commit ≡ commit
  pub base_is : cert.base ≡ base
  pub head_is : cert.head ≡ head
  pub node_is : cert.root ≡ node
  pub added_are : AreOneEach (λ item. item.addr) added → IsOrderOf (λ item. item.addr) added cert.added
  pub gone_are : IsOrderOf (λ addr. addr) gone cert.gone
  pub never_are : AreOneEach (λ page. page.addr) never → IsOrderOf (λ page. page.addr) never cert.never
  pub trees : (old new : Entries) (pages : List Unkept) → AreOneEach (λ page. page.addr) never → Differ old new pages added gone never
      → CertOf old new commit node base head pages cert

-- all but the root record was done, the nodes that are gone were forgotten, and the certificate with its line is made
pub record IsReady (tells : Type 0) (old new : Image) (head head_now : ℕ) (drawn drawn_now : Option (List (List ℕ))) (cache cache_now : Cached) (root : Root) (mapped : ℕ) (grove : Grove) (prepared : Prepared) : Type 0 where
  pub is : IsSealed tells old new head head_now drawn drawn_now (forgotten grove.gone.items cache) cache_now root mapped grove.level grove.top (places_of grove) prepared.root
  pub cert : CertifiesBy prepared.root.commit root.head prepared.root.head prepared.root.addr (added_by root.head (places_of grove) is.adds.nodes) grove.gone.items grove.never.items prepared.cert
  pub in_text : FitsText prepared.cert
  pub line : prepared.line ≡ entry prepared.cert

-- with the keys below its kept places the keys of the new tree are listed
abbrev pub ListsNewTree : Image → Image → ℕ → List Stub → ℕ → Root → List (List ℕ) → Type 0
ListsNewTree old new order places mapped next keys =
    (each : List Parts) → Stand old order places each mapped → All (λ p. Contains keys (bare p.key)) (joined each).places → KnowsTree keys new.readable next

-- nothing was synced before so many pages were added
abbrev pub SyncsBehind : {S : Type 0} → PlatformGhosts S → ℕ → S → S → Type 0
SyncsBehind P pages platform platform_now = P.tells → (P.changes platform_now ≡ P.changes platform) ⊎ (P.head platform_now ≡ P.head platform + pages)

-- there was room for the nodes in memory exactly where it isn't full; want of room and of memory leave all as it was; where no key was drawn nothing was
-- synced, and where the platform failed not before all nodes had their pages; and but for the object that an answer names none failed
abbrev pub IsPrepareCause : {S R : Type 0} → PlatformGhosts S → TapeGhosts R → S → S → R → R → ℕ → Result Prepared CommitRefusal → Type 0
IsPrepareCause P T platform platform_now tape tape_now grown (Ok prepared) =
    (grown ≤ P.capacity platform - P.head platform) × (P.faults platform_now ≡ P.faults platform) × (T.faults tape_now ≡ T.faults tape)
IsPrepareCause P T platform platform_now tape tape_now grown (Err (refused.Full needed free)) =
    (free < needed) × (needed ≡ grown) × (free ≡ P.capacity platform - P.head platform) × (platform_now ≡ platform) × (tape_now ≡ tape)
IsPrepareCause P T platform platform_now tape tape_now grown (Err refused.Memory) =
    (grown ≤ P.capacity platform - P.head platform) × (platform_now ≡ platform) × (tape_now ≡ tape)
IsPrepareCause P T platform platform_now tape tape_now grown (Err refused.TapeFault) =
    (grown ≤ P.capacity platform - P.head platform) × Rose (T.faults tape) (T.faults tape_now) × (P.faults platform_now ≡ P.faults platform) × (P.tells → P.changes platform_now ≡ P.changes platform)
IsPrepareCause P T platform platform_now tape tape_now grown (Err refused.PlatformFault) =
    (grown ≤ P.capacity platform - P.head platform) × Rose (P.faults platform) (P.faults platform_now) × (T.faults tape_now ≡ T.faults tape) × SyncsBehind P grown platform platform_now

-- nothing was begun, for want of room or of memory
abbrev pub IsUnbegun : Result Prepared CommitRefusal → Type 0
IsUnbegun (Ok prepared) = ⊥
IsUnbegun (Err (refused.Full needed free)) = Unit {0}
IsUnbegun (Err refused.Memory) = Unit {0}
IsUnbegun (Err refused.TapeFault) = ⊥
IsUnbegun (Err refused.PlatformFault) = ⊥
