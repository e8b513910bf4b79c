-- What a listing of mapped blocks says.
use Rattle.std.proofs.Common.{◌≡◌, ◌<◌, ◌≤◌, ◌+◌, ◌∙◌, ◌++◌, ◌∷◌, ℕ, List, [], Some, Result, Ok, Err, inl, inr, refl, sym, ap, subst, take, map, length, arith}
use Rattle.std.specs.Prelude.{All, IfErr, IfOk, slice_get}
use Rattle.std.proofs.Common.{add-one}
use Rattle.std.proofs.lemmas.List.{length-map, map-append}
use Rattle.std.proofs.lemmas.List.Elements.{All-append, All-cons, All-nil, All-weaker}
use Rattle.node_codec.specs.declared.body.Entry.{Entry}
use Rattle.btree_walk.specs.Mapped.{IsListedWithin, entry_of}
use Rattle.btree_walk.proofs.LevelLaws.{tree_entries}
use Rattle.page_store.specs.Stands.{StandsBy}
use Rattle.page_store.specs.Tree.{Parts}
use Rattle.sdbt_base.specs.Arrays.{Device}
use Rattle.btree_walk.proofs.NodeLaws.{take_more}
use Rattle.btree_walk.proofs.OrderLaws.{root_within}
use Rattle.sdbt_base.specs.Counts.{counts}
use Rattle.sdbt_base.specs.Faults.{TellsOf}
use Rattle.platform.specs.Calls.{Looks}
use Rattle.platform.specs.Image.{Image}
use Rattle.platform.specs.declared.platforms.Platform.{Ghosts as PlatformGhosts}
use Rattle.root_codec.specs.declared.root.Root.{Root}
use Rattle.root_codec.specs.RootRecord.{FitsRoot}
use Rattle.btree_walk.specs.Looks.{OnlyLooks}
use Rattle.btree_walk.specs.Nodes.{FirstWrongOf, Node, NodesOf, listed}
use Rattle.btree_walk.specs.declared.refusals.WalkRefusal.{WalkRefusal}
use Rattle.btree_walk.specs.declared.refusals.WalkRefusal.TheVariants as walks
use Rattle.device_terms.proofs.MomentLaws.{one_look, still}
use Rattle.session_calls.specs.Blame.{HasCause, IsBlamed}
use Rattle.session_calls.specs.Damage.{IsMounted}
use Rattle.session_calls.specs.declared.stops.DeviceStop.{DeviceStop}
use Rattle.session_calls.specs.declared.stops.DeviceStop.TheVariants as stops
use Rattle.device_session.specs.Sessions.{Session}
use Rattle.transfer.specs.Listing.{IsListStop, IsOfEntries, StopsListingAt, stop_of_walk}
use Rattle.transfer.specs.Whole.{HasBlocks}

-- a walk only looks
pub looks_of : {S : Type 0} (P : PlatformGhosts S) (platform platform_now : S) → OnlyLooks P platform platform_now → Looks P platform platform_now
looks_of P platform platform_now only = record {
  image = only.image;
  time = λ told. one_look (P.history platform) (P.history platform_now) (only.time told) (only.image told);
  head = only.head;
  capacity = only.capacity;
  changes = only.changes;
  faults = only.faults;
}

-- no call of the platform
pub looks_not : {S : Type 0} (P : PlatformGhosts S) (platform : S) → Looks P platform platform
looks_not P platform = record {
  image = λ told. refl;
  time = λ told. still (P.history platform);
  head = refl;
  capacity = refl;
  changes = λ told. refl;
  faults = omega arith;
}

-- whose count rose: at a walk that was done none
pub walk_done : {X Y : Type 0} (before now : ℕ) (x : X) (y : Y) → now ≡ before → IsBlamed {T = Y} (counts before 0 0 0 0) (counts now 0 0 0 0) (Ok y)
walk_done before now x y same = record {
  fell = record { platform = omega (arith, same); tape = omega arith; input = omega arith; output = omega arith; ledger = omega arith };
  quiet = ap (λ (n : ℕ). counts n 0 0 0 0) same;
  cause = tt;
}

-- where it was done and another stop than of the platform came behind it
pub walk_then : {Y : Type 0} (before now : ℕ) (stop : DeviceStop) → now ≡ before → HasCause (counts before 0 0 0 0) (counts before 0 0 0 0) stop → IsBlamed {T = Y} (counts before 0 0 0 0) (counts now 0 0 0 0) (Err stop)
walk_then before now stop same cause = record {
  fell = record { platform = omega (arith, same); tape = omega arith; input = omega arith; output = omega arith; ledger = omega arith };
  quiet = tt;
  cause = subst (λ (n : ℕ). HasCause (counts before 0 0 0 0) (counts n 0 0 0 0) stop) (sym same) cause;
}

-- and where it was refused
pub walk_refused : {X Y : Type 0} (before now : ℕ) (refusal : WalkRefusal) → before ≤ now → TellsOf {T = X} walks.PlatformFault (Err refusal) before now → IsBlamed {T = Y} (counts before 0 0 0 0) (counts now 0 0 0 0) (Err (stop_of_walk refusal))
walk_refused before now walks.PlatformFault least tells = record {
  fell = record { platform = least; tape = omega arith; input = omega arith; output = omega arith; ledger = omega arith };
  quiet = tt;
  cause = (tells.failed refl, refl);
}
walk_refused before now (walks.BadRecord addr) least tells = record {
  fell = record { platform = least; tape = omega arith; input = omega arith; output = omega arith; ledger = omega arith };
  quiet = tt;
  cause = ap (λ (n : ℕ). counts n 0 0 0 0) (tells.refused (λ is. cc));
}
walk_refused before now walks.Memory least tells = record {
  fell = record { platform = least; tape = omega arith; input = omega arith; output = omega arith; ledger = omega arith };
  quiet = tt;
  cause = ap (λ (n : ℕ). counts n 0 0 0 0) (tells.refused (λ is. cc));
}

pub list_stopped : (Known : Type 0) (image after : Image) (session : Session) (refusal : WalkRefusal) → (Known → after ≡ image) → FitsRoot session.root → (Known → IsMounted image session) → (Known → (addr : ℕ) → refusal ≡ walks.BadRecord addr → FirstWrongOf image.readable session.root addr)
    → IsListStop Known after (stop_of_walk refusal)
list_stopped Known image after session walks.PlatformFault same fits mounted wrong = tt
list_stopped Known image after session walks.Memory same fits mounted wrong = tt
list_stopped Known image after session (walks.BadRecord addr) same fits mounted wrong =
    λ known. subst (λ (i : Image). StopsListingAt i addr) (sym (same known)) (record { root = session.root; in_range = fits; cell = (mounted known).cell; stops = inl (wrong known addr refl) })

-- ---- the blocks of entries

-- one entry more
pub low_more : (list : List Entry) (place : ℕ) (entry : Entry) (lows : List ℕ) → slice_get list place ≡ Some entry → lows ≡ map (λ (e : Entry). e.low) (take place list) → lows ++ entry.low ∷ [] ≡ map (λ (e : Entry). e.low) (take (place + 1) list)
low_more list place entry lows found are =
    let next : take (place + 1) list ≡ take place list ++ entry ∷ [] = subst (λ (n : ℕ). take n list ≡ take place list ++ entry ∷ []) (sym (add-one place)) (take_more list place entry found) in
    ap (λ (l : List ℕ). l ++ entry.low ∷ []) are ∙ sym (map-append (λ (e : Entry). e.low) (take place list) (entry ∷ [])) ∙ ap (map (λ (e : Entry). e.low)) (sym next)

pub within_more : (lows : List ℕ) (low blocks : ℕ) → low < blocks → All (λ block. block < blocks) lows → All (λ block. block < blocks) (lows ++ low ∷ [])
within_more lows low blocks less all = All-append (λ (block : ℕ). block < blocks) lows (low ∷ []) all (All-cons (λ (block : ℕ). block < blocks) low [] less (All-nil (λ (block : ℕ). block < blocks)))

-- the entries of a tree are of the device's blocks
pub entries_within : (pages : List (List ℕ)) (root : Root) (nodes : List Node) → FitsRoot root → NodesOf pages root nodes → All (λ e. e.low < root.blocks) (listed nodes)
entries_within pages root nodes fits of = All-weaker (IsListedWithin 0 root.blocks root.addr) (λ (e : Entry). e.low < root.blocks) (λ e is. is.to) (listed nodes) (root_within pages root nodes fits of)

pub entries_stopped : {X : Type 0} (Known : Type 0) (image : Image) (list : List Entry) (blocks addr : ℕ) (result : Result X DeviceStop) → IfErr result (IsOfEntries list blocks addr) → (Known → All (λ e. e.low < blocks) list) → IfErr result (IsListStop Known image)
entries_stopped Known image list blocks addr (Ok lows) is within = tt
entries_stopped Known image list blocks addr (Err stops.Platform) is within = absurd is
entries_stopped Known image list blocks addr (Err stops.Tape) is within = absurd is
entries_stopped Known image list blocks addr (Err stops.Ledger) is within = absurd is
entries_stopped Known image list blocks addr (Err stops.BadRoot) is within = absurd is
entries_stopped Known image list blocks addr (Err stops.Memory) is within = tt
entries_stopped Known image list blocks addr (Err (stops.BadRecord at)) is within = λ known. absurd (is.1 (within known))

-- ---- how many they are

-- where a tree's entries are others than the root record says, it stops at the root node
pub list_miscounted : (image after : Image) (session : Session) (nodes : List Node) → FitsRoot session.root → IsMounted image session → NodesOf image.readable session.root nodes → (length (listed nodes) ≡ session.root.mapped → ⊥) → after ≡ image → StopsListingAt after session.root.addr
list_miscounted image after session nodes fits mounted of never same =
    subst (λ (i : Image). StopsListingAt i session.root.addr) (sym same) (record { root = session.root; in_range = fits; cell = mounted.cell; stops = inr (refl, record { nodes = nodes; are = of; another = never }) })

-- those of a device aren't
pub list_counted : (image : Image) (device : Device) (root : Root) (parts : Parts) (nodes : List Node) → StandsBy image device root parts → NodesOf image.readable root nodes → length (listed nodes) ≡ root.mapped
list_counted image device root parts nodes stands of = ap length (tree_entries image.readable root parts nodes stands.in_range stands.tree of) ∙ length-map parts.mapped entry_of ∙ stands.count

pub lows_many : {X : Type 0} (items : X → List ℕ) (result : Result X DeviceStop) (list : List Entry) (blocks count : ℕ) → IfOk result (λ lows. All (λ block. block < blocks) (items lows) × (items lows ≡ map (λ (e : Entry). e.low) list)) → length list ≡ count
    → IfOk result (λ lows. length (items lows) ≡ count)
lows_many items (Ok lows) list blocks count done many = ap length done.1 ∙ length-map list (λ (e : Entry). e.low) ∙ many
lows_many items (Err stop) list blocks count done many = tt

-- on any pages: each node fits, and the blocks are those of its entries
pub lows_listed : {X : Type 0} (items : X → List ℕ) (result : Result X DeviceStop) (list : List Entry) (image : Image) (root : Root) (nodes : List Node) (blocks : ℕ) → IfOk result (λ lows. All (λ block. block < blocks) (items lows) × (items lows ≡ map (λ (e : Entry). e.low) list))
    → list ≡ listed nodes → NodesOf image.readable root nodes → IfOk result (λ lows. HasBlocks image root (items lows))
lows_listed items (Ok lows) list image root nodes blocks done is are = record { nodes = nodes; are = are; is = done.1 ∙ ap (map (λ (e : Entry). e.low)) is }
lows_listed items (Err stop) list image root nodes blocks done is are = tt
