-- From which devices the calls of a move lead to which.
use Rattle.std.proofs.Common.{◌≡◌, ◌<◌, ◌∙◌, ℕ, List, Some, Result, Ok, Err, refl, sym, subst, length, map}
use Rattle.std.specs.Prelude.{All, IfErr, IfOk}
use Rattle.std.proofs.Common.{[], ◌∷◌, ◌+◌, get_or, take, true}
use Rattle.std.proofs.lemmas.List.{take_more}
use Rattle.std.proofs.lemmas.List.Elements.{All-append, All-cons, All-get_or, All-nil}
use Rattle.std.specs.FinMap as maps
use Rattle.sdbt_base.specs.Arrays.{Device, Session as OpenSession, content_of, mounted, written}
use Rattle.platform.specs.Image.{Image}
use Rattle.page_store.specs.Places.{root_want}
use Rattle.page_store.specs.Tree.{Parts, Tree}
use Rattle.page_store.proofs.TreeLaws.{tree_not_wrong}
use Rattle.root_codec.specs.declared.root.Root.{Root}
use Rattle.root_codec.specs.RootRecord.{FitsRoot}
use Rattle.node_codec.specs.declared.body.Entry.{Entry}
use Rattle.btree_walk.specs.Nodes.{FirstWrongOf}
use Rattle.btree_walk.specs.declared.refusals.WalkRefusal.{WalkRefusal}
use Rattle.btree_walk.specs.declared.refusals.WalkRefusal.TheVariants as walks
use Rattle.btree_walk.proofs.ShowsLaws.{first_wrong_is_wrong}
use Rattle.device_course.specs.States.{IsAt}
use Rattle.device_session.specs.Sessions.{Session}
use Rattle.device_core.proofs.CopyingLaws.{padded_whole}
use Rattle.session_calls.specs.Goes.{ReadsBlock, WritesBlock}
use Rattle.session_calls.specs.declared.stops.DeviceStop.{DeviceStop}
use Rattle.session_calls.specs.declared.stops.DeviceStop.TheVariants as stops
use Rattle.transfer.specs.Copies.{copy_block}
use Rattle.transfer.specs.Listing.{IsOfEntries, stop_of_walk}
use Rattle.transfer.specs.Moving.{IsSoundStop}

-- ---- a listing

pub lists_done : {X : Type 0} (items : X → List ℕ) (result : Result X DeviceStop) (list : List Entry) (blocks addr : ℕ) (keys : List ℕ) → IfOk result (λ lows. All (λ block. block < blocks) (items lows) × (items lows ≡ map (λ (e : Entry). e.low) list)) → IfErr result (IsOfEntries list blocks addr)
    → All (λ e. e.low < blocks) list → map (λ (e : Entry). e.low) list ≡ keys → IfOk result (λ lows. items lows ≡ keys) × IfErr result IsSoundStop
lists_done items (Ok lows) list blocks addr keys done stopped within same = (done.1 ∙ same, tt)
lists_done items (Err stops.Platform) list blocks addr keys done stopped within same = (tt, tt)
lists_done items (Err stops.Tape) list blocks addr keys done stopped within same = (tt, tt)
lists_done items (Err stops.Ledger) list blocks addr keys done stopped within same = (tt, tt)
lists_done items (Err stops.Memory) list blocks addr keys done stopped within same = (tt, tt)
lists_done items (Err stops.BadRoot) list blocks addr keys done stopped within same = absurd stopped
lists_done items (Err (stops.BadRecord at)) list blocks addr keys done stopped within same = absurd (stopped.1 within)

pub walk_sound : (pages : List (List ℕ)) (root : Root) (parts : Parts) (refusal : WalkRefusal) → FitsRoot root → Tree pages root parts → ((addr : ℕ) → refusal ≡ walks.BadRecord addr → FirstWrongOf pages root addr) → IsSoundStop (stop_of_walk refusal)
walk_sound pages root parts walks.PlatformFault fits tree wrong = tt
walk_sound pages root parts walks.Memory fits tree wrong = tt
walk_sound pages root parts (walks.BadRecord addr) fits tree wrong = absurd (tree_not_wrong pages root parts addr fits tree (first_wrong_is_wrong pages addr root.order root.level (root_want root) root.key (wrong addr refl)))

-- ---- a block

pub read_sound : (image : Image) (now : Session) (device : Device) (array : OpenSession) (block : ℕ) (bytes : List ℕ) (stop : DeviceStop) → ReadsBlock image now device array block bytes (Err stop) → IsSoundStop stop
read_sound image now device array block bytes stops.Platform led = tt
read_sound image now device array block bytes stops.Memory led = tt
read_sound image now device array block bytes stops.Tape led = tt
read_sound image now device array block bytes stops.Ledger led = tt
read_sound image now device array block bytes stops.BadRoot led = absurd led
read_sound image now device array block bytes (stops.BadRecord addr) led = absurd led

pub write_sound : (image : Image) (now : Session) (device : Device) (array : OpenSession) (block : ℕ) (content : List ℕ) (stop : DeviceStop) → WritesBlock image now device array block content (Err stop) → IsSoundStop stop
write_sound image now device array block content stops.Platform led = tt
write_sound image now device array block content stops.Memory led = tt
write_sound image now device array block content stops.Tape led = tt
write_sound image now device array block content stops.Ledger led = tt
write_sound image now device array block content stops.BadRoot led = absurd led
write_sound image now device array block content (stops.BadRecord addr) led = absurd led

pub copied_block : (image : Image) (now : Session) (there : Device) (array other : OpenSession) (block : ℕ) (bytes : List ℕ) → length bytes ≡ 4096 → bytes ≡ content_of array.contents block → IsAt image (Some now) (mounted there (written other block bytes)) → IsAt image (Some now) (mounted there (copy_block array.contents other block))
copied_block image now there array other block bytes size is at =
    subst (λ (b : List ℕ). IsAt image (Some now) (mounted there (record { contents = maps.insert other.contents block b; touched = true }))) (padded_whole bytes size ∙ is) at

-- ---- blocks that are compared

pub same_more : (array other : OpenSession) (blocks : List ℕ) (index : ℕ) → index < length blocks → All (λ block. content_of array.contents block ≡ content_of other.contents block) (take index blocks) → content_of array.contents (get_or blocks index 0) ≡ content_of other.contents (get_or blocks index 0)
    → All (λ block. content_of array.contents block ≡ content_of other.contents block) (take (index + 1) blocks)
same_more array other blocks index within all same =
    let Alike : ℕ → Type 0 = λ block. content_of array.contents block ≡ content_of other.contents block in
    let block : ℕ = get_or blocks index 0 in
    subst (λ (bs : List ℕ). All Alike bs) (sym (take_more blocks index 0 within)) (All-append Alike (take index blocks) (block ∷ []) all (All-cons Alike block [] same (All-nil Alike)))

pub same_at : (array other : OpenSession) (blocks : List ℕ) (index : ℕ) → index < length blocks → All (λ block. content_of array.contents block ≡ content_of other.contents block) blocks → content_of array.contents (get_or blocks index 0) ≡ content_of other.contents (get_or blocks index 0)
same_at array other blocks index within all = All-get_or (λ (block : ℕ). content_of array.contents block ≡ content_of other.contents block) blocks index 0 within all
