-- What a move that was done read of a device, on any pages.
use Rattle.std.proofs.Common.{◌≡◌, ◌<◌, ◌≤◌, ◌∙◌, ◌++◌, ◌∷◌, [], zero, suc, ℕ, append-nil, get_or, false, true, List, Option, None, Some, Result, Ok, Err, inl, inr, refl, sym, ap, subst, map, length, arith}
use Rattle.std.specs.Prelude.{◌≢◌, ◌↔◌, ◌⊎◌, All, Bool, Contains, IfOk, IsTrue, replicate}
use Rattle.std.specs.FinMap.{from_entries}
use Rattle.std.specs.List.{AllByRecursion}
use Rattle.std.proofs.lemmas.Bool.{cases_eq}
use Rattle.std.proofs.lemmas.List.{length-map}
use Rattle.std.proofs.lemmas.List.Elements.{All-append, All-cons, All-contains, All-contains_itself, All-head, All-nil, All-weaker, Contains-append_left, Contains-append_right}
use Rattle.std.proofs.lemmas.Result.{IfOk-weaker}
use Rattle.key_graph.proofs.ChainLaws.{map_contains}
use Rattle.sdbt_base.specs.Arrays.{Blocks, content_of, padded}
use Rattle.platform.specs.Calls.{Looks}
use Rattle.platform.specs.History.{CellStays, Extends, History, moment}
use Rattle.platform.specs.Image.{Image}
use Rattle.platform.specs.declared.platforms.Platform.{Ghosts as PlatformGhosts}
use Rattle.platform.proofs.Moments.{During-now, image_at-now}
use Rattle.node_codec.specs.declared.body.Entry.{Entry}
use Rattle.root_codec.specs.Laws.{one_root}
use Rattle.root_codec.specs.RootRecord.{FitsRoot, root_bytes}
use Rattle.root_codec.specs.declared.root.Root.{Root}
use Rattle.page_store.specs.Kept.{IsRootOf}
use Rattle.page_store.specs.Stands.{pairs_of}
use Rattle.page_store.specs.Tree.{Mapped, Parts, Tree, Wrong, joined}
use Rattle.page_store.proofs.TreeLaws.{tree_not_wrong}
use Rattle.btree_walk.specs.Mapped.{IsListedWithin, IsMappedAs, entry_of, mapped_as}
use Rattle.btree_walk.specs.Nodes.{Node, NodesOf, listed}
use Rattle.btree_walk.proofs.LevelLaws.{root_shown}
use Rattle.btree_walk.proofs.OrderLaws.{root_within}
use Rattle.btree_update.specs.declared.groves.Grove.{Grove}
use Rattle.btree_update.specs.Finding.{GroveFinds}
use Rattle.btree_update.specs.Groves.{GroveMaps, places_of}
use Rattle.btree_update.proofs.AscendLaws.{Ascends}
use Rattle.grove_accounts.specs.Holding.{IsTreeOf}
use Rattle.grove_accounts.proofs.HoldingLaws.{tree_has}
use Rattle.device_session.specs.Damage.{HasPut, IsMiscounted}
use Rattle.device_session.specs.Open.{IsOpen, IsTreeFor, blocks_of, is_touched, root_of}
use Rattle.device_session.specs.Reading.{FindsContent, KeepsBlock, ReadsAs}
use Rattle.device_session.specs.Sessions.{Session}
use Rattle.device_core.proofs.CopyingLaws.{padded_whole}
use Rattle.session_calls.specs.Along.{Along, Drawn}
use Rattle.session_calls.specs.Damage.{IsMounted, IsWrongPage}
use Rattle.session_calls.specs.Mounts.{IsFound}
use Rattle.session_calls.specs.declared.stops.DeviceStop.{DeviceStop}
use Rattle.session_calls.proofs.AlongLaws.{pages_still}
use Rattle.device_session.proofs.KeepLaws.{block_then, still_keeps}
use Rattle.device_session.proofs.OrderLaws.{places_up}
use Rattle.device_session.proofs.ReadLaws.{HasRecord, IsArray, content_none, entry_read, grove_maps, grove_tiles, parts_records}
use Rattle.transfer.specs.Whole.{BeginsWithin, CopiesOnce, CopiesTree, FillsOnce, ComparesAll, HasBlocks, HasOne, HasTwo, HasWholeTree, IsCopied, IsFilled, IsMoved, IsNew, IsRead, IsReadThrough, IsWholeMove, IsWithin, MovesWhole, SeesAll, SeesOther, WasFresh, WhereDone}
use Rattle.transfer.specs.Refusals.{IsIdle, IsOn}
use Rattle.transfer.specs.declared.halts.Halt.{Halt}
use Rattle.transfer.specs.declared.halts.Moved.{Moved}
use Rattle.transfer.proofs.LookedLaws.{found_at}
use Rattle.transfer.proofs.RefusalLaws.{root_there}
use Rattle.transfer.proofs.TreeLaws.{IsAmong, found_mapped, looked_up, tree_grown}

-- whatever was answered
pub whatever : {X : Type 0} (P : Type 0) (result : Result X Halt) → P → IfOk result (λ x. P)
whatever P (Ok x) p = p
whatever P (Err halt) p = tt

-- ---- a session that only reads

-- leaves the pages
pub pages_same : {S : Type 0} {few : ℕ} (P : PlatformGhosts S) (platform platform_now : S) (drawn drawn_now : Drawn) (session now : Session) → (P.tells → (there : S) → length (P.history there).present.recorded ≡ P.head there) → Along P 0 few platform platform_now drawn drawn_now session now
    → P.tells → (P.history platform_now).present.readable ≡ (P.history platform).present.readable
pages_same P platform platform_now drawn drawn_now session now pages along told =
    pages_still (P.history platform) (P.history platform_now) (P.head platform) (P.head platform_now) (along.cell told).extends (pages told platform) (pages told platform_now) (omega (arith, along.rises, along.adds))

-- what a look-up comes to later in the same tree, over the same pages, it came to
pub finds_as : (image later : Image) (session now : Session) (block : ℕ) (content : List ℕ) → later.readable ≡ image.readable → now.grove ≡ session.grove → FindsContent later.readable now.grove block content → FindsContent image.readable session.grove block content
finds_as image later session now block content pages tree finds =
    subst (λ (g : Grove). FindsContent image.readable g block content) tree (subst (λ (p : List (List ℕ)). FindsContent p now.grove block content) pages finds)

-- what was read later of the same tree, over the same pages, was read
pub read_as : (tells : Type 0) (image later : Image) (session now : Session) (block : ℕ) → (tells → later.readable ≡ image.readable) → now.grove ≡ session.grove → IsRead tells later now block → IsRead tells image session block
read_as tells image later session now block pages tree read told =
    let there = read told in
    (there.0, finds_as image later session now block there.0 (pages told) tree there.1)

pub each_as : (tells : Type 0) (image later : Image) (session now : Session) (blocks : List ℕ) → (tells → later.readable ≡ image.readable) → now.grove ≡ session.grove → All (IsRead tells later now) blocks → All (IsRead tells image session) blocks
each_as tells image later session now blocks pages tree all = All-weaker (IsRead tells later now) (IsRead tells image session) (λ b read. read_as tells image later session now b pages tree read) blocks all

pub reads_back : {X : Type 0} (tells : Type 0) (image later : Image) (session now : Session) (blocks : List ℕ) (result : Result X Halt) → (tells → later.readable ≡ image.readable) → now.grove ≡ session.grove
    → IfOk result (λ x. All (IsRead tells later now) blocks) → IfOk result (λ x. All (IsRead tells image session) blocks)
reads_back tells image later session now blocks (Ok x) pages tree all = each_as tells image later session now blocks pages tree all
reads_back tells image later session now blocks (Err halt) pages tree all = tt

-- a block that has one content on both was read
pub one_read : (from_tells to_tells : Type 0) (from to : Image) (source target : Session) (blocks : List ℕ) → All (HasOne from_tells to_tells from to source target) blocks → All (IsRead from_tells from source) blocks
one_read from_tells to_tells from to source target blocks all =
    All-weaker (HasOne from_tells to_tells from to source target) (IsRead from_tells from source) (λ b one told. (one.content, one.here told)) blocks all

-- and has it with the sessions from before
pub one_as : (from_tells to_tells : Type 0) (from from_now to to_now : Image) (source source_now target target_now : Session) (block : ℕ) → (from_tells → from_now.readable ≡ from.readable) → (to_tells → to_now.readable ≡ to.readable) → source_now.grove ≡ source.grove → target_now.grove ≡ target.grove
    → HasOne from_tells to_tells from_now to_now source_now target_now block → HasOne from_tells to_tells from to source target block
one_as from_tells to_tells from from_now to to_now source source_now target target_now block from_pages to_pages source_tree target_tree one = record {
  content = one.content;
  here = λ told. finds_as from from_now source source_now block one.content (from_pages told) source_tree (one.here told);
  there = λ told. finds_as to to_now target target_now block one.content (to_pages told) target_tree (one.there told);
}

pub two_as : (from_tells to_tells : Type 0) (from from_now to to_now : Image) (source source_now target target_now : Session) (block : ℕ) → (from_tells → from_now.readable ≡ from.readable) → (to_tells → to_now.readable ≡ to.readable) → source_now.grove ≡ source.grove → target_now.grove ≡ target.grove
    → HasTwo from_tells to_tells from_now to_now source_now target_now block → HasTwo from_tells to_tells from to source target block
two_as from_tells to_tells from from_now to to_now source source_now target target_now block from_pages to_pages source_tree target_tree two = record {
  content = two.content;
  other = two.other;
  differ = two.differ;
  here = λ told. finds_as from from_now source source_now block two.content (from_pages told) source_tree (two.here told);
  there = λ told. finds_as to to_now target target_now block two.other (to_pages told) target_tree (two.there told);
}

-- the same blocks of both, and each has one content, or one of them has contents that differ
pub sees_same : {X : Type 0} (from_tells to_tells : Type 0) (from to mid : Image) (source target : Session) (blocks others : List ℕ) (is_true : X → Bool) (result : Result X Halt) → (to_tells → mid ≡ to) → (to_tells → HasBlocks to (root_of target) others) → length others ≡ (root_of target).mapped → others ≡ blocks
    → IfOk result (λ same. ComparesAll from_tells to_tells from mid source target blocks (is_true same)) → IfOk result (λ same. SeesAll from_tells to_tells from to source target blocks (is_true same))
sees_same from_tells to_tells from to mid source target blocks others is_true (Err halt) image listed count is all = tt
sees_same from_tells to_tells from to mid source target blocks others is_true (Ok same) image listed count is all = record {
  others = others;
  listed = listed;
  count = count;
  same = λ yes. (
    is,
    All-weaker (HasOne from_tells to_tells from mid source target) (HasOne from_tells to_tells from to source target)
        (λ b one. one_as from_tells to_tells from from to mid source source target target b (λ told. refl) (λ told. ap (λ (i : Image). i.readable) (image told)) refl refl one) blocks (all.one yes),
  );
  unlike = λ apart.
      let there = all.two apart in
      inr (there.0, there.1, two_as from_tells to_tells from from to mid source source target target there.0 (λ told. refl) (λ told. ap (λ (i : Image). i.readable) (image told)) refl refl there.2);
}

-- that they are others was seen behind reads of the first device alone
pub sees_other : (from_tells to_tells : Type 0) (from mid to : Image) (source target : Session) (blocks : List ℕ) → (from_tells → mid ≡ from) → (from_tells → HasBlocks from (root_of source) blocks) → SeesAll from_tells to_tells mid to source target blocks false → SeesOther from_tells to_tells from to source target
sees_other from_tells to_tells from mid to source target blocks same listed sees = record {
  blocks = blocks;
  listed = listed;
  sees = record {
    others = sees.others;
    listed = sees.listed;
    count = sees.count;
    same = λ never. absurd cc;
    unlike = λ apart. by (sees.unlike apart);
  };
}
  where
    Two : Image → Type 0
    Two image = (block : ℕ) × Contains blocks block × HasTwo from_tells to_tells image to source target block

    by : (sees.others ≢ blocks) ⊎ Two mid → (sees.others ≢ blocks) ⊎ Two from
    by (inl others) = inl others
    by (inr two) = inr (two.0, two.1, two_as from_tells to_tells from mid to to source source target target two.0 (λ told. ap (λ (i : Image). i.readable) (same told)) (λ told. refl) refl refl two.2)

-- ---- what was copied

-- nothing yet
pub copied_none : (from_tells to_tells : Type 0) (from to : Image) (source target : Session) → CopiesTree from_tells to_tells from to to source target target []
copied_none from_tells to_tells from to source target = record {
  each = All-nil (HasOne from_tells to_tells from to source target);
  others = λ told other less not_one. still_keeps to.readable target other;
}

-- one block
pub copied_one : (from_tells to_tells : Type 0) (from to to_now : Image) (source target now : Session) (block : ℕ) (bytes : List ℕ) → length bytes ≡ 4096 → (from_tells → FindsContent from.readable source.grove block bytes)
    → (to_tells → HasPut to.readable to_now.readable target now block (padded bytes)) → CopiesTree from_tells to_tells from to to_now source target now (block ∷ [])
copied_one from_tells to_tells from to to_now source target now block bytes size here put =
    let One : ℕ → Type 0 = HasOne from_tells to_tells from to_now source now in
    record {
      each = All-cons One block [] (record { content = bytes; here = here; there = λ told. subst (FindsContent to_now.readable now.grove block) (padded_whole bytes size) (put told).left.content }) (All-nil One);
      others = λ told other less not_one. (put told).left.others other less (λ same. not_one (subst (Contains (block ∷ [])) (sym same) (0, omega arith, refl)));
    }

-- and one more
pub copied_more : (from_tells to_tells : Type 0) (from later to mid to_now : Image) (source source_now target between now : Session) (blocks : List ℕ) (block : ℕ) → (from_tells → later.readable ≡ from.readable) → source_now.grove ≡ source.grove → blocks_of between ≡ blocks_of target
    → All (λ b. b < blocks_of target) blocks → CopiesTree from_tells to_tells from to mid source target between blocks → CopiesTree from_tells to_tells later mid to_now source_now between now (block ∷ []) → CopiesTree from_tells to_tells from to to_now source target now (blocks ++ block ∷ [])
copied_more from_tells to_tells from later to mid to_now source source_now target between now blocks block pages tree same within before next = record {
  each = All-append One blocks (block ∷ []) (λ k d h. kept (get_or blocks k d) (within k d h) (before.each k d h)) (All-cons One block [] last (All-nil One));
  others = λ told other less none.
      block_then to.readable mid.readable to_now.readable target between now other (before.others told other less (λ has. none (Contains-append_left blocks (block ∷ []) other has)))
      (next.others told other (omega (arith, less, same)) (λ has. none (Contains-append_right blocks (block ∷ []) other has)));
}
  where
    One : ℕ → Type 0
    One = HasOne from_tells to_tells from to_now source now

    last : One block
    last = one_as from_tells to_tells from later to_now to_now source source_now now now block pages (λ told. refl) tree refl (All-head (HasOne from_tells to_tells later to_now source_now now) block [] next.each)

    kept : (b : ℕ) → b < blocks_of target → HasOne from_tells to_tells from mid source between b → One b
    kept b less one = elim (cases_eq b block) [
      | inl is ↦ subst One (sym is) last
      | inr other ↦ record {
        content = one.content;
        here = one.here;
        there = λ told. ((next.others told b (omega (arith, less, same)) (λ has. absurd (only b has other))).content one.content).0 (one.there told);
      }
    ]
      where
        only : (b : ℕ) → Contains (block ∷ []) b → (b ≡ block → ⊥) → ⊥
        only b (zero, inside, is) apart = apart (sym is)
        only b (suc k, inside, is) apart = omega (arith, inside)

-- where it was done, each of the blocks was read
pub copied_read : {X : Type 0} (from_tells to_tells : Type 0) (from : Image) (to to_now : History) (source target : Session) (blocks : List ℕ) (result : Result X Halt) → IfOk result (λ x. CopiesOnce from_tells to_tells from to to_now source target blocks)
    → IfOk result (λ x. All (IsRead from_tells from source) blocks)
copied_read from_tells to_tells from to to_now source target blocks (Ok x) once = one_read from_tells to_tells from once.image source once.session blocks once.copies.each
copied_read from_tells to_tells from to to_now source target blocks (Err halt) once = tt

-- a moment between two parts is one of both
pub within_then : (first mid last : History) → Extends first mid → Extends mid last → IsWithin first last mid.present
within_then first mid last one two = (moment mid, one.later, two.later, sym (two.same (moment mid) (omega arith) ∙ image_at-now mid (moment mid) (omega arith)))

-- ---- a tree that was read through

pub read_through : {X : Type 0} (tells : Type 0) (image later : Image) (session : Session) (blocks : List ℕ) (result : Result X Halt) → (tells → later ≡ image) → (tells → HasBlocks image (root_of session) blocks) → length blocks ≡ (root_of session).mapped
    → IfOk result (λ x. All (IsRead tells later session) blocks) → IfOk result (λ x. IsReadThrough tells image session)
read_through tells image later session blocks (Err halt) same listed count all = tt
read_through tells image later session blocks (Ok x) same listed count all = record {
  blocks = blocks;
  listed = listed;
  count = count;
  each = each_as tells image later session session blocks (λ told. ap (λ (i : Image). i.readable) (same told)) refl all;
}

-- a session's tree without a change
pub bare_of : (session : Session) (pages : ℕ) → IsOpen session pages → is_touched session ≡ false → IsTreeOf session.root session.grove
bare_of session pages is_open untouched = subst (λ b. IsTreeFor b session.root session.grove) untouched is_open.tree

-- no page could be named where there is a whole tree
never_wrong : (image : Image) (root : Root) (parts : Parts) → IsRootOf image root → Tree image.readable root parts → length parts.mapped ≡ root.mapped → (addr : ℕ) → IsWrongPage image addr → ⊥
never_wrong image root parts is tree count addr (inl place) =
    let both : Some (root_bytes place.root) ≡ Some (root_bytes root) = sym place.cell ∙ is.cell in
    let bytes : root_bytes place.root ≡ root_bytes root = cc in
    tree_not_wrong image.readable root parts addr is.in_range tree (subst (λ (r : Root). Wrong image.readable r addr) (one_root place.root root place.in_range is.in_range bytes) place.wrong)
never_wrong image root parts is tree count addr (inr other) =
    let both : Some (root_bytes other.root) ≡ Some (root_bytes root) = sym other.cell ∙ is.cell in
    let bytes : root_bytes other.root ≡ root_bytes root = cc in
    subst (λ (r : Root). IsMiscounted image.readable r) (one_root other.root root other.in_range is.in_range bytes) other.miscounted parts tree count

-- the tree of the root record in the cell is whole that a session without a change read through, and has what its nodes list
whole_with : (tells : Type 0) (image : Image) (session : Session) (pages : ℕ) → IsOpen session pages → is_touched session ≡ false → image.cell ≡ Some (root_bytes session.root) → (told : tells) → (read : IsReadThrough tells image session)
    → (w : HasWholeTree image) × (w.root ≡ session.root) × Tree image.readable session.root w.parts × (map entry_of w.parts.mapped ≡ listed (read.listed told).nodes)
whole_with tells image session pages is_open untouched cell told read =
    let has = read.listed told in
    let root : IsRootOf image session.root = root_there image session pages is_open cell in
    let grown = tree_grown image.readable session.root has.nodes session.grove root.in_range (bare_of session pages is_open untouched) has.are (λ e among.
    All-contains (IsRead tells image session) read.blocks e.low read.each (subst (λ (bs : List ℕ). Contains bs e.low) (sym has.is) (map_contains (λ (x : Entry). x.low) (listed has.nodes) e among)) told) in
    let many : length grown.0.mapped ≡ session.root.mapped =
    sym (length-map grown.0.mapped entry_of) ∙ (ap length grown.2 ∙ (sym (length-map (listed has.nodes) (λ (e : Entry). e.low)) ∙ (sym (ap length has.is) ∙ read.count))) in
    (record { root = session.root; is_root = root; parts = grown.0; tree = grown.1; count = many; sound = never_wrong image session.root grown.0 root grown.1 many }, refl, grown.1, grown.2)

pub whole_tree : (tells : Type 0) (image : Image) (session : Session) (pages : ℕ) → IsOpen session pages → is_touched session ≡ false → image.cell ≡ Some (root_bytes session.root) → tells → IsReadThrough tells image session → HasWholeTree image
whole_tree tells image session pages is_open untouched cell told read = (whole_with tells image session pages is_open untouched cell told read).0

-- so it is where a mount found the session
pub whole_found : {S : Type 0} (to_tells : Type 0) (P : PlatformGhosts S) (platform mid platform_now : S) (to to_now : History) (session : Session) (mount : Result (Option Session) DeviceStop) (result : Result Moved Halt) → mount ≡ Ok (Some session) → Looks P platform mid → IfOk mount (IsFound P 256 platform mid)
    → WhereDone P.tells (P.history platform_now).present result (IsMoved P.tells to_tells (P.history mid).present to to_now session) → MovesWhole P.tells to_tells (P.history platform).present (P.history platform_now).present to to_now result
whole_found to_tells P platform mid platform_now to to_now session mount result is looks finds moves = record {
  done = IfOk-weaker result (λ moved. IsMoved P.tells to_tells (P.history mid).present to to_now session) (λ moved. IsWholeMove P.tells to_tells (P.history platform).present to to_now) (λ moved all. by all) moves.0;
  cleared = λ told full empty. by (moves.1 told empty);
}
  where
    found : IsFound P 256 platform mid (Some session)
    found = found_at P platform mid session mount is finds

    by : IsMoved P.tells to_tells (P.history mid).present to to_now session → IsWholeMove P.tells to_tells (P.history platform).present to to_now
    by all = (
      (λ told. subst HasWholeTree (looks.image told) (whole_tree P.tells (P.history mid).present session (P.head mid) found.0.is_open found.0.untouched (found.1 told).cell told all.read)),
      (λ told to_told. subst (λ (i : Image). IsCopied i to to_now) (looks.image told) (all.copied found.0.untouched told to_told)),
    )

-- where none was opened, the cell is as it was
pub whole_looked : {S : Type 0} (to_tells : Type 0) (P : PlatformGhosts S) (platform mid : S) (to to_now : History) (halt : Halt) → Looks P platform mid → MovesWhole {X = Moved} P.tells to_tells (P.history platform).present (P.history mid).present to to_now (Err halt)
whole_looked to_tells P platform mid to to_now halt looks = record { done = tt; cleared = λ told full empty. absurd (full (sym (ap (λ (i : Image). i.cell) (looks.image told)) ∙ empty)) }

-- while a session is on the root record in the cell, that isn't empty
pub never_empty : (first mid : History) (session : Session) → CellStays first mid → IsMounted first.present session → mid.present.cell ≡ None → ⊥
never_empty first mid session stays mounted empty =
    let none : Some (root_bytes session.root) ≡ None = sym mounted.cell ∙ (sym (During-now first mid (λ image. image.cell ≡ first.present.cell) stays) ∙ empty) in
    cc

-- ---- all of a device was copied

contained_more : (b c : ℕ) (bs : List ℕ) → (c ≡ b → ⊥) → Contains bs b ⊎ (Contains bs b → ⊥) → Contains (c ∷ bs) b ⊎ (Contains (c ∷ bs) b → ⊥)
contained_more b c bs other (inl has) = inl (Contains-append_right (c ∷ []) bs b has)
contained_more b c bs other (inr none) = inr (λ has. by has.0 has.1 has.2)
  where
    by : (k : ℕ) → k < length (c ∷ bs) → get_or (c ∷ bs) k b ≡ b → ⊥
    by zero inside is = other is
    by (suc k) inside is = none (k, omega (arith, inside), is)

contained : (bs : List ℕ) (b : ℕ) → Contains bs b ⊎ (Contains bs b → ⊥)
contained [] b = inr (λ has. (let inside = has.1 in omega (arith, inside)))
contained (c ∷ bs) b = elim (cases_eq c b) [
  | inl same ↦ inl (subst (Contains (c ∷ bs)) same (0, omega arith, refl))
  | inr other ↦ contained_more b c bs other (contained bs b)
]

-- the array of a tree without a change
abbrev array_at : (image : Image) (root : Root) (parts : Parts) (grove : Grove) → FitsRoot root → IsTreeOf root grove → Tree image.readable root parts → IsArray image grove (from_entries (pairs_of parts))
array_at image root parts grove fits of tree =
    let has = tree_has image.readable root grove parts of tree in
    let all : (joined (parts ∷ [])).mapped ≡ parts.mapped = append-nil parts.mapped in
    let blocks : 1 ≤ grove.blocks = let same = of.blocks in let least = fits.blocks_least in omega (arith, same, least) in
    record {
      mapped = parts.mapped;
      maps_are = subst (GroveMaps image.readable grove) all (grove_maps image.readable grove (parts ∷ []) of.sound has);
      up = subst (Ascends 0) all (places_up image.readable grove.order grove.level 0 grove.blocks (places_of grove) (parts ∷ []) (grove_tiles grove of.sound blocks) has);
      records = subst (AllByRecursion (HasRecord image.readable)) all (parts_records image.readable grove.order grove.level (places_of grove) (parts ∷ []) has);
      contents_are = refl;
    }

-- what a look-up comes to is what the tree has of the block
content_at : (image : Image) (root : Root) (parts : Parts) (nodes : List Node) (grove : Grove) (block : ℕ) (content : List ℕ) → FitsRoot root → IsTreeOf root grove → Tree image.readable root parts → NodesOf image.readable root nodes → map entry_of parts.mapped ≡ listed nodes
    → FindsContent image.readable grove block content → content ≡ content_of (from_entries (pairs_of parts)) block
content_at image root parts nodes grove block content fits of tree are lists f = by f.found (found_mapped image.readable root parts grove block f.found fits of tree f.finds) f.reads
  where
    by : (found : Option Entry) → IsMappedAs parts.mapped block found → ReadsAs image.readable block found content → content ≡ content_of (from_entries (pairs_of parts)) block
    by None none reads = reads ∙ sym (content_none parts.mapped (from_entries (pairs_of parts)) block refl none)
    by (Some e) is reads =
        let among : Contains (listed nodes) e = subst (λ (es : List Entry). Contains es e) lists (map_contains entry_of parts.mapped (mapped_as e is.1.0) is.1.1) in
        let under = (All-contains (IsListedWithin 0 root.blocks root.addr) (listed nodes) e (root_within image.readable root nodes fits are) among).under in
        entry_read image grove (from_entries (pairs_of parts)) block e content (array_at image root parts grove fits of tree) is (omega (arith, under, fits.addr, fits.head)) reads.0

-- of a block that isn't listed it has zeros
content_other : (parts : Parts) (nodes : List Node) (blocks : List ℕ) (block : ℕ) → map entry_of parts.mapped ≡ listed nodes → blocks ≡ map (λ (e : Entry). e.low) (listed nodes) → (Contains blocks block → ⊥) → content_of (from_entries (pairs_of parts)) block ≡ replicate 4096 0
content_other parts nodes blocks block lists is none =
    content_none parts.mapped (from_entries (pairs_of parts)) block refl
    (All-weaker (Contains parts.mapped) (λ (m : Mapped). m.block ≡ block → ⊥) (λ m has same.
    none (subst (Contains blocks) same (subst (λ (bs : List ℕ). Contains bs m.block) (sym is)
    (map_contains (λ (e : Entry). e.low) (listed nodes) (entry_of m) (subst (λ (es : List Entry). Contains es (entry_of m)) lists (map_contains entry_of parts.mapped m has))))))
    parts.mapped (All-contains_itself parts.mapped))

-- a block that neither device has is found in no tree
never_found : (image : Image) (session : Session) (pages block : ℕ) (blocks : List ℕ) → IsOpen session pages → is_touched session ≡ false → BeginsWithin image session blocks → block < blocks_of session → (Contains blocks block → ⊥) → GroveFinds image.readable block session.grove None
never_found image session pages block blocks is_open untouched begins less none = by found.0 found.1 found.2
  where
    found : (f : Option Entry) × GroveFinds image.readable block session.grove f × IsAmong (listed begins.listed.nodes) block f
    found = looked_up image.readable session.root begins.listed.nodes session.grove block is_open.served.in_range (bare_of session pages is_open untouched) begins.listed.are less

    by : (f : Option Entry) → GroveFinds image.readable block session.grove f → IsAmong (listed begins.listed.nodes) block f → GroveFinds image.readable block session.grove None
    by None finds among = finds
    by (Some e) finds among =
        let has : Contains begins.others e.low = subst (λ (bs : List ℕ). Contains bs e.low) (sym begins.listed.is) (map_contains (λ (x : Entry). x.low) (listed begins.listed.nodes) e among.0) in
        absurd (none (subst (Contains blocks) among.1 (All-contains (Contains blocks) begins.others e.low begins.among has)))

-- where it was never written, or there was none, as its root record says
was_fresh : (image : Image) (root : Root) (blocks order : ℕ) (is_new : Bool) (session : Session) → IsIdle session → IsOn image blocks order is_new session → session.root.blocks ≡ root.blocks → session.root.order ≡ root.order → IsNew is_new session → WasFresh root image
was_fresh image root blocks order true session idle on same same_order new = inl on.0
was_fresh image root blocks order false session idle on same same_order (inl never) = absurd cc
was_fresh image root blocks order false session idle on same same_order (inr fresh) = inr (session.root, on, record { blocks_are = same; order_is = same_order; commit = fresh.0; mapped = sym idle.mapped ∙ fresh.1 })

-- a look-up of each block of the device comes to what the first tree has
pub copied_of : (from_tells to_tells : Type 0) (from : Image) (first to to_now : History) (blocks order : ℕ) (is_new : Bool) (source target : Session) (pages to_pages : ℕ) → IsOpen source pages → is_touched source ≡ false → from.cell ≡ Some (root_bytes source.root) → IsOpen target to_pages → IsIdle target
    → IsMounted to.present target → IsOn first.present blocks order is_new target → Extends first to → from_tells → to_tells → IsFilled from_tells to_tells from to to_now source target (IsNew is_new target) → IsCopied from first to_now
copied_of from_tells to_tells from first to to_now blocks order is_new source target pages to_pages is_open untouched cell target_open idle mounted on extends from_told to_told filled = record {
  whole = whole.0;
  contents = contents;
  are = refl;
  image = once.image;
  within =
      let w = once.within to_told in
      let later = extends.later in
      let since = w.1 in
      (w.0, omega (arith, later, since), w.2, w.3);
  session = once.session;
  mounted = once.mounted to_told;
  kept = kept filled.fills.kept;
  each = λ block less. each block less (contained filled.blocks block);
}
  where
    through : IsReadThrough from_tells from source
    through = record { blocks = filled.blocks; listed = filled.listed; count = filled.count; each = one_read from_tells to_tells from filled.fills.once.image source filled.fills.once.session filled.blocks filled.fills.once.copies.each }

    once : CopiesOnce from_tells to_tells from to to_now source target filled.blocks
    once = filled.fills.once

    has : HasBlocks from source.root filled.blocks
    has = filled.listed from_told

    bare : IsTreeOf source.root source.grove
    bare = bare_of source pages is_open untouched

    whole : (w : HasWholeTree from) × (w.root ≡ source.root) × Tree from.readable source.root w.parts × (map entry_of w.parts.mapped ≡ listed has.nodes)
    whole = whole_with from_tells from source pages is_open untouched cell from_told through

    contents : Blocks
    contents = from_entries (pairs_of whole.0.parts)

    kept : IsNew is_new target ⊎ ((once.session ≡ target) × (once.image ≡ to.present) × IsReadThrough to_tells to.present target) → WasFresh whole.0.root first.present ⊎ (HasWholeTree once.image × (is_touched once.session ≡ false))
    kept (inl new) = inl (subst (λ (r : Root). WasFresh r first.present) (sym whole.1) (was_fresh first.present source.root blocks order is_new target idle on filled.alike filled.same_order new))
    kept (inr stays) = inr (
      subst HasWholeTree (sym stays.1) (whole_tree to_tells to.present target to_pages target_open idle.untouched mounted.cell to_told stays.2),
      ap (λ (t : Session). is_touched t) stays.0 ∙ idle.untouched,
    )

    each : (block : ℕ) → block < whole.0.root.blocks → Contains filled.blocks block ⊎ (Contains filled.blocks block → ⊥) → FindsContent once.image.readable once.session.grove block (content_of contents block)
    each block less (inl among) =
        let one = All-contains (HasOne from_tells to_tells from once.image source once.session) filled.blocks block once.copies.each among in
        let is : one.content ≡ content_of contents block = content_at from source.root whole.0.parts has.nodes source.grove block one.content is_open.served.in_range bare whole.2 has.are whole.3 (one.here from_told) in
        subst (FindsContent once.image.readable once.session.grove block) is (one.there to_told)
    each block less (inr none) =
        let within : block < blocks_of target = (let same = ap (λ (r : Root). r.blocks) whole.1 in let alike = filled.alike in omega (arith, less, same, alike)) in
        let finds = never_found to.present target to_pages block filled.blocks target_open idle.untouched (filled.fills.begins to_told) within none in
        record {
          found = None;
          finds = ((once.copies.others to_told block within none).entry None).0 finds;
          reads = content_other whole.0.parts has.nodes filled.blocks block whole.3 has.is none;
        }

-- ---- the parts of a move

-- a device that has all of these blocks, with these contents, already
pub fills_same : (New from_tells to_tells : Type 0) (from : Image) (to to_now : History) (source target : Session) (blocks : List ℕ) (has : Bool) → IsTrue has → SeesAll from_tells to_tells from to.present source target blocks has → (to_tells → Extends to to_now) → (to_tells → IsMounted to.present target)
    → FillsOnce from_tells to_tells from to to_now source target blocks New
fills_same New from_tells to_tells from to to_now source target blocks has agrees sees extends mounted = record {
  begins = λ told. record { others = sees.others; listed = sees.listed told; among = subst (All (Contains blocks)) (sym (sees.same agrees).0) (All-contains_itself blocks) };
  once = record {
    image = to.present;
    within = λ told. (moment to, omega arith, (extends told).later, sym ((extends told).same (moment to) (omega arith) ∙ image_at-now to (moment to) (omega arith)));
    session = target;
    mounted = mounted;
    copies = record { each = (sees.same agrees).1; others = λ told other less none. still_keeps to.present.readable target other };
  };
  kept = inr (
    refl,
    refl,
    record {
      blocks = sees.others;
      listed = sees.listed;
      count = sees.count;
      each = subst (All (IsRead to_tells to.present target)) (sym (sees.same agrees).0) (All-weaker (HasOne from_tells to_tells from to.present source target) (IsRead to_tells to.present target) (λ b one told. (one.content, one.there told)) blocks (sees.same agrees).1);
    },
  );
}

-- one that has no block, to which they were copied behind reads
pub fills_copied : {X : Type 0} (New from_tells to_tells : Type 0) (from from_mid : Image) (to to_mid to_now : History) (source source_mid target target_mid : Session) (blocks others : List ℕ) (result : Result X Halt)
    → (from_tells → from_mid.readable ≡ from.readable) → source_mid.grove ≡ source.grove → (to_tells → to_mid.present.readable ≡ to.present.readable) → target_mid.grove ≡ target.grove → blocks_of target_mid ≡ blocks_of target → (to_tells → Extends to to_mid)
    → New → (to_tells → HasBlocks to.present (root_of target) others) → length others ≡ 0 → IfOk result (λ x. CopiesOnce from_tells to_tells from_mid to_mid to_now source_mid target_mid blocks) → IfOk result (λ x. FillsOnce from_tells to_tells from to to_now source target blocks New)
fills_copied New from_tells to_tells from from_mid to to_mid to_now source source_mid target target_mid blocks others (Err halt) from_pages source_tree to_pages target_tree same extends new listed none once = tt
fills_copied New from_tells to_tells from from_mid to to_mid to_now source source_mid target target_mid blocks others (Ok x) from_pages source_tree to_pages target_tree same extends new listed none once = record {
  begins = λ told. record { others = others; listed = listed told; among = λ k d inside. absurd (omega (arith, inside, none)) };
  once = record {
    image = once.image;
    within = λ told.
        (let w = once.within told in
        let later = (extends told).later in
        let since = w.1 in
        (w.0, omega (arith, later, since), w.2, w.3));
    session = once.session;
    mounted = once.mounted;
    copies = record {
      each = All-weaker (HasOne from_tells to_tells from_mid once.image source_mid once.session) (HasOne from_tells to_tells from once.image source once.session)
          (λ b one. one_as from_tells to_tells from from_mid once.image once.image source source_mid once.session once.session b from_pages (λ told. refl) source_tree refl one) blocks once.copies.each;
      others = λ told other less apart. keeps_as to.present to_mid.present once.image target target_mid once.session other (to_pages told) target_tree (once.copies.others told other (omega (arith, less, same)) apart);
    };
  };
  kept = inl new;
}
  where
    keeps_as : (image later after : Image) (one between now : Session) (block : ℕ) → later.readable ≡ image.readable → between.grove ≡ one.grove → KeepsBlock later.readable after.readable between now block → KeepsBlock image.readable after.readable one now block
    keeps_as image later after one between now block pages tree keeps = record {
      entry = λ found. subst (λ (p : List (List ℕ)). GroveFinds p block one.grove found ↔ GroveFinds after.readable block now.grove found) pages (subst (λ (g : Grove). GroveFinds later.readable block g found ↔ GroveFinds after.readable block now.grove found) tree (keeps.entry found));
      content = λ content. subst (λ (p : List (List ℕ)). FindsContent p one.grove block content ↔ FindsContent after.readable now.grove block content) pages (subst (λ (g : Grove). FindsContent later.readable g block content ↔ FindsContent after.readable now.grove block content) tree (keeps.content content));
    }

-- a device that is new
pub fills_new : {X : Type 0} (New from_tells to_tells : Type 0) (from : Image) (to to_now : History) (source target : Session) (blocks : List ℕ) (result : Result X Halt) → New → (to_tells → HasBlocks to.present (root_of target) [])
    → IfOk result (λ x. CopiesOnce from_tells to_tells from to to_now source target blocks) → IfOk result (λ x. FillsOnce from_tells to_tells from to to_now source target blocks New)
fills_new New from_tells to_tells from to to_now source target blocks (Err halt) new listed once = tt
fills_new New from_tells to_tells from to to_now source target blocks (Ok x) new listed once = record {
  begins = λ told. record { others = []; listed = listed told; among = All-nil (Contains blocks) };
  once = once;
  kept = inl new;
}

-- all blocks of a device, which were listed before
pub filled : {X : Type 0} (New More from_tells to_tells : Type 0) (from from_mid : Image) (to to_now : History) (source target : Session) (blocks : List ℕ) (result : Result X Halt) → (from_tells → from_mid ≡ from) → (from_tells → HasBlocks from (root_of source) blocks) → length blocks ≡ (root_of source).mapped
    → blocks_of target ≡ blocks_of source → (root_of target).order ≡ (root_of source).order → (New → More) → IfOk result (λ x. FillsOnce from_tells to_tells from_mid to to_now source target blocks New) → IfOk result (λ x. IsFilled from_tells to_tells from to to_now source target More)
filled New More from_tells to_tells from from_mid to to_now source target blocks (Err halt) same listed count alike same_order more fills = tt
filled New More from_tells to_tells from from_mid to to_now source target blocks (Ok x) same listed count alike same_order more fills = record {
  blocks = blocks;
  listed = listed;
  count = count;
  alike = alike;
  same_order = same_order;
  fills = record {
    kept = widen fills.kept;
    begins = fills.begins;
    once = record {
      image = fills.once.image;
      within = fills.once.within;
      session = fills.once.session;
      mounted = fills.once.mounted;
      copies = record {
        each = All-weaker (HasOne from_tells to_tells from_mid fills.once.image source fills.once.session) (HasOne from_tells to_tells from fills.once.image source fills.once.session)
            (λ b one. one_as from_tells to_tells from from_mid fills.once.image fills.once.image source source fills.once.session fills.once.session b (λ told. ap (λ (i : Image). i.readable) (same told)) (λ told. refl) refl refl one) blocks fills.once.copies.each;
        others = fills.once.copies.others;
      };
    };
  };
}
  where
    widen : {Kept : Type 0} → New ⊎ Kept → More ⊎ Kept
    widen (inl new) = inl (more new)
    widen (inr kept) = inr kept

-- a session on a device that is new: there was none, and its root record says that no block is mapped
pub new_on : (image : Image) (blocks order : ℕ) (is_new : Bool) (session : Session) → IsTrue is_new → IsOn image blocks order is_new session → (image.cell ≡ None) × (session.root.mapped ≡ 0)
new_on image blocks order true session new on = (on.0, on.1.mapped)
new_on image blocks order false session new on = absurd cc

-- a tree that maps none lists none
pub lists_none : (image : Image) (root : Root) (parts : Parts) → FitsRoot root → Tree image.readable root parts → length parts.mapped ≡ 0 → HasBlocks image root []
lists_none image root parts fits tree none =
    let shown = root_shown image.readable root parts fits tree in
    let empty : parts.mapped ≡ [] = by parts.mapped none in
    record { nodes = shown.nodes; are = shown.are; is = sym (ap (map (λ (e : Entry). e.low)) (shown.shows.entries ∙ ap (map entry_of) empty)) }
  where
    by : (ms : List Mapped) → length ms ≡ 0 → ms ≡ []
    by [] is = refl
    by (m ∷ ms) is = absurd (omega (arith, is))

-- behind an opening
pub moved_all : {X : Type 0} (from_tells to_tells : Type 0) (from : Image) (first to to_now : History) (blocks order : ℕ) (is_new : Bool) (source target : Session) (pages to_pages : ℕ) (result : Result X Halt) → IsOpen source pages → (from_tells → IsMounted from source) → IsOpen target to_pages → IsIdle target
    → (to_tells → IsMounted to.present target) → (to_tells → IsOn first.present blocks order is_new target) → (to_tells → Extends first to) → IfOk result (λ x. IsReadThrough from_tells from source) → IfOk result (λ x. IsFilled from_tells to_tells from to to_now source target (IsNew is_new target))
    → IfOk result (λ x. IsMoved from_tells to_tells from first to_now source)
moved_all from_tells to_tells from first to to_now blocks order is_new source target pages to_pages (Err halt) is_open mounted target_open idle target_mounted on extends read fills = tt
moved_all from_tells to_tells from first to to_now blocks order is_new source target pages to_pages (Ok x) is_open mounted target_open idle target_mounted on extends read fills = record {
  read = read;
  copied = λ untouched from_told to_told.
      copied_of from_tells to_tells from first to to_now blocks order is_new source target pages to_pages is_open untouched (mounted from_told).cell target_open idle (target_mounted to_told) (on to_told) (extends to_told) from_told to_told fills;
}
