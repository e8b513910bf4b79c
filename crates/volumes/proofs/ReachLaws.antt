-- Of the data of a block that isn't mapped nothing is reached, at no later moment.
use Rattle.std.proofs.Common.{◌≡◌, ◌≢◌, ◌≤◌, ◌<◌, ◌+◌, ◌-◌, ◌^◌, ◌++◌, ◌∷◌, ◌∙◌, ℕ, zero, suc, true, false, cond, List, [], Option, None, Some, refl, sym, ap, subst, length, append-nil, arith, map}
use Rattle.std.specs.Prelude.{All, Contains, is_some, if◌then◌else◌}
use Rattle.std.specs.Option.{option_map_or}
use Rattle.std.proofs.lemmas.Option.{slice_get_within}
use Rattle.std.specs.List.{AllByRecursion}
use Rattle.std.specs.Ordering.{nat_cmp, eq_by_cmp, is_eq}
use Rattle.std.specs.Cmp.{nat_cmp_total, tied_itself}
use Rattle.std.specs.FinMap as maps
use Rattle.std.specs.FinMap.{find, get-from_entries}
use Rattle.std.proofs.lemmas.List.Elements.{All-append, All-cons, All-contains, All-head, All-nil, All-tail, All-weaker}
use Rattle.sdbt_base.specs.Arrays.{Device}
use Rattle.sdbt_base.specs.Traces.{DataOf, NodeOver}
use Rattle.sdbt_base.specs.Keys.{bare, version_of}
use Rattle.platform.specs.Image.{Image}
use Rattle.platform.specs.History.{History, image_at, moment}
use Rattle.platform.specs.Runs.{floor_at}
use Rattle.platform.proofs.Moments.{earlier-now}
use Rattle.key_graph.specs.Chains.{KeyPremises, OpensAt, link}
use Rattle.key_graph.proofs.ChainLaws.{map_contains}
use Rattle.node_codec.specs.declared.body.Entry.{Entry}
use Rattle.seal_record.specs.Sealing.{masked}
use Rattle.node_codec.specs.Record.{Record, DataRecord, NodeRecord, record_bytes}
use Rattle.node_codec.specs.Laws.{AreOne, one_spelled}
use Rattle.root_codec.specs.declared.root.Root.{Root}
use Rattle.root_codec.specs.RootRecord.{FitsRoot, root_bytes}
use Rattle.page_store.specs.declared.wants.Want.{Want}
use Rattle.page_store.specs.Disclosing.{DisclosesBy}
use Rattle.page_store.specs.Floors.{IsInTree, IsReached, floor_of, head_in, low_of}
use Rattle.page_store.specs.Kept.{Kept, links_of}
use Rattle.page_store.specs.Places.{FitsAt, IsRecordAt, child_want, root_want}
use Rattle.page_store.specs.Stands.{Stands, StandsBy, pairs_of}
use Rattle.page_store.specs.Tree.{EachChild, Mapped, Parts, Place, Subtree, Tree, bound_of, joined}
use Rattle.page_store.proofs.FloorLaws.{place_at, place_of_stands}
use Rattle.page_store.proofs.KeptLaws.{recorded_tree, root_of_stands}
use Rattle.page_store.proofs.DisclosingLaws.{first_premises}
use Rattle.page_store.proofs.RecordYields.{masked_bare, opens_record}
use Rattle.page_store.proofs.TreeMaps.{tree_closed}
use Rattle.volume_desk.specs.Turns.{IsOfAll}
use Rattle.volumes.specs.Destroyed.{IsDataPage}

-- ---- a tree without a block

-- under its key, with whatever digest, the page at a place is no data record of the block
abbrev pub IsOther : List (List ℕ) → ℕ → Place → Type 0
IsOther pages block place = (key content : List ℕ) → bare key ≡ bare place.key → IsRecordAt pages place.addr key (DataRecord block content) → ⊥

same_some : {A : Type 0} (x y : A) → Some x ≡ Some y → x ≡ y
same_some x y same = cc

value_same : (version later : ℕ) (one other : Record) → AreOne version later one other → one ≡ other
value_same version later (DataRecord block content) other are = are
value_same version later (NodeRecord level entries) other are = are.1

-- a page is one record at most under keys that differ in their digests alone
same_value : (pages : List (List ℕ)) (addr : ℕ) (key same_key : List ℕ) (one other : Record) → addr < 2 ^ 64 → bare same_key ≡ bare key → IsRecordAt pages addr key one → IsRecordAt pages addr same_key other → one ≡ other
same_value pages addr key same_key one other small same is is' =
    let page : is.page ≡ is'.page = same_some _ _ (sym is.reads ∙ is'.reads) in
    let body : masked key is.page ≡ masked same_key is'.page
    = sym (masked_bare key is.page) ∙ ap (λ (k : List ℕ). masked k is.page) (sym same) ∙ masked_bare same_key is.page ∙ ap (masked same_key) page in
    value_same (version_of key) (version_of same_key) one other
    (one_spelled (version_of key) (version_of same_key) addr addr one other small small is.in_range is'.in_range (sym is.spelled ∙ body ∙ is'.spelled)).1

-- none of these is the block
abbrev pub AreOthers : ℕ → List Mapped → Type 0
AreOthers block mapped = AllByRecursion (λ (m : Mapped). m.block ≢ block) mapped

others_front : (block : ℕ) (ms more : List Mapped) → AreOthers block (ms ++ more) → AreOthers block ms
others_front block [] more all = tt
others_front block (m ∷ ms) more all = (all.0, others_front block ms more all.1)

others_behind : (block : ℕ) (ms more : List Mapped) → AreOthers block (ms ++ more) → AreOthers block more
others_behind block [] more all = all
others_behind block (m ∷ ms) more all = others_behind block ms more all.1

small_children : (pages : List (List ℕ)) (want : Want) (key : List ℕ) (level : ℕ) (entries : List Entry) → want.addr < 2 ^ 64 → FitsAt pages want key (NodeRecord level entries) → All (λ e. e.addr < 2 ^ 64) entries
small_children pages want key level entries small fits =
    All-weaker (λ (e : Entry). e.addr < want.addr) (λ (e : Entry). e.addr < 2 ^ 64) (λ e below. omega arith) entries fits.0.in_range.0.below

same_block : (block other : ℕ) (content bytes : List ℕ) → DataRecord block content ≡ DataRecord other bytes → block ≡ other
same_block block other content bytes is = cc

no_node : (level block : ℕ) (entries : List Entry) (content : List ℕ) → NodeRecord level entries ≡ DataRecord block content → ⊥
no_node level block entries content is = cc

each_other : (pages : List (List ℕ)) (block : ℕ) (Below : Want → List ℕ → Parts → Type 0) (order level high : ℕ) (entries : List Entry) (children : List Parts)
    → ((want : Want) (key : List ℕ) (parts : Parts) → want.addr < 2 ^ 64 → Below want key parts → AreOthers block parts.mapped → All (IsOther pages block) parts.places) → All (λ e. e.addr < 2 ^ 64) entries
    → EachChild Below order level high entries children → AreOthers block (joined children).mapped → All (IsOther pages block) (joined children).places
each_other pages block Below order level high [] [] other small each lacks = All-nil (IsOther pages block)
each_other pages block Below order level high [] (parts ∷ children) other small each lacks = absurd each
each_other pages block Below order level high (entry ∷ entries) [] other small each lacks = absurd each
each_other pages block Below order level high (entry ∷ entries) (parts ∷ children) other small each lacks =
    All-append (IsOther pages block) parts.places (joined children).places
    (other (child_want order level entry (bound_of entries high)) entry.key parts (All-head (λ (e : Entry). e.addr < 2 ^ 64) entry entries small) each.0 (others_front block parts.mapped (joined children).mapped lacks))
    (each_other pages block Below order level high entries children other (All-tail (λ (e : Entry). e.addr < 2 ^ 64) entry entries small) each.1 (others_behind block parts.mapped (joined children).mapped lacks))

subtree_other : (pages : List (List ℕ)) (block order level : ℕ) (want : Want) (key : List ℕ) (parts : Parts) → want.addr < 2 ^ 64 → Subtree pages order level want key parts → AreOthers block parts.mapped → All (IsOther pages block) parts.places
unfolding Subtree
subtree_other pages block order zero want key parts small is lacks =
    let here : Place = record { addr = want.addr; key = key; trace = DataOf want.low } in
    let low : want.low ≢ block = (subst (λ (p : Parts). AreOthers block p.mapped) is.has lacks).0 in
    subst (λ (p : Parts). All (IsOther pages block) p.places) (sym is.has) (All-cons (IsOther pages block) here []
    (λ k content same there. low (same_block want.low block is.content content (same_value pages want.addr key k (DataRecord want.low is.content) (DataRecord block content) small same is.fits.0 there))) (All-nil (IsOther pages block)))
subtree_other pages block order (suc level) want key parts small is lacks =
    let here : Place = record { addr = want.addr; key = key; trace = NodeOver (map (λ (e : Entry). e.addr) is.entries) } in
    let below = each_other pages block (Subtree pages order level) order level want.high is.entries is.children (subtree_other pages block order level) (small_children pages want key (suc level) is.entries small is.fits) is.each
    (subst (λ (p : Parts). AreOthers block p.mapped) is.has lacks) in
    subst (λ (p : Parts). All (IsOther pages block) p.places) (sym is.has) (All-cons (IsOther pages block) here (joined is.children).places
    (λ k content same there. no_node (suc level) block is.entries content (same_value pages want.addr key k (NodeRecord (suc level) is.entries) (DataRecord block content) small same is.fits.0 there)) below)

tree_other : (pages : List (List ℕ)) (block : ℕ) (root : Root) (parts : Parts) → FitsRoot root → Tree pages root parts → AreOthers block parts.mapped → All (IsOther pages block) parts.places
tree_other pages block root parts fits is lacks = subtree_other pages block root.order root.level (root_want root) root.key parts (omega (arith, fits.addr, fits.head)) is lacks

-- a device that doesn't map it
lacks_found : (block : ℕ) (ms : List Mapped) → find nat_cmp block (map (λ (m : Mapped). (m.block, m.content)) ms) ≡ None → AreOthers block ms
lacks_found block [] none = tt
lacks_found block (m ∷ ms) none = elim (eq_by_cmp nat_cmp block m.block) as (λ b. eq_by_cmp nat_cmp block m.block ≡ b → cond b (Some m.content) (find nat_cmp block (map (λ (k : Mapped). (k.block, k.content)) ms)) ≡ None → AreOthers block (m ∷ ms)) [
  | true ↦ λ is found. cc
  | false ↦ λ is found. ((λ same. ne_true (sym is ∙ ap (λ (n : ℕ). eq_by_cmp nat_cmp block n) same ∙ ap is_eq (tied_itself nat_cmp_total block))), lacks_found block ms found)
] refl none
  where
    ne_true : false ≡ true → ⊥
    ne_true is = cc

stands_other : (image : Image) (there : Device) (root : Root) (parts : Parts) (block : ℕ) → StandsBy image there root parts → maps.get there.contents block ≡ None → All (IsOther image.recorded block) parts.places
stands_other image there root parts block stands none =
    tree_other image.recorded block root parts stands.in_range (recorded_tree image there root parts stands)
    (lacks_found block parts.mapped (sym (get-from_entries nat_cmp_total (pairs_of parts) block) ∙ ap (λ c. maps.get c block) (sym stands.contents) ∙ none))

-- ---- a floor

floor_some : (h : History) (first k : ℕ) (bytes : List ℕ) → (image_at h (first + k)).cell ≡ Some bytes → floor_at head_in h first k ≡ head_in bytes
floor_some h first zero bytes is = ap (λ (c : Option (List ℕ)). option_map_or head_in c (length (image_at h first).recorded)) (ap (λ (i : ℕ). (image_at h i).cell) (omega arith) ∙ is)
floor_some h first (suc k) bytes is =
    ap (λ (c : Option (List ℕ)). option_map_or head_in c (if is_some (image_at h (first + k)).cell then length (image_at h (first + suc k)).recorded else floor_at head_in h first k)) is

-- that of a moment with a root record is the head field of it
pub floor_full : (old new : History) (i : ℕ) (bytes : List ℕ) → moment old ≤ i → (image_at new i).cell ≡ Some bytes → floor_of old new i ≡ low_of (image_at new i)
floor_full old new i bytes from full =
    let at : moment old + (i - moment old) ≡ i = omega arith in
    let low : low_of (image_at new i) ≡ head_in bytes = ap (λ (c : Option (List ℕ)). option_map_or head_in c (length (image_at new i).recorded)) full in
    floor_some new (moment old) (i - moment old) bytes (ap (λ (x : ℕ). (image_at new x).cell) at ∙ full) ∙ sym low

-- ---- a moment at which each page lies below the floor

-- the keys of places open their pages
place_opens : (pages : List (List ℕ)) (root : Root) (parts : Parts) (place : Place) → Tree pages root parts → Contains parts.places place → OpensAt pages (link place.addr (bare place.key))
place_opens pages root parts place tree has =
    All-contains (OpensAt pages) (links_of parts.places) (link place.addr (bare place.key)) (tree_closed pages root parts tree).opens (map_contains (λ (p : Place). link p.addr (bare p.key)) parts.places place has)

-- the key of a place of the tree is, but for its digest, the one that is listed and opens its page
place_key : (keys : List (List ℕ)) (image : Image) (there : Device) (root : Root) (parts : Parts) (place : Place) (addr block : ℕ) → StandsBy image there root parts → Kept keys image → KeyPremises keys image.recorded → Contains parts.places place → place.addr ≡ addr
    → (page : IsDataPage keys image.recorded addr block) → bare page.key ≡ bare place.key
place_key keys image there root parts place addr block stands kept premises has same page =
    let known : All (λ p. Contains keys (bare p.key)) parts.places = (kept.cell root (root_of_stands image there root parts stands)).places parts stands.tree in
    let mine : Contains keys (bare place.key) = All-contains (λ (p : Place). Contains keys (bare p.key)) parts.places place known has in
    let opens : OpensAt image.recorded (link addr (bare place.key)) = subst (λ (a : ℕ). OpensAt image.recorded (link a (bare place.key))) same (place_opens image.recorded root parts place (recorded_tree image there root parts stands) has) in
    let spelled : masked (bare page.key) page.is.page ≡ record_bytes (version_of page.key) addr (DataRecord block page.content) = masked_bare page.key page.is.page ∙ page.is.spelled in
    let opened : OpensAt image.recorded (link addr (bare page.key)) = record { page = page.is.page; there = page.is.reads; opens = opens_record (bare page.key) page.is.page (version_of page.key) addr (DataRecord block page.content) spelled } in
    premises.one_opener addr (bare page.key) (bare place.key) page.listed mine opened opens

-- of a block that the device doesn't have no data page is in the tree
pub never_in_tree : (keys : List (List ℕ)) (image : Image) (there : Device) (block addr : ℕ) → Stands image (Some there) → maps.get there.contents block ≡ None → Kept keys image → KeyPremises keys image.recorded
    → IsDataPage keys image.recorded addr block → IsInTree image addr → ⊥
never_in_tree keys image there block addr (root, parts, stands) none kept premises page in_tree =
    let it = place_at image addr in_tree in
    let has : Contains parts.places it.0 = place_of_stands image there root parts it.0 stands it.2 in
    All-contains (IsOther image.recorded block) parts.places it.0 (stands_other image there root parts block stands none) has page.key page.content
    (place_key keys image there root parts it.0 addr block stands kept premises has it.1 page)
    (subst (λ (a : ℕ). IsRecordAt image.recorded a page.key (DataRecord block page.content)) (sym it.1) page.is)

-- where the root record is of all pages each page lies below the floor
pub below_floor : (old new : History) (at : ℕ) (there : Device) (keys : List (List ℕ)) (addr block : ℕ) → moment old ≤ at → Stands (image_at new at) (Some there) → IsOfAll (image_at new at)
    → IsDataPage keys (image_at new at).recorded addr block → addr < floor_of old new at
below_floor old new at there keys addr block from (root, parts, stands) all page =
    let within : addr < length (image_at new at).recorded = slice_get_within (image_at new at).recorded addr page.is.page page.is.reads in
    let floor : floor_of old new at ≡ low_of (image_at new at) = floor_full old new at (root_bytes root) from stands.cell in
    omega (arith, within, floor, all)

-- the premises on keys held at an earlier moment
pub premises_then : (new : History) (keys more : List (List ℕ)) (at : ℕ) → at ≤ moment new → KeyPremises (keys ++ more) new.present.recorded → KeyPremises keys (image_at new at).recorded
premises_then new keys more at to premises = first_premises keys more (image_at new at).recorded new.present.recorded (earlier-now new at to).recorded premises

-- of a block that the device doesn't have then no data page is reached later
pub never_later : (old new : History) (keys grew : List (List ℕ)) (at : ℕ) (there : Device) (block addr later : ℕ) → moment old ≤ at → at ≤ moment new → Stands (image_at new at) (Some there) → maps.get there.contents block ≡ None
    → IsOfAll (image_at new at) → DisclosesBy keys grew old new → KeyPremises (keys ++ grew) new.present.recorded → IsDataPage (keys ++ grew) (image_at new at).recorded addr block
    → at ≤ later → later ≤ moment new → IsReached (image_at new later) addr → ⊥
never_later old new keys grew at there block addr later from to stands none all by premises page after until reached =
    let listed : List (List ℕ) = keys ++ grew in
    let here : KeyPremises listed (image_at new at).recorded =
    premises_then new listed [] at to (subst (λ (ks : List (List ℕ)). KeyPremises ks new.present.recorded) (sym (append-nil listed)) premises) in
    let below : addr < floor_of old new at = below_floor old new at there listed addr block from stands all page in
    let in_tree : IsInTree (image_at new at) addr = (by.trees premises).deleted.kept at later from after until addr reached below in
    never_in_tree listed (image_at new at) there block addr stands none (by.kept.each at from to) here page in_tree
