-- What a session reads of its array.
use Rattle.std.proofs.Common.{◌≡◌, ◌≢◌, ℕ, zero, suc, ◌-◌, ◌<◌, ◌≤◌, ◌^◌, List, [], ◌∷◌, Option, None, Some, refl, sym, ap, subst, ◌∙◌, arith, append-nil}
use Rattle.std.specs.Prelude.{Contains, Err, unwrap_or, replicate}
use Rattle.std.specs.FinMap as maps
use Rattle.std.specs.List.{AllByRecursion}
use Rattle.std.proofs.lemmas.List.Elements.{All-contains, All-from_recursion, recursion_from_All}
use Rattle.sdbt_base.specs.Arrays.{Device, Blocks, content_of}
use Rattle.platform.specs.Image.{Image}
use Rattle.node_codec.specs.declared.body.Entry.{Entry}
use Rattle.node_codec.specs.Record.{DataRecord}
use Rattle.node_codec.specs.declared.body.NodeBody.{NodeBody}
use Rattle.page_store.specs.Buffer.{Held}
use Rattle.page_store.specs.declared.wants.Want.{Want}
use Rattle.page_store.specs.declared.refusals.FetchRefusal.{FetchRefusal}
use Rattle.page_store.specs.declared.refusals.FetchRefusal.TheVariants as fetches
use Rattle.page_store.specs.Places.{IsRecordAt, NothingFits, block_want, child_want}
use Rattle.page_store.specs.Tree.{Parts, Mapped, Subtree, EachChild, joined, bound_of}
use Rattle.page_store.proofs.RecordLaws.{one_record}
use Rattle.btree_twigs.specs.declared.twigs.Child.{Child, Child-F, out-Child}
use Rattle.btree_twigs.specs.declared.twigs.Child.TheOpen.{Kept, Grown}
use Rattle.btree_twigs.specs.declared.twigs.Twig.{Twig}
use Rattle.btree_twigs.specs.Stubs.{Stub, Tiles, start_by, low_of, children_of, stubs, stubs_in, stubs_below}
use Rattle.btree_twigs.specs.Shape.{IsChild}
use Rattle.btree_twigs.specs.Top.{top_least}
use Rattle.btree_twigs.proofs.ListLaws.{tiles_by, tiles_from}
use Rattle.btree_twigs.proofs.Children.{tiles_child}
use Rattle.btree_walk.specs.Mapped.{mapped_as, IsMappedAs}
use Rattle.btree_walk.specs.Sights.{StandsOver}
use Rattle.btree_walk.specs.Among.{StaysAmong}
use Rattle.btree_update.specs.Among.{HaveNodes}
use Rattle.btree_update.specs.declared.groves.Grove.{Grove}
use Rattle.btree_update.specs.GroveTree.{MapsIn, MapsFrom, want_at, want_in}
use Rattle.btree_update.specs.Roots.{IsRoot, IsRootBy}
use Rattle.btree_update.specs.Groves.{IsSound, GroveMaps, places_of}
use Rattle.btree_update.proofs.FoundLaws.{up_twig}
use Rattle.btree_update.proofs.GroveLaws.{above_it}
use Rattle.btree_update.proofs.ThereLaws.{least_root}
use Rattle.node_cache.specs.Cached.{Cached}
use Rattle.grove_accounts.specs.Below.{HaveParts}
use Rattle.grove_accounts.proofs.ListLaws.{each_append, each_weaker}
use Rattle.grove_accounts.proofs.PartsLaws.{parts_each}
use Rattle.device_session.specs.Sessions.{Session}
use Rattle.device_session.specs.Reading.{ReadsArray}
use Rattle.device_session.specs.Refusals.{read_refused}
use Rattle.device_session.specs.declared.refusals.ReadRefusal.TheVariants as read
use Rattle.device_session.specs.Holds.{Holds}
use Rattle.btree_update.proofs.AscendLaws.{Ascends}
use Rattle.device_session.proofs.ArrayLaws.{array_of, array_lacks, array_has}
use Rattle.device_session.proofs.OrderLaws.{places_up}
use Rattle.device_session.proofs.AmongLaws.{held_nodes}

-- ---- only the cache and the buffers change

pub holds_looked : (session : Session) (cache : Cached) (buffers : Held) (node : NodeBody) (image after : Image) (device : Device) (contents : Blocks) → after ≡ image → (StandsOver image.readable session.cache → StandsOver image.readable cache) →
    (StandsOver image.readable session.cache → StaysAmong (HaveNodes image.readable (places_of session.grove)) session.cache cache) → Holds session image device contents → Holds (record session { cache = cache; buffers = buffers; node = node }) after device contents
holds_looked session cache buffers node image after device contents same keeps stays h = subst (λ i. Holds (record session { cache = cache; buffers = buffers; node = node }) i device contents) (sym same) (record {
  committed = h.committed;
  stands = h.stands;
  each = h.each;
  tree = h.tree;
  contents_are = h.contents_are;
  count = h.count;
  untouched = h.untouched;
  left = h.left;
  cached = keeps h.cached;
  among = stays h.cached h.committed.places (held_nodes session image device contents h) h.among;
})

pub cached_looked : (image after : Image) (old new : Cached) → after ≡ image → (StandsOver image.readable old → StandsOver image.readable new) → StandsOver image.readable old → StandsOver after.readable new
cached_looked image after old new same keeps h = subst (λ (i : Image). StandsOver i.readable new) (sym same) (keeps h)

-- ---- the array

-- a block without an entry holds zeros
pub content_none : (ms : List Mapped) (contents : Blocks) (block : ℕ) → contents ≡ array_of ms → IsMappedAs ms block None → content_of contents block ≡ replicate 4096 0
content_none ms contents block are none =
    ap (λ (o : Option (List ℕ)). unwrap_or o (replicate 4096 0)) (ap (λ (m : Blocks). maps.get m block) are ∙ array_lacks block ms (recursion_from_All (λ m. m.block ≢ block) ms none))

-- one with an entry has its content
pub content_some : (low : ℕ) (ms : List Mapped) (contents : Blocks) (block : ℕ) (entry : Entry) (content : List ℕ) → Ascends low ms → contents ≡ array_of ms → entry.low ≡ block → Contains ms (mapped_as entry content) → content_of contents block ≡ content
content_some low ms contents block entry content up are is has =
    ap (λ (o : Option (List ℕ)). unwrap_or o (replicate 4096 0)) (ap (λ (m : Blocks). maps.get m block) are ∙ ap (λ n. maps.get (array_of ms) n) (sym is) ∙ array_has low (mapped_as entry content) ms up has)

-- ---- what a tree maps

-- each mapped block has its data record
abbrev pub HasRecord : List (List ℕ) → Mapped → Type 0
HasRecord pages m = IsRecordAt pages m.addr m.key (DataRecord m.block m.content)

each_records : (pages : List (List ℕ)) (order level high : ℕ) (es : List Entry) (ps : List Parts) → ((want : Want) (key : List ℕ) (parts : Parts) → Subtree pages order level want key parts → AllByRecursion (HasRecord pages) parts.mapped) →
    EachChild (Subtree pages order level) order level high es ps → AllByRecursion (HasRecord pages) (joined ps).mapped
each_records pages order level high [] [] below each = tt
each_records pages order level high [] (p ∷ ps) below each = absurd each
each_records pages order level high (e ∷ es) [] below each = absurd each
each_records pages order level high (e ∷ es) (p ∷ ps) below each =
    each_append (HasRecord pages) p.mapped (joined ps).mapped (below (child_want order level e (bound_of es high)) e.key p each.0) (each_records pages order level high es ps below each.1)

subtree_records : (pages : List (List ℕ)) (order level : ℕ) (want : Want) (key : List ℕ) (parts : Parts) → Subtree pages order level want key parts → AllByRecursion (HasRecord pages) parts.mapped
unfolding Subtree
subtree_records pages order zero want key parts is = subst (λ (p : Parts). AllByRecursion (HasRecord pages) p.mapped) (sym is.has) (is.fits.0, tt)
subtree_records pages order (suc level) want key parts is =
    subst (λ (p : Parts). AllByRecursion (HasRecord pages) p.mapped) (sym is.has) (each_records pages order level want.high is.entries is.children (subtree_records pages order level) is.each)

pub parts_records : (pages : List (List ℕ)) (order top : ℕ) (ss : List Stub) (ps : List Parts) → HaveParts pages order top ss ps → AllByRecursion (HasRecord pages) (joined ps).mapped
parts_records pages order top [] [] h = tt
parts_records pages order top [] (p ∷ ps) h = absurd h
parts_records pages order top (s ∷ ss) [] h = absurd h
parts_records pages order top (s ∷ ss) (p ∷ ps) h = each_append (HasRecord pages) p.mapped (joined ps).mapped (subtree_records pages order s.level (want_in order top s) s.key p h.0) (parts_records pages order top ss ps h.1)

-- the places on the medium ascend
root_tiles : (order below high : ℕ) (c : Child) → 1 ≤ high → IsRoot order below high c → Tiles 0 high (stubs (suc below) high c)
unfolding stubs
root_tiles order below high c one shaped = here (out-Child c) shaped
  where
    here : (x : Child-F Child Twig) → IsRootBy order below high x → Tiles 0 high (stubs_in (stubs below) (suc below) high x)
    here (Kept low addr key) is = (omega arith, omega (arith, is, one), omega arith)
    here (Grown low twig) is =
        tiles_from (start_by low_of (children_of twig) high) 0 high (stubs_below below high twig) (omega arith)
        (tiles_by low_of (IsChild order below) (stubs below) (λ high c less shaped. tiles_child order below high c less shaped) high (children_of twig) is.1.node.each)

pub grove_tiles : (grove : Grove) → IsSound grove → 1 ≤ grove.blocks → Tiles 0 grove.blocks (places_of grove)
grove_tiles grove sound one =
    subst (λ n. Tiles 0 grove.blocks (stubs n grove.blocks grove.top)) (sym (above_it grove.level sound.one)) (root_tiles grove.order (grove.level - 1) grove.blocks grove.top one sound.shaped)

root_maps : (pages : List (List ℕ)) (order below high : ℕ) (c : Child) (each : List Parts) → HaveParts pages order (suc below) (stubs (suc below) high c) each → MapsFrom pages order (top_least below) below high c (joined each).mapped
unfolding stubs
root_maps pages order below high c each h = here (out-Child c) each h
  where
    here : (x : Child-F Child Twig) (each : List Parts) → HaveParts pages order (suc below) (stubs_in (stubs below) (suc below) high x) each → MapsIn pages order (top_least below) below high x (joined each).mapped
    here (Kept low addr key) [] h = absurd h
    here (Kept low addr key) (p ∷ q ∷ ps) h = absurd h.1
    here (Kept low addr key) (p ∷ []) h = (p, subst (λ n. Subtree pages order (suc below) (want_at order (suc below) low high addr n) key p) (least_root order below) h.0, append-nil p.mapped)
    here (Grown low twig) each h = record {
      each = each;
      has = parts_each pages order (suc below) (stubs_below below high twig) each (each_weaker (λ (s : Stub). s.level ≤ below) (λ (s : Stub). s.level < suc below) (λ s le. omega (arith, le)) (stubs_below below high twig) (up_twig below high twig)) h;
      is = refl;
    }

-- what stands below a tree's places is what the tree maps
pub grove_maps : (pages : List (List ℕ)) (grove : Grove) (each : List Parts) → IsSound grove → HaveParts pages grove.order grove.level (places_of grove) each → GroveMaps pages grove (joined each).mapped
grove_maps pages grove each sound h =
    root_maps pages grove.order (grove.level - 1) grove.blocks grove.top each
    (subst (λ n. HaveParts pages grove.order n (stubs n grove.blocks grove.top) each) (above_it grove.level sound.one) h)

-- ---- the session's array

-- the blocks that a session holds
pub record IsArray (image : Image) (grove : Grove) (contents : Blocks) : Type 0 where
  pub mapped : List Mapped
  pub maps_are : GroveMaps image.readable grove mapped
  pub up : Ascends 0 mapped
  pub records : AllByRecursion (HasRecord image.readable) mapped
  pub contents_are : contents ≡ array_of mapped

pub held_maps : (session : Session) (image : Image) (device : Device) (contents : Blocks) → (h : Holds session image device contents) → GroveMaps image.readable session.grove (joined h.each).mapped
held_maps session image device contents h = grove_maps image.readable session.grove h.each h.tree.sound h.tree.has

pub held_up : (session : Session) (image : Image) (device : Device) (contents : Blocks) → (h : Holds session image device contents) → Ascends 0 (joined h.each).mapped
held_up session image device contents h =
    let blocks : 1 ≤ session.grove.blocks = let least = h.stands.in_range.blocks_least in let same = h.tree.blocks in omega (arith, least, same) in
    places_up image.readable session.grove.order session.grove.level 0 session.grove.blocks (places_of session.grove) h.each (grove_tiles session.grove h.tree.sound blocks) h.tree.has

pub held_array : (session : Session) (image : Image) (device : Device) (contents : Blocks) → Holds session image device contents → IsArray image session.grove contents
held_array session image device contents h = record {
  mapped = (joined h.each).mapped;
  maps_are = held_maps session image device contents h;
  up = held_up session image device contents h;
  records = parts_records image.readable session.grove.order session.grove.level (places_of session.grove) h.each h.tree.has;
  contents_are = h.contents_are;
}

-- the data record that an entry of the tree names is there, with the content of its block
pub entry_read : (image : Image) (grove : Grove) (contents : Blocks) (block : ℕ) (entry : Entry) (content : List ℕ) → (a : IsArray image grove contents) → IsMappedAs a.mapped block (Some entry) → entry.addr < 2 ^ 64 → IsRecordAt image.readable entry.addr entry.key (DataRecord block content) →
    content ≡ content_of contents block
entry_read image grove contents block entry content a m small there =
    let record_is = All-contains (HasRecord image.readable) a.mapped (mapped_as entry m.1.0) (All-from_recursion (HasRecord image.readable) a.mapped a.records) m.1.1 in
    let value : DataRecord block content ≡ DataRecord entry.low m.1.0 = one_record image.readable entry.addr entry.key _ _ small there record_is in
    let same : content ≡ m.1.0 = cc in
    same ∙ sym (content_some 0 a.mapped contents block entry m.1.0 a.up a.contents_are m.0 m.1.1)

-- and fits
pub entry_fits : (image : Image) (grove : Grove) (contents : Blocks) (block : ℕ) (entry : Entry) → (a : IsArray image grove contents) → IsMappedAs a.mapped block (Some entry) → NothingFits image.readable (block_want entry.addr block) entry.key → ⊥
entry_fits image grove contents block entry a m nothing =
    let record_is = All-contains (HasRecord image.readable) a.mapped (mapped_as entry m.1.0) (All-from_recursion (HasRecord image.readable) a.mapped a.records) m.1.1 in
    nothing (DataRecord entry.low m.1.0) (record_is, (refl, m.0))

-- ---- what was refused

-- a read names what its look named
pub refused_bad : (fetch : FetchRefusal) (addr : ℕ) → read_refused fetch ≡ read.BadRecord addr → fetch ≡ fetches.BadRecord addr
refused_bad (fetches.BadRecord other) addr is = let same : other ≡ addr = cc in ap fetches.BadRecord same
refused_bad fetches.PlatformFault addr is = absurd cc

-- of an array nothing is named
pub refused_array : (contents : Blocks) (block : ℕ) (content : List ℕ) (fetch : FetchRefusal) → ((addr : ℕ) → fetch ≡ fetches.BadRecord addr → ⊥) → ReadsArray contents block content (Err (read_refused fetch))
refused_array contents block content (fetches.BadRecord addr) never = never addr refl
refused_array contents block content fetches.PlatformFault never = tt
