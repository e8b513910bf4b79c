-- What a write makes of a session.
use Rattle.std.proofs.Common.{◌≡◌, ◌⊎◌, inl, inr, ℕ, zero, suc, ◌+◌, ◌-◌, ◌<◌, ◌≤◌, ◌^◌, Bool, true, false, List, [], ◌∷◌, ◌++◌, All, IsTrue, length, refl, sym, ap, subst, ◌∙◌, arith, length-append}
use Rattle.std.specs.Prelude.{Contains, Some, replicate, slice_get}
use Rattle.std.specs.FinMap as maps
use Rattle.std.specs.Bool.{OnTrue, OnFalse}
use Rattle.std.proofs.lemmas.List.{length-replicate}
use Rattle.std.proofs.lemmas.List.Elements.{All-weaker, All-append, All-replicate, Contains-append_left}
use Rattle.sdbt_base.specs.Arrays.{Device, Blocks, padded}
use Rattle.sdbt_base.specs.declared.lists.Unkept.{Unkept}
use Rattle.sdbt_base.specs.Bytes.{IsBytes}
use Rattle.platform.specs.Image.{Image, IsEarlier, IsWhole, with_page}
use Rattle.seal_record.specs.Sealing.{masked}
use Rattle.sdbt_base.specs.Keys.{bare, key_size, version_of}
use Rattle.page_digest.specs.Digest.{FitsDigest}
use Rattle.node_codec.specs.Record.{DataRecord, NodeRecord, record_bytes}
use Rattle.root_codec.specs.declared.root.Root.{Root}
use Rattle.page_store.specs.Buffer.{Held}
use Rattle.page_store.specs.Places.{IsRecordAt}
use Rattle.page_store.specs.Stands.{StandsBy}
use Rattle.page_store.specs.Tree.{Parts, Place, Mapped, joined}
use Rattle.page_store.proofs.RecordLaws.{record_appended, record_kept, slice_get-end}
use Rattle.page_store.proofs.StandsLaws.{stands_kept}
use Rattle.node_cache.specs.declared.slots.CachedNode.{CachedNode}
use Rattle.node_cache.specs.Cached.{Cached}
use Rattle.btree_twigs.specs.Stubs.{Stub, Puts, datum}
use Rattle.btree_twigs.specs.Top.{IsTop}
use Rattle.btree_walk.specs.Sights.{StandsOver, IsOfPage}
use Rattle.btree_update.specs.declared.groves.Grove.{Grove}
use Rattle.btree_update.specs.Held.{bound, AreBelow}
use Rattle.btree_update.specs.Maps.{MapPuts, HasBlock, LacksBlock}
use Rattle.btree_update.specs.Opens.{HasWay}
use Rattle.btree_update.specs.Groves.{GroveMaps, places_of}
use Rattle.btree_update.proofs.AscendLaws.{Ascends, grove_all, grove_filled}
use Rattle.grove_accounts.specs.Holding.{Arrives, Turns, IsSameSize}
use Rattle.grove_accounts.proofs.HoldingLaws.{alike, holds_later, insert_holds}
use Rattle.grove_accounts.proofs.OwnLaws.{insertion_own, insertion_written}
use Rattle.device_session.specs.Sessions.{Session}
use Rattle.device_session.specs.Open.{IsOpen, AreDataPages}
use Rattle.device_session.specs.Holds.{Holds}
use Rattle.device_session.specs.Keys.{HoldsListed}
use Rattle.device_session.specs.Ready.{IsReadyFor, counted_with}
use Rattle.device_session.proofs.ArrayLaws.{array_put, count_more, count_same}
use Rattle.device_session.proofs.LeftLaws.{update_left}
use Rattle.device_session.proofs.ReadLaws.{held_maps, held_up}
use Rattle.device_session.proofs.UpdateLaws.{open_sound, open_size}

-- ---- a page more

get_within : (pages : List (List ℕ)) (addr : ℕ) (page : List ℕ) → slice_get pages addr ≡ Some page → addr < length pages
get_within [] addr page reads = absurd cc
get_within (p ∷ pages) zero page reads = omega arith
get_within (p ∷ pages) (suc addr) page reads = let rest = get_within pages addr page reads in omega (arith, rest)

-- the root record's tree stands over later images with the same cell
pub by_later : (image later : Image) (device : Device) (root : Root) (parts : Parts) → IsWhole image → IsEarlier image later → later.cell ≡ image.cell → StandsBy image device root parts → StandsBy later device root parts
by_later image later device root parts whole earlier cell s =
    stands_kept image later device root parts s cell (omega (arith, s.head, earlier.synced))
    (All-weaker (λ (p : Place). p.addr < root.head) (λ (p : Place). slice_get later.readable p.addr ≡ slice_get image.readable p.addr) (λ p less. alike (length image.recorded) image.readable later.readable p.addr earlier.readable (omega (arith, less, s.head, whole.synced))) parts.places s.below)
    (All-weaker (λ (p : Place). p.addr < root.head) (λ (p : Place). slice_get later.recorded p.addr ≡ slice_get image.recorded p.addr) (λ p less. alike (length image.recorded) image.recorded later.recorded p.addr earlier.recorded (omega (arith, less, s.head, whole.synced))) parts.places s.below)

-- what a cache keeps is of the pages still
pub cached_later : (image later : Image) (cache : Cached) → IsWhole image → IsEarlier image later → StandsOver image.readable cache → StandsOver later.readable cache
cached_later image later cache whole earlier h = All-weaker (IsOfPage image.readable) (IsOfPage later.readable) (λ (k : CachedNode) is. record {
  version = is.version;
  is = record_kept image.readable later.readable k.addr k.key (NodeRecord k.node.level k.node.entries.items)
      (alike (length image.recorded) image.readable later.readable k.addr earlier.readable (let within = get_within image.readable k.addr is.is.page is.is.reads in omega (arith, within, whole.as_many))) is.is;
}) cache.nodes h

-- the session over a later image with the same cell, with other bytes in its buffers
pub later_holds : (session : Session) (buffers : Held) (image later : Image) (device : Device) (contents : Blocks) → IsWhole image → IsEarlier image later → later.cell ≡ image.cell → Holds session image device contents → Holds (record session { buffers = buffers }) later device contents
later_holds session buffers image later device contents whole earlier cell h = record {
  committed = h.committed;
  stands = by_later image later device session.root h.committed whole earlier cell h.stands;
  each = h.each;
  tree = holds_later image later session.root h.committed.places session.grove h.each earlier h.tree;
  contents_are = h.contents_are;
  count = h.count;
  untouched = h.untouched;
  left = h.left;
  cached = cached_later image later session.cache whole earlier h.cached;
  among = h.among;
}

pub later_listed : (session : Session) (buffers : Held) (image later : Image) (keys : List (List ℕ)) → IsWhole image → IsEarlier image later → later.cell ≡ image.cell → HoldsListed session image keys → HoldsListed (record session { buffers = buffers }) later keys
later_listed session buffers image later keys whole earlier cell h = record {
  device = h.device;
  contents = h.contents;
  holds = later_holds session buffers image later h.device h.contents whole earlier cell h.holds;
  listed = h.listed;
}

below_later : (pages now size : ℕ) (ss : List Stub) → pages ≤ now → AreBelow (bound pages size) ss → AreBelow (bound now size) ss
below_later pages now size [] le h = tt
below_later pages now size (s ∷ ss) le h = ((omega (arith, h.0.0, le), h.0.1), below_later pages now size ss le h.1)

pub later_open : (session : Session) (buffers : Held) (pages now : ℕ) → pages ≤ now → IsOpen session pages → IsOpen (record session { buffers = buffers }) now
later_open session buffers pages now le o = record {
  served = record { in_range = o.served.in_range; key = o.served.key; within = omega (arith, o.served.within, le) };
  mapped = o.mapped;
  tree = o.tree;
  level = o.level;
  below = below_later pages now (key_size session.root.version) (places_of session.grove) le o.below;
}

-- ---- an insertion

-- the session with the tree after an insertion, which maps so many blocks
abbrev pub with_inserted : Session → Grove → ℕ → Held → Session
with_inserted session grove mapped buffers = record session { grove = grove; mapped = mapped; is_touched = true; buffers = buffers }

-- what an insertion makes of the tree
abbrev pub Inserts : Image → ℕ → ℕ → List ℕ → Grove → Grove → Type 0
Inserts image block addr key old new = Turns image.readable block (HasWay block) (λ opened. Puts 0 old.blocks (datum block addr key) opened (places_of new)) old new

pub inserted_open : (session : Session) (grove : Grove) (mapped : ℕ) (buffers : Held) (pages now : ℕ) → IsSameSize session.grove grove → IsTop grove.order (grove.level - 1) grove.blocks grove.top → grove.level ≤ 20 → AreBelow (bound now (key_size session.root.version)) (places_of grove) →
    mapped ≤ session.root.blocks → pages ≤ now → IsOpen session pages → IsOpen (with_inserted session grove mapped buffers) now
inserted_open session grove mapped buffers pages now size top level below few le o =
    let was = open_sound session pages o in
    let is = open_size session pages o in
    record {
      served = record { in_range = o.served.in_range; key = o.served.key; within = omega (arith, o.served.within, le) };
      mapped = few;
      tree = record { sound = size.sound; order = size.order ∙ is.0; blocks = size.blocks ∙ was.1; head = size.head ∙ is.1; top = top };
      level = level;
      below = below;
    }

-- an insertion of a block's data record, which arrived, over a tree that is ready for it
pub record IsInsertion (session : Session) (image later : Image) (block addr : ℕ) (key content : List ℕ) (is_mapped : Bool) (grove : Grove) : Type 0 where
  pub whole : IsWhole image
  pub cell : later.cell ≡ image.cell
  pub size : IsSameSize session.grove grove
  pub to : block < session.root.blocks
  pub arrives : Arrives image later block addr key content
  pub within : session.root.head ≤ length image.recorded
  pub turns : Inserts image block addr key session.grove grove
  pub ready : IsReadyFor image.readable block session.grove is_mapped
  pub pages : ℕ
  pub is_open : IsOpen session pages

pub count_is : (is_mapped : Bool) (m : Mapped) (old new : List Mapped) (count : ℕ) → Ascends 0 old → MapPuts m old new → OnTrue is_mapped (HasBlock m.block old) × OnFalse is_mapped (LacksBlock m.block old) → count ≡ length old → counted_with is_mapped count ≡ length new
count_is true m old new count up puts is same = same ∙ sym (count_same 0 m old new up puts is.0)
count_is false m old new count up puts is same = let more = count_more m old new puts is.1 in omega (arith, same, more)

-- the session has the array with the block's content
pub inserted_holds : (session : Session) (image later : Image) (device : Device) (contents : Blocks) (block addr : ℕ) (key content : List ℕ) (is_mapped : Bool) (grove : Grove) (buffers : Held) → IsInsertion session image later block addr key content is_mapped grove → Holds session image device contents →
    Holds (with_inserted session grove (counted_with is_mapped session.mapped) buffers) later device (maps.insert contents block content)
inserted_holds session image later device contents block addr key content is_mapped grove buffers i h =
    let less : block < session.grove.blocks = let same = h.tree.blocks in omega (arith, i.to, same) in
    let r = insert_holds image later session.root h.committed.places session.grove grove h.each block addr key content (HasWay block) h.tree i.size less i.within i.turns i.arrives in
    let m : Mapped = record { block = block; addr = addr; key = key; content = content } in
    let is = i.ready.mapped (joined h.each).mapped (held_maps session image device contents h) in
    record {
      committed = h.committed;
      stands = by_later image later device session.root h.committed i.whole i.arrives.earlier i.cell h.stands;
      each = r.0;
      tree = r.1;
      contents_are = ap (λ c. maps.insert c block content) h.contents_are ∙ sym (array_put m (joined h.each).mapped (joined r.0).mapped r.2);
      count = count_is is_mapped m (joined h.each).mapped (joined r.0).mapped session.mapped (held_up session image device contents h) r.2 is h.count;
      untouched = λ is. absurd cc;
      left = λ is. update_left session i.pages image.readable grove block (HasWay block) (λ opened. Puts 0 session.grove.blocks (datum block addr key) opened (places_of grove)) i.is_open i.to i.turns h.left;
      cached = cached_later image later session.cache i.whole i.arrives.earlier h.cached;
      among = h.among;
    }

-- the key that was drawn is listed with those before
pub inserted_listed : (session : Session) (image later : Image) (keys more : List (List ℕ)) (block addr : ℕ) (key content : List ℕ) (is_mapped : Bool) (grove : Grove) (buffers : Held) → IsInsertion session image later block addr key content is_mapped grove → HoldsListed session image keys →
    Contains (keys ++ more) (bare key) → HoldsListed (with_inserted session grove (counted_with is_mapped session.mapped) buffers) later (keys ++ more)
inserted_listed session image later keys more block addr key content is_mapped grove buffers i h new = record {
  device = h.device;
  contents = maps.insert h.contents block content;
  holds = inserted_holds session image later h.device h.contents block addr key content is_mapped grove buffers i h.holds;
  listed = λ s has own. elim (insertion_own image session.root h.holds.committed.places session.grove grove h.holds.each block addr key (HasWay block) h.holds.tree i.turns s own has) [
    | inl is ↦ subst (λ (t : Stub). Contains (keys ++ more) (bare t.key)) (sym is) new
    | inr was ↦ Contains-append_left keys more (bare s.key) (h.listed s was own)
  ];
}

-- the page that was written is the session's
pub inserted_pages : (session : Session) (image later : Image) (device : Device) (contents : Blocks) (block addr : ℕ) (key content : List ℕ) (is_mapped : Bool) (grove : Grove) (buffers : Held) (pages : List Unkept) → IsInsertion session image later block addr key content is_mapped grove → Holds session image device contents →
    AreDataPages session pages → AreDataPages (with_inserted session grove (counted_with is_mapped session.mapped) buffers) (pages ++ record { block = block; addr = addr } ∷ [])
inserted_pages session image later device contents block addr key content is_mapped grove buffers pages i h are =
    insertion_written image session.root h.committed.places session.grove grove h.each block addr key (HasWay block) pages h.tree (omega (arith, i.within, i.arrives.new)) i.turns are

-- ---- a page that came

pub padded_bytes : (content : List ℕ) → length content ≤ 4096 → All (λ b. b < 256) content → IsBytes 4096 (padded content)
padded_bytes content most bytes = (
  omega (arith, length-append content (replicate (4096 - length content) 0), length-replicate {A = ℕ} (4096 - length content) 0),
  All-append (λ (b : ℕ). b < 256) content (replicate (4096 - length content) 0) bytes (All-replicate (λ (b : ℕ). b < 256) (4096 - length content) 0 (omega arith)),
)

-- a block's data record that was appended arrives
pub arrived : (image later : Image) (block addr : ℕ) (key content : List ℕ) → IsWhole image → IsEarlier image later → addr ≡ length image.recorded → addr < 2 ^ 64 → block < 1048576 → IsBytes 4096 content → FitsDigest key (masked key (record_bytes (version_of key) addr (DataRecord block content))) →
    later ≡ with_page image (masked key (record_bytes (version_of key) addr (DataRecord block content))) (masked key (record_bytes (version_of key) addr (DataRecord block content))) → Arrives image later block addr key content
arrived image later block addr key content whole earlier at small low sized digested is =
    let page = masked key (record_bytes (version_of key) addr (DataRecord block content)) in
    record {
      earlier = earlier;
      one = ap (λ (i : Image). length i.recorded) is ∙ length-append image.recorded (page ∷ []) ∙ omega arith;
      new = at;
      there = subst (λ (i : Image). IsRecordAt i.readable addr key (DataRecord block content)) (sym is) (record_appended image.readable addr key (DataRecord block content) small (at ∙ sym whole.as_many) (low, sized) digested);
      same = subst (λ (i : Image). slice_get i.readable addr ≡ slice_get i.recorded addr) (sym is) (slice_get-end image.readable page addr (at ∙ sym whole.as_many) ∙ sym (slice_get-end image.recorded page addr at));
    }

-- ---- on any pages

pub below_more : (pages now size : ℕ) (grove : Grove) → pages ≤ now → AreBelow (bound pages size) (places_of grove) → AreBelow (bound now size) (places_of grove)
below_more pages now size grove le h = below_later pages now size (places_of grove) le h

pub open_later : (session : Session) (pages more : ℕ) → pages ≤ more → IsOpen session pages → IsOpen session more
open_later session pages more le h = later_open session session.buffers pages more le h

pub level_stays : (is_mapped : Bool) (old new : ℕ) → (IsTrue is_mapped → new ≡ old) → (new ≡ old) ⊎ (new ≡ old + 1) → OnFalse is_mapped (old < 20) → old ≤ 20 → new ≤ 20
level_stays true old new stays either limit le = let same = stays refl in omega (arith, same, le)
level_stays false old new stays (inl same) limit le = omega (arith, same, le)
level_stays false old new stays (inr more) limit le = omega (arith, more, limit)

pub count_few : (is_mapped : Bool) (mapped blocks : ℕ) → OnFalse is_mapped (mapped < blocks) → mapped ≤ blocks → counted_with is_mapped mapped ≤ blocks
count_few true mapped blocks limit le = le
count_few false mapped blocks limit le = omega (arith, limit)

pub at_false : (b : Bool) (P Q : Type 0) → (P → Q) → OnFalse b P → OnFalse b Q
at_false true P Q f h = tt
at_false false P Q f h = f h

-- keys that were drawn are listed with those before
pub more_listed : (session : Session) (image : Image) (keys more : List (List ℕ)) → HoldsListed session image keys → HoldsListed session image (keys ++ more)
more_listed session image keys more h = record {
  device = h.device;
  contents = h.contents;
  holds = h.holds;
  listed = λ s has own. Contains-append_left keys more (bare s.key) (h.listed s has own);
}

-- ---- no block more

pub lacks_it : (block : ℕ) (ms : List Mapped) (m : Mapped) → LacksBlock block ms → Contains ms m → m.block ≡ block → ⊥
lacks_it block [] m lacks (i, within, is) same = omega (arith, within)
lacks_it block (x ∷ ms) m lacks (zero, within, is) same = lacks.0 (ap (λ (k : Mapped). k.block) is ∙ same)
lacks_it block (x ∷ ms) m lacks (suc i, within, is) same = lacks_it block ms m lacks.1 (i, omega (arith, within), is) same

-- where as many blocks are mapped as there are, or the tree has as many levels as it may, every block is mapped
pub all_mapped : (session : Session) (image : Image) (device : Device) (contents : Blocks) (block pages : ℕ) → IsOpen session pages → Holds session image device contents → block < session.root.blocks →
    (session.root.blocks ≤ session.mapped) ⊎ (20 ≤ session.grove.level) → ((mapped : List Mapped) → GroveMaps image.readable session.grove mapped → LacksBlock block mapped) → ⊥
all_mapped session image device contents block pages o h to limit lacks =
    let ms = (joined h.each).mapped in
    let m = held_maps session image device contents h in
    let same = h.tree.blocks in
    let has : HasBlock block ms = elim limit [
      | inl many ↦ grove_filled image.readable session.grove ms block h.tree.sound m (let count = h.count in omega (arith, many, count, same)) (omega (arith, to, same))
      | inr high ↦
          let top : session.grove.level ≡ 20 = omega (arith, high, o.level) in
          grove_all image.readable session.grove ms block h.tree.sound m (omega (arith, high)) (subst (λ n. session.grove.blocks ≤ 2 ^ n) (sym top) (let most = o.served.in_range.blocks_most in omega (arith, most, same))) (omega (arith, to, same))
    ] in
    lacks_it block ms has.0 (lacks ms m) has.1 has.2
