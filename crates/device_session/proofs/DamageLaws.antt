-- What a session is over any pages, and what it names that isn't as it should be.
use Rattle.std.proofs.Common.{◌≡◌, ◌⊎◌, inl, inr, ℕ, ◌-◌, ◌^◌, ◌<◌, ◌≤◌, Bool, true, false, List, [], ◌∷◌, IsTrue, length, refl, sym, ap, subst, ◌∙◌, arith, append-nil}
use Rattle.std.specs.Prelude.{None, Some, Result, Ok, Err, IfOk}
use Rattle.std.specs.Bool.{OnTrue, OnFalse}
use Rattle.sdbt_base.specs.Keys.{key_size}
use Rattle.platform.specs.Image.{Image, IsEarlier, IsWhole}
use Rattle.node_codec.specs.declared.body.Entry.{Entry}
use Rattle.node_codec.specs.Record.{DataRecord}
use Rattle.root_codec.specs.declared.root.Root.{Root}
use Rattle.node_codec.specs.declared.body.NodeBody.{NodeBody}
use Rattle.page_store.specs.Buffer.{Held}
use Rattle.page_store.specs.Places.{IsRecordAt}
use Rattle.page_store.specs.Tree.{Parts, Mapped, Tree, Wrong, joined}
use Rattle.node_cache.specs.Cached.{Cached}
use Rattle.btree_twigs.specs.Stubs.{Stub}
use Rattle.btree_walk.specs.Sights.{StandsOver}
use Rattle.btree_update.specs.declared.groves.Grove.{Grove}
use Rattle.btree_update.specs.Held.{bound, AreBelow}
use Rattle.btree_update.specs.Finding.{GroveFinds}
use Rattle.btree_update.specs.Maps.{MapPuts, MapTakes, HasBlock, LacksBlock}
use Rattle.btree_update.specs.Opens.{HasWay}
use Rattle.btree_update.specs.Groves.{IsSound, IsReadFrom, IsReadBeside, IsWrongOnWay, GroveMaps, KeepsTree, places_of}
use Rattle.btree_update.proofs.AscendLaws.{grove_up, grove_all, grove_filled}
use Rattle.grove_accounts.specs.Holding.{IsSameSize, IsTreeOf}
use Rattle.grove_accounts.proofs.FollowLaws.{root_follows, ready_follows, update_wrong, look_up_wrong, record_wrong}
use Rattle.grove_accounts.proofs.FollowingLaws.{tree_later, stays_later, insert_follows, remove_follows}
use Rattle.grove_accounts.proofs.HoldingLaws.{alike, tree_has}
use Rattle.device_session.specs.Sessions.{Session}
use Rattle.device_session.specs.Open.{IsOpen}
use Rattle.device_session.specs.Finishing.{TakesUp}
use Rattle.device_session.specs.Reading.{IsFirstMisfit}
use Rattle.device_session.specs.Ready.{IsReadyFor, counted_with}
use Rattle.device_session.specs.Damage.{Follows, MapsMany, IsMiscounted, IsAtLimit, HasRoom, IsFound}
use Rattle.device_session.proofs.ArrayLaws.{count_less}
use Rattle.device_session.proofs.ReadLaws.{grove_maps}
use Rattle.device_session.proofs.PageLaws.{AreAlike, tree_alike, maps_alike, read_later}
use Rattle.device_session.proofs.UpdateLaws.{open_sound, with_ready, ready_maps, with_removed, Removes}
use Rattle.device_session.proofs.InsertLaws.{cached_later, with_inserted, IsInsertion, count_is, lacks_it}

-- ---- from a mount on

fresh_many : (pages : List (List ℕ)) (root : Root) (grove : Grove) (parts : Parts) → IsTreeOf root grove → Tree pages root parts → MapsMany pages grove (length parts.mapped)
fresh_many pages root grove parts tree stands =
    let has = tree_has pages root grove parts tree stands in
    let all : (joined (parts ∷ [])).mapped ≡ parts.mapped = append-nil parts.mapped in
    record { mapped = (joined (parts ∷ [])).mapped; maps = grove_maps pages grove (parts ∷ []) tree.sound has; many = ap length all }

-- a session on the bare tree of its root record, of which the cache keeps what the pages are
pub follows_fresh : (session : Session) (image : Image) → session.mapped ≡ session.root.mapped → IsTreeOf session.root session.grove → StandsOver image.readable session.cache → Follows session image
follows_fresh session image count tree cached = record {
  places = root_follows image.readable session.root session.grove tree;
  counted = λ parts stands many. subst (MapsMany image.readable session.grove) (many ∙ sym count) (fresh_many image.readable session.root session.grove parts tree stands);
  cached = cached;
}

-- a session that goes on with the tree of a new root record
pub follows_taken : (session now : Session) (cache : Cached) (root : Root) (image : Image) → TakesUp session cache root now → root.mapped ≡ session.mapped → StandsOver image.readable now.cache → Follows now image
follows_taken session now cache root image taken count cached =
    follows_fresh now image (taken.mapped ∙ sym count ∙ ap (λ (r : Root). r.mapped) (sym taken.root_is)) (subst (λ (r : Root). IsTreeOf r now.grove) (sym taken.root_is) taken.tree) cached

maps_ready : (pages : List (List ℕ)) (old new : Grove) (mapped : List Mapped) → KeepsTree old new → GroveMaps pages old mapped → GroveMaps pages new mapped
maps_ready pages old new mapped k m = ready_maps pages new old mapped (record { order = sym k.order; blocks = sym k.blocks; head = sym k.head; level = sym k.level; top = sym k.top; gone = sym k.gone; never = sym k.never }) m

-- what is brought into memory beside the tree changes nothing
pub follows_ready : (session : Session) (grove : Grove) (cache : Cached) (buffers : Held) (node : NodeBody) (image after : Image) → after ≡ image → KeepsTree session.grove grove → (StandsOver image.readable session.cache → StandsOver image.readable cache) → Follows session image →
    Follows (with_ready session grove cache buffers node) after
follows_ready session grove cache buffers node image after same k keeps f = subst (Follows (with_ready session grove cache buffers node)) (sym same) (record {
  places = ready_follows image.readable session.root session.grove grove k f.places;
  counted = λ parts stands many. let m = f.counted parts stands many in record { mapped = m.mapped; maps = maps_ready image.readable session.grove grove m.mapped k m.maps; many = m.many };
  cached = keeps f.cached;
})

-- a look leaves it so
pub follows_looked : (session : Session) (cache : Cached) (buffers : Held) (node : NodeBody) (image after : Image) → after ≡ image → (StandsOver image.readable session.cache → StandsOver image.readable cache) → Follows session image → Follows (record session { cache = cache; buffers = buffers; node = node }) after
follows_looked session cache buffers node image after same keeps f = subst (Follows (record session { cache = cache; buffers = buffers; node = node })) (sym same) (record { places = f.places; counted = f.counted; cached = keeps f.cached })

-- what is found of the block, whichever it is
pub found_by : {E : Type 0} (pages : List (List ℕ)) (block : ℕ) (session : Session) (result : Result Bool E) → IfOk result (λ mapped. OnTrue mapped ((entry : Entry) × GroveFinds pages block session.grove (Some entry)) × OnFalse mapped (GroveFinds pages block session.grove None)) →
    IfOk result (λ mapped. IsFound mapped pages session block)
found_by pages block session (Ok true) h = h.0
found_by pages block session (Ok false) h = h.1
found_by pages block session (Err e) h = tt

-- what a read names is a wrong place
pub misfit_wrong : (session : Session) (image : Image) (block addr pages : ℕ) → IsOpen session pages → Follows session image → IsFirstMisfit image.readable session.grove block addr → Wrong image.readable session.root addr
misfit_wrong session image block addr pages o f (inl stops) = look_up_wrong image.readable session.root session.grove block addr (open_sound session pages o).0 f.places stops
misfit_wrong session image block addr pages o f (inr (entry, finds, at, nothing)) =
    subst (Wrong image.readable session.root) (sym at) (record_wrong image.readable session.root session.grove block entry (open_sound session pages o).0 f.places finds nothing)

-- so is what an update names that comes to one
pub update_is_wrong : (session : Session) (image : Image) (block addr pages : ℕ) → IsOpen session pages → Follows session image → IsWrongOnWay image.readable block session.grove addr → Wrong image.readable session.root addr
update_is_wrong session image block addr pages o f wrong = update_wrong image.readable session.root session.grove block addr (open_sound session pages o).0 f.places wrong

-- ---- over later pages

-- pages that a medium has before others
pub are_alike : (image later : Image) → IsEarlier image later → AreAlike (length image.recorded) image.readable later.readable
are_alike image later earlier addr less = alike (length image.recorded) image.readable later.readable addr earlier.readable less

many_later : (image later : Image) (size : ℕ) (grove : Grove) (count : ℕ) → IsEarlier image later → IsSound grove → AreBelow (bound (length image.recorded) size) (places_of grove) → MapsMany image.readable grove count → MapsMany later.readable grove count
many_later image later size grove count earlier sound low m = record { mapped = m.mapped; maps = maps_alike (bound (length image.recorded) size) image.readable later.readable grove m.mapped sound (are_alike image later earlier) low m.maps; many = m.many }

-- a root record's tree over later pages is one over the earlier ones, which have its node
tree_before : (image later : Image) (root : Root) (parts : Parts) → IsEarlier image later → root.addr < length image.recorded → Tree later.readable root parts → Tree image.readable root parts
tree_before image later root parts earlier less is = tree_alike (length image.recorded) later.readable image.readable root parts (λ addr within. sym (are_alike image later earlier addr within)) less is

node_there : (session : Session) (image : Image) (pages : ℕ) → IsOpen session pages → pages ≡ length image.recorded → session.root.addr < length image.recorded
node_there session image pages o same = omega (arith, o.served.in_range.addr, o.served.within, same)

-- more pages, and other bytes in the buffers
pub follows_later : (session : Session) (buffers : Held) (image later : Image) (pages : ℕ) → IsOpen session pages → pages ≡ length image.recorded → IsWhole image → IsEarlier image later → Follows session image → Follows (record session { buffers = buffers }) later
follows_later session buffers image later pages o same whole earlier f = record {
  places = tree_later image.readable later.readable session.root (stays_later image later earlier) session.grove f.places;
  counted = λ parts stands many. many_later image later (key_size session.root.version) session.grove session.mapped earlier (open_sound session pages o).0 (subst (λ n. AreBelow (bound n (key_size session.root.version)) (places_of session.grove)) same o.below)
      (f.counted parts (tree_before image later session.root parts earlier (node_there session image pages o same) stands) many);
  cached = cached_later image later session.cache whole earlier f.cached;
}

-- ---- over an insertion

-- what a tree maps after an insertion
abbrev pub InsertMaps : List (List ℕ) → ℕ → ℕ → List ℕ → Grove → Grove → Type 0
InsertMaps pages block addr key old new = (mapped : List Mapped) (content : List ℕ) → IsReadFrom pages block old → GroveMaps pages old mapped → IsRecordAt pages addr key (DataRecord block content)
    → (after : List Mapped) × GroveMaps pages new after × MapPuts (record { block = block; addr = addr; key = key; content = content }) mapped after

inserted_many : (image later : Image) (block addr : ℕ) (key content : List ℕ) (is_mapped : Bool) (old new : Grove) (size count : ℕ) → IsEarlier image later → IsSound old → AreBelow (bound (length image.recorded) size) (places_of old) → IsReadyFor image.readable block old is_mapped →
    InsertMaps later.readable block addr key old new → IsRecordAt later.readable addr key (DataRecord block content) → MapsMany image.readable old count → MapsMany later.readable new (counted_with is_mapped count)
inserted_many image later block addr key content is_mapped old new size count earlier sound low ready puts there m =
    let over = maps_alike (bound (length image.recorded) size) image.readable later.readable old m.mapped sound (are_alike image later earlier) low m.maps in
    let r = puts m.mapped content (read_later image.readable later.readable block old (stays_later image later earlier) ready.way) over there in
    let piece : Mapped = record { block = block; addr = addr; key = key; content = content } in
    record { mapped = r.0; maps = r.1; many = sym (count_is is_mapped piece m.mapped r.0 count (grove_up image.readable old m.mapped sound m.maps) r.2 (ready.mapped m.mapped m.maps) (sym m.many)) }

pub follows_inserted : (session : Session) (image later : Image) (block addr : ℕ) (key content : List ℕ) (is_mapped : Bool) (grove : Grove) (buffers : Held) → (i : IsInsertion session image later block addr key content is_mapped grove) → i.pages ≡ length image.recorded →
    InsertMaps later.readable block addr key session.grove grove → Follows session image → Follows (with_inserted session grove (counted_with is_mapped session.mapped) buffers) later
follows_inserted session image later block addr key content is_mapped grove buffers i same puts f =
    let o = open_sound session i.pages i.is_open in
    let less : block < session.grove.blocks = let blocks = o.1 in omega (arith, i.to, blocks) in
    record {
      places = insert_follows image.readable later.readable session.root session.grove grove block addr key content (HasWay block) (stays_later image later i.arrives.earlier) o.0 f.places i.size less (omega (arith, i.within, i.arrives.new)) i.turns i.arrives.there;
      counted = λ parts stands many. inserted_many image later block addr key content is_mapped session.grove grove (key_size session.root.version) session.mapped i.arrives.earlier o.0 (subst (λ n. AreBelow (bound n (key_size session.root.version)) (places_of session.grove)) same i.is_open.below) i.ready puts i.arrives.there
          (f.counted parts (tree_before image later session.root parts i.arrives.earlier (node_there session image i.pages i.is_open same) stands) many);
      cached = cached_later image later session.cache i.whole i.arrives.earlier f.cached;
    }

-- ---- over a removal

-- what a tree maps after a removal
abbrev pub RemoveMaps : List (List ℕ) → ℕ → Grove → Grove → Type 0
RemoveMaps pages block old new = (mapped : List Mapped) → IsReadFrom pages block old → IsReadBeside pages block old → GroveMaps pages old mapped → (after : List Mapped) × GroveMaps pages new after × MapTakes block mapped after

removed_many : (pages : List (List ℕ)) (block : ℕ) (old new : Grove) (count : ℕ) → IsSound old → IsReadyFor pages block old true → RemoveMaps pages block old new → MapsMany pages old count → MapsMany pages new (count - 1)
removed_many pages block old new count sound ready takes m =
    let r = takes m.mapped ready.way (ready.beside refl) m.maps in
    let less = count_less 0 block m.mapped r.0 (grove_up pages old m.mapped sound m.maps) r.2 (ready.mapped m.mapped m.maps).0 in
    let many = m.many in
    record { mapped = r.0; maps = r.1; many = omega (arith, less, many) }

pub follows_removed : (session : Session) (grove : Grove) (image : Image) (block pages : ℕ) (may : Stub → Bool) → IsOpen session pages → IsSameSize session.grove grove → block < session.root.blocks → Removes image block may session.grove grove → IsReadyFor image.readable block session.grove true →
    RemoveMaps image.readable block session.grove grove → Follows session image → Follows (with_removed session grove) image
follows_removed session grove image block pages may opened size to turns ready takes f =
    let o = open_sound session pages opened in
    let less : block < session.grove.blocks = let blocks = o.1 in omega (arith, to, blocks) in
    record {
      places = remove_follows image.readable session.root session.grove grove block (λ s. HasWay block s ⊎ IsTrue (may s)) o.0 f.places size less turns;
      counted = λ parts stands many. removed_many image.readable block session.grove grove session.mapped o.0 ready takes (f.counted parts stands many);
      cached = f.cached;
    }

-- ---- a count that disagrees

-- no tree has as many blocks as its root record says, where a block isn't mapped and no more can be
pub miscounted_full : (session : Session) (image : Image) (block pages : ℕ) → IsOpen session pages → block < session.root.blocks → IsAtLimit session → ((mapped : List Mapped) → GroveMaps image.readable session.grove mapped → LacksBlock block mapped) → Follows session image →
    IsMiscounted image.readable session.root
miscounted_full session image block pages o to limit lacks f = λ parts stands many.
    let m = f.counted parts stands many in
    let s = open_sound session pages o in
    let blocks = s.1 in
    let count = m.many in
    let has : HasBlock block m.mapped = elim limit [
      | inl full ↦ grove_filled image.readable session.grove m.mapped block s.0 m.maps (omega (arith, full, count, blocks)) (omega (arith, to, blocks))
      | inr high ↦
          let top : session.grove.level ≡ 20 = omega (arith, high, o.level) in
          grove_all image.readable session.grove m.mapped block s.0 m.maps (omega (arith, high)) (subst (λ n. session.grove.blocks ≤ 2 ^ n) (sym top) (let most = o.served.in_range.blocks_most in omega (arith, most, blocks))) (omega (arith, to, blocks))
    ] in
    lacks_it block m.mapped has.0 (lacks m.mapped m.maps) has.1 has.2

-- nor where one is mapped and none is counted
pub miscounted_empty : (session : Session) (image : Image) (block : ℕ) → session.mapped ≡ 0 → ((mapped : List Mapped) → GroveMaps image.readable session.grove mapped → HasBlock block mapped) → Follows session image → IsMiscounted image.readable session.root
miscounted_empty session image block none has f = λ parts stands many.
    let m = f.counted parts stands many in
    let there = has m.mapped m.maps in
    let within = there.1.1 in
    let count = m.many in
    omega (arith, within, count, none)

-- ---- over a look

pub limit_same : (old new : Session) → new.root ≡ old.root → new.mapped ≡ old.mapped → new.grove.level ≡ old.grove.level → IsAtLimit new → IsAtLimit old
limit_same old new root mapped level (inl full) = inl (let blocks = ap (λ (r : Root). r.blocks) root in omega (arith, full, mapped, blocks))
limit_same old new root mapped level (inr high) = inr (omega (arith, high, level))

pub room_same : (old new : Session) → new.root ≡ old.root → new.mapped ≡ old.mapped → new.grove.level ≡ old.grove.level → HasRoom new → HasRoom old
room_same old new root mapped level h = (let blocks = ap (λ (r : Root). r.blocks) root in omega (arith, h.0, mapped, blocks), omega (arith, h.1, level))
