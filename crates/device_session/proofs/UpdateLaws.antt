-- What an update makes of a session.
use Rattle.std.proofs.Common.{◌≡◌, ◌⊎◌, ℕ, ◌-◌, ◌||◌, ◌<◌, ◌≤◌, Bool, true, false, List, IsTrue, refl, sym, ap, subst, ◌∙◌, arith}
use Rattle.std.specs.Prelude.{Contains, None, Some, Result, Ok, Err, IfOk, is_some}
use Rattle.btree_update.specs.Roots.{RootMaps}
use Rattle.std.specs.FinMap as maps
use Rattle.std.specs.Bool.{OnTrue, OnFalse}
use Rattle.sdbt_base.specs.Arrays.{Device, Blocks}
use Rattle.sdbt_base.specs.Keys.{key_size}
use Rattle.platform.specs.Image.{Image}
use Rattle.root_codec.specs.declared.root.Root.{Root}
use Rattle.node_codec.specs.declared.body.NodeBody.{NodeBody}
use Rattle.page_store.specs.Buffer.{Held}
use Rattle.page_store.specs.Tree.{Mapped, joined}
use Rattle.btree_twigs.specs.Stubs.{Stub, Takes, stubs}
use Rattle.btree_twigs.specs.Top.{IsTop}
use Rattle.btree_walk.specs.Sights.{StandsOver}
use Rattle.btree_walk.specs.Among.{StaysAmong}
use Rattle.btree_update.specs.Among.{HaveNodes}
use Rattle.device_session.proofs.AmongLaws.{held_nodes}
use Rattle.btree_update.specs.declared.groves.Grove.{Grove}
use Rattle.btree_update.specs.Held.{bound, AreBelow, IsReadAs}
use Rattle.btree_update.specs.Maps.{HasBlock, LacksBlock}
use Rattle.btree_update.specs.Opens.{HasWay}
use Rattle.btree_update.specs.Groves.{IsSound, IsReadBeside, IsReadBesideAt, GroveMaps, KeepsTree, places_of}
use Rattle.btree_update.specs.Beside.{IsReadWhere}
use Rattle.btree_update.proofs.HelpingLaws.{from_weaker}
use Rattle.node_cache.specs.Cached.{Cached}
use Rattle.grove_accounts.specs.Holding.{Turns, IsSameSize}
use Rattle.sdbt_base.specs.declared.lists.Unkept.{Unkept}
use Rattle.grove_accounts.specs.Certs.{AreWritten}
use Rattle.grove_accounts.proofs.HoldingLaws.{holds_ready, remove_holds}
use Rattle.grove_accounts.proofs.OwnLaws.{removal_own, removal_written}
use Rattle.device_session.specs.Sessions.{Session}
use Rattle.device_session.specs.Open.{IsOpen, IsTreeFor, AreDataPages}
use Rattle.device_session.specs.Holds.{Holds}
use Rattle.device_session.specs.Keys.{HoldsListed}
use Rattle.device_session.proofs.ArrayLaws.{array_of, array_take, array_has, array_lacks, count_less, remove_none}
use Rattle.device_session.proofs.ReadLaws.{held_maps, held_up}
use Rattle.device_session.proofs.LeftLaws.{update_left}

-- ---- a tree that is ready for an update

-- the session with such a tree, after a look
abbrev pub with_ready : Session → Grove → Cached → Held → NodeBody → Session
with_ready session grove cache buffers node = record session { grove = grove; cache = cache; buffers = buffers; node = node }

places_same : (old new : Grove) → KeepsTree old new → places_of new ≡ places_of old
places_same old new k = let level = k.level in let blocks = k.blocks in let top = k.top in (λ i. stubs (level i) (blocks i) (top i))

pub ready_tree : (touched : Bool) (root : Root) (old new : Grove) → KeepsTree old new → IsSound new → IsTreeFor touched root old → IsTreeFor touched root new
ready_tree false root old new k sound t = record {
  sound = sound;
  order = k.order ∙ t.order;
  blocks = k.blocks ∙ t.blocks;
  head = k.head ∙ t.head;
  level = k.level ∙ t.level;
  top = k.top ∙ t.top;
  none_gone = k.gone ∙ t.none_gone;
  none_never = k.never ∙ t.none_never;
}
ready_tree true root old new k sound t = record {
  sound = sound;
  order = k.order ∙ t.order;
  blocks = k.blocks ∙ t.blocks;
  head = k.head ∙ t.head;
  top = let order = k.order in let level = k.level in let blocks = k.blocks in let top = k.top in
      subst (λ n. IsTop n (new.level - 1) new.blocks new.top) (sym order) (subst (λ n. IsTop old.order (n - 1) new.blocks new.top) (sym level) (subst (λ n. IsTop old.order (old.level - 1) n new.top) (sym blocks) (subst (λ c. IsTop old.order (old.level - 1) old.blocks c) (sym top) t.top)));
}

pub ready_open : (session : Session) (grove : Grove) (cache : Cached) (buffers : Held) (node : NodeBody) (pages now : ℕ) → now ≡ pages → KeepsTree session.grove grove → IsSound grove → IsOpen session pages → IsOpen (with_ready session grove cache buffers node) now
ready_open session grove cache buffers node pages now same k sound o = record {
  served = record { in_range = o.served.in_range; key = o.served.key; within = omega (arith, o.served.within, same) };
  mapped = o.mapped;
  tree = ready_tree session.is_touched session.root session.grove grove k sound o.tree;
  level = omega (arith, o.level, k.level);
  below = subst (λ n. AreBelow (bound n (key_size session.root.version)) (places_of grove)) (sym same) (subst (AreBelow (bound pages (key_size session.root.version))) (sym (places_same session.grove grove k)) o.below);
}

pub ready_holds : (session : Session) (grove : Grove) (cache : Cached) (buffers : Held) (node : NodeBody) (image after : Image) (device : Device) (contents : Blocks) → after ≡ image → KeepsTree session.grove grove → IsSound grove → (StandsOver image.readable session.cache → StandsOver image.readable cache) →
    (StandsOver image.readable session.cache → StaysAmong (HaveNodes image.readable (places_of session.grove)) session.cache cache) → Holds session image device contents → Holds (with_ready session grove cache buffers node) after device contents
ready_holds session grove cache buffers node image after device contents same k sound keeps stays h = subst (λ i. Holds (with_ready session grove cache buffers node) i device contents) (sym same) (record {
  committed = h.committed;
  stands = h.stands;
  each = h.each;
  tree = holds_ready image session.root h.committed.places session.grove grove h.each k sound h.tree;
  contents_are = h.contents_are;
  count = h.count;
  untouched = h.untouched;
  left = λ is. subst (λ ns. Contains ns session.root.addr) (sym k.gone) (h.left is);
  cached = keeps h.cached;
  among = stays h.cached h.committed.places (held_nodes session image device contents h) h.among;
})

pub ready_listed : (session : Session) (grove : Grove) (cache : Cached) (buffers : Held) (node : NodeBody) (image after : Image) (keys : List (List ℕ)) → after ≡ image → KeepsTree session.grove grove → IsSound grove → (StandsOver image.readable session.cache → StandsOver image.readable cache) →
    (StandsOver image.readable session.cache → StaysAmong (HaveNodes image.readable (places_of session.grove)) session.cache cache) → HoldsListed session image keys → HoldsListed (with_ready session grove cache buffers node) after keys
ready_listed session grove cache buffers node image after keys same k sound keeps stays h = record {
  device = h.device;
  contents = h.contents;
  holds = ready_holds session grove cache buffers node image after h.device h.contents same k sound keeps stays h.holds;
  listed = λ s has own. h.listed s (subst (λ ss. Contains ss s) (places_same session.grove grove k) has) own;
}

-- the tree of a session that is open
pub open_sound : (session : Session) (pages : ℕ) → IsOpen session pages → IsSound session.grove × (session.grove.blocks ≡ session.root.blocks)
open_sound session pages o = go session.is_touched o.tree
  where
    go : (touched : Bool) → IsTreeFor touched session.root session.grove → IsSound session.grove × (session.grove.blocks ≡ session.root.blocks)
    go false t = (t.sound, t.blocks)
    go true t = (t.sound, t.blocks)

pub open_size : (session : Session) (pages : ℕ) → IsOpen session pages → (session.grove.order ≡ session.root.order) × (session.grove.head ≡ session.root.head)
open_size session pages o = go session.is_touched o.tree
  where
    go : (touched : Bool) → IsTreeFor touched session.root session.grove → (session.grove.order ≡ session.root.order) × (session.grove.head ≡ session.root.head)
    go false t = (t.order, t.head)
    go true t = (t.order, t.head)

-- ---- a trim

-- the session with the tree after a removal
abbrev pub with_removed : Session → Grove → Session
with_removed session grove = record session { grove = grove; mapped = session.mapped - 1; is_touched = true }

pub removed_open : (session : Session) (grove : Grove) (pages : ℕ) → IsSameSize session.grove grove → IsTop grove.order (grove.level - 1) grove.blocks grove.top → grove.level ≤ 20 → AreBelow (bound pages (key_size session.root.version)) (places_of grove) → IsOpen session pages → IsOpen (with_removed session grove) pages
removed_open session grove pages size top level below o =
    let was = open_sound session pages o in
    let is = open_size session pages o in
    record {
      served = o.served;
      mapped = omega (arith, o.mapped);
      tree = record { sound = size.sound; order = size.order ∙ is.0; blocks = size.blocks ∙ was.1; head = size.head ∙ is.1; top = top };
      level = level;
      below = below;
    }

-- what a removal makes of the tree
abbrev pub Removes : Image → ℕ → (Stub → Bool) → Grove → Grove → Type 0
Removes image block may old new = Turns image.readable block (λ s. HasWay block s ⊎ IsTrue (may s)) (λ opened. Takes 0 old.blocks block opened (places_of new)) old new

pub removed_holds : (session : Session) (grove : Grove) (image : Image) (device : Device) (contents : Blocks) (block pages : ℕ) (may : Stub → Bool) → IsOpen session pages → IsSameSize session.grove grove → block < session.root.blocks → Removes image block may session.grove grove →
    ((mapped : List Mapped) → GroveMaps image.readable session.grove mapped → HasBlock block mapped) → (h : Holds session image device contents) → Holds (with_removed session grove) image device (maps.remove contents block) × HasBlock block (joined h.each).mapped
removed_holds session grove image device contents block pages may opened size to turns mapped h =
    let has = mapped (joined h.each).mapped (held_maps session image device contents h) in
    let less : block < session.grove.blocks = let same = h.tree.blocks in omega (arith, to, same) in
    let r = remove_holds image session.root h.committed.places session.grove grove h.each block (λ s. HasWay block s ⊎ IsTrue (may s)) h.tree size less turns in
    let count = count_less 0 block (joined h.each).mapped (joined r.0).mapped (held_up session image device contents h) r.2 has in (
      record {
        committed = h.committed;
        stands = h.stands;
        each = r.0;
        tree = r.1;
        contents_are = ap (λ m. maps.remove m block) h.contents_are ∙ sym (array_take block (joined h.each).mapped (joined r.0).mapped r.2);
        count = omega (arith, h.count, count);
        untouched = λ is. absurd cc;
        left = λ is. update_left session pages image.readable grove block (λ s. HasWay block s ⊎ IsTrue (may s)) (λ opened. Takes 0 session.grove.blocks block opened (places_of grove)) opened to turns h.left;
        cached = h.cached;
        among = h.among;
      },
      has,
    )

-- what a tree maps is what the tree maps that was made ready
pub ready_maps : (pages : List (List ℕ)) (old new : Grove) (mapped : List Mapped) → KeepsTree old new → GroveMaps pages new mapped → GroveMaps pages old mapped
ready_maps pages old new mapped k m =
    let one = subst (λ n. RootMaps pages n (new.level - 1) new.blocks new.top mapped) k.order m in
    let two = subst (λ n. RootMaps pages old.order (n - 1) new.blocks new.top mapped) k.level one in
    let three = subst (λ n. RootMaps pages old.order (old.level - 1) n new.top mapped) k.blocks two in
    subst (λ c. RootMaps pages old.order (old.level - 1) old.blocks c mapped) k.top three

-- two facts of an answer
pub both : {E : Type 0} (P Q R : Bool → Type 0) → ((b : Bool) → P b → Q b → R b) → (result : Result Bool E) → IfOk result P → IfOk result Q → IfOk result R
both P Q R f (Ok b) p q = f b p q
both P Q R f (Err e) p q = tt

-- the array without a block that was mapped
pub trimmed : (session : Session) (grove : Grove) (image : Image) (device : Device) (contents : Blocks) (block pages : ℕ) (may : Stub → Bool) → IsOpen session pages → IsSameSize session.grove grove → block < session.root.blocks → Removes image block may session.grove grove →
    ((mapped : List Mapped) → GroveMaps image.readable session.grove mapped → HasBlock block mapped) → Holds session image device contents → (touched : Bool) →
    Holds (with_removed session grove) image device (maps.remove contents block) × (true ≡ (touched || maps.contains_key contents block))
trimmed session grove image device contents block pages may opened size to turns mapped h touched =
    let has = mapped (joined h.each).mapped (held_maps session image device contents h) in
    let there : maps.get contents block ≡ Some has.0.content = ap (λ m. maps.get m block) h.contents_are ∙ ap (λ n. maps.get (array_of (joined h.each).mapped) n) (sym has.2) ∙ array_has 0 has.0 (joined h.each).mapped (held_up session image device contents h) has.1 in
    ((removed_holds session grove image device contents block pages may opened size to turns mapped h).0, is_there touched has.0.content there)
  where
    is_there : (touched : Bool) (content : List ℕ) → maps.get contents block ≡ Some content → true ≡ (touched || maps.contains_key contents block)
    is_there true content is = refl
    is_there false content is = ap is_some (sym is)

-- a block that isn't mapped
pub unmapped : (session : Session) (image : Image) (device : Device) (contents : Blocks) (block : ℕ) → ((mapped : List Mapped) → GroveMaps image.readable session.grove mapped → LacksBlock block mapped) → (h : Holds session image device contents) →
    Holds session image device (maps.remove contents block) × (session.is_touched ≡ (session.is_touched || maps.contains_key contents block))
unmapped session image device contents block lacks h =
    let none : maps.get contents block ≡ None = ap (λ m. maps.get m block) h.contents_are ∙ array_lacks block (joined h.each).mapped (lacks (joined h.each).mapped (held_maps session image device contents h)) in
    (subst (Holds session image device) (remove_none contents block none) h, not_there session.is_touched none)
  where
    not_there : (touched : Bool) → maps.get contents block ≡ None → touched ≡ (touched || maps.contains_key contents block)
    not_there true is = refl
    not_there false is = ap is_some (sym is)

-- one that is mapped is counted
pub counted : (session : Session) (image : Image) (device : Device) (contents : Blocks) (block : ℕ) → ((mapped : List Mapped) → GroveMaps image.readable session.grove mapped → HasBlock block mapped) → Holds session image device contents → session.mapped ≡ 0 → ⊥
counted session image device contents block mapped h zero_is =
    let has = mapped (joined h.each).mapped (held_maps session image device contents h) in
    let within = has.1.1 in
    let count = h.count in
    omega (arith, within, count, zero_is)

-- the keys of a session's own data records, after a removal
pub removed_listed : (session : Session) (grove : Grove) (image : Image) (keys : List (List ℕ)) (block pages : ℕ) (may : Stub → Bool) → IsOpen session pages → IsSameSize session.grove grove → block < session.root.blocks → Removes image block may session.grove grove →
    ((mapped : List Mapped) → GroveMaps image.readable session.grove mapped → HasBlock block mapped) → HoldsListed session image keys → HoldsListed (with_removed session grove) image keys
removed_listed session grove image keys block pages may opened size to turns mapped h = record {
  device = h.device;
  contents = maps.remove h.contents block;
  holds = (removed_holds session grove image h.device h.contents block pages may opened size to turns mapped h.holds).0;
  listed = λ s has own. h.listed s (removal_own image session.root h.holds.committed.places session.grove grove h.holds.each block (λ s. HasWay block s ⊎ IsTrue (may s)) h.holds.tree turns s own has) own;
}

-- what is held beside the way is so wherever it stands
pub beside_anywhere : (pages : List (List ℕ)) (block : ℕ) (grove : Grove) → IsReadBeside pages block grove → IsReadBesideAt pages (λ s. true) block grove
beside_anywhere pages block grove b =
    (b.0, from_weaker (IsReadAs pages grove.order) (IsReadWhere pages (λ s. true) grove.order) (λ l s t r. (r, refl)) grove.order block (grove.level - 1) grove.blocks grove.top grove.held.items grove.beside.items b.0 b.1)

pub on_true : (b : Bool) (P : Type 0) → IsTrue b → OnTrue b P → P
on_true true P is h = h
on_true false P is h = absurd cc

pub on_false : (b : Bool) (P : Type 0) → b ≡ false → OnFalse b P → P
on_false false P is h = h
on_false true P is h = absurd cc

-- ---- the pages that a session wrote

pub ready_pages : (old new : Session) (pages : List Unkept) → new.root ≡ old.root → KeepsTree old.grove new.grove → AreDataPages old pages → AreDataPages new pages
ready_pages old new pages root k are =
    let never = subst (λ ns. AreWritten old.root.head (places_of old.grove) ns pages) (sym k.never) are in
    let places = subst (λ ss. AreWritten old.root.head ss new.grove.never.items pages) (sym (places_same old.grove new.grove k)) never in
    subst (λ (r : Root). AreWritten r.head (places_of new.grove) new.grove.never.items pages) (sym root) places

pub removed_pages : (session : Session) (grove : Grove) (image : Image) (device : Device) (contents : Blocks) (block : ℕ) (may : Stub → Bool) (pages : List Unkept) → Removes image block may session.grove grove → Holds session image device contents →
    AreDataPages session pages → AreDataPages (with_removed session grove) pages
removed_pages session grove image device contents block may pages turns h are =
    removal_written image session.root h.committed.places session.grove grove h.each block (λ s. HasWay block s ⊎ IsTrue (may s)) pages h.tree turns are
