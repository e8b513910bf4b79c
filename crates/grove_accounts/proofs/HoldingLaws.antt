-- What a tree with changes is over an image, from its root record over insertions and removals.
use Rattle.std.proofs.Common.{◌≡◌, ◌⊎◌, inl, inr, ℕ, zero, suc, ◌-◌, ◌==◌, if◌then◌else◌, ◌<◌, ◌≤◌, List, [], ◌∷◌, ◌++◌, All, map, take, length, refl, sym, ap, subst, ◌∙◌, arith, append-nil}
use Rattle.std.specs.Prelude.{Contains, Option, None, Some, slice_get}
use Rattle.std.specs.List.{AllByRecursion}
use Rattle.std.specs.List.Sorted.{IsPermutation}
use Rattle.std.proofs.lemmas.Bool.{cases_lt, eq-eqb}
use Rattle.std.proofs.lemmas.List.Elements.{All-nil, All-cons, All-head, All-weaker}
use Rattle.std.proofs.lemmas.List.Kept.{AllPairs-cons}
use Rattle.std.proofs.lemmas.List.Sorted.{IsPermutation-sym, IsPermutation-trans, IsPermutation-append_right, All-permutation}
use Rattle.sdbt_base.specs.Traces.{DataOf}
use Rattle.sdbt_base.specs.Arrays.{Device}
use Rattle.sdbt_base.specs.declared.lists.Unkept.{Unkept}
use Rattle.platform.specs.Image.{Image, IsEarlier}
use Rattle.root_codec.specs.declared.root.Root.{Root}
use Rattle.page_store.specs.Places.{root_want}
use Rattle.page_store.specs.Tree.{Tree, Parts, Place, Mapped, Subtree, joined, data_parts}
use Rattle.page_store.specs.Stands.{StandsBy}
use Rattle.page_store.proofs.TreeLaws.{subtree_kept}
use Rattle.page_store.proofs.ApartLaws.{AreApart, all_left, all_right, apart_permutation, apart_right}
use Rattle.btree_twigs.specs.Stubs.{Stub, Tiles, Puts, Takes, datum, stubs}
use Rattle.btree_twigs.proofs.Finds.{kept_stub}
use Rattle.btree_twigs.specs.Updates.{IsOpen}
use Rattle.btree_update.specs.Opens.{Opens}
use Rattle.btree_update.specs.declared.groves.Grove.{Grove}
use Rattle.btree_update.specs.GroveTree.{want_at, least_at, want_in}
use Rattle.btree_update.specs.Maps.{MapPuts, MapTakes}
use Rattle.btree_update.specs.Groves.{IsSound, IsAddressOf, KeepsTree, LetsGo, places_of}
use Rattle.btree_update.proofs.Places.{in_maps}
use Rattle.btree_update.proofs.GroveLaws.{above_it}
use Rattle.grove_accounts.specs.Below.{HaveParts, GroveHas}
use Rattle.grove_accounts.specs.Accounts.{Accounts, IsOwn}
use Rattle.grove_accounts.specs.Holding.{IsAccounted, HoldsTree, Arrives, Turns, IsSameSize, IsTreeOf, root_stub, data_place}
use Rattle.grove_accounts.proofs.ListLaws.{past, each_left, each_right, each_append, each_weaker}
use Rattle.grove_accounts.proofs.PartsLaws.{OpensParts, opens_parts, opens_all, parts_split, parts_append, parts_from, parts_each, places_between, mapped_between, joined_places, joined_mapped, IsInner}
use Rattle.grove_accounts.proofs.AccountLaws.{accounts_start, accounts_permuted, accounts_later, accounts_gone, accounts_never, accounts_come, inner_committed}
use Rattle.grove_accounts.proofs.PlaceLaws.{IsUnder, AreBelowRoot, IsPlaceOf, under_root, places_below, open_below, puts_no_root, takes_no_root, mid_at}

-- ---- of a root record

-- such a tree has one place on the medium, its root
pub tree_place : (root : Root) (grove : Grove) → IsTreeOf root grove → places_of grove ≡ root_stub root ∷ []
tree_place root grove of =
    let one = above_it grove.level of.sound.one in
    let level : suc (grove.level - 1) ≡ root.level = sym one ∙ of.level in
    let blocks = of.blocks in
    ap (λ n. stubs n grove.blocks grove.top) one ∙ ap (λ c. stubs (suc (grove.level - 1)) grove.blocks c) of.top ∙ kept_stub (grove.level - 1) grove.blocks 0 root.addr root.key
    ∙ (λ i. record { level = level i; low = 0; high = blocks i; addr = root.addr; key = root.key } ∷ [])

-- what stands below its root
pub tree_has : (pages : List (List ℕ)) (root : Root) (grove : Grove) (parts : Parts) → IsTreeOf root grove → Tree pages root parts → GroveHas pages grove (parts ∷ [])
tree_has pages root grove parts of stands =
    let same : want_in grove.order grove.level (root_stub root) ≡ root_want root = want_same in
    let tree = subst (λ w. Subtree pages root.order root.level w root.key parts) (sym same) stands in
    let has = subst (λ n. Subtree pages n root.level (want_in grove.order grove.level (root_stub root)) root.key parts) (sym of.order) tree in
    subst (λ ss. HaveParts pages grove.order grove.level ss (parts ∷ [])) (sym (tree_place root grove of)) (has, tt)
  where
    want_same : want_in grove.order grove.level (root_stub root) ≡ root_want root
    want_same =
        let order = of.order in
        let level = of.level in
        (λ i. want_in (order i) (level i) (root_stub root)) ∙ ap (λ n. want_at root.order root.level 0 root.blocks root.addr n) least
      where
        least : least_at root.order root.level root.level ≡ (if root.level == 1 then 0 else 2)
        least = rw (eq-eqb root.level root.level refl) refl

-- where the image stands, the tree of its root record, with no node in memory, is what the record says
pub holds_start : (image : Image) (device : Device) (root : Root) (parts : Parts) (grove : Grove) → StandsBy image device root parts → image.synced ≤ length image.recorded → IsTreeOf root grove → HoldsTree image root parts.places grove (parts ∷ [])
holds_start image device root parts grove stands whole of =
    let all = append-nil parts.places in
    record {
      sound = of.sound;
      order = of.order;
      blocks = of.blocks;
      head = of.head;
      within = stands.below;
      has = tree_has image.readable root grove parts of stands.tree;
      accounted = subst (λ ps. IsAccounted image root.head parts.places ps grove.gone.items grove.never.items) (sym all)
          (subst (λ ns. IsAccounted image root.head parts.places parts.places ns grove.never.items) (sym of.none_gone) (subst (λ ns. IsAccounted image root.head parts.places parts.places [] ns) (sym of.none_never)
          (record {
            apart = stands.apart;
            below = All-weaker (λ p. p.addr < root.head) (λ p. p.addr < length image.recorded) (λ p less. omega (arith, less, stands.head, whole)) parts.places stands.below;
            recorded = stands.recorded;
            accounts = accounts_start root.head (length image.recorded) parts.places;
          })));
    }

-- bringing into memory beside the tree what an update may need changes nothing
pub holds_ready : (image : Image) (root : Root) (committed : List Place) (old new : Grove) (each : List Parts) → KeepsTree old new → IsSound new → HoldsTree image root committed old each → HoldsTree image root committed new each
holds_ready image root committed old new each keeps sound h = record {
  sound = sound;
  order = keeps.order ∙ h.order;
  blocks = keeps.blocks ∙ h.blocks;
  head = keeps.head ∙ h.head;
  within = h.within;
  has = has_same;
  accounted = subst (λ ns. IsAccounted image root.head committed (joined each).places ns new.never.items) (sym keeps.gone) (subst (λ ns. IsAccounted image root.head committed (joined each).places old.gone.items ns) (sym keeps.never) h.accounted);
}
  where
    places : places_of new ≡ places_of old
    places = let level = keeps.level in let blocks = keeps.blocks in let top = keeps.top in (λ i. stubs (level i) (blocks i) (top i))

    has_same : GroveHas image.readable new each
    has_same = subst (λ n. HaveParts image.readable n new.level (places_of new) each) (sym keeps.order) (subst (λ n. HaveParts image.readable old.order n (places_of new) each) (sym keeps.level) (subst (λ ss. HaveParts image.readable old.order old.level ss each) (sym places) h.has))

-- ---- over a later image

get_take : (n : ℕ) (pages : List (List ℕ)) (addr : ℕ) → addr < n → slice_get (take n pages) addr ≡ slice_get pages addr
get_take zero pages addr less = absurd (omega (arith, less))
get_take (suc n) [] addr less = refl
get_take (suc n) (p ∷ pages) zero less = refl
get_take (suc n) (p ∷ pages) (suc addr) less = get_take n pages addr (omega (arith, less))

pub alike : (n : ℕ) (pages others : List (List ℕ)) (addr : ℕ) → take n others ≡ pages → addr < n → slice_get others addr ≡ slice_get pages addr
alike n pages others addr front less = sym (get_take n others addr less) ∙ ap (λ ps. slice_get ps addr) front

pub parts_later : (pages others : List (List ℕ)) (order top n : ℕ) (ss : List Stub) (ps : List Parts) → take n others ≡ pages → All (λ p. p.addr < n) (joined ps).places → HaveParts pages order top ss ps → HaveParts others order top ss ps
parts_later pages others order top n [] [] front below h = tt
parts_later pages others order top n [] (p ∷ ps) front below h = absurd h
parts_later pages others order top n (s ∷ ss) [] front below h = absurd h
parts_later pages others order top n (s ∷ ss) (p ∷ ps) front below h = (
  subtree_kept pages others order s.level _ s.key p h.0 (All-weaker (λ (q : Place). q.addr < n) (λ (q : Place). slice_get others q.addr ≡ slice_get pages q.addr) (λ q less. alike n pages others q.addr front less) p.places (all_left (λ (q : Place). q.addr < n) p.places (joined ps).places below)),
  parts_later pages others order top n ss ps front (all_right (λ (q : Place). q.addr < n) p.places (joined ps).places below) h.1,
)

pub accounted_later : (image later : Image) (head : ℕ) (committed places : List Place) (gone : List ℕ) (never : List Unkept) → IsEarlier image later → IsAccounted image head committed places gone never → IsAccounted later head committed places gone never
accounted_later image later head committed places gone never earlier a = record {
  apart = a.apart;
  below = All-weaker (λ p. p.addr < length image.recorded) (λ p. p.addr < length later.recorded) (λ p less. omega (arith, less, earlier.pages)) places a.below;
  recorded = λ k d within.
      alike (length image.recorded) image.readable later.readable _ earlier.readable (a.below k d within) ∙ a.recorded k d within ∙ sym (alike (length image.recorded) image.recorded later.recorded _ earlier.recorded (a.below k d within));
  accounts = accounts_later head (length image.recorded) (length later.recorded) committed places gone never earlier.pages a.accounts;
}

-- pages that are added keep what a tree is
pub holds_later : (image later : Image) (root : Root) (committed : List Place) (grove : Grove) (each : List Parts) → IsEarlier image later → HoldsTree image root committed grove each → HoldsTree later root committed grove each
holds_later image later root committed grove each earlier h = record {
  sound = h.sound;
  order = h.order;
  blocks = h.blocks;
  head = h.head;
  within = h.within;
  has = parts_later image.readable later.readable grove.order grove.level (length image.recorded) (places_of grove) each earlier.readable h.accounted.below h.has;
  accounted = accounted_later image later root.head committed (joined each).places grove.gone.items grove.never.items earlier h.accounted;
}

-- ---- in another order

pub accounted_permuted : (image : Image) (head : ℕ) (committed places others : List Place) (gone : List ℕ) (never : List Unkept) → IsPermutation places others → IsAccounted image head committed places gone never → IsAccounted image head committed others gone never
accounted_permuted image head committed places others gone never moved a = record {
  apart = apart_permutation places others moved a.apart;
  below = All-permutation (λ p. p.addr < length image.recorded) places others moved a.below;
  recorded = All-permutation (λ p. slice_get image.readable p.addr ≡ slice_get image.recorded p.addr) places others moved a.recorded;
  accounts = accounts_permuted head (length image.recorded) committed places others gone never moved a.accounts;
}

-- ---- places leave

-- committed places leave
accounted_gone : (image : Image) (head : ℕ) (committed left rest : List Place) (gone : List ℕ) (never : List Unkept) → All (Contains committed) left → IsAccounted image head committed (left ++ rest) gone never →
    IsAccounted image head committed rest (gone ++ map (λ (p : Place). p.addr) left) never
accounted_gone image head committed left rest gone never were a = record {
  apart = apart_right left rest a.apart;
  below = all_right (λ p. p.addr < length image.recorded) left rest a.below;
  recorded = all_right (λ p. slice_get image.readable p.addr ≡ slice_get image.recorded p.addr) left rest a.recorded;
  accounts = accounts_gone head (length image.recorded) committed left rest gone never a.apart were a.accounts;
}

-- the data record of a block, or none
abbrev pub IsLet : ℕ → Option ℕ → List Place → Type 0
IsLet block None left = left ≡ []
IsLet block (Some addr) left = (p : Place) × (left ≡ p ∷ []) × (p.addr ≡ addr) × (p.trace ≡ DataOf block)

accounted_let : (image : Image) (head block : ℕ) (committed left rest : List Place) (gone more : List ℕ) (never most : List Unkept) (replaced : Option ℕ) → All (λ q. q.addr < head) committed → IsLet block replaced left → LetsGo head block replaced gone more never most →
    IsAccounted image head committed (left ++ rest) gone never → IsAccounted image head committed rest more most
accounted_let image head block committed left rest gone more never most None within is goes a =
    let all = subst (λ ps. IsAccounted image head committed (ps ++ rest) gone never) is a in
    subst (λ ns. IsAccounted image head committed rest more ns) (sym goes.1) (subst (λ ns. IsAccounted image head committed rest ns never) (sym goes.0) all)
accounted_let image head block committed left rest gone more never most (Some addr) within (p, is, at, data_is) goes a =
    let all = subst (λ ps. IsAccounted image head committed (ps ++ rest) gone never) is a in
    elim (cases_lt addr head) [
      | inl low ↦ (
          let went = goes.0 low in
          let was : Contains committed p = committed_one low (All-head (λ q. Contains committed q ⊎ IsOwn head q) p rest all.accounts.kept) in
          let after = accounted_gone image head committed (p ∷ []) rest gone never (All-cons (Contains committed) p [] was (All-nil (Contains committed))) all in
          subst (λ ns. IsAccounted image head committed rest more ns) (sym went.1) (subst (λ ns. IsAccounted image head committed rest ns never) (ap (λ n. gone ++ n ∷ []) at ∙ sym went.0) after))
      | inr high ↦ (
          let went = goes.1 high in
          let after = accounts_never head (length image.recorded) block committed rest p gone never all.apart within (omega (arith, high, at)) (All-head (λ q. q.addr < length image.recorded) p rest all.below) all.accounts in
          let right : IsAccounted image head committed rest gone (never ++ record { block = block; addr = p.addr } ∷ []) = record {
            apart = apart_right (p ∷ []) rest all.apart;
            below = all_right (λ p. p.addr < length image.recorded) (p ∷ []) rest all.below;
            recorded = all_right (λ p. slice_get image.readable p.addr ≡ slice_get image.recorded p.addr) (p ∷ []) rest all.recorded;
            accounts = after;
          } in
          subst (λ ns. IsAccounted image head committed rest ns most) (sym went.0) (subst (λ ns. IsAccounted image head committed rest gone ns) (ap (λ n. never ++ record { block = block; addr = n } ∷ []) at ∙ sym went.1) right))
    ]
  where
    committed_one : addr < head → Contains committed p ⊎ IsOwn head p → Contains committed p
    committed_one low (inl has) = has
    committed_one low (inr own) = absurd (let after = own.after in omega (arith, low, after, at))

-- ---- a data record comes

accounted_come : (image later : Image) (head block addr : ℕ) (key content : List ℕ) (committed places : List Place) (gone : List ℕ) (never : List Unkept) → All (λ q. q.addr < head) committed → head ≤ length image.recorded → Arrives image later block addr key content →
    IsAccounted image head committed places gone never → IsAccounted later head committed (data_place block addr key ∷ places) gone never
accounted_come image later head block addr key content committed places gone never within more arrives a =
    let p = data_place block addr key in
    let old = accounted_later image later head committed places gone never arrives.earlier a in
    record {
      apart = AllPairs-cons AreApart p places (All-weaker (λ q. q.addr < length image.recorded) (AreApart p) (λ q less same. absurd (omega (arith, less, same, arrives.new))) places a.below) a.apart;
      below = All-cons (λ q. q.addr < length later.recorded) p places (omega (arith, arrives.new, arrives.one)) old.below;
      recorded = All-cons (λ q. slice_get later.readable q.addr ≡ slice_get later.recorded q.addr) p places arrives.same old.recorded;
      accounts = subst (λ n. Accounts head n committed (p ∷ places) gone never) (sym arrives.one) (accounts_come head (length image.recorded) block committed places p gone never within more arrives.new refl a.accounts);
    }

-- ---- what an update leaves

-- of a tree's places an update opens some and takes a block's data record; these stay, before the block and behind it
record Leaves (pages : List (List ℕ)) (order top block : ℕ) (places front mid back : List Stub) (replaced : Option ℕ) (each : List Parts) : Type 0 where
  nodes : List Place
  let_go : List Place
  before : List Parts
  here : List Parts
  behind : List Parts
  has_before : HaveParts pages order top front before
  has_here : HaveParts pages order top mid here
  has_behind : HaveParts pages order top back behind
  addrs : map (λ (p : Place). p.addr) nodes ≡ map (λ (s : Stub). s.addr) places
  inner : All IsInner nodes
  is_let : IsLet block replaced let_go
  mapped : (joined each).mapped ≡ (joined before).mapped ++ ((joined here).mapped ++ (joined behind).mapped)
  opened : IsPermutation (nodes ++ (let_go ++ ((joined before).places ++ (joined behind).places))) (joined each).places

let_none : (pages : List (List ℕ)) (order top : ℕ) (ps : List Parts) → HaveParts pages order top [] ps → (joined ps).places ≡ []
let_none pages order top [] h = refl
let_none pages order top (p ∷ ps) h = absurd h

let_one : (pages : List (List ℕ)) (order top block addr : ℕ) (key : List ℕ) (ps : List Parts) → HaveParts pages order top (datum block addr key ∷ []) ps → IsLet block (Some addr) (joined ps).places
unfolding Subtree
let_one pages order top block addr key [] h = absurd h
let_one pages order top block addr key (p ∷ q ∷ ps) h = absurd h.1
let_one pages order top block addr key (p ∷ []) h = (data_place block addr key, append-nil p.places ∙ ap (λ (q : Parts). q.places) h.0.has, refl, refl)

let_of : (pages : List (List ℕ)) (order top block : ℕ) (mid : List Stub) (replaced : Option ℕ) (ps : List Parts) → IsPlaceOf block replaced mid → HaveParts pages order top mid ps → IsLet block replaced (joined ps).places
let_of pages order top block mid None ps is h = let_none pages order top ps (subst (λ ss. HaveParts pages order top ss ps) is h)
let_of pages order top block mid (Some addr) ps (key, is) h = let_one pages order top block addr key ps (subst (λ ss. HaveParts pages order top ss ps) is h)

leaves : (pages : List (List ℕ)) (order top block : ℕ) (places opened front mid back : List Stub) (replaced : Option ℕ) (each : List Parts) → OpensParts pages order top places opened each → opened ≡ front ++ (mid ++ back) →
    IsPlaceOf block replaced mid → Leaves pages order top block places front mid back replaced each
leaves pages order top block places opened front mid back replaced each o was is =
    let a = parts_split pages order top front (mid ++ back) o.after (subst (λ ss. HaveParts pages order top ss o.after) was o.has) in
    let b = parts_split pages order top mid back a.right a.on_right in
    let whole : o.after ≡ a.left ++ (b.left ++ b.right) = a.is ∙ ap (λ ps. a.left ++ ps) b.is in
    let all : (joined o.after).places ≡ (joined a.left).places ++ ((joined b.left).places ++ (joined b.right).places) = ap (λ ps. (joined ps).places) whole ∙ places_between a.left b.left b.right in
    let stay = (joined b.left).places ++ ((joined a.left).places ++ (joined b.right).places) in
    let forward = subst (IsPermutation stay) (sym all) (past (joined b.left).places (joined a.left).places (joined b.right).places) in
    record {
      nodes = o.nodes;
      let_go = (joined b.left).places;
      before = a.left;
      here = b.left;
      behind = b.right;
      has_before = a.on_left;
      has_here = b.on_left;
      has_behind = b.on_right;
      addrs = o.addrs;
      inner = o.inner;
      is_let = let_of pages order top block mid replaced b.left is b.on_left;
      mapped = o.mapped ∙ ap (λ ps. (joined ps).mapped) whole ∙ mapped_between a.left b.left b.right;
      opened = IsPermutation-trans (o.nodes ++ stay) (o.nodes ++ (joined o.after).places) (joined each).places (IsPermutation-append_right o.nodes stay (joined o.after).places forward) o.same;
    }

-- what stays is accounted for
stays : (image : Image) (head top order block : ℕ) (committed : List Place) (places front mid back : List Stub) (replaced : Option ℕ) (each : List Parts) (gone more : List ℕ) (never most : List Unkept) → All (λ q. q.addr < head) committed →
    (l : Leaves image.readable order top block places front mid back replaced each) → LetsGo head block replaced (gone ++ map (λ (s : Stub). s.addr) places) more never most → IsAccounted image head committed (joined each).places gone never →
    IsAccounted image head committed ((joined l.before).places ++ (joined l.behind).places) more most
stays image head top order block committed places front mid back replaced each gone more never most within l goes a =
    let rest = (joined l.before).places ++ (joined l.behind).places in
    let whole = l.nodes ++ (l.let_go ++ rest) in
    let first = accounted_permuted image head committed (joined each).places whole gone never (IsPermutation-sym whole (joined each).places l.opened) a in
    let were = inner_committed head (length image.recorded) committed l.nodes (l.let_go ++ rest) gone never first.accounts l.inner in
    let second = accounted_gone image head committed l.nodes (l.let_go ++ rest) gone never were first in
    let third = subst (λ ns. IsAccounted image head committed (l.let_go ++ rest) (gone ++ ns) never) l.addrs second in
    accounted_let image head block committed l.let_go rest (gone ++ map (λ (s : Stub). s.addr) places) more never most replaced within l.is_let goes third

-- the blocks below places within bounds
in_parts : (pages : List (List ℕ)) (order top low high : ℕ) (ss : List Stub) (ps : List Parts) → Tiles low high ss → AllByRecursion (λ s. s.level < top) ss → HaveParts pages order top ss ps → AllByRecursion (λ (m : Mapped). (low ≤ m.block) × (m.block < high)) (joined ps).mapped
in_parts pages order top low high ss ps tiles under h = in_maps pages order low high ss (joined ps).mapped tiles (record { each = ps; has = parts_each pages order top ss ps under h; is = refl })

-- ---- the two updates

-- what an update of a block finds
record Finds (image : Image) (root : Root) (committed : List Place) (old : Grove) (each : List Parts) (block : ℕ) (places front mid back : List Stub) (replaced : Option ℕ) : Type 0 where
  leaves_are : Leaves image.readable old.order old.level block places front mid back replaced each
  under : AllByRecursion (λ s. s.level < old.level) (front ++ (mid ++ back))

finds : (image : Image) (root : Root) (committed : List Place) (old : Grove) (each : List Parts) (block : ℕ) (places opened front mid back : List Stub) (replaced : Option ℕ) → HoldsTree image root committed old each → block < old.blocks →
    Opens image.readable old.order places (places_of old) opened → IsOpen block opened → IsAddressOf block opened replaced → opened ≡ front ++ (mid ++ back) → Tiles 0 block front → Tiles block (suc block) mid → Tiles (suc block) old.blocks back →
    Finds image root committed old each block places front mid back replaced
finds image root committed old each block places opened front mid back replaced h to opens open_ at was before here after =
    let under = under_root old.level old.blocks (places_of old) (places_below old h.sound) in
    let low = each_weaker (IsUnder old.level old.blocks) (λ (s : Stub). s.level ≤ old.level) (λ s i. i.0) (places_of old) under in
    let o = opens_parts image.readable old.order old.level places (places_of old) opened each opens low h.has in
    let stays_under = opens_all (IsUnder old.level old.blocks) (λ s t i less. (omega (arith, i.0, less), λ e. absurd (omega (arith, i.0, less, e)))) image.readable old.order places (places_of old) opened opens under in
    let below = open_below old.level old.blocks block opened h.sound.one to stays_under open_ in
    record {
      leaves_are = leaves image.readable old.order old.level block places opened front mid back replaced each o was (mid_at 0 old.blocks block opened front mid back replaced was before here after at);
      under = subst (AllByRecursion (λ s. s.level < old.level)) was below;
    }

-- these parts stand below the places of a tree after an update, at its new level
moved_level : (pages : List (List ℕ)) (order top new_order new_top : ℕ) (ss : List Stub) (ps : List Parts) → new_order ≡ order → AllByRecursion (λ s. s.level < top) ss → AllByRecursion (λ s. s.level < new_top) ss → HaveParts pages order top ss ps → HaveParts pages new_order new_top ss ps
moved_level pages order top new_order new_top ss ps same low new_low h = subst (λ n. HaveParts pages n new_top ss ps) (sym same) (parts_from pages order new_top ss ps new_low (parts_each pages order top ss ps low h))

-- an insertion: the tree has the block's record in the place of the one that was there, and it keeps account of what it let go of
pub insert_holds : (image later : Image) (root : Root) (committed : List Place) (old new : Grove) (each : List Parts) (block addr : ℕ) (key content : List ℕ) (May : Stub → Type 0) → HoldsTree image root committed old each →
    IsSameSize old new → block < old.blocks → root.head ≤ length image.recorded →
    Turns image.readable block May (λ opened. Puts 0 old.blocks (datum block addr key) opened (places_of new)) old new →
    Arrives image later block addr key content →
    (after : List Parts) × HoldsTree later root committed new after × MapPuts (record { block = block; addr = addr; key = key; content = content }) (joined each).mapped (joined after).mapped
unfolding Subtree
insert_holds image later root committed old new each block addr key content May h size to more g arrives =
    let p = g.makes in
    let f = finds image root committed old each block g.places g.opened p.front p.mid p.back g.replaced h to g.opens g.is_open g.was p.was p.before p.here p.after in
    let l = f.leaves_are in
    let goes = subst (λ n. LetsGo n block g.replaced (old.gone.items ++ map (λ (s : Stub). s.addr) g.places) new.gone.items old.never.items new.never.items) h.head g.goes in
    let rest = stays image root.head old.level old.order block committed g.places p.front p.mid p.back g.replaced each old.gone.items new.gone.items old.never.items new.never.items h.within l goes h.accounted in
    let Front = (joined l.before).places in
    let Back = (joined l.behind).places in
    let come = accounted_come image later root.head block addr key content committed (Front ++ Back) new.gone.items new.never.items h.within more arrives rest in
    let d = data_parts addr key block content in
    let after = l.before ++ (d ∷ l.behind) in
    let order_of : IsPermutation (data_place block addr key ∷ (Front ++ Back)) (joined after).places =
    subst (IsPermutation (data_place block addr key ∷ (Front ++ Back))) (sym (places_between l.before (d ∷ []) l.behind)) (past (data_place block addr key ∷ []) Front Back) in
    let n = length image.recorded in
    let has_front = parts_later image.readable later.readable old.order old.level n p.front l.before arrives.earlier.readable (all_left (λ q. q.addr < n) Front Back rest.below) l.has_before in
    let has_back = parts_later image.readable later.readable old.order old.level n p.back l.behind arrives.earlier.readable (all_right (λ q. q.addr < n) Front Back rest.below) l.has_behind in
    let has_all = parts_append later.readable old.order old.level p.front (datum block addr key ∷ p.back) l.before (d ∷ l.behind) has_front (record { content = content; fits = (arrives.there, (refl, refl)); has = refl }, has_back) in
    let under_front = each_left (λ (s : Stub). s.level < old.level) p.front (p.mid ++ p.back) f.under in
    let under_mid = each_left (λ (s : Stub). s.level < old.level) p.mid p.back (each_right (λ (s : Stub). s.level < old.level) p.front (p.mid ++ p.back) f.under) in
    let under_back = each_right (λ (s : Stub). s.level < old.level) p.mid p.back (each_right (λ (s : Stub). s.level < old.level) p.front (p.mid ++ p.back) f.under) in
    let under = subst (AllByRecursion (λ s. s.level < old.level)) (sym p.now) (each_append (λ (s : Stub). s.level < old.level) p.front (datum block addr key ∷ p.back) under_front (omega (arith, h.sound.one), under_back)) in
    let new_under = puts_no_root new.level old.blocks block addr key g.opened (places_of new) size.sound.one p (subst (λ n. AreBelowRoot new.level n (places_of new)) size.blocks (places_below new size.sound)) in (
      after,
      record {
        sound = size.sound;
        order = size.order ∙ h.order;
        blocks = size.blocks ∙ h.blocks;
        head = size.head ∙ h.head;
        within = h.within;
        has = moved_level later.readable old.order old.level new.order new.level (places_of new) after size.order under new_under (subst (λ ss. HaveParts later.readable old.order old.level ss after) (sym p.now) has_all);
        accounted = accounted_permuted later root.head committed (data_place block addr key ∷ (Front ++ Back)) (joined after).places new.gone.items new.never.items order_of come;
      },
      record {
        front = (joined l.before).mapped;
        mid = (joined l.here).mapped;
        back = (joined l.behind).mapped;
        was = l.mapped;
        now = mapped_between l.before (d ∷ []) l.behind;
        before = each_weaker (λ (m : Mapped). (0 ≤ m.block) × (m.block < block)) (λ (m : Mapped). m.block < block) (λ m i. i.1) (joined l.before).mapped (in_parts image.readable old.order old.level 0 block p.front l.before p.before under_front l.has_before);
        here = each_weaker (λ (m : Mapped). (block ≤ m.block) × (m.block < suc block)) (λ (m : Mapped). m.block ≡ block) (λ m i. omega (arith, i.0, i.1)) (joined l.here).mapped (in_parts image.readable old.order old.level block (suc block) p.mid l.here p.here under_mid l.has_here);
        after = each_weaker (λ (m : Mapped). (suc block ≤ m.block) × (m.block < old.blocks)) (λ (m : Mapped). block < m.block) (λ m i. omega (arith, i.0)) (joined l.behind).mapped (in_parts image.readable old.order old.level (suc block) old.blocks p.back l.behind p.after under_back l.has_behind);
      },
    )

-- a removal: the tree is without the block's record, and it keeps account of what it let go of
pub remove_holds : (image : Image) (root : Root) (committed : List Place) (old new : Grove) (each : List Parts) (block : ℕ) (May : Stub → Type 0) → HoldsTree image root committed old each →
    IsSameSize old new → block < old.blocks →
    Turns image.readable block May (λ opened. Takes 0 old.blocks block opened (places_of new)) old new →
    (after : List Parts) × HoldsTree image root committed new after × MapTakes block (joined each).mapped (joined after).mapped
remove_holds image root committed old new each block May h size to g =
    let p = g.makes in
    let f = finds image root committed old each block g.places g.opened p.front p.mid p.back g.replaced h to g.opens g.is_open g.was p.was p.before p.here p.after in
    let l = f.leaves_are in
    let goes = subst (λ n. LetsGo n block g.replaced (old.gone.items ++ map (λ (s : Stub). s.addr) g.places) new.gone.items old.never.items new.never.items) h.head g.goes in
    let rest = stays image root.head old.level old.order block committed g.places p.front p.mid p.back g.replaced each old.gone.items new.gone.items old.never.items new.never.items h.within l goes h.accounted in
    let under_front = each_left (λ (s : Stub). s.level < old.level) p.front (p.mid ++ p.back) f.under in
    let under_mid = each_left (λ (s : Stub). s.level < old.level) p.mid p.back (each_right (λ (s : Stub). s.level < old.level) p.front (p.mid ++ p.back) f.under) in
    let under_back = each_right (λ (s : Stub). s.level < old.level) p.mid p.back (each_right (λ (s : Stub). s.level < old.level) p.front (p.mid ++ p.back) f.under) in
    let under = subst (AllByRecursion (λ s. s.level < old.level)) (sym p.now) (each_append (λ (s : Stub). s.level < old.level) p.front p.back under_front under_back) in
    let new_under = takes_no_root new.level old.blocks block g.opened (places_of new) to p (subst (λ n. AreBelowRoot new.level n (places_of new)) size.blocks (places_below new size.sound)) in
    let has_all = parts_append image.readable old.order old.level p.front p.back l.before l.behind l.has_before l.has_behind in (
      l.before ++ l.behind,
      record {
        sound = size.sound;
        order = size.order ∙ h.order;
        blocks = size.blocks ∙ h.blocks;
        head = size.head ∙ h.head;
        within = h.within;
        has = moved_level image.readable old.order old.level new.order new.level (places_of new) (l.before ++ l.behind) size.order under new_under (subst (λ ss. HaveParts image.readable old.order old.level ss (l.before ++ l.behind)) (sym p.now) has_all);
        accounted = subst (λ ps. IsAccounted image root.head committed ps new.gone.items new.never.items) (sym (joined_places l.before l.behind)) rest;
      },
      record {
        front = (joined l.before).mapped;
        mid = (joined l.here).mapped;
        back = (joined l.behind).mapped;
        was = l.mapped;
        now = joined_mapped l.before l.behind;
        before = each_weaker (λ (m : Mapped). (0 ≤ m.block) × (m.block < block)) (λ (m : Mapped). m.block < block) (λ m i. i.1) (joined l.before).mapped (in_parts image.readable old.order old.level 0 block p.front l.before p.before under_front l.has_before);
        here = each_weaker (λ (m : Mapped). (block ≤ m.block) × (m.block < suc block)) (λ (m : Mapped). m.block ≡ block) (λ m i. omega (arith, i.0, i.1)) (joined l.here).mapped (in_parts image.readable old.order old.level block (suc block) p.mid l.here p.here under_mid l.has_here);
        after = each_weaker (λ (m : Mapped). (suc block ≤ m.block) × (m.block < old.blocks)) (λ (m : Mapped). block < m.block) (λ m i. omega (arith, i.0)) (joined l.behind).mapped (in_parts image.readable old.order old.level (suc block) old.blocks p.back l.behind p.after under_back l.has_behind);
      },
    )
