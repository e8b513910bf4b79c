-- What stays among the first nodes of a cache while nodes are read.
use Rattle.std.specs.Prelude.{OnOk}
use Rattle.std.proofs.Common.{◌≡◌, ◌≢◌, ℕ, zero, suc, ◌+◌, ◌-◌, ◌<◌, ◌≤◌, ◌^◌, List, [], ◌∷◌, Option, Result, Contains, take, refl, sym, ap, subst, inl, inr, ◌∙◌, arith}
use Rattle.std.proofs.lemmas.Bool.Decides.{eqb_tells}
use Rattle.std.proofs.lemmas.List.Elements.{All-contains}
use Rattle.platform.specs.declared.platforms.Platform.{Ghosts}
use Rattle.node_codec.specs.declared.body.Entry.{Entry}
use Rattle.node_codec.specs.declared.body.NodeBody.{NodeBody}
use Rattle.node_codec.specs.Record.{Record, NodeRecord}
use Rattle.page_store.specs.declared.wants.Want.{Want}
use Rattle.page_store.specs.Places.{FitsAt}
use Rattle.page_store.specs.Tree.{Place}
use Rattle.page_store.proofs.RecordLaws.{one_record}
use Rattle.node_cache.specs.declared.slots.CachedNode.{CachedNode}
use Rattle.node_cache.specs.Cached.{Cached, cached_node, without}
use Rattle.btree_walk.specs.Sights.{CachedFits, IsOfPage, StandsOver}
use Rattle.btree_walk.specs.Among.{IsAmong}
use Rattle.btree_walk.specs.Finds.{Finds, MakesFirst}
use Rattle.btree_walk.proofs.Elements.{Contains-head, Contains-tail, Contains-cons, Contains-nil}
use Rattle.btree_walk.proofs.FindLaws.{NamesBelow, finds_map}
use Rattle.btree_walk.proofs.SightLaws.{in_range_of}
use Rattle.btree_walk.proofs.RecentLaws.{early_kept, first_made}
use Rattle.btree_twigs.specs.declared.twigs.Child.{Child, Child-F, out-Child}
use Rattle.btree_twigs.specs.declared.twigs.Child.TheOpen.{Kept, Grown}
use Rattle.btree_twigs.specs.declared.twigs.Twig.{Twig}
use Rattle.btree_twigs.specs.declared.twigs.Spot.{Spot}
use Rattle.btree_twigs.specs.declared.twigs.Spot.TheVariants.{Found, Absent, Below}
use Rattle.btree_twigs.specs.Stubs.{Stub, children_of}
use Rattle.btree_update.specs.Reading.{all_kept}
use Rattle.btree_update.specs.Holding.{IsNodeFor, IsNodeOf}
use Rattle.btree_update.specs.Finding.{FindsFrom, FindsAmong, ChildFindsBy, ChildFinds}
use Rattle.btree_update.specs.Warm.{HaveOneKey, StayEarly, OnceDone, FitsAmong}
use Rattle.btree_update.proofs.WrongLaws.{read_fits}

-- ---- one node after another

pub later : (few more : ℕ) (ks : List CachedNode) (j : CachedNode) → few ≤ more → Contains (take few ks) j → Contains (take more ks) j
later zero more ks j le in' = absurd (Contains-nil j in')
later (suc few) zero ks j le in' = absurd (omega (arith, le))
later (suc few) (suc more) [] j le in' = absurd (Contains-nil j in')
later (suc few) (suc more) (k ∷ ks) j le in' = elim (Contains-cons k (take few ks) j in') [
  | inl here ↦ subst (Contains (k ∷ take more ks)) here (Contains-head k (take more ks))
  | inr behind ↦ Contains-tail k (take more ks) j (later few more ks j (omega (arith, le)) behind)
]

-- the others stay where an address is taken out
others_stay : (addr few : ℕ) (j : CachedNode) (ks : List CachedNode) → j.addr ≢ addr → Contains (take few ks) j → Contains (take few (without addr ks)) j
others_stay addr zero j ks other in' = absurd (Contains-nil j in')
others_stay addr (suc few) j [] other in' = absurd (Contains-nil j in')
others_stay addr (suc few) j (k ∷ ks) other in' = elim (eqb_tells k.addr addr) [
  | inl same ↦ rw same.0 (elim (Contains-cons k (take few ks) j in') [
    | inl here ↦ absurd (other (ap (λ (i : CachedNode). i.addr) (sym here) ∙ same.1))
    | inr behind ↦ later few (suc few) (without addr ks) j (omega arith) (others_stay addr few j ks other behind)
  ])
  | inr differs ↦ rw differs.0 (elim (Contains-cons k (take few ks) j in') [
    | inl here ↦ subst (Contains (k ∷ take few (without addr ks))) here (Contains-head k (take few (without addr ks)))
    | inr behind ↦ Contains-tail k (take few (without addr ks)) j (others_stay addr few j ks other behind)
  ])
]

take_less : (n m : ℕ) (ks : List CachedNode) → n ≤ m → take n (take m ks) ≡ take n ks
take_less zero m ks le = refl
take_less (suc n) zero ks le = absurd (omega (arith, le))
take_less (suc n) (suc m) [] le = refl
take_less (suc n) (suc m) (k ∷ ks) le = ap (λ r. k ∷ r) (take_less n m ks (omega (arith, le)))

other_stays : (k j : CachedNode) (old new : Cached) (few : ℕ) → MakesFirst k old new → j.addr ≢ k.addr → suc few ≤ old.capacity → Contains (take few old.nodes) j → Contains (take (suc few) new.nodes) j
other_stays k j old new few (inl same) other room in' =
    subst (λ (c : Cached). Contains (take (suc few) c.nodes) j) (sym same) (Contains-tail k (take few (without k.addr old.nodes)) j (others_stay k.addr few j old.nodes other in'))
other_stays k j old new few (inr same) other room in' =
    subst (λ (c : Cached). Contains (take (suc few) c.nodes) j) (sym same)
    (subst (λ ks. Contains ks j) (sym (take_less (suc few) old.capacity (k ∷ without k.addr old.nodes) room)) (Contains-tail k (take few (without k.addr old.nodes)) j (others_stay k.addr few j old.nodes other in')))

-- a page has one node under one key
one_node : (pages : List (List ℕ)) (j k : CachedNode) → k.addr < 2 ^ 64 → j.addr ≡ k.addr → j.key ≡ k.key → IsOfPage pages j → IsOfPage pages k → k ≡ j
one_node pages j k small addr key is is' =
    let moved = subst (λ (a : ℕ). IsOfPage pages (record { addr = a; key = j.key; node = j.node })) addr is in
    let there = subst (λ (x : List ℕ). IsOfPage pages (record { addr = k.addr; key = x; node = j.node })) key moved in
    let same : NodeRecord k.node.level k.node.entries.items ≡ NodeRecord j.node.level j.node.entries.items = one_record pages k.addr k.key _ _ small is'.is there.is in
    let level : k.node.level ≡ j.node.level = cc in
    let items : k.node.entries.items ≡ j.node.entries.items = cc in
    let version : k.node.version ≡ j.node.version = is'.version ∙ sym there.version in
    let one : k ≡ j = (λ i. record { addr = sym addr i; key = sym key i; node = record { level = level i; version = version i; entries = record { items = items i } } }) in
    one

-- where a node of such places is read, they stay behind it
pub stay_read : (pages : List (List ℕ)) (places : List Place) (k : CachedNode) (old new : Cached) → k.addr < 2 ^ 64 → HaveOneKey places → IsAmong places k.addr k.key → StandsOver pages new → MakesFirst k old new → StayEarly pages places 1 old new
stay_read pages places k old new small one here stands made few j among page room in' =
    let sum : suc few ≡ few + 1 = omega arith in
    elim (eqb_tells j.addr k.addr) [
      | inl same ↦
          (let first = first_made k old new made (omega (arith, room)) in
          let of = All-contains (IsOfPage pages) new.nodes k stands (early_kept 1 new.nodes k first) in
          let key = one k.addr j.key k.key (subst (λ a. IsAmong places a j.key) same.1 among) here in
          later 1 (few + 1) new.nodes j (omega arith) (subst (Contains (take 1 new.nodes)) (one_node pages j k small same.1 key page of) first))
      | inr other ↦ subst (λ n. Contains (take n new.nodes) j) sum (other_stays k j old new few made other.1 (omega (arith, room)) in')
    ]

-- and where nothing is
pub stay_same : (pages : List (List ℕ)) (places : List Place) (more : ℕ) (cache : Cached) → StayEarly pages places more cache cache
stay_same pages places more cache few j among page room in' = later few (few + more) cache.nodes j (omega arith) in'

-- one call after another
pub stay_then : (pages : List (List ℕ)) (places : List Place) (one two all : ℕ) (old mid new : Cached) → one + two ≤ all → mid.capacity ≡ old.capacity → StayEarly pages places one old mid → StayEarly pages places two mid new → StayEarly pages places all old new
stay_then pages places one two all old mid new few_is same first second few j among page room in' =
    later (few + one + two) (few + all) new.nodes j (omega (arith, few_is)) (second (few + one) j among page (omega (arith, few_is, same, room)) (first few j among page (omega (arith, few_is, room)) in'))

-- ---- what is found on the way, while it stays

finds_each : (Fits Fits' : Want → List ℕ → Record → Type 0) (order block : ℕ) → NamesBelow Fits → ((want : Want) (key : List ℕ) (value : Record) → Fits want key value → Fits' want key value) → (found : Option Entry) (level : ℕ) (want : Want) (key path : List ℕ) →
    Finds Fits order block found level want key path → Finds Fits' order block found level want key path
finds_each Fits Fits' order block below each found level want key path is = finds_map Fits Fits' order block (suc want.addr) below (λ w k v lt f. each w k v f) found level want key path (omega arith) is

module _ (Fits Fits' : Want → List ℕ → Record → Type 0) (order block : ℕ) (below : NamesBelow Fits) (each : (want : Want) (key : List ℕ) (value : Record) → Fits want key value → Fits' want key value) where
  from_each : (spot : Spot) (found : Option Entry) → FindsFrom Fits order block spot found → FindsFrom Fits' order block spot found
  from_each (Found addr key) found f = f
  from_each Absent found f = f
  from_each (Below level low high addr key) found f = (f.0, finds_each Fits Fits' order block below each found (level - 1) _ key f.0 f.1)

  pub among_each : (ss : List Stub) (found : Option Entry) → FindsAmong Fits order block ss found → FindsAmong Fits' order block ss found
  among_each ss found f = record { spot = f.spot; is = f.is; finds = from_each f.spot found f.finds }

  child_by : (least level high : ℕ) (x : Child-F Child Twig) (found : Option Entry) → ChildFindsBy Fits order least block level high x found → ChildFindsBy Fits' order least block level high x found
  child_by least level high (Kept low addr key) found f = (f.0, finds_each Fits Fits' order block below each found (suc level - 1) _ key f.0 f.1)
  child_by least level high (Grown low twig) found f = among_each _ found f

  pub child_each : (least level high : ℕ) (c : Child) (found : Option Entry) → ChildFinds Fits order least block level high c found → ChildFinds Fits' order least block level high c found
  child_each least level high c found f = child_by least level high (out-Child c) found f

pub names_below : (places : List Place) (kept : List CachedNode) → NamesBelow (FitsAmong places kept)
names_below places kept want key level es f = (in_range_of kept want key level es f.0).below

-- a node that fits stays
pub fits_stays : (pages : List (List ℕ)) (places : List Place) (few more all : ℕ) (old new : Cached) → StandsOver pages old → StayEarly pages places more old new → few + more ≤ all → all ≤ old.capacity → (want : Want) (key : List ℕ) (value : Record) →
    FitsAmong places (take few old.nodes) want key value → FitsAmong places (take all new.nodes) want key value
fits_stays pages places few more all old new stands stay few_is room want key value f =
    let k = cached_node want.addr key f.0.node in
    let page = All-contains (IsOfPage pages) old.nodes k stands (early_kept few old.nodes k f.0.here) in
    let here = later (few + more) all new.nodes k few_is (stay few k f.1 page (omega (arith, few_is, room)) f.0.here) in
    (record { node = f.0.node; here = here; fits = f.0.fits; is = f.0.is }, f.1)

pub fits_later : (places : List Place) (few all : ℕ) (kept : List CachedNode) → few ≤ all → (want : Want) (key : List ℕ) (value : Record) → FitsAmong places (take few kept) want key value → FitsAmong places (take all kept) want key value
fits_later places few all kept le want key value f =
    (record { node = f.0.node; here = later few all kept (cached_node want.addr key f.0.node) le f.0.here; fits = f.0.fits; is = f.0.is }, f.1)

pub fits_kept : (places : List Place) (few : ℕ) (kept : List CachedNode) (want : Want) (key : List ℕ) (value : Record) → FitsAmong places (take few kept) want key value → CachedFits kept want key value
fits_kept places few kept want key value f = record { node = f.0.node; here = early_kept few kept (cached_node want.addr key f.0.node) f.0.here; fits = f.0.fits; is = f.0.is }

-- a node that was read and is cached fits
pub read_cached : (pages : List (List ℕ)) (kept : List CachedNode) (level low high addr least order : ℕ) (key : List ℕ) (twig : Twig) (node : NodeBody) → addr < 2 ^ 64 →
    IsNodeFor (record { addr = addr; level = suc level; low = low; high = high; least = least; most = order }) key twig → IsNodeOf pages (record { addr = addr; level = suc level; low = low; high = high; least = least; most = order }) key twig →
    IsOfPage pages (cached_node addr key node) → Contains kept (cached_node addr key node) →
    (entries : List Entry) × CachedFits kept (record { addr = addr; level = suc level; low = low; high = high; least = least; most = order }) key (NodeRecord (suc level) entries) × (children_of twig ≡ all_kept entries)
read_cached pages kept level low high addr least order key twig node small fits of page here =
    let want : Want = record { addr = addr; level = suc level; low = low; high = high; least = least; most = order } in
    let r = read_fits pages level low high addr least order key twig fits of in
    let same : NodeRecord (suc level) r.0 ≡ NodeRecord node.level node.entries.items = one_record pages addr key _ _ small r.1.0 page.is in
    let fits' = subst (FitsAt pages want key) same r.1 in
    (r.0, record { node = node; here = here; fits = record { version = page.version; in_range = fits'.0.in_range.0; wanted = fits'.1 }; is = same }, r.2)

-- ---- over the pages that were there first

pub once_on : {S T E : Type 0} (P : Ghosts S) (Those : List (List ℕ) → List Place → Type 0) (first second : S) (cache : Cached) (told : Result T E) (Is : List (List ℕ) → List Place → Type 0) → (P.tells → (P.history second).present ≡ (P.history first).present) →
    OnceDone P Those second cache told Is → OnceDone P Those first cache told Is
once_on P Those first second cache told Is same once = λ tells stands places such one.
    (let still : (P.history second).present.readable ≡ (P.history first).present.readable = ap (λ i. i.readable) (same tells) in
    subst (λ p. OnOk told (Is p places)) still (once tells (subst (λ p. StandsOver p cache) (sym still) stands) places (subst (λ p. Those p places) (sym still) such) one))
