-- Which keys sealed nodes hold, and that an image keeps its keys with theirs.
use Rattle.std.proofs.Common.{◌≡◌, ◌⊎◌, inl, inr, ℕ, zero, suc, ◌+◌, ◌-◌, ◌<◌, ◌≤◌, ◌^◌, List, [], ◌∷◌, ◌++◌, map, length, refl, sym, ap, subst, ◌∙◌, arith, append_assoc, append-nil, length-append}
use Rattle.std.specs.Prelude.{Option, Some, Contains, slice_get}
use Rattle.std.specs.List.{AllByRecursion}
use Rattle.std.proofs.lemmas.List.{map-append, length-map}
use Rattle.std.proofs.lemmas.List.Elements.{All-contains, All-map, All-from_recursion, Contains-append_left, Contains-append_right, Contains-push, Contains-push_cases, Contains-append_cases}
use Rattle.sdbt_base.specs.Keys.{bare, version_of}
use Rattle.platform.specs.Image.{Image, IsEither, all_synced}
use Rattle.platform.specs.History.{History, CellStays, image_at}
use Rattle.platform.proofs.Moments.{Extends-since, earlier-now}
use Rattle.seal_record.specs.Sealing.{masked, Opens}
use Rattle.seal_record.proofs.SealingLaws.{masked-masked}
use Rattle.node_codec.specs.declared.body.Entry.{Entry}
use Rattle.node_codec.specs.Record.{NodeRecord, FitsRecord, record_bytes}
use Rattle.node_codec.specs.Laws.{record_length}
use Rattle.key_graph.specs.Opening.{Yields}
use Rattle.key_graph.specs.OwnKeys.{HaveOwnKeys}
use Rattle.key_graph.proofs.OwnLaws.{own_more, own_first, own_page}
use Rattle.page_store.specs.Kept.{Kept}
use Rattle.page_store.specs.Keeping.{DrewAll, IsSealedRecord, HandedOver, Keeps, KeepsKeys}
use Rattle.page_store.proofs.RecordYields.{masked_bare, opens_record, node_yields}
use Rattle.page_store.proofs.KeptLaws.{kept_later}
use Rattle.btree_twigs.specs.declared.twigs.Child.{Child, Child-F, out-Child}
use Rattle.btree_twigs.specs.declared.twigs.Child.TheOpen.{Kept as KeptChild, Grown}
use Rattle.btree_twigs.specs.declared.twigs.Twig.{Twig}
use Rattle.btree_twigs.specs.Stubs.{Stub, start_by, stubs_by, stubs_in, datum_in, low_of, children_of, stubs}
use Rattle.shadow_commit.specs.Sealed.{Sealed, page_of, with_nodes, SealsEach, SealsNode, SealsDatum, SealsKept, SealsIn, Seals}
use Rattle.shadow_commit.specs.Handing.{KnowsPlaces, MayHave, StopsFrom}
use Rattle.shadow_commit.specs.NewTree.{Fits, AreFrom, AreInOrder, KeysAreFrom, keys_at, AreNodesOver}
use Rattle.shadow_commit.proofs.ApartLaws.{get_behind}

-- ---- keys of nodes

abbrev pub keys_in : List Sealed → List (List ℕ)
keys_in ns = map (λ (n : Sealed). bare n.key) ns

-- every key of these entries is listed
abbrev pub AreListed : List (List ℕ) → List Entry → Type 0
AreListed keys es = AllByRecursion (λ (e : Entry). Contains keys (bare e.key)) es

abbrev pub Within : List (List ℕ) → List (List ℕ) → Type 0
Within keys more = (key : List ℕ) → Contains keys key → Contains more key

pub listed_more : (keys more : List (List ℕ)) (es : List Entry) → Within keys more → AreListed keys es → AreListed more es
listed_more keys more [] f h = tt
listed_more keys more (e ∷ es) f h = (f (bare e.key) h.0, listed_more keys more es f h.1)

push_within : (keys more : List (List ℕ)) (key : List ℕ) → Within keys more → Within (keys ++ key ∷ []) (more ++ key ∷ [])
push_within keys more key f x c = go (Contains-push_cases keys key x c)
  where
    go : Contains keys x ⊎ (key ≡ x) → Contains (more ++ key ∷ []) x
    go (inl c) = Contains-append_left more (key ∷ []) x (f x c)
    go (inr is) = subst (Contains (more ++ key ∷ [])) is (Contains-push more key)

pub append_within : (a b c : List (List ℕ)) → Within a c → Within b c → Within (a ++ b) c
append_within a b c f g x h = go (Contains-append_cases a b x h)
  where
    go : Contains a x ⊎ Contains b x → Contains c x
    go (inl h) = f x h
    go (inr h) = g x h

pub keys_more : (keys more : List (List ℕ)) (ns : List Sealed) → Within keys more → KeysAreFrom keys ns → KeysAreFrom more ns
keys_more keys more [] f h = tt
keys_more keys more (n ∷ ns) f h = (listed_more keys more n.entries f h.0, keys_more (keys ++ bare n.key ∷ []) (more ++ bare n.key ∷ []) ns (push_within keys more (bare n.key) f) h.1)

pub keys_append : (keys : List (List ℕ)) (xs ys : List Sealed) → KeysAreFrom keys xs → KeysAreFrom (keys ++ keys_in xs) ys → KeysAreFrom keys (xs ++ ys)
keys_append keys [] ys h k = subst (λ ks. KeysAreFrom ks ys) (append-nil keys) k
keys_append keys (x ∷ xs) ys h k =
    let at : keys ++ (bare x.key ∷ keys_in xs) ≡ (keys ++ bare x.key ∷ []) ++ keys_in xs = sym (append_assoc keys (bare x.key ∷ []) (keys_in xs)) in
    (h.0, keys_append (keys ++ bare x.key ∷ []) xs ys h.1 (subst (λ ks. KeysAreFrom ks ys) at k))

-- ---- keys of places

pub in_places_left : (xs ys : List Stub) → Within (keys_at xs) (keys_at (xs ++ ys))
in_places_left xs ys x has = subst (λ ks. Contains ks x) (sym (map-append (λ (s : Stub). bare s.key) xs ys)) (Contains-append_left (keys_at xs) (keys_at ys) x has)

pub in_places_right : (xs ys : List Stub) → Within (keys_at ys) (keys_at (xs ++ ys))
in_places_right xs ys x has = subst (λ ks. Contains ks x) (sym (map-append (λ (s : Stub). bare s.key) xs ys)) (Contains-append_right (keys_at xs) (keys_at ys) x has)

-- ---- keys of what is sealed

-- the keys in nodes and in the entry that names the topmost
pub record KnowsChild (keys : List (List ℕ)) (ns : List Sealed) (e : Entry) : Type 0 where
  pub nodes : KeysAreFrom keys ns
  pub own : Contains (keys ++ keys_in ns) (bare e.key)

-- and in the entries that name children
pub record KnowsChildren (keys : List (List ℕ)) (ns : List Sealed) (es : List Entry) : Type 0 where
  pub nodes : KeysAreFrom keys ns
  pub own : AreListed (keys ++ keys_in ns) es

kept_known : (version : ℕ) (keys : List (List ℕ)) (low addr : ℕ) (key : List ℕ) (ns : List Sealed) (e : Entry) → Contains keys (bare key) → SealsKept version low addr key ns e → KnowsChild keys ns e
kept_known version keys low addr key ns e has h = record {
  nodes = subst (KeysAreFrom keys) (sym h.none) tt;
  own = Contains-append_left keys (keys_in ns) (bare e.key) (subst (Contains keys) (sym (ap (λ (e : Entry). bare e.key) h.entry_is)) has);
}

children_known : (version level : ℕ) → ((first high : ℕ) (c : Child) (ns : List Sealed) (e : Entry) → Seals version level first c ns e → KnowsChild (keys_at (stubs level high c)) ns e) →
    (first high : ℕ) (cs : List Child) (ns : List Sealed) (es : List Entry) → SealsEach (Seals version level) first cs ns es → KnowsChildren (keys_at (stubs_by low_of (stubs level) high cs)) ns es
children_known version level one first high [] ns es h = record {
  nodes = subst (KeysAreFrom []) (sym h.0) tt;
  own = subst (AreListed ([] ++ keys_in ns)) (sym h.1) tt;
}
children_known version level one first high (c ∷ cs) ns es h =
    let A = stubs level (start_by low_of cs high) c in
    let B = stubs_by low_of (stubs level) high cs in
    let kA = keys_at A in
    let kB = keys_at B in
    let here = one first (start_by low_of cs high) c h.here h.entry h.one in
    let rest = children_known version level one (first + length h.here) high cs h.rest h.others h.more in
    let both : keys_at (A ++ B) ≡ kA ++ kB = map-append (λ (s : Stub). bare s.key) A B in
    let all = (kA ++ kB) ++ keys_in (h.here ++ h.rest) in
    let in_nodes : keys_in (h.here ++ h.rest) ≡ keys_in h.here ++ keys_in h.rest = map-append (λ (n : Sealed). bare n.key) h.here h.rest in
    let a_in : Within kA all = λ x c. Contains-append_left (kA ++ kB) (keys_in (h.here ++ h.rest)) x (Contains-append_left kA kB x c) in
    let b_in : Within kB all = λ x c. Contains-append_left (kA ++ kB) (keys_in (h.here ++ h.rest)) x (Contains-append_right kA kB x c) in
    let here_in : Within (keys_in h.here) all = λ x c. Contains-append_right (kA ++ kB) (keys_in (h.here ++ h.rest)) x (subst (λ ks. Contains ks x) (sym in_nodes) (Contains-append_left (keys_in h.here) (keys_in h.rest) x c)) in
    let rest_in : Within (keys_in h.rest) all = λ x c. Contains-append_right (kA ++ kB) (keys_in (h.here ++ h.rest)) x (subst (λ ks. Contains ks x) (sym in_nodes) (Contains-append_right (keys_in h.here) (keys_in h.rest) x c)) in
    let nodes : KeysAreFrom (kA ++ kB) (h.here ++ h.rest) =
    keys_append (kA ++ kB) h.here h.rest (keys_more kA (kA ++ kB) h.here (λ x. Contains-append_left kA kB x) here.nodes)
    (keys_more kB ((kA ++ kB) ++ keys_in h.here) h.rest (λ x c. Contains-append_left (kA ++ kB) (keys_in h.here) x (Contains-append_right kA kB x c)) rest.nodes) in
    let own : AreListed all (h.entry ∷ h.others) = (
      append_within kA (keys_in h.here) all a_in here_in (bare h.entry.key) here.own,
      listed_more (kB ++ keys_in h.rest) all h.others (append_within kB (keys_in h.rest) all b_in rest_in) rest.own,
    ) in
    subst (λ ks. KnowsChildren ks ns es) (sym both) (record {
      nodes = subst (KeysAreFrom (kA ++ kB)) (sym h.nodes_are) nodes;
      own = subst (λ ms. AreListed ((kA ++ kB) ++ keys_in ms) es) (sym h.nodes_are) (subst (AreListed all) (sym h.entries_are) own);
    })

-- a node over children
node_known : (keys : List (List ℕ)) (below ns : List Sealed) (n : Sealed) (es : List Entry) → ns ≡ below ++ n ∷ [] → n.entries ≡ es → KnowsChildren keys below es → KeysAreFrom keys ns × Contains (keys ++ keys_in ns) (bare n.key)
node_known keys below ns n es is entries h = (
  subst (KeysAreFrom keys) (sym is) (keys_append keys below (n ∷ []) h.nodes (subst (AreListed (keys ++ keys_in below)) (sym entries) h.own, tt)),
  subst (λ ms. Contains (keys ++ keys_in ms) (bare n.key)) (sym is)
      (Contains-append_right keys (keys_in (below ++ n ∷ [])) (bare n.key) (subst (λ ks. Contains ks (bare n.key)) (sym (map-append (λ (n : Sealed). bare n.key) below (n ∷ []))) (Contains-push (keys_in below) (bare n.key)))),
)

pub child_known : (version level first high : ℕ) (c : Child) (ns : List Sealed) (e : Entry) → Seals version level first c ns e → KnowsChild (keys_at (stubs level high c)) ns e
unfolding Seals stubs
child_known version zero first high c ns e h = here (out-Child c) h
  where
    here : (x : Child-F Child Twig) → SealsDatum version x ns e → KnowsChild (keys_at (datum_in x)) ns e
    here (KeptChild low addr key) h = kept_known version (bare key ∷ []) low addr key ns e (Contains-push [] (bare key)) h
    here (Grown low twig) h = absurd h
child_known version (suc level) first high c ns e h = here (λ first high c ns e h. child_known version level first high c ns e h) (out-Child c) h
  where
    here : ((first high : ℕ) (c : Child) (ns : List Sealed) (e : Entry) → Seals version level first c ns e → KnowsChild (keys_at (stubs level high c)) ns e) →
        (x : Child-F Child Twig) → SealsIn version (Seals version level) level first x ns e → KnowsChild (keys_at (stubs_in (stubs level) (suc level) high x)) ns e
    here one (KeptChild low addr key) h = kept_known version (bare key ∷ []) low addr key ns e (Contains-push [] (bare key)) h
    here one (Grown low twig) h =
        let below = children_known version level one first high (children_of twig) h.node.below h.node.entries h.node.each in
        let n : Sealed = record { addr = e.addr; key = e.key; level = suc level; entries = h.node.entries } in
        let all = node_known (keys_at (stubs_by low_of (stubs level) high (children_of twig))) h.node.below ns n h.node.entries h.node.is refl below in
        record { nodes = all.0; own = all.1 }

pub children_keys : (version level first high : ℕ) (cs : List Child) (ns : List Sealed) (es : List Entry) → SealsEach (Seals version level) first cs ns es → KnowsChildren (keys_at (stubs_by low_of (stubs level) high cs)) ns es
children_keys version level first high cs ns es h = children_known version level (child_known version level) first high cs ns es h

pub node_keys : (version level first high : ℕ) (cs : List Child) (ns : List Sealed) (addr : ℕ) (key : List ℕ) → SealsNode version (Seals version level) level first cs ns addr key → KeysAreFrom (keys_at (stubs_by low_of (stubs level) high cs)) ns
node_keys version level first high cs ns addr key h =
    let n : Sealed = record { addr = addr; key = key; level = suc level; entries = h.entries } in
    (node_known (keys_at (stubs_by low_of (stubs level) high cs)) h.below ns n h.entries h.is refl (children_keys version level first high cs h.below h.entries h.each)).0

-- ---- what the medium keeps

-- the page of a sealed node is a record of its address under its key
page_is : (version : ℕ) (n : Sealed) → n.addr < 2 ^ 64 → Fits version n → masked (bare n.key) (page_of n) ≡ record_bytes (version_of n.key) n.addr (NodeRecord n.level n.entries)
page_is version n small fits = masked_bare n.key (page_of n) ∙ masked-masked n.key (record_bytes (version_of n.key) n.addr (NodeRecord n.level n.entries)) (omega (arith, record_length (version_of n.key) n.addr (NodeRecord n.level n.entries) small fits.in_range))

sealed_at : (version first i : ℕ) (ns : List Sealed) (more : List (List ℕ)) (page : List ℕ) → AreFrom first ns → AllByRecursion (Fits version) ns → first + length ns ≤ 2 ^ 32 → slice_get (map page_of ns) i ≡ Some page →
    IsSealedRecord (keys_in ns ++ more) i (first + i) page
sealed_at version first i [] more page from fits small there = absurd cc
sealed_at version first zero (n ∷ ns) more page from fits small there =
    let is : page_of n ≡ page = cc in
    let here : n.addr ≡ first + 0 = omega (arith, from.0) in
    record {
      key = bare n.key;
      listed = refl;
      version = version_of n.key;
      value = NodeRecord n.level n.entries;
      in_range = subst (λ a. FitsRecord (version_of n.key) a (NodeRecord n.level n.entries)) here fits.0.in_range;
      spelled = ap (masked (bare n.key)) (sym is) ∙ page_is version n (omega (arith, from.0, small)) fits.0 ∙ ap (λ a. record_bytes (version_of n.key) a (NodeRecord n.level n.entries)) here;
    }
sealed_at version first (suc i) (n ∷ ns) more page from fits small there =
    let rest = sealed_at version (suc first) i ns more page from.1 fits.1 (omega (arith, small)) there in
    let at : suc first + i ≡ first + suc i = omega arith in
    record {
      key = rest.key;
      listed = rest.listed;
      version = rest.version;
      value = rest.value;
      in_range = subst (λ a. FitsRecord rest.version a rest.value) at rest.in_range;
      spelled = rest.spelled ∙ ap (λ a. record_bytes rest.version a rest.value) at;
    }

handed_nodes : (version : ℕ) (ns : List Sealed) (more : List (List ℕ)) (before after : Image) → after.recorded ≡ before.recorded ++ map page_of ns → AreInOrder version (length before.recorded) ns → length before.recorded + length ns ≤ 2 ^ 32 →
    HandedOver (keys_in ns ++ more) before after
handed_nodes version ns more before after pages order small = record {
  position = λ addr. addr - length before.recorded;
  sealed = λ addr page added there.
      let from = added.0 in
      let read : slice_get (map page_of ns) (addr - length before.recorded) ≡ Some page = sym (get_behind before.recorded (map page_of ns) addr from) ∙ ap (λ ps. slice_get ps addr) (sym pages) ∙ there in
      let at : length before.recorded + (addr - length before.recorded) ≡ addr = omega (arith, from) in
      subst (λ a. IsSealedRecord (keys_in ns ++ more) (addr - length before.recorded) a page) at
      (sealed_at version (length before.recorded) (addr - length before.recorded) ns more page order.from order.fits small read);
  apart = λ one other added added' same. let a = added.0 in let b = added'.0 in omega (arith, a, b, same);
}

own_nodes : (version : ℕ) (keys pages : List (List ℕ)) (ns : List Sealed) → HaveOwnKeys keys pages → AreFrom (length pages) ns → AllByRecursion (Fits version) ns → KeysAreFrom keys ns → length pages + length ns ≤ 2 ^ 32 → HaveOwnKeys (keys ++ keys_in ns) (pages ++ map page_of ns)
own_nodes version keys pages [] own from fits known small = subst (λ ks. HaveOwnKeys ks (pages ++ [])) (sym (append-nil keys)) (subst (HaveOwnKeys keys) (sym (append-nil pages)) own)
own_nodes version keys pages (n ∷ ns) own from fits known small =
    let page = page_of n in
    let value = NodeRecord n.level n.entries in
    let is = page_is version n (omega (arith, from.0, small)) fits.0 in
    let key = bare n.key in
    let opens = subst (λ a. Opens key a page) from.0 (opens_record key page (version_of n.key) n.addr value is) in
    let yields : (other : List ℕ) → Yields key page other → Contains (keys ++ key ∷ []) other = λ other y.
    Contains-append_left keys (key ∷ []) other
    (All-contains (Contains keys) (map (λ (e : Entry). bare e.key) n.entries) other
    (All-map (Contains keys) (λ (e : Entry). bare e.key) n.entries (All-from_recursion (λ (e : Entry). Contains keys (bare e.key)) n.entries known.0))
    (node_yields key page other (version_of n.key) n.addr n.level n.entries fits.0.in_range is y)) in
    let one = own_page keys pages key page own opens yields in
    let next : suc (length pages) ≡ length (pages ++ page ∷ []) = omega (arith, length-append pages (page ∷ [])) in
    let rest = own_nodes version (keys ++ key ∷ []) (pages ++ page ∷ []) ns one (subst (λ m. AreFrom m ns) next from.1) fits.1 known.1 (omega (arith, next, small)) in
    subst (λ ks. HaveOwnKeys ks (pages ++ (page ∷ map page_of ns))) (append_assoc keys (key ∷ []) (keys_in ns))
    (subst (HaveOwnKeys ((keys ++ key ∷ []) ++ keys_in ns)) (append_assoc pages (page ∷ []) (map page_of ns)) rest)

pub listed_at : (keys : List (List ℕ)) (places : List Stub) → AllByRecursion (λ s. Contains keys (bare s.key)) places → Within (keys_at places) keys
listed_at keys places h x c = All-contains (Contains keys) (keys_at places) x (All-map (Contains keys) (λ (s : Stub). bare s.key) places (All-from_recursion (λ (s : Stub). Contains keys (bare s.key)) places h)) c

pub known_within : (keys : List (List ℕ)) (ns : List Sealed) → AllByRecursion (λ (n : Sealed). Contains keys (bare n.key)) ns → Within (keys_in ns) keys
known_within keys ns h x c = All-contains (Contains keys) (keys_in ns) x (All-map (Contains keys) (λ (n : Sealed). bare n.key) ns (All-from_recursion (λ (n : Sealed). Contains keys (bare n.key)) ns h)) c

all_in : (keys : List (List ℕ)) (ns : List Sealed) → Within (keys_in ns) keys → AllByRecursion (λ (n : Sealed). Contains keys (bare n.key)) ns
all_in keys [] f = tt
all_in keys (n ∷ ns) f = (f (bare n.key) (Contains-append_left (bare n.key ∷ []) (keys_in ns) (bare n.key) (Contains-push [] (bare n.key))), all_in keys ns (λ x c. f x (Contains-append_right (bare n.key ∷ []) (keys_in ns) x c)))

-- what was handed over, once that is told
pub record HandsOver (grew : List (List ℕ)) (old new : History) (places : List Stub) (Done : List (List ℕ) → Type 0) : Type 0 where
  pub handed : HandedOver grew old.present new.present
  pub keeps : (keys : List (List ℕ)) → Kept keys old.present → KnowsPlaces old.present places keys → Keeps keys grew old new Done

-- every node's key is listed
abbrev pub AreKnown : List Sealed → List (List ℕ) → Type 0
AreKnown ns keys = AllByRecursion (λ (n : Sealed). Contains keys (bare n.key)) ns

-- the pages of nodes in order, and perhaps keys were drawn for which there is no page
hands_over : (version : ℕ) (old new : History) (places : List Stub) (ns : List Sealed) (more : List (List ℕ)) → CellStays old new → new.present.recorded ≡ old.present.recorded ++ map page_of ns → length new.present.recorded ≤ 2 ^ 32 →
    AreInOrder version (length old.present.recorded) ns → KeysAreFrom (keys_at places) ns → HandsOver (keys_in ns ++ more) old new places (AreKnown ns)
hands_over version old new places ns more cell pages small order known =
    let room : length old.present.recorded + length ns ≤ 2 ^ 32 = omega (arith, small, ap length pages, length-append old.present.recorded (map page_of ns), length-map ns page_of) in
    record {
      handed = handed_nodes version ns more old.present new.present pages order room;
      keeps = λ keys kept ready.
          let given = keys_more (keys_at places) keys ns (listed_at keys places ready.listed) known in
          let own : HaveOwnKeys (keys ++ (keys_in ns ++ more)) new.present.recorded =
          subst (HaveOwnKeys (keys ++ (keys_in ns ++ more))) (sym pages)
          (subst (λ ks. HaveOwnKeys ks (old.present.recorded ++ map page_of ns)) (append_assoc keys (keys_in ns) more)
          (own_more (keys ++ keys_in ns) more (old.present.recorded ++ map page_of ns) (own_nodes version keys old.present.recorded ns kept.pages order.from order.fits given room))) in
          record {
            kept = record {
              extends = cell.extends;
              each = λ i from to. kept_later keys (keys_in ns ++ more) old.present (image_at new i) ready.device ready.stands kept (Extends-since old new i cell.extends from) (cell.each i from to)
                  (own_first (keys ++ (keys_in ns ++ more)) (image_at new i).recorded new.present.recorded (earlier-now new i to).recorded own);
            };
            done = all_in (keys ++ (keys_in ns ++ more)) ns (λ x c. Contains-append_right keys (keys_in ns ++ more) x (Contains-append_left (keys_in ns) more x c));
          };
    }

-- a sealing that was done
pub keeps_sealed : (version : ℕ) (tells : Type 0) (drawn drawn_now : Option (List (List ℕ))) (old new : History) (head : ℕ) (places : List Stub) (ns : List Sealed) → (tells → CellStays old new) →
    (tells → new.present.recorded ≡ old.present.recorded ++ map page_of ns) → (tells → length old.present.recorded ≡ head) → (tells → length new.present.recorded ≤ 2 ^ 32) → AreNodesOver version head places ns →
    DrewAll drawn (keys_in ns) drawn_now → KeepsKeys tells drawn drawn_now old new (KnowsPlaces old.present places) (AreKnown ns)
keeps_sealed version tells drawn drawn_now old new head places ns cell pages size small over drew =
    let all : tells → HandsOver (keys_in ns) old new places (AreKnown ns) = λ told.
    subst (λ ks. HandsOver ks old new places (AreKnown ns)) (append-nil (keys_in ns))
    (hands_over version old new places ns [] (cell told) (pages told) (small told) (subst (λ n. AreInOrder version n ns) (sym (size told)) over.order) over.keys) in
    record {
      grew = keys_in ns;
      drew = drew;
      extends = λ told. (cell told).extends;
      handed = λ told. (all told).handed;
      keeps = λ told. (all told).keeps;
    }

from_front : (first : ℕ) (xs ys : List Sealed) → AreFrom first (xs ++ ys) → AreFrom first xs
from_front first [] ys h = tt
from_front first (x ∷ xs) ys h = (h.0, from_front (suc first) xs ys h.1)

fits_front : (version : ℕ) (xs ys : List Sealed) → AllByRecursion (Fits version) (xs ++ ys) → AllByRecursion (Fits version) xs
fits_front version [] ys h = tt
fits_front version (x ∷ xs) ys h = (h.0, fits_front version xs ys h.1)

keys_front : (keys : List (List ℕ)) (xs ys : List Sealed) → KeysAreFrom keys (xs ++ ys) → KeysAreFrom keys xs
keys_front keys [] ys h = tt
keys_front keys (x ∷ xs) ys h = (h.0, keys_front (keys ++ bare x.key ∷ []) xs ys h.1)

-- the pages that there are after a fault: those of all nodes, or of all but the last
data Pages (old new : Image) (nodes last : List Sealed) : Type 0 where
  Without : new.recorded ≡ old.recorded ++ map page_of nodes → Pages old new nodes last
  With : new.recorded ≡ old.recorded ++ map page_of (nodes ++ last) → Pages old new nodes last

pages_are : (old new : Image) (nodes last : List Sealed) → MayHave (with_nodes old nodes) last new → Pages old new nodes last
pages_are old new nodes [] is = Without (ap (λ (i : Image). i.recorded) is)
pages_are old new nodes (n ∷ more) (inl is, none) = Without (ap (λ (i : Image). i.recorded) is)
pages_are old new nodes (n ∷ more) (inr (reads, is), none) =
    With (ap (λ (i : Image). i.recorded) is ∙ append_assoc old.recorded (map page_of nodes) (page_of n ∷ []) ∙ ap (λ xs. old.recorded ++ xs) (sym (map-append page_of nodes (n ∷ [])))
    ∙ ap (λ ms. old.recorded ++ map page_of (nodes ++ n ∷ ms)) (sym none))

-- a sealing that a fault cut off
pub keeps_stopped : (version : ℕ) (tells : Type 0) (drawn drawn_now : Option (List (List ℕ))) (old new : History) (head : ℕ) (places : List Stub) → (tells → CellStays old new) → (tells → length old.present.recorded ≡ head) →
    (tells → length new.present.recorded ≤ 2 ^ 32) → StopsFrom version head places tells old.present new.present drawn drawn_now → KeepsKeys tells drawn drawn_now old new (KnowsPlaces old.present places) (λ keys. Unit {0})
keeps_stopped version tells drawn drawn_now old new head places cell size small stops =
    let nodes = stops.stops.nodes in
    let last = stops.stops.last in
    let all : tells → HandsOver (keys_in (nodes ++ last)) old new places (λ keys. Unit {0}) = λ told. by told (pages_are old.present stops.written nodes last (stops.stops.image told)) in
    record {
      grew = keys_in (nodes ++ last);
      drew = stops.stops.drew;
      extends = λ told. (cell told).extends;
      handed = λ told. (all told).handed;
      keeps = λ told. (all told).keeps;
    }
  where
    weaken : (grew : List (List ℕ)) (ns : List Sealed) → HandsOver grew old new places (AreKnown ns) → HandsOver grew old new places (λ keys. Unit {0})
    weaken grew ns h = record { handed = h.handed; keeps = λ keys kept ready. let k = h.keeps keys kept ready in record { kept = k.kept; done = tt } }

    same : (i : Image) → IsEither stops.written (all_synced stops.written) i → i.recorded ≡ stops.written.recorded
    same i (inl is) = ap (λ (i : Image). i.recorded) is
    same i (inr is) = ap (λ (i : Image). i.recorded) is

    order : tells → AreInOrder version (length old.present.recorded) (stops.stops.nodes ++ stops.stops.last)
    order told = subst (λ n. AreInOrder version n (stops.stops.nodes ++ stops.stops.last)) (sym (size told)) stops.stops.are.order

    by : tells → Pages old.present stops.written stops.stops.nodes stops.stops.last → HandsOver (keys_in (stops.stops.nodes ++ stops.stops.last)) old new places (λ keys. Unit {0})
    by told (Without is) =
        let nodes = stops.stops.nodes in
        let last = stops.stops.last in
        let o = order told in
        subst (λ ks. HandsOver ks old new places (λ keys. Unit {0})) (sym (map-append (λ (n : Sealed). bare n.key) nodes last))
        (weaken (keys_in nodes ++ keys_in last) nodes
        (hands_over version old new places nodes (keys_in last) (cell told) (same new.present (stops.synced told) ∙ is) (small told)
        (record { from = from_front (length old.present.recorded) nodes last o.from; fits = fits_front version nodes last o.fits }) (keys_front (keys_at places) nodes last stops.stops.are.keys)))
    by told (With is) =
        let all = stops.stops.nodes ++ stops.stops.last in
        subst (λ ks. HandsOver ks old new places (λ keys. Unit {0})) (append-nil (keys_in all))
        (weaken (keys_in all ++ []) all (hands_over version old new places all [] (cell told) (same new.present (stops.synced told) ∙ is) (small told) (order told) stops.stops.are.keys))

pub places_more_keys : (keys more : List (List ℕ)) (places : List Stub) → AllByRecursion (λ s. Contains keys (bare s.key)) places → AllByRecursion (λ s. Contains (keys ++ more) (bare s.key)) places
places_more_keys keys more [] h = tt
places_more_keys keys more (s ∷ ss) h = (Contains-append_left keys more (bare s.key) h.0, places_more_keys keys more ss h.1)
