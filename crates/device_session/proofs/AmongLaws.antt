-- That a session's cache keeps nodes of its root record's tree alone.
use Rattle.std.proofs.Common.{◌≡◌, ◌≢◌, ◌⊎◌, inl, inr, ℕ, zero, suc, ◌<◌, ◌≤◌, ◌^◌, List, [], ◌∷◌, ◌++◌, All, map, refl, sym, subst, arith}
use Rattle.std.specs.Prelude.{Contains}
use Rattle.std.specs.List.{AllByRecursion}
use Rattle.std.specs.List.Sorted.{IsPermutation}
use Rattle.std.proofs.lemmas.List.Elements.{All-nil, All-cons, All-weaker, All-contains, All-contains_itself, All-from_recursion, recursion_from_All, Contains-append_left, Contains-append_right}
use Rattle.std.proofs.lemmas.List.Sorted.{Contains-permutation}
use Rattle.sdbt_base.specs.Arrays.{Device, Blocks}
use Rattle.sdbt_base.specs.Traces.{DataOf, NodeOver}
use Rattle.platform.specs.Image.{Image}
use Rattle.node_codec.specs.declared.body.Entry.{Entry}
use Rattle.node_codec.specs.Record.{DataRecord, NodeRecord}
use Rattle.root_codec.specs.declared.root.Root.{Root}
use Rattle.page_store.specs.declared.wants.Want.{Want}
use Rattle.page_store.specs.Places.{IsRecordAt, root_want, child_want}
use Rattle.page_store.specs.Tree.{Parts, Place, Subtree, EachChild, Tree, joined, bound_of}
use Rattle.page_store.proofs.RecordLaws.{one_record}
use Rattle.node_cache.specs.declared.slots.CachedNode.{CachedNode}
use Rattle.node_cache.specs.Cached.{Cached, without_all, forgotten}
use Rattle.node_cache.proofs.CacheLaws.{All-without_all, none-without_all}
use Rattle.btree_twigs.specs.Stubs.{Stub}
use Rattle.btree_walk.specs.Among.{IsAmong, GoDown, KeepsAmong}
use Rattle.btree_update.specs.GroveTree.{want_in}
use Rattle.btree_update.specs.Groves.{places_of}
use Rattle.btree_update.specs.Among.{NodesAmong, HaveNodes}
use Rattle.grove_accounts.specs.Accounts.{IsOwn}
use Rattle.grove_accounts.specs.Below.{HaveParts}
use Rattle.grove_accounts.specs.Holding.{IsTreeOf, root_stub}
use Rattle.grove_accounts.proofs.ListLaws.{each_left, each_right, each_append, each_weaker}
use Rattle.grove_accounts.proofs.HoldingLaws.{tree_place}
use Rattle.shadow_commit.specs.Sealed.{Sealed}
use Rattle.shadow_commit.specs.Caching.{with_sealed}
use Rattle.shadow_commit.specs.NewTree.{place_of}
use Rattle.shadow_commit.proofs.CachingLaws.{All-sealed}
use Rattle.device_session.specs.Sessions.{Session}
use Rattle.device_session.specs.Holds.{Holds}
use Rattle.device_session.specs.Publishing.{HasTreeKeys}
use Rattle.device_session.specs.Finishing.{HoldsNone, TakesUp}

-- ---- the places of a tree go down

among_more : (few more : List Place) → ((p : Place) → Contains few p → Contains more p) → (addr : ℕ) (key : List ℕ) → IsAmong few addr key → IsAmong more addr key
among_more few more in' addr key is = record { place = is.place; here = in' is.place is.here; addr_is = is.addr_is; key_is = is.key_is }

contains_first : {X : Type 0} (x : X) (xs : List X) → Contains (x ∷ xs) x
contains_first x xs = Contains-append_left (x ∷ []) xs x (zero, omega arith, refl)

-- what a tree stands at is one of its places
pub subtree_here : (pages : List (List ℕ)) (order level : ℕ) (want : Want) (key : List ℕ) (parts : Parts) → Subtree pages order level want key parts → IsAmong parts.places want.addr key
unfolding Subtree
subtree_here pages order zero want key parts is =
    subst (λ (p : Parts). IsAmong p.places want.addr key) (sym is.has) (record { place = record { addr = want.addr; key = key; trace = DataOf want.low }; here = contains_first _ []; addr_is = refl; key_is = refl })
subtree_here pages order (suc level) want key parts is =
    subst (λ (p : Parts). IsAmong p.places want.addr key) (sym is.has)
    (record { place = record { addr = want.addr; key = key; trace = NodeOver (map (λ (e : Entry). e.addr) is.entries) }; here = contains_first _ (joined is.children).places; addr_is = refl; key_is = refl })

children_among : (pages : List (List ℕ)) (order level high : ℕ) (es : List Entry) (ps : List Parts) → EachChild (Subtree pages order level) order level high es ps → AllByRecursion (λ (e : Entry). IsAmong (joined ps).places e.addr e.key) es
children_among pages order level high [] [] each = tt
children_among pages order level high [] (p ∷ ps) each = absurd each
children_among pages order level high (e ∷ es) [] each = absurd each
children_among pages order level high (e ∷ es) (p ∷ ps) each =
    let more = (joined ps).places in (
      among_more p.places (p.places ++ more) (λ q. Contains-append_left p.places more q) e.addr e.key (subtree_here pages order level (child_want order level e (bound_of es high)) e.key p each.0),
      each_weaker (λ (e : Entry). IsAmong more e.addr e.key) (λ (e : Entry). IsAmong (p.places ++ more) e.addr e.key) (λ e. among_more more (p.places ++ more) (λ q. Contains-append_right p.places more q) e.addr e.key) es (children_among pages order level high es ps each.1),
    )

-- where the place is a node, its entries name such places
abbrev Down : List (List ℕ) → List Place → Place → Type 0
Down pages places p = (level : ℕ) (entries : List Entry) → IsRecordAt pages p.addr p.key (NodeRecord level entries) → All (λ e. IsAmong places e.addr e.key) entries

down_more : (pages : List (List ℕ)) (few more : List Place) → ((p : Place) → Contains few p → Contains more p) → (ps : List Place) → AllByRecursion (Down pages few) ps → AllByRecursion (Down pages more) ps
down_more pages few more in' ps h = each_weaker (Down pages few) (Down pages more) (λ p down level es r. All-weaker (λ (e : Entry). IsAmong few e.addr e.key) (λ (e : Entry). IsAmong more e.addr e.key) (λ e. among_more few more in' e.addr e.key) es (down level es r)) ps h

-- a tree at an address in range does
abbrev DownFrom : List (List ℕ) → ℕ → ℕ → Type 0
DownFrom pages order level = (want : Want) (key : List ℕ) (parts : Parts) → want.addr < 2 ^ 64 → Subtree pages order level want key parts → AllByRecursion (Down pages parts.places) parts.places

children_down : (pages : List (List ℕ)) (order level high : ℕ) (es : List Entry) (ps : List Parts) → DownFrom pages order level → AllByRecursion (λ (e : Entry). e.addr < 2 ^ 64) es → EachChild (Subtree pages order level) order level high es ps →
    AllByRecursion (Down pages (joined ps).places) (joined ps).places
children_down pages order level high [] [] below small each = tt
children_down pages order level high [] (p ∷ ps) below small each = absurd each
children_down pages order level high (e ∷ es) [] below small each = absurd each
children_down pages order level high (e ∷ es) (p ∷ ps) below small each =
    let more = (joined ps).places in
    each_append (Down pages (p.places ++ more)) p.places more
    (down_more pages p.places (p.places ++ more) (λ q. Contains-append_left p.places more q) p.places (below (child_want order level e (bound_of es high)) e.key p small.0 each.0))
    (down_more pages more (p.places ++ more) (λ q. Contains-append_right p.places more q) more (children_down pages order level high es ps below small.1 each.1))

subtree_down : (pages : List (List ℕ)) (order level : ℕ) → DownFrom pages order level
unfolding Subtree
subtree_down pages order zero want key parts small is =
    subst (λ (p : Parts). AllByRecursion (Down pages p.places) p.places) (sym is.has)
    ((λ level es r. absurd (let same : DataRecord want.low is.content ≡ NodeRecord level es = one_record pages want.addr key _ _ small is.fits.0 r in cc)), tt)
subtree_down pages order (suc level) want key parts small is =
    let node : Place = record { addr = want.addr; key = key; trace = NodeOver (map (λ (e : Entry). e.addr) is.entries) } in
    let below = (joined is.children).places in
    let in' : (p : Place) → Contains below p → Contains (node ∷ below) p = λ p. Contains-append_right (node ∷ []) below p in
    let named = All-from_recursion (λ (e : Entry). IsAmong (node ∷ below) e.addr e.key) is.entries
    (each_weaker (λ (e : Entry). IsAmong below e.addr e.key) (λ (e : Entry). IsAmong (node ∷ below) e.addr e.key) (λ e. among_more below (node ∷ below) in' e.addr e.key) is.entries (children_among pages order level want.high is.entries is.children is.each)) in
    let in_range = recursion_from_All (λ (e : Entry). e.addr < 2 ^ 64) is.entries (All-weaker (λ (e : Entry). e.addr < want.addr) (λ (e : Entry). e.addr < 2 ^ 64) (λ e less. omega (arith, less, small)) is.entries is.fits.0.in_range.0.below) in
    let first : Down pages (node ∷ below) node = λ n es r.
    (let same : NodeRecord (suc level) is.entries ≡ NodeRecord n es = one_record pages want.addr key _ _ small is.fits.0 r in
    let entries_are : is.entries ≡ es = cc in
    subst (All (λ (e : Entry). IsAmong (node ∷ below) e.addr e.key)) entries_are named) in
    subst (λ (p : Parts). AllByRecursion (Down pages p.places) p.places) (sym is.has)
    (first, down_more pages below (node ∷ below) in' below (children_down pages order level want.high is.entries is.children (subtree_down pages order level) in_range is.each))

pub tree_down : (pages : List (List ℕ)) (root : Root) (parts : Parts) → root.addr < 2 ^ 64 → Tree pages root parts → GoDown pages parts.places
tree_down pages root parts small tree = λ addr key level entries at r.
    All-contains (Down pages parts.places) parts.places at.place (All-from_recursion (Down pages parts.places) parts.places (subtree_down pages root.order root.level (root_want root) root.key parts small tree)) at.here level entries
    (subst (λ a. IsRecordAt pages a at.place.key (NodeRecord level entries)) (sym at.addr_is) (subst (λ k. IsRecordAt pages addr k (NodeRecord level entries)) (sym at.key_is) r))

-- ---- the nodes that a session's tree names

node_among : (pages : List (List ℕ)) (committed : List Place) (head order level : ℕ) (want : Want) (key : List ℕ) (parts : Parts) → 1 ≤ level → Subtree pages order level want key parts → AllByRecursion (λ p. Contains committed p ⊎ IsOwn head p) parts.places → IsAmong committed want.addr key
unfolding Subtree
node_among pages committed head order zero want key parts one is kept = absurd (omega (arith, one))
node_among pages committed head order (suc level) want key parts one is kept =
    let node : Place = record { addr = want.addr; key = key; trace = NodeOver (map (λ (e : Entry). e.addr) is.entries) } in
    from node refl refl refl (subst (λ (p : Parts). AllByRecursion (λ p. Contains committed p ⊎ IsOwn head p) p.places) is.has kept).0
  where
    from : (node : Place) → node.addr ≡ want.addr → node.key ≡ key → node.trace ≡ NodeOver (map (λ (e : Entry). e.addr) is.entries) → Contains committed node ⊎ IsOwn head node → IsAmong committed want.addr key
    from node addr_is key_is trace_is (inl has) = record { place = node; here = has; addr_is = addr_is; key_is = key_is }
    from node addr_is key_is trace_is (inr own) = absurd (let data_is = own.is in cc)

parts_among : (pages : List (List ℕ)) (committed : List Place) (head order top : ℕ) (ss : List Stub) (ps : List Parts) → HaveParts pages order top ss ps → AllByRecursion (λ p. Contains committed p ⊎ IsOwn head p) (joined ps).places → NodesAmong committed ss
parts_among pages committed head order top [] [] h kept = tt
parts_among pages committed head order top [] (p ∷ ps) h kept = absurd h
parts_among pages committed head order top (s ∷ ss) [] h kept = absurd h
parts_among pages committed head order top (s ∷ ss) (p ∷ ps) h kept =
    let Kept' : Place → Type 0 = λ p. Contains committed p ⊎ IsOwn head p in (
      λ one. node_among pages committed head order s.level (want_in order top s) s.key p one h.0 (each_left Kept' p.places (joined ps).places kept),
      parts_among pages committed head order top ss ps h.1 (each_right Kept' p.places (joined ps).places kept),
    )

-- they are among the committed ones, and these go down
pub held_nodes : (session : Session) (image : Image) (device : Device) (contents : Blocks) → (h : Holds session image device contents) → HaveNodes image.readable (places_of session.grove) h.committed.places
held_nodes session image device contents h = (
  tree_down image.readable session.root h.committed (let addr = h.stands.in_range.addr in let head = h.stands.in_range.head in omega (arith, addr, head)) h.stands.tree,
  parts_among image.readable h.committed.places session.root.head session.grove.order session.grove.level (places_of session.grove) h.each h.tree.has
      (recursion_from_All (λ (p : Place). Contains h.committed.places p ⊎ IsOwn session.root.head p) (joined h.each).places h.tree.accounted.accounts.kept),
)

-- ---- what is cached

-- sealed nodes are places of the tree that they make
sealed_among : (ns : List Sealed) (after : List Place) → ((p : Place) → Contains (map place_of ns) p → Contains after p) → AllByRecursion (λ (n : Sealed). IsAmong after n.addr n.key) ns
sealed_among [] after in' = tt
sealed_among (n ∷ ns) after in' = (
  record { place = place_of n; here = in' (place_of n) (contains_first (place_of n) (map place_of ns)); addr_is = refl; key_is = refl },
  sealed_among ns after (λ p has. in' p (Contains-append_right (place_of n ∷ []) (map place_of ns) p has)),
)

-- a node that isn't gone is of the tree after, if it was of the one before
still_among : (gone : List ℕ) (ks : List CachedNode) (committed places news after : List Place) → All (λ p. Contains places p ⊎ Contains gone p.addr) committed → IsPermutation (news ++ places) after → All (λ k. IsAmong committed k.addr k.key) ks →
    All (λ k. IsAmong after k.addr k.key) (without_all gone ks)
still_among gone ks committed places news after left same all = All-weaker (Contains stays) (λ k. IsAmong after k.addr k.key) here stays (All-contains_itself stays)
  where
    stays : List CachedNode
    stays = without_all gone ks

    here : (k : CachedNode) → Contains (without_all gone ks) k → IsAmong after k.addr k.key
    here k has =
        let at = All-contains (λ (j : CachedNode). IsAmong committed j.addr j.key) (without_all gone ks) k (All-without_all (λ (j : CachedNode). IsAmong committed j.addr j.key) gone ks all) has in
        elim (All-contains (λ (p : Place). Contains places p ⊎ Contains gone p.addr) committed at.place left at.here) [
          | inl stays ↦ record { place = at.place; here = Contains-permutation (news ++ places) after at.place same (Contains-append_right news places at.place stays); addr_is = at.addr_is; key_is = at.key_is }
          | inr is_gone ↦
              absurd (All-contains (λ (j : CachedNode). j.addr ≢ at.place.addr) (without_all gone ks) k (All-contains (λ (addr : ℕ). All (λ (j : CachedNode). j.addr ≢ addr) (without_all gone ks)) gone at.place.addr (none-without_all gone ks) is_gone) has (sym at.addr_is))
        ]

-- a session that goes on with a tree of sealed nodes and what is left of its committed places keeps nodes of that tree
pub taken_among : (session now : Session) (cache : Cached) (root : Root) (committed places after : List Place) (ns : List Sealed) → TakesUp session cache root now → cache ≡ with_sealed (forgotten session.grove.gone.items session.cache) ns →
    All (λ p. Contains places p ⊎ Contains session.grove.gone.items p.addr) committed → IsPermutation (map place_of ns ++ places) after → KeepsAmong committed session.cache → KeepsAmong after now.cache
taken_among session now cache root committed places after ns taken sealed left same kept =
    let gone = session.grove.gone.items in
    let Is : CachedNode → Type 0 = λ k. IsAmong after k.addr k.key in
    let new = sealed_among ns after (λ p has. Contains-permutation (map place_of ns ++ places) after p same (Contains-append_left (map place_of ns) places p has)) in
    let all = All-sealed Is (forgotten gone session.cache) ns (still_among gone session.cache.nodes committed places (map place_of ns) after left same kept) new in
    subst (KeepsAmong after) (sym taken.cached) (All-without_all Is gone cache.nodes (subst (KeepsAmong after) (sym sealed) all))

-- what a session has the keys of whose tree is its root record's
pub held_knows : (session : Session) (image : Image) (device : Device) (contents : Blocks) → IsTreeOf session.root session.grove → HoldsNone session.grove → Holds session image device contents → HasTreeKeys session image.readable
held_knows session image device contents of none h =
    let root = session.root in
    let here = subtree_here image.readable root.order root.level (root_want root) root.key h.committed h.stands.tree in
    record {
      parts = h.committed;
      tree = h.stands.tree;
      root = here;
      named = subst (All (λ (s : Stub). IsAmong h.committed.places s.addr s.key)) (sym (tree_place root session.grove of))
          (All-cons (λ (s : Stub). IsAmong h.committed.places s.addr s.key) (root_stub root) [] here (All-nil (λ (s : Stub). IsAmong h.committed.places s.addr s.key)));
      none_held = none;
      cached = h.among;
    }
