-- That a tree is whole whose nodes fit, and in which a look-up of the block of each entry comes to a content.
use Rattle.std.proofs.Common.{◌≡◌, ◌==◌, if◌then◌else◌, ℕ, zero, suc, ◌-◌, ◌/◌, ◌^◌, ◌<◌, ◌≤◌, List, [], ◌∷◌, ◌++◌, Option, None, Some, length, map, refl, sym, ap, subst, inl, inr, ◌∙◌, arith, append_assoc}
use Rattle.std.specs.Prelude.{All, Contains, IfSome, slice_get}
use Rattle.std.proofs.lemmas.Bool.{cases_eq, cases_lt}
use Rattle.std.proofs.lemmas.Bool.Decides.{eqb_tells}
use Rattle.std.specs.List.Sorted.{IsStrictlyIncreasing}
use Rattle.std.proofs.lemmas.List.{map-append}
use Rattle.std.proofs.lemmas.List.Elements.{All-nil, All-cons, All-head, All-tail, All-weaker, All-contains, Contains-append_left, Contains-append_right}
use Rattle.node_codec.specs.declared.body.Entry.{Entry}
use Rattle.node_codec.specs.Record.{DataRecord, NodeRecord}
use Rattle.root_codec.specs.declared.root.Root.{Root}
use Rattle.root_codec.specs.RootRecord.{FitsRoot}
use Rattle.page_store.specs.declared.wants.Want.{Want}
use Rattle.page_store.specs.Places.{FitsAt, root_want, child_want, block_want}
use Rattle.page_store.specs.Tree.{Parts, joined, data_parts, node_parts, bound_of, EachChild, Subtree, Tree}
use Rattle.page_store.proofs.RecordLaws.{one_record}
use Rattle.btree_walk.specs.Finds.{Finds}
use Rattle.btree_walk.specs.Mapped.{IsListedWithin, IsMappedAs, entry_of}
use Rattle.btree_walk.specs.Nodes.{Node, branches, Joined, Nodes, NodesOf, listed}
use Rattle.btree_walk.specs.Ways.{IsEntryOf, IsWay}
use Rattle.btree_walk.proofs.Elements.{Contains-head, Contains-tail}
use Rattle.btree_walk.proofs.LevelLaws.{above_leaves}
use Rattle.btree_walk.proofs.OrderLaws.{leaf_listed, nodes_within}
use Rattle.btree_walk.proofs.MappedLaws.{found_is_mapped}
use Rattle.btree_walk.proofs.ShowsLaws.{listed-append, listed-inner}
use Rattle.btree_walk.proofs.TurnLaws.{lows}
use Rattle.btree_walk.proofs.WayLaws.{entry_is_one, way_is_one}
use Rattle.btree_twigs.specs.declared.twigs.Child.{out-Child}
use Rattle.btree_twigs.specs.declared.twigs.Child.TheOpen.{Kept}
use Rattle.btree_twigs.specs.declared.twigs.Child.TheVariants as made
use Rattle.btree_update.specs.declared.groves.Grove.{Grove}
use Rattle.btree_update.specs.Finding.{FindsBelow, GroveFinds, RootFindsBy}
use Rattle.grove_accounts.specs.Holding.{IsTreeOf}
use Rattle.device_session.specs.Reading.{FindsContent, ReadsAs}
use Rattle.device_session.proofs.ChangedLaws.{from_root, wanted_root}

-- a look-up of an entry's block, from a place so many levels above the leaves on, comes to a content
record Reads (pages : List (List ℕ)) (order level : ℕ) (want : Want) (key : List ℕ) (e : Entry) : Type 0 where
  found : Option Entry
  path : List ℕ
  finds : Finds (FitsAt pages) order e.low found level want key path
  content : List ℕ
  reads : ReadsAs pages e.low found content

-- the same below one of these entries of a node
record ReadsOn (pages : List (List ℕ)) (order level high : ℕ) (entries : List Entry) (e : Entry) : Type 0 where
  entry : Entry
  bound : ℕ
  way : IsWay entries high e.low entry bound
  below : Reads pages order level (child_want order (suc level) entry bound) entry.key e

-- a place has these parts, whose entries its nodes list
record Grows (pages : List (List ℕ)) (order level : ℕ) (want : Want) (key : List ℕ) (nodes : List Node) : Type 0 where
  parts : Parts
  tree : Subtree pages order level want key parts
  lists : map entry_of parts.mapped ≡ listed nodes

-- so have the children of a node
record GrowsBelow (pages : List (List ℕ)) (order level high : ℕ) (entries : List Entry) (nodes : List Node) : Type 0 where
  children : List Parts
  each : EachChild (Subtree pages order level) order level high entries children
  lists : map entry_of (joined children).mapped ≡ listed nodes

module _ (pages : List (List ℕ)) (order : ℕ) where
  -- ---- the data records of a leaf

  leaf_data : (high : ℕ) (es : List Entry) → ((e : Entry) → Contains es e → (content : List ℕ) × FitsAt pages (block_want e.addr e.low) e.key (DataRecord e.low content))
      → (children : List Parts) × EachChild (Subtree pages order zero) order zero high es children × (map entry_of (joined children).mapped ≡ es)
  unfolding Subtree
  leaf_data high [] all = ([], tt, refl)
  leaf_data high (e ∷ es) all =
      let here = all e (Contains-head e es) in
      let rest = leaf_data high es (λ x has. all x (Contains-tail e es x has)) in
      (data_parts e.addr e.key e.low here.0 ∷ rest.0, (record { content = here.0; fits = here.1; has = refl }, rest.1), ap (λ (xs : List Entry). e ∷ xs) rest.2)

  grows_leaf : (want : Want) (key : List ℕ) (nodes : List Node) → want.addr < 2 ^ 64 → Nodes pages order (suc zero) want key nodes → ((e : Entry) → Contains (listed nodes) e → Reads pages order zero want key e) → Grows pages order (suc zero) want key nodes
  unfolding Subtree Nodes Finds
  grows_leaf want key nodes small is reads =
      let whole : listed nodes ≡ is.entries = leaf_listed pages order want is.entries is.below nodes is.each is.is in
      let built = leaf_data want.high is.entries (λ e has.
      (let r = reads e (subst (λ (es : List Entry). Contains es e) (sym whole) has) in
      let value : NodeRecord 1 r.finds.entries ≡ NodeRecord 1 is.entries = one_record pages want.addr key _ _ small r.finds.fits.0 is.fits.0 in
      let entries : r.finds.entries ≡ is.entries = cc in
      let same : r.found ≡ Some e = entry_is_one is.entries e.low r.found (Some e) is.fits.0.in_range.0.ascend (subst (λ (es : List Entry). IsEntryOf es e.low r.found) entries r.finds.is) (has, refl) in
      (r.content, subst (λ (f : Option Entry). ReadsAs pages e.low f r.content) same r.reads))) in
      record {
        parts = node_parts want.addr key is.entries (joined built.0);
        tree = record { entries = is.entries; children = built.0; fits = is.fits; each = built.1; has = refl };
        lists = built.2 ∙ sym whole;
      }

  -- ---- the children of an inner node

  abbrev Grow : ℕ → Type 0
  Grow level = (want : Want) (key : List ℕ) (nodes : List Node) → want.addr < 2 ^ 64 → Nodes pages order (suc level) want key nodes → ((e : Entry) → Contains (listed nodes) e → Reads pages order level want key e) → Grows pages order (suc level) want key nodes

  each_grows : (level high : ℕ) (whole before es : List Entry) (nodes : List Node) → Grow level → whole ≡ before ++ es → IsStrictlyIncreasing (lows whole) → All (λ e. e.addr < 2 ^ 64) es
      → Joined (λ b. Nodes pages order (suc level) b.want b.key) (branches order (suc level) high es) nodes → ((e : Entry) → Contains (listed nodes) e → ReadsOn pages order level high whole e) → GrowsBelow pages order (suc level) high es nodes
  each_grows level high whole before [] nodes grow split up small is reads = record { children = []; each = tt; lists = ap listed (sym is) }
  each_grows level high whole before (x ∷ es) nodes grow split up small is reads =
      let bound = bound_of es high in
      let lists : listed nodes ≡ listed is.first ++ listed is.rest = ap listed is.is ∙ listed-append is.first is.rest in
      let within = nodes_within pages order level (child_want order (suc level) x bound) x.key is.first is.one in
      let one = grow (child_want order (suc level) x bound) x.key is.first (All-head (λ (e : Entry). e.addr < 2 ^ 64) x es small) is.one (λ e has.
      (let r = reads e (subst (λ (l : List Entry). Contains l e) (sym lists) (Contains-append_left (listed is.first) (listed is.rest) e has)) in
      let lies = All-contains (IsListedWithin x.low bound x.addr) (listed is.first) e within has in
      let mine : IsWay whole high e.low x bound = record { before = before; after = es; split = split; ends = refl; from = lies.from; below = lies.to } in
      let same = way_is_one whole high e.low r.bound bound r.entry x up r.way mine in
      subst (λ (n : ℕ). Reads pages order level (child_want order (suc level) x n) x.key e) same.1 (subst (λ (y : Entry). Reads pages order level (child_want order (suc level) y r.bound) y.key e) same.0 r.below))) in
      let rest = each_grows level high whole (before ++ x ∷ []) es is.rest grow (split ∙ sym (append_assoc before (x ∷ []) es)) up (All-tail (λ (e : Entry). e.addr < 2 ^ 64) x es small) is.others
      (λ e has. reads e (subst (λ (l : List Entry). Contains l e) (sym lists) (Contains-append_right (listed is.first) (listed is.rest) e has))) in
      record {
        children = one.parts ∷ rest.children;
        each = (one.tree, rest.each);
        lists = map-append entry_of one.parts.mapped (joined rest.children).mapped ∙ (λ i. one.lists i ++ rest.lists i) ∙ sym lists;
      }

  grows : (level : ℕ) → Grow level
  unfolding Subtree Nodes Finds
  grows zero want key nodes small is reads = grows_leaf want key nodes small is reads
  grows (suc level) want key nodes small is reads =
      let whole : listed nodes ≡ listed is.below = ap listed is.is ∙ listed-inner want.addr level is.entries is.below in
      let below = each_grows level want.high is.entries [] is.entries is.below (grows level) refl is.fits.0.in_range.0.ascend
      (All-weaker (λ (e : Entry). e.addr < want.addr) (λ (e : Entry). e.addr < 2 ^ 64) (λ e less. omega (arith, less, small)) is.entries is.fits.0.in_range.0.below) is.each
      (λ e has.
      (let r = reads e (subst (λ (l : List Entry). Contains l e) (sym whole) has) in
      let value : NodeRecord (suc (suc level)) r.finds.entries ≡ NodeRecord (suc (suc level)) is.entries = one_record pages want.addr key _ _ small r.finds.fits.0 is.fits.0 in
      let entries : r.finds.entries ≡ is.entries = cc in
      record {
        entry = r.finds.entry;
        bound = r.finds.bound;
        way = subst (λ (es : List Entry). IsWay es want.high e.low r.finds.entry r.finds.bound) entries r.finds.way;
        below = record { found = r.found; path = r.finds.rest; finds = r.finds.goes; content = r.content; reads = r.reads };
      })) in
      record {
        parts = node_parts want.addr key is.entries (joined below.children);
        tree = record { entries = is.entries; children = below.children; fits = is.fits; each = below.each; has = refl };
        lists = below.lists ∙ sym whole;
      }

-- ---- the tree of a root record is whole

pub tree_grown : (pages : List (List ℕ)) (root : Root) (nodes : List Node) (grove : Grove) → FitsRoot root → IsTreeOf root grove → NodesOf pages root nodes → ((e : Entry) → Contains (listed nodes) e → (content : List ℕ) × FindsContent pages grove e.low content)
    → (parts : Parts) × Tree pages root parts × (map entry_of parts.mapped ≡ listed nodes)
tree_grown pages root nodes grove fits of are reads =
    let up = above_leaves root.level fits.level_least in
    let whole = grows pages root.order (root.level - 1) (root_want root) root.key nodes (omega (arith, fits.addr, fits.head)) (subst (λ (n : ℕ). Nodes pages root.order n (root_want root) root.key nodes) (sym up) are)
    (λ e has.
    (let r = reads e has in
    let f = from_root pages root grove e.low r.1.found of r.1.finds in
    record { found = r.1.found; path = f.0; finds = f.1; content = r.0; reads = r.1.reads })) in
    (whole.parts, subst (λ (n : ℕ). Subtree pages root.order n (root_want root) root.key whole.parts) up whole.tree, whole.lists)

-- ---- each block of the device is looked up

-- what is found of a block, if anything, is one of these entries
abbrev pub IsAmong : List Entry → ℕ → Option Entry → Type 0
IsAmong es block None = Unit {0}
IsAmong es block (Some e) = Contains es e × (e.low ≡ block)

among_as : (es fs : List Entry) (block : ℕ) (found : Option Entry) → ((e : Entry) → Contains es e → Contains fs e) → IsAmong es block found → IsAmong fs block found
among_as es fs block None within is = tt
among_as es fs block (Some e) within is = (within e is.0, is.1)

leaf_among : (es : List Entry) (block : ℕ) (found : Option Entry) → IsEntryOf es block found → IsAmong es block found
leaf_among es block None is = tt
leaf_among es block (Some e) is = is

entry_more : (e : Entry) (es : List Entry) (block : ℕ) → (e.low ≡ block → ⊥) → (found : Option Entry) → IsEntryOf es block found → (there : Option Entry) × IsEntryOf (e ∷ es) block there
entry_more e es block other None all = (None, All-cons (λ (x : Entry). x.low ≡ block → ⊥) e es other all)
entry_more e es block other (Some x) has = (Some x, (Contains-tail e es x has.0, has.1))

-- a leaf has an entry of a block, or none
entry_at : (es : List Entry) (block : ℕ) → (found : Option Entry) × IsEntryOf es block found
entry_at [] block = (None, All-nil (λ (x : Entry). x.low ≡ block → ⊥))
entry_at (e ∷ es) block = elim (cases_eq e.low block) [
  | inl same ↦ (Some e, (Contains-head e es, same))
  | inr other ↦ let rest = entry_at es block in entry_more e es block other rest.0 rest.1
]

-- the entry below which a block lies
record WayTo (es : List Entry) (high block : ℕ) : Type 0 where
  entry : Entry
  before : List Entry
  after : List Entry
  split : es ≡ before ++ entry ∷ after
  from : entry.low ≤ block
  below : block < bound_of after high

way_to : (es : List Entry) (high block : ℕ) → bound_of es high ≤ block → block < high → WayTo es high block
way_to [] high block from to = absurd (omega (arith, from, to))
way_to (e ∷ es) high block from to = elim (cases_lt block (bound_of es high)) [
  | inl less ↦ record { entry = e; before = []; after = es; split = refl; from = from; below = less }
  | inr most ↦
      let rest = way_to es high block (omega (arith, most)) to in
      record { entry = rest.entry; before = e ∷ rest.before; after = rest.after; split = ap (λ (xs : List Entry). e ∷ xs) rest.split; from = rest.from; below = rest.below }
]

-- an inner node begins with its bound
begins : (es : List Entry) (low high block : ℕ) → 1 ≤ length es → IfSome (slice_get es 0) (λ e. e.low ≡ low) → low ≤ block → bound_of es high ≤ block
begins [] low high block some first le = omega (arith, some)
begins (e ∷ es) low high block some first le = omega (arith, first, le)

record Looks (pages : List (List ℕ)) (order level block : ℕ) (want : Want) (key : List ℕ) (nodes : List Node) : Type 0 where
  found : Option Entry
  path : List ℕ
  finds : Finds (FitsAt pages) order block found level want key path
  among : IsAmong (listed nodes) block found

record NodesAt (pages : List (List ℕ)) (order level : ℕ) (want : Want) (key : List ℕ) (nodes : List Node) : Type 0 where
  below : List Node
  are : Nodes pages order level want key below
  within : (e : Entry) → Contains (listed below) e → Contains (listed nodes) e

module _ (pages : List (List ℕ)) (order : ℕ) where
  nodes_at : (level high : ℕ) (before after : List Entry) (entry : Entry) (nodes : List Node) → Joined (λ b. Nodes pages order level b.want b.key) (branches order level high (before ++ entry ∷ after)) nodes
      → NodesAt pages order level (child_want order level entry (bound_of after high)) entry.key nodes
  nodes_at level high [] after entry nodes is =
      let lists : listed nodes ≡ listed is.first ++ listed is.rest = ap listed is.is ∙ listed-append is.first is.rest in
      record { below = is.first; are = is.one; within = λ e has. subst (λ (l : List Entry). Contains l e) (sym lists) (Contains-append_left (listed is.first) (listed is.rest) e has) }
  nodes_at level high (x ∷ before) after entry nodes is =
      let lists : listed nodes ≡ listed is.first ++ listed is.rest = ap listed is.is ∙ listed-append is.first is.rest in
      let rest = nodes_at level high before after entry is.rest is.others in
      record { below = rest.below; are = rest.are; within = λ e has. subst (λ (l : List Entry). Contains l e) (sym lists) (Contains-append_right (listed is.first) (listed is.rest) e (rest.within e has)) }

  looks : (level block : ℕ) (want : Want) (key : List ℕ) (nodes : List Node) → 2 ≤ order → (1 ≤ level → 1 ≤ want.least) → want.low ≤ block → block < want.high → Nodes pages order (suc level) want key nodes → Looks pages order level block want key nodes
  unfolding Nodes Finds
  looks zero block want key nodes two some from to is =
      let whole : listed nodes ≡ is.entries = leaf_listed pages order want is.entries is.below nodes is.each is.is in
      let here = entry_at is.entries block in
      record {
        found = here.0;
        path = want.addr ∷ [];
        finds = record { entries = is.entries; fits = is.fits; is = here.1; path_is = refl };
        among = subst (λ (es : List Entry). IsAmong es block here.0) (sym whole) (leaf_among is.entries block here.0 here.1);
      }
  looks (suc level) block want key nodes two some from to is =
      let whole : listed nodes ≡ listed is.below = ap listed is.is ∙ listed-inner want.addr level is.entries is.below in
      let least = is.fits.1.least in
      let many : 1 ≤ length is.entries = omega (arith, least, some (omega arith)) in
      let way = way_to is.entries want.high block (begins is.entries want.low want.high block many (is.fits.1.first (omega arith)) from) to in
      let next : Want = child_want order (suc level) way.entry (bound_of way.after want.high) in
      let at = nodes_at (suc level) want.high way.before way.after way.entry is.below (subst (λ (es : List Entry). Joined (λ b. Nodes pages order (suc level) b.want b.key) (branches order (suc level) want.high es) is.below) way.split is.each) in
      let half : 1 ≤ order / 2 = omega (arith, two) in
      let rest = looks level block next way.entry.key at.below two (λ one. half) way.from way.below at.are in
      record {
        found = rest.found;
        path = rest.path ++ want.addr ∷ [];
        finds = record {
          entries = is.entries;
          fits = is.fits;
          entry = way.entry;
          bound = bound_of way.after want.high;
          way = record { before = way.before; after = way.after; split = way.split; ends = refl; from = way.from; below = way.below };
          rest = rest.path;
          goes = rest.finds;
          path_is = refl;
        };
        among = subst (λ (es : List Entry). IsAmong es block rest.found) (sym whole) (among_as (listed at.below) (listed is.below) block rest.found at.within rest.among);
      }

least_root : (level : ℕ) → 1 ≤ level - 1 → 1 ≤ (if level == 1 then 0 else 2)
least_root level inner = elim (eqb_tells level 1) [
  | inl one ↦ absurd (let e = one.1 in omega (arith, e, inner))
  | inr more ↦ rw more.0 (omega arith)
]

-- a look-up in a tree without a change finds an entry of the block, or none
pub looked_up : (pages : List (List ℕ)) (root : Root) (nodes : List Node) (grove : Grove) (block : ℕ) → FitsRoot root → IsTreeOf root grove → NodesOf pages root nodes → block < root.blocks → (found : Option Entry) × GroveFinds pages block grove found × IsAmong (listed nodes) block found
looked_up pages root nodes grove block fits of are less =
    let up = above_leaves root.level fits.level_least in
    let one = looks pages root.order (root.level - 1) block (root_want root) root.key nodes (omega (arith, fits.order_least)) (least_root root.level) (omega arith) less (subst (λ (n : ℕ). Nodes pages root.order n (root_want root) root.key nodes) (sym up) are) in
    let down : FindsBelow (FitsAt pages) block (root_want root) root.key one.found = (one.path, one.finds) in
    let out : out-Child grove.top ≡ Kept 0 root.addr root.key = ap out-Child of.top ∙ made.outs-Kept 0 root.addr root.key in
    (one.found, subst (λ x. RootFindsBy (FitsAt pages) grove.order block (grove.level - 1) grove.blocks x one.found) (sym out) (subst (λ w. FindsBelow (FitsAt pages) block w root.key one.found) (sym (wanted_root root grove of)) down), one.among)

-- what it comes to is what the tree has
pub found_mapped : (pages : List (List ℕ)) (root : Root) (parts : Parts) (grove : Grove) (block : ℕ) (found : Option Entry) → FitsRoot root → IsTreeOf root grove → Tree pages root parts → GroveFinds pages block grove found → IsMappedAs parts.mapped block found
found_mapped pages root parts grove block found fits of tree is =
    let down = from_root pages root grove block found of is in
    found_is_mapped pages root.order (root.level - 1) block (root_want root) root.key down.0 parts found (omega (arith, fits.addr, fits.head)) (subst (λ (n : ℕ). Subtree pages root.order n (root_want root) root.key parts) (sym (above_leaves root.level fits.level_least)) tree) down.1
