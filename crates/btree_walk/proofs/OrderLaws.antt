-- Listed entries are in order and within bounds, and no place of a tree lies above its root node.
use Rattle.std.proofs.Common.{◌≡◌, ℕ, zero, suc, ◌-◌, ◌<◌, ◌≤◌, List, [], ◌∷◌, map, sym, ap, subst, ◌∙◌, arith, append-nil}
use Rattle.std.specs.Prelude.{All, AllPairs}
use Rattle.std.specs.List.Sorted.{IsStrictlyIncreasing}
use Rattle.std.proofs.lemmas.List.Elements.{All-nil, All-cons, All-head, All-tail, All-weaker, All-append}
use Rattle.sdbt_base.specs.Traces.{DataOf, NodeOver}
use Rattle.node_codec.specs.declared.body.Entry.{Entry}
use Rattle.root_codec.specs.declared.root.Root.{Root}
use Rattle.root_codec.specs.RootRecord.{FitsRoot}
use Rattle.page_store.specs.declared.wants.Want.{Want}
use Rattle.page_store.specs.Places.{root_want, child_want}
use Rattle.page_store.specs.Tree.{Place, Parts, joined, bound_of, EachChild, Subtree, Tree}
use Rattle.btree_walk.specs.Nodes.{Node, node_at, branches, Joined, Nodes, NodesOf, listed}
use Rattle.btree_walk.specs.Mapped.{ComesBefore, IsListedWithin}
use Rattle.btree_walk.proofs.ShowsLaws.{listed-inner, listed-append}
use Rattle.btree_walk.proofs.ListLaws.{none_below}
use Rattle.btree_walk.proofs.ApartLaws.{AllPairs-none, AllPairs-append, bound_most, from_bound}
use Rattle.btree_walk.proofs.LevelLaws.{above_leaves}
use Rattle.btree_walk.proofs.TurnLaws.{lows, ascends}
use Rattle.btree_walk.proofs.WayLaws.{up_tail}

wider : (low high addr low' high' addr' : ℕ) (es : List Entry) → low ≤ low' → high' ≤ high → addr' ≤ addr → All (IsListedWithin low' high' addr') es → All (IsListedWithin low high addr) es
wider low high addr low' high' addr' es l h a all =
    All-weaker (IsListedWithin low' high' addr') (IsListedWithin low high addr)
    (λ e is. (let from = is.from in let to = is.to in let under = is.under in record { from = omega arith; to = omega arith; under = omega arith })) es all

-- what stands below a place lists entries within its bounds
abbrev pub ListWithin : (Want → List ℕ → List Node → Type 0) → Type 0
ListWithin Below = (want : Want) (key : List ℕ) (nodes : List Node) → Below want key nodes → All (IsListedWithin want.low want.high want.addr) (listed nodes)

each_within : (Below : Want → List ℕ → List Node → Type 0) (order level low high addr : ℕ) (es : List Entry) (nodes : List Node) → ListWithin Below → All (λ e. low ≤ e.low) es → All (λ e. e.low < high) es → All (λ e. e.addr < addr) es
    → Joined (λ b. Below b.want b.key) (branches order level high es) nodes → All (IsListedWithin low high addr) (listed nodes)
each_within Below order level low high addr [] nodes within from to under is =
    subst (λ (ns : List Node). All (IsListedWithin low high addr) (listed ns)) (sym is) (All-nil (IsListedWithin low high addr))
each_within Below order level low high addr (e ∷ es) nodes within from to under is =
    let to' = All-tail (λ (x : Entry). x.low < high) e es to in
    let below = All-head (λ (x : Entry). x.addr < addr) e es under in
    let first = within (child_want order level e (bound_of es high)) e.key is.first is.one in
    let first' = wider low high addr e.low (bound_of es high) e.addr (listed is.first) (All-head (λ (x : Entry). low ≤ x.low) e es from) (bound_most high es to') (omega arith) first in
    let rest = each_within Below order level low high addr es is.rest within (All-tail (λ (x : Entry). low ≤ x.low) e es from) to' (All-tail (λ (x : Entry). x.addr < addr) e es under) is.others in
    let both = All-append (IsListedWithin low high addr) (listed is.first) (listed is.rest) first' rest in
    subst (λ (ns : List Node). All (IsListedWithin low high addr) (listed ns)) (sym is.is)
    (subst (All (IsListedWithin low high addr)) (sym (listed-append is.first is.rest)) both)

module _ (pages : List (List ℕ)) (order : ℕ) where
  -- a leaf lists its own
  pub leaf_listed : (want : Want) (entries : List Entry) (below nodes : List Node) → Joined (λ b. Nodes pages order zero b.want b.key) (branches order zero want.high entries) below → nodes ≡ node_at want.addr 1 entries ∷ below → listed nodes ≡ entries
  leaf_listed want entries below nodes each is =
      let none : below ≡ [] = none_below pages order (branches order zero want.high entries) below each in
      ap listed (is ∙ ap (λ (ns : List Node). node_at want.addr 1 entries ∷ ns) none) ∙ append-nil entries

  pub nodes_within : (level : ℕ) → ListWithin (Nodes pages order (suc level))
  unfolding Nodes
  nodes_within zero want key nodes is =
      let fits = is.fits in
      let all : All (IsListedWithin want.low want.high want.addr) is.entries = (λ k d h. record { from = fits.1.from_low k d h; to = fits.1.below_high k d h; under = fits.0.in_range.0.below k d h }) in
      subst (All (IsListedWithin want.low want.high want.addr)) (sym (leaf_listed want is.entries is.below nodes is.each is.is)) all
  nodes_within (suc level) want key nodes is =
      let below = each_within (Nodes pages order (suc level)) order (suc level) want.low want.high want.addr is.entries is.below (nodes_within level) is.fits.1.from_low is.fits.1.below_high is.fits.0.in_range.0.below is.each in
      subst (All (IsListedWithin want.low want.high want.addr)) (sym (ap listed is.is ∙ listed-inner want.addr level is.entries is.below)) below

  -- ---- in order

  cross : (mid : ℕ) (es fs : List Entry) → All (λ e. e.low < mid) es → All (λ f. mid ≤ f.low) fs → All (λ e. All (ComesBefore e) fs) es
  cross mid [] fs below from = All-nil (λ (e : Entry). All (ComesBefore e) fs)
  cross mid (e ∷ es) fs below from =
      let here = All-head (λ (x : Entry). x.low < mid) e es below in
      All-cons (λ (x : Entry). All (ComesBefore x) fs) e es
      (All-weaker (λ (f : Entry). mid ≤ f.low) (ComesBefore e) (λ f at. omega arith) fs from)
      (cross mid es fs (All-tail (λ (x : Entry). x.low < mid) e es below) from)

  each_ordered : (level high addr : ℕ) (es : List Entry) (nodes : List Node) → ((want : Want) (key : List ℕ) (ns : List Node) → Nodes pages order (suc level) want key ns → AllPairs ComesBefore (listed ns))
      → IsStrictlyIncreasing (lows es) → All (λ e. e.low < high) es → All (λ e. e.addr < addr) es
      → Joined (λ b. Nodes pages order (suc level) b.want b.key) (branches order (suc level) high es) nodes → AllPairs ComesBefore (listed nodes)
  each_ordered level high addr [] nodes ordered up to under is =
      subst (λ (ns : List Node). AllPairs ComesBefore (listed ns)) (sym is) (AllPairs-none ComesBefore)
  each_ordered level high addr (e ∷ es) nodes ordered up to under is =
      let want = child_want order (suc level) e (bound_of es high) in
      let to' = All-tail (λ (x : Entry). x.low < high) e es to in
      let under' = All-tail (λ (x : Entry). x.addr < addr) e es under in
      let up' = up_tail e es up in
      let first = All-weaker (IsListedWithin e.low (bound_of es high) e.addr) (λ (x : Entry). x.low < bound_of es high) (λ x h. h.to) (listed is.first) (nodes_within level want e.key is.first is.one) in
      let rest = All-weaker (IsListedWithin (bound_of es high) high addr) (λ (x : Entry). bound_of es high ≤ x.low) (λ x h. h.from) (listed is.rest)
      (each_within (Nodes pages order (suc level)) order (suc level) (bound_of es high) high addr es is.rest (nodes_within level) (from_bound high es up') to' under' is.others) in
      let both = AllPairs-append ComesBefore (listed is.first) (listed is.rest) (ordered want e.key is.first is.one) (each_ordered level high addr es is.rest ordered up' to' under' is.others)
      (cross (bound_of es high) (listed is.first) (listed is.rest) first rest) in
      subst (λ (ns : List Node). AllPairs ComesBefore (listed ns)) (sym is.is) (subst (AllPairs ComesBefore) (sym (listed-append is.first is.rest)) both)

  nodes_ordered : (level : ℕ) (want : Want) (key : List ℕ) (nodes : List Node) → Nodes pages order (suc level) want key nodes → AllPairs ComesBefore (listed nodes)
  unfolding Nodes
  nodes_ordered zero want key nodes is =
      let up = is.fits.0.in_range.0.ascend in
      let all : AllPairs ComesBefore is.entries = (λ i j d less within. ascends is.entries i j d up less within) in
      subst (AllPairs ComesBefore) (sym (leaf_listed want is.entries is.below nodes is.each is.is)) all
  nodes_ordered (suc level) want key nodes is =
      let below = each_ordered level want.high want.addr is.entries is.below (nodes_ordered level) is.fits.0.in_range.0.ascend is.fits.1.below_high is.fits.0.in_range.0.below is.each in
      subst (AllPairs ComesBefore) (sym (ap listed is.is ∙ listed-inner want.addr level is.entries is.below)) below

pub root_within : (pages : List (List ℕ)) (root : Root) (nodes : List Node) → FitsRoot root → NodesOf pages root nodes → All (IsListedWithin 0 root.blocks root.addr) (listed nodes)
root_within pages root nodes fits are =
    nodes_within pages root.order (root.level - 1) (root_want root) root.key nodes (subst (λ (n : ℕ). Nodes pages root.order n (root_want root) root.key nodes) (sym (above_leaves root.level fits.level_least)) are)

pub root_ordered : (pages : List (List ℕ)) (root : Root) (nodes : List Node) → FitsRoot root → NodesOf pages root nodes → AllPairs ComesBefore (listed nodes)
root_ordered pages root nodes fits are =
    nodes_ordered pages root.order (root.level - 1) (root_want root) root.key nodes (subst (λ (n : ℕ). Nodes pages root.order n (root_want root) root.key nodes) (sym (above_leaves root.level fits.level_least)) are)

-- ---- addresses

abbrev IsUpTo : ℕ → Place → Type 0
IsUpTo addr place = place.addr ≤ addr

each_up_to : (Below : Want → List ℕ → Parts → Type 0) (order level high addr : ℕ) (entries : List Entry) (children : List Parts) → ((want : Want) (key : List ℕ) (parts : Parts) → Below want key parts → All (IsUpTo want.addr) parts.places)
    → All (λ e. e.addr < addr) entries → EachChild Below order level high entries children → All (IsUpTo addr) (joined children).places
each_up_to Below order level high addr [] [] up_to under each = All-nil (IsUpTo addr)
each_up_to Below order level high addr [] (parts ∷ children) up_to under each = absurd each
each_up_to Below order level high addr (e ∷ es) [] up_to under each = absurd each
each_up_to Below order level high addr (e ∷ es) (parts ∷ children) up_to under each =
    let less = All-head (λ (x : Entry). x.addr < addr) e es under in
    All-append (IsUpTo addr) parts.places (joined children).places
    (All-weaker (IsUpTo e.addr) (IsUpTo addr) (λ p at. omega arith) parts.places (up_to (child_want order level e (bound_of es high)) e.key parts each.0))
    (each_up_to Below order level high addr es children up_to (All-tail (λ (x : Entry). x.addr < addr) e es under) each.1)

-- no place below another one has a later address
pub subtree_up_to : (pages : List (List ℕ)) (order level : ℕ) (want : Want) (key : List ℕ) (parts : Parts) → Subtree pages order level want key parts → All (IsUpTo want.addr) parts.places
unfolding Subtree
subtree_up_to pages order zero want key parts is =
    let here : Place = record { addr = want.addr; key = key; trace = DataOf want.low } in
    subst (λ (p : Parts). All (IsUpTo want.addr) p.places) (sym is.has) (All-cons (IsUpTo want.addr) here [] (omega arith) (All-nil (IsUpTo want.addr)))
subtree_up_to pages order (suc level) want key parts is =
    let here : Place = record { addr = want.addr; key = key; trace = NodeOver (map (λ (e : Entry). e.addr) is.entries) } in
    let below = each_up_to (Subtree pages order level) order level want.high want.addr is.entries is.children (subtree_up_to pages order level) is.fits.0.in_range.0.below is.each in
    subst (λ (p : Parts). All (IsUpTo want.addr) p.places) (sym is.has) (All-cons (IsUpTo want.addr) here (joined is.children).places (omega arith) below)

pub tree_up_to : (pages : List (List ℕ)) (root : Root) (parts : Parts) → Tree pages root parts → All (λ p. p.addr ≤ root.addr) parts.places
tree_up_to pages root parts is = subtree_up_to pages root.order root.level (root_want root) root.key parts is
