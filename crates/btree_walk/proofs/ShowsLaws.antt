-- What the nodes of a tree list is what the tree has.
use Rattle.std.proofs.Common.{◌≡◌, ◌==◌, ℕ, zero, suc, List, [], ◌∷◌, ◌++◌, map, refl, sym, ap, subst, inl, inr, ◌∙◌, arith, append-nil, if◌then◌else◌}
use Rattle.std.specs.List.{filter}
use Rattle.std.proofs.lemmas.Bool.Decides.{eqb_tells}
use Rattle.std.proofs.lemmas.Grind.{flat_map-append}
use Rattle.std.proofs.lemmas.List.{map-append}
use Rattle.std.proofs.lemmas.List.Elements.{filter-append}
use Rattle.node_codec.specs.declared.body.Entry.{Entry}
use Rattle.page_store.specs.declared.wants.Want.{Want}
use Rattle.page_store.specs.Places.{child_want}
use Rattle.page_store.specs.Tree.{Place, Parts, joined, bound_of, EachChild, Subtree, SomeChild, WrongBelow}
use Rattle.btree_walk.specs.declared.branches.Branch.{Branch}
use Rattle.btree_walk.specs.Nodes.{Node, node_at, branches, Joined, Nodes, listed, FirstWrong}
use Rattle.btree_walk.specs.Mapped.{entry_of, is_node, node_addrs}
use Rattle.btree_walk.proofs.NodeLaws.{joined_none}

-- nodes that list what these parts have
pub record Shows (parts : Parts) (nodes : List Node) : Type 0 where
  pub entries : listed nodes ≡ map entry_of parts.mapped
  pub addrs : map (λ n. n.addr) nodes ≡ node_addrs parts.places

abbrev both : Parts → Parts → Parts
both p q = record { mapped = p.mapped ++ q.mapped; places = p.places ++ q.places }

abbrev pub leaf_part : ℕ → List Entry → List Entry
leaf_part level entries = if level == 1 then entries else []

pub inner_part : (level : ℕ) (entries : List Entry) → leaf_part (suc (suc level)) entries ≡ []
inner_part level entries = elim (eqb_tells (suc (suc level)) 1) [
  | inl one ↦ absurd (let e = one.1 in omega arith)
  | inr more ↦ rw more.0 refl
]

pub listed-inner : (addr level : ℕ) (entries : List Entry) (below : List Node) → listed (node_at addr (suc (suc level)) entries ∷ below) ≡ listed below
listed-inner addr level entries below = ap (λ xs. xs ++ listed below) (inner_part level entries)

pub listed-append : (ns ms : List Node) → listed (ns ++ ms) ≡ listed ns ++ listed ms
listed-append ns ms = flat_map-append (λ (n : Node). if n.level == 1 then n.entries else []) ns ms

node_addrs-append : (ps qs : List Place) → node_addrs (ps ++ qs) ≡ node_addrs ps ++ node_addrs qs
node_addrs-append ps qs = ap (λ (xs : List Place). map (λ (p : Place). p.addr) xs) (filter-append (λ (p : Place). is_node p.trace) ps qs) ∙ map-append (λ (p : Place). p.addr) (filter (λ (p : Place). is_node p.trace) ps) (filter (λ (p : Place). is_node p.trace) qs)

shows_both : (p q : Parts) (ns ms : List Node) → Shows p ns → Shows q ms → Shows (both p q) (ns ++ ms)
shows_both p q ns ms one two = record {
  entries = listed-append ns ms ∙ (λ i. one.entries i ++ two.entries i) ∙ sym (map-append entry_of p.mapped q.mapped);
  addrs = map-append (λ (n : Node). n.addr) ns ms ∙ (λ i. one.addrs i ++ two.addrs i) ∙ sym (node_addrs-append p.places q.places);
}

-- what a place has as a tree, and the nodes that list it
pub record Shown (pages : List (List ℕ)) (order level : ℕ) (want : Want) (key : List ℕ) (parts : Parts) : Type 0 where
  pub nodes : List Node
  pub are : Nodes pages order level want key nodes
  pub shows : Shows parts nodes

-- the nodes below the entries of a node, which list what the children have
record ShownBelow (pages : List (List ℕ)) (order level high : ℕ) (entries : List Entry) (children : List Parts) : Type 0 where
  pub below : List Node
  pub each : Joined (λ b. Nodes pages order level b.want b.key) (branches order level high entries) below
  pub shows : Shows (joined children) below

module _ (pages : List (List ℕ)) (order : ℕ) where
  each_shown : (level high : ℕ) (entries : List Entry) (children : List Parts) → ((want : Want) (key : List ℕ) (parts : Parts) → Subtree pages order level want key parts → Shown pages order level want key parts)
      → EachChild (Subtree pages order level) order level high entries children → ShownBelow pages order level high entries children
  each_shown level high [] [] shown each = record { below = []; each = refl; shows = record { entries = refl; addrs = refl } }
  each_shown level high [] (parts ∷ children) shown each = absurd each
  each_shown level high (entry ∷ entries) [] shown each = absurd each
  each_shown level high (entry ∷ entries) (parts ∷ children) shown each =
      let first = shown (child_want order level entry (bound_of entries high)) entry.key parts each.0 in
      let rest = each_shown level high entries children shown each.1 in
      record {
        below = first.nodes ++ rest.below;
        each = record { first = first.nodes; rest = rest.below; one = first.are; others = rest.each; is = refl };
        shows = shows_both parts (joined children) first.nodes rest.below first.shows rest.shows;
      }

  -- the entries of a leaf are those of its data records
  leaf_entries : (high : ℕ) (entries : List Entry) (children : List Parts) → EachChild (Subtree pages order zero) order zero high entries children → entries ≡ map entry_of (joined children).mapped
  unfolding Subtree
  leaf_entries high [] [] each = refl
  leaf_entries high [] (parts ∷ children) each = absurd each
  leaf_entries high (entry ∷ entries) [] each = absurd each
  leaf_entries high (entry ∷ entries) (parts ∷ children) each =
      let rest = leaf_entries high entries children each.1 in
      ap (λ es. entry ∷ es) rest ∙ ap (λ (p : Parts). map entry_of (p.mapped ++ (joined children).mapped)) (sym each.0.has)

  leaf_addrs : (high : ℕ) (entries : List Entry) (children : List Parts) → EachChild (Subtree pages order zero) order zero high entries children → node_addrs (joined children).places ≡ []
  unfolding Subtree
  leaf_addrs high [] [] each = refl
  leaf_addrs high [] (parts ∷ children) each = absurd each
  leaf_addrs high (entry ∷ entries) [] each = absurd each
  leaf_addrs high (entry ∷ entries) (parts ∷ children) each =
      ap (λ (p : Parts). node_addrs (p.places ++ (joined children).places)) each.0.has ∙ leaf_addrs high entries children each.1

  -- the nodes of a tree list what it has
  pub tree_shown : (level : ℕ) (want : Want) (key : List ℕ) (parts : Parts) → Subtree pages order (suc level) want key parts → Shown pages order (suc level) want key parts
  unfolding Subtree Nodes
  tree_shown zero want key parts is = record {
    nodes = node_at want.addr 1 is.entries ∷ [];
    are = record {
      entries = is.entries;
      fits = is.fits;
      below = [];
      each = joined_none (λ b. Nodes pages order zero b.want b.key) (branches order zero want.high is.entries) (λ b. refl);
      is = refl;
    };
    shows = subst (λ (p : Parts). Shows p (node_at want.addr 1 is.entries ∷ [])) (sym is.has) record {
      entries = append-nil is.entries ∙ leaf_entries want.high is.entries is.children is.each;
      addrs = ap (λ addrs. want.addr ∷ addrs) (sym (leaf_addrs want.high is.entries is.children is.each));
    };
  }
  tree_shown (suc level) want key parts is =
      let below = each_shown (suc level) want.high is.entries is.children (tree_shown level) is.each in
      let nodes = node_at want.addr (suc (suc level)) is.entries ∷ below.below in
      record {
        nodes = nodes;
        are = record { entries = is.entries; fits = is.fits; below = below.below; each = below.each; is = refl };
        shows = subst (λ (p : Parts). Shows p nodes) (sym is.has) record {
          entries = listed-inner want.addr level is.entries below.below ∙ below.shows.entries;
          addrs = ap (λ addrs. want.addr ∷ addrs) below.shows.addrs;
        };
      }

-- ---- the first node that doesn't fit is a wrong place

some_branch : (Below : Want → List ℕ → Type 0) (order level high : ℕ) (entries : List Entry) (before after : List Branch) (branch : Branch) → branches order level high entries ≡ before ++ branch ∷ after → Below branch.want branch.key → SomeChild Below order level high entries
some_branch Below order level high [] [] after branch split below = absurd cc
some_branch Below order level high [] (b ∷ before) after branch split below = absurd cc
some_branch Below order level high (entry ∷ entries) [] after branch split below =
    let same : record { want = child_want order level entry (bound_of entries high); key = entry.key } ≡ branch = cc in
    inl (subst (λ (b : Branch). Below b.want b.key) (sym same) below)
some_branch Below order level high (entry ∷ entries) (b ∷ before) after branch split below =
    let rest : branches order level high entries ≡ before ++ branch ∷ after = cc in
    inr (some_branch Below order level high entries before after branch rest below)

pub first_wrong_is_wrong : (pages : List (List ℕ)) (addr order level : ℕ) (want : Want) (key : List ℕ) → FirstWrong pages addr order level want key → WrongBelow pages addr order level want key
unfolding FirstWrong WrongBelow
first_wrong_is_wrong pages addr order zero want key wrong = absurd wrong
first_wrong_is_wrong pages addr order (suc level) want key (inl misfit) = inl misfit
first_wrong_is_wrong pages addr order (suc level) want key (inr later) = inr record {
  entries = later.entries;
  fits = later.fits;
  some = some_branch (WrongBelow pages addr order level) order level want.high later.entries later.before later.after later.branch later.split
      (first_wrong_is_wrong pages addr order level later.branch.want later.branch.key later.stops);
}
