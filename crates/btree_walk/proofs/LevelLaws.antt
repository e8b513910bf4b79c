-- How high a tree can be.
use Rattle.std.proofs.Common.{◌≡◌, ℕ, suc, ◌-◌, ◌*◌, ◌/◌, ◌^◌, ◌≤◌, List, length, map, sym, ap, subst, inl, inr, ◌∙◌, arith}
use Rattle.std.proofs.Math.Pow.{pow_mono}
use Rattle.std.proofs.Math.Nat.{pow-le-pow_left}
use Rattle.std.proofs.lemmas.Bool.{cases_lt}
use Rattle.std.proofs.lemmas.List.{length-map}
use Rattle.root_codec.specs.declared.root.Root.{Root}
use Rattle.root_codec.specs.RootRecord.{FitsRoot}
use Rattle.page_store.specs.Places.{root_want}
use Rattle.page_store.specs.Tree.{Parts, Subtree, Tree}
use Rattle.btree_walk.specs.Nodes.{Node, Nodes, NodesOf, listed}
use Rattle.btree_walk.specs.Mapped.{entry_of, node_addrs}
use Rattle.btree_walk.proofs.ShowsLaws.{Shown, tree_shown}
use Rattle.btree_walk.proofs.OneWalkLaws.{one_nodes}
use Rattle.btree_walk.proofs.ListLaws.{few_listed}

pub above_leaves : (level : ℕ) → 1 ≤ level → suc (level - 1) ≡ level
above_leaves level some = omega arith

-- the nodes of a tree, and that they list what it has
pub root_shown : (pages : List (List ℕ)) (root : Root) (parts : Parts) → FitsRoot root → Tree pages root parts → Shown pages root.order root.level (root_want root) root.key parts
root_shown pages root parts fits is =
    let again = above_leaves root.level fits.level_least in
    let is' = subst (λ (n : ℕ). Subtree pages root.order n (root_want root) root.key parts) (sym again) is in
    subst (λ (n : ℕ). Shown pages root.order n (root_want root) root.key parts) again (tree_shown pages root.order (root.level - 1) (root_want root) root.key parts is')

same_nodes : (pages : List (List ℕ)) (root : Root) (parts : Parts) (nodes : List Node) → (fits : FitsRoot root) → (is : Tree pages root parts) → NodesOf pages root nodes → (root_shown pages root parts fits is).nodes ≡ nodes
same_nodes pages root parts nodes fits is are =
    one_nodes pages root.order root.level (root_want root) root.key (root_shown pages root parts fits is).nodes nodes (omega (arith, fits.addr, fits.head)) (root_shown pages root parts fits is).are are

pub tree_entries : (pages : List (List ℕ)) (root : Root) (parts : Parts) (nodes : List Node) → FitsRoot root → Tree pages root parts → NodesOf pages root nodes → listed nodes ≡ map entry_of parts.mapped
tree_entries pages root parts nodes fits is are =
    ap listed (sym (same_nodes pages root parts nodes fits is are)) ∙ (root_shown pages root parts fits is).shows.entries

pub tree_addrs : (pages : List (List ℕ)) (root : Root) (parts : Parts) (nodes : List Node) → FitsRoot root → Tree pages root parts → NodesOf pages root nodes → map (λ n. n.addr) nodes ≡ node_addrs parts.places
tree_addrs pages root parts nodes fits is are =
    ap (λ (ns : List Node). map (λ (n : Node). n.addr) ns) (sym (same_nodes pages root parts nodes fits is are)) ∙ (root_shown pages root parts fits is).shows.addrs

-- a tree lists no more entries than it has blocks
pub root_few : (pages : List (List ℕ)) (root : Root) (nodes : List Node) → FitsRoot root → NodesOf pages root nodes → length (listed nodes) ≤ root.blocks
root_few pages root nodes fits are =
    let again = above_leaves root.level fits.level_least in
    let are' = subst (λ (n : ℕ). Nodes pages root.order n (root_want root) root.key nodes) (sym again) are in
    let few = few_listed pages root.order (root.level - 1) (root_want root) root.key nodes (omega arith) are' in
    omega arith

pub tree_few : (pages : List (List ℕ)) (root : Root) (parts : Parts) → FitsRoot root → Tree pages root parts → length parts.mapped ≤ root.blocks
tree_few pages root parts fits is =
    let shown = root_shown pages root parts fits is in
    let few = root_few pages root shown.nodes fits shown.are in
    let same : length (listed shown.nodes) ≡ length parts.mapped = ap length shown.shows.entries ∙ length-map parts.mapped entry_of in
    omega arith

-- so many entries, of at most so many blocks, are of no level above 20
pub low_level : (order level count : ℕ) → 4 ≤ order → count ≤ 1048576 → 2 * (order / 2) ^ (level - 1) ≤ count → level ≤ 20
low_level order level count four few many = elim (cases_lt 20 level) [
  | inl above ↦
      let base : 2 ≤ order / 2 = omega arith in
      let high : 20 ≤ level - 1 = omega arith in
      let one : 2 ^ 20 ≤ 2 ^ (level - 1) = pow_mono high in
      let two : 2 ^ (level - 1) ≤ (order / 2) ^ (level - 1) = pow-le-pow_left base (level - 1) in
      absurd (omega arith)
  | inr not_above ↦ omega arith
]
