-- How many nodes are in memory.
use Rattle.std.proofs.Common.{◌≡◌, ℕ, zero, suc, ◌+◌, ◌-◌, ◌<◌, ◌≤◌, List, [], ◌∷◌, ◌++◌, length, take, drop, get_or, set, vec_capacity, refl, sym, ap, ◌∙◌, arith}
use Rattle.std.specs.List.{insert}
use Rattle.std.proofs.lemmas.List.{take-append-drop}
use Rattle.std.specs.declared.vec.Vec.{Vec}
use Rattle.std.specs.declared.alloc.Global.{Global}
use Rattle.btree_twigs.specs.declared.twigs.Child.{Child}
use Rattle.btree_twigs.specs.declared.twigs.Child.TheVariants as made
use Rattle.btree_twigs.specs.declared.twigs.Twig.{Twig, Twig-F, roll-Twig}
use Rattle.btree_twigs.specs.Stubs.{children_of, sum_by, nodes_in, nodes, nodes_below}
use Rattle.btree_twigs.proofs.ListLaws.{split_here}
use Rattle.btree_twigs.proofs.Nodes.{children_of_roll}
use Rattle.btree_twigs.specs.Levels.{IsCut}
use Rattle.btree_twigs.specs.Updates.{room_of, room_in, child_room, rooms_in, rooms, rooms_below, list_rooms, TakesRoom}
use Rattle.btree_twigs.proofs.Ways.{set_on_way, insert_on_way}

pub sum_append : {C : Type 0} (f : C → ℕ) (xs ys : List C) → sum_by f (xs ++ ys) ≡ sum_by f xs + sum_by f ys
sum_append f [] ys = omega arith
sum_append f (x ∷ xs) ys = omega (arith, sum_append f xs ys)

pub no_nodes : (cs : List Child) → sum_by (nodes 0) cs ≡ 0
unfolding nodes
no_nodes [] = refl
no_nodes (c ∷ cs) = omega (arith, no_nodes cs)

pub nodes_grown : (level low : ℕ) (twig : Twig) → nodes (suc level) (made.Grown low twig) ≡ suc (nodes_below level twig)
unfolding nodes
nodes_grown level low twig = ap (nodes_in (nodes level)) (made.outs-Grown low twig)

pub nodes_roll : (level : ℕ) (t : Twig-F Child Twig) → nodes_below level (roll-Twig t) ≡ sum_by (nodes level) t.children.items
nodes_roll level t = ap (sum_by (nodes level)) (children_of_roll t)

pub nodes_cut : (level lev lo lev' k : ℕ) (old : Twig) (from to : Vec Child Global) → from.items ≡ take k (children_of old) → to.items ≡ drop k (children_of old) →
    nodes_below level (roll-Twig (record { level = lev; children = from })) + nodes (suc level) (made.Grown lo (roll-Twig (record { level = lev'; children = to }))) ≡ nodes_below level old + 1
nodes_cut level lev lo lev' k old from to front back =
    let a = nodes_roll level (record { level = lev; children = from }) in
    let b = nodes_roll level (record { level = lev'; children = to }) in
    let g = nodes_grown level lo (roll-Twig (record { level = lev'; children = to })) in
    let all : sum_by (nodes level) (children_of old) ≡ sum_by (nodes level) from.items + sum_by (nodes level) to.items
    = ap (sum_by (nodes level)) (sym (take-append-drop k (children_of old)) ∙ ap (λ xs. xs ++ drop k (children_of old)) (sym front) ∙ ap (λ xs. from.items ++ xs) (sym back)) ∙ sum_append (nodes level) from.items to.items in
    omega (arith, a, b, g, all)

pub leaf_nodes : (level lev : ℕ) (t : Twig) (new : Vec Child Global) → lev ≡ suc level → lev ≡ 1 → nodes_below level (roll-Twig (record { level = lev; children = new })) ≤ nodes_below level t + level
leaf_nodes zero lev t new is one = omega (arith, nodes_roll 0 (record { level = lev; children = new }), no_nodes new.items)
leaf_nodes (suc level) lev t new is one = absurd (omega (arith, is, one))

module _ (level lev n i : ℕ) (t : Twig) (c d : Child) (new : Vec Child Global) (is : suc i ≡ n) (lt : i < length (children_of t)) (here : c ≡ get_or (children_of t) i c) where
  olds : nodes_below level t ≡ sum_by (nodes level) (take i (children_of t)) + (nodes level c + sum_by (nodes level) (drop (suc i) (children_of t)))
  olds = ap (sum_by (nodes level)) (split_here (children_of t) i c lt here) ∙ sum_append (nodes level) (take i (children_of t)) (c ∷ drop (suc i) (children_of t))

  pub one_nodes : new.items ≡ set (children_of t) (n - 1) d → nodes level d + 0 ≤ nodes level c + level →
      nodes_below level (roll-Twig (record { level = lev; children = new })) ≤ nodes_below level t + level
  one_nodes e le =
      let r = nodes_roll level (record { level = lev; children = new }) in
      let s = ap (sum_by (nodes level)) (e ∙ set_on_way n i (children_of t) d is lt) ∙ sum_append (nodes level) (take i (children_of t)) (d ∷ drop (suc i) (children_of t)) in
      let o = olds in
      omega (arith, r, s, o, le)

  pub two_nodes : (part : Child) → new.items ≡ insert (set (children_of t) (n - 1) d) n part → nodes level d + (nodes level part + 0) ≤ nodes level c + level →
      nodes_below level (roll-Twig (record { level = lev; children = new })) ≤ nodes_below level t + level
  two_nodes part e le =
      let r = nodes_roll level (record { level = lev; children = new }) in
      let s = ap (sum_by (nodes level)) (e ∙ insert_on_way n i (children_of t) d part is lt) ∙ sum_append (nodes level) (take i (children_of t)) (d ∷ part ∷ drop (suc i) (children_of t)) in
      let o = olds in
      omega (arith, r, s, o, le)

pub no_rooms : (cs : List Child) → sum_by (rooms 0) cs ≡ 0
unfolding rooms
no_rooms [] = refl
no_rooms (c ∷ cs) = omega (arith, no_rooms cs)

pub rooms_grown : (level low : ℕ) (twig : Twig) → rooms (suc level) (made.Grown low twig) ≡ room_of twig + rooms_below level twig
unfolding rooms
rooms_grown level low twig = ap (rooms_in (rooms level)) (made.outs-Grown low twig)

rooms_roll : (level : ℕ) (t : Twig-F Child Twig) → rooms_below level (roll-Twig t) ≡ sum_by (rooms level) t.children.items
rooms_roll level t = ap (sum_by (rooms level)) (children_of_roll t)

pub leaf_rooms : (level lev : ℕ) (t : Twig) (new : Vec Child Global) → lev ≡ suc level → lev ≡ 1 → rooms_below level (roll-Twig (record { level = lev; children = new })) ≡ rooms_below level t
leaf_rooms zero lev t new is one = rooms_roll 0 (record { level = lev; children = new }) ∙ no_rooms new.items ∙ sym (no_rooms (children_of t))
leaf_rooms (suc level) lev t new is one = absurd (omega (arith, is, one))

-- what is cut off a node has the room of a spare list
pub split_rooms : (order level : ℕ) (old new : Twig) (part : Child) (spares left : Vec (Vec Child Global) Global) → IsCut order old new part → TakesRoom spares left part →
    rooms_below level new + (rooms (suc level) part + list_rooms left.items) ≡ rooms_below level old + list_rooms spares.items
split_rooms order level old new part spares left c t =
    let g = ap (rooms (suc level)) c.is ∙ rooms_grown level _ c.right in
    let r : child_room part ≡ room_of c.right = ap child_room c.is ∙ ap room_in (made.outs-Grown _ c.right) in
    let all = ap (sum_by (rooms level)) c.all ∙ sum_append (rooms level) (children_of new) (children_of c.right) in
    let lists = ap list_rooms t.all ∙ sum_append (λ (v : Vec Child Global). vec_capacity v) left.items (t.last ∷ []) in
    omega (arith, g, r, all, lists, t.has)

module _ (level lev n i more less : ℕ) (t : Twig) (c d : Child) (new : Vec Child Global) (is : suc i ≡ n) (lt : i < length (children_of t)) (here : c ≡ get_or (children_of t) i c) where
  were : rooms_below level t ≡ sum_by (rooms level) (take i (children_of t)) + (rooms level c + sum_by (rooms level) (drop (suc i) (children_of t)))
  were = ap (sum_by (rooms level)) (split_here (children_of t) i c lt here) ∙ sum_append (rooms level) (take i (children_of t)) (c ∷ drop (suc i) (children_of t))

  pub one_rooms : new.items ≡ set (children_of t) (n - 1) d → rooms level d + (0 + more) ≡ rooms level c + less →
      rooms_below level (roll-Twig (record { level = lev; children = new })) + more ≡ rooms_below level t + less
  one_rooms e le =
      let r = rooms_roll level (record { level = lev; children = new }) in
      let s = ap (sum_by (rooms level)) (e ∙ set_on_way n i (children_of t) d is lt) ∙ sum_append (rooms level) (take i (children_of t)) (d ∷ drop (suc i) (children_of t)) in
      let o = were in
      omega (arith, r, s, o, le)

  pub two_rooms : (part : Child) → new.items ≡ insert (set (children_of t) (n - 1) d) n part → rooms level d + ((rooms level part + 0) + more) ≡ rooms level c + less →
      rooms_below level (roll-Twig (record { level = lev; children = new })) + more ≡ rooms_below level t + less
  two_rooms part e le =
      let r = rooms_roll level (record { level = lev; children = new }) in
      let s = ap (sum_by (rooms level)) (e ∙ insert_on_way n i (children_of t) d part is lt) ∙ sum_append (rooms level) (take i (children_of t)) (d ∷ part ∷ drop (suc i) (children_of t)) in
      let o = were in
      omega (arith, r, s, o, le)
