-- How many nodes are in memory, and that they are fewer than the blocks.
use Rattle.std.proofs.Common.{◌≡◌, ℕ, zero, suc, ◌+◌, ◌-◌, ◌/◌, ◌<◌, ◌≤◌, ◌^◌, List, [], ◌∷◌, ◌++◌, length, take, drop, get_or, refl, sym, ap, subst, ◌∙◌, arith}
use Rattle.std.proofs.lemmas.List.{take_more}
use Rattle.btree_twigs.specs.declared.twigs.Child.{Child, Child-F, out-Child}
use Rattle.btree_twigs.specs.declared.twigs.Child.TheOpen.{Kept, Grown}
use Rattle.btree_twigs.specs.declared.twigs.Child.TheVariants as made
use Rattle.btree_twigs.specs.declared.twigs.Twig.{Twig}
use Rattle.btree_twigs.specs.Stubs.{start_by, low_in, low_of, children_of, sum_by, nodes_in, nodes, nodes_below}
use Rattle.btree_twigs.specs.Shape.{EachBy, IsChildBy, IsChild, IsTwig}
use Rattle.btree_twigs.proofs.ListLaws.{split_here}
use Rattle.btree_twigs.proofs.Children.{begins_le}
use Rattle.btree_twigs.proofs.Counts.{sum_append, no_nodes}
use Rattle.btree_update.specs.Roots.{IsRootBy, IsRoot}

-- ---- one child more

take_here : (xs : List Child) (i : ℕ) (x : Child) → i < length xs → x ≡ get_or xs i x → take (i + 1) xs ≡ take i xs ++ x ∷ []
take_here xs i x lt is = take_more xs i x lt ∙ ap (λ y. take i xs ++ y ∷ []) (sym is)

pub sum_more : (f : Child → ℕ) (xs : List Child) (i : ℕ) (x : Child) → i < length xs → x ≡ get_or xs i x → sum_by f (take i xs) + f x ≡ sum_by f (take (i + 1) xs)
sum_more f xs i x lt is = omega (arith, ap (sum_by f) (take_here xs i x lt is), sum_append f (take i xs) (x ∷ []))

pub sum_within : (f : Child → ℕ) (xs : List Child) (i : ℕ) (x : Child) → i < length xs → x ≡ get_or xs i x → sum_by f (take i xs) + f x ≤ sum_by f xs
sum_within f xs i x lt is = omega (arith, ap (sum_by f) (split_here xs i x lt is), sum_append f (take i xs) (x ∷ drop (suc i) xs))

-- ---- one child

pub none_in_leaf : (level : ℕ) (child : Child) → level ≡ 0 → nodes level child ≡ 0
unfolding nodes
none_in_leaf zero child is = refl
none_in_leaf (suc level) child is = absurd (omega (arith, is))

pub none_in_kept : (level low addr : ℕ) (key : List ℕ) (child : Child) → child ≡ made.Kept low addr key → nodes level child ≡ 0
unfolding nodes
none_in_kept zero low addr key child is = refl
none_in_kept (suc level) low addr key child is = ap (λ c. nodes_in (nodes level) (out-Child c)) is ∙ ap (nodes_in (nodes level)) (made.outs-Kept low addr key)

pub one_in_grown : (level low : ℕ) (twig : Twig) (child : Child) → (level ≡ 0 → ⊥) → child ≡ made.Grown low twig → nodes level child ≡ suc (nodes_below (level - 1) twig)
unfolding nodes
one_in_grown zero low twig child some is = absurd (some refl)
one_in_grown (suc level) low twig child some is =
    let less : suc level - 1 ≡ level = omega arith in
    subst (λ n. nodes (suc level) child ≡ suc (nodes_below n twig)) (sym less)
    (ap (λ c. nodes_in (nodes level) (out-Child c)) is ∙ ap (nodes_in (nodes level)) (made.outs-Grown low twig))

-- ---- they are fewer than the blocks

few_each : (order level high : ℕ) (cs : List Child) → ((high : ℕ) (c : Child) → low_of c < high → IsChild order level high c → nodes level c + low_of c < high) → EachBy low_of (IsChild order level) high cs →
    sum_by (nodes level) cs + (start_by low_of cs high + length cs) ≤ high
few_each order level high [] one each = omega arith
few_each order level high (c ∷ cs) one each =
    let here = one (start_by low_of cs high) c each.0 each.1 in
    let rest = few_each order level high cs one each.2 in
    omega (arith, here, rest)

half : (order : ℕ) → 4 ≤ order → 2 ≤ order / 2
half order four = omega (arith, four)

few_twig : (order level least low high : ℕ) (twig : Twig) → ((high : ℕ) (c : Child) → low_of c < high → IsChild order level high c → nodes level c + low_of c < high) → 2 ≤ least → IsTwig order level least order low high twig →
    suc (nodes_below level twig) + low < high
few_twig order level least low high twig one two h =
    let rest = few_each order level high (children_of twig) one h.node.each in
    let from = begins_le level low (start_by low_of (children_of twig) high) h.node.begins in
    omega (arith, rest, from, two, h.node.enough)

few_by : (order level high : ℕ) (x : Child-F Child Twig) → 4 ≤ order → ((high : ℕ) (c : Child) → low_of c < high → IsChild order level high c → nodes level c + low_of c < high) → low_in x < high → IsChildBy (IsChild order level) order level high x →
    nodes_in (nodes level) x + low_in x < high
few_by order level high (Kept low addr key) four one lt h = omega (arith, lt)
few_by order level high (Grown low twig) four one lt h = few_twig order level (order / 2) low high twig one (half order four) h

few_child : (order level high : ℕ) (c : Child) → 4 ≤ order → low_of c < high → IsChild order level high c → nodes level c + low_of c < high
unfolding nodes IsChild
few_child order zero high c four lt h = omega (arith, lt)
few_child order (suc level) high c four lt h = few_by order level high (out-Child c) four (λ high c. few_child order level high c four) lt h

few_root_by : (order level high : ℕ) (x : Child-F Child Twig) → 4 ≤ order → high < 2 ^ 64 → IsRootBy order level high x → nodes_in (nodes level) x < 2 ^ 64
few_root_by order level high (Kept low addr key) four small h = omega arith
few_root_by order zero high (Grown low twig) four small h = omega (arith, no_nodes (children_of twig))
few_root_by order (suc level) high (Grown low twig) four small h =
    omega (arith, few_twig order (suc level) 2 0 high twig (λ high c. few_child order (suc level) high c four) (omega arith) h.1, small)

pub few_in_root : (order level high : ℕ) (top : Child) → 1 ≤ level → 4 ≤ order → high < 2 ^ 64 → IsRoot order (level - 1) high top → nodes level top < 2 ^ 64
unfolding nodes
few_in_root order zero high top one four small h = absurd (omega (arith, one))
few_in_root order (suc level) high top one four small h =
    let less : suc level - 1 ≡ level = omega arith in
    few_root_by order level high (out-Child top) four small (subst (λ n. IsRoot order n high top) less h)
