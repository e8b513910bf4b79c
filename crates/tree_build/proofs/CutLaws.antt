-- What a shape is after each step of its making.
use Rattle.std.proofs.Common.{◌≡◌, inl, inr, ℕ, suc, ◌+◌, ◌-◌, ◌*◌, ◌/◌, ◌<◌, ◌≤◌, List, [], ◌∷◌, ◌++◌, sym, ap, ◌∙◌, arith, append-nil, append_assoc}
use Rattle.std.specs.Prelude.{Bool, if◌then◌else◌, Result, Ok, Err, IfOk, is_ok}
use Rattle.std.proofs.lemmas.Bool.Decides.{leb_tells}
use Rattle.std.proofs.lemmas.Bool.{le-leb}
use Rattle.std.proofs.Math.Nat.{div-le_self, mul-suc}
use Rattle.tree_build.specs.declared.shapes.Span.{Span}
use Rattle.tree_build.proofs.ShapeLaws.{lt_leb, one_over, more_over}
use Rattle.tree_build.specs.Shape.{span, nodes_over, cut, level_over, shape_from, built_from}

-- ---- how many nodes a level has

-- no more nodes than items, or one
pub nodes_most : (order count most : ℕ) → 1 ≤ most → count ≤ most → nodes_over order count ≤ most
nodes_most order count most some within = elim (leb_tells count order) as (λ e. nodes_over order count ≤ most) [
  | inl few ↦ let h = one_over order count few.1 in omega (arith, h, some)
  | inr more ↦ let h = more_over order count more.1 in let d = div-le_self count (order / 2) in omega (arith, h, d, within)
]

-- ---- a node of a level is made

pub room_next : (half nodes node count : ℕ) → node < nodes → half * (nodes - node) ≤ count → (half ≤ count) × (half * (nodes - (node + 1)) ≤ count - half)
room_next half nodes node count before room =
    let next : nodes - node ≡ suc (nodes - (node + 1)) = omega arith in
    let all : half * (nodes - node) ≡ half * (nodes - (node + 1)) + half = ap (λ (n : ℕ). half * n) next ∙ mul-suc half (nodes - (node + 1)) in
    (omega (arith, all, room), omega (arith, all, room))

pub cut_next : (level half first nodes node count : ℕ) (spans : List Span) → node < nodes
    → spans ++ cut level half first (suc (nodes - node)) count ≡ (spans ++ span level first half ∷ []) ++ cut level half (first + half) (suc (nodes - (node + 1))) (count - half)
unfolding cut
cut_next level half first nodes node count spans before =
    let next : nodes - node ≡ suc (nodes - (node + 1)) = omega arith in
    let one : cut level half first (suc (nodes - node)) count ≡ span level first half ∷ cut level half (first + half) (suc (nodes - (node + 1))) (count - half)
    = ap (λ (n : ℕ). cut level half first (suc n) count) next in
    ap (λ (ss : List Span). spans ++ ss) one ∙ sym (append_assoc spans (span level first half ∷ []) (cut level half (first + half) (suc (nodes - (node + 1))) (count - half)))

pub cut_last : (level half first nodes node count : ℕ) (spans : List Span) → nodes ≤ node
    → spans ++ cut level half first (suc (nodes - node)) count ≡ spans ++ span level first count ∷ []
unfolding cut
cut_last level half first nodes node count spans after =
    let none : nodes - node ≡ 0 = omega arith in
    ap (λ (n : ℕ). spans ++ cut level half first (suc n) count) none

-- ---- a level is made

left : (k : ℕ) → k < 20 → 20 - k ≡ suc (20 - (k + 1))
left k before = omega arith

pub built_next : (k order count many all : ℕ) → k < 20 → order < count → many + built_from (20 - k) order count ≡ all → many + nodes_over order count + built_from (20 - (k + 1)) order (nodes_over order count) ≡ all
unfolding built_from
built_next k order count many all before more is =
    let step : built_from (20 - k) order count ≡ nodes_over order count + built_from (20 - (k + 1)) order (nodes_over order count)
    = ap (λ (n : ℕ). built_from n order count) (left k before)
    ∙ ap (λ (b : Bool). nodes_over order count + (if b then 0 else built_from (20 - (k + 1)) order (nodes_over order count))) (lt_leb count order more) in
    omega (arith, step, is)

pub built_last : (k order count many all : ℕ) → k < 20 → count ≤ order → many + built_from (20 - k) order count ≡ all → many + nodes_over order count ≡ all
unfolding built_from
built_last k order count many all before few is =
    let step : built_from (20 - k) order count ≡ nodes_over order count + 0
    = ap (λ (n : ℕ). built_from n order count) (left k before)
    ∙ ap (λ (b : Bool). nodes_over order count + (if b then 0 else built_from (20 - (k + 1)) order (nodes_over order count))) (le-leb count order few) in
    omega (arith, step, is)

pub built_none : (k order count many all : ℕ) → 20 ≤ k → many + built_from (20 - k) order count ≡ all → many ≡ all
unfolding built_from
built_none k order count many all after is =
    let none : 20 - k ≡ 0 = omega arith in
    let step : built_from (20 - k) order count ≡ 0 = ap (λ (n : ℕ). built_from n order count) none in
    omega (arith, step, is)

pub shape_next : (k order first count : ℕ) (spans all : List Span) → k < 20 → order < count
    → spans ++ shape_from (20 - k) order (k + 1) first count ≡ all
    → (spans ++ level_over order (k + 1) first count) ++ shape_from (20 - (k + 1)) order (k + 1 + 1) (first + count) (nodes_over order count) ≡ all
unfolding shape_from
shape_next k order first count spans all before more is =
    let level = level_over order (k + 1) first count in
    let above = shape_from (20 - (k + 1)) order (suc (k + 1)) (first + count) (nodes_over order count) in
    let up : k + 1 + 1 ≡ suc (k + 1) = omega arith in
    let step : shape_from (20 - k) order (k + 1) first count ≡ level ++ above
    = ap (λ (n : ℕ). shape_from n order (k + 1) first count) (left k before)
    ∙ ap (λ (b : Bool). level ++ (if b then [] else above)) (lt_leb count order more) in
    ap (λ (l : ℕ). (spans ++ level) ++ shape_from (20 - (k + 1)) order l (first + count) (nodes_over order count)) up
    ∙ (append_assoc spans level above ∙ (ap (λ (ss : List Span). spans ++ ss) (sym step) ∙ is))

pub shape_last : (k order first count : ℕ) (spans all : List Span) → k < 20 → count ≤ order
    → spans ++ shape_from (20 - k) order (k + 1) first count ≡ all → spans ++ level_over order (k + 1) first count ≡ all
unfolding shape_from
shape_last k order first count spans all before few is =
    let level = level_over order (k + 1) first count in
    let above = shape_from (20 - (k + 1)) order (suc (k + 1)) (first + count) (nodes_over order count) in
    let step : shape_from (20 - k) order (k + 1) first count ≡ level ++ []
    = ap (λ (n : ℕ). shape_from n order (k + 1) first count) (left k before)
    ∙ ap (λ (b : Bool). level ++ (if b then [] else above)) (le-leb count order few) in
    ap (λ (ss : List Span). spans ++ ss) (sym (append-nil level)) ∙ (ap (λ (ss : List Span). spans ++ ss) (sym step) ∙ is)

pub shape_none : (k order first count : ℕ) (spans all : List Span) → 20 ≤ k → spans ++ shape_from (20 - k) order (k + 1) first count ≡ all → spans ≡ all
unfolding shape_from
shape_none k order first count spans all after is =
    let none : 20 - k ≡ 0 = omega arith in
    let step : shape_from (20 - k) order (k + 1) first count ≡ [] = ap (λ (n : ℕ). shape_from n order (k + 1) first count) none in
    sym (append-nil spans) ∙ (ap (λ (ss : List Span). spans ++ ss) (sym step) ∙ is)

pub level_is : (order most nodes level first count : ℕ) → most ≡ order → nodes ≡ nodes_over order count → cut level (most / 2) first nodes count ≡ level_over order level first count
level_is order most nodes level first count same many = ap (λ (o : ℕ). cut level (o / 2) first nodes count) same ∙ ap (λ (n : ℕ). cut level (order / 2) first n count) many

-- ---- a span is pushed

pub pushed : {E : Type 0} (result : Result (Unit {0}) E) (old new : List Span) (s : Span) (all : List Span) → new ≡ (if is_ok result then old ++ s ∷ [] else old) → old ++ s ∷ [] ≡ all → IfOk result (λ done. new ≡ all)
pushed (Ok done) old new s all is same = is ∙ same
pushed (Err fault) old new s all is same = tt
