-- Which nodes a build makes over so many data records: how many of each level, and over which items each.
use Rattle.std.specs.Prelude.{ℕ, zero, suc, ◌+◌, ◌-◌, ◌/◌, ◌%◌, ◌≡◌, ◌≤◌, nat_le, if◌then◌else◌, List, [], ◌∷◌, ◌++◌}
use Rattle.tree_build.specs.declared.shapes.Span.{Span}

-- a node of a level over so many items, from this one on. The items are the data records in order of their blocks, and behind them the nodes as they are made
abbrev pub span : ℕ → ℕ → ℕ → Span
span level first count = record { level = level; first = first; count = count }

-- how many nodes of a level stand over so many items: one where a node has room for all of them, and else as many as can have half of what one has room for
abbrev pub nodes_over : ℕ → ℕ → ℕ
nodes_over order count = if nat_le count order then 1 else count / (order / 2)

-- so many nodes over so many items, from this one on: each has `half` of them, and the last what is left
unfoldable pub cut : ℕ → ℕ → ℕ → ℕ → ℕ → List Span
cut level half first zero count = []
cut level half first (suc zero) count = span level first count ∷ []
cut level half first (suc (suc more)) count = span level first half ∷ cut level half (first + half) (suc more) (count - half)

-- the nodes of one level over so many items
abbrev pub level_over : ℕ → ℕ → ℕ → ℕ → List Span
level_over order level first count = cut level (order / 2) first (nodes_over order count) count

-- the nodes of this level and, where that has more than one, of those above it, at most so many
unfoldable pub shape_from : ℕ → ℕ → ℕ → ℕ → ℕ → List Span
shape_from zero order level first count = []
shape_from (suc more) order level first count =
    level_over order level first count
    ++ (if nat_le count order then [] else shape_from more order (suc level) (first + count) (nodes_over order count))

-- all nodes over so many data records, level by level from the leaves up, and left to right
abbrev pub shape_of : ℕ → ℕ → List Span
shape_of order count = shape_from 20 order 1 0 count

-- how many these are
unfoldable pub built_from : ℕ → ℕ → ℕ → ℕ
built_from zero order count = 0
built_from (suc more) order count = nodes_over order count + (if nat_le count order then 0 else built_from more order (nodes_over order count))

abbrev pub built : ℕ → ℕ → ℕ
built order count = built_from 20 order count

-- and of how many levels
unfoldable pub levels_from : ℕ → ℕ → ℕ → ℕ
levels_from zero order count = 0
levels_from (suc more) order count = suc (if nat_le count order then 0 else levels_from more order (nodes_over order count))

abbrev pub levels_over : ℕ → ℕ → ℕ
levels_over order count = levels_from 20 order count

-- orders and counts of devices
pub record IsShaped (order count : ℕ) : Type 0 where
  pub least : 4 ≤ order
  pub most : order ≤ 48
  pub even : order % 2 ≡ 0
  pub count_most : count ≤ 1048576
