-- Entries whose lows ascend strictly, a pair of neighbours at a time.
use Rattle.std.proofs.Common.{◌≡◌, ℕ, ◌+◌, ◌-◌, ◌<◌, ◌≤◌, List, [], map, length, sym, ap, ◌∙◌, arith, inl, inr}
use Rattle.std.specs.Prelude.{slice_index, slice_index_or}
use Rattle.std.specs.List.Sorted.{IsStrictlyIncreasing}
use Rattle.std.proofs.lemmas.Bool.{cases_lt}
use Rattle.std.proofs.lemmas.List.{get_or-map, get_or_default, length-map}
use Rattle.node_codec.specs.declared.body.Entry.{Entry}

-- the lows of the first entries ascend strictly
abbrev pub AscendBelow : List Entry → ℕ → Type 0
AscendBelow entries i = (k : ℕ) → k + 1 < i → slice_index (map (λ e. e.low) entries) k < slice_index (map (λ e. e.low) entries) (k + 1)

low_at : (entries : List Entry) (i : ℕ) → i < length entries → slice_index (map (λ (e : Entry). e.low) entries) i ≡ (slice_index_or entries i (record { low = 0; addr = 0; key = [] })).low
low_at entries i inside = get_or-map (λ (e : Entry). e.low) entries i (record { low = 0; addr = 0; key = [] }) 0 inside

-- one more pair of neighbours is in order
pub ascend_more : (entries : List Entry) (a b : Entry) (i : ℕ) → i < length entries → a ≡ slice_index_or entries (i - 1) a → b ≡ slice_index_or entries i b → a.low < b.low → AscendBelow entries i → AscendBelow entries (i + 1)
ascend_more entries a b i inside at-a at-b below before = λ k inside-k.
    let none : Entry = record { low = 0; addr = 0; key = [] } in
    elim (cases_lt (k + 1) i) [
      | inl lt ↦ before k lt
      | inr ge ↦
          let is-k : k ≡ i - 1 = omega arith in
          let here = low_at entries k (omega arith) in
          let next = low_at entries (k + 1) (omega arith) in
          let is-a : a ≡ slice_index_or entries k none = at-a ∙ get_or_default entries (i - 1) a none (omega arith) ∙ ap (λ (n : ℕ). slice_index_or entries n none) (sym is-k) in
          let is-b : b ≡ slice_index_or entries (k + 1) none = at-b ∙ get_or_default entries i b none inside ∙ ap (λ (n : ℕ). slice_index_or entries n none) (omega arith) in
          omega (arith, here, next, ap (λ (e : Entry). e.low) is-a, ap (λ (e : Entry). e.low) is-b, below)
    ]

-- two neighbours that are out of order
pub not_ascending : (entries : List Entry) (a b : Entry) (i : ℕ) → 1 ≤ i → i < length entries → a ≡ slice_index_or entries (i - 1) a → b ≡ slice_index_or entries i b → b.low ≤ a.low → IsStrictlyIncreasing (map (λ e. e.low) entries) → ⊥
not_ascending entries a b i least inside at-a at-b not-below increasing =
    let none : Entry = record { low = 0; addr = 0; key = [] } in
    let next : i - 1 + 1 ≡ i = omega arith in
    let above = increasing (i - 1) (omega (arith, length-map entries (λ (e : Entry). e.low))) in
    let at-next : slice_index (map (λ (e : Entry). e.low) entries) (i - 1 + 1) ≡ slice_index (map (λ (e : Entry). e.low) entries) i = ap (slice_index (map (λ (e : Entry). e.low) entries)) next in
    let is-a : a ≡ slice_index_or entries (i - 1) none = at-a ∙ get_or_default entries (i - 1) a none (omega arith) in
    let is-b : b ≡ slice_index_or entries i none = at-b ∙ get_or_default entries i b none inside in
    omega (arith, above, at-next, low_at entries (i - 1) (omega arith), low_at entries i inside, ap (λ (e : Entry). e.low) is-a, ap (λ (e : Entry). e.low) is-b, not-below)
