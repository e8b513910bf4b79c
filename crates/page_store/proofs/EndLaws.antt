-- Where lows ascend, the first and the last one tell of all.
use Rattle.std.proofs.Common.{◌≡◌, ℕ, suc, ◌+◌, ◌-◌, ◌<◌, ◌≤◌, ◌↔◌, List, [], ◌∷◌, map, length, sym, subst, arith}
use Rattle.std.specs.Prelude.{All, IfSome, slice_get, slice_index}
use Rattle.std.specs.List.Sorted.{IsStrictlyIncreasing}
use Rattle.std.proofs.lemmas.List.Elements.{All-head, All-tail, All-nil, All-cons}
use Rattle.node_codec.specs.declared.body.Entry.{Entry}

abbrev Ascend : List Entry → Type 0
Ascend entries = IsStrictlyIncreasing (map (λ e. e.low) entries)

tail_ascends : (e : Entry) (es : List Entry) → Ascend (e ∷ es) → Ascend es
tail_ascends e es up k within =
    let one : suc k + 1 ≡ suc (k + 1) = omega arith in
    let next : slice_index (map (λ (x : Entry). x.low) (e ∷ es)) (suc k) < slice_index (map (λ (x : Entry). x.low) (e ∷ es)) (suc k + 1) = up (suc k) (omega arith) in
    subst (λ (n : ℕ). slice_index (map (λ (x : Entry). x.low) es) k < slice_index (map (λ (x : Entry). x.low) (e ∷ es)) n) one next

above : (low : ℕ) (e : Entry) (es : List Entry) → low ≤ e.low → Ascend (e ∷ es) → All (λ x. low ≤ x.low) (e ∷ es)
above low e [] less up = All-cons (λ (x : Entry). low ≤ x.low) e [] less (All-nil (λ (x : Entry). low ≤ x.low))
above low e (next ∷ es) less up =
    let first = up 0 (omega arith) in
    All-cons (λ (x : Entry). low ≤ x.low) e (next ∷ es) less (above low next es (omega (arith, less, first)) (tail_ascends e (next ∷ es) up))

pub first_tells : (low : ℕ) (entries : List Entry) → Ascend entries → IfSome (slice_get entries 0) (λ e. low ≤ e.low) ↔ All (λ e. low ≤ e.low) entries
first_tells low [] up = (λ _. All-nil (λ (x : Entry). low ≤ x.low), λ _. tt)
first_tells low (e ∷ es) up = (λ less. above low e es less up, λ all. All-head (λ (x : Entry). low ≤ x.low) e es all)

-- the last one of them is below a number
abbrev EndsBelow : ℕ → List Entry → Type 0
EndsBelow high entries = IfSome (slice_get entries (length entries - 1)) (λ e. e.low < high)

last_of_tail : (high : ℕ) (e next : Entry) (es : List Entry) → EndsBelow high (e ∷ next ∷ es) ↔ EndsBelow high (next ∷ es)
last_of_tail high e next es =
    let one : length (e ∷ next ∷ es) - 1 ≡ suc (length (next ∷ es) - 1) = omega arith in (
      λ h. subst (λ (n : ℕ). IfSome (slice_get (e ∷ next ∷ es) n) (λ x. x.low < high)) one h,
      λ h. subst (λ (n : ℕ). IfSome (slice_get (e ∷ next ∷ es) n) (λ x. x.low < high)) (sym one) h,
    )

all_below : (high : ℕ) (entries : List Entry) → Ascend entries → EndsBelow high entries → All (λ e. e.low < high) entries
all_below high [] up ends = All-nil (λ (x : Entry). x.low < high)
all_below high (e ∷ []) up ends = All-cons (λ (x : Entry). x.low < high) e [] ends (All-nil (λ (x : Entry). x.low < high))
all_below high (e ∷ next ∷ es) up ends =
    let below = all_below high (next ∷ es) (tail_ascends e (next ∷ es) up) ((last_of_tail high e next es).0 ends) in
    let less = up 0 (omega arith) in
    All-cons (λ (x : Entry). x.low < high) e (next ∷ es) (omega (arith, less, All-head (λ (x : Entry). x.low < high) next es below)) below

ends_below : (high : ℕ) (entries : List Entry) → All (λ e. e.low < high) entries → EndsBelow high entries
ends_below high [] all = tt
ends_below high (e ∷ []) all = All-head (λ (x : Entry). x.low < high) e [] all
ends_below high (e ∷ next ∷ es) all = (last_of_tail high e next es).1 (ends_below high (next ∷ es) (All-tail (λ (x : Entry). x.low < high) e (next ∷ es) all))

pub last_tells : (high : ℕ) (entries : List Entry) → Ascend entries → IfSome (slice_get entries (length entries - 1)) (λ e. e.low < high) ↔ All (λ e. e.low < high) entries
last_tells high entries up = (all_below high entries up, ends_below high entries)
