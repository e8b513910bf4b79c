-- Where a block lies among entries whose lows ascend.
use Rattle.std.proofs.Common.{◌≡◌, ◌≢◌, ℕ, zero, suc, ◌-◌, ◌<◌, ◌≤◌, List, [], ◌∷◌, ◌++◌, All, IfSome, length, map, take, drop, refl, sym, ap, subst, inl, inr, ◌∙◌, arith, slice_get, get_or, length-drop}
use Rattle.std.specs.List.Sorted.{IsStrictlyIncreasing, IsNonDecreasingBy, IsPartitionPoint}
use Rattle.std.proofs.lemmas.Bool.{cases_lt, cases_eq}
use Rattle.std.proofs.lemmas.List.{get_or-map, length-map, get_or_default}
use Rattle.std.proofs.lemmas.List.Kept.{AllPairs-from_increasing}
use Rattle.std.proofs.Math.Seq.{split_at, drop-cons}
use Rattle.node_codec.specs.declared.body.Entry.{Entry}
use Rattle.page_store.specs.Tree.{bound_of}
use Rattle.btree_walk.specs.Ways.{IsWay}

abbrev pub lows : List Entry → List ℕ
lows entries = map (λ e. e.low) entries

-- of two entries the later one has the greater low
pub ascends : (es : List Entry) (i j : ℕ) (d : Entry) → IsStrictlyIncreasing (lows es) → i < j → j < length es → (get_or es i d).low < (get_or es j d).low
ascends es i j d up before within =
    let size = length-map es (λ (e : Entry). e.low) in
    let pair = AllPairs-from_increasing (lows es) up i j 0 before (omega arith) in
    let one = get_or-map (λ (e : Entry). e.low) es i d 0 (omega arith) in
    let two = get_or-map (λ (e : Entry). e.low) es j d 0 within in
    omega arith

pub non_decreasing : (es : List Entry) → IsStrictlyIncreasing (lows es) → IsNonDecreasingBy (λ e. e.low) es
non_decreasing es up i j d le within = elim (cases_lt i j) [
  | inl less ↦ let a = ascends es i j d up less within in omega arith
  | inr not_less ↦ let same : i ≡ j = omega arith in subst (λ (k : ℕ). (get_or es i d).low ≤ (get_or es k d).low) same (omega arith)
]

abbrev pub Reaches : List Entry → ℕ → ℕ → Type 0
Reaches es block reach = IsPartitionPoint (λ e. e.low ≤ block) (λ e. block < e.low) es reach

-- the last entry that is reached is below the block, and so is each one before it
pub none_at : (es : List Entry) (block reach : ℕ) (entry : Entry) → IsStrictlyIncreasing (lows es) → Reaches es block reach → reach ≤ length es → 0 < reach → entry ≡ get_or es (reach - 1) entry → entry.low ≢ block → All (λ e. e.low ≢ block) es
none_at es block reach entry up point bound some is other k d within same = elim (cases_lt k (reach - 1)) [
  | inl before ↦
      let below : (get_or es k d).low < (get_or es (reach - 1) d).low = ascends es k (reach - 1) d up before (omega arith) in
      let last = point.0 (reach - 1) d (omega arith) (omega arith) in
      omega arith
  | inr at_or_after ↦ elim (cases_eq k (reach - 1)) [
    | inl here ↦
        let e : entry ≡ get_or es k d = is ∙ ap (λ i. get_or es i entry) (sym here) ∙ get_or_default es k entry d within in
        other (ap (λ (x : Entry). x.low) e ∙ same)
    | inr elsewhere ↦ let above = point.1 k d (omega arith) within in omega arith
  ]
]

ends_above : (es : List Entry) (high block reach : ℕ) → Reaches es block reach → reach ≤ length es → block < high → block < bound_of (drop reach es) high
ends_above es high block reach point bound below = from (drop reach es) refl
  where
    from : (rest : List Entry) → drop reach es ≡ rest → block < bound_of rest high
    from [] is = below
    from (first ∷ rest) is =
        let size : length (first ∷ rest) ≡ length es - reach = sym (ap length is) ∙ length-drop reach es in
        let within : reach < length es = omega arith in
        let cut : first ∷ rest ≡ get_or es reach first ∷ drop (suc reach) es = sym is ∙ drop-cons es reach first within in
        let same : first ≡ get_or es reach first = cc in
        subst (λ (e : Entry). block < e.low) (sym same) (point.1 reach first (omega arith) within)

pub way_at : (es : List Entry) (high block reach : ℕ) (entry : Entry) → Reaches es block reach → reach ≤ length es → 0 < reach → entry ≡ get_or es (reach - 1) entry → block < high → IsWay es high block entry (bound_of (drop reach es) high)
way_at es high block reach entry point bound some is below = record {
  before = take (reach - 1) es;
  after = drop reach es;
  split =
      let cut = split_at es (reach - 1) entry (omega arith) in
      let next : suc (reach - 1) ≡ reach = omega arith in
      cut ∙ (λ i. take (reach - 1) es ++ sym is i ∷ drop (next i) es);
  ends = refl;
  from = let last = point.0 (reach - 1) entry (omega arith) (omega arith) in subst (λ (e : Entry). e.low ≤ block) (sym is) last;
  below = ends_above es high block reach point bound below;
}

-- where the first low is at most the block, some entry is reached
pub some_reached : (es : List Entry) (block reach : ℕ) → Reaches es block reach → IfSome (slice_get es 0) (λ e. e.low ≤ block) → 1 ≤ length es → 0 < reach
some_reached [] block reach point first some = absurd (omega arith)
some_reached (e ∷ es) block zero point first some = let above = point.1 zero e (omega arith) (omega arith) in absurd (omega arith)
some_reached (e ∷ es) block (suc reach) point first some = omega arith
