-- Facts on the shape of a build: how many nodes it has, and within which bounds each span is.
use Rattle.std.proofs.Common.{◌≡◌, inl, inr, ℕ, zero, suc, ◌+◌, ◌-◌, ◌*◌, ◌/◌, ◌%◌, ◌^◌, ◌<◌, ◌≤◌, ◌⊎◌, Bool, true, false, List, [], ◌∷◌, ◌++◌, length, get_or, refl, sym, ap, subst, ◌∙◌, arith, length-append, le-leb, suc-mul, mod-lt, div-add-mod', mul-le-mul_left, pow-suc}
use Rattle.std.specs.Prelude.{Some, nat_le, if◌then◌else◌, slice_get}
use Rattle.std.proofs.lemmas.Nat.{le-div}
use Rattle.std.proofs.lemmas.Bool.Decides.{leb_tells}
use Rattle.tree_build.specs.declared.shapes.Span.{Span}
use Rattle.tree_build.specs.Shape.{IsShaped, span, nodes_over, cut, shape_from, shape_of, built_from, built, levels_from, levels_over}

-- ---- orders and numbers of nodes

-- half of an order: what a node has that isn't the last
pub record IsHalf (order half : ℕ) : Type 0 where
  pub least : 2 ≤ half
  pub twice : half + half ≡ order

pub halves : (order : ℕ) → 4 ≤ order → order % 2 ≡ 0 → IsHalf order (order / 2)
halves order least even =
    let parts = div-add-mod' order 2 in
    record { least = omega (arith, parts, least, even); twice = omega (arith, parts, even) }

pub shaped_halves : (order count : ℕ) → IsShaped order count → IsHalf order (order / 2)
shaped_halves order count shaped = halves order shaped.least shaped.even

-- so many nodes over more items than one has room for
pub record AreOver (half count n : ℕ) : Type 0 where
  pub least : 2 ≤ n
  pub within : n * half ≤ count
  pub left : count < n * half + half
  pub few : n + n ≤ count

pub over : (order half count : ℕ) → IsHalf order half → order < count → AreOver half count (count / half)
over order half count is more =
    let n = count / half in
    let some : 0 < half = omega (arith, is.least) in
    let parts : n * half + count % half ≡ count = div-add-mod' count half in
    let rest : count % half < half = mod-lt count some in
    let two : 2 ≤ n = le-div 2 count half some (omega (arith, is.twice, more)) in
    let twice : n * 2 ≤ n * half = mul-le-mul_left n is.least in
    record { least = two; within = omega (arith, parts); left = omega (arith, parts, rest); few = omega (arith, parts, twice) }

pub one_over : (order count : ℕ) → count ≤ order → nodes_over order count ≡ 1
one_over order count fits = ap (λ (b : Bool). if b then 1 else count / (order / 2)) (le-leb count order fits)

pub lt_leb : (a b : ℕ) → b < a → nat_le a b ≡ false
lt_leb a b lt = by (leb_tells a b)
  where
    by : ((nat_le a b ≡ true) × (a ≤ b)) ⊎ ((nat_le a b ≡ false) × (b < a)) → nat_le a b ≡ false
    by (inl h) = absurd (omega (arith, h.1, lt))
    by (inr h) = h.0

pub more_over : (order count : ℕ) → order < count → nodes_over order count ≡ count / (order / 2)
more_over order count more = ap (λ (b : Bool). if b then 1 else count / (order / 2)) (lt_leb count order more)

-- one node, or more than one
pub fits_or_not : (order count : ℕ) → (count ≤ order) ⊎ (order < count)
fits_or_not order count = by (leb_tells count order)
  where
    by : ((nat_le count order ≡ true) × (count ≤ order)) ⊎ ((nat_le count order ≡ false) × (order < count)) → (count ≤ order) ⊎ (order < count)
    by (inl h) = inl h.1
    by (inr h) = inr h.1

-- ---- the levels, one by one

pub shape_one : (more order level first count : ℕ) → count ≤ order → shape_from (suc more) order level first count ≡ span level first count ∷ []
unfolding shape_from cut
shape_one more order level first count fits =
    ap (λ (b : Bool). cut level (order / 2) first (if b then 1 else count / (order / 2)) count ++ (if b then [] else shape_from more order (suc level) (first + count) (if b then 1 else count / (order / 2)))) (le-leb count order fits)

pub shape_more : (more order level first count : ℕ) → order < count →
    shape_from (suc more) order level first count ≡ cut level (order / 2) first (count / (order / 2)) count ++ shape_from more order (suc level) (first + count) (count / (order / 2))
unfolding shape_from
shape_more more order level first count lt =
    ap (λ (b : Bool). cut level (order / 2) first (if b then 1 else count / (order / 2)) count ++ (if b then [] else shape_from more order (suc level) (first + count) (if b then 1 else count / (order / 2)))) (lt_leb count order lt)

pub built_one : (more order count : ℕ) → count ≤ order → built_from (suc more) order count ≡ 1
unfolding built_from
built_one more order count fits =
    ap (λ (b : Bool). (if b then 1 else count / (order / 2)) + (if b then 0 else built_from more order (if b then 1 else count / (order / 2)))) (le-leb count order fits)

pub built_more : (more order count : ℕ) → order < count → built_from (suc more) order count ≡ count / (order / 2) + built_from more order (count / (order / 2))
unfolding built_from
built_more more order count lt =
    ap (λ (b : Bool). (if b then 1 else count / (order / 2)) + (if b then 0 else built_from more order (if b then 1 else count / (order / 2)))) (lt_leb count order lt)

pub levels_one : (more order count : ℕ) → count ≤ order → levels_from (suc more) order count ≡ 1
unfolding levels_from
levels_one more order count fits = ap (λ (b : Bool). suc (if b then 0 else levels_from more order (if b then 1 else count / (order / 2)))) (le-leb count order fits)

pub levels_more : (more order count : ℕ) → order < count → levels_from (suc more) order count ≡ suc (levels_from more order (count / (order / 2)))
unfolding levels_from
levels_more more order count lt = ap (λ (b : Bool). suc (if b then 0 else levels_from more order (if b then 1 else count / (order / 2)))) (lt_leb count order lt)

-- so many levels are enough for so many items
pub enough : (more order half count : ℕ) → IsHalf order half → order < count → count ≤ 2 ^ suc more → count / half ≤ 2 ^ more
enough more order half count is lt most = omega (arith, (over order half count is lt).few, pow-suc 2 more, most)

-- and where a node has no room for all there is a level more
pub above : (more order half count : ℕ) → IsHalf order half → order < count → count ≤ 2 ^ suc more → (under : ℕ) × (more ≡ suc under)
above zero order half count is lt most = absurd (omega (arith, is.least, is.twice, lt, most))
above (suc more) order half count is lt most = (more, refl)

-- ---- how many nodes

pub length_cut : (level half first n count : ℕ) → length (cut level half first n count) ≡ n
unfolding cut
length_cut level half first zero count = refl
length_cut level half first (suc zero) count = refl
length_cut level half first (suc (suc more)) count = ap (λ n. suc n) (length_cut level half (first + half) (suc more) (count - half))

pub length_shape : (fuel order level first count : ℕ) → length (shape_from fuel order level first count) ≡ built_from fuel order count
unfolding shape_from built_from
length_shape zero order level first count = refl
length_shape (suc more) order level first count = by (length_shape more order (suc level) (first + count) (count / (order / 2))) (fits_or_not order count)
  where
    by : length (shape_from more order (suc level) (first + count) (count / (order / 2))) ≡ built_from more order (count / (order / 2)) → (count ≤ order) ⊎ (order < count) →
        length (shape_from (suc more) order level first count) ≡ built_from (suc more) order count
    by on (inl fits) = ap length (shape_one more order level first count fits) ∙ sym (built_one more order count fits)
    by on (inr lt) =
        let n = count / (order / 2) in
        ap length (shape_more more order level first count lt)
        ∙ length-append (cut level (order / 2) first n count) (shape_from more order (suc level) (first + count) n)
        ∙ (λ i. length_cut level (order / 2) first n count i + on i)
        ∙ sym (built_more more order count lt)

pub built_least : (more order count : ℕ) → IsHalf order (order / 2) → 1 ≤ built_from (suc more) order count
built_least more order count is = by (fits_or_not order count)
  where
    by : (count ≤ order) ⊎ (order < count) → 1 ≤ built_from (suc more) order count
    by (inl fits) = omega (arith, built_one more order count fits)
    by (inr lt) = omega (arith, built_more more order count lt, (over order (order / 2) count is lt).least)

-- no more nodes than items
pub built_few : (fuel order count : ℕ) → IsHalf order (order / 2) → 1 ≤ count → built_from fuel order count ≤ count
unfolding built_from
built_few zero order count is some = omega arith
built_few (suc more) order count is some = by (built_few more order (count / (order / 2)) is) (fits_or_not order count)
  where
    by : (1 ≤ count / (order / 2) → built_from more order (count / (order / 2)) ≤ count / (order / 2)) → (count ≤ order) ⊎ (order < count) → built_from (suc more) order count ≤ count
    by on (inl fits) = omega (arith, built_one more order count fits, some)
    by on (inr lt) =
        let are = over order (order / 2) count is lt in
        omega (arith, built_more more order count lt, are.few, on (omega (arith, are.least)))

pub built_most : (more order count : ℕ) → IsHalf order (order / 2) → built_from (suc more) order count ≤ count + 1
built_most more order zero is = omega (arith, built_one more order 0 (omega arith))
built_most more order (suc count) is = omega (arith, built_few (suc more) order (suc count) is (omega arith))

pub levels_least : (more order count : ℕ) → 1 ≤ levels_from (suc more) order count
unfolding levels_from
levels_least more order count = omega arith

pub levels_most : (fuel order count : ℕ) → levels_from fuel order count ≤ fuel
unfolding levels_from
levels_most zero order count = omega arith
levels_most (suc more) order count = by (levels_most more order (count / (order / 2))) (fits_or_not order count)
  where
    by : levels_from more order (count / (order / 2)) ≤ more → (count ≤ order) ⊎ (order < count) → levels_from (suc more) order count ≤ suc more
    by on (inl fits) = omega (arith, levels_one more order count fits)
    by on (inr lt) = omega (arith, levels_more more order count lt, on)

-- ---- the spans

-- a span of a node that has this place among the items: it is over items before that, over no more than a node has room for, and over two at least but for the first leaf
pub record IsSpan (order at : ℕ) (s : Span) : Type 0 where
  pub level_least : 1 ≤ s.level
  pub level_most : s.level ≤ 20
  pub count_most : s.count ≤ order
  pub before : s.first + s.count ≤ at
  pub filled : 1 ≤ s.first → 2 ≤ s.count

-- spans of nodes one after the other, the first of them at this place
abbrev pub AreSpans : ℕ → ℕ → List Span → Type 0
AreSpans order at [] = Unit {0}
AreSpans order at (s ∷ spans) = IsSpan order at s × AreSpans order (suc at) spans

pub spans_append : (order at : ℕ) (xs ys : List Span) → AreSpans order at xs → AreSpans order (at + length xs) ys → AreSpans order at (xs ++ ys)
spans_append order at [] ys h k = let e : at + 0 ≡ at = omega arith in subst (λ n. AreSpans order n ys) e k
spans_append order at (x ∷ xs) ys h k = (h.0, spans_append order (suc at) xs ys h.1 (let e : at + suc (length xs) ≡ suc at + length xs = omega arith in subst (λ n. AreSpans order n ys) e k))

-- the span at an index
pub span_at : (order at : ℕ) (spans : List Span) (i : ℕ) (s : Span) → AreSpans order at spans → slice_get spans i ≡ Some s → IsSpan order (at + i) s
span_at order at [] i s are is = absurd (cc)
span_at order at (x ∷ spans) zero s are is =
    let same : x ≡ s = cc in
    let e : at ≡ at + 0 = omega arith in
    subst (λ n. IsSpan order n s) e (subst (IsSpan order at) same are.0)
span_at order at (x ∷ spans) (suc i) s are is =
    let e : suc at + i ≡ at + suc i = omega arith in
    subst (λ n. IsSpan order n s) e (span_at order (suc at) spans i s are.1 is)

pub span_or_at : (order at : ℕ) (spans : List Span) (i : ℕ) (d : Span) → AreSpans order at spans → i < length spans → IsSpan order (at + i) (get_or spans i d)
span_or_at order at [] i d are lt = absurd (omega (arith, lt))
span_or_at order at (x ∷ spans) zero d are lt = let e : at ≡ at + 0 = omega arith in subst (λ n. IsSpan order n x) e are.0
span_or_at order at (x ∷ spans) (suc i) d are lt =
    let e : suc at + i ≡ at + suc i = omega arith in
    subst (λ n. IsSpan order n (get_or spans i d)) e (span_or_at order (suc at) spans i d are.1 (omega (arith, lt)))

-- the spans of one level
pub cut_spans : (order level half k first count at : ℕ) → 1 ≤ level → level ≤ 20 → IsHalf order half → suc k * half ≤ count → count ≤ k * half + order → first + count ≤ at → AreSpans order at (cut level half first (suc k) count)
unfolding cut
cut_spans order level half zero first count at least most is low high before =
    (record { level_least = least; level_most = most; count_most = omega (arith, high); before = before; filled = λ le. omega (arith, is.least, low) }, tt)
cut_spans order level half (suc more) first count at least most is low high before =
    let e : suc more * half ≡ more * half + half = suc-mul more half in
    let e2 : suc (suc more) * half ≡ suc more * half + half = suc-mul (suc more) half in (
      record { level_least = least; level_most = most; count_most = omega (arith, is.twice); before = omega (arith, e2, low, before); filled = λ le. is.least },
      cut_spans order level half more (first + half) (count - half) (suc at) least most is (omega (arith, e2, low)) (omega (arith, e, e2, high, low)) (omega (arith, e2, low, before)),
    )

-- the spans of the nodes over so many items
pub over_spans : (order level half first count n at : ℕ) → 1 ≤ level → level ≤ 20 → IsHalf order half → AreOver half count n → first + count ≤ at → AreSpans order at (cut level half first n count)
over_spans order level half first count zero at least most is are before = absurd (omega (arith, are.least))
over_spans order level half first count (suc k) at least most is are before =
    let e : suc k * half ≡ k * half + half = suc-mul k half in
    cut_spans order level half k first count at least most is are.within (omega (arith, e, are.left, is.twice)) before

pub shape_spans : (fuel order level first count at : ℕ) → IsHalf order (order / 2) → 1 ≤ level → level + fuel ≤ 21 → first + count ≤ at → (1 ≤ first → 2 ≤ count) → AreSpans order at (shape_from fuel order level first count)
unfolding shape_from
shape_spans zero order level first count at is least most before filled = tt
shape_spans (suc more) order level first count at is least most before filled =
    by (λ at k two. shape_spans more order (suc level) (first + count) (count / (order / 2)) at is (omega (arith, least)) (omega (arith, most)) k (λ le. two)) (fits_or_not order count)
  where
    by : ((at : ℕ) → (first + count) + count / (order / 2) ≤ at → 2 ≤ count / (order / 2) → AreSpans order at (shape_from more order (suc level) (first + count) (count / (order / 2)))) → (count ≤ order) ⊎ (order < count) → AreSpans order at (shape_from (suc more) order level first count)
    by on (inl fits) = subst (AreSpans order at) (sym (shape_one more order level first count fits))
        (record { level_least = least; level_most = omega (arith, most); count_most = fits; before = before; filled = filled }, tt)
    by on (inr lt) =
        let n = count / (order / 2) in
        let here = cut level (order / 2) first n count in
        let long : length here ≡ n = length_cut level (order / 2) first n count in
        subst (AreSpans order at) (sym (shape_more more order level first count lt))
        (spans_append order at here (shape_from more order (suc level) (first + count) n) (over_spans order level (order / 2) first count n at least (omega (arith, most)) is (over order (order / 2) count is lt) before) (on (at + length here) (omega (arith, before, long)) (over order (order / 2) count is lt).least))

-- ---- of a whole build

pub shape_many : (order count : ℕ) → IsShaped order count → length (shape_of order count) ≡ built order count
shape_many order count shaped = length_shape 20 order 1 0 count

pub shape_most : (order count : ℕ) → IsShaped order count → built order count ≤ count + 1
shape_most order count shaped = built_most 19 order count (shaped_halves order count shaped)

pub shape_least : (order count : ℕ) → IsShaped order count → 1 ≤ built order count
shape_least order count shaped = built_least 19 order count (shaped_halves order count shaped)

pub shape_levels : (order count : ℕ) → IsShaped order count → (1 ≤ levels_over order count) × (levels_over order count ≤ 20)
shape_levels order count shaped = (levels_least 19 order count, levels_most 20 order count)

-- each node is over items before itself
pub spans_of : (order count : ℕ) → IsShaped order count → AreSpans order count (shape_of order count)
spans_of order count shaped = shape_spans 20 order 1 0 count count (shaped_halves order count shaped) (omega arith) (omega arith) (omega arith) (λ le. absurd (omega (arith, le)))
