-- What follows from the root record that an upgrade begins on.
use Rattle.std.proofs.Common.{◌≡◌, ◌∙◌, ap, sym, subst, refl, ◌+◌, ◌-◌, ◌/◌, ◌%◌, min, inl, inr, ℕ, zero, suc, List, [], ◌∷◌, ◌++◌, arith, length, length-append}
use Rattle.std.specs.Prelude.{Some, slice_get}
use Rattle.std.proofs.lemmas.Bool.{cases_lt}
use Rattle.std.proofs.lemmas.List.{append-nil}
use Rattle.root_codec.specs.declared.root.Root.{Root}
use Rattle.root_codec.specs.RootRecord.{FitsRoot}
use Rattle.tree_build.specs.declared.shapes.Span.{Span}
use Rattle.tree_build.specs.Shape.{IsShaped, span, cut, shape_from, shape_of, levels_from, levels_over}
use Rattle.tree_build.proofs.ShapeLaws.{IsHalf, shaped_halves, fits_or_not, shape_one, shape_more, levels_one, levels_more, length_shape, built_least}
use Rattle.device_core.specs.Upgrading.{order_above}

-- ---- how many nodes there will be

even_above : (order : ℕ) → order % 2 ≡ 0 → order_above order % 2 ≡ 0
even_above order even = elim (cases_lt order 48) [
  | inl less ↦ let same : min order 48 ≡ order = omega (arith, less) in ap (λ (n : ℕ). n % 2) same ∙ even
  | inr more ↦ let same : min order 48 ≡ 48 = omega (arith, more) in ap (λ (n : ℕ). n % 2) same
]

pub shaped_root : (root : Root) → FitsRoot root → IsShaped (order_above root.order) root.mapped
shaped_root root fits = record {
  least = omega (arith, fits.order_least);
  most = omega arith;
  even = even_above root.order fits.order_even;
  count_most = omega (arith, fits.mapped, fits.blocks_most);
}

-- ---- the level of the last one

cut_level : (nodes level half first count i : ℕ) (s : Span) → slice_get (cut level half first nodes count) i ≡ Some s → s.level ≡ level
unfolding cut
cut_level zero level half first count i s is = absurd cc
cut_level (suc zero) level half first count zero s is = let same : span level first count ≡ s = cc in sym (ap (λ (t : Span). t.level) same)
cut_level (suc zero) level half first count (suc i) s is = absurd cc
cut_level (suc (suc more)) level half first count zero s is = let same : span level first half ≡ s = cc in sym (ap (λ (t : Span). t.level) same)
cut_level (suc (suc more)) level half first count (suc i) s is = cut_level (suc more) level half (first + half) (count - half) i s is

-- the last one of two lists
last_of : (xs ys : List Span) (y : Span) (s : Span) (n : ℕ) → suc n ≡ length (xs ++ y ∷ ys) → slice_get (xs ++ y ∷ ys) n ≡ Some s → (m : ℕ) × (suc m ≡ length (y ∷ ys)) × (slice_get (y ∷ ys) m ≡ Some s)
last_of [] ys y s n at is = (n, at, is)
last_of (x ∷ xs) ys y s zero at is = absurd (omega (arith, at, length-append xs (y ∷ ys)))
last_of (x ∷ xs) ys y s (suc n) at is = last_of xs ys y s n (omega (arith, at)) is

abbrev EndsAt : List Span → ℕ → ℕ → Type 0
EndsAt spans level levels = (n : ℕ) (s : Span) → suc n ≡ length spans → slice_get spans n ≡ Some s → s.level + 1 ≡ level + levels

ends_then : (nodes level half first count : ℕ) (rest : List Span) (levels : ℕ) → EndsAt rest (suc level) levels → (rest ≡ [] → levels ≡ 0) → EndsAt (cut level half first nodes count ++ rest) level (suc levels)
ends_then nodes level half first count [] levels ends none n s at is =
    let is' = subst (λ (xs : List Span). slice_get xs n ≡ Some s) (append-nil (cut level half first nodes count)) is in
    omega (arith, none refl, cut_level nodes level half first count n s is')
ends_then nodes level half first count (y ∷ ys) levels ends none n s at is =
    let l = last_of (cut level half first nodes count) ys y s n at is in
    omega (arith, ends l.0 s l.1 l.2)

no_levels : (more order level first count : ℕ) → IsHalf order (order / 2) → shape_from more order level first count ≡ [] → levels_from more order count ≡ 0
unfolding levels_from
no_levels zero order level first count half none = refl
no_levels (suc more) order level first count half none =
    absurd (omega (arith, ap length none, length_shape (suc more) order level first count, built_least more order count half))

-- where there is one node it is of this level
ends_one : (level first count : ℕ) → EndsAt (span level first count ∷ []) level 1
ends_one level first count zero s at is = let same : span level first count ≡ s = cc in omega (arith, ap (λ (t : Span). t.level) same)
ends_one level first count (suc n) s at is = absurd (omega (arith, at))

ends_none : (level : ℕ) → EndsAt [] level 0
ends_none level n s at is = absurd (omega (arith, at))

ends_from : (more order level first count : ℕ) → IsHalf order (order / 2) → EndsAt (shape_from more order level first count) level (levels_from more order count)
unfolding shape_from levels_from
ends_from zero order level first count half = ends_none level
ends_from (suc more) order level first count half = elim (fits_or_not order count) [
  | inl fits ↦ subst (λ (n : ℕ). EndsAt (shape_from (suc more) order level first count) level n) (sym (levels_one more order count fits))
      (subst (λ (xs : List Span). EndsAt xs level 1) (sym (shape_one more order level first count fits)) (ends_one level first count))
  | inr more_than ↦ subst (λ (n : ℕ). EndsAt (shape_from (suc more) order level first count) level n) (sym (levels_more more order count more_than))
      (subst (λ (xs : List Span). EndsAt xs level (suc (levels_from more order (count / (order / 2))))) (sym (shape_more more order level first count more_than))
      (ends_then (count / (order / 2)) level (order / 2) first count (shape_from more order (suc level) (first + count) (count / (order / 2))) (levels_from more order (count / (order / 2)))
      (ends_from more order (suc level) (first + count) (count / (order / 2)) half) (no_levels more order (suc level) (first + count) (count / (order / 2)) half)))
]

-- the last node is of the level of the root node
pub last_level : (order count n : ℕ) (s : Span) → IsShaped order count → suc n ≡ length (shape_of order count) → slice_get (shape_of order count) n ≡ Some s → s.level ≡ levels_over order count
last_level order count n s shaped at is = omega (arith, ends_from 20 order 1 0 count (shaped_halves order count shaped) n s at is)
