-- Nodes of which one after the other is wiped.
use Rattle.std.proofs.Common.{◌≡◌, ℕ, suc, ◌<◌, ◌≤◌, ◌+◌, List, Some, IfSome, length, slice_get, inl, inr, sym, ap, subst, ◌∙◌, arith}
use Rattle.std.specs.Prelude.{option_map, slice_set}
use Rattle.std.proofs.lemmas.Bool.Decides.{eqb_tells}
use Rattle.std.proofs.lemmas.Option.{slice_get_cases, slice_get_within}
use Rattle.node_cache.proofs.SlotLaws.{set_here, set_there}

module _ {X : Type 0} (xs : List X) (i : ℕ) (x y : X) (here : slice_get xs i ≡ Some x) where
  -- what is so at each place before one, and of what is put there, is so before the next
  pub each_set : (Is : X → Type 0) → Is y → ((k : ℕ) → k < i → IfSome (slice_get xs k) Is) → (k : ℕ) → k < i + 1 → IfSome (slice_get (slice_set xs i y) k) Is
  each_set Is y_is before k lt = elim (eqb_tells k i) [
    | inl e ↦ subst (λ n. IfSome (slice_get (slice_set xs i y) n) Is) (sym e.1) (subst (λ o. IfSome o Is) (sym (set_here xs i y (slice_get_within xs i x here))) y_is)
    | inr e ↦ (let other = e.1 in subst (λ o. IfSome o Is) (sym (set_there xs i y k other)) (before k (omega (arith, lt, other))))
  ]

  -- what is the same of what is put at a place as of what was there is the same at each place
  pub same_set : {Y : Type 0} (f : X → Y) → f y ≡ f x → (k : ℕ) → option_map f (slice_get (slice_set xs i y) k) ≡ option_map f (slice_get xs k)
  same_set f same k = elim (eqb_tells k i) [
    | inl e ↦ ap (λ n. option_map f (slice_get (slice_set xs i y) n)) e.1 ∙ ap (option_map f) (set_here xs i y (slice_get_within xs i x here)) ∙ ap Some same ∙ sym (ap (option_map f) here) ∙ sym (ap (λ n. option_map f (slice_get xs n)) e.1)
    | inr e ↦ ap (option_map f) (set_there xs i y k e.1)
  ]

-- what is so at each place before the end is so at each
pub each_all : {X : Type 0} (Is : X → Type 0) (xs : List X) (n : ℕ) → length xs ≤ n → ((k : ℕ) → k < n → IfSome (slice_get xs k) Is) → (k : ℕ) → IfSome (slice_get xs k) Is
each_all Is xs n past before k = elim (slice_get_cases xs k).1 [
  | inl within ↦ before k (let h = within.1 in omega (arith, h, past))
  | inr over ↦ subst (λ o. IfSome o Is) (sym over.1) tt
]
