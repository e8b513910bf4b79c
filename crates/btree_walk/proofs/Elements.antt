-- What a list contains.
use Rattle.std.proofs.Common.{◌≡◌, zero, suc, ◌⊎◌, List, [], ◌∷◌, Contains, refl, inl, inr, arith}

pub Contains-nil : {X : Type 0} (x : X) → Contains [] x → ⊥
Contains-nil x (k, within, is) = omega arith

pub Contains-head : {X : Type 0} (x : X) (xs : List X) → Contains (x ∷ xs) x
Contains-head x xs = (0, omega arith, refl)

pub Contains-tail : {X : Type 0} (y : X) (xs : List X) (x : X) → Contains xs x → Contains (y ∷ xs) x
Contains-tail y xs x (k, within, is) = (suc k, omega arith, is)

pub Contains-cons : {X : Type 0} (y : X) (xs : List X) (x : X) → Contains (y ∷ xs) x → (y ≡ x) ⊎ Contains xs x
Contains-cons y xs x (zero, within, is) = inl is
Contains-cons y xs x (suc k, within, is) = inr (k, omega arith, is)
