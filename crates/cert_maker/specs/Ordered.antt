-- Lists in the order of a number, as of addresses.
use Rattle.std.specs.Prelude.{◌≡◌, ◌<◌, ◌↔◌, ℕ, List, Contains, AllPairs}

-- items with the same number are one
abbrev pub AreOneEach : {X : Type 0} → (X → ℕ) → List X → Type 0
AreOneEach {X} number xs = (one other : X) → Contains xs one → Contains xs other → number one ≡ number other → one ≡ other

-- a list has just what the given one has, each number once, and they ascend
pub record IsOrderOf {X : Type 0} (number : X → ℕ) (given ordered : List X) : Type 0 where
  pub same : (x : X) → Contains ordered x ↔ Contains given x
  pub ascends : AllPairs (λ one next. number one < number next) ordered
