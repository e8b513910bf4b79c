-- How far a count rises.
use Rattle.std.specs.Prelude.{◌≡◌, ◌≤◌, ◌+◌, ℕ, Result, Ok, Err}

-- a count rose by one at most, and it didn't fall
pub record MayRiseByOne (old new : ℕ) : Type 0 where
  pub rises : old ≤ new
  pub by_one : new ≤ old + 1

-- a count rose by so much at most, and it didn't fall
pub record MayRiseBy (most old new : ℕ) : Type 0 where
  pub rises : old ≤ new
  pub at_most : new ≤ old + most

-- a call counts once where it was done, and where it failed once at most
abbrev pub CountsOnce : {T E : Type 0} → Result T E → ℕ → ℕ → Type 0
CountsOnce (Ok done) old new = new ≡ old + 1
CountsOnce (Err fault) old new = MayRiseByOne old new
