-- Counts of faults, which never fall. A count is a number of 64 bits, and stays at its last value.
use Rattle.std.specs.Prelude.{◌≡◌, ℕ, ◌+◌, ◌-◌, ◌^◌, ◌<◌, ◌⊎◌, min, Result, Ok, Err, OnOk, IfErr, IsErrOf}

-- a count rose, or it stood at its last value
abbrev pub Rose : ℕ → ℕ → Type 0
Rose before now = (before < now) ⊎ (before ≡ 2 ^ 64 - 1)

-- what an answer tells of a count: it is as it was where the call was done, and rose where it failed
abbrev pub Tells : {T E : Type 0} → Result T E → ℕ → ℕ → Type 0
Tells (Ok done) before now = now ≡ before
Tells (Err fault) before now = Rose before now

-- the same of a call that is also refused for other causes: at these the count is as it was, too
pub record TellsOf {T E : Type 0} (fault : E) (result : Result T E) (before now : ℕ) : Type 0 where
  pub done : OnOk result (now ≡ before)
  pub failed : IsErrOf result fault → Rose before now
  pub refused : IfErr result (λ refusal. (refusal ≡ fault → ⊥) → now ≡ before)

-- the count after one more
abbrev pub next_count : ℕ → ℕ
next_count n = min (n + 1) (2 ^ 64 - 1)
