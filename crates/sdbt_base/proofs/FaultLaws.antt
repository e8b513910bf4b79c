-- Laws on counts of faults. Crates above cite them.
use Rattle.std.proofs.Common.{◌≡◌, ℕ, ◌≤◌, subst, arith}
use Rattle.std.specs.Prelude.{Result, Err}
use Rattle.sdbt_base.specs.Faults.{Rose, TellsOf}

-- a count that rose within a longer time rose in it
pub Rose-within : (before a b now : ℕ) → before ≤ a → a ≤ b → Rose a b → b ≤ now → Rose before now
Rose-within before a b now p o r q = grind arith

-- calls that left the count, and then one
pub tells_then : {T E : Type 0} (fault : E) (result : Result T E) (before mid now : ℕ) → mid ≡ before → TellsOf fault result mid now → TellsOf fault result before now
tells_then fault result before mid now same = subst (λ (n : ℕ). TellsOf fault result n now) same

-- a refusal is handed on
pub tells_on : {T U E : Type 0} (fault refusal : E) (before now : ℕ) → TellsOf {T = T} fault (Err refusal) before now → TellsOf {T = U} fault (Err refusal) before now
tells_on fault refusal before now tells = record { done = tt; failed = λ is. tells.failed (cc); refused = tells.refused }
