-- What contracts see of the input of a script in memory.
use Rattle.std.specs.Prelude.{ℕ, List}

-- what is left of it, and how often it has answered that it is at its end
pub record ScriptState : Type 0 where
  pub left : List ℕ
  pub ends : ℕ
