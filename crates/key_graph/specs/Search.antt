-- The search for the addresses that a trace reaches.
use Rattle.std.specs.Prelude.{◌≡◌, ◌==◌, ◌++◌, ℕ, List, [], Option, Some, None, All, Contains}
use Rattle.std.specs.List.{list_any}
use Rattle.std.specs.Ordering.{nat_cmp}
use Rattle.std.specs.BTreeSet.{BTreeSet, contains}
use Rattle.sdbt_base.specs.Traces.{TraceEntry, DataOf, NodeOver}

-- the children of an address, if it is a node
abbrev pub children_of : Option TraceEntry → List ℕ
children_of None = []
children_of (Some (DataOf block)) = []
children_of (Some (NodeOver children)) = children

-- a set has just the addresses of a list
abbrev pub IsSetOf : BTreeSet ℕ → List ℕ → Type 0
IsSetOf set addrs = (addr : ℕ) → contains nat_cmp set addr ≡ list_any (λ a. addr == a) addrs

-- a list gained some of these addresses, and now it has them all
pub record Gains (old new addrs : List ℕ) : Type 0 where
  pub more : List ℕ
  pub gained : new ≡ old ++ more
  pub some : All (Contains addrs) more
  pub each : All (Contains new) addrs
