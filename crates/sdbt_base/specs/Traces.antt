-- What a trace says of addresses.
use Rattle.std.specs.Prelude.{ℕ, List}

-- what a trace says of an address: a data record of a block, or a node with the addresses of its children
pub data TraceEntry : Type 0 where
  DataOf : (block : ℕ) → TraceEntry
  NodeOver : (children : List ℕ) → TraceEntry

-- an address, and what a trace says of it
pub record Traced : Type 0 where
  pub addr : ℕ
  pub trace : TraceEntry
