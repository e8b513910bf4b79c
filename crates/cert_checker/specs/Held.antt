-- What the checker keeps of a live address, and what a trace says of that.
use Rattle.std.specs.Prelude.{ℕ, List, [], map, Option, None, Some, option_map}
use Rattle.std.specs.Ordering.{nat_cmp}
use Rattle.std.specs.BTreeMap.{BTreeMap, get}
use Rattle.key_graph.specs.Trace.{Entries}
use Rattle.sdbt_base.specs.Traces.{TraceEntry, DataOf, NodeOver, Traced}
use Rattle.cert_checker.specs.declared.held.Held.{Held}
use Rattle.cert_checker.specs.declared.held.Held.TheVariants.{Data, Node}
use Rattle.cert_checker.specs.declared.held.Placed.{Placed}

-- what a trace says of what is kept
abbrev pub trace_of_held : Held → TraceEntry
trace_of_held (Data block) = DataOf block
trace_of_held (Node children) = NodeOver children.items

-- the children of what is kept
abbrev pub children_held : Held → List ℕ
children_held (Data block) = []
children_held (Node children) = children.items

-- what the map says of each address
abbrev pub live_of : BTreeMap ℕ Held → Entries
live_of map addr = option_map trace_of_held (get nat_cmp map addr)

-- a list that is there, or else the empty one
abbrev pub children_or : Option (List ℕ) → List ℕ
children_or None = []
children_or (Some children) = children

-- the children of a live address
abbrev pub children_at : BTreeMap ℕ Held → ℕ → List ℕ
children_at map addr = children_or (option_map children_held (get nat_cmp map addr))

-- what an added list says of an item
abbrev pub traced_of : Placed → Traced
traced_of placed = record { addr = placed.addr; trace = trace_of_held placed.held }

-- the added list of these items
abbrev pub traced_all : List Placed → List Traced
traced_all items = map traced_of items
