-- What an item of a list of added addresses says.
use Rattle.std.specs.Prelude.{ℕ, List, Option, Some, None}
use Rattle.sdbt_base.specs.Traces.{TraceEntry, Traced, DataOf, NodeOver}
use Rattle.cert_maker.specs.declared.added.Added.{Added}

-- that it is the data record of its block, or, where it has none, a node over its children
abbrev pub trace_of : Option ℕ → List ℕ → TraceEntry
trace_of (Some block) children = DataOf block
trace_of None children = NodeOver children

abbrev pub traced : Added → Traced
traced added = record { addr = added.addr; trace = trace_of added.block added.children }
