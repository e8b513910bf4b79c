-- What is said of an address by an entry, and by what a trace keeps.
use Rattle.std.specs.Prelude.{ℕ, Option, None, Some}
use Rattle.key_graph.specs.declared.traces.TraceEntry.{TraceEntry}
use Rattle.key_graph.specs.declared.traces.TraceEntry.TheVariants.{Block, Node, Lost}
use Rattle.key_graph.specs.declared.traces.Said.{Said}
use Rattle.key_graph.specs.declared.traces.Said.TheVariants.{Data, Over}
use Rattle.sdbt_base.specs.Traces as trace
use Rattle.sdbt_base.specs.Traces.{Traced, DataOf, NodeOver}

-- that it is a data record of a block, or a node over its children, or nothing
abbrev pub said_of : TraceEntry → Option trace.TraceEntry
said_of (Block block) = Some (DataOf block)
said_of (Node children) = Some (NodeOver children)
said_of Lost = None

-- what is kept of an address
abbrev pub trace_of : Said → trace.TraceEntry
trace_of (Data block) = DataOf block
trace_of (Over children) = NodeOver children

-- an address with what is kept of it
abbrev pub traced_of : ℕ × Said → Traced
traced_of kept = record { addr = kept.0; trace = trace_of kept.1 }
