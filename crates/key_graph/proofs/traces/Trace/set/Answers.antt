use Rattle.std.proofs.Common.{◌≡◌, None, Some, refl}
use Rattle.std.specs.Prelude.{option_map}
use Rattle.key_graph.specs.Said.{said_of}
use Rattle.key_graph.specs.Said.{trace_of}
use Rattle.key_graph.proofs.TraceLaws.{sets}
use Rattle.key_graph.proofs.traces.Trace.set.Goals.{in-Block, in-Node}
use Rattle.key_graph.proofs.traces.Trace.set.Goals as goal

pub returns-in-Lost-clause-set : goal.returns-in-Lost-clause-set
returns-in-Lost-clause-set c =
    rw (← c.self.view_is) (sets c.self.inside.entries c.remove.new.self c.args.addr None (said_of c.args.entry) c.remove.ensures.updates (rw c.in-Lost.is refl))

pub returns-clause-set : goal.returns-clause-set
returns-clause-set c =
    let told : said_of c.args.entry ≡ option_map trace_of (Some c.match-entry.said) = elim c.match-entry.branch [ in-Block w ↦ rw (w.said-is, w.in-Block.is) refl | in-Node w ↦ rw (w.said-is, w.in-Node.is) refl ] in
    rw (← c.self.view_is) (sets c.self.inside.entries c.insert.new.self c.args.addr (Some c.match-entry.said) (said_of c.args.entry) c.in_ok-insert.ensures.updates told)
