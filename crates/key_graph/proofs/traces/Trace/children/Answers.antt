use Rattle.key_graph.proofs.TraceLaws.{says_node, says_data, says_nothing}
use Rattle.key_graph.proofs.traces.Trace.children.Goals as goal

pub returns-in_default : goal.returns-in_default
returns-in_default c = rw (← c.self.view_is) (says_nothing c.self.inside.entries.entries c.args.addr c.in_default.ensures.value)

pub returns-in-Data : goal.returns-in-Data
returns-in-Data c = rw (← c.self.view_is) (says_data c.self.inside.entries.entries c.args.addr _ _ c.in-Some.ensures.value c.in-Data.is)

pub returns-in-Over : goal.returns-in-Over
returns-in-Over c = rw (← c.self.view_is) (says_node c.self.inside.entries.entries c.args.addr _ _ c.in-Some.ensures.value c.in-Over.is)
