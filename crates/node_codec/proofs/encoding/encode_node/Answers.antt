-- Head and entries are written one behind the other.
use Rattle.node_codec.specs.Record.{record_bytes}
use Rattle.node_codec.proofs.encoding.encode_node.Goals as goal

pub returns-clause-record : goal.returns-clause-record
unfolding record_bytes
returns-clause-record c = simp (c.put_head.ensures, c.put_entries.ensures.spelled, c.kind_of_node.ensures, c.count_of.ensures)
