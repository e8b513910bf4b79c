-- The entries before it end where it begins.
use Rattle.std.proofs.Common.{arith}
use Rattle.record_versions.specs.Laws.{entry_room}
use Rattle.node_codec.proofs.entries.place_of.Goals as goal

pub overflow_mul-start : goal.overflow_mul-start
overflow_mul-start c = omega (arith, entry_room c.args.version c.args.i c.entry_size-size.result c.requires.version c.requires.count c.entry_size-size.ensures)

pub overflow_add-end : goal.overflow_add-end
overflow_add-end c = omega (arith, entry_room c.args.version c.args.i c.entry_size-size.result c.requires.version c.requires.count c.entry_size-size.ensures)
