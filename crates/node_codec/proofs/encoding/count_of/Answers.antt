use Rattle.std.proofs.Common.{length, arith}
use Rattle.node_codec.specs.Laws.{most_at_most}
use Rattle.node_codec.proofs.encoding.count_of.Goals as goal

pub overflow_cast-result : goal.overflow_cast-result
overflow_cast-result c = omega (arith, most_at_most c.args.version (length c.args.entries.now) c.requires.version c.requires.count)
