-- Behind a whole record there is nothing that has to be zero.
use Rattle.std.proofs.Common.{arith}
use Rattle.std.proofs.lemmas.List.{drop_all}
use Rattle.node_codec.proofs.encoding.encode_block.Goals as goal

pub encode_block_over-requires-clause-zeros : goal.encode_block_over-requires-clause-zeros
encode_block_over-requires-clause-zeros c = drop_all 4128 c.args.out.now (omega (c.requires.size, arith))

pub returns-clause-record : goal.returns-clause-record
returns-clause-record c = c.encode_block_over.ensures.record
