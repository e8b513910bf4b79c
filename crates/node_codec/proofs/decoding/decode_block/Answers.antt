-- The bytes are a data record exactly where their head is that of one.
use Rattle.std.proofs.Common.{◌<◌, drop, arith}
use Rattle.std.proofs.lemmas.Grind.{common_steps}
use Rattle.std.specs.Prelude.{All}
use Rattle.std.proofs.lemmas.List.{length-drop}
use Rattle.std.proofs.lemmas.List.Elements.{All-drop}
use Rattle.sdbt_base.specs.Bytes.{IsBytes}
use Rattle.node_codec.specs.Laws.{block_found, block_again, no_block_of_again}
use Rattle.node_codec.proofs.decoding.decode_block.Goals as goal

pub returns-clause-found : goal.returns-clause-found
returns-clause-found c = λ version.
    let bytes : All (λ b. b < 256) c.args.body.now = λ k d below. grind (arith, common_steps, c.type_inv.body k) in
    let payload : IsBytes 4096 (drop 32 c.args.body.now) = (omega (arith, length-drop 32 c.args.body.now, c.requires), All-drop (λ b. b < 256) 32 c.args.body.now bytes) in
    block_found _ version c.args.addr c.args.body.now _ c.split_at.ensures.front payload c.block_of.ensures.found

pub returns-clause-again : goal.returns-clause-again
returns-clause-again c = λ version. block_again _ version c.args.addr c.args.body.now _ c.split_at.ensures.front c.block_of.ensures.again

pub returns-clause-none : goal.returns-clause-none
returns-clause-none c = λ version. no_block_of_again _ version c.args.addr c.args.body.now (returns-clause-again c version)
