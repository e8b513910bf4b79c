use Rattle.std.proofs.Common.{◌+◌, refl, arith}
use Rattle.chacha_words.proofs.pieces.put_block.Goals as goal

pub returns : goal.returns
returns c = λ first n sum has.
    let at = c.args.at in
    let one = c.put_four.ensures first (at + 4) refl has in
    let two = c.put_four-2.ensures first (at + 8) (omega arith) one in
    let three = c.put_four-3.ensures first (at + 12) (omega arith) two in
    c.put_four-4.ensures first n (omega arith) three
