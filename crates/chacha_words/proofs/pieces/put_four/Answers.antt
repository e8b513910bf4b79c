use Rattle.std.proofs.Common.{◌+◌, refl, arith}
use Rattle.chacha_words.proofs.pieces.put_four.Goals as goal

pub returns : goal.returns
returns c = λ first n sum has.
    let at = c.args.at in
    let one = c.put_word.ensures first (at + 1) refl has in
    let two = c.put_word-2.ensures first (at + 2) (omega arith) one in
    let three = c.put_word-3.ensures first (at + 3) (omega arith) two in
    c.put_word-4.ensures first n (omega arith) three
