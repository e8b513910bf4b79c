use Rattle.std.proofs.Common.{arith, rules}
use Rattle.hex.specs.Hex.{IsBytes}
use Rattle.hex.proofs.HexLemmas.{decode_of-encode_lower}
use Rattle.root_words.proofs.spelling.digits_of.Goals as goal

pub returns : goal.returns
returns c =
    let fits : IsBytes c.args.bytes.now = λ i. let f = c.type_inv.bytes i in omega arith in
    let back = decode_of-encode_lower c.args.bytes.now fits in
    search rules
