use Rattle.std.proofs.Common.{arith}
use Rattle.hex.proofs.HexLemmas.{decode_of-ok}
use Rattle.script_lang.proofs.words.parse_hex.Goals as goal

pub returns-then-count-eq0-clause-none : goal.returns-then-count-eq0-clause-none
returns-then-count-eq0-clause-none c content h =
    omega (arith, (decode_of-ok c.args.text.now content h.0).2, h.1, c.if-count-eq0.true)

pub returns-then-count-gt-BLOCK-clause-none : goal.returns-then-count-gt-BLOCK-clause-none
returns-then-count-gt-BLOCK-clause-none c content h =
    omega (arith, (decode_of-ok c.args.text.now content h.0).2, h.2, c.if-count-gt-BLOCK.true)
