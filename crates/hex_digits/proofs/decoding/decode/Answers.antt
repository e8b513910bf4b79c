use Rattle.hex.proofs.HexLemmas.{decode_of-ok}
use Rattle.hex_digits.proofs.decoding.decode.Goals as goal

pub returns-then-not-all_digits-clause-none : goal.returns-then-not-all_digits-clause-none
returns-then-not-all_digits-clause-none c =
    λ content ok.
    let valid = c.all_digits.ensures.1 (decode_of-ok c.args.digits.now content ok).1 in
    cc valid
