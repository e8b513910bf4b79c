use Rattle.std.proofs.Common.{◌+◌, ◌<◌, ◌^◌, ◌++◌, decimal, true, ap, ◌∙◌, arith}
use Rattle.cert_codec.specs.Text.{whole}
use Rattle.cert_codec.proofs.InRange.{holds_more, holds_of_all, on_ok}
use Rattle.cert_codec.proofs.Writes.{to_write, write_more}
use Rattle.cert_codec.proofs.writing.push_items.Goals as goal

pub loop-i-preserved : goal.loop-i-preserved
loop-i-preserved c =
    let l = c.loop-i in
    let xs = c.args.numbers.now in (
      ap (λ out. out ++ to_write whole xs true (l.i + 1)) (c.in_ok-push_number.ensures.text ∙ ap (λ out. out ++ decimal c.at.result.now) c.in_ok-push_comma.ensures)
          ∙ write_more whole xs l.out l.after l.i (c.at.result.now) c.at.ensures ∙ l.invariant.0,
      holds_more (λ n. n < 2 ^ 64) xs l.i c.at.result.now c.at.ensures l.invariant.1 c.in_ok-push_number.ensures.fits,
    )

pub returns-clause-fits : goal.returns-clause-fits
returns-clause-fits c = on_ok c.append.result (holds_of_all (λ n. n < 2 ^ 64) c.args.numbers.now c.loop-i.i (omega (arith, c.len-i-end.ensures)) c.loop-i.invariant.1)
