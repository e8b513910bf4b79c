use Rattle.std.proofs.Common.{◌+◌, ◌++◌, true, ap, ◌∙◌, arith}
use Rattle.serde_json.specs.Written.{compact_text}
use Rattle.cert_codec.specs.Text.{never_json, PageFits}
use Rattle.cert_codec.proofs.InRange.{holds_more, holds_of_all, on_ok}
use Rattle.cert_codec.proofs.Writes.{to_write, write_more}
use Rattle.cert_codec.proofs.writing.push_never.Goals as goal

pub loop-i-preserved : goal.loop-i-preserved
loop-i-preserved c =
    let l = c.loop-i in
    let xs = c.args.pages.now in (
      ap (λ out. out ++ to_write never_json xs true (l.i + 1)) (c.in_ok-push_unkept.ensures.text ∙ ap (λ out. out ++ compact_text (never_json c.at.result.now)) c.in_ok-push_comma.ensures)
          ∙ write_more never_json xs l.out l.after l.i (c.at.result.now) c.at.ensures ∙ l.invariant.0,
      holds_more PageFits xs l.i c.at.result.now c.at.ensures l.invariant.1 c.in_ok-push_unkept.ensures.fits,
    )

pub returns-clause-fits : goal.returns-clause-fits
returns-clause-fits c = on_ok c.append-2.result (holds_of_all PageFits c.args.pages.now c.loop-i.i (omega (arith, c.len-i-end.ensures)) c.loop-i.invariant.1)
