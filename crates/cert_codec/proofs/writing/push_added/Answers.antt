use Rattle.std.proofs.Common.{◌+◌, ◌++◌, true, ap, ◌∙◌, arith}
use Rattle.serde_json.specs.Written.{compact_text}
use Rattle.cert_maker.specs.Added.{traced}
use Rattle.cert_codec.specs.Text.{added_json, TracedFits}
use Rattle.cert_codec.proofs.InRange.{holds_more, holds_of_all, on_ok}
use Rattle.cert_codec.proofs.Writes.{to_write, write_more}
use Rattle.cert_codec.proofs.writing.push_added.Goals as goal

pub loop-i-preserved : goal.loop-i-preserved
loop-i-preserved c =
    let l = c.loop-i in
    let xs = c.args.added.now in (
      ap (λ out. out ++ to_write added_json xs true (l.i + 1)) (c.in_ok-push_traced.ensures.text ∙ ap (λ out. out ++ compact_text (added_json (traced c.at.result.now))) c.in_ok-push_comma.ensures)
          ∙ write_more added_json xs l.out l.after l.i (traced c.at.result.now) c.at.ensures ∙ l.invariant.0,
      holds_more TracedFits xs l.i (traced c.at.result.now) c.at.ensures l.invariant.1 c.in_ok-push_traced.ensures.fits,
    )

pub returns-clause-fits : goal.returns-clause-fits
returns-clause-fits c = on_ok c.append-2.result (holds_of_all TracedFits c.args.added.now c.loop-i.i (omega (arith, c.len-i-end.ensures)) c.loop-i.invariant.1)
