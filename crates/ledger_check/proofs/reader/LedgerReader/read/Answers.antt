use Rattle.std.proofs.Common.{◌∙◌}
use Rattle.ledger_check.proofs.ReadingLaws.{IsReading-start, IsReading-line, IsReading-end}
use Rattle.ledger_check.proofs.reader.LedgerReader.read.Goals as goal

pub loop-front-init : goal.loop-front-init
loop-front-init c taken has = IsReading-start taken c.args.piece.now c.args.self.now.checker c.args.self.now.line.items has.certs has.line

pub loop-front-preserved : goal.loop-front-preserved
loop-front-preserved c taken has =
    IsReading-line _ _ _ _ _ _ _ _ (c.loop-front.invariant taken has) c.in-Some.ensures.found.0 c.in-Some.ensures.found.1 c.in_ok-end_line.ensures.fed c.in_ok-end_line.ensures.line

pub returns : goal.returns
returns c taken has =
    let end = IsReading-end _ _ _ _ (c.loop-front.invariant taken has) c.in_default.ensures.none in
    record { certs = end.0; line = c.in_ok-extend_from_slice.ensures.items ∙ end.1 }
