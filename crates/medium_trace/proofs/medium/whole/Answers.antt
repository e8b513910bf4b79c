use Rattle.std.proofs.Common.{◌∙◌, arith}
use Rattle.std.proofs.lemmas.List.{take_all}
use Rattle.medium_trace.proofs.medium.whole.Goals as goal

pub returns : goal.returns
returns c = c.in-Some.ensures.cases.same ∙ take_all 4128 c.args.page.now (omega (arith, c.requires))
