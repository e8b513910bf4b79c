use Rattle.std.proofs.Common.{◌∙◌}
use Rattle.cert_checker.proofs.GoneLaws.{tells_left}
use Rattle.cert_checker.proofs.gone.breaks_left.Goals as goal

pub returns : goal.returns
returns c =
    tells_left c.args.live.now.entries c.args.cert.now c.deref.result.now c.args.taken.now c.least_dropped_of_all.result (c.deref.ensures.value ∙ c.requires.of.gone) c.requires.fresh c.requires.taken
    c.least_dropped_of_all.ensures
