use Rattle.std.proofs.Common.{◌∙◌}
use Rattle.cert_checker.specs.Held.{live_of}
use Rattle.cert_checker.proofs.GoneLaws.{tells_live}
use Rattle.cert_checker.proofs.gone.breaks_live.Goals as goal

pub returns : goal.returns
returns c = tells_live (live_of c.args.live.now.entries) c.args.cert.now c.deref.result.now c.first_not_live.result (c.deref.ensures.value ∙ c.requires.gone) c.first_not_live.ensures
