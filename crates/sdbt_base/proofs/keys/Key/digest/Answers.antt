use Rattle.std.proofs.Common.{ap, sym, ◌∙◌}
use Rattle.sdbt_base.specs.Keys.{digest_of, digest_with}
use Rattle.sdbt_base.proofs.keys.Key.digest.Goals as goal

pub returns : goal.returns
returns c = sym (digest_with c.self.inside.bytes c.self.inside.digest c.self.invariant) ∙ ap digest_of c.self.view_is
