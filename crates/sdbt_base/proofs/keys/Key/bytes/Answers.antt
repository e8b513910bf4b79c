use Rattle.std.proofs.Common.{ap, sym, ◌∙◌}
use Rattle.sdbt_base.specs.Keys.{bare, bare_with}
use Rattle.sdbt_base.proofs.keys.Key.bytes.Goals as goal

pub returns-clause-value : goal.returns-clause-value
returns-clause-value c = sym (bare_with c.self.inside.bytes c.self.inside.digest c.self.invariant) ∙ ap bare c.self.view_is
