use Rattle.std.proofs.Common.{◌++◌, ap, sym, ◌∙◌}
use Rattle.sdbt_base.specs.Keys.{bare, bare_with}
use Rattle.sdbt_base.proofs.keys.Key.with_digest.Goals as goal

pub returns : goal.returns
returns c = ap (λ b. b ++ c.args.digest) (sym (bare_with c.self.inside.bytes c.self.inside.digest c.self.invariant) ∙ ap bare c.self.view_is)
