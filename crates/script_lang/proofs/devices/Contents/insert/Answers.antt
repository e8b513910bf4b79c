use Rattle.std.proofs.Common.{ap, ◌∙◌}
use Rattle.std.specs.FinMap as map
use Rattle.script_lang.proofs.Blocks.{one_put}
use Rattle.script_lang.proofs.devices.Contents.insert.Goals as goal

pub returns-clause-ok : goal.returns-clause-ok
returns-clause-ok c = one_put c.self.inside.blocks.entries c.insert.new.self.entries c.args.block c.args.content c.in_ok-insert.ensures.updates.0
    ∙ ap (λ m. map.insert m c.args.block c.args.content) c.self.view_is
