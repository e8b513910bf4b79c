use Rattle.std.proofs.Common.{sym, ap, ◌∙◌}
use Rattle.std.specs.Option.{is_some}
use Rattle.std.specs.FinMap as map
use Rattle.script_lang.proofs.Blocks.{get_block, one_removed}
use Rattle.script_lang.proofs.devices.Contents.remove.Goals as goal

pub returns-clause-was : goal.returns-clause-was
returns-clause-was c = c.is_some.ensures ∙ ap is_some (c.remove.ensures.value ∙ sym (get_block c.self.inside.blocks.entries c.args.block) ∙ ap (λ m. map.get m c.args.block) c.self.view_is)

pub returns-clause-removed : goal.returns-clause-removed
returns-clause-removed c = one_removed c.self.inside.blocks.entries c.remove.new.self.entries c.args.block c.remove.ensures.updates.0
    ∙ ap (λ m. map.remove m c.args.block) c.self.view_is
