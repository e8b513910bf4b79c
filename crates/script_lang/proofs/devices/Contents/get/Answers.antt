use Rattle.std.proofs.Common.{sym, ap, ◌∙◌}
use Rattle.std.specs.FinMap as map
use Rattle.script_lang.proofs.Blocks.{get_block}
use Rattle.script_lang.proofs.devices.Contents.get.Goals as goal

pub returns : goal.returns
returns c = c.get.ensures.value ∙ sym (get_block c.self.inside.blocks.entries c.args.block) ∙ ap (λ m. map.get m c.args.block) c.self.view_is
