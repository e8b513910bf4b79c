use Rattle.std.proofs.Common.{sym, ap, ◌∙◌}
use Rattle.std.specs.FinMap as map
use Rattle.script_lang.proofs.Blocks.{as_many}
use Rattle.script_lang.proofs.devices.Contents.len.Goals as goal

pub returns : goal.returns
returns c = c.len.ensures.len ∙ sym (as_many c.self.inside.blocks.entries c.len.ensures.ordered) ∙ ap map.len c.self.view_is
