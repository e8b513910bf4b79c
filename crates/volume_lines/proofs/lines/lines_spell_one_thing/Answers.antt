use Rattle.volume_lines.proofs.LineLaws.{one_thing}
use Rattle.volume_lines.proofs.lines.lines_spell_one_thing.Goals as goal

pub returns : goal.returns
returns c = one_thing
