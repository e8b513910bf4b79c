use Rattle.volume_lines.proofs.LineLaws.{long_is_bad}
use Rattle.volume_lines.proofs.lines.long_lines_are_bad.Goals as goal

pub returns : goal.returns
returns c = long_is_bad
