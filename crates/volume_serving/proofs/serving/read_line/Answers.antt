use Rattle.volume_lines.proofs.LineLaws.{long_is_bad}
use Rattle.volume_serving.proofs.serving.read_line.Goals as goal

pub returns-in-None-clause-none : goal.returns-in-None-clause-none
returns-in-None-clause-none c text kept = long_is_bad text (rw c.in-None.is at kept)
