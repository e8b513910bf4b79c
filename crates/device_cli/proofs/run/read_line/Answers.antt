use Rattle.script_lang.proofs.LongLines.{long_is_bad}
use Rattle.device_cli.proofs.run.read_line.Goals as goal

pub returns-in-None-clause-none : goal.returns-in-None-clause-none
returns-in-None-clause-none c text kept = long_is_bad text (rw c.in-None.is at kept)
