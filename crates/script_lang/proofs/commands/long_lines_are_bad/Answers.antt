use Rattle.script_lang.proofs.LongLines.{long_is_bad}
use Rattle.script_lang.proofs.commands.long_lines_are_bad.Goals as goal

pub returns : goal.returns
returns c = long_is_bad
