use Rattle.script_lang.proofs.CommandLaws.{one_command}
use Rattle.script_lang.proofs.commands.lines_spell_one_command.Goals as goal

pub returns : goal.returns
returns c = one_command
