-- What a line of a generated script asks for.
use Rattle.script_lang.specs.Commands.{Command}
use Rattle.script_lang.specs.Commands as commands
use Rattle.workload.specs.declared.steps.Step.{Step}
use Rattle.workload.specs.declared.steps.Step.TheVariants.{Format, Mount, Read, Write, Trim, Commit, Stat, Seize}

-- the command of a step
abbrev pub command_of : Step → Command
command_of (Format blocks order) = commands.Format blocks order
command_of Mount = commands.Mount
command_of (Read block) = commands.Read block
command_of (Write block content) = commands.Write block content
command_of (Trim block) = commands.Trim block
command_of Commit = commands.Commit
command_of Stat = commands.Stat
command_of Seize = commands.Seize
