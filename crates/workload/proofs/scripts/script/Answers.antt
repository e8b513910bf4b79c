use Rattle.std.proofs.Common.{rules}
use Rattle.workload.proofs.ScriptLaws.{script_text, script_spells, script_has_lines, script_is_short}
use Rattle.workload.proofs.scripts.script.Goals as goal

pub returns-clause-text : goal.returns-clause-text
returns-clause-text c =
    script_text c.new-line.result c.append_step.new.line c.append_step-2.new.line c.append_generated.new.line c.append_step-3.new.line c.append_step-4.new.line c.append_step-5.new.line
    c.args.seed c.args.count (search rules) (search rules) (search rules) (search rules) (search rules) (search rules) (search rules)

pub returns-clause-spelled : goal.returns-clause-spelled
returns-clause-spelled c = script_spells _ c.args.seed c.args.count (returns-clause-text c)

pub returns-clause-lines : goal.returns-clause-lines
returns-clause-lines c = script_has_lines _ c.args.seed c.args.count (returns-clause-text c)

pub returns-clause-short : goal.returns-clause-short
returns-clause-short c = script_is_short _ c.args.seed c.args.count (returns-clause-text c)
