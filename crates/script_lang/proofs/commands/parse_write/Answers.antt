use Rattle.std.proofs.Common.{rules, ◌≡◌, ◌++◌, codes, subst}
use Rattle.script_lang.specs.Commands as commands
use Rattle.script_lang.specs.Grammar.{Spells}
use Rattle.script_lang.proofs.commands.parse_write.Goals as goal

pub returns-in_err-block-clause-none : goal.returns-in_err-block-clause-none
returns-in_err-block-clause-none c =
    let is : c.args.line.now ≡ codes "write " ++ c.in_ok-strip_prefix.field-0.now = search rules in
    rw c.from_residual-in_err-block.ensures (λ block content spelled.
    c.in_err-block.ensures.none block content (subst (λ text. Spells text (commands.Write block content)) is spelled))
