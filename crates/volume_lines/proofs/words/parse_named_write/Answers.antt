use Rattle.std.proofs.Common.{ℕ, List, ◌++◌, sym, ◌∙◌, subst}
use Rattle.std.specs.Prelude.{codes}
use Rattle.script_lang.specs.Commands as commands
use Rattle.script_lang.specs.Grammar.{Spells}
use Rattle.volume_lines.proofs.words.parse_named_write.Goals as goal

pub returns-in_err-write-clause-none : goal.returns-in_err-write-clause-none
returns-in_err-write-clause-none c =
    rw c.from_residual-in_err-write.ensures (λ name rest block content is same spelled.
    let named = c.in_ok-name.ensures.only name rest is same in
    c.in_err-write.ensures.none block content (subst (λ (text : List ℕ). Spells (codes "write " ++ text) (commands.Write block content)) (sym (c.text_from.ensures ∙ named.1)) spelled))
