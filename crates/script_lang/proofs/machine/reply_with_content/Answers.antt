use Rattle.std.proofs.Common.{ℕ, List, take, sym, subst}
use Rattle.script_lang.specs.Replies.{IsTrimmed}
use Rattle.script_lang.proofs.Trims.{trimmed_is_trimmed}
use Rattle.script_lang.proofs.machine.reply_with_content.Goals as goal

pub returns-clause-written : goal.returns-clause-written
returns-clause-written c =
    subst (λ (bytes : List ℕ). IsTrimmed (take c.trimmed_len.result bytes)) c.whole.ensures.value
    (subst IsTrimmed (sym c.trimmed_len.ensures.trimmed) (trimmed_is_trimmed c.whole.result.now))
