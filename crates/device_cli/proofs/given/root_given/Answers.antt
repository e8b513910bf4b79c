use Rattle.device_cli.proofs.GivenLaws.{record_word, if_none}
use Rattle.device_cli.proofs.given.root_given.Goals as goal

pub returns-in_err-record-clause-none : goal.returns-in_err-record-clause-none
returns-in_err-record-clause-none c =
    if_none c.from_residual.result _ (λ root is. let some = c.record_of.ensures.word.1 (record_word _ _ root is) in let none = rw c.in_err-record.was at some in cc)
