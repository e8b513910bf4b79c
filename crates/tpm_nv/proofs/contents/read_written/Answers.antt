use Rattle.std.proofs.Common.{[], lit<}
use Rattle.std.proofs.lemmas.Bool.{false≢true}
use Rattle.tpm_nv.specs.Messages.{with_session}
use Rattle.tpm_nv.proofs.CauseLaws.{not_both}
use Rattle.tpm_nv.proofs.contents.read_written.Goals as goal

pub returns-else-is_written-clause-written : goal.returns-else-is_written-clause-written
returns-else-is_written-clause-written c =
    (λ done. absurd (false≢true done), λ written. c.if-is_written.ensures.1 (c.in_ok-body.ensures.again (with_session []) written))

pub returns-else-is_written-clause-failed : goal.returns-else-is_written-clause-failed
returns-else-is_written-clause-failed c = (
  λ written. false≢true (c.if-is_written.ensures.1 (c.in_ok-body.ensures.again (with_session []) written)),
  λ n above below refusal. not_both 0x8002 n c.in_ok-body.body.now c.args.reply.now (lit< tt) above below c.in_ok-body.ensures.found refusal,
)
