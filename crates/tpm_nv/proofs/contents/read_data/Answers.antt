use Rattle.std.proofs.Common.{◌≡◌, Some, ap, sym, ◌∙◌, lit<, arith}
use Rattle.tpm_nv.specs.Replies.{IsDone, IsContent}
use Rattle.tpm_nv.specs.declared.heads.Failure.TheVariants.{Code}
use Rattle.tpm_nv.proofs.CauseLaws.{not_both, not_awaited, cause_with, content_awaited, content_known}
use Rattle.tpm_nv.proofs.contents.read_data.Goals as goal

pub returns-in-Some-clause-again : goal.returns-in-Some-clause-again
returns-in-Some-clause-again c held says =
    let known = content_known held c.in-Ok.body.now c.args.reply.now c.in-Ok.ensures.found says in
    ap Some (c.in-Some.ensures.only known.bytes known.whole known.spelled) ∙ sym known.are

pub returns-in-None-clause-again : goal.returns-in-None-clause-again
returns-in-None-clause-again c held says =
    let known = content_known held c.in-Ok.body.now c.args.reply.now c.in-Ok.ensures.found says in
    c.in-None.ensures.only known.bytes known.whole known.spelled

pub returns-in-None-clause-failed : goal.returns-in-None-clause-failed
returns-in-None-clause-failed c = (
  λ content. returns-in-None-clause-again c content.0 content.1,
  λ n above below refusal. not_both 0x8002 n c.in-Ok.body.now c.args.reply.now (lit< tt) above below c.in-Ok.ensures.found refusal,
)

pub returns-else-eq-clause-failed : goal.returns-else-eq-clause-failed
returns-else-eq-clause-failed c =
    let other : c.in-Err.failure ≡ Code 0x14a → ⊥ = λ same. grind (arith, c.eq.ensures) in
    cause_with (IsDone 0x8002 c.args.reply.now) (IsContent c.args.reply.now) 0x14a c.args.reply.now c.in-Err.failure (lit< tt) (lit< tt)
    c.in-Err.ensures.failed other (content_awaited c.args.reply.now)

pub returns-else-eq-clause-again : goal.returns-else-eq-clause-again
returns-else-eq-clause-again c held says =
    not_awaited (IsContent c.args.reply.now) c.args.reply.now c.in-Err.failure (returns-else-eq-clause-failed c) (held, says)
