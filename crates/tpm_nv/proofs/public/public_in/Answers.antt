use Rattle.std.proofs.Common.{◌≡◌, inl, inr, lit<, arith}
use Rattle.tpm_nv.specs.Replies.{IsDone}
use Rattle.tpm_nv.specs.Areas.{IsPublic}
use Rattle.tpm_nv.specs.declared.heads.Failure.TheVariants.{Code}
use Rattle.tpm_nv.proofs.CauseLaws.{not_both, cause_with}
use Rattle.tpm_nv.proofs.AreaLaws.{short, public_awaited, carries}
use Rattle.tpm_nv.proofs.public.public_in.Goals as goal

pub returns-in-Some-clause-again : goal.returns-in-Some-clause-again
returns-in-Some-clause-again c area is =
    let fits = short is in
    c.in-Some.ensures.only area is.fits fits.whole fits.name (carries c.in-Ok.ensures.found is)

pub returns-in-None-clause-again : goal.returns-in-None-clause-again
returns-in-None-clause-again c area is =
    let fits = short is in
    c.in-None.ensures.only area is.fits fits.whole fits.name (carries c.in-Ok.ensures.found is)

pub returns-in-None-clause-refused : goal.returns-in-None-clause-refused
returns-in-None-clause-refused c = (
  λ public. elim public [
    | inl absent ↦ not_both 0x8001 0x18b c.in-Ok.body.now c.args.reply.now (lit< tt) (lit< tt) (lit< tt) c.in-Ok.ensures.found absent
    | inr found ↦ returns-in-None-clause-again c found.0 found.1
  ],
  λ n above below refusal. not_both 0x8001 n c.in-Ok.body.now c.args.reply.now (lit< tt) above below c.in-Ok.ensures.found refusal,
)

pub returns-else-eq-clause-refused : goal.returns-else-eq-clause-refused
returns-else-eq-clause-refused c =
    let other : c.in-Err.failure ≡ Code 0x18b → ⊥ = λ same. grind (arith, c.eq.ensures) in
    cause_with (IsDone 0x8001 c.args.reply.now) (IsPublic c.args.index c.args.reply.now) 0x18b c.args.reply.now c.in-Err.failure (lit< tt) (lit< tt)
    c.in-Err.ensures.failed other (public_awaited c.args.index c.args.reply.now)
