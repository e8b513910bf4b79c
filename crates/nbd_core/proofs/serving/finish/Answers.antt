use Rattle.std.proofs.Common.{◌≡◌, ◌∙◌, true, false, ap, arith, refl, rules, sym, None, []}
use denote.Enum.Bare.{same_true, sameb}
use Rattle.nbd_lang.specs.contracts.replies.Outcome.{the_type}
use Rattle.nbd_lang.specs.declared.replies.Outcome.{Outcome}
use Rattle.nbd_lang.specs.declared.replies.Outcome.TheVariants.{Done}
use Rattle.nbd_core.proofs.BlameLaws.{blame_as, blame_on}
use Rattle.session_calls.proofs.CarryLaws.{carries_end}
use Rattle.nbd_core.proofs.ServedLaws.{flush_ends, flush_finished}
use Rattle.nbd_core.proofs.ShortLaws.{not_done}
use Rattle.nbd_core.proofs.TurnLaws.{flush_ended, flush_halted, flush_unfinished}
use Rattle.nbd_core.proofs.serving.finish.Goals as goal

pub returns-in-Ok-clause-carries : goal.returns-in-Ok-clause-carries
returns-in-Ok-clause-carries g c = carries_end _ _ _ _ _ _ _ (λ going. refl) c.in-Ok.ensures.carries

pub returns-in-Ok-2-clause-carries : goal.returns-in-Ok-2-clause-carries
returns-in-Ok-2-clause-carries g c = carries_end _ _ _ _ _ _ _ (λ never. cc) c.in-Ok-2.ensures.carries

pub returns-in-Ok-clause-blame : goal.returns-in-Ok-clause-blame
returns-in-Ok-clause-blame g c rest = blame_on _ _ c.in-Ok.done _ (c.in-Ok.ensures.blame rest)

pub returns-in-Ok-2-clause-blame : goal.returns-in-Ok-2-clause-blame
returns-in-Ok-2-clause-blame g c rest =
    let blames = c.in-Ok-2.ensures.blame rest in
    record { fell = blames.fell; quiet = tt; cause = blames.quiet }

pub returns-in-Err-clause-blame : goal.returns-in-Err-clause-blame
returns-in-Err-clause-blame g c rest = blame_as _ _ c.in-Err.halt (c.in-Err.ensures.blame rest)

pub returns-in-Err-clause-ends : goal.returns-in-Err-clause-ends
returns-in-Err-clause-ends g c = flush_ends c.in-Err.halt (c.in-Err.ensures.halts None [])

pub returns-in-Ok-clause-finishes : goal.returns-in-Ok-clause-finishes
returns-in-Ok-clause-finishes g c told entry held =
    flush_ended _ _ c.in-Ok.done.session entry _ (same_true the_type (search rules) _ _ (sym c.if-eq.ensures)) (c.in-Ok.ensures.flushes told entry held)

pub returns-in-Ok-2-clause-finishes : goal.returns-in-Ok-2-clause-finishes
returns-in-Ok-2-clause-finishes g c told entry held =
    flush_unfinished _ _ _ entry _ (λ same. let no : false ≡ true = c.if-eq.ensures ∙ ap (λ (o : Outcome). sameb the_type o Done) same in cc) (c.in-Ok.ensures.flushes told entry held)

pub returns-in-Err-clause-finishes : goal.returns-in-Err-clause-finishes
returns-in-Err-clause-finishes g c told entry held = flush_halted _ _ entry c.in-Err.halt (c.in-Err.ensures.flushes told entry held)

pub returns-in-Ok-clause-short : goal.returns-in-Ok-clause-short
returns-in-Ok-clause-short g c is = absurd cc

pub returns-in-Ok-2-clause-short : goal.returns-in-Ok-2-clause-short
returns-in-Ok-2-clause-short g c is =
    (not_done _ _ _ _ c.in-Ok.done.session c.in-Ok.done.outcome (λ same. let no : false ≡ true = c.if-eq.ensures ∙ ap (λ (o : Outcome). sameb the_type o Done) same in cc) c.in-Ok.ensures.spends).0

pub returns-in-Ok-2-clause-adds : goal.returns-in-Ok-2-clause-adds
returns-in-Ok-2-clause-adds g c =
    let spent = not_done _ _ _ _ c.in-Ok.done.session c.in-Ok.done.outcome (λ same. let no : false ≡ true = c.if-eq.ensures ∙ ap (λ (o : Outcome). sameb the_type o Done) same in cc) c.in-Ok.ensures.spends in
    omega (arith, spent.1)

pub returns-in-Err-clause-adds : goal.returns-in-Err-clause-adds
returns-in-Err-clause-adds g c = c.in-Err.ensures.adds

pub returns-in-Err-clause-short : goal.returns-in-Err-clause-short
returns-in-Err-clause-short g c is = absurd (flush_finished c.in-Err.halt (c.in-Err.ensures.halts None []) is)
