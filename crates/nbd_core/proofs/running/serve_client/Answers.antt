use Rattle.std.proofs.Common.{inl, inr, refl, ap, arith, ◌∙◌, ◌≡◌, ◌*◌, Ok}
use Rattle.device_session.specs.Open.{blocks_of}
use Rattle.session_calls.proofs.CarryLaws.{carries_start, carries_end}
use Rattle.nbd_core.proofs.ServedLaws.{late_of}
use Rattle.device_terms.proofs.MomentLaws.{still}
use Rattle.nbd_core.proofs.SpanLaws.{conversed_of}
use Rattle.device_course.proofs.MadeLaws.{made_kept}
use Rattle.nbd_core.proofs.running.serve_client.Goals as goal

pub returns-in_default-clause-carries : goal.returns-in_default-clause-carries
returns-in_default-clause-carries g c = carries_end _ _ _ _ _ _ _ (λ never. tt) (carries_start _ _ _ c.requires.ready)

pub returns-in-Ok-Nothing-clause-carries : goal.returns-in-Ok-Nothing-clause-carries
returns-in-Ok-Nothing-clause-carries g c = carries_end _ _ _ _ _ _ _ (λ going. tt) (carries_start _ _ _ c.requires.ready)

pub returns-in-Err-clause-carries : goal.returns-in-Err-clause-carries
returns-in-Err-clause-carries g c = carries_end _ _ _ _ _ _ _ (λ never. tt) (carries_start _ _ _ c.requires.ready)

pub returns-in-Ok-Requests-clause-says : goal.returns-in-Ok-Requests-clause-says
returns-in-Ok-Requests-clause-says g c =
    let size : c.blocks-2.result * 4096 ≡ 4096 * blocks_of c.args.session = omega (arith, c.blocks-2.ensures) in
    inr (conversed_of _ _ _ _ _ _ _ _ _ _ _ _ _ _ _ _ _ _ size (c.in-Ok-Requests.is ∙ ap Ok c.in-Ok-Requests.field-0-is) c.in-Ok.ensures.0 c.in-Ok.ensures.1 c.haggle.ensures.limit c.haggle.ensures.haggled (c.serve.new.intake, c.serve.ensures.served))

pub returns-in-Ok-Nothing-clause-says : goal.returns-in-Ok-Nothing-clause-says
returns-in-Ok-Nothing-clause-says g c =
    let size : c.blocks-2.result * 4096 ≡ 4096 * blocks_of c.args.session = omega (arith, c.blocks-2.ensures) in
    inr (conversed_of _ _ _ _ _ _ _ _ _ _ _ _ _ _ _ _ _ _ size (c.in-Ok-Nothing.is ∙ ap Ok c.in-Ok-Nothing.field-0-is) c.in-Ok.ensures.0 c.in-Ok.ensures.1 c.haggle.ensures.limit c.haggle.ensures.haggled (refl, refl, refl, record { pages = refl; reads = λ told. omega arith; changes = λ told. refl; made = λ entry from. made_kept _ _ entry.device from.1.at.there.device from.1.at.served (still _) }))

pub returns-in-Err-clause-says : goal.returns-in-Err-clause-says
returns-in-Err-clause-says g c =
    let size : c.blocks-2.result * 4096 ≡ 4096 * blocks_of c.args.session = omega (arith, c.blocks-2.ensures) in
    inr (conversed_of _ _ _ _ _ _ _ _ _ _ _ _ _ _ _ _ _ _ size c.in-Err.is c.in-Ok.ensures.0 c.in-Ok.ensures.1 c.haggle.ensures.limit c.haggle.ensures.haggled (refl, refl, refl, record { pages = refl; reads = λ told. omega arith; changes = λ told. refl; made = λ entry from. made_kept _ _ entry.device from.1.at.there.device from.1.at.served (still _) }))

pub returns-in-Ok-Requests-clause-halts : goal.returns-in-Ok-Requests-clause-halts
returns-in-Ok-Requests-clause-halts g c = late_of _ _ _ _ _ _ _ _ _ _ _ _ _ c.serve.result c.serve.ensures.served

pub returns-in_default-clause-says : goal.returns-in_default-clause-says
returns-in_default-clause-says g c = inl record {
  untaken = refl;
  unput = refl;
  early = tt;
  stayed = record { pages = refl; reads = λ told. omega arith; changes = λ told. refl; made = λ entry from. made_kept _ _ entry.device from.1.at.there.device from.1.at.served (still _) };
}
