use Rattle.std.proofs.Common.{Result, sym, subst}
use Rattle.platform.proofs.Moments.{During-now}
use Rattle.device_terms.specs.Served.{IsServedImage}
use Rattle.session_calls.specs.Upgrades.{AnswersUpgrade, UpgradeGoes, UpgradeLeads}
use Rattle.session_calls.specs.declared.stops.DeviceStop.{DeviceStop}
use Rattle.session_calls.specs.declared.upgrading.UpgradeReply.{UpgradeReply}
use Rattle.session_calls.proofs.UpgradeGoesLaws.{refused_goes, upgraded_goes}
use Rattle.session_calls.proofs.UpgradeLaws.{refusal_answers, refused_leads, upgraded_leads}
use Rattle.session_calls.proofs.upgrading.upgrade_device.Goals as goal

pub returns-in-Ok-clause-goes : goal.returns-in-Ok-clause-goes
returns-in-Ok-clause-goes g c =
    let is = c.in-Ok.ensures.cause in
    upgraded_goes g.P.Platform g.T.Tape g.L.Sink _ _ _ _ _ _ c.in-Ok.number is.0 _ is.1 is.3 is.5 c.upgrade.ensures.discloses c.in-Ok.ensures.certifies g.met.P.Platform.counts_pages c.upgrade.ensures.synced c.in-Ok.ensures.spends c.upgrade.ensures.grows

pub returns-in-Err-clause-goes : goal.returns-in-Err-clause-goes
returns-in-Err-clause-goes g c =
    subst (λ (r : Result UpgradeReply DeviceStop). UpgradeGoes g.P.Platform g.T.Tape g.L.Sink c.args.platform.now c.upgrade.new.platform c.args.tape.now c.upgrade.new.tape c.args.ledger.now c.upgrade.new.ledger r) (sym c.answer_of.ensures)
    (refused_goes g.P.Platform g.T.Tape g.L.Sink _ _ _ _ _ _ c.in-Err.refusal _ c.in-Err.ensures.cause c.in-Err.ensures.unput c.upgrade.ensures.discloses c.in-Err.ensures.certifies g.met.P.Platform.counts_pages c.upgrade.ensures.synced c.in-Err.ensures.spends c.upgrade.ensures.grows)

pub returns-in-Ok-clause-answers : goal.returns-in-Ok-clause-answers
returns-in-Ok-clause-answers g c =
    let is = c.in-Ok.ensures.cause in
    record { root = is.0; begins = is.1; is_number = is.2; adds = is.3; next = is.4 }

pub returns-in-Err-clause-answers : goal.returns-in-Err-clause-answers
returns-in-Err-clause-answers g c =
    subst (λ (r : Result UpgradeReply DeviceStop). AnswersUpgrade g.P.Platform g.T.Tape c.args.platform.now c.upgrade.new.platform c.args.tape.now c.upgrade.new.tape r) (sym c.answer_of.ensures)
    (refusal_answers g.P.Platform g.T.Tape _ _ _ _ _ _ c.in-Err.refusal (λ told. g.met.P.Platform.counts_pages told c.args.platform.now) c.in-Err.ensures.cause)

pub returns-in-Ok-clause-leads : goal.returns-in-Ok-clause-leads
returns-in-Ok-clause-leads g c told entry at =
    let is = c.in-Ok.ensures.cause in
    upgraded_leads g.P.Platform _ _ c.in-Ok.number is.0 entry told at is.1 is.3 (c.in-Ok.ensures.made told) (During-now _ _ IsServedImage (c.upgrade.ensures.discloses.serves told at.served)) (c.upgrade.ensures.time told)

pub returns-in-Err-clause-leads : goal.returns-in-Err-clause-leads
returns-in-Err-clause-leads g c told entry at =
    subst (λ (r : Result UpgradeReply DeviceStop). UpgradeLeads g.P.Platform c.args.platform.now c.upgrade.new.platform entry r) (sym c.answer_of.ensures)
    (refused_leads g.P.Platform g.T.Tape _ _ _ _ _ _ c.in-Err.refusal entry told (g.met.P.Platform.counts_pages told c.args.platform.now) at (c.upgrade.ensures.time told) c.in-Err.ensures.cause)
