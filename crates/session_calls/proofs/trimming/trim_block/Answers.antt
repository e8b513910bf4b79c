use Rattle.std.proofs.Common.{ℕ, ◌*◌, Ok, Err, inl, inr, refl, ap, ◌∙◌, arith}
use Rattle.device_session.specs.Open.{is_touched}
use Rattle.sdbt_base.specs.Counts.{counts}
use Rattle.session_calls.proofs.CellLaws.{wrong_page}
use Rattle.session_calls.proofs.LookLaws.{trim_of_call, look_along, other_trim_refusal, trim_any, trim_blamed, trim_done, trim_leads, trim_refused}
use Rattle.session_calls.proofs.StateLaws.{served_still}
use Rattle.session_calls.proofs.trimming.trim_block.Goals as goal

pub stop_of_trim-requires : goal.stop_of_trim-requires
stop_of_trim-requires g c = other_trim_refusal c.in-Err.refusal _ _ _ _ c.in-Err.ensures.cause c.requires.within

pub returns-in-Ok-clause-leads : goal.returns-in-Ok-clause-leads
returns-in-Ok-clause-leads g c told device array at =
    trim_done _ _ device array c.args.block (is_touched c.args.session.now) at.there.session.1 (c.in-Ok.ensures.array told device array.contents at.there.session.0).array (served_still _ _ (c.trim.ensures.looks.time told) at.served)

pub returns-in-Err-clause-leads : goal.returns-in-Err-clause-leads
returns-in-Err-clause-leads g c told device array at =
    trim_refused _ _ device array c.args.block (is_touched c.args.session.now) c.in-Err.refusal _ c.stop_of_trim.ensures (c.in-Err.ensures.array told device array.contents at.there.session.0).array
    (c.in-Err.ensures.updates.touched_still ∙ at.there.session.1) (served_still _ _ (c.trim.ensures.looks.time told) at.served)

pub returns-in-Ok-clause-goes : goal.returns-in-Ok-clause-goes
returns-in-Ok-clause-goes g c drawn = record {
  along = look_along g.P.Platform 1 (2 * c.args.session.now.grove.level) _ _ drawn _ _ c.in-Ok.ensures.goes_on (omega (arith, c.in-Ok.ensures.updates.needs)) c.in-Ok.ensures.reads.most c.in-Ok.ensures.listed c.in-Ok.ensures.looks
      (λ told device array at. trim_leads _ _ device array c.args.block (Ok tt)
      (trim_done _ _ device array c.args.block (is_touched c.args.session.now) at.there.session.1 (c.in-Ok.ensures.array told device array.contents at.there.session.0).array (served_still _ _ (c.trim.ensures.looks.time told) at.served)));
  needs_still = tt;
  mapped_still = tt;
  stops = tt;
  quiet = ap (λ (n : ℕ). counts n drawn.faults 0 0 0) c.in-Ok.ensures.cause.1;
  cause = tt;
}

pub returns-in-Err-clause-goes : goal.returns-in-Err-clause-goes
returns-in-Err-clause-goes g c drawn = record {
  along = look_along g.P.Platform 1 (2 * c.args.session.now.grove.level) _ _ drawn _ _ c.in-Err.ensures.goes_on (omega (arith, c.in-Err.ensures.updates.needs)) c.in-Err.ensures.reads.most c.in-Err.ensures.listed c.in-Err.ensures.looks
      (λ told device array at. trim_leads _ _ device array c.args.block (Err c.stop_of_trim.result)
      (trim_refused _ _ device array c.args.block (is_touched c.args.session.now) c.in-Err.refusal c.stop_of_trim.result c.stop_of_trim.ensures (c.in-Err.ensures.array told device array.contents at.there.session.0).array
      (c.in-Err.ensures.updates.touched_still ∙ at.there.session.1) (served_still _ _ (c.trim.ensures.looks.time told) at.served)));
  needs_still = c.in-Err.ensures.updates.needs_still;
  mapped_still = c.in-Err.ensures.updates.mapped_still;
  stops = trim_of_call c.in-Err.refusal _ c.stop_of_trim.ensures;
  quiet = tt;
  cause = trim_blamed c.in-Err.refusal _ _ _ (counts (g.P.Platform.faults c.args.platform.now) drawn.faults 0 0 0) (counts (g.P.Platform.faults c.trim.new.platform) drawn.faults 0 0 0) refl c.stop_of_trim.ensures c.in-Err.ensures.cause;
}

-- on any pages
pub returns-in-Ok-clause-any : goal.returns-in-Ok-clause-any
returns-in-Ok-clause-any g c known = elim (c.in-Ok.ensures.taken known.0 known.1.follows.cached).counts [ inl lacks ↦ inl lacks.0 | inr has ↦ inr (omega (arith, has.1)) ]

pub returns-in-Ok-clause-taken : goal.returns-in-Ok-clause-taken
returns-in-Ok-clause-taken g c told mounted = c.in-Ok.ensures.taken told mounted.follows.cached

pub returns-in-Err-clause-any : goal.returns-in-Err-clause-any
returns-in-Err-clause-any g c =
    trim_any _ (g.P.Platform.history c.args.platform.now).present (g.P.Platform.history c.trim.new.platform).present c.args.session.now c.args.block c.in-Err.refusal c.stop_of_trim.result c.stop_of_trim.ensures (λ addr named known.
    wrong_page c.args.session.now _ c.args.block addr (g.P.Platform.history c.args.platform.now) (g.P.Platform.history c.trim.new.platform) _ c.requires.open known.1 (c.trim.ensures.looks.time known.0) (c.trim.ensures.looks.image known.0)
    (λ uncounted. uncounted.0) (c.in-Err.ensures.damaged known.0 addr (ap Err named)))
