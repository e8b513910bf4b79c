use Rattle.std.proofs.Common.{Ok, Err, inl, inr, ap, ◌∙◌, arith}
use Rattle.sdbt_base.specs.Arrays.{padded, written}
use Rattle.sdbt_base.specs.Keys.{bare}
use Rattle.btree_update.specs.Groves.{places_of}
use Rattle.sdbt_base.specs.Counts.{counts}
use Rattle.session_calls.proofs.CellLaws.{wrong_page}
use Rattle.session_calls.proofs.StateLaws.{at_array, served_still}
use Rattle.session_calls.proofs.WriteLaws.{write_of_call, other_refusal, write_added, write_along, write_blamed, write_any, write_left, write_refused}
use Rattle.session_calls.proofs.writing.write_block.Goals as goal

pub stop_of_write-requires : goal.stop_of_write-requires
stop_of_write-requires g c = other_refusal c.in-Err.refusal _ _ _ _ _ _ c.in-Err.ensures.cause c.requires.within c.requires.free

pub returns-in-Ok-clause-leads : goal.returns-in-Ok-clause-leads
returns-in-Ok-clause-leads g c told device array at =
    at_array _ _ device (written array c.args.block c.args.content.now) (c.in-Ok.ensures.array told device array.contents at.there.session.0).array c.in-Ok.ensures.touched (served_still _ _ (c.write.ensures.grows.time told) at.served)

pub returns-in-Err-clause-leads : goal.returns-in-Err-clause-leads
returns-in-Err-clause-leads g c told device array at =
    write_refused _ _ device array c.args.block c.args.content.now (padded c.args.content.now) c.in-Err.refusal _ c.stop_of_write.ensures (c.in-Err.ensures.array told device array.contents at.there.session.0).array
    (c.in-Err.ensures.updates.touched_still ∙ at.there.session.1) (served_still _ _ (c.write.ensures.grows.time told) at.served)

pub returns-in-Ok-clause-goes : goal.returns-in-Ok-clause-goes
returns-in-Ok-clause-goes g c = record {
  along = write_along g.P.Platform g.T.Tape _ _ _ _ _ _ _ c.args.block c.args.content.now (Ok tt) c.in-Ok.ensures.goes_on c.in-Ok.ensures.updates.needs c.in-Ok.ensures.keeps c.in-Ok.ensures.grows
      (λ told device array at. at_array _ _ device (written array c.args.block c.args.content.now) (c.in-Ok.ensures.array told device array.contents at.there.session.0).array c.in-Ok.ensures.touched (served_still _ _ (c.write.ensures.grows.time told) at.served));
  needs_still = tt;
  mapped_still = tt;
  stops = tt;
  quiet = c.in-Ok.ensures.cause.2;
  cause = tt;
}

pub returns-in-Err-clause-goes : goal.returns-in-Err-clause-goes
returns-in-Err-clause-goes g c = record {
  along = write_along g.P.Platform g.T.Tape _ _ _ _ _ _ _ c.args.block c.args.content.now (Err c.stop_of_write.result) c.in-Err.ensures.goes_on c.in-Err.ensures.updates.needs c.in-Err.ensures.keeps c.in-Err.ensures.grows
      (λ told device array at. write_refused _ _ device array c.args.block c.args.content.now (padded c.args.content.now) c.in-Err.refusal _ c.stop_of_write.ensures (c.in-Err.ensures.array told device array.contents at.there.session.0).array (c.in-Err.ensures.updates.touched_still ∙ at.there.session.1) (served_still _ _ (c.write.ensures.grows.time told) at.served));
  needs_still = c.in-Err.ensures.updates.needs_still;
  mapped_still = c.in-Err.ensures.updates.mapped_still;
  stops = write_of_call c.in-Err.refusal _ c.stop_of_write.ensures;
  quiet = tt;
  cause = write_blamed c.in-Err.refusal _ _ _ _ _ (counts (g.P.Platform.faults c.args.platform.now) (g.T.Tape.faults c.args.tape.now) 0 0 0)
      (counts (g.P.Platform.faults c.write.new.platform) (g.T.Tape.faults c.write.new.tape) 0 0 0) c.stop_of_write.ensures c.in-Err.ensures.cause;
}

pub returns-in-Ok-clause-adds : goal.returns-in-Ok-clause-adds
returns-in-Ok-clause-adds g c = (c.in-Ok.ensures.adds.0, bare c.in-Ok.ensures.adds.1.key, c.in-Ok.ensures.adds.1.drew)

pub returns-in-Err-clause-adds : goal.returns-in-Err-clause-adds
returns-in-Err-clause-adds g c = write_added g.P.Platform g.T.Tape _ _ _ _ (places_of c.write.new.self.grove) c.args.block c.in-Err.refusal _ c.stop_of_write.ensures c.in-Err.ensures.adds

-- on any pages
pub returns-in-Ok-clause-any : goal.returns-in-Ok-clause-any
returns-in-Ok-clause-any g c known = elim ((c.in-Ok.ensures.written known.0 known.1.follows.cached).0.counts) [ inl has ↦ inl has.0 | inr lacks ↦ inr lacks.1 ]

pub returns-in-Ok-clause-written : goal.returns-in-Ok-clause-written
returns-in-Ok-clause-written g c told mounted = (c.in-Ok.ensures.written told mounted.follows.cached).0

pub returns-in-Err-clause-any : goal.returns-in-Err-clause-any
returns-in-Err-clause-any g c =
    write_any _ (g.P.Platform.history c.args.platform.now).present (g.P.Platform.history c.write.new.platform).present c.args.session.now c.args.block c.in-Err.refusal c.stop_of_write.result c.stop_of_write.ensures
    (λ addr named known. wrong_page c.args.session.now _ c.args.block addr (g.P.Platform.history c.args.platform.now) (g.P.Platform.history c.write.new.platform) _ c.requires.open known.1 (c.write.ensures.grows.time known.0)
    (write_left g.P.Platform g.T.Tape _ _ _ _ (places_of c.write.new.self.grove) c.args.block addr c.in-Err.refusal named c.in-Err.ensures.adds known.0)
    (λ past. past.0) (c.in-Err.ensures.damaged known.0 addr (ap Err named)))
    (λ keyless known. (c.in-Err.ensures.written known.0 known.1.follows.cached).1 (ap Err keyless))
