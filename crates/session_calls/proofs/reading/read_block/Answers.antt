use Rattle.std.proofs.Common.{ℕ, ◌+◌, Ok, Err, refl, sym, ap, subst, ◌∙◌, arith}
use Rattle.platform.specs.Image.{Image}
use Rattle.page_store.specs.Tree.{Wrong}
use Rattle.device_course.proofs.KeysLaws.{needed_read}
use Rattle.sdbt_base.specs.Counts.{counts}
use Rattle.session_calls.proofs.CellLaws.{wrong_place}
use Rattle.session_calls.proofs.LookLaws.{read_of_call, look_along, other_read_refusal, read_blamed, read_any, read_leads, read_refused, read_room}
use Rattle.session_calls.proofs.StateLaws.{at_array, served_still}
use Rattle.session_calls.proofs.reading.read_block.Goals as goal

pub stop_of_read-requires : goal.stop_of_read-requires
stop_of_read-requires g c = other_read_refusal c.in-Err.refusal _ _ _ _ c.in-Err.ensures.cause c.requires.within

pub returns-in-Ok-clause-leads : goal.returns-in-Ok-clause-leads
returns-in-Ok-clause-leads g c told device array at =
    let there = c.in-Ok.ensures.array told device array.contents at.there.session.0 in
    (at_array _ _ device array there.0 (c.in-Ok.ensures.same.1 ∙ at.there.session.1) (served_still _ _ (c.read.ensures.looks.time told) at.served), there.1)

pub returns-in-Err-clause-leads : goal.returns-in-Err-clause-leads
returns-in-Err-clause-leads g c told device array at =
    let there = c.in-Err.ensures.array told device array.contents at.there.session.0 in
    read_refused _ _ device array c.args.block c.read.new.out c.in-Err.refusal _ c.stop_of_read.ensures there.0 there.1
    (c.in-Err.ensures.same.1 ∙ at.there.session.1) (served_still _ _ (c.read.ensures.looks.time told) at.served)

pub returns-in-Ok-clause-goes : goal.returns-in-Ok-clause-goes
returns-in-Ok-clause-goes g c drawn = record {
  along = look_along g.P.Platform 0 (c.args.session.now.grove.level + 1) _ _ drawn _ _ c.in-Ok.ensures.goes_on (omega (arith, needed_read c.args.session.now c.read.new.self c.in-Ok.ensures.same.2)) c.in-Ok.ensures.reads.most c.in-Ok.ensures.listed c.in-Ok.ensures.looks
      (λ told device array at. read_leads _ _ device array c.args.block c.read.new.out (Ok tt)
      (let there = c.in-Ok.ensures.array told device array.contents at.there.session.0 in
      (at_array _ _ device array there.0 (c.in-Ok.ensures.same.1 ∙ at.there.session.1) (served_still _ _ (c.read.ensures.looks.time told) at.served), there.1)));
  needs_still = tt;
  mapped_still = tt;
  stops = tt;
  quiet = ap (λ (n : ℕ). counts n drawn.faults 0 0 0) c.in-Ok.ensures.cause.1;
  cause = tt;
}

pub returns-in-Err-clause-goes : goal.returns-in-Err-clause-goes
returns-in-Err-clause-goes g c drawn = record {
  along = look_along g.P.Platform 0 (c.args.session.now.grove.level + 1) _ _ drawn _ _ c.in-Err.ensures.goes_on (omega (arith, needed_read c.args.session.now c.read.new.self c.in-Err.ensures.same.2)) c.in-Err.ensures.reads.most c.in-Err.ensures.listed c.in-Err.ensures.looks
      (λ told device array at. read_leads _ _ device array c.args.block c.read.new.out (Err c.stop_of_read.result)
      (let there = c.in-Err.ensures.array told device array.contents at.there.session.0 in
      read_refused _ _ device array c.args.block c.read.new.out c.in-Err.refusal c.stop_of_read.result c.stop_of_read.ensures there.0 there.1
      (c.in-Err.ensures.same.1 ∙ at.there.session.1) (served_still _ _ (c.read.ensures.looks.time told) at.served)));
  needs_still = needed_read c.args.session.now c.read.new.self c.in-Err.ensures.same.2;
  mapped_still = c.in-Err.ensures.same.0;
  stops = read_of_call c.in-Err.refusal _ c.stop_of_read.ensures;
  quiet = tt;
  cause = read_blamed c.in-Err.refusal _ _ _ (counts (g.P.Platform.faults c.args.platform.now) drawn.faults 0 0 0) (counts (g.P.Platform.faults c.read.new.platform) drawn.faults 0 0 0) refl c.stop_of_read.ensures c.in-Err.ensures.cause;
}

-- on any pages
pub returns-in-Ok-clause-any : goal.returns-in-Ok-clause-any
returns-in-Ok-clause-any g c known = c.in-Ok.ensures.finds known.0 known.1.follows.cached

pub returns-in-Err-clause-any : goal.returns-in-Err-clause-any
returns-in-Err-clause-any g c =
    read_any _ (g.P.Platform.history c.args.platform.now).present (g.P.Platform.history c.read.new.platform).present c.args.session.now c.args.block c.read.new.out c.in-Err.refusal c.stop_of_read.result c.stop_of_read.ensures (λ addr named known.
    wrong_place c.args.session.now _ addr (g.P.Platform.history c.args.platform.now) (g.P.Platform.history c.read.new.platform) c.requires.open known.1 (c.read.ensures.looks.time known.0)
    (λ follows. subst (λ (i : Image). Wrong i.readable c.args.session.now.root addr) (sym (c.read.ensures.looks.image known.0)) (c.in-Err.ensures.damaged known.0 follows addr (ap Err named))))

pub returns-in-Ok-clause-reads : goal.returns-in-Ok-clause-reads
returns-in-Ok-clause-reads g c = record { most = c.in-Ok.ensures.reads.most; warm = c.in-Ok.ensures.reads.warm; fills = c.in-Ok.ensures.reads.fills }

pub returns-in-Err-clause-reads : goal.returns-in-Err-clause-reads
returns-in-Err-clause-reads g c = record { most = c.in-Err.ensures.reads.most; warm = c.in-Err.ensures.reads.warm; fills = λ told. tt }

pub returns-in-Err-clause-room : goal.returns-in-Err-clause-room
returns-in-Err-clause-room g c = read_room c.in-Err.refusal c.stop_of_read.result c.stop_of_read.ensures
