use Rattle.std.proofs.Common.{◌≡◌, ◌∙◌, inl, ℕ, is_ok, refl, sym, ap, subst, arith}
use Rattle.sdbt_base.specs.Counts.{counts}
use Rattle.std.specs.Prelude.{IsOk, box_value}
use Rattle.btree_walk.specs.declared.reader.NodeReader.{NodeReader}
use Rattle.root_codec.specs.declared.root.Root.{Root}
use Rattle.device_session.specs.Sessions.{Session}
use Rattle.device_session.specs.Finishing.{TakesUp}
use Rattle.device_session.proofs.StepLaws.{IsCommitting, untouched_after, commits_nothing, commits_full, commits_stopped, same_counts, commits_failed, commits_done, commits_raised, committed_cached}
use Rattle.device_session.proofs.DamageLaws.{follows_taken}
use Rattle.std.proofs.lemmas.Result.{err_from_is_err_and}
use Rattle.sdbt_base.proofs.RiseLaws.{counted_few, counted_not}
use Rattle.device_session.specs.contracts.session.Session.{the_view}
use Rattle.device_session.proofs.session.Session.commit.Given.{Over}
use Rattle.device_session.proofs.session.Session.commit.Goals.{After-publish, After-take_up}
use Rattle.device_session.proofs.session.Session.commit.Goals as goal

-- the calls of a commit, whether the last step was taken or failed
calls : (g : Over) (c : After-publish g) → IsCommitting g.P.Platform g.T.Tape g.L.Sink c.args.platform.now c.prepare.new.platform c.publish.new.platform c.args.tape.now c.prepare.new.tape c.args.ledger.now c.publish.new.ledger
    (the_view c.self.inside) c.in-Ok.prepared (IsOk c.publish.result)
calls g c =
    let counts = g.met.P.Platform.counts_pages in
    record {
      readied = record {
        is_open = rw (← c.self.view_is) at c.requires;
        touched = grind (arith, c.if-not-self.false);
        counts = λ told. counts told c.args.platform.now;
        counts_now = λ told. counts told c.prepare.new.platform;
        cache = c.prepare.new.reader.cache;
        ready = c.in-Ok.ensures.ready;
        cell = c.prepare.ensures.beside.cell;
      };
      keeps = c.in-Ok.ensures.keeps;
      adds = c.prepare.ensures.beside;
      within = c.prepare.ensures.within;
      swaps = c.publish.ensures.beside;
      size = λ told. counts told c.publish.new.platform ∙ (c.publish.ensures.beside.head ∙ sym (counts told c.prepare.new.platform));
      turns = c.publish.ensures.time;
      put = c.publish.ensures.put;
      count = c.publish.ensures.count;
      quiet = (c.in-Ok.ensures.cause.1, c.in-Ok.ensures.cause.2);
    }

pub returns-then-not-self-clause-commits : goal.returns-then-not-self-clause-commits
returns-then-not-self-clause-commits g c = commits_nothing _ _ _ _ _ _ _ _ c.requires
    (λ told device contents h. untouched_after _ _ device contents _ (grind (arith, c.if-not-self.true)) (ap (λ (s : Session). s.root.commit) c.self.view_is) h) tt

pub returns-in-Err-Full-clause-commits : goal.returns-in-Err-Full-clause-commits
returns-in-Err-Full-clause-commits g c =
    let cause = rw c.in-Err-Full.field-0-is at c.in-Err-Full.ensures.cause in
    let unbegun = rw c.in-Err-Full.field-0-is at c.in-Err-Full.ensures.unbegun in
    commits_full _ _ _ _ _ _ _ _ _ _ _ _ c.requires (ap (λ (reader : NodeReader). record (the_view c.self.inside) { cache = reader.cache; buffers = reader.buffers; node = box_value reader.node }) (unbegun tt) ∙ c.self.view_is) cause.3 cause.4

pub returns-in-Err-Memory-clause-commits : goal.returns-in-Err-Memory-clause-commits
returns-in-Err-Memory-clause-commits g c = rw (← c.self.view_is) (
    let cause = rw c.in-Err-Memory.field-0-is at c.in-Err-Memory.ensures.cause in
    commits_stopped _ _ _ _ _ _ _ _ _ _ _ c.prepare.ensures.beside c.prepare.ensures.within c.in-Err-Memory.ensures.keeps
    (record { head = ap g.P.Platform.head cause.1; image = λ told. ap (λ s. (g.P.Platform.history s).present) cause.1; changes = λ told. ap g.P.Platform.changes cause.1; drawn = ap g.T.Tape.drawn cause.2 }, c.prepare.ensures.beside.cell, same_counts g.P.Platform g.T.Tape g.L.Sink _ _ _ _ _ cause.1 cause.2, refl)
    (λ told. counted_not 0 _ _ (ap g.P.Platform.changes cause.1)) (λ told. inl (ap g.P.Platform.changes cause.1)))

pub returns-in-Err-TapeFault-clause-commits : goal.returns-in-Err-TapeFault-clause-commits
returns-in-Err-TapeFault-clause-commits g c = rw (← c.self.view_is) (
    let cause = rw c.in-Err-TapeFault.field-0-is at c.in-Err-TapeFault.ensures.cause in
    commits_stopped _ _ _ _ _ _ _ _ _ _ _ c.prepare.ensures.beside c.prepare.ensures.within c.in-Err-TapeFault.ensures.keeps
    ((cause.1, ap (λ (n : ℕ). counts n (g.T.Tape.faults c.prepare.new.tape) 0 0 (g.L.Sink.faults c.args.ledger.now)) cause.2), c.prepare.ensures.beside.cell, refl)
    (λ told. counted_not 0 _ _ (cause.3 told)) (λ told. inl (cause.3 told)))

pub returns-in-Err-PlatformFault-clause-commits : goal.returns-in-Err-PlatformFault-clause-commits
returns-in-Err-PlatformFault-clause-commits g c = rw (← c.self.view_is) (
    let cause = rw c.in-Err-PlatformFault.field-0-is at c.in-Err-PlatformFault.ensures.cause in
    commits_stopped _ _ _ _ _ _ _ _ _ _ _ c.prepare.ensures.beside c.prepare.ensures.within c.in-Err-PlatformFault.ensures.keeps
    (cause.1, ap (λ (n : ℕ). counts (g.P.Platform.faults c.prepare.new.platform) n 0 0 (g.L.Sink.faults c.args.ledger.now)) cause.2)
    (λ told. counted_few 1 2 _ _ (omega arith) (c.prepare.ensures.beside.changes told)) cause.3)

-- the session with the new tree
takes : (g : Over) (c : After-take_up g) → TakesUp (the_view c.self.inside) c.prepare.new.reader.cache c.in-Ok.prepared.root c.take_up.new.self
takes g c =
    let t = c.take_up.ensures in
    subst (λ (root : Root). TakesUp (the_view c.self.inside) c.prepare.new.reader.cache root c.take_up.new.self) c.in_ok-root.ensures.root
    (record { root_is = t.root_is; mapped = t.mapped; untouched = t.untouched; tree = t.tree; none_held = t.none_held; cached = t.cached; wiped = t.wiped })

number_is : (g : Over) (c : After-take_up g) → c.in_ok-root.root.commit ≡ c.in-Ok.prepared.root.commit
number_is g c = ap (λ (root : Root). root.commit) c.in_ok-root.ensures.root

pub returns-in_err-root-clause-commits : goal.returns-in_err-root-clause-commits
returns-in_err-root-clause-commits g c =
    let p = err_from_is_err_and c.from_residual.result c.from_residual.ensures.1 in
    rw (← c.self.view_is, p.1, p.2) (commits_failed _ _ _ _ _ _ _ _ _ _ _ _ _ _ c.in_err-root.field-0.0 (calls g (goal.at.returns-in_err-root-clause-commits g c).After-publish) c.in_err-root.ensures.cause)

pub returns-clause-raised : goal.returns-clause-raised
unfolding calls
returns-clause-raised g c = λ touched room. rw (← c.self.view_is) (
    let at = goal.at.returns-clause-raised g c in
    commits_raised _ _ _ _ _ _ _ _ _ _ _ _ _ _ _ (calls g at.After-publish) (takes g c) c.in_ok-root.ensures.swapped (number_is g c))

pub returns-clause-commits : goal.returns-clause-commits
unfolding calls
returns-clause-commits g c = rw (← c.self.view_is) (
    let at = goal.at.returns-clause-commits g c in
    commits_done _ _ _ _ _ _ _ _ _ _ _ _ _ _ _ (calls g at.After-publish) (λ never. never (ap is_ok c.in_ok-root.was)) (takes g c) c.in_ok-root.ensures.swapped (number_is g c)
    c.in_ok-root.ensures.cause)

pub returns-clause-mounted : goal.returns-clause-mounted
unfolding calls
returns-clause-mounted g c = λ told. rw (← c.self.view_is) (
    let at = goal.at.returns-clause-mounted g c in
    let all = calls g at.After-publish in
    let swapped = c.in_ok-root.ensures.swapped in (
      λ f. follows_taken (the_view c.self.inside) c.take_up.new.self c.prepare.new.reader.cache c.in-Ok.prepared.root _ (takes g c) all.readied.ready.is.next_is.mapped_is (committed_cached _ _ _ _ _ _ _ _ _ _ _ _ _ _ all (takes g c) told (swapped told) f.cached),
      λ cell. (commits_raised _ _ _ _ _ _ _ _ _ _ _ _ _ _ _ all (takes g c) swapped (number_is g c)).cell told,
    ))
