use Rattle.std.proofs.Common.{◌≡◌, true, [], Option, None, Some, Err, refl, sym, ◌∙◌, ap, subst, arith, rules}
use Rattle.std.specs.Prelude.{IfSome}
use Rattle.device_session.specs.Open.{IsOpen, is_touched}
use Rattle.device_session.specs.Sessions.{Session}
use Rattle.std.proofs.lemmas.Result.{err_from_is_err_and}
use Rattle.device_course.proofs.KeysLaws.{listed_none, on_done, on_start}
use Rattle.script_lang.specs.Commands.{Commit}
use Rattle.page_store.proofs.KeepingLaws.{drew_none}
use Rattle.device_cli.specs.Causes.{number_behind}
use Rattle.device_cli.proofs.ReplyLaws.{held_has, number_is}
use Rattle.device_cli.specs.Looks.{IsWarmFor}
use Rattle.device_cli.proofs.LookLaws.{still_warm}
use Rattle.device_cli.proofs.CallLaws.{commit_stops, halts_commit, on_held, serves_number, serves_short, stopped_changes}
use Rattle.device_cli.proofs.ServedLaws.{gives_unmounted_commit}
use Rattle.device_cli.proofs.ServingLaws.{serves_unmounted}
use Rattle.device_cli.proofs.desk.Desk.commit.Given.{Over}
use Rattle.device_cli.proofs.desk.Desk.commit.Goals as goal

pub returns-in_default-clause-answered : goal.returns-in_default-clause-answered
returns-in_default-clause-answered g c told entry rep =
    let P = g.P.Platform in
    serves_unmounted c.args.self.now.session c.take.new.self (P.history c.args.platform.now) (P.head c.args.platform.now) (P.capacity c.args.platform.now) (P.reads c.args.platform.now) (P.changes c.args.platform.now) entry Commit
    (sym c.take.ensures.value ∙ c.in_default.is) c.take.ensures.after (λ full there. gives_unmounted_commit full there) rep

pub returns-in_default-clause-keeps : goal.returns-in_default-clause-keeps
returns-in_default-clause-keeps g c = on_done _ _ _ _ _ c.args.self.now.session _ _ _ _ _ _ (on_start _ _ _ c.args.self.now.session _ (Unit {0})) (λ going. tt) (λ keys h. listed_none _ c.take.new.self _ keys c.take.ensures.after h)

pub returns-in_default-clause-any : goal.returns-in_default-clause-any
returns-in_default-clause-any g c = (sym c.take.ensures.value ∙ c.in_default.is, c.take.ensures.after ∙ sym (sym c.take.ensures.value ∙ c.in_default.is))

-- ---- an answer

pub returns-in-Committed-clause-answered : goal.returns-in-Committed-clause-answered
returns-in-Committed-clause-answered g c told entry rep =
    serves_number g.P.Platform _ _ _ _ _ _ c.args.self.now.session c.in-Some.session c.in_ok-done.done.session c.in-Committed.number entry (sym c.take.ensures.value ∙ c.in-Some.is) (c.requires.cell told)
    (rw c.in-Committed.is at c.in_ok-done.ensures.answers) (rw c.in-Committed.is at (c.in_ok-done.ensures.leads told)) rep

pub returns-in-Full-clause-answered : goal.returns-in-Full-clause-answered
returns-in-Full-clause-answered g c told entry rep =
    serves_short g.P.Platform _ _ _ _ _ _ c.args.self.now.session c.in-Some.session c.in_ok-done.done.session c.in-Full.needed c.in-Full.free entry (sym c.take.ensures.value ∙ c.in-Some.is) (c.requires.cell told)
    (rw c.in-Full.is at c.in_ok-done.ensures.answers) (rw c.in-Full.is at (c.in_ok-done.ensures.leads told)) rep

pub returns-in-Committed-clause-keeps : goal.returns-in-Committed-clause-keeps
returns-in-Committed-clause-keeps g c =
    on_held _ _ _ _ _ c.args.self.now.session (Some c.in-Some.session) _ _ _ _ _ _ (sym c.take.ensures.value ∙ c.in-Some.is) c.in_ok-done.ensures.goes.keeps (λ going. refl) (λ keys h. h)

pub returns-in-Full-clause-keeps : goal.returns-in-Full-clause-keeps
returns-in-Full-clause-keeps g c =
    on_held _ _ _ _ _ c.args.self.now.session (Some c.in-Some.session) _ _ _ _ _ _ (sym c.take.ensures.value ∙ c.in-Some.is) c.in_ok-done.ensures.goes.keeps (λ going. refl) (λ keys h. h)

-- ---- a stop

stopped : (g : Over) (c : goal.After-from_residual g) → c.from_residual.result ≡ Err c.in_err-done.field-0.0
stopped g c = let p = err_from_is_err_and c.from_residual.result c.from_residual.ensures.1 in p.1 ∙ ap Err p.2

pub returns-in_err-done-clause-keeps : goal.returns-in_err-done-clause-keeps
returns-in_err-done-clause-keeps g c =
    rw (stopped g c) (on_held _ _ _ _ _ c.args.self.now.session (Some c.in-Some.session) _ _ _ _ _ _ (sym c.take.ensures.value ∙ c.in-Some.is) c.in_err-done.ensures.goes.keeps (λ never. absurd cc) (λ keys h. tt))

pub returns-in_err-done-clause-answered : goal.returns-in_err-done-clause-answered
returns-in_err-done-clause-answered g c told entry rep =
    rw (stopped g c) (halts_commit g.P.Platform g.T.Tape _ _ _ _ c.args.self.now.session c.take.new.self c.in-Some.session c.in_err-done.field-0.0 entry (sym c.take.ensures.value ∙ c.in-Some.is) told (c.requires.cell told)
    c.in_err-done.ensures.answers (c.in_err-done.ensures.leads told) rep)

pub returns-in_err-done-clause-any : goal.returns-in_err-done-clause-any
returns-in_err-done-clause-any g c =
    let is : c.args.self.now.session ≡ Some c.in-Some.session = sym c.take.ensures.value ∙ c.in-Some.is in
    rw (stopped g c) (commit_stops g.P.Platform g.T.Tape _ _ _ _ c.args.self.now.session c.take.new.self c.in-Some.session c.in_err-done.field-0.0 is
    (subst (λ (s : Option Session). IfSome s (λ session. IsOpen session (g.P.Platform.head c.args.platform.now))) is c.requires.ready) c.in_err-done.ensures.goes.capacity c.requires.mounted c.in_err-done.ensures.answers)

-- ---- what it draws

pub returns-in_default-clause-drew : goal.returns-in_default-clause-drew
returns-in_default-clause-drew g c = ([], refl, drew_none _ _ refl)

pub returns-in-Committed-clause-drew : goal.returns-in-Committed-clause-drew
returns-in-Committed-clause-drew g c = (c.in_ok-done.ensures.goes.keeps.keys.grew, tt, c.in_ok-done.ensures.goes.keeps.keys.drew)

pub returns-in-Full-clause-drew : goal.returns-in-Full-clause-drew
returns-in-Full-clause-drew g c = ([], refl, drew_none _ _ (ap g.T.Tape.drawn (rw c.in-Full.is at c.in_ok-done.ensures.answers).same.2))

pub returns-in_err-done-clause-drew : goal.returns-in_err-done-clause-drew
returns-in_err-done-clause-drew g c = rw (stopped g c) tt

pub returns-in-Committed-clause-any : goal.returns-in-Committed-clause-any
returns-in-Committed-clause-any g c =
    let answers = rw c.in-Committed.is at c.in_ok-done.ensures.answers in (
      (
        held_has c.args.self.now.session c.in-Some.session (λ (s : Session). c.in-Committed.number ≡ number_behind s) (sym c.take.ensures.value ∙ c.in-Some.is)
            (number_is c.in-Some.session c.in_ok-done.done.session c.in-Committed.number answers.is_number (λ idle. (answers.idle idle).0) answers.next),
        λ told. tt,
      ),
      answers.needs,
    )

pub returns-in-Full-clause-any : goal.returns-in-Full-clause-any
returns-in-Full-clause-any g c =
    let answers = rw c.in-Full.is at c.in_ok-done.ensures.answers in
    ((held_has c.args.self.now.session c.in-Some.session (λ (s : Session). is_touched s ≡ true) (sym c.take.ensures.value ∙ c.in-Some.is) answers.touched, λ told. tt), ap Some answers.same.0 ∙ sym (sym c.take.ensures.value ∙ c.in-Some.is))

-- ---- what it reads

pub returns-in_default-clause-looks : goal.returns-in_default-clause-looks
returns-in_default-clause-looks g c told before warm look =
    (omega arith, λ done. subst (λ (session : Option Session). IsWarmFor session None) (sym c.take.ensures.after) tt)

pub returns-in-Committed-clause-looks : goal.returns-in-Committed-clause-looks
returns-in-Committed-clause-looks g c told before warm look =
    let goes = c.in_ok-done.ensures.goes in
    (omega (arith, goes.unread told), λ done. omega (arith, goes.back.room, still_warm c.args.self.now.session c.in-Some.session before (sym c.take.ensures.value ∙ c.in-Some.is) warm))

pub returns-in-Full-clause-looks : goal.returns-in-Full-clause-looks
returns-in-Full-clause-looks g c told before warm look =
    let goes = c.in_ok-done.ensures.goes in
    (omega (arith, goes.unread told), λ done. omega (arith, goes.back.room, still_warm c.args.self.now.session c.in-Some.session before (sym c.take.ensures.value ∙ c.in-Some.is) warm))

pub returns-in_err-done-clause-looks : goal.returns-in_err-done-clause-looks
returns-in_err-done-clause-looks g c told before warm look =
    let goes = c.in_err-done.ensures.goes in
    (omega (arith, goes.unread told), rw (stopped g c) (λ done. absurd cc))

-- ---- how often it syncs, and what it leaves

pub returns-in-Committed-clause-after : goal.returns-in-Committed-clause-after
returns-in-Committed-clause-after g c =
    record {
      ready = search rules;
      room = search rules;
      mounted = search rules;
      reply = search rules;
      short = search rules;
      wiped = search rules;
      bad_root = search rules;
      capacity = search rules;
      rises = search rules;
      changes = rw c.in-Committed.is at c.in_ok-done.ensures.goes.changes;
      reads = λ told. tt;
      added = search rules;
      full = search rules;
    }

pub returns-in-Full-clause-after : goal.returns-in-Full-clause-after
returns-in-Full-clause-after g c =
    record {
      ready = search rules;
      room = search rules;
      mounted = search rules;
      reply = search rules;
      short = search rules;
      wiped = search rules;
      bad_root = search rules;
      capacity = search rules;
      rises = search rules;
      changes = rw c.in-Full.is at c.in_ok-done.ensures.goes.changes;
      reads = λ told. tt;
      added = search rules;
      full = search rules;
    }

pub returns-in_err-done-clause-after : goal.returns-in_err-done-clause-after
returns-in_err-done-clause-after g c =
    let goes = c.in_err-done.ensures.goes in
    rw (stopped g c) (record {
      ready = tt;
      room = tt;
      mounted = λ told. tt;
      reply = tt;
      short = tt;
      wiped = tt;
      bad_root = search rules;
      capacity = goes.capacity;
      rises = goes.rises;
      changes = λ told. stopped_changes Commit c.in_err-done.field-0.0 _ _ refl (goes.changes told);
      reads = λ told. tt;
      added = search rules;
      full = tt;
    })
