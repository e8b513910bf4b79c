use Rattle.std.proofs.Common.{◌≡◌, Option, None, Some, Ok, Err, refl, sym, ◌∙◌, subst, ap, arith}
use Rattle.std.proofs.lemmas.Grind.{common_steps}
use Rattle.std.proofs.lemmas.Result.{err_from_is_err_and}
use Rattle.device_course.specs.States.{IsListed}
use Rattle.device_course.proofs.KeysLaws.{on_start}
use Rattle.device_session.proofs.CountLaws.{needs_none}
use Rattle.device_session.specs.Open.{root_of}
use Rattle.device_session.specs.Sessions.{Session}
use Rattle.script_lang.specs.Commands as commands
use Rattle.script_lang.specs.Replies as replies
use Rattle.device_cli.specs.Replied.{Serves}
use Rattle.device_cli.specs.World.{World, world_of}
use Rattle.device_cli.proofs.CallLaws.{at_none, mount_sound, on_held, mount_stops}
use Rattle.device_cli.proofs.Choices.{some_of}
use Rattle.device_cli.proofs.ServedLaws.{halts_still}
use Rattle.device_cli.proofs.ServingLaws.{serves_already, serves_mounted, serves_no_device}
use Rattle.device_cli.proofs.desk.Desk.mount.Given.{Over}
use Rattle.device_cli.proofs.desk.Desk.mount.Goals as goal

pub returns-then-is_some-clause-answered : goal.returns-then-is_some-clause-answered
returns-then-is_some-clause-answered g c told entry rep =
    let P = g.P.Platform in
    let old : World = world_of P c.args.self.now.session c.args.platform.now in
    some_of c.args.self.now.session (λ none. grind (arith, common_steps, none, c.is_some.ensures, c.if-is_some.true)) (Serves old old entry commands.Mount (Ok replies.AlreadyMounted))
    (λ session some. serves_already c.args.self.now.session (P.history c.args.platform.now) (P.head c.args.platform.now) (P.capacity c.args.platform.now) (P.reads c.args.platform.now) (P.changes c.args.platform.now) entry session some rep)

pub returns-then-is_some-clause-keeps : goal.returns-then-is_some-clause-keeps
returns-then-is_some-clause-keeps g c = λ drawn written. on_start _ drawn written c.args.self.now.session _ _

-- ---- a session

pub returns-clause-answered : goal.returns-clause-answered
returns-clause-answered g c told entry rep =
    let P = g.P.Platform in
    let old : World = world_of P c.args.self.now.session c.args.platform.now in
    let new : World = world_of P (Some c.in-Some.session) c.mount_session.new.platform in
    let none : c.args.self.now.session ≡ None = grind (arith, common_steps, c.is_some.ensures, c.if-is_some.false) in
    let mounts = (rw c.in-Some.is at c.in_ok-session.ensures.finds).0 in
    let found = mounts.found told in
    serves_mounted old new entry c.in-Some.session c.number-number.result none (λ e. cc) refl mounts.untouched
    (λ d stands. let holds = mounts.holds told d stands in (holds, c.number-number.ensures ∙ holds.stands.number))
    (c.in_ok-session.ensures.looks.time told) rep

pub returns-clause-enough : goal.returns-clause-enough
returns-clause-enough g c updates enough =
    let mounts = (rw c.in-Some.is at c.in_ok-session.ensures.finds).0 in
    omega (arith, needs_none c.in-Some.session (g.P.Platform.head c.mount_session.new.platform) mounts.is_open mounts.untouched)

pub returns-clause-keeps : goal.returns-clause-keeps
returns-clause-keeps g c = λ drawn written.
    let none : c.args.self.now.session ≡ None = grind (arith, common_steps, c.is_some.ensures, c.if-is_some.false) in
    on_held _ _ _ _ _ c.args.self.now.session None _ _ _ _ _ _ none (rw c.in-Some.is at (c.in_ok-session.ensures.keeps drawn written)) (λ going. refl) (λ keys h. h)

-- ---- no device

pub returns-in_default-clause-answered : goal.returns-in_default-clause-answered
returns-in_default-clause-answered g c told entry rep =
    let P = g.P.Platform in
    let old : World = world_of P c.args.self.now.session c.args.platform.now in
    let new : World = world_of P c.args.self.now.session c.mount_session.new.platform in
    let none : c.args.self.now.session ≡ None = grind (arith, common_steps, c.is_some.ensures, c.if-is_some.false) in
    serves_no_device old new entry none ((rw c.in_default.is at c.in_ok-session.ensures.finds) told) none (c.in_ok-session.ensures.looks.image told) (c.in_ok-session.ensures.looks.time told) rep

pub returns-in_default-clause-keeps : goal.returns-in_default-clause-keeps
returns-in_default-clause-keeps g c = λ drawn written.
    let none : c.args.self.now.session ≡ None = grind (arith, common_steps, c.is_some.ensures, c.if-is_some.false) in
    on_held _ _ _ _ _ c.args.self.now.session None _ _ _ _ _ _ none (rw c.in_default.is at (c.in_ok-session.ensures.keeps drawn written)) (λ going. refl)
    (λ keys h. subst (λ (held : Option Session). IsListed held (g.P.Platform.history c.mount_session.new.platform).present keys) (sym none) h)

-- ---- a stop

stopped : (g : Over) (c : goal.After-from_residual g) → c.from_residual.result ≡ Err c.in_err-session.field-0.0
stopped g c = let p = err_from_is_err_and c.from_residual.result c.from_residual.ensures.1 in p.1 ∙ ap Err p.2

pub returns-in_err-session-clause-answered : goal.returns-in_err-session-clause-answered
returns-in_err-session-clause-answered g c told entry rep =
    let P = g.P.Platform in
    let old : World = world_of P c.args.self.now.session c.args.platform.now in
    let new : World = world_of P c.args.self.now.session c.mount_session.new.platform in
    let none : c.args.self.now.session ≡ None = grind (arith, common_steps, c.is_some.ensures, c.if-is_some.false) in
    rw (stopped g c) (halts_still old new entry commands.Mount c.in_err-session.field-0.0
    (mount_sound _ entry c.in_err-session.field-0.0 (c.in_err-session.ensures.leads told entry (at_none old entry none rep (c.requires.cell told)))) rep (c.in_err-session.ensures.looks.time told))

pub returns-in_err-session-clause-keeps : goal.returns-in_err-session-clause-keeps
returns-in_err-session-clause-keeps g c = λ drawn written.
    let none : c.args.self.now.session ≡ None = grind (arith, common_steps, c.is_some.ensures, c.if-is_some.false) in
    rw (stopped g c) (on_held _ _ _ _ _ c.args.self.now.session None _ _ _ _ _ _ none (c.in_err-session.ensures.keeps drawn written) (λ never. absurd cc) (λ keys h. tt))

pub returns-in_err-session-clause-any : goal.returns-in_err-session-clause-any
returns-in_err-session-clause-any g c =
    let P = g.P.Platform in
    let none : c.args.self.now.session ≡ None = grind (arith, common_steps, c.is_some.ensures, c.if-is_some.false) in
    rw (stopped g c) (mount_stops P.tells c.args.self.now.session (P.history c.args.platform.now).present (P.head c.args.platform.now) (world_of P c.args.self.now.session c.mount_session.new.platform) c.in_err-session.field-0.0 none
    c.in_err-session.ensures.looks.image c.in_err-session.ensures.looks.head c.in_err-session.ensures.stops)

pub returns-then-is_some-clause-any : goal.returns-then-is_some-clause-any
returns-then-is_some-clause-any g c = ((λ none. grind (arith, common_steps, none, c.is_some.ensures, c.if-is_some.true), λ told. tt), refl)

pub returns-clause-any : goal.returns-clause-any
returns-clause-any g c =
    let none : c.args.self.now.session ≡ None = grind (arith, common_steps, c.is_some.ensures, c.if-is_some.false) in
    let mounts = (rw c.in-Some.is at c.in_ok-session.ensures.finds).0 in
    ((none, λ told. (root_of c.in-Some.session, mounts.is_open.served.in_range, mounts.found told, c.number-number.ensures)), needs_none c.in-Some.session _ mounts.is_open mounts.untouched)

pub returns-in_default-clause-any : goal.returns-in_default-clause-any
returns-in_default-clause-any g c =
    let none : c.args.self.now.session ≡ None = grind (arith, common_steps, c.is_some.ensures, c.if-is_some.false) in
    ((none, rw c.in_default.is at c.in_ok-session.ensures.finds), refl)
