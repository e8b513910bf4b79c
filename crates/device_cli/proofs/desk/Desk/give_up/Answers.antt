use Rattle.std.proofs.Common.{◌≡◌, Option, None, Ok, sym, subst, arith, refl}
use Rattle.device_session.specs.Sessions.{Session}
use Rattle.device_cli.specs.Looks.{IsWarmFor}
use Rattle.device_cli.proofs.LookLaws.{warm_less}
use Rattle.std.proofs.lemmas.Grind.{common_steps}
use Rattle.script_lang.specs.Commands as commands
use Rattle.script_lang.specs.Replies as replies
use Rattle.device_cli.specs.Replied.{Serves}
use Rattle.device_cli.specs.World.{World, world_of}
use Rattle.device_cli.proofs.ServedLaws.{gives_unmounted_drop}
use Rattle.device_cli.proofs.ServingLaws.{serves_unmounted, serves_drop}
use Rattle.device_cli.proofs.Choices.{some_of}
use Rattle.device_cli.proofs.EnoughLaws.{enough_none}
use Rattle.device_cli.proofs.desk.Desk.give_up.Goals as goal

pub returns-then-is_none-clause-answered : goal.returns-then-is_none-clause-answered
returns-then-is_none-clause-answered g c told entry rep =
    let P = g.P.Platform in
    let held = c.args.self.now.session in
    let none : held ≡ None = grind (arith, common_steps, c.is_none.ensures, c.if-is_none.true) in
    serves_unmounted held held (P.history c.args.platform.now) (P.head c.args.platform.now) (P.capacity c.args.platform.now) (P.reads c.args.platform.now) (P.changes c.args.platform.now) entry commands.Drop none none
    (λ full there. gives_unmounted_drop full there) rep

pub returns-clause-answered : goal.returns-clause-answered
returns-clause-answered g c told entry rep =
    let P = g.P.Platform in
    let held = c.args.self.now.session in
    let old : World = world_of P held c.args.platform.now in
    let new : World = world_of P c.close.new.self.session c.args.platform.now in
    some_of held (λ none. grind (arith, common_steps, none, c.is_none.ensures, c.if-is_none.false)) (Serves old new entry commands.Drop (Ok replies.Dropped))
    (λ session some. serves_drop held c.close.new.self.session (P.history c.args.platform.now) (P.head c.args.platform.now) (P.capacity c.args.platform.now) (P.reads c.args.platform.now) (P.changes c.args.platform.now) entry session some c.close.ensures.session rep)

pub returns-clause-enough : goal.returns-clause-enough
returns-clause-enough g c updates enough = enough_none c.close.new.self.session updates c.close.ensures.session

pub returns-then-is_none-clause-looks : goal.returns-then-is_none-clause-looks
returns-then-is_none-clause-looks g c told before warm look = (omega arith, λ done. warm_less c.args.self.now.session before warm)

pub returns-clause-looks : goal.returns-clause-looks
returns-clause-looks g c told before warm look = (omega arith, λ done. subst (λ (session : Option Session). IsWarmFor session None) (sym c.close.ensures.session) tt)

pub returns-then-is_none-clause-any : goal.returns-then-is_none-clause-any
returns-then-is_none-clause-any g c = (grind (arith, common_steps, c.is_none.ensures, c.if-is_none.true), refl)

pub returns-clause-any : goal.returns-clause-any
returns-clause-any g c = ((λ none. grind (arith, common_steps, none, c.is_none.ensures, c.if-is_none.false), λ told. tt), c.close.ensures.session)
