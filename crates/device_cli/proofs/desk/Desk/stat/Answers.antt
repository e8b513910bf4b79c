use Rattle.std.proofs.Common.{◌≡◌, ◌∙◌, arith, refl}
use Rattle.device_cli.proofs.LookLaws.{warm_less}
use Rattle.device_session.proofs.CountLaws.{mapped_len}
use Rattle.device_session.specs.Open.{number_of}
use Rattle.device_session.specs.Sessions.{Session}
use Rattle.script_lang.specs.Commands as commands
use Rattle.device_cli.proofs.ReplyLaws.{held_has}
use Rattle.device_cli.proofs.ServedLaws.{gives_unmounted_stat}
use Rattle.device_cli.proofs.ServingLaws.{serves_unmounted, serves_stat}
use Rattle.device_cli.proofs.desk.Desk.stat.Goals as goal

pub returns-in-Some-clause-answered : goal.returns-in-Some-clause-answered
returns-in-Some-clause-answered g c told entry rep =
    let P = g.P.Platform in
    let head = P.head c.args.platform.now in
    serves_stat c.args.self.now.session (P.history c.args.platform.now) head (P.capacity c.args.platform.now) (P.reads c.args.platform.now) (P.changes c.args.platform.now) entry c.in-Some.session c.mapped.result c.number.result c.in-Some.is
    (λ d t holds. (c.mapped.ensures ∙ mapped_len c.in-Some.session (P.history c.args.platform.now).present d t.contents holds, c.number.ensures ∙ holds.stands.number)) rep

pub returns-in-None-clause-answered : goal.returns-in-None-clause-answered
returns-in-None-clause-answered g c told entry rep =
    let P = g.P.Platform in
    serves_unmounted c.args.self.now.session c.args.self.now.session (P.history c.args.platform.now) (P.head c.args.platform.now) (P.capacity c.args.platform.now) (P.reads c.args.platform.now) (P.changes c.args.platform.now) entry commands.Stat c.in-None.is c.in-None.is
    (λ full there. gives_unmounted_stat full there) rep

pub returns-in-Some-clause-looks : goal.returns-in-Some-clause-looks
returns-in-Some-clause-looks g c told before warm look = (omega arith, λ done. warm_less c.args.self.now.session before warm)

pub returns-in-None-clause-looks : goal.returns-in-None-clause-looks
returns-in-None-clause-looks g c told before warm look = (omega arith, λ done. warm_less c.args.self.now.session before warm)

pub returns-in-None-clause-any : goal.returns-in-None-clause-any
returns-in-None-clause-any g c = (c.in-None.is, refl)

pub returns-in-Some-clause-any : goal.returns-in-Some-clause-any
returns-in-Some-clause-any g c =
    ((held_has c.args.self.now.session c.in-Some.session (λ (s : Session). (c.mapped.result ≡ s.mapped) × (c.number.result ≡ number_of s)) c.in-Some.is (c.mapped.ensures, c.number.ensures), λ told. tt), refl)
