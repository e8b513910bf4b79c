use Rattle.std.proofs.Common.{Option, None, refl, sym, ◌∙◌, subst, rules}
use Rattle.device_session.specs.Sessions.{Session}
use Rattle.device_course.specs.States.{IsListed}
use Rattle.device_cli.specs.World.{World, world_of}
use Rattle.device_cli.proofs.ServingLaws.{serves_erased, serves_erase_none, halts_erase}
use Rattle.device_course.proofs.CertifiedLaws.{certified_emptied}
use Rattle.device_course.proofs.KeysLaws.{on_kept, listed_image}
use Rattle.device_cli.specs.Looks.{IsWarmFor}
use Rattle.device_cli.proofs.EnoughLaws.{enough_none}
use Rattle.device_cli.proofs.LookLaws.{changed_not, warm_less}
use Rattle.device_cli.proofs.desk.Desk.erase.Goals as goal

pub returns-in-Ok-clause-answered : goal.returns-in-Ok-clause-answered
returns-in-Ok-clause-answered g c told entry rep =
    let P = g.P.Platform in
    let old : World = world_of P c.args.self.now.session c.args.platform.now in
    let new : World = world_of P c.close.new.self.session c.erase.new.platform in
    serves_erased old new entry (c.in-Ok.ensures.cause.0 told).0 c.close.ensures.session (c.in-Ok.ensures.cause.0 told).1 (c.erase.ensures.time told _ rep.device) rep

pub returns-in-Err-NoDevice-clause-answered : goal.returns-in-Err-NoDevice-clause-answered
returns-in-Err-NoDevice-clause-answered g c told entry rep =
    let P = g.P.Platform in
    let old : World = world_of P c.args.self.now.session c.args.platform.now in
    let new : World = world_of P c.args.self.now.session c.erase.new.platform in
    serves_erase_none old new entry ((rw c.in-Err-NoDevice.field-0-is at c.in-Err-NoDevice.ensures.cause).0 told).0 refl ((rw c.in-Err-NoDevice.field-0-is at c.in-Err-NoDevice.ensures.cause).0 told).1 ((rw c.in-Err-NoDevice.field-0-is at c.in-Err-NoDevice.ensures.cause).0 told).2 rep

pub returns-in-Err-PlatformFault-clause-answered : goal.returns-in-Err-PlatformFault-clause-answered
returns-in-Err-PlatformFault-clause-answered g c told entry rep =
    let P = g.P.Platform in
    let old : World = world_of P c.args.self.now.session c.args.platform.now in
    let new : World = world_of P c.args.self.now.session c.erase.new.platform in
    halts_erase old new entry (c.erase.ensures.time told _ rep.device)

pub returns-in-Ok-clause-keeps : goal.returns-in-Ok-clause-keeps
returns-in-Ok-clause-keeps g c = λ drawn written. on_kept _ drawn written c.args.self.now.session _ _ _ _ (λ told. (c.erase.ensures.turns told).extends) (λ told. let pages = g.met.P.Platform.counts_pages in pages told c.erase.new.platform ∙ (c.erase.ensures.pages.0 ∙ sym (pages told c.args.platform.now))) c.erase.ensures.keeps c.erase.ensures.forgets (λ told keys h. subst (λ (s : Option Session). IsListed s (g.P.Platform.history c.erase.new.platform).present keys) (sym c.close.ensures.session) (None, (c.in-Ok.ensures.cause.0 told).1)) c.erase.ensures.serves (certified_emptied _ written _ _ _ c.erase.ensures.turns) c.erase.ensures.turns

pub returns-in-Err-NoDevice-clause-keeps : goal.returns-in-Err-NoDevice-clause-keeps
returns-in-Err-NoDevice-clause-keeps g c = λ drawn written. on_kept _ drawn written c.args.self.now.session _ _ _ _ (λ told. (c.erase.ensures.turns told).extends) (λ told. let pages = g.met.P.Platform.counts_pages in pages told c.erase.new.platform ∙ (c.erase.ensures.pages.0 ∙ sym (pages told c.args.platform.now))) c.erase.ensures.keeps c.erase.ensures.forgets (λ told keys h. listed_image _ _ _ keys ((rw c.in-Err-NoDevice.field-0-is at c.in-Err-NoDevice.ensures.cause).0 told).1 h) c.erase.ensures.serves (certified_emptied _ written _ _ _ c.erase.ensures.turns) c.erase.ensures.turns

pub returns-in-Err-PlatformFault-clause-keeps : goal.returns-in-Err-PlatformFault-clause-keeps
returns-in-Err-PlatformFault-clause-keeps g c = λ drawn written. on_kept _ drawn written c.args.self.now.session _ _ _ _ (λ told. (c.erase.ensures.turns told).extends) (λ told. let pages = g.met.P.Platform.counts_pages in pages told c.erase.new.platform ∙ (c.erase.ensures.pages.0 ∙ sym (pages told c.args.platform.now))) c.erase.ensures.keeps c.erase.ensures.forgets (λ told keys h. tt) c.erase.ensures.serves (certified_emptied _ written _ _ _ c.erase.ensures.turns) c.erase.ensures.turns

pub returns-in-Ok-clause-enough : goal.returns-in-Ok-clause-enough
returns-in-Ok-clause-enough g c updates enough = enough_none c.close.new.self.session updates c.close.ensures.session

pub returns-in-Ok-clause-any : goal.returns-in-Ok-clause-any
returns-in-Ok-clause-any g c = ((tt, λ told. (c.in-Ok.ensures.cause.0 told).0), c.close.ensures.session)

pub returns-in-Err-NoDevice-clause-any : goal.returns-in-Err-NoDevice-clause-any
returns-in-Err-NoDevice-clause-any g c = ((tt, λ told. ((rw c.in-Err-NoDevice.field-0-is at c.in-Err-NoDevice.ensures.cause).0 told).0), refl)

pub returns-in-Ok-clause-looks : goal.returns-in-Ok-clause-looks
returns-in-Ok-clause-looks g c told before warm look =
    ((c.erase.ensures.reads told).0.by_one, λ done. subst (λ (session : Option Session). IsWarmFor session None) (sym c.close.ensures.session) tt)

pub returns-in-Err-NoDevice-clause-looks : goal.returns-in-Err-NoDevice-clause-looks
returns-in-Err-NoDevice-clause-looks g c told before warm look = ((c.erase.ensures.reads told).0.by_one, λ done. warm_less c.args.self.now.session before warm)

pub returns-in-Err-PlatformFault-clause-looks : goal.returns-in-Err-PlatformFault-clause-looks
returns-in-Err-PlatformFault-clause-looks g c told before warm look = ((c.erase.ensures.reads told).0.by_one, λ done. absurd cc)

pub returns-in-Err-NoDevice-clause-after : goal.returns-in-Err-NoDevice-clause-after
returns-in-Err-NoDevice-clause-after g c = record {
  ready = search rules;
  room = search rules;
  mounted = search rules;
  reply = search rules;
  short = search rules;
  wiped = search rules;
  bad_root = search rules;
  capacity = search rules;
  rises = search rules;
  changes = λ told. changed_not 0 _ _ ((rw c.in-Err-NoDevice.field-0-is at c.in-Err-NoDevice.ensures.cause).0 told).3;
  reads = λ told. tt;
  added = search rules;
  full = search rules;
}
