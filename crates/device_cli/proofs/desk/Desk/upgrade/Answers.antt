use Rattle.std.proofs.Common.{◌≡◌, inl, inr, Option, None, Ok, Err, refl, sym, ◌∙◌, subst, ap, arith, rules}
use Rattle.std.proofs.lemmas.Grind.{common_steps}
use Rattle.std.proofs.lemmas.Result.{err_from_is_err_and}
use Rattle.device_course.specs.States.{IsListed}
use Rattle.device_course.proofs.KeysLaws.{on_start}
use Rattle.device_session.specs.Sessions.{Session}
use Rattle.sdbt_base.specs.declared.tapes.Tape.{Ghosts as TapeGhosts}
use Rattle.platform.specs.declared.platforms.Platform.{Ghosts as PlatformGhosts}
use Rattle.device_core.specs.Upgrading.{SpendsUpgrade}
use Rattle.session_calls.specs.Upgrades.{ReadsUpgrade}
use Rattle.script_lang.specs.Commands as commands
use Rattle.script_lang.specs.Replies as replies
use Rattle.device_cli.specs.Replied.{Serves}
use Rattle.device_cli.specs.World.{World, world_of}
use Rattle.device_cli.proofs.CallLaws.{at_none, halts_upgrade, on_held, serves_none_upgraded, serves_upgrade_full, serves_upgraded, serves_upgraded_already, stopped_changes, upgrade_stops}
use Rattle.device_cli.proofs.Choices.{some_of}
use Rattle.device_cli.proofs.ServingLaws.{serves_not_upgraded}
use Rattle.device_cli.proofs.desk.Desk.upgrade.Given.{Over}
use Rattle.device_cli.proofs.desk.Desk.upgrade.Goals as goal

pub returns-then-is_some-clause-answered : goal.returns-then-is_some-clause-answered
returns-then-is_some-clause-answered g c told entry rep =
    let P = g.P.Platform in
    let old : World = world_of P c.args.self.now.session c.args.platform.now in
    some_of c.args.self.now.session (λ none. grind (arith, common_steps, none, c.is_some.ensures, c.if-is_some.true)) (Serves old old entry commands.Upgrade (Ok replies.AlreadyMounted))
    (λ session some. serves_not_upgraded c.args.self.now.session (P.history c.args.platform.now) (P.head c.args.platform.now) (P.capacity c.args.platform.now) (P.reads c.args.platform.now) (P.changes c.args.platform.now) entry session some rep)

pub returns-then-is_some-clause-keeps : goal.returns-then-is_some-clause-keeps
returns-then-is_some-clause-keeps g c = on_start _ _ _ c.args.self.now.session _ _

-- ---- a reply

pub returns-in-Upgraded-clause-answered : goal.returns-in-Upgraded-clause-answered
returns-in-Upgraded-clause-answered g c told entry rep =
    let P = g.P.Platform in
    let none : c.args.self.now.session ≡ None = grind (arith, common_steps, c.is_some.ensures, c.if-is_some.false) in
    let there = at_none (world_of P c.args.self.now.session c.args.platform.now) entry none rep (c.requires.cell told) in
    serves_upgraded P c.args.platform.now c.upgrade_device.new.platform c.args.self.now.session entry c.in-Upgraded.number none (rw c.in-Upgraded.is at (c.in_ok-reply.ensures.leads told entry there))

pub returns-in-Upgraded-clause-keeps : goal.returns-in-Upgraded-clause-keeps
returns-in-Upgraded-clause-keeps g c =
    let none : c.args.self.now.session ≡ None = grind (arith, common_steps, c.is_some.ensures, c.if-is_some.false) in
    on_held _ _ _ _ _ c.args.self.now.session None _ _ _ _ _ _ none c.in_ok-reply.ensures.goes.keeps (λ going. refl)
    (λ keys h. subst (λ (held : Option Session). IsListed held (g.P.Platform.history c.upgrade_device.new.platform).present keys) (sym none) h)

pub returns-in-NoDevice-clause-answered : goal.returns-in-NoDevice-clause-answered
returns-in-NoDevice-clause-answered g c told entry rep =
    let P = g.P.Platform in
    let none : c.args.self.now.session ≡ None = grind (arith, common_steps, c.is_some.ensures, c.if-is_some.false) in
    let there = at_none (world_of P c.args.self.now.session c.args.platform.now) entry none rep (c.requires.cell told) in
    serves_none_upgraded P c.args.platform.now c.upgrade_device.new.platform c.args.self.now.session entry none (rw c.in-NoDevice.is at (c.in_ok-reply.ensures.leads told entry there))

pub returns-in-NoDevice-clause-keeps : goal.returns-in-NoDevice-clause-keeps
returns-in-NoDevice-clause-keeps g c =
    let none : c.args.self.now.session ≡ None = grind (arith, common_steps, c.is_some.ensures, c.if-is_some.false) in
    on_held _ _ _ _ _ c.args.self.now.session None _ _ _ _ _ _ none c.in_ok-reply.ensures.goes.keeps (λ going. refl)
    (λ keys h. subst (λ (held : Option Session). IsListed held (g.P.Platform.history c.upgrade_device.new.platform).present keys) (sym none) h)

pub returns-in-AlreadyUpgraded-clause-answered : goal.returns-in-AlreadyUpgraded-clause-answered
returns-in-AlreadyUpgraded-clause-answered g c told entry rep =
    let P = g.P.Platform in
    let none : c.args.self.now.session ≡ None = grind (arith, common_steps, c.is_some.ensures, c.if-is_some.false) in
    let there = at_none (world_of P c.args.self.now.session c.args.platform.now) entry none rep (c.requires.cell told) in
    serves_upgraded_already P c.args.platform.now c.upgrade_device.new.platform c.args.self.now.session entry none (rw c.in-AlreadyUpgraded.is at (c.in_ok-reply.ensures.leads told entry there))

pub returns-in-AlreadyUpgraded-clause-keeps : goal.returns-in-AlreadyUpgraded-clause-keeps
returns-in-AlreadyUpgraded-clause-keeps g c =
    let none : c.args.self.now.session ≡ None = grind (arith, common_steps, c.is_some.ensures, c.if-is_some.false) in
    on_held _ _ _ _ _ c.args.self.now.session None _ _ _ _ _ _ none c.in_ok-reply.ensures.goes.keeps (λ going. refl)
    (λ keys h. subst (λ (held : Option Session). IsListed held (g.P.Platform.history c.upgrade_device.new.platform).present keys) (sym none) h)

pub returns-in-Full-clause-answered : goal.returns-in-Full-clause-answered
returns-in-Full-clause-answered g c told entry rep =
    let P = g.P.Platform in
    let none : c.args.self.now.session ≡ None = grind (arith, common_steps, c.is_some.ensures, c.if-is_some.false) in
    let there = at_none (world_of P c.args.self.now.session c.args.platform.now) entry none rep (c.requires.cell told) in
    serves_upgrade_full P c.args.platform.now c.upgrade_device.new.platform c.args.self.now.session entry none (rw c.in-Full.is at (c.in_ok-reply.ensures.leads told entry there))

pub returns-in-Full-clause-keeps : goal.returns-in-Full-clause-keeps
returns-in-Full-clause-keeps g c =
    let none : c.args.self.now.session ≡ None = grind (arith, common_steps, c.is_some.ensures, c.if-is_some.false) in
    on_held _ _ _ _ _ c.args.self.now.session None _ _ _ _ _ _ none c.in_ok-reply.ensures.goes.keeps (λ going. refl)
    (λ keys h. subst (λ (held : Option Session). IsListed held (g.P.Platform.history c.upgrade_device.new.platform).present keys) (sym none) h)

-- ---- a stop

stopped : (g : Over) (c : goal.After-from_residual g) → c.from_residual.result ≡ Err c.in_err-reply.field-0.0
stopped g c = let p = err_from_is_err_and c.from_residual.result c.from_residual.ensures.1 in p.1 ∙ ap Err p.2

pub returns-in_err-reply-clause-answered : goal.returns-in_err-reply-clause-answered
returns-in_err-reply-clause-answered g c told entry rep =
    let P = g.P.Platform in
    let none : c.args.self.now.session ≡ None = grind (arith, common_steps, c.is_some.ensures, c.if-is_some.false) in
    let there = at_none (world_of P c.args.self.now.session c.args.platform.now) entry none rep (c.requires.cell told) in
    rw (stopped g c) (halts_upgrade P c.args.platform.now c.upgrade_device.new.platform c.args.self.now.session entry c.in_err-reply.field-0.0 (c.in_err-reply.ensures.leads told entry there))

pub returns-in_err-reply-clause-keeps : goal.returns-in_err-reply-clause-keeps
returns-in_err-reply-clause-keeps g c =
    let none : c.args.self.now.session ≡ None = grind (arith, common_steps, c.is_some.ensures, c.if-is_some.false) in
    rw (stopped g c) (on_held _ _ _ _ _ c.args.self.now.session None _ _ _ _ _ _ none c.in_err-reply.ensures.goes.keeps (λ never. absurd cc) (λ keys h. tt))

pub returns-in_err-reply-clause-any : goal.returns-in_err-reply-clause-any
returns-in_err-reply-clause-any g c =
    let none : c.args.self.now.session ≡ None = grind (arith, common_steps, c.is_some.ensures, c.if-is_some.false) in
    rw (stopped g c) (upgrade_stops g.P.Platform g.T.Tape _ _ _ _ c.args.self.now.session c.in_err-reply.field-0.0 none c.in_err-reply.ensures.goes.capacity c.in_err-reply.ensures.answers)

-- ---- what it leaves, syncs and reads

-- what an upgrade of the device reads
reads_upgrade : {S R : Type 0} (P : PlatformGhosts S) (T : TapeGhosts R) (old new : S) (tape tape_now : R) (Done : Type 0) → P.tells → SpendsUpgrade P T old new tape tape_now Done → ReadsUpgrade P old new
reads_upgrade P T old new tape tape_now Done told (inl idle) = inl idle.3
reads_upgrade P T old new tape tape_now Done told (inr on) = let reads = on.reads told in inr (on.root, on.begins, reads.0, reads.1, reads.2)

pub returns-in-Upgraded-clause-after : goal.returns-in-Upgraded-clause-after
returns-in-Upgraded-clause-after g c =
    let none : c.args.self.now.session ≡ None = grind (arith, common_steps, c.is_some.ensures, c.if-is_some.false) in record {
      ready = search rules;
      room = search rules;
      mounted = search rules;
      reply = search rules;
      short = search rules;
      wiped = search rules;
      bad_root = search rules;
      capacity = search rules;
      rises = search rules;
      changes = rw c.in-Upgraded.is at c.in_ok-reply.ensures.goes.changes;
      reads = λ told. inr (none, reads_upgrade g.P.Platform g.T.Tape _ _ _ _ _ told c.in_ok-reply.ensures.goes.spends);
      added = search rules;
      full = search rules;
    }

pub returns-in-NoDevice-clause-after : goal.returns-in-NoDevice-clause-after
returns-in-NoDevice-clause-after g c =
    let none : c.args.self.now.session ≡ None = grind (arith, common_steps, c.is_some.ensures, c.if-is_some.false) in record {
      ready = search rules;
      room = search rules;
      mounted = search rules;
      reply = search rules;
      short = search rules;
      wiped = search rules;
      bad_root = search rules;
      capacity = search rules;
      rises = search rules;
      changes = rw c.in-NoDevice.is at c.in_ok-reply.ensures.goes.changes;
      reads = λ told. inr (none, reads_upgrade g.P.Platform g.T.Tape _ _ _ _ _ told c.in_ok-reply.ensures.goes.spends);
      added = search rules;
      full = search rules;
    }

pub returns-in-AlreadyUpgraded-clause-after : goal.returns-in-AlreadyUpgraded-clause-after
returns-in-AlreadyUpgraded-clause-after g c =
    let none : c.args.self.now.session ≡ None = grind (arith, common_steps, c.is_some.ensures, c.if-is_some.false) in record {
      ready = search rules;
      room = search rules;
      mounted = search rules;
      reply = search rules;
      short = search rules;
      wiped = search rules;
      bad_root = search rules;
      capacity = search rules;
      rises = search rules;
      changes = rw c.in-AlreadyUpgraded.is at c.in_ok-reply.ensures.goes.changes;
      reads = λ told. inr (none, reads_upgrade g.P.Platform g.T.Tape _ _ _ _ _ told c.in_ok-reply.ensures.goes.spends);
      added = search rules;
      full = search rules;
    }

pub returns-in-Full-clause-after : goal.returns-in-Full-clause-after
returns-in-Full-clause-after g c =
    let none : c.args.self.now.session ≡ None = grind (arith, common_steps, c.is_some.ensures, c.if-is_some.false) in record {
      ready = search rules;
      room = search rules;
      mounted = search rules;
      reply = search rules;
      short = search rules;
      wiped = search rules;
      bad_root = search rules;
      capacity = search rules;
      rises = search rules;
      changes = rw c.in-Full.is at c.in_ok-reply.ensures.goes.changes;
      reads = λ told. inr (none, reads_upgrade g.P.Platform g.T.Tape _ _ _ _ _ told c.in_ok-reply.ensures.goes.spends);
      added = search rules;
      full = search rules;
    }

pub returns-in_err-reply-clause-after : goal.returns-in_err-reply-clause-after
returns-in_err-reply-clause-after g c =
    let none : c.args.self.now.session ≡ None = grind (arith, common_steps, c.is_some.ensures, c.if-is_some.false) in
    let goes = c.in_err-reply.ensures.goes in
    rw (stopped g c) (record {
      ready = tt;
      room = tt;
      mounted = λ told. tt;
      reply = tt;
      short = tt;
      wiped = tt;
      bad_root = search rules;
      capacity = goes.capacity;
      rises = goes.rises;
      changes = λ told. stopped_changes commands.Upgrade c.in_err-reply.field-0.0 _ _ refl (goes.changes told);
      reads = λ told. inr (none, reads_upgrade g.P.Platform g.T.Tape _ _ _ _ _ told goes.spends);
      added = search rules;
      full = tt;
    })

pub returns-then-is_some-clause-after : goal.returns-then-is_some-clause-after
returns-then-is_some-clause-after g c = record {
  ready = search rules;
  room = search rules;
  mounted = search rules;
  reply = search rules;
  short = search rules;
  wiped = search rules;
  bad_root = search rules;
  capacity = search rules;
  rises = search rules;
  changes = search rules;
  reads = λ told. inl (λ none. grind (arith, common_steps, none, c.is_some.ensures, c.if-is_some.true), refl);
  added = search rules;
  full = search rules;
}
