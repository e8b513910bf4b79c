use Rattle.std.proofs.Common.{◌≡◌, ◌+◌, ◌<◌, ◌≤◌, Option, None, Some, Ok, Err, refl, sym, ◌∙◌, ap, subst, rules, arith}
use Rattle.std.proofs.lemmas.Result.{err_from_is_err_and}
use Rattle.std.proofs.lemmas.Grind.{common_steps}
use Rattle.device_course.proofs.KeysLaws.{on_start}
use Rattle.device_session.specs.Open.{blocks_of}
use Rattle.device_session.specs.Sessions.{Session}
use Rattle.script_lang.specs.Arrays.{content_reply, trimmed}
use Rattle.script_lang.specs.Replies.{Reply}
use Rattle.script_lang.specs.Commands.{Read}
use Rattle.script_lang.specs.Replies as replies
use Rattle.device_cli.specs.Causes.{IsLookedUp, LeavesHeld, MayReply}
use Rattle.device_cli.specs.Looks.{IsWarmFor}
use Rattle.device_cli.specs.Pages.{updates_after}
use Rattle.device_cli.specs.Parts.{added_by}
use Rattle.device_cli.specs.Replied.{Serves}
use Rattle.device_cli.specs.World.{AreEnough, World, is_full, needed_of, world_of}
use Rattle.device_cli.proofs.CallLaws.{after_stopped, halts_led, mounted_has, mounted_held, no_draw, no_root, on_held, past_device, room_held, read_sound, read_stops, serves_led, within_device}
use Rattle.device_cli.proofs.EnoughLaws.{enough_less}
use Rattle.device_cli.proofs.LookLaws.{has_room, open_there, read_cost, warm_after, warm_there, changed_not}
use Rattle.device_cli.proofs.ReplyLaws.{held_has}
use Rattle.device_cli.proofs.ServedLaws.{gives_unmounted_read, gives_content, gives_read_range}
use Rattle.device_cli.proofs.ServingLaws.{keeps_same, serves_unmounted}
use Rattle.device_cli.proofs.desk.Desk.read.Given.{Over}
use Rattle.device_cli.proofs.desk.Desk.read.Goals as goal

pub returns-in_default-clause-answered : goal.returns-in_default-clause-answered
returns-in_default-clause-answered g c told entry rep =
    let P = g.P.Platform in
    let none : c.args.self.now.session ≡ None = grind (arith, common_steps, c.in_default.is) in
    serves_unmounted c.args.self.now.session c.args.self.now.session (P.history c.args.platform.now) (P.head c.args.platform.now) (P.capacity c.args.platform.now) (P.reads c.args.platform.now) (P.changes c.args.platform.now) entry (Read c.args.block) none none
    (λ full there. gives_unmounted_read full there c.args.block) rep

pub returns-in_default-clause-keeps : goal.returns-in_default-clause-keeps
returns-in_default-clause-keeps g c = λ drawn written. on_start _ drawn written c.args.self.now.session _ _

pub returns-in_default-clause-any : goal.returns-in_default-clause-any
returns-in_default-clause-any g c = (grind (arith, common_steps, c.in_default.is), refl)

-- ---- a block past the device's

pub returns-then-block-blocks-clause-answered : goal.returns-then-block-blocks-clause-answered
returns-then-block-blocks-clause-answered g c told entry rep =
    let old : World = world_of g.P.Platform c.args.self.now.session c.args.platform.now in
    let new : World = world_of g.P.Platform (Some c.in-Some.session) c.args.platform.now in
    let past : blocks_of c.in-Some.session ≤ c.args.block = omega (arith, c.if-block-blocks.true, c.blocks-2.ensures) in
    serves_led old new c.in-Some.session c.in-Some.session entry (Read c.args.block) replies.Range (λ t. t) c.in-Some.is refl (c.requires.cell told)
    (λ d t at. (at, gives_read_range (is_full old entry (Read c.args.block)) d t c.args.block (past_device _ c.in-Some.session d t c.args.block at past))) (keeps_same old new refl) rep

pub returns-then-block-blocks-clause-keeps : goal.returns-then-block-blocks-clause-keeps
returns-then-block-blocks-clause-keeps g c = λ drawn written. on_held _ _ _ _ _ c.args.self.now.session (Some c.in-Some.session) _ _ _ _ _ _ c.in-Some.is (on_start _ drawn written (Some c.in-Some.session) _ (Unit {0})) (λ going. tt) (λ keys h. h)

-- ---- a block that was read

pub returns-clause-after : goal.returns-clause-after
returns-clause-after g c =
    let along = (c.in_ok-read_block.ensures.goes (no_draw None)).along in record {
      ready = along.is_open;
      room = along.forgets.capacity ∙ room_held c.args.self.now.session c.in-Some.session c.in-Some.is c.requires.room;
      mounted = λ told. along.mounted told (mounted_held _ c.in-Some.session _ c.in-Some.is (c.requires.mounted told));
      reply = search rules;
      short = search rules;
      wiped = search rules;
      bad_root = λ told e. cc;
      capacity = along.capacity;
      rises = along.rises;
      changes = λ told. changed_not _ _ _ (along.changes told);
      reads = λ told. tt;
      added = tt;
      full = search rules;
    }

pub returns-clause-blame : goal.returns-clause-blame
returns-clause-blame g c = record { fell = (c.in_ok-read_block.ensures.goes (no_draw None)).along.fell; quiet = (c.in_ok-read_block.ensures.goes (no_draw None)).quiet; cause = tt }

pub returns-clause-pages : goal.returns-clause-pages
returns-clause-pages g c =
    let P = g.P.Platform in
    let along = (c.in_ok-read_block.ensures.goes (no_draw None)).along in
    subst (λ (r : Reply). P.head c.read_block.new.platform ≡ P.head c.args.platform.now + added_by (Read c.args.block) r (needed_of c.args.self.now.session) 0) (sym c.reply_with_content.ensures.value) (omega (arith, along.rises, along.adds))

pub returns-clause-enough : goal.returns-clause-enough
returns-clause-enough g c updates enough =
    let along = (c.in_ok-read_block.ensures.goes (no_draw None)).along in
    subst (λ (r : Reply). AreEnough (Some c.read_block.new.session) (updates_after r updates)) (sym c.reply_with_content.ensures.value)
    (enough_less c.args.self.now.session c.in-Some.session c.read_block.new.session updates c.in-Some.is (omega (arith, along.needs)) enough)

pub returns-clause-keeps : goal.returns-clause-keeps
returns-clause-keeps g c = λ drawn written.
    on_held _ _ _ _ _ c.args.self.now.session (Some c.in-Some.session) _ _ _ _ _ _ c.in-Some.is ((c.in_ok-read_block.ensures.goes (no_draw drawn)).along.keeps written) (λ going. tt) (λ keys h. h)

pub returns-clause-answered : goal.returns-clause-answered
returns-clause-answered g c told entry rep =
    let old : World = world_of g.P.Platform c.args.self.now.session c.args.platform.now in
    let new : World = world_of g.P.Platform (Some c.read_block.new.session) c.read_block.new.platform in
    let within : c.args.block < blocks_of c.in-Some.session = omega (arith, c.if-block-blocks.false, c.blocks-2.ensures) in
    subst (λ (r : Reply). Serves old new entry (Read c.args.block) (Ok r)) (sym c.reply_with_content.ensures.value)
    (serves_led old new c.in-Some.session c.read_block.new.session entry (Read c.args.block) (content_reply c.read_block.new.out) (λ t. t) c.in-Some.is refl (c.requires.cell told)
    (λ d t at. let led = c.in_ok-read_block.ensures.leads told d t at in
    (led.0, gives_content (is_full old entry (Read c.args.block)) d t c.args.block c.read_block.new.out (within_device _ c.in-Some.session d t c.args.block at within) led.1))
    ((c.in_ok-read_block.ensures.goes (no_draw None)).along.cell told) rep)

pub returns-clause-any : goal.returns-clause-any
returns-clause-any g c =
    let image = (g.P.Platform.history c.args.platform.now).present in
    subst (λ (r : Reply). MayReply g.P.Platform.tells image (g.P.Platform.history c.read_block.new.platform).present c.args.self.now.session (Some c.read_block.new.session) (Read c.args.block) r × LeavesHeld c.args.self.now.session (Some c.read_block.new.session) r) (sym c.reply_with_content.ensures.value) (
      held_has c.args.self.now.session c.in-Some.session (λ (s : Session). g.P.Platform.tells → IsLookedUp image c.args.block (trimmed c.read_block.new.out) s) c.in-Some.is
          (λ told. (c.read_block.new.out, c.in_ok-read_block.ensures.any (told, mounted_held _ c.in-Some.session _ c.in-Some.is (c.requires.mounted told)), refl)),
      held_has c.args.self.now.session c.in-Some.session (λ (s : Session). c.read_block.new.session.grove ≡ s.grove) c.in-Some.is c.in_ok-read_block.ensures.same.1,
    )

pub returns-then-block-blocks-clause-any : goal.returns-then-block-blocks-clause-any
returns-then-block-blocks-clause-any g c = (held_has c.args.self.now.session c.in-Some.session (λ (s : Session). blocks_of s ≤ c.args.block) c.in-Some.is (omega (arith, c.if-block-blocks.true, c.blocks-2.ensures)), sym c.in-Some.is)

-- ---- a stop

stopped : (g : Over) (c : goal.After-from_residual g) → c.from_residual.result ≡ Err c.in_err-read_block.field-0.0
stopped g c = let p = err_from_is_err_and c.from_residual.result c.from_residual.ensures.1 in p.1 ∙ ap Err p.2

pub returns-in_err-read_block-clause-after : goal.returns-in_err-read_block-clause-after
returns-in_err-read_block-clause-after g c =
    let goes = c.in_err-read_block.ensures.goes (no_draw None) in
    rw (stopped g c) (after_stopped g.P.Platform _ _ _ _ (Read c.args.block) c.in_err-read_block.field-0.0 (no_root _ goes.stops) goes.along.capacity goes.along.rises goes.along.changes (omega (arith, goes.along.adds)) tt)

pub returns-in_err-read_block-clause-blame : goal.returns-in_err-read_block-clause-blame
returns-in_err-read_block-clause-blame g c =
    let goes = c.in_err-read_block.ensures.goes (no_draw None) in
    rw (stopped g c) (record { fell = goes.along.fell; quiet = tt; cause = goes.cause })

pub returns-in_err-read_block-clause-any : goal.returns-in_err-read_block-clause-any
returns-in_err-read_block-clause-any g c =
    rw (stopped g c) (read_stops g.P.Platform.tells _ c.args.self.now.session (g.P.Platform.history c.args.platform.now).present (world_of g.P.Platform (Some c.read_block.new.session) c.read_block.new.platform) c.in-Some.session c.args.block c.read_block.new.out c.in_err-read_block.field-0.0
    (λ told. (told, mounted_held _ c.in-Some.session _ c.in-Some.is (c.requires.mounted told)))
    (mounted_has g.P.Platform.tells c.args.self.now.session c.in-Some.session (g.P.Platform.history c.args.platform.now) (g.P.Platform.history c.read_block.new.platform) (λ (s : Session). c.args.block < blocks_of s) c.in-Some.is
    (c.in_err-read_block.ensures.goes (no_draw None)).along.cell c.requires.mounted (omega (arith, c.if-block-blocks.false, c.blocks-2.ensures))) c.in_err-read_block.ensures.any)

pub returns-in_err-read_block-clause-keeps : goal.returns-in_err-read_block-clause-keeps
returns-in_err-read_block-clause-keeps g c = λ drawn written.
    rw (stopped g c) (on_held _ _ _ _ _ c.args.self.now.session (Some c.in-Some.session) _ _ _ _ _ _ c.in-Some.is ((c.in_err-read_block.ensures.goes (no_draw drawn)).along.keeps written) (λ going. tt) (λ keys h. tt))

pub returns-in_err-read_block-clause-answered : goal.returns-in_err-read_block-clause-answered
returns-in_err-read_block-clause-answered g c told entry rep =
    let old : World = world_of g.P.Platform c.args.self.now.session c.args.platform.now in
    let new : World = world_of g.P.Platform (Some c.read_block.new.session) c.read_block.new.platform in
    rw (stopped g c) (halts_led old new c.in-Some.session entry (Read c.args.block) c.in_err-read_block.field-0.0 c.in-Some.is (c.requires.cell told)
    (λ d t at. read_sound _ c.read_block.new.session d t c.args.block c.read_block.new.out c.in_err-read_block.field-0.0 (c.in_err-read_block.ensures.leads told d t at))
    ((c.in_err-read_block.ensures.goes (no_draw None)).along.cell told) rep)

-- ---- what is read

pub returns-in_default-clause-looks : goal.returns-in_default-clause-looks
returns-in_default-clause-looks g c told before warm look =
    let none : c.args.self.now.session ≡ None = grind (arith, common_steps, c.in_default.is) in
    (omega arith, λ done. subst (λ (session : Option Session). IsWarmFor session (Some c.args.block)) (sym none) tt)

pub returns-then-block-blocks-clause-looks : goal.returns-then-block-blocks-clause-looks
returns-then-block-blocks-clause-looks g c told before warm look =
    let past : blocks_of c.in-Some.session ≤ c.args.block = omega (arith, c.if-block-blocks.true, c.blocks-2.ensures) in
    (omega arith, λ done. (has_room c.in-Some.session before (warm_there _ c.in-Some.session before c.in-Some.is warm), λ within. absurd (omega (arith, within, past))))

pub returns-clause-looks : goal.returns-clause-looks
returns-clause-looks g c told before warm look =
    let P = g.P.Platform in
    let along = (c.in_ok-read_block.ensures.goes (no_draw None)).along in
    let within : c.args.block < blocks_of c.in-Some.session = omega (arith, c.if-block-blocks.false, c.blocks-2.ensures) in
    let there = warm_there _ c.in-Some.session before c.in-Some.is warm in (
      rw c.reply_with_content.ensures.value (read_cost P c.args.block c.args.platform.now c.read_block.new.platform c.in-Some.session c.read_block.new.session _ before told (open_there _ c.in-Some.session _ c.in-Some.is c.requires.ready) within there c.in_ok-read_block.ensures.reads),
      λ done. warm_after P c.args.block c.args.platform.now c.read_block.new.platform c.in-Some.session c.read_block.new.session before told along.is_open.level there along.forgets.capacity c.in_ok-read_block.ensures.reads,
    )

pub returns-in_err-read_block-clause-looks : goal.returns-in_err-read_block-clause-looks
returns-in_err-read_block-clause-looks g c told before warm look =
    let within : c.args.block < blocks_of c.in-Some.session = omega (arith, c.if-block-blocks.false, c.blocks-2.ensures) in
    rw (stopped g c) (
      read_cost g.P.Platform c.args.block c.args.platform.now c.read_block.new.platform c.in-Some.session c.read_block.new.session _ before told (open_there _ c.in-Some.session _ c.in-Some.is c.requires.ready) within
          (warm_there _ c.in-Some.session before c.in-Some.is warm) c.in_err-read_block.ensures.reads,
      λ done. absurd cc,
    )
