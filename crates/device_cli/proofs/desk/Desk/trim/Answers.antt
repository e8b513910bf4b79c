use Rattle.std.proofs.Common.{◌≡◌, ◌<◌, ◌≤◌, Option, None, Some, Err, refl, ◌∙◌, ap, rules, arith, subst, sym}
use Rattle.std.proofs.lemmas.Result.{err_from_is_err_and}
use Rattle.std.proofs.lemmas.Grind.{common_steps}
use Rattle.sdbt_base.specs.Arrays.{unmapped}
use Rattle.device_course.proofs.KeysLaws.{on_start}
use Rattle.device_session.specs.Damage.{HasTaken}
use Rattle.device_session.specs.Open.{blocks_of}
use Rattle.device_session.specs.Sessions.{Session}
use Rattle.script_lang.specs.Commands.{Trim}
use Rattle.script_lang.specs.Replies as replies
use Rattle.device_cli.specs.World.{World, is_full, world_of}
use Rattle.device_cli.proofs.CallLaws.{after_stopped, halts_led, mounted_has, mounted_held, no_draw, no_root, on_held, past_device, room_held, serves_led, trim_sound, trim_stops, within_device}
use Rattle.device_cli.specs.Looks.{IsWarmFor}
use Rattle.device_cli.proofs.EnoughLaws.{enough_more}
use Rattle.device_cli.proofs.LookLaws.{still_warm, update_cost, changed_not}
use Rattle.device_cli.proofs.ReplyLaws.{held_has}
use Rattle.device_cli.proofs.ServedLaws.{gives_unmounted_trim, gives_trimmed, gives_trim_range}
use Rattle.device_cli.proofs.ServingLaws.{keeps_same, serves_unmounted}
use Rattle.device_cli.proofs.desk.Desk.trim.Given.{Over}
use Rattle.device_cli.proofs.desk.Desk.trim.Goals as goal

pub returns-in_default-clause-answered : goal.returns-in_default-clause-answered
returns-in_default-clause-answered g c told entry rep =
    let P = g.P.Platform in
    let none : c.args.self.now.session ≡ None = grind (arith, common_steps, c.in_default.is) in
    serves_unmounted c.args.self.now.session c.args.self.now.session (P.history c.args.platform.now) (P.head c.args.platform.now) (P.capacity c.args.platform.now) (P.reads c.args.platform.now) (P.changes c.args.platform.now) entry (Trim c.args.block) none none
    (λ full there. gives_unmounted_trim full there c.args.block) rep

pub returns-in_default-clause-keeps : goal.returns-in_default-clause-keeps
returns-in_default-clause-keeps g c = λ drawn written. on_start _ drawn written c.args.self.now.session _ _

pub returns-in_default-clause-any : goal.returns-in_default-clause-any
returns-in_default-clause-any g c = (grind (arith, common_steps, c.in_default.is), refl)

-- ---- a block past the device's

pub returns-then-block-blocks-clause-answered : goal.returns-then-block-blocks-clause-answered
returns-then-block-blocks-clause-answered g c told entry rep =
    let old : World = world_of g.P.Platform c.args.self.now.session c.args.platform.now in
    let new : World = world_of g.P.Platform (Some c.in-Some.session) c.args.platform.now in
    let past : blocks_of c.in-Some.session ≤ c.args.block = omega (arith, c.if-block-blocks.true, c.blocks-2.ensures) in
    serves_led old new c.in-Some.session c.in-Some.session entry (Trim c.args.block) replies.Range (λ t. t) c.in-Some.is refl (c.requires.cell told)
    (λ d t at. (at, gives_trim_range (is_full old entry (Trim c.args.block)) d t c.args.block (past_device _ c.in-Some.session d t c.args.block at past))) (keeps_same old new refl) rep

pub returns-then-block-blocks-clause-keeps : goal.returns-then-block-blocks-clause-keeps
returns-then-block-blocks-clause-keeps g c = λ drawn written. on_held _ _ _ _ _ c.args.self.now.session (Some c.in-Some.session) _ _ _ _ _ _ c.in-Some.is (on_start _ drawn written (Some c.in-Some.session) _ (Unit {0})) (λ going. tt) (λ keys h. h)

-- ---- a block that was trimmed

pub returns-clause-after : goal.returns-clause-after
returns-clause-after g c =
    let along = (c.in_ok-trim_block.ensures.goes (no_draw None)).along in record {
      ready = along.is_open;
      room = along.forgets.capacity ∙ room_held c.args.self.now.session c.in-Some.session c.in-Some.is c.requires.room;
      mounted = λ told. along.mounted told (mounted_held _ c.in-Some.session _ c.in-Some.is (c.requires.mounted told));
      reply = search rules;
      short = search rules;
      wiped = (λ e. cc, λ e. cc);
      bad_root = λ told e. cc;
      capacity = along.capacity;
      rises = along.rises;
      changes = λ told. changed_not _ _ _ (along.changes told);
      reads = λ told. tt;
      added = tt;
      full = λ e. cc;
    }

pub returns-clause-blame : goal.returns-clause-blame
returns-clause-blame g c = record { fell = (c.in_ok-trim_block.ensures.goes (no_draw None)).along.fell; quiet = (c.in_ok-trim_block.ensures.goes (no_draw None)).quiet; cause = tt }

pub returns-clause-enough : goal.returns-clause-enough
returns-clause-enough g c updates enough =
    enough_more c.args.self.now.session c.in-Some.session c.trim_block.new.session updates c.in-Some.is (omega (arith, (c.in_ok-trim_block.ensures.goes (no_draw None)).along.needs)) enough

pub returns-clause-keeps : goal.returns-clause-keeps
returns-clause-keeps g c = λ drawn written.
    on_held _ _ _ _ _ c.args.self.now.session (Some c.in-Some.session) _ _ _ _ _ _ c.in-Some.is ((c.in_ok-trim_block.ensures.goes (no_draw drawn)).along.keeps written) (λ going. tt) (λ keys h. h)

pub returns-clause-answered : goal.returns-clause-answered
returns-clause-answered g c told entry rep =
    let old : World = world_of g.P.Platform c.args.self.now.session c.args.platform.now in
    let new : World = world_of g.P.Platform (Some c.trim_block.new.session) c.trim_block.new.platform in
    let within : c.args.block < blocks_of c.in-Some.session = omega (arith, c.if-block-blocks.false, c.blocks-2.ensures) in
    serves_led old new c.in-Some.session c.trim_block.new.session entry (Trim c.args.block) replies.Done (λ t. unmapped t c.args.block) c.in-Some.is refl (c.requires.cell told)
    (λ d t at. (c.in_ok-trim_block.ensures.leads told d t at, gives_trimmed (is_full old entry (Trim c.args.block)) d t c.args.block (within_device _ c.in-Some.session d t c.args.block at within)))
    ((c.in_ok-trim_block.ensures.goes (no_draw None)).along.cell told) rep

pub returns-clause-any : goal.returns-clause-any
returns-clause-any g c =
    let P = g.P.Platform in
    let pages = (P.history c.args.platform.now).present.readable in
    let after = (P.history c.trim_block.new.platform).present.readable in (
      held_has c.args.self.now.session c.in-Some.session (λ (s : Session). P.tells → HasTaken pages after s c.trim_block.new.session c.args.block) c.in-Some.is
          (λ told. c.in_ok-trim_block.ensures.taken told (mounted_held _ c.in-Some.session _ c.in-Some.is (c.requires.mounted told))),
      tt,
    )

pub returns-then-block-blocks-clause-any : goal.returns-then-block-blocks-clause-any
returns-then-block-blocks-clause-any g c = (held_has c.args.self.now.session c.in-Some.session (λ (s : Session). blocks_of s ≤ c.args.block) c.in-Some.is (omega (arith, c.if-block-blocks.true, c.blocks-2.ensures)), sym c.in-Some.is)

-- ---- a stop

stopped : (g : Over) (c : goal.After-from_residual g) → c.from_residual.result ≡ Err c.in_err-trim_block.field-0.0
stopped g c = let p = err_from_is_err_and c.from_residual.result c.from_residual.ensures.1 in p.1 ∙ ap Err p.2

pub returns-in_err-trim_block-clause-after : goal.returns-in_err-trim_block-clause-after
returns-in_err-trim_block-clause-after g c =
    let goes = c.in_err-trim_block.ensures.goes (no_draw None) in
    rw (stopped g c) (after_stopped g.P.Platform _ _ _ _ (Trim c.args.block) c.in_err-trim_block.field-0.0 (no_root _ goes.stops) goes.along.capacity goes.along.rises goes.along.changes (omega (arith, c.in_err-trim_block.ensures.head)) tt)

pub returns-in_err-trim_block-clause-blame : goal.returns-in_err-trim_block-clause-blame
returns-in_err-trim_block-clause-blame g c =
    let goes = c.in_err-trim_block.ensures.goes (no_draw None) in
    rw (stopped g c) (record { fell = goes.along.fell; quiet = tt; cause = goes.cause })

pub returns-in_err-trim_block-clause-any : goal.returns-in_err-trim_block-clause-any
returns-in_err-trim_block-clause-any g c =
    let P = g.P.Platform in
    let within : c.args.block < blocks_of c.in-Some.session = omega (arith, c.if-block-blocks.false, c.blocks-2.ensures) in
    rw (stopped g c) (trim_stops P.tells _ c.args.self.now.session (P.history c.args.platform.now).present (world_of P (Some c.trim_block.new.session) c.trim_block.new.platform) c.in-Some.session c.args.block c.in_err-trim_block.field-0.0 c.in-Some.is
    (λ told. (told, mounted_held _ c.in-Some.session _ c.in-Some.is (c.requires.mounted told)))
    (mounted_has P.tells c.args.self.now.session c.in-Some.session (P.history c.args.platform.now) (P.history c.trim_block.new.platform) (λ (s : Session). c.args.block < blocks_of s) c.in-Some.is
    (c.in_err-trim_block.ensures.goes (no_draw None)).along.cell c.requires.mounted within) c.in_err-trim_block.ensures.any)

pub returns-in_err-trim_block-clause-keeps : goal.returns-in_err-trim_block-clause-keeps
returns-in_err-trim_block-clause-keeps g c = λ drawn written.
    rw (stopped g c) (on_held _ _ _ _ _ c.args.self.now.session (Some c.in-Some.session) _ _ _ _ _ _ c.in-Some.is ((c.in_err-trim_block.ensures.goes (no_draw drawn)).along.keeps written) (λ going. tt) (λ keys h. tt))

pub returns-in_err-trim_block-clause-answered : goal.returns-in_err-trim_block-clause-answered
returns-in_err-trim_block-clause-answered g c told entry rep =
    let old : World = world_of g.P.Platform c.args.self.now.session c.args.platform.now in
    let new : World = world_of g.P.Platform (Some c.trim_block.new.session) c.trim_block.new.platform in
    rw (stopped g c) (halts_led old new c.in-Some.session entry (Trim c.args.block) c.in_err-trim_block.field-0.0 c.in-Some.is (c.requires.cell told)
    (λ d t at. trim_sound _ c.trim_block.new.session d t c.args.block c.in_err-trim_block.field-0.0 (c.in_err-trim_block.ensures.leads told d t at))
    ((c.in_err-trim_block.ensures.goes (no_draw None)).along.cell told) rep)

-- ---- what it reads

pub returns-in_default-clause-looks : goal.returns-in_default-clause-looks
returns-in_default-clause-looks g c told before warm look =
    let none : c.args.self.now.session ≡ None = grind (arith, common_steps, c.in_default.is) in
    (omega arith, λ done. subst (λ (session : Option Session). IsWarmFor session None) (sym none) tt)

pub returns-then-block-blocks-clause-looks : goal.returns-then-block-blocks-clause-looks
returns-then-block-blocks-clause-looks g c told before warm look = (omega arith, λ done. still_warm _ c.in-Some.session before c.in-Some.is warm)

pub returns-clause-looks : goal.returns-clause-looks
returns-clause-looks g c told before warm look =
    let P = g.P.Platform in
    let goes = (c.in_ok-trim_block.ensures.goes (no_draw None)) in
    let cost = update_cost _ c.in-Some.session c.trim_block.new.session _ (P.reads c.args.platform.now) (P.reads c.trim_block.new.platform) before c.in-Some.is c.requires.ready warm goes.along.forgets.capacity (goes.along.reads told) in
    (cost.0, λ done. cost.1)

pub returns-in_err-trim_block-clause-looks : goal.returns-in_err-trim_block-clause-looks
returns-in_err-trim_block-clause-looks g c told before warm look =
    let P = g.P.Platform in
    let goes = (c.in_err-trim_block.ensures.goes (no_draw None)) in
    let cost = update_cost _ c.in-Some.session c.trim_block.new.session _ (P.reads c.args.platform.now) (P.reads c.trim_block.new.platform) before c.in-Some.is c.requires.ready warm goes.along.forgets.capacity (goes.along.reads told) in
    rw (stopped g c) (cost.0, λ done. absurd cc)
