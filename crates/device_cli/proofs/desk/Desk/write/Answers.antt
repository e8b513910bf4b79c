use Rattle.std.proofs.Common.{◌≡◌, ◌<◌, ◌≤◌, List, [], ◌∷◌, ℕ, Option, None, Some, Err, refl, take, ◌∙◌, ap, rules, arith, subst, sym}
use Rattle.std.proofs.lemmas.Grind.{common_steps}
use Rattle.std.proofs.lemmas.Result.{err_from_is_err_and}
use Rattle.sdbt_base.specs.Arrays.{padded, written}
use Rattle.device_course.proofs.KeysLaws.{on_start}
use Rattle.device_session.specs.Damage.{HasPut}
use Rattle.device_session.specs.Open.{blocks_of}
use Rattle.device_session.specs.Sessions.{Session}
use Rattle.script_lang.specs.Commands.{Write}
use Rattle.script_lang.specs.Replies as replies
use Rattle.device_cli.specs.World.{World, is_full, world_of}
use Rattle.device_cli.proofs.CallLaws.{after_stopped, halts_led, mounted_has, mounted_held, no_root, on_held, past_device, room_held, serves_led, within_device, write_added, write_kept, write_sound, write_stops}
use Rattle.device_cli.specs.Looks.{IsWarmFor}
use Rattle.device_cli.proofs.EnoughLaws.{enough_more}
use Rattle.device_cli.proofs.LookLaws.{still_warm, update_cost, changed_not}
use Rattle.page_store.proofs.KeepingLaws.{drew_none}
use Rattle.device_cli.proofs.ReplyLaws.{held_has}
use Rattle.device_cli.proofs.ServedLaws.{gives_unmounted_write, gives_write_full, gives_write_range, gives_written, is_full_false, is_full_true}
use Rattle.device_cli.proofs.ServingLaws.{keeps_same, serves_unmounted}
use Rattle.device_cli.proofs.desk.Desk.write.Given.{Over}
use Rattle.device_cli.proofs.desk.Desk.write.Goals as goal

pub returns-in_default-clause-answered : goal.returns-in_default-clause-answered
returns-in_default-clause-answered g c told entry rep =
    let P = g.P.Platform in
    let bytes : List ℕ = take c.args.count c.args.self.now.buffer in
    let none : c.args.self.now.session ≡ None = grind (arith, common_steps, c.in_default.is) in
    serves_unmounted c.args.self.now.session c.args.self.now.session (P.history c.args.platform.now) (P.head c.args.platform.now) (P.capacity c.args.platform.now) (P.reads c.args.platform.now) (P.changes c.args.platform.now) entry (Write c.args.block bytes) none none
    (λ full there. gives_unmounted_write full there c.args.block bytes) rep

pub returns-in_default-clause-keeps : goal.returns-in_default-clause-keeps
returns-in_default-clause-keeps g c = λ ledger. on_start _ _ ledger c.args.self.now.session _ _

pub returns-in_default-clause-any : goal.returns-in_default-clause-any
returns-in_default-clause-any g c = (grind (arith, common_steps, c.in_default.is), refl)

-- ---- a block past the device's

pub returns-then-block-blocks-clause-answered : goal.returns-then-block-blocks-clause-answered
returns-then-block-blocks-clause-answered g c told entry rep =
    let old : World = world_of g.P.Platform c.args.self.now.session c.args.platform.now in
    let new : World = world_of g.P.Platform (Some c.in-Some.session) c.args.platform.now in
    let bytes : List ℕ = take c.args.count c.args.self.now.buffer in
    let past : blocks_of c.in-Some.session ≤ c.args.block = omega (arith, c.if-block-blocks.true, c.blocks-2.ensures) in
    serves_led old new c.in-Some.session c.in-Some.session entry (Write c.args.block bytes) replies.Range (λ t. t) c.in-Some.is refl (c.requires.before.cell told)
    (λ d t at. (at, gives_write_range (is_full old entry (Write c.args.block bytes)) d t c.args.block bytes (past_device _ c.in-Some.session d t c.args.block at past))) (keeps_same old new refl) rep

pub returns-then-block-blocks-clause-keeps : goal.returns-then-block-blocks-clause-keeps
returns-then-block-blocks-clause-keeps g c = λ ledger. on_held _ _ _ _ _ c.args.self.now.session (Some c.in-Some.session) _ _ _ _ _ _ c.in-Some.is (on_start _ _ ledger (Some c.in-Some.session) _ (Unit {0})) (λ going. tt) (λ keys h. h)

-- ---- no page is free

pub returns-then-head-capacity-clause-answered : goal.returns-then-head-capacity-clause-answered
returns-then-head-capacity-clause-answered g c told entry rep =
    let old : World = world_of g.P.Platform c.args.self.now.session c.args.platform.now in
    let new : World = world_of g.P.Platform (Some c.in-Some.session) c.args.platform.now in
    let bytes : List ℕ = take c.args.count c.args.self.now.buffer in
    let within : c.args.block < blocks_of c.in-Some.session = omega (arith, c.if-block-blocks.false, c.blocks-2.ensures) in
    let full = is_full_true old entry (Write c.args.block bytes) (omega (arith, c.if-head-capacity.true, c.head.ensures.value, c.capacity.ensures.value)) in
    serves_led old new c.in-Some.session c.in-Some.session entry (Write c.args.block bytes) replies.Full (λ t. t) c.in-Some.is refl (c.requires.before.cell told)
    (λ d t at. (at, gives_write_full (is_full old entry (Write c.args.block bytes)) d t c.args.block bytes full (within_device _ c.in-Some.session d t c.args.block at within))) (keeps_same old new refl) rep

pub returns-then-head-capacity-clause-keeps : goal.returns-then-head-capacity-clause-keeps
returns-then-head-capacity-clause-keeps g c = λ ledger. on_held _ _ _ _ _ c.args.self.now.session (Some c.in-Some.session) _ _ _ _ _ _ c.in-Some.is (on_start _ _ ledger (Some c.in-Some.session) _ (Unit {0})) (λ going. tt) (λ keys h. h)

-- ---- a block that was written

pub returns-clause-after : goal.returns-clause-after
returns-clause-after g c =
    let along = c.in_ok-write_block.ensures.goes.along in record {
      ready = along.is_open;
      room = along.forgets.capacity ∙ room_held c.args.self.now.session c.in-Some.session c.in-Some.is c.requires.before.room;
      mounted = λ told. along.mounted told (mounted_held _ c.in-Some.session _ c.in-Some.is (c.requires.before.mounted told));
      reply = search rules;
      short = search rules;
      wiped = (λ e. cc, λ e. cc);
      bad_root = λ told e. cc;
      capacity = along.capacity;
      rises = along.rises;
      changes = λ told. changed_not _ _ _ (along.changes told);
      reads = λ told. tt;
      added = tt;
      full = λ e. cc;
    }

pub returns-clause-blame : goal.returns-clause-blame
returns-clause-blame g c = record { fell = c.in_ok-write_block.ensures.goes.along.fell; quiet = c.in_ok-write_block.ensures.goes.quiet; cause = tt }

pub returns-clause-enough : goal.returns-clause-enough
returns-clause-enough g c updates enough =
    enough_more c.args.self.now.session c.in-Some.session c.write_block.new.session updates c.in-Some.is (omega (arith, c.in_ok-write_block.ensures.goes.along.needs)) enough

pub returns-clause-keeps : goal.returns-clause-keeps
returns-clause-keeps g c = λ ledger.
    on_held _ _ _ _ _ c.args.self.now.session (Some c.in-Some.session) _ _ _ _ _ _ c.in-Some.is (c.in_ok-write_block.ensures.goes.along.keeps ledger) (λ going. tt) (λ keys h. h)

pub returns-clause-answered : goal.returns-clause-answered
returns-clause-answered g c told entry rep =
    let old : World = world_of g.P.Platform c.args.self.now.session c.args.platform.now in
    let new : World = world_of g.P.Platform (Some c.write_block.new.session) c.write_block.new.platform in
    let bytes : List ℕ = take c.args.count c.args.self.now.buffer in
    let within : c.args.block < blocks_of c.in-Some.session = omega (arith, c.if-block-blocks.false, c.blocks-2.ensures) in
    let room = is_full_false old entry (Write c.args.block bytes) (omega (arith, g.met.P.Platform.has_room c.args.platform.now, c.if-head-capacity.false, c.head.ensures.value, c.capacity.ensures.value)) in
    serves_led old new c.in-Some.session c.write_block.new.session entry (Write c.args.block bytes) replies.Done (λ t. written t c.args.block bytes) c.in-Some.is refl (c.requires.before.cell told)
    (λ d t at. (c.in_ok-write_block.ensures.leads told d t at, gives_written (is_full old entry (Write c.args.block bytes)) d t c.args.block bytes room (within_device _ c.in-Some.session d t c.args.block at within)))
    (c.in_ok-write_block.ensures.goes.along.cell told) rep

pub returns-clause-any : goal.returns-clause-any
returns-clause-any g c =
    let P = g.P.Platform in
    let pages = (P.history c.args.platform.now).present.readable in
    let after = (P.history c.write_block.new.platform).present.readable in
    let bytes : List ℕ = take c.args.count c.args.self.now.buffer in (
      held_has c.args.self.now.session c.in-Some.session (λ (s : Session). P.tells → HasPut pages after s c.write_block.new.session c.args.block (padded bytes)) c.in-Some.is
          (λ told. c.in_ok-write_block.ensures.written told (mounted_held _ c.in-Some.session _ c.in-Some.is (c.requires.before.mounted told))),
      tt,
    )

pub returns-then-block-blocks-clause-any : goal.returns-then-block-blocks-clause-any
returns-then-block-blocks-clause-any g c = (held_has c.args.self.now.session c.in-Some.session (λ (s : Session). blocks_of s ≤ c.args.block) c.in-Some.is (omega (arith, c.if-block-blocks.true, c.blocks-2.ensures)), sym c.in-Some.is)

pub returns-then-head-capacity-clause-any : goal.returns-then-head-capacity-clause-any
returns-then-head-capacity-clause-any g c =
    ((held_has c.args.self.now.session c.in-Some.session (λ (s : Session). c.args.block < blocks_of s) c.in-Some.is (omega (arith, c.if-block-blocks.false, c.blocks-2.ensures)), λ told. tt), sym c.in-Some.is)

-- ---- a stop

stopped : (g : Over) (c : goal.After-from_residual g) → c.from_residual.result ≡ Err c.in_err-write_block.field-0.0
stopped g c = let p = err_from_is_err_and c.from_residual.result c.from_residual.ensures.1 in p.1 ∙ ap Err p.2

pub returns-in_err-write_block-clause-after : goal.returns-in_err-write_block-clause-after
returns-in_err-write_block-clause-after g c =
    let bytes : List ℕ = take c.args.count c.args.self.now.buffer in
    let goes = c.in_err-write_block.ensures.goes in
    rw (stopped g c) (after_stopped g.P.Platform _ _ _ _ (Write c.args.block bytes) c.in_err-write_block.field-0.0 (no_root _ goes.stops) goes.along.capacity goes.along.rises goes.along.changes
    (write_added g.P.Platform g.T.Tape _ _ _ _ c.args.block bytes _ c.in_err-write_block.field-0.0 goes.along.adds c.in_err-write_block.ensures.adds) tt)

pub returns-in_err-write_block-clause-blame : goal.returns-in_err-write_block-clause-blame
returns-in_err-write_block-clause-blame g c =
    let goes = c.in_err-write_block.ensures.goes in
    rw (stopped g c) (record { fell = goes.along.fell; quiet = tt; cause = goes.cause })

pub returns-in_err-write_block-clause-any : goal.returns-in_err-write_block-clause-any
returns-in_err-write_block-clause-any g c =
    let P = g.P.Platform in
    let along = c.in_err-write_block.ensures.goes.along in
    let within : c.args.block < blocks_of c.in-Some.session = omega (arith, c.if-block-blocks.false, c.blocks-2.ensures) in
    let free : P.head c.args.platform.now < P.capacity c.args.platform.now = omega (arith, g.met.P.Platform.has_room c.args.platform.now, c.if-head-capacity.false, c.head.ensures.value, c.capacity.ensures.value) in
    rw (stopped g c) (write_stops P.tells _ c.args.self.now.session (P.history c.args.platform.now).present (world_of P (Some c.write_block.new.session) c.write_block.new.platform) c.in-Some.session c.args.block (take c.args.count c.args.self.now.buffer) c.in_err-write_block.field-0.0 c.in-Some.is
    (λ told. (told, mounted_held _ c.in-Some.session _ c.in-Some.is (c.requires.before.mounted told)))
    (mounted_has P.tells c.args.self.now.session c.in-Some.session (P.history c.args.platform.now) (P.history c.write_block.new.platform) (λ (s : Session). c.args.block < blocks_of s) c.in-Some.is along.cell c.requires.before.mounted within)
    (λ e. omega (arith, write_kept P g.T.Tape _ _ _ _ c.in_err-write_block.field-0.0 c.in_err-write_block.ensures.adds e, along.capacity, free)) c.in_err-write_block.ensures.any)

pub returns-in_err-write_block-clause-keeps : goal.returns-in_err-write_block-clause-keeps
returns-in_err-write_block-clause-keeps g c = λ ledger.
    rw (stopped g c) (on_held _ _ _ _ _ c.args.self.now.session (Some c.in-Some.session) _ _ _ _ _ _ c.in-Some.is (c.in_err-write_block.ensures.goes.along.keeps ledger) (λ going. tt) (λ keys h. tt))

pub returns-in_err-write_block-clause-answered : goal.returns-in_err-write_block-clause-answered
returns-in_err-write_block-clause-answered g c told entry rep =
    let old : World = world_of g.P.Platform c.args.self.now.session c.args.platform.now in
    let new : World = world_of g.P.Platform (Some c.write_block.new.session) c.write_block.new.platform in
    let bytes : List ℕ = take c.args.count c.args.self.now.buffer in
    rw (stopped g c) (halts_led old new c.in-Some.session entry (Write c.args.block bytes) c.in_err-write_block.field-0.0 c.in-Some.is (c.requires.before.cell told)
    (λ d t at. write_sound _ c.write_block.new.session d t c.args.block bytes c.in_err-write_block.field-0.0 (c.in_err-write_block.ensures.leads told d t at))
    (c.in_err-write_block.ensures.goes.along.cell told) rep)

-- ---- what it draws and adds

pub returns-in_default-clause-drew : goal.returns-in_default-clause-drew
returns-in_default-clause-drew g c = ([], refl, drew_none _ _ refl)

pub returns-then-block-blocks-clause-drew : goal.returns-then-block-blocks-clause-drew
returns-then-block-blocks-clause-drew g c = ([], refl, drew_none _ _ refl)

pub returns-then-head-capacity-clause-drew : goal.returns-then-head-capacity-clause-drew
returns-then-head-capacity-clause-drew g c = ([], refl, drew_none _ _ refl)

pub returns-clause-drew : goal.returns-clause-drew
returns-clause-drew g c = (c.in_ok-write_block.ensures.adds.1 ∷ [], refl, c.in_ok-write_block.ensures.adds.2)

pub returns-clause-pages : goal.returns-clause-pages
returns-clause-pages g c = c.in_ok-write_block.ensures.adds.0

pub returns-in_err-write_block-clause-drew : goal.returns-in_err-write_block-clause-drew
returns-in_err-write_block-clause-drew g c = rw (stopped g c) tt

-- ---- what it reads

pub returns-in_default-clause-looks : goal.returns-in_default-clause-looks
returns-in_default-clause-looks g c told before warm look =
    let none : c.args.self.now.session ≡ None = grind (arith, common_steps, c.in_default.is) in
    (omega arith, λ done. subst (λ (session : Option Session). IsWarmFor session None) (sym none) tt)

pub returns-then-block-blocks-clause-looks : goal.returns-then-block-blocks-clause-looks
returns-then-block-blocks-clause-looks g c told before warm look = (omega arith, λ done. still_warm _ c.in-Some.session before c.in-Some.is warm)

pub returns-then-head-capacity-clause-looks : goal.returns-then-head-capacity-clause-looks
returns-then-head-capacity-clause-looks g c told before warm look = (omega arith, λ done. still_warm _ c.in-Some.session before c.in-Some.is warm)

pub returns-clause-looks : goal.returns-clause-looks
returns-clause-looks g c told before warm look =
    let P = g.P.Platform in
    let goes = c.in_ok-write_block.ensures.goes in
    let cost = update_cost _ c.in-Some.session c.write_block.new.session _ (P.reads c.args.platform.now) (P.reads c.write_block.new.platform) before c.in-Some.is c.requires.before.ready warm goes.along.forgets.capacity (goes.along.reads told) in
    (cost.0, λ done. cost.1)

pub returns-in_err-write_block-clause-looks : goal.returns-in_err-write_block-clause-looks
returns-in_err-write_block-clause-looks g c told before warm look =
    let P = g.P.Platform in
    let goes = c.in_err-write_block.ensures.goes in
    let cost = update_cost _ c.in-Some.session c.write_block.new.session _ (P.reads c.args.platform.now) (P.reads c.write_block.new.platform) before c.in-Some.is c.requires.before.ready warm goes.along.forgets.capacity (goes.along.reads told) in
    rw (stopped g c) (cost.0, λ done. absurd cc)
