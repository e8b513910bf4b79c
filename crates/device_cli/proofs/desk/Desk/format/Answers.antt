use Rattle.std.proofs.lemmas.Grind.{common_steps}
use Rattle.std.proofs.Common.{List, ◌≡◌, ◌≢◌, ◌-◌, ◌<◌, ℕ, true, false, None, Ok, Err, inl, inr, refl, sym, ◌∙◌, ap, subst, rules, arith, []}
use Rattle.std.specs.Prelude.{Result, IfOk, IfErr, IsOk, ◌⊎◌}
use Rattle.sdbt_base.specs.Counts.{Counts}
use Rattle.sdbt_base.specs.Arrays.{State}
use Rattle.script_lang.specs.Replies.{said}
use Rattle.script_lang.specs.Replies as replies
use Rattle.script_lang.specs.declared.replies.Reply.{Reply as Given}
use Rattle.script_lang.specs.declared.replies.Reply.TheVariants as given
use Rattle.session_calls.specs.declared.stops.DeviceStop.{DeviceStop}
use Rattle.session_calls.specs.declared.stops.DeviceStop.TheVariants as device
use Rattle.device_cli.specs.World.{World, world_of}
use Rattle.device_cli.specs.Replied.{Serves, Halts, outcome}
use Rattle.device_cli.specs.Represents.{Represents}
use Rattle.script_lang.specs.Arrays.{in_limits}
use Rattle.script_lang.specs.Commands.{Format}
use Rattle.device_cli.proofs.ServedLaws.{halts_still, gives_format_range}
use Rattle.device_cli.proofs.ServingLaws.{KeepsCell, serves_formatted, serves_format_full, serves_not_empty, serves_refused, halts_format}
use Rattle.sdbt_base.specs.declared.tapes.Tape.{Ghosts as TapeGhosts}
use Rattle.platform.specs.Image.{Image}
use Rattle.platform.specs.declared.platforms.Platform.{Ghosts as PlatformGhosts}
use Rattle.device_core.specs.Publishing.{IsFormatCause}
use Rattle.device_core.specs.declared.refusals.FormatRefusal.{FormatRefusal}
use Rattle.device_course.proofs.CertifiedLaws.{certified_going, certified_unput, certified_format}
use Rattle.device_course.proofs.FitsLaws.{behind_added, fitting_formatted}
use Rattle.device_course.proofs.KeysLaws.{on_look, on_call, sound_of, listed_image, listed_keys, format_listed}
use Rattle.device_cli.proofs.CellLaws.{ready_later}
use Rattle.device_cli.proofs.Choices.{on_ok}
use Rattle.device_cli.specs.World.{needed_of}
use Rattle.page_store.proofs.KeepingLaws.{drew_none}
use Rattle.device_cli.proofs.DrawingLaws.{refused_drew}
use Rattle.device_cli.proofs.ReplyLaws.{refused_any}
use Rattle.device_cli.proofs.EnoughLaws.{enough_refused, pages_refused}
use Rattle.device_cli.proofs.LookLaws.{format_told, warm_less}
use Rattle.device_cli.proofs.desk.Desk.format.Goals as goal

-- what the looking for a device ended with
refused_result : (old new : World) (entry : State) (blocks order : ℕ) (result : Result Given DeviceStop) (buffer : List ℕ)
    → IfOk result (λ now. ((now ≡ given.NotEmpty) × (old.history.present.cell ≢ None)) ⊎ ((now ≡ given.Range) × (old.history.present.cell ≡ None)))
    → IfErr result (λ stop. stop ≡ device.Platform) → new.history.present ≡ old.history.present → KeepsCell old new
    → in_limits blocks order ≡ false → new.session ≡ old.session → Represents old entry → Serves old new entry (Format blocks order) (outcome result buffer)
refused_result old new entry blocks order (Ok now) buffer replied cause image keeps past session rep =
    serves_refused old new entry blocks order (said now buffer) replies.Range session image keeps (λ full there. gives_format_range full there blocks order past)
    (elim replied [
      | inl found ↦ inl (ap (λ (r : Given). said r buffer) found.0, found.1)
      | inr none ↦ inr (ap (λ (r : Given). said r buffer) none.0, none.1)
    ]) rep
refused_result old new entry blocks order (Err stop) buffer replied cause image keeps past session rep =
    subst (λ (s : DeviceStop). Halts old new entry (Format blocks order) s) (sym cause) (halts_still old new entry (Format blocks order) device.Platform tt rep keeps)

third : {X Y Z : Type 0} → (X → ⊥) → (Y → ⊥) → X ⊎ (Y ⊎ Z) → Z
third not_one not_two (inl x) = absurd (not_one x)
third not_one not_two (inr (inl y)) = absurd (not_two y)
third not_one not_two (inr (inr z)) = z

-- a device is made where the cell is empty
empty_where_made : {S R : Type 0} (P : PlatformGhosts S) (T : TapeGhosts R) (platform platform_now : S) (tape tape_now : R) (before now : Counts) (result : Result (Unit {0}) FormatRefusal) → IsFormatCause P T platform platform_now tape tape_now before now result
    → P.tells → IsOk result → (P.history platform).present.cell ≡ None
empty_where_made P T platform platform_now tape tape_now before now (Ok done) cause told ok = cause.0 told
empty_where_made P T platform platform_now tape tape_now before now (Err refusal) cause told ok = absurd cc

pub returns-in-Ok-clause-answered : goal.returns-in-Ok-clause-answered
returns-in-Ok-clause-answered g c told entry rep =
    let P = g.P.Platform in
    let old : World = world_of P c.args.self.now.session c.args.platform.now in
    let new : World = world_of P c.args.self.now.session c.format.new.platform in
    let within : in_limits c.args.blocks c.args.order ≡ true = grind (arith, common_steps, c.is_in_limits.ensures.limits, c.if-not-is_in_limits.false) in
    serves_formatted old new entry c.args.blocks c.args.order (c.in-Ok.ensures.cause.0 told) refl within
    (omega (arith, g.met.P.Platform.has_room c.args.platform.now, c.in-Ok.ensures.cause.1)) (c.in-Ok.ensures.made told).0
    (λ there stands. c.format.ensures.time told there stands) rep

pub returns-in-Err-NotEmpty-clause-answered : goal.returns-in-Err-NotEmpty-clause-answered
returns-in-Err-NotEmpty-clause-answered g c told entry rep =
    let P = g.P.Platform in
    let old : World = world_of P c.args.self.now.session c.args.platform.now in
    let new : World = world_of P c.args.self.now.session c.format.new.platform in
    serves_not_empty old new entry c.args.blocks c.args.order ((rw c.in-Err-NotEmpty.field-0-is at c.in-Err-NotEmpty.ensures.cause).0 told) refl ((rw c.in-Err-NotEmpty.field-0-is at c.in-Err-NotEmpty.ensures.cause).1.0.image told) ((rw c.in-Err-NotEmpty.field-0-is at c.in-Err-NotEmpty.ensures.cause).1.1 told) rep

pub returns-in-Err-Full-clause-answered : goal.returns-in-Err-Full-clause-answered
returns-in-Err-Full-clause-answered g c told entry rep =
    let P = g.P.Platform in
    let old : World = world_of P c.args.self.now.session c.args.platform.now in
    let new : World = world_of P c.args.self.now.session c.format.new.platform in
    let within : in_limits c.args.blocks c.args.order ≡ true = grind (arith, common_steps, c.is_in_limits.ensures.limits, c.if-not-is_in_limits.false) in
    serves_format_full old new entry c.args.blocks c.args.order ((rw c.in-Err-Full.field-0-is at c.in-Err-Full.ensures.cause).0 told) refl ((rw c.in-Err-Full.field-0-is at c.in-Err-Full.ensures.cause).2.0.image told) within (let none = (rw c.in-Err-Full.field-0-is at c.in-Err-Full.ensures.cause).1 in omega (arith, none)) ((rw c.in-Err-Full.field-0-is at c.in-Err-Full.ensures.cause).2.1 told) rep

pub returns-in-Err-Memory-clause-answered : goal.returns-in-Err-Memory-clause-answered
returns-in-Err-Memory-clause-answered g c told entry rep =
    let P = g.P.Platform in
    let old : World = world_of P c.args.self.now.session c.args.platform.now in
    let new : World = world_of P c.args.self.now.session c.format.new.platform in
    halts_still old new entry (Format c.args.blocks c.args.order) device.Memory tt rep ((rw c.in-Err-Memory.field-0-is at c.in-Err-Memory.ensures.cause).2.1 told)

pub returns-in-Err-TapeFault-clause-answered : goal.returns-in-Err-TapeFault-clause-answered
returns-in-Err-TapeFault-clause-answered g c told entry rep =
    let P = g.P.Platform in
    let old : World = world_of P c.args.self.now.session c.args.platform.now in
    let new : World = world_of P c.args.self.now.session c.format.new.platform in
    halts_still old new entry (Format c.args.blocks c.args.order) device.Tape tt rep ((rw c.in-Err-TapeFault.field-0-is at c.in-Err-TapeFault.ensures.cause).2.1 told)

pub returns-in-Err-LedgerFault-clause-answered : goal.returns-in-Err-LedgerFault-clause-answered
returns-in-Err-LedgerFault-clause-answered g c told entry rep =
    let P = g.P.Platform in
    let old : World = world_of P c.args.self.now.session c.args.platform.now in
    let new : World = world_of P c.args.self.now.session c.format.new.platform in
    halts_still old new entry (Format c.args.blocks c.args.order) device.Ledger tt rep ((rw c.in-Err-LedgerFault.field-0-is at c.in-Err-LedgerFault.ensures.cause).2 told)

pub returns-in-Err-PlatformFault-clause-answered : goal.returns-in-Err-PlatformFault-clause-answered
returns-in-Err-PlatformFault-clause-answered g c told entry rep =
    let P = g.P.Platform in
    let old : World = world_of P c.args.self.now.session c.args.platform.now in
    let new : World = world_of P c.args.self.now.session c.format.new.platform in
    let within : in_limits c.args.blocks c.args.order ≡ true = grind (arith, common_steps, c.is_in_limits.ensures.limits, c.if-not-is_in_limits.false) in
    let full_or_none : (old.history.present.cell ≢ None) ⊎ (old.capacity - old.head < 1) → (old.history.present.cell ≢ None) ⊎ (old.head ≡ old.capacity) =
    λ before. elim before [ inl full ↦ inl full | inr none ↦ inr (omega (arith, none, g.met.P.Platform.has_room c.args.platform.now)) ] in
    halts_format old new entry c.args.blocks c.args.order within (λ before. (c.format.ensures.kept told (full_or_none before)).1)
    (λ there stands. c.format.ensures.time told there stands) rep

pub returns-then-not-is_in_limits-clause-answered : goal.returns-then-not-is_in_limits-clause-answered
returns-then-not-is_in_limits-clause-answered g c told entry rep =
    let P = g.P.Platform in
    let old : World = world_of P c.args.self.now.session c.args.platform.now in
    let new : World = world_of P c.args.self.now.session c.refuse_format.new.platform in
    let past : in_limits c.args.blocks c.args.order ≡ false = grind (arith, common_steps, c.is_in_limits.ensures.limits, c.if-not-is_in_limits.true) in
    refused_result old new entry c.args.blocks c.args.order c.refuse_format.result c.args.self.now.buffer
    (c.refuse_format.ensures.replies told) c.refuse_format.ensures.cause.0 (c.refuse_format.ensures.image told) (c.refuse_format.ensures.time told) past refl rep

pub returns-in-Ok-clause-keeps : goal.returns-in-Ok-clause-keeps
returns-in-Ok-clause-keeps g c = on_call _ _ _ _ _ c.args.self.now.session _ _ _ _ _ _ c.format.ensures.discloses.keys (λ told keys h. sound_of _ _ keys h) (λ told keys h. c.format.ensures.discloses.forgets told keys (sound_of _ _ keys h)) (λ told keys more h done. format_listed _ _ _ keys _ _ (c.in-Ok.ensures.cause.0 told) (c.in-Ok.ensures.made told).0 h) c.format.ensures.discloses.serves (certified_format {X = Unit {0}} {Y = FormatRefusal} _ _ _ _ _ _ _ (Ok (tt {0})) c.format.ensures.discloses.turns (λ told full. (c.format.ensures.kept told (inl full)).1) (λ told ok. c.in-Ok.ensures.cause.0 told) c.in-Ok.ensures.certifies) (fitting_formatted _ _ _ _ _ c.args.self.now.session _ _ (λ told sound. c.format.ensures.discloses.forgets told [] sound) c.format.ensures.certifies (behind_added g.P.Platform g.L.Sink.written 1 _ _ _ _ g.met.P.Platform.counts_pages (omega arith) c.format.ensures.synced))

pub returns-in-Err-NotEmpty-clause-keeps : goal.returns-in-Err-NotEmpty-clause-keeps
returns-in-Err-NotEmpty-clause-keeps g c = on_call _ _ _ _ _ c.args.self.now.session _ _ _ _ _ _ c.format.ensures.discloses.keys (λ told keys h. sound_of _ _ keys h) (λ told keys h. c.format.ensures.discloses.forgets told keys (sound_of _ _ keys h)) (λ told keys more h done. listed_keys _ _ _ keys more ((rw c.in-Err-NotEmpty.field-0-is at c.in-Err-NotEmpty.ensures.cause).1.0.image told) h) c.format.ensures.discloses.serves (certified_unput _ _ _ _ _ _ (third (λ is. absurd cc) (λ is. absurd cc) (rw c.in-Err-NotEmpty.field-0-is at c.in-Err-NotEmpty.ensures.undrawn)).1 (λ told. (rw c.in-Err-NotEmpty.field-0-is at c.in-Err-NotEmpty.ensures.cause).1.1 told)) (fitting_formatted _ _ _ _ _ c.args.self.now.session _ _ (λ told sound. c.format.ensures.discloses.forgets told [] sound) c.format.ensures.certifies (behind_added g.P.Platform g.L.Sink.written 1 _ _ _ _ g.met.P.Platform.counts_pages (omega arith) c.format.ensures.synced))

pub returns-in-Err-Full-clause-keeps : goal.returns-in-Err-Full-clause-keeps
returns-in-Err-Full-clause-keeps g c = on_call _ _ _ _ _ c.args.self.now.session _ _ _ _ _ _ c.format.ensures.discloses.keys (λ told keys h. sound_of _ _ keys h) (λ told keys h. c.format.ensures.discloses.forgets told keys (sound_of _ _ keys h)) (λ told keys more h done. listed_keys _ _ _ keys more ((rw c.in-Err-Full.field-0-is at c.in-Err-Full.ensures.cause).2.0.image told) h) c.format.ensures.discloses.serves (certified_unput _ _ _ _ _ _ (third (λ is. absurd cc) (λ is. absurd cc) (rw c.in-Err-Full.field-0-is at c.in-Err-Full.ensures.undrawn)).1 (λ told. (rw c.in-Err-Full.field-0-is at c.in-Err-Full.ensures.cause).2.1 told)) (fitting_formatted _ _ _ _ _ c.args.self.now.session _ _ (λ told sound. c.format.ensures.discloses.forgets told [] sound) c.format.ensures.certifies (behind_added g.P.Platform g.L.Sink.written 1 _ _ _ _ g.met.P.Platform.counts_pages (omega arith) c.format.ensures.synced))

pub returns-in-Err-Memory-clause-keeps : goal.returns-in-Err-Memory-clause-keeps
returns-in-Err-Memory-clause-keeps g c = on_call _ _ _ _ _ c.args.self.now.session _ _ _ _ _ _ c.format.ensures.discloses.keys (λ told keys h. sound_of _ _ keys h) (λ told keys h. c.format.ensures.discloses.forgets told keys (sound_of _ _ keys h)) (λ told keys more h done. tt) c.format.ensures.discloses.serves (certified_going _ _ _ _ _ _ _ (λ never. absurd cc) (certified_format _ _ _ _ _ _ _ c.format.result c.format.ensures.discloses.turns (λ told full. (c.format.ensures.kept told (inl full)).1) (empty_where_made g.P.Platform g.T.Tape _ _ _ _ _ _ c.format.result c.format.ensures.cause) c.format.ensures.certifies)) (fitting_formatted _ _ _ _ _ c.args.self.now.session _ _ (λ told sound. c.format.ensures.discloses.forgets told [] sound) c.format.ensures.certifies (behind_added g.P.Platform g.L.Sink.written 1 _ _ _ _ g.met.P.Platform.counts_pages (omega arith) c.format.ensures.synced))

pub returns-in-Err-TapeFault-clause-keeps : goal.returns-in-Err-TapeFault-clause-keeps
returns-in-Err-TapeFault-clause-keeps g c = on_call _ _ _ _ _ c.args.self.now.session _ _ _ _ _ _ c.format.ensures.discloses.keys (λ told keys h. sound_of _ _ keys h) (λ told keys h. c.format.ensures.discloses.forgets told keys (sound_of _ _ keys h)) (λ told keys more h done. tt) c.format.ensures.discloses.serves (certified_going _ _ _ _ _ _ _ (λ never. absurd cc) (certified_format _ _ _ _ _ _ _ c.format.result c.format.ensures.discloses.turns (λ told full. (c.format.ensures.kept told (inl full)).1) (empty_where_made g.P.Platform g.T.Tape _ _ _ _ _ _ c.format.result c.format.ensures.cause) c.format.ensures.certifies)) (fitting_formatted _ _ _ _ _ c.args.self.now.session _ _ (λ told sound. c.format.ensures.discloses.forgets told [] sound) c.format.ensures.certifies (behind_added g.P.Platform g.L.Sink.written 1 _ _ _ _ g.met.P.Platform.counts_pages (omega arith) c.format.ensures.synced))

pub returns-in-Err-LedgerFault-clause-keeps : goal.returns-in-Err-LedgerFault-clause-keeps
returns-in-Err-LedgerFault-clause-keeps g c = on_call _ _ _ _ _ c.args.self.now.session _ _ _ _ _ _ c.format.ensures.discloses.keys (λ told keys h. sound_of _ _ keys h) (λ told keys h. c.format.ensures.discloses.forgets told keys (sound_of _ _ keys h)) (λ told keys more h done. tt) c.format.ensures.discloses.serves (certified_going _ _ _ _ _ _ _ (λ never. absurd cc) (certified_format _ _ _ _ _ _ _ c.format.result c.format.ensures.discloses.turns (λ told full. (c.format.ensures.kept told (inl full)).1) (empty_where_made g.P.Platform g.T.Tape _ _ _ _ _ _ c.format.result c.format.ensures.cause) c.format.ensures.certifies)) (fitting_formatted _ _ _ _ _ c.args.self.now.session _ _ (λ told sound. c.format.ensures.discloses.forgets told [] sound) c.format.ensures.certifies (behind_added g.P.Platform g.L.Sink.written 1 _ _ _ _ g.met.P.Platform.counts_pages (omega arith) c.format.ensures.synced))

pub returns-in-Err-PlatformFault-clause-keeps : goal.returns-in-Err-PlatformFault-clause-keeps
returns-in-Err-PlatformFault-clause-keeps g c = on_call _ _ _ _ _ c.args.self.now.session _ _ _ _ _ _ c.format.ensures.discloses.keys (λ told keys h. sound_of _ _ keys h) (λ told keys h. c.format.ensures.discloses.forgets told keys (sound_of _ _ keys h)) (λ told keys more h done. tt) c.format.ensures.discloses.serves (certified_going _ _ _ _ _ _ _ (λ never. absurd cc) (certified_format _ _ _ _ _ _ _ c.format.result c.format.ensures.discloses.turns (λ told full. (c.format.ensures.kept told (inl full)).1) (empty_where_made g.P.Platform g.T.Tape _ _ _ _ _ _ c.format.result c.format.ensures.cause) c.format.ensures.certifies)) (fitting_formatted _ _ _ _ _ c.args.self.now.session _ _ (λ told sound. c.format.ensures.discloses.forgets told [] sound) c.format.ensures.certifies (behind_added g.P.Platform g.L.Sink.written 1 _ _ _ _ g.met.P.Platform.counts_pages (omega arith) c.format.ensures.synced))

pub returns-then-not-is_in_limits-clause-keeps : goal.returns-then-not-is_in_limits-clause-keeps
returns-then-not-is_in_limits-clause-keeps g c = on_look _ _ _ c.args.self.now.session _ _ _ _ c.refuse_format.ensures.image c.refuse_format.ensures.time (λ told keys kept h. on_ok c.refuse_format.result _ (listed_image _ _ _ keys (c.refuse_format.ensures.image told) h))

pub returns-then-not-is_in_limits-clause-enough : goal.returns-then-not-is_in_limits-clause-enough
returns-then-not-is_in_limits-clause-enough g c updates enough =
    enough_refused c.refuse_format.result c.args.self.now.buffer c.args.self.now.session updates c.refuse_format.ensures.either enough

pub returns-then-not-is_in_limits-clause-pages : goal.returns-then-not-is_in_limits-clause-pages
returns-then-not-is_in_limits-clause-pages g c =
    pages_refused g.P.Platform.tells (g.P.Platform.history c.args.platform.now).present c.refuse_format.result c.args.self.now.buffer c.args.blocks c.args.order (needed_of c.args.self.now.session) _ _ c.refuse_format.ensures.either c.refuse_format.ensures.pages.0

pub returns-in-Ok-clause-after : goal.returns-in-Ok-clause-after
returns-in-Ok-clause-after g c = record {
  ready = ready_later c.args.self.now.session _ _ c.format.ensures.grows.0.rises c.requires.ready;
  room = c.requires.room;
  mounted = search rules;
  reply = search rules;
  short = search rules;
  wiped = search rules;
  bad_root = search rules;
  capacity = search rules;
  rises = search rules;
  changes = search rules;
  reads = λ told. tt;
  added = search rules;
  full = search rules;
}

pub returns-then-not-is_in_limits-clause-any : goal.returns-then-not-is_in_limits-clause-any
returns-then-not-is_in_limits-clause-any g c =
    let P = g.P.Platform in
    let past : in_limits c.args.blocks c.args.order ≡ false = grind (arith, common_steps, c.is_in_limits.ensures.limits, c.if-not-is_in_limits.true) in
    refused_any P.tells (world_of P c.args.self.now.session c.args.platform.now) (world_of P c.args.self.now.session c.refuse_format.new.platform) c.args.blocks c.args.order c.refuse_format.result c.args.self.now.buffer
    c.refuse_format.ensures.either c.refuse_format.ensures.replies c.refuse_format.ensures.cause.0 past refl

pub returns-in-Ok-clause-any : goal.returns-in-Ok-clause-any
returns-in-Ok-clause-any g c = ((grind (arith, common_steps, c.is_in_limits.ensures.limits, c.if-not-is_in_limits.false), c.in-Ok.ensures.cause.0), refl)

pub returns-in-Err-NotEmpty-clause-any : goal.returns-in-Err-NotEmpty-clause-any
returns-in-Err-NotEmpty-clause-any g c = ((tt, (rw c.in-Err-NotEmpty.field-0-is at c.in-Err-NotEmpty.ensures.cause).0), refl)

pub returns-in-Err-Full-clause-any : goal.returns-in-Err-Full-clause-any
returns-in-Err-Full-clause-any g c = ((grind (arith, common_steps, c.is_in_limits.ensures.limits, c.if-not-is_in_limits.false), (rw c.in-Err-Full.field-0-is at c.in-Err-Full.ensures.cause).0), refl)

pub returns-in-Err-Memory-clause-any : goal.returns-in-Err-Memory-clause-any
returns-in-Err-Memory-clause-any g c =
    let cause = rw c.in-Err-Memory.field-0-is at c.in-Err-Memory.ensures.cause in (
      grind (arith, common_steps, c.is_in_limits.ensures.limits, c.if-not-is_in_limits.false),
      omega (arith, g.met.P.Platform.has_room c.args.platform.now, cause.1, cause.2.0.head, c.format.ensures.grows.0.capacity),
      λ told. ap (λ (image : Image). image.cell) (cause.2.0.image told) ∙ cause.0 told,
    )

-- ---- what it draws

pub returns-in-Ok-clause-drew : goal.returns-in-Ok-clause-drew
returns-in-Ok-clause-drew g c = (c.format.ensures.discloses.keys.grew, tt, c.format.ensures.discloses.keys.drew)

pub returns-in-Err-NotEmpty-clause-drew : goal.returns-in-Err-NotEmpty-clause-drew
returns-in-Err-NotEmpty-clause-drew g c = ([], refl, drew_none _ _ (rw c.in-Err-NotEmpty.field-0-is at c.in-Err-NotEmpty.ensures.cause).1.0.drawn)

pub returns-in-Err-Full-clause-drew : goal.returns-in-Err-Full-clause-drew
returns-in-Err-Full-clause-drew g c = ([], refl, drew_none _ _ (rw c.in-Err-Full.field-0-is at c.in-Err-Full.ensures.cause).2.0.drawn)

pub returns-then-not-is_in_limits-clause-drew : goal.returns-then-not-is_in_limits-clause-drew
returns-then-not-is_in_limits-clause-drew g c = refused_drew (g.T.Tape.drawn c.args.tape.now) c.args.blocks c.args.order c.refuse_format.result c.args.self.now.buffer c.refuse_format.ensures.either

-- ---- the cell is looked at once

pub returns-then-not-is_in_limits-clause-looks : goal.returns-then-not-is_in_limits-clause-looks
returns-then-not-is_in_limits-clause-looks g c told before warm look =
    (format_told c.args.blocks c.args.order before c.refuse_format.result c.args.self.now.buffer _ _ (c.refuse_format.ensures.reads told).0.by_one, λ done. warm_less c.args.self.now.session before warm)

pub returns-in-Ok-clause-looks : goal.returns-in-Ok-clause-looks
returns-in-Ok-clause-looks g c told before warm look = ((c.format.ensures.spends.0 told).0.by_one, λ done. warm_less c.args.self.now.session before warm)

pub returns-in-Err-NotEmpty-clause-looks : goal.returns-in-Err-NotEmpty-clause-looks
returns-in-Err-NotEmpty-clause-looks g c told before warm look = ((c.format.ensures.spends.0 told).0.by_one, λ done. warm_less c.args.self.now.session before warm)

pub returns-in-Err-Full-clause-looks : goal.returns-in-Err-Full-clause-looks
returns-in-Err-Full-clause-looks g c told before warm look = ((c.format.ensures.spends.0 told).0.by_one, λ done. warm_less c.args.self.now.session before warm)

pub returns-in-Err-Memory-clause-looks : goal.returns-in-Err-Memory-clause-looks
returns-in-Err-Memory-clause-looks g c told before warm look = ((c.format.ensures.spends.0 told).0.by_one, λ done. absurd cc)

pub returns-in-Err-TapeFault-clause-looks : goal.returns-in-Err-TapeFault-clause-looks
returns-in-Err-TapeFault-clause-looks g c told before warm look = ((c.format.ensures.spends.0 told).0.by_one, λ done. absurd cc)

pub returns-in-Err-LedgerFault-clause-looks : goal.returns-in-Err-LedgerFault-clause-looks
returns-in-Err-LedgerFault-clause-looks g c told before warm look = ((c.format.ensures.spends.0 told).0.by_one, λ done. absurd cc)

pub returns-in-Err-PlatformFault-clause-looks : goal.returns-in-Err-PlatformFault-clause-looks
returns-in-Err-PlatformFault-clause-looks g c told before warm look = ((c.format.ensures.spends.0 told).0.by_one, λ done. absurd cc)

pub returns-in-Err-NotEmpty-clause-after : goal.returns-in-Err-NotEmpty-clause-after
returns-in-Err-NotEmpty-clause-after g c = record {
  ready = ready_later c.args.self.now.session _ _ c.format.ensures.grows.0.rises c.requires.ready;
  room = c.requires.room;
  mounted = search rules;
  reply = search rules;
  short = search rules;
  wiped = search rules;
  bad_root = search rules;
  capacity = search rules;
  rises = search rules;
  changes = λ told. ((rw c.in-Err-NotEmpty.field-0-is at c.in-Err-NotEmpty.ensures.spends).0 told).2;
  reads = λ told. tt;
  added = search rules;
  full = search rules;
}

pub returns-in-Err-Full-clause-after : goal.returns-in-Err-Full-clause-after
returns-in-Err-Full-clause-after g c = record {
  ready = ready_later c.args.self.now.session _ _ c.format.ensures.grows.0.rises c.requires.ready;
  room = c.requires.room;
  mounted = search rules;
  reply = search rules;
  short = search rules;
  wiped = search rules;
  bad_root = search rules;
  capacity = search rules;
  rises = search rules;
  changes = λ told. ((rw c.in-Err-Full.field-0-is at c.in-Err-Full.ensures.spends).0 told).2;
  reads = λ told. tt;
  added = search rules;
  full = search rules;
}

pub returns-in-Err-Memory-clause-after : goal.returns-in-Err-Memory-clause-after
returns-in-Err-Memory-clause-after g c = record {
  ready = tt;
  room = tt;
  mounted = search rules;
  reply = search rules;
  short = search rules;
  wiped = search rules;
  bad_root = search rules;
  capacity = search rules;
  rises = search rules;
  changes = λ told. ((rw c.in-Err-Memory.field-0-is at c.in-Err-Memory.ensures.spends).0 told).2;
  reads = λ told. tt;
  added = search rules;
  full = search rules;
}

pub returns-in-Err-TapeFault-clause-after : goal.returns-in-Err-TapeFault-clause-after
returns-in-Err-TapeFault-clause-after g c = record {
  ready = tt;
  room = tt;
  mounted = search rules;
  reply = search rules;
  short = search rules;
  wiped = search rules;
  bad_root = search rules;
  capacity = search rules;
  rises = search rules;
  changes = λ told. ((rw c.in-Err-TapeFault.field-0-is at c.in-Err-TapeFault.ensures.spends).0 told).2;
  reads = λ told. tt;
  added = search rules;
  full = search rules;
}

pub returns-in-Err-LedgerFault-clause-after : goal.returns-in-Err-LedgerFault-clause-after
returns-in-Err-LedgerFault-clause-after g c = record {
  ready = tt;
  room = tt;
  mounted = search rules;
  reply = search rules;
  short = search rules;
  wiped = search rules;
  bad_root = search rules;
  capacity = search rules;
  rises = search rules;
  changes = λ told. ((rw c.in-Err-LedgerFault.field-0-is at c.in-Err-LedgerFault.ensures.spends).0 told).2;
  reads = λ told. tt;
  added = search rules;
  full = search rules;
}

pub returns-in-Err-PlatformFault-clause-after : goal.returns-in-Err-PlatformFault-clause-after
returns-in-Err-PlatformFault-clause-after g c = record {
  ready = tt;
  room = tt;
  mounted = search rules;
  reply = search rules;
  short = search rules;
  wiped = search rules;
  bad_root = search rules;
  capacity = search rules;
  rises = search rules;
  changes = λ told. ((rw c.in-Err-PlatformFault.field-0-is at c.in-Err-PlatformFault.ensures.spends).0 told).2;
  reads = λ told. tt;
  added = search rules;
  full = search rules;
}
