use Rattle.std.proofs.Common.{◌≡◌, ℕ, Some, Ok, Err, refl, sym, subst, ap}
use Rattle.platform.specs.Image.{Image}
use Rattle.platform.specs.History.{History, Steps, CellStays, moment}
use Rattle.platform.proofs.Moments.{During-step}
use Rattle.device_terms.specs.Served.{IsServedCell}
use Rattle.page_store.specs.Roots.{IsRootWithin}
use Rattle.root_codec.specs.declared.root.Root.{Root}
use Rattle.root_codec.specs.RootRecord.{root_bytes}
use Rattle.seizure.specs.Opened.{count_of_kind, count_of_nodes}
use Rattle.script_lang.specs.Replies.{said}
use Rattle.script_lang.specs.declared.replies.Reply.{Reply as Given}
use Rattle.device_cli.specs.Seen.{Saw}
use Rattle.script_lang.specs.Commands as commands
use Rattle.device_cli.specs.World.{World, world_of}
use Rattle.session_calls.specs.declared.stops.DeviceStop.TheVariants as device
use Rattle.device_cli.proofs.ServedLaws.{halts_still}
use Rattle.device_cli.proofs.ServingLaws.{serves_seized}
use Rattle.device_cli.proofs.SeizingLaws.{counted_of, saw_seized}
use Rattle.device_cli.proofs.SeizeWordLaws.{not_bad, root_begun}
use Rattle.device_course.proofs.KeysLaws.{on_look, listed_image}
use Rattle.device_cli.specs.Causes.{LeavesHeld, MayReply}
use Rattle.device_cli.specs.Replied.{Serves}
use Rattle.device_cli.specs.World.{AreEnough}
use Rattle.device_cli.specs.Pages.{updates_after}
use Rattle.device_cli.proofs.desk.Desk.seize.Goals as goal

-- the cell stays where the image does
stays : (old new : History) → Steps old new → new.present ≡ old.present → CellStays old new
stays old new steps same = During-step old new (λ (i : Image). i.cell ≡ old.present.cell) steps refl (ap (λ (i : Image). i.cell) same)

pub returns-in-Ok-clause-answered : goal.returns-in-Ok-clause-answered
returns-in-Ok-clause-answered g c told entry rep =
    let P = g.P.Platform in
    let old : World = world_of P c.args.self.now.session c.args.platform.now in
    let new : World = world_of P c.args.self.now.session c.seize.new.platform in
    let image = c.seize.ensures.looks.image told in
    subst (λ (r : Given). Serves old new entry commands.Seize (Ok (said r c.args.self.now.buffer))) (sym c.reply_with_counts.ensures)
    (serves_seized old new entry c.in-Ok.report.pages (count_of_nodes c.in-Ok.report.opened) (count_of_kind 1 c.in-Ok.report.opened) refl image (stays old.history new.history (c.seize.ensures.looks.time told) image) rep)

pub returns-in-Err-PlatformFault-clause-answered : goal.returns-in-Err-PlatformFault-clause-answered
returns-in-Err-PlatformFault-clause-answered g c told entry rep =
    let P = g.P.Platform in
    let old : World = world_of P c.args.self.now.session c.args.platform.now in
    let new : World = world_of P c.args.self.now.session c.seize.new.platform in
    halts_still old new entry commands.Seize device.Platform tt rep
    (stays old.history new.history (c.seize.ensures.looks.time told) (c.seize.ensures.looks.image told))

pub returns-in-Err-Memory-clause-answered : goal.returns-in-Err-Memory-clause-answered
returns-in-Err-Memory-clause-answered g c told entry rep =
    let P = g.P.Platform in
    let old : World = world_of P c.args.self.now.session c.args.platform.now in
    let new : World = world_of P c.args.self.now.session c.seize.new.platform in
    halts_still old new entry commands.Seize device.Memory tt rep
    (stays old.history new.history (c.seize.ensures.looks.time told) (c.seize.ensures.looks.image told))

pub returns-in-Err-BadRoot-clause-answered : goal.returns-in-Err-BadRoot-clause-answered
returns-in-Err-BadRoot-clause-answered g c told entry rep =
    let P = g.P.Platform in
    let old : World = world_of P c.args.self.now.session c.args.platform.now in
    let new : World = world_of P c.args.self.now.session c.seize.new.platform in
    let image = old.history.present in
    absurd {A = Serves old new entry commands.Seize (Err device.BadRoot)}
    (not_bad image.cell old.head (subst (λ (n : ℕ). IsServedCell image.cell n) (g.met.P.Platform.counts_pages told c.args.platform.now) (c.requires.cell told)) ((rw c.in-Err-BadRoot.field-0-is at c.in-Err-BadRoot.ensures.bad) told refl))

pub returns-in-Ok-clause-seen : goal.returns-in-Ok-clause-seen
returns-in-Ok-clause-seen g c told entry rep =
    let P = g.P.Platform in
    let old : World = world_of P c.args.self.now.session c.args.platform.now in
    let new : World = world_of P c.args.self.now.session c.seize.new.platform in
    let image = old.history.present in
    let report = c.in-Ok.ensures.report told in
    subst (λ (r : Given). Saw new.history (moment old.history) entry.device old.head (said r c.args.self.now.buffer)) (sym c.reply_with_counts.ensures)
    (saw_seized old new entry c.in-Ok.report.pages (count_of_nodes c.in-Ok.report.opened) (count_of_kind 1 c.in-Ok.report.opened) rep (c.seize.ensures.looks.time told) (c.seize.ensures.looks.image told)
    (counted_of image (P.head c.args.platform.now) c.in-Ok.report (g.met.P.Platform.counts_pages told c.args.platform.now) report)
    c.in-Ok.ensures.pages)

pub returns-in-Ok-clause-keeps : goal.returns-in-Ok-clause-keeps
returns-in-Ok-clause-keeps g c = λ drawn written. on_look _ drawn written c.args.self.now.session _ _ _ _ c.seize.ensures.looks.image (λ told. stays _ _ (c.seize.ensures.looks.time told) (c.seize.ensures.looks.image told)) (λ told keys kept h. listed_image _ _ _ keys (c.seize.ensures.looks.image told) h)

pub returns-in-Err-BadRoot-clause-keeps : goal.returns-in-Err-BadRoot-clause-keeps
returns-in-Err-BadRoot-clause-keeps g c = λ drawn written. on_look _ drawn written c.args.self.now.session _ _ _ _ c.seize.ensures.looks.image (λ told. stays _ _ (c.seize.ensures.looks.time told) (c.seize.ensures.looks.image told)) (λ told keys kept h. tt)

pub returns-in-Err-PlatformFault-clause-keeps : goal.returns-in-Err-PlatformFault-clause-keeps
returns-in-Err-PlatformFault-clause-keeps g c = λ drawn written. on_look _ drawn written c.args.self.now.session _ _ _ _ c.seize.ensures.looks.image (λ told. stays _ _ (c.seize.ensures.looks.time told) (c.seize.ensures.looks.image told)) (λ told keys kept h. tt)

pub returns-in-Err-Memory-clause-keeps : goal.returns-in-Err-Memory-clause-keeps
returns-in-Err-Memory-clause-keeps g c = λ drawn written. on_look _ drawn written c.args.self.now.session _ _ _ _ c.seize.ensures.looks.image (λ told. stays _ _ (c.seize.ensures.looks.time told) (c.seize.ensures.looks.image told)) (λ told keys kept h. tt)

pub returns-in-Ok-clause-enough : goal.returns-in-Ok-clause-enough
returns-in-Ok-clause-enough g c updates enough =
    subst (λ (r : Given). AreEnough c.args.self.now.session (updates_after (said r c.args.self.now.buffer) updates)) (sym c.reply_with_counts.ensures) enough

pub returns-in-Ok-clause-any : goal.returns-in-Ok-clause-any
returns-in-Ok-clause-any g c =
    let P = g.P.Platform in
    subst (λ (r : Given). MayReply P.tells (P.history c.args.platform.now).present (P.history c.seize.new.platform).present c.args.self.now.session c.args.self.now.session commands.Seize (said r c.args.self.now.buffer) × LeavesHeld c.args.self.now.session c.args.self.now.session (said r c.args.self.now.buffer)) (sym c.reply_with_counts.ensures)
    ((tt, λ told. counted_of (P.history c.args.platform.now).present (P.head c.args.platform.now) c.in-Ok.report (g.met.P.Platform.counts_pages told c.args.platform.now) (c.in-Ok.ensures.report told)), refl)

-- the cell has the root record of a root within the pages
abbrev HasRoot : ℕ → Image → Type 0
HasRoot head image = (root : Root) × IsRootWithin head root × (image.cell ≡ Some (root_bytes root))

pub returns-in-Err-Memory-clause-any : goal.returns-in-Err-Memory-clause-any
returns-in-Err-Memory-clause-any g c told =
    let P = g.P.Platform in
    let before = (P.history c.args.platform.now).present in
    let head = P.head c.args.platform.now in
    let begun : HasRoot head before = root_begun head before.cell ((rw c.in-Err-Memory.field-0-is at c.in-Err-Memory.ensures.memory) told refl) in
    let at_image = subst (HasRoot head) (sym (c.seize.ensures.looks.image told)) begun in
    subst (λ (n : ℕ). HasRoot n (P.history c.seize.new.platform).present) (sym c.seize.ensures.looks.head) at_image
