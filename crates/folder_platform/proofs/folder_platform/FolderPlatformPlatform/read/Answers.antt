use Rattle.std.proofs.Common.{is_ok, refl, sym, ◌∙◌}
use Rattle.folder_platform.specs.Events.{page_read}
use Rattle.folder_platform.proofs.Once.{once_event}
use Rattle.folder_platform.proofs.Safety.{safe_read}
use Rattle.folder_platform.proofs.Telling.{kept_read, done_read}
use Rattle.folder_platform.proofs.folder_platform.FolderPlatformPlatform.read.Goals as goal

pub invariant_of-self-then-is_err : goal.invariant_of-self-then-is_err
invariant_of-self-then-is_err g c =
    let old = c.args.self.now in
    let e = c.read_page.ensures in
    let ok = is_ok c.read_page.result in
    let into = c.read_page.new.into in
    let all = kept_read _ _ _ _ c.args.addr ok into e.start e.noted old.told in
    record { told = all.told; readable = all.readable ∙ old.readable; recorded = all.recorded ∙ old.recorded; room = old.room; sound = λ calm. done_read _ _ c.args.addr ok into e.noted ∙ old.sound calm; stuck = λ yes. cc; settled = λ calm. all.settled (old.settled calm); safe = safe_read _ _ _ _ e.start (old.recorded ∙ sym old.readable) (old.settled c.if-self.false) old.safe c.args.addr ok into e.noted; once = once_event _ _ (page_read c.args.addr ok into) refl e.noted old.once }

pub invariant_of-self-else-is_err : goal.invariant_of-self-else-is_err
invariant_of-self-else-is_err g c =
    let old = c.args.self.now in
    let e = c.read_page.ensures in
    let ok = is_ok c.read_page.result in
    let into = c.read_page.new.into in
    let all = kept_read _ _ _ _ c.args.addr ok into e.start e.noted old.told in
    record { told = all.told; readable = all.readable ∙ old.readable; recorded = all.recorded ∙ old.recorded; room = old.room; sound = λ calm. done_read _ _ c.args.addr ok into e.noted ∙ old.sound calm; stuck = λ yes. cc; settled = λ calm. all.settled (old.settled calm); safe = safe_read _ _ _ _ e.start (old.recorded ∙ sym old.readable) (old.settled c.if-self.false) old.safe c.args.addr ok into e.noted; once = once_event _ _ (page_read c.args.addr ok into) refl e.noted old.once }
