use Rattle.std.proofs.Common.{is_ok, refl, sym, ◌∙◌, arith}
use Rattle.folder_platform.specs.Events.{media_synced}
use Rattle.folder_platform.proofs.Once.{once_event}
use Rattle.folder_platform.proofs.Safety.{safe_sync}
use Rattle.folder_platform.proofs.Telling.{kept_sync, synced_done, failed_event, believed_now}
use Rattle.folder_platform.proofs.folder_platform.FolderPlatformPlatform.sync.Goals as goal

pub invariant_of-self-then-is_err : goal.invariant_of-self-then-is_err
invariant_of-self-then-is_err g c =
    let old = c.args.self.now in
    let e = c.sync_pages.ensures in
    let all = kept_sync _ _ _ _ (is_ok c.sync_pages.result) e.start e.noted (believed_now (g.C.PageCalls.start old.calls) (g.C.PageCalls.events old.calls) (old.sound c.if-self.false)) (old.settled c.if-self.false).named old.told in
    record { told = all.told; readable = all.readable ∙ old.readable; recorded = all.recorded ∙ old.recorded; room = old.room; sound = λ no. cc; stuck = λ yes. failed_event _ _ _ e.noted refl (grind arith); settled = λ no. cc; safe = safe_sync _ _ _ _ e.start (old.recorded ∙ sym old.readable) (old.settled c.if-self.false) old.safe (is_ok c.sync_pages.result) e.noted; once = once_event _ _ (media_synced (is_ok c.sync_pages.result)) refl e.noted old.once }

pub invariant_of-self-else-is_err : goal.invariant_of-self-else-is_err
invariant_of-self-else-is_err g c =
    let old = c.args.self.now in
    let e = c.sync_pages.ensures in
    let all = kept_sync _ _ _ _ (is_ok c.sync_pages.result) e.start e.noted (believed_now (g.C.PageCalls.start old.calls) (g.C.PageCalls.events old.calls) (old.sound c.if-self.false)) (old.settled c.if-self.false).named old.told in
    record { told = all.told; readable = all.readable ∙ old.readable; recorded = all.recorded ∙ old.recorded; room = old.room; sound = λ calm. synced_done _ _ _ e.noted (grind arith) (old.sound calm); stuck = λ yes. cc; settled = λ calm. all.settled (old.settled calm); safe = safe_sync _ _ _ _ e.start (old.recorded ∙ sym old.readable) (old.settled c.if-self.false) old.safe (is_ok c.sync_pages.result) e.noted; once = once_event _ _ (media_synced (is_ok c.sync_pages.result)) refl e.noted old.once }
