use Rattle.std.proofs.Common.{is_ok, sym, ◌∙◌, arith}
use Rattle.folder_platform.proofs.Once.{once_cleared}
use Rattle.folder_platform.proofs.Safety.{safe_clear}
use Rattle.folder_platform.proofs.Changing.{changes_cleared, changes_came, cleared_done, cleared_failed}
use Rattle.folder_platform.proofs.folder_platform.FolderPlatformPlatform.clear_root.Goals as goal

pub invariant_of-self-then-is_err : goal.invariant_of-self-then-is_err
invariant_of-self-then-is_err g c =
    let old = c.args.self.now in
    let all = changes_cleared _ _ (old.settled c.if-self.false) old.told _ _ c.clear.ensures.noted in
    let kept = changes_came _ _ _ _ old.told _ _ c.clear.ensures.start all in
    record { told = kept.told; readable = kept.readable ∙ old.readable; recorded = kept.recorded ∙ old.recorded; room = old.room; sound = λ no. cc; stuck = λ yes. cleared_failed _ _ _ c.clear.ensures.noted (grind arith); settled = λ no. cc; safe = safe_clear _ _ _ _ c.clear.ensures.start (old.recorded ∙ sym old.readable) (old.settled c.if-self.false) old.safe (is_ok c.clear.result) c.clear.ensures.noted; once = once_cleared _ _ _ c.clear.ensures.noted old.once }

pub invariant_of-self-else-is_err : goal.invariant_of-self-else-is_err
invariant_of-self-else-is_err g c =
    let old = c.args.self.now in
    let all = changes_cleared _ _ (old.settled c.if-self.false) old.told _ _ c.clear.ensures.noted in
    let kept = changes_came _ _ _ _ old.told _ _ c.clear.ensures.start all in
    record { told = kept.told; readable = kept.readable ∙ old.readable; recorded = kept.recorded ∙ old.recorded; room = old.room; sound = λ calm. cleared_done _ _ _ c.clear.ensures.noted (grind arith) (old.sound calm); stuck = λ yes. cc; settled = λ calm. kept.settled (grind arith); safe = safe_clear _ _ _ _ c.clear.ensures.start (old.recorded ∙ sym old.readable) (old.settled c.if-self.false) old.safe (is_ok c.clear.result) c.clear.ensures.noted; once = once_cleared _ _ _ c.clear.ensures.noted old.once }
