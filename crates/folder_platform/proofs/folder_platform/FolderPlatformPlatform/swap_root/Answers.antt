use Rattle.std.proofs.Common.{is_ok, sym, ◌∙◌, arith}
use Rattle.std.proofs.lemmas.Grind.{common_steps}
use Rattle.sdbt_base.specs.Bytes.{IsBytes}
use Rattle.sdbt_base.specs.declared.limits.TheConstants.{ROOT}
use Rattle.folder_platform.proofs.Once.{once_replaced}
use Rattle.folder_platform.proofs.Safety.{safe_replace}
use Rattle.folder_platform.proofs.Changing.{changes_replaced, changes_came, replaced_done, replaced_failed}
use Rattle.folder_platform.proofs.folder_platform.FolderPlatformPlatform.swap_root.Goals as goal

pub invariant_of-self-then-is_err : goal.invariant_of-self-then-is_err
invariant_of-self-then-is_err g c =
    let old = c.args.self.now in
    let bytes : IsBytes ROOT c.args.bytes.now = (c.requires.size, λ k d below. grind (arith, common_steps, c.type_inv.bytes k)) in
    let all = changes_replaced _ _ (old.settled c.if-self.false) old.told c.args.bytes.now c.requires.size _ _ (λ turned. bytes) c.replace.ensures.noted in
    let kept = changes_came _ _ _ _ old.told _ _ c.replace.ensures.start all in
    record { told = kept.told; readable = kept.readable ∙ old.readable; recorded = kept.recorded ∙ old.recorded; room = old.room; sound = λ no. cc; stuck = λ yes. replaced_failed c.args.bytes.now _ _ _ c.replace.ensures.noted (grind arith); settled = λ no. cc; safe = safe_replace _ _ _ _ c.replace.ensures.start (old.recorded ∙ sym old.readable) (old.settled c.if-self.false) old.safe c.args.bytes.now (is_ok c.replace.result) c.replace.ensures.noted; once = once_replaced c.args.bytes.now _ _ _ c.replace.ensures.noted old.once }

pub invariant_of-self-else-is_err : goal.invariant_of-self-else-is_err
invariant_of-self-else-is_err g c =
    let old = c.args.self.now in
    let bytes : IsBytes ROOT c.args.bytes.now = (c.requires.size, λ k d below. grind (arith, common_steps, c.type_inv.bytes k)) in
    let all = changes_replaced _ _ (old.settled c.if-self.false) old.told c.args.bytes.now c.requires.size _ _ (λ turned. bytes) c.replace.ensures.noted in
    let kept = changes_came _ _ _ _ old.told _ _ c.replace.ensures.start all in
    record { told = kept.told; readable = kept.readable ∙ old.readable; recorded = kept.recorded ∙ old.recorded; room = old.room; sound = λ calm. replaced_done c.args.bytes.now _ _ _ c.replace.ensures.noted (grind arith) (old.sound calm); stuck = λ yes. cc; settled = λ calm. kept.settled (grind arith); safe = safe_replace _ _ _ _ c.replace.ensures.start (old.recorded ∙ sym old.readable) (old.settled c.if-self.false) old.safe c.args.bytes.now (is_ok c.replace.result) c.replace.ensures.noted; once = once_replaced c.args.bytes.now _ _ _ c.replace.ensures.noted old.once }
