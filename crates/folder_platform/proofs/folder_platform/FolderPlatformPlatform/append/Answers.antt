use Rattle.std.proofs.Common.{is_ok, refl, sym, ◌∙◌, arith}
use Rattle.std.proofs.lemmas.Grind.{common_steps}
use Rattle.sdbt_base.specs.Bytes.{IsBytes}
use Rattle.sdbt_base.specs.declared.limits.TheConstants.{RECORD}
use Rattle.folder_platform.specs.Events.{page_written}
use Rattle.folder_platform.proofs.Once.{once_event}
use Rattle.folder_platform.proofs.Safety.{safe_write}
use Rattle.folder_platform.proofs.Telling.{grown, written_done, failed_event}
use Rattle.folder_platform.proofs.folder_platform.FolderPlatformPlatform.append.Goals as goal

pub invariant_of-self-then-is_err : goal.invariant_of-self-then-is_err
invariant_of-self-then-is_err g c =
    let old = c.args.self.now in
    let e = c.write_page-outcome.ensures in
    let bytes : IsBytes RECORD c.args.page.now = (c.requires.size, λ k d below. grind (arith, common_steps, c.type_inv.page k)) in
    let all = grown _ _ _ _ old.head (is_ok c.write_page-outcome.result) c.args.page.now e.start e.noted old.told old.readable old.recorded bytes in
    record { told = all.told; readable = all.readable; recorded = all.recorded; room = omega arith; sound = λ no. cc; stuck = λ yes. failed_event _ _ _ e.noted refl (grind arith); settled = λ no. cc; safe = safe_write _ _ _ _ e.start (old.recorded ∙ sym old.readable) (old.settled c.if-self.false) old.safe old.head (is_ok c.write_page-outcome.result) c.args.page.now e.noted (all.recorded ∙ sym all.readable); once = once_event _ _ (page_written old.head (is_ok c.write_page-outcome.result) c.args.page.now) refl e.noted old.once }

pub invariant_of-self-else-is_err : goal.invariant_of-self-else-is_err
invariant_of-self-else-is_err g c =
    let old = c.args.self.now in
    let e = c.write_page-outcome.ensures in
    let bytes : IsBytes RECORD c.args.page.now = (c.requires.size, λ k d below. grind (arith, common_steps, c.type_inv.page k)) in
    let all = grown _ _ _ _ old.head (is_ok c.write_page-outcome.result) c.args.page.now e.start e.noted old.told old.readable old.recorded bytes in
    record { told = all.told; readable = all.readable; recorded = all.recorded; room = omega arith; sound = λ calm. written_done _ _ old.head (is_ok c.write_page-outcome.result) c.args.page.now e.noted (grind arith) (old.sound calm); stuck = λ yes. cc; settled = λ calm. all.settled (old.settled calm); safe = safe_write _ _ _ _ e.start (old.recorded ∙ sym old.readable) (old.settled c.if-self.false) old.safe old.head (is_ok c.write_page-outcome.result) c.args.page.now e.noted (all.recorded ∙ sym all.readable); once = once_event _ _ (page_written old.head (is_ok c.write_page-outcome.result) c.args.page.now) refl e.noted old.once }
