use Rattle.std.proofs.Common.{is_ok, ◌∙◌}
use Rattle.folder_platform.proofs.Telling.{kept_read, done_read}
use Rattle.folder_platform.proofs.Viewing.{looks_at_page}
use Rattle.folder_platform.proofs.folder_view.FolderViewPlatform.read.Goals as goal

pub invariant_of-self-else-is_err : goal.invariant_of-self-else-is_err
invariant_of-self-else-is_err g c =
    let old = c.args.self.now in
    let e = c.look_at_page.ensures in
    let ok = is_ok c.look_at_page.result in
    let into = c.look_at_page.new.into in
    let all = kept_read _ _ _ _ c.args.addr ok into e.start e.noted old.told in
    record { told = all.told; readable = all.readable ∙ old.readable; recorded = all.recorded ∙ old.recorded; room = old.room; looks = looks_at_page _ _ c.args.addr ok into e.noted ∙ old.looks; done = done_read _ _ c.args.addr ok into e.noted ∙ old.done }

pub invariant_of-self : goal.invariant_of-self
invariant_of-self g c =
    let old = c.args.self.now in
    let e = c.look_at_page.ensures in
    let ok = is_ok c.look_at_page.result in
    let into = c.look_at_page.new.into in
    let all = kept_read _ _ _ _ c.args.addr ok into e.start e.noted old.told in
    record { told = all.told; readable = all.readable ∙ old.readable; recorded = all.recorded ∙ old.recorded; room = old.room; looks = looks_at_page _ _ c.args.addr ok into e.noted ∙ old.looks; done = done_read _ _ c.args.addr ok into e.noted ∙ old.done }
