use Rattle.std.proofs.Common.{◌∙◌}
use Rattle.folder_platform.proofs.Telling.{kept_look, done_look}
use Rattle.folder_platform.proofs.Viewing.{looks_at_cell}
use Rattle.folder_platform.proofs.folder_view.FolderViewPlatform.load_root.Goals as goal

pub invariant_of-self : goal.invariant_of-self
invariant_of-self g c =
    let old = c.args.self.now in
    let e = c.look_at_cell.ensures in
    let all = kept_look _ _ _ _ c.look_at_cell.result c.look_at_cell.new.into e.start e.noted old.told in
    record { told = all.told; readable = all.readable ∙ old.readable; recorded = all.recorded ∙ old.recorded; room = old.room; looks = looks_at_cell _ _ c.look_at_cell.result c.look_at_cell.new.into e.noted ∙ old.looks; done = done_look _ _ c.look_at_cell.result c.look_at_cell.new.into e.noted ∙ old.done }

pub invariant_of-self-in_default : goal.invariant_of-self-in_default
invariant_of-self-in_default g c =
    let old = c.args.self.now in
    let e = c.look_at_cell.ensures in
    let all = kept_look _ _ _ _ c.look_at_cell.result c.look_at_cell.new.into e.start e.noted old.told in
    record { told = all.told; readable = all.readable ∙ old.readable; recorded = all.recorded ∙ old.recorded; room = old.room; looks = looks_at_cell _ _ c.look_at_cell.result c.look_at_cell.new.into e.noted ∙ old.looks; done = done_look _ _ c.look_at_cell.result c.look_at_cell.new.into e.noted ∙ old.done }
