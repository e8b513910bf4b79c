use Rattle.std.proofs.Common.{◌∙◌, sym}
use Rattle.folder_platform.proofs.Once.{once_look}
use Rattle.folder_platform.proofs.Safety.{safe_look}
use Rattle.folder_platform.proofs.Telling.{kept_look, done_look}
use Rattle.folder_platform.proofs.folder_platform.FolderPlatformPlatform.load_root.Goals as goal

pub invariant_of-self-in-Ok-1 : goal.invariant_of-self-in-Ok-1
invariant_of-self-in-Ok-1 g c =
    let old = c.args.self.now in
    let e = c.load.ensures in
    let all = kept_look _ _ _ _ c.load.result c.load.new.into e.start e.noted old.told in
    record { told = all.told; readable = all.readable ∙ old.readable; recorded = all.recorded ∙ old.recorded; room = old.room; sound = λ calm. done_look _ _ c.load.result c.load.new.into e.noted ∙ old.sound calm; stuck = λ yes. cc; settled = λ calm. all.settled (old.settled calm); safe = safe_look _ _ _ _ e.start (old.recorded ∙ sym old.readable) (old.settled c.if-self.false) old.safe c.load.result c.load.new.into e.noted; once = once_look _ _ c.load.result c.load.new.into e.noted old.once }

pub invariant_of-self-in_default : goal.invariant_of-self-in_default
invariant_of-self-in_default g c =
    let old = c.args.self.now in
    let e = c.load.ensures in
    let all = kept_look _ _ _ _ c.load.result c.load.new.into e.start e.noted old.told in
    record { told = all.told; readable = all.readable ∙ old.readable; recorded = all.recorded ∙ old.recorded; room = old.room; sound = λ calm. done_look _ _ c.load.result c.load.new.into e.noted ∙ old.sound calm; stuck = λ yes. cc; settled = λ calm. all.settled (old.settled calm); safe = safe_look _ _ _ _ e.start (old.recorded ∙ sym old.readable) (old.settled c.if-self.false) old.safe c.load.result c.load.new.into e.noted; once = once_look _ _ c.load.result c.load.new.into e.noted old.once }
