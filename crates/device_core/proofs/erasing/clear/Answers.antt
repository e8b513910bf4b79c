use Rattle.std.proofs.Common.{refl}
use Rattle.platform.proofs.Moments.{Steps-refl}
use Rattle.device_terms.proofs.MomentLaws.{emptied, still}
use Rattle.device_terms.proofs.ServedLaws.{serves_cleared}
use Rattle.device_core.proofs.EraseLaws.{erased, kept_erased, turns_erased, forgets_erased}
use Rattle.device_core.proofs.erasing.clear.Goals as goal

pub returns-clause-time : goal.returns-clause-time
returns-clause-time g c = λ told device stands. erased _ _ _ device (Steps-refl _) refl (c.clear_root.ensures.time told) (c.clear_root.ensures.either told) stands

pub returns-clause-turns : goal.returns-clause-turns
returns-clause-turns g c = λ told. emptied _ _ _ refl (turns_erased _ _ _ (Steps-refl _) refl (c.clear_root.ensures.time told) (c.clear_root.ensures.either told))

pub returns-clause-keeps : goal.returns-clause-keeps
returns-clause-keeps g c = λ told keys kept. kept_erased keys _ _ _ (Steps-refl _) refl (c.clear_root.ensures.time told) (c.clear_root.ensures.either told) kept

pub returns-clause-forgets : goal.returns-clause-forgets
returns-clause-forgets g c = λ told sound. forgets_erased _ _ _ (Steps-refl _) refl (c.clear_root.ensures.time told) (c.clear_root.ensures.either told) sound

pub returns-clause-serves : goal.returns-clause-serves
returns-clause-serves g c = λ told. serves_cleared _ _ _ (still _) (c.clear_root.ensures.time told) (c.clear_root.ensures.either told)
