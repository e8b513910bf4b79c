use Rattle.std.proofs.Common.{None, refl}
use Rattle.device_terms.proofs.MomentLaws.{one_look, emptied, never_emptied}
use Rattle.device_terms.proofs.ServedLaws.{serves_still, serves_cleared}
use Rattle.device_terms.proofs.StandingLaws.{during_stands}
use Rattle.device_core.proofs.EraseLaws.{erased, kept_look, kept_erased, turns_erased, forgets_erased}
use Rattle.page_store.proofs.FloorLaws.{forgets_still}
use Rattle.device_core.proofs.erasing.erase.Goals as goal

pub returns-in-Ok-false-clause-time : goal.returns-in-Ok-false-clause-time
returns-in-Ok-false-clause-time g c = λ told device stands.
    during_stands _ _ device None stands (one_look _ _ (c.load_root.ensures.time told) (c.load_root.ensures.image told))

pub returns-in-Err-clause-time : goal.returns-in-Err-clause-time
returns-in-Err-clause-time g c = λ told device stands.
    during_stands _ _ device None stands (one_look _ _ (c.load_root.ensures.time told) (c.load_root.ensures.image told))

pub returns-in-Ok-clause-time : goal.returns-in-Ok-clause-time
returns-in-Ok-clause-time g c = λ told device stands.
    erased _ _ _ device (c.load_root.ensures.time told) (c.load_root.ensures.image told) (c.clear.ensures.once told).0 (c.clear.ensures.once told).1 stands

pub returns-in-Err-clear-clause-time : goal.returns-in-Err-clear-clause-time
returns-in-Err-clear-clause-time g c = λ told device stands.
    erased _ _ _ device (c.load_root.ensures.time told) (c.load_root.ensures.image told) (c.clear.ensures.once told).0 (c.clear.ensures.once told).1 stands

pub returns-in-Ok-false-clause-serves : goal.returns-in-Ok-false-clause-serves
returns-in-Ok-false-clause-serves g c = λ told. serves_still _ _ (one_look _ _ (c.load_root.ensures.time told) (c.load_root.ensures.image told))

pub returns-in-Err-clause-serves : goal.returns-in-Err-clause-serves
returns-in-Err-clause-serves g c = λ told. serves_still _ _ (one_look _ _ (c.load_root.ensures.time told) (c.load_root.ensures.image told))

pub returns-in-Ok-clause-serves : goal.returns-in-Ok-clause-serves
returns-in-Ok-clause-serves g c = λ told.
    serves_cleared _ _ _ (one_look _ _ (c.load_root.ensures.time told) (c.load_root.ensures.image told)) (c.clear.ensures.once told).0 (c.clear.ensures.once told).1

pub returns-in-Err-clear-clause-serves : goal.returns-in-Err-clear-clause-serves
returns-in-Err-clear-clause-serves g c = λ told.
    serves_cleared _ _ _ (one_look _ _ (c.load_root.ensures.time told) (c.load_root.ensures.image told)) (c.clear.ensures.once told).0 (c.clear.ensures.once told).1

pub returns-in-Ok-false-clause-keeps : goal.returns-in-Ok-false-clause-keeps
returns-in-Ok-false-clause-keeps g c = λ told keys kept. kept_look keys _ _ (c.load_root.ensures.time told) (c.load_root.ensures.image told) kept

pub returns-in-Ok-false-clause-forgets : goal.returns-in-Ok-false-clause-forgets
returns-in-Ok-false-clause-forgets g c = λ told sound. forgets_still _ _ sound (one_look _ _ (c.load_root.ensures.time told) (c.load_root.ensures.image told))

pub returns-in-Err-clause-keeps : goal.returns-in-Err-clause-keeps
returns-in-Err-clause-keeps g c = λ told keys kept. kept_look keys _ _ (c.load_root.ensures.time told) (c.load_root.ensures.image told) kept

pub returns-in-Err-clause-forgets : goal.returns-in-Err-clause-forgets
returns-in-Err-clause-forgets g c = λ told sound. forgets_still _ _ sound (one_look _ _ (c.load_root.ensures.time told) (c.load_root.ensures.image told))

pub returns-in-Ok-clause-keeps : goal.returns-in-Ok-clause-keeps
returns-in-Ok-clause-keeps g c = λ told keys kept. kept_erased keys _ _ _ (c.load_root.ensures.time told) (c.load_root.ensures.image told) (c.clear.ensures.once told).0 (c.clear.ensures.once told).1 kept

pub returns-in-Ok-clause-forgets : goal.returns-in-Ok-clause-forgets
returns-in-Ok-clause-forgets g c = λ told sound. forgets_erased _ _ _ (c.load_root.ensures.time told) (c.load_root.ensures.image told) (c.clear.ensures.once told).0 (c.clear.ensures.once told).1 sound

pub returns-in-Err-clear-clause-keeps : goal.returns-in-Err-clear-clause-keeps
returns-in-Err-clear-clause-keeps g c = λ told keys kept. kept_erased keys _ _ _ (c.load_root.ensures.time told) (c.load_root.ensures.image told) (c.clear.ensures.once told).0 (c.clear.ensures.once told).1 kept

pub returns-in-Err-clear-clause-forgets : goal.returns-in-Err-clear-clause-forgets
returns-in-Err-clear-clause-forgets g c = λ told sound. forgets_erased _ _ _ (c.load_root.ensures.time told) (c.load_root.ensures.image told) (c.clear.ensures.once told).0 (c.clear.ensures.once told).1 sound

pub returns-in-Ok-clause-turns : goal.returns-in-Ok-clause-turns
returns-in-Ok-clause-turns g c = λ told. emptied _ _ _ refl (turns_erased _ _ _ (c.load_root.ensures.time told) (c.load_root.ensures.image told) (c.clear.ensures.once told).0 (c.clear.ensures.once told).1)

pub returns-in-Err-clear-clause-turns : goal.returns-in-Err-clear-clause-turns
returns-in-Err-clear-clause-turns g c = λ told. emptied _ _ _ refl (turns_erased _ _ _ (c.load_root.ensures.time told) (c.load_root.ensures.image told) (c.clear.ensures.once told).0 (c.clear.ensures.once told).1)

pub returns-in-Ok-false-clause-turns : goal.returns-in-Ok-false-clause-turns
returns-in-Ok-false-clause-turns g c = λ told. never_emptied _ _ (one_look _ _ (c.load_root.ensures.time told) (c.load_root.ensures.image told))

pub returns-in-Err-clause-turns : goal.returns-in-Err-clause-turns
returns-in-Err-clause-turns g c = λ told. never_emptied _ _ (one_look _ _ (c.load_root.ensures.time told) (c.load_root.ensures.image told))
