use Rattle.nbd_core.proofs.BlameLaws.{blame_broken, blame_take, blame_taken}
use Rattle.nbd_core.proofs.writing.let_go.Goals as goal

pub returns-in-Ok-true-clause-blame : goal.returns-in-Ok-true-clause-blame
returns-in-Ok-true-clause-blame g c rest = blame_taken rest _ _ _ c.in-Ok-true.ensures.cause

pub returns-in-Ok-false-clause-blame : goal.returns-in-Ok-false-clause-blame
returns-in-Ok-false-clause-blame g c rest = blame_broken rest _ _ c.in-Ok-false.ensures.cause

pub returns-in-Err-clause-blame : goal.returns-in-Err-clause-blame
returns-in-Err-clause-blame g c rest = blame_take rest _ _ c.in-Err.stop c.in-Err.ensures.fell c.in-Err.ensures.cause
