use Rattle.volume_terms.proofs.DestroyedLaws.{leaves_nothing, stays_free}
use Rattle.volume_terms.proofs.laws.destroyed_blocks_are_free.Goals as goal

pub returns-clause-destroyed : goal.returns-clause-destroyed
returns-clause-destroyed c = leaves_nothing

pub returns-clause-free : goal.returns-clause-free
returns-clause-free c = stays_free
