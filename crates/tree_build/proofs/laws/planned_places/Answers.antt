use Rattle.tree_build.proofs.PlanLaws.{planned_places as lemma}
use Rattle.tree_build.proofs.laws.planned_places.Goals as goal

pub returns : goal.returns
returns c = lemma
