use Rattle.shadow_commit.proofs.CommitLaws as commits
use Rattle.shadow_commit.proofs.laws.commit_differs.Goals as goal

pub returns : goal.returns
returns c = λ image root committed grove each nodes parts pages h more from are apart written. commits.commit_differs image root committed grove each nodes parts pages h more from are apart written
