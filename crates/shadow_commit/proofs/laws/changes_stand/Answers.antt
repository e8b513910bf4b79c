use Rattle.shadow_commit.proofs.CommitLaws as commits
use Rattle.shadow_commit.proofs.laws.changes_stand.Goals as goal

pub returns : goal.returns
returns c = λ image root committed grove each h top. commits.stands_changed image root committed grove each h top
