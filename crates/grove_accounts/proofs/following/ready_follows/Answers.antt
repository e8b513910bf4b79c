use Rattle.grove_accounts.proofs.FollowLaws as follow
use Rattle.grove_accounts.proofs.following.ready_follows.Goals as goal

pub returns : goal.returns
returns c = λ pages root old new keeps f. follow.ready_follows pages root old new keeps f
