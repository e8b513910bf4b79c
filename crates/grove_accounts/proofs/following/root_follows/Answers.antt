use Rattle.grove_accounts.proofs.FollowLaws as follow
use Rattle.grove_accounts.proofs.following.root_follows.Goals as goal

pub returns : goal.returns
returns c = λ pages root grove of. follow.root_follows pages root grove of
