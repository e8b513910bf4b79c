use Rattle.grove_accounts.proofs.FollowingLaws as following
use Rattle.grove_accounts.proofs.following.follows_later.Goals as goal

pub returns : goal.returns
returns c = λ image later root grove earlier f. following.tree_later image.readable later.readable root (following.stays_later image later earlier) grove f
