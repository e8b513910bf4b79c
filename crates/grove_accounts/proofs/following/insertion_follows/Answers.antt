use Rattle.btree_update.specs.Opens.{HasWay}
use Rattle.grove_accounts.proofs.FollowingLaws as following
use Rattle.grove_accounts.proofs.following.insertion_follows.Goals as goal

pub returns : goal.returns
returns c = λ image later root old new block addr key content sound f size to more turns earlier there.
    following.insert_follows image.readable later.readable root old new block addr key content (HasWay block) (following.stays_later image later earlier) sound f size to more turns there
