use Rattle.std.proofs.Common.{◌⊎◌, IsTrue}
use Rattle.btree_update.specs.Opens.{HasWay}
use Rattle.grove_accounts.proofs.FollowingLaws as following
use Rattle.grove_accounts.proofs.following.removal_follows.Goals as goal

pub returns : goal.returns
returns c = λ pages root old new block may sound f size to turns. following.remove_follows pages root old new block (λ s. HasWay block s ⊎ IsTrue (may s)) sound f size to turns
