use Rattle.std.proofs.Common.{◌⊎◌, IsTrue}
use Rattle.btree_update.specs.Opens.{HasWay}
use Rattle.grove_accounts.proofs.HoldingLaws as holds
use Rattle.grove_accounts.proofs.OwnLaws as own
use Rattle.grove_accounts.proofs.laws.removal_holds.Goals as goal

pub returns-clause-holds : goal.returns-clause-holds
returns-clause-holds c = λ image root committed old new each block may h size to turns.
    holds.remove_holds image root committed old new each block (λ s. HasWay block s ⊎ IsTrue (may s)) h size to turns

pub returns-clause-own : goal.returns-clause-own
returns-clause-own c = λ image root committed old new each block may h turns s is has. own.removal_own image root committed old new each block (λ s. HasWay block s ⊎ IsTrue (may s)) h turns s is has

pub returns-clause-written : goal.returns-clause-written
returns-clause-written c = λ image root committed old new each block may pages h turns w. own.removal_written image root committed old new each block (λ s. HasWay block s ⊎ IsTrue (may s)) pages h turns w
