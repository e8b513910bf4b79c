use Rattle.btree_update.specs.Opens.{HasWay}
use Rattle.grove_accounts.proofs.HoldingLaws as holds
use Rattle.grove_accounts.proofs.OwnLaws as own
use Rattle.grove_accounts.proofs.laws.insertion_holds.Goals as goal

pub returns-clause-holds : goal.returns-clause-holds
returns-clause-holds c = λ image later root committed old new each block addr key content h size to more turns arrives.
    holds.insert_holds image later root committed old new each block addr key content (HasWay block) h size to more turns arrives

pub returns-clause-own : goal.returns-clause-own
returns-clause-own c = λ image root committed old new each block addr key h turns s is has. own.insertion_own image root committed old new each block addr key (HasWay block) h turns s is has

pub returns-clause-written : goal.returns-clause-written
returns-clause-written c = λ image root committed old new each block addr key pages h late turns w. own.insertion_written image root committed old new each block addr key (HasWay block) pages h late turns w
