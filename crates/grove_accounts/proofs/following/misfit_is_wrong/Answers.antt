use Rattle.grove_accounts.proofs.FollowLaws as follow
use Rattle.grove_accounts.proofs.following.misfit_is_wrong.Goals as goal

pub returns-clause-update : goal.returns-clause-update
returns-clause-update c = λ pages root grove block addr sound f h. follow.update_wrong pages root grove block addr sound f h

pub returns-clause-look_up : goal.returns-clause-look_up
returns-clause-look_up c = λ pages root grove block addr sound f h. follow.look_up_wrong pages root grove block addr sound f h

pub returns-clause-record : goal.returns-clause-record
returns-clause-record c = λ pages root grove block entry sound f h nothing. follow.record_wrong pages root grove block entry sound f h nothing
