use Rattle.grove_accounts.proofs.HoldingLaws as holds
use Rattle.grove_accounts.proofs.laws.root_holds.Goals as goal

pub returns : goal.returns
returns c = λ image device root parts grove stands whole of. holds.holds_start image device root parts grove stands whole of
