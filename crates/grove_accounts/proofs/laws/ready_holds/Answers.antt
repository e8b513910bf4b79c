use Rattle.grove_accounts.proofs.HoldingLaws as holds
use Rattle.grove_accounts.proofs.laws.ready_holds.Goals as goal

pub returns : goal.returns
returns c = λ image root committed old new each keeps sound h. holds.holds_ready image root committed old new each keeps sound h
