use Rattle.grove_accounts.proofs.HoldingLaws as holds
use Rattle.grove_accounts.proofs.laws.holds_later.Goals as goal

pub returns : goal.returns
returns c = λ image later root committed grove each earlier h. holds.holds_later image later root committed grove each earlier h
