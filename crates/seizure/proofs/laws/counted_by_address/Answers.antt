use Rattle.seizure.proofs.CountLaws.{counted}
use Rattle.seizure.proofs.laws.counted_by_address.Goals as goal

pub returns : goal.returns
returns c = counted
