use Rattle.page_store.proofs.StandsLaws.{stands_later, stands_leaves}
use Rattle.page_store.proofs.laws.outlasts_loss_of_power.Goals as goal

pub returns : goal.returns
returns c = λ image later device earlier cell stands. stands_leaves later device (stands_later image later device earlier cell stands)
