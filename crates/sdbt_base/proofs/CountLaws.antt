-- Laws on the counts of faults of all that a call is handed. Crates above cite them.
use Rattle.std.proofs.Common.{◌≡◌, ℕ, ◌∙◌, ap}
use Rattle.sdbt_base.specs.Counts.{Counts}

-- where no other count but the platform's may have changed, and that one is as it was, all are
pub quiet_platform : (before now : Counts) → now ≡ record before { platform = now.platform } → now.platform ≡ before.platform → now ≡ before
quiet_platform before now alone same = alone ∙ ap (λ (n : ℕ). record before { platform = n }) same
