use Rattle.std.proofs.Common.{ℕ, ◌+◌, ◌*◌, ◌%◌, ◌^◌, refl, ap, ◌∙◌}
use Rattle.std.proofs.Math.Nat.{mod-add-mod}
use Rattle.workload.specs.Draws.{next_state, draw_at}
use Rattle.workload.proofs.draws.Draws.draw.Goals as goal

pub returns-clause-state : goal.returns-clause-state
unfolding next_state
returns-clause-state c =
    mod-add-mod (c.self.inside.state * 6364136223846793005) (2 ^ 64) 1442695040888963407
    ∙ ap (λ (x : ℕ). (x * 6364136223846793005 + 1442695040888963407) % 2 ^ 64) c.self.view_is

pub returns-clause-value : goal.returns-clause-value
unfolding draw_at
returns-clause-value c = refl
