use Rattle.std.proofs.Common.{◌≡◌, ◌<◌, ℕ, get_or, replicate}
use Rattle.shadow_commit.specs.LetGo.{blank_entry}
use Rattle.shadow_commit.proofs.sealing.wipe_keys.Given as goal

abbrev pub invariant-loop-entry : goal.invariant-loop-entry
invariant-loop-entry l = (k : ℕ) → k < l.entry-index → (get_or l.entries k blank_entry).key ≡ replicate 32 0
