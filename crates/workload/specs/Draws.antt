-- Numbers that follow from a seed: the linear congruential generator of Knuth's MMIX.
use Rattle.std.specs.Prelude.{ℕ, ◌+◌, ◌*◌, ◌/◌, ◌%◌, ◌^◌}

-- the state that follows a state
unfoldable pub next_state : ℕ → ℕ
next_state x = (x * 6364136223846793005 + 1442695040888963407) % 2 ^ 64

-- what is drawn as the generator comes to a state: its upper 31 bits
unfoldable pub draw_at : ℕ → ℕ
draw_at x = x / 2 ^ 33
