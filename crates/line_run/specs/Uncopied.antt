-- What is kept of a line that came whole.
use Rattle.std.specs.Prelude.{◌≡◌, ◌≤◌, ℕ, [], Option, List, length}
use Rattle.line_run.specs.Pending.{IsPending}

-- where nothing of a line had come before its end, which isn't longer than a line of a grammar, nothing is kept of it
abbrev pub IsUncopied : List ℕ → Option (List ℕ) → Option (List ℕ) → Type 0
IsUncopied end before now = IsPending before [] → length end ≤ 8300 → now ≡ before
