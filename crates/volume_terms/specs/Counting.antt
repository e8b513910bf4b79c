-- How many pages lines need, and that enough are free.
use Rattle.std.specs.Prelude.{◌≢◌, ◌+◌, ◌*◌, ◌≤◌, ℕ}
use Rattle.device_course.specs.Held.{Held}
use Rattle.volume_lines.specs.Replies.{Reply, Full, Uncommitted}

-- what a line needs at most: a page for each update, and 41 with its commit; it updates the table and each block of a volume at most
abbrev pub needed_for_line : ℕ → ℕ
needed_for_line blocks = 42 * (blocks + 1)

-- the pages that there are, and those that a commit of all updates needs at most
abbrev pub pages_ahead : Held → ℕ
pages_ahead held = held.pages + 41 * held.updates

-- so many are free for each of some lines
abbrev pub IsRoomy : ℕ → Held → ℕ → Type 0
IsRoomy capacity held lines = pages_ahead held + needed_for_line held.device.blocks * lines ≤ capacity

-- the reply doesn't say that too few pages are free
abbrev pub IsNotShort : Reply → Type 0
IsNotShort reply = (reply ≢ Full) × (reply ≢ Uncommitted)
