-- How often a line syncs all pages, or replaces the root record, at most.
use Rattle.std.specs.Prelude.{ℕ, List, Result, Ok, Err}
use Rattle.session_calls.specs.declared.stops.DeviceStop.{DeviceStop}
use Rattle.volume_lines.specs.Lines.{Line, Destroy, Commit}
use Rattle.volume_lines.specs.Replies.{Reply, Destroyed, Committed, said}
use Rattle.volume_lines.specs.declared.replies.Reply.{Reply as Given}

-- twice for a line that commits, once each, and never for another
abbrev pub changes_for : Line → ℕ
changes_for (Destroy name) = 2
changes_for Commit = 2
changes_for _ = 0

-- the same of a line with this reply: never where that doesn't say that it committed
abbrev pub changes_with : Line → Reply → ℕ
changes_with (Destroy name) (Destroyed number) = 2
changes_with Commit (Committed number) = 2
changes_with _ _ = 0

-- with this answer
abbrev pub changes_in : Line → List ℕ → Result Given DeviceStop → ℕ
changes_in it buffer (Ok reply) = changes_with it (said reply buffer)
changes_in it buffer (Err stop) = changes_for it
