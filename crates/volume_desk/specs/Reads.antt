-- How many pages a line reads at most.
use Rattle.std.specs.Prelude.{ℕ, ◌+◌, ◌*◌, List, [], ◌∷◌, Option, None, Some, Result, Ok, Err, if◌then◌else◌, bytes_eq}
use Rattle.session_calls.specs.declared.stops.DeviceStop.{DeviceStop}
use Rattle.volume_table.specs.declared.volume.Volume.{Volume}
use Rattle.volume_lines.specs.Lines.{Line, Create, Read, Write, Trim, Destroy, Commit}
use Rattle.volume_lines.specs.Replies.{Reply, Exists, NoRoom, Unknown, Range, Full, said}
use Rattle.volume_lines.specs.declared.replies.Reply.{Reply as Given}

-- how many blocks the volume of this name has: none where the table has no such volume
abbrev pub count_of : List Volume → List ℕ → ℕ
count_of [] name = 0
count_of (v ∷ table) name = if bytes_eq v.name name then v.count + count_of table name else count_of table name

-- a line that isn't refused reads so many pages at most, over this table: 21 for a block that it reads, one for each of 20 levels of the tree and the block's own; 40 for a block that it writes or trims, two for each
-- level; so for the table's block, which is written where a volume is made or destroyed, and for each block of that volume, which is trimmed; and none for a commit
abbrev pub reads_for : List Volume → Line → ℕ
reads_for table (Create name count) = 40 + 40 * count
reads_for table (Read name block) = 21
reads_for table (Write name block content) = 40
reads_for table (Trim name block) = 40
reads_for table (Destroy name) = 40 + 40 * count_of table name
reads_for table Commit = 0

-- the same of a line with this reply: none where that refuses it
abbrev pub reads_with : List Volume → Line → Reply → ℕ
reads_with table it Exists = 0
reads_with table it NoRoom = 0
reads_with table it Unknown = 0
reads_with table it Range = 0
reads_with table it Full = 0
reads_with table it reply = reads_for table it

-- with this answer
abbrev pub reads_in : List Volume → Line → List ℕ → Result Given DeviceStop → ℕ
reads_in table it buffer (Ok reply) = reads_with table it (said reply buffer)
reads_in table it buffer (Err stop) = reads_for table it

-- and where a volume is taken out, or a reply says why it isn't
abbrev pub reads_out : List Volume → List ℕ → Result (Option Given) DeviceStop → ℕ
reads_out table name (Ok None) = reads_for table (Destroy name)
reads_out table name (Ok (Some refusal)) = 0
reads_out table name (Err stop) = reads_for table (Destroy name)
