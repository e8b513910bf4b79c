-- Which reply belongs to a line, and to what device and array it leads.
use Rattle.std.specs.Prelude.{◌≡◌, ◌≢◌, ◌+◌, ◌-◌, ◌<◌, ◌≤◌, ◌⊎◌, ℕ, List}
use Rattle.sdbt_base.specs.Arrays.{content_of, written, unmapped}
use Rattle.script_lang.specs.Arrays.{trimmed}
use Rattle.device_course.specs.Held.{Held, Needs, after_commit}
use Rattle.volume_table.specs.Tables.{Lacks}
use Rattle.volume_table.specs.declared.volume.Volume.{Volume}
use Rattle.volume_lines.specs.Lines.{Line, Create, Read, Write, Trim, Destroy, Commit}
use Rattle.volume_lines.specs.Grammar.{Spells, IsBad}
use Rattle.volume_lines.specs.Replies.{Reply, Created, Exists, NoRoom, Unknown, Content, Done, Range, Full, Destroyed, Uncommitted, Committed, Bad}
use Rattle.volume_terms.specs.Volumes.{IsTabled, IsNamed, IsTaken, IsCount, HasNoRoom, IsNew, changed}

-- a create: the name is there; the number of blocks is out of range; there is no room in the table; the medium is full; or the table with the new volume is written, and all its blocks
-- are trimmed
abbrev pub Creates : ℕ → List Volume → Held → List ℕ → ℕ → Reply → Held → Type 0
Creates capacity table old name count Exists new = (v : Volume) × IsNamed table name v × (new ≡ old)
Creates capacity table old name count Range new = Lacks table name × ((count ≡ 0) ⊎ (old.device.blocks < count)) × (new ≡ old)
Creates capacity table old name count NoRoom new = Lacks table name × IsCount old.device.blocks count × HasNoRoom old.device.blocks table count × (new ≡ old)
Creates capacity table old name count Full new =
    Lacks table name × IsCount old.device.blocks count × (v : Volume) × (placed : List Volume) × IsNew old.device.blocks table name count v placed × (old.pages ≡ capacity) × (new ≡ old)
Creates capacity table old name count Created new =
    Lacks table name × IsCount old.device.blocks count × (v : Volume) × (placed : List Volume) × IsNew old.device.blocks table name count v placed × (old.pages ≢ capacity)
    × (new ≡ changed old placed v)
Creates capacity table old name count _ new = ⊥

-- a block of a session's array is read, written or trimmed. A write is refused exactly where the medium is full
abbrev pub Reads : Held → ℕ → Reply → Held → Type 0
Reads old block (Content bytes) new = (bytes ≡ trimmed (content_of old.session.contents block)) × (new ≡ old)
Reads old block _ new = ⊥

abbrev pub Writes : ℕ → List ℕ → Held → ℕ → Reply → Held → Type 0
Writes capacity content old block Full new = (old.pages ≡ capacity) × (new ≡ old)
Writes capacity content old block Done new =
    (old.pages ≢ capacity) × (new ≡ record old { session = written old.session block content; pages = old.pages + 1; updates = old.updates + 1 })
Writes capacity content old block _ new = ⊥

abbrev pub Trims : Held → ℕ → Reply → Held → Type 0
Trims old block Done new = new ≡ record old { session = unmapped old.session block; updates = old.updates + 1 }
Trims old block _ new = ⊥

-- a line for a block of a volume: there is none of this name; it has no such block; or this is done with the block of the device that it is
abbrev pub OnBlock : List Volume → Held → List ℕ → ℕ → (Held → ℕ → Reply → Held → Type 0) → Reply → Held → Type 0
OnBlock table old name block Does Unknown new = Lacks table name × (new ≡ old)
OnBlock table old name block Does Range new = (v : Volume) × IsNamed table name v × (v.count ≤ block) × (new ≡ old)
OnBlock table old name block Does reply new = (v : Volume) × IsNamed table name v × (block < v.count) × Does old (v.start + block) reply new

-- a commit: the device has the array, and this number; or too few pages are free
abbrev pub CommitsAs : ℕ → Held → ℕ → Held → Type 0
CommitsAs capacity old number new = (needed : ℕ) × Needs old needed × (needed ≤ capacity - old.pages) × (new ≡ after_commit old needed) × (number ≡ new.device.number)

abbrev pub IsShort : ℕ → Held → Held → Type 0
IsShort capacity old new = (needed : ℕ) × Needs old needed × (capacity - old.pages < needed) × (new ≡ old)

abbrev pub Commits : ℕ → Held → Reply → Held → Type 0
Commits capacity old (Committed number) new = CommitsAs capacity old number new
Commits capacity old Full new = IsShort capacity old new
Commits capacity old _ new = ⊥

-- a destroy: there is none of this name; the medium is full, and nothing is changed; or the table without the volume is written, all its blocks are trimmed, and this is committed, or
-- too few pages are free for that
abbrev pub Destroys : ℕ → List Volume → Held → List ℕ → Reply → Held → Type 0
Destroys capacity table old name Unknown new = Lacks table name × (new ≡ old)
Destroys capacity table old name Full new = (v : Volume) × IsNamed table name v × (old.pages ≡ capacity) × (new ≡ old)
Destroys capacity table old name (Destroyed number) new =
    (v : Volume) × (left : List Volume) × (v.name ≡ name) × IsTaken table v left × (old.pages ≢ capacity) × CommitsAs capacity (changed old left v) number new
Destroys capacity table old name Uncommitted new =
    (v : Volume) × (left : List Volume) × (v.name ≡ name) × IsTaken table v left × (old.pages ≢ capacity) × IsShort capacity (changed old left v) new
Destroys capacity table old name _ new = ⊥

-- what is asked for, over this table
abbrev pub Serves : ℕ → List Volume → Held → Line → Reply → Held → Type 0
Serves capacity table old (Create name count) reply new = Creates capacity table old name count reply new
Serves capacity table old (Read name block) reply new = OnBlock table old name block Reads reply new
Serves capacity table old (Write name block content) reply new = OnBlock table old name block (Writes capacity content) reply new
Serves capacity table old (Trim name block) reply new = OnBlock table old name block Trims reply new
Serves capacity table old (Destroy name) reply new = Destroys capacity table old name reply new
Serves capacity table old Commit reply new = Commits capacity old reply new

-- the line asks for something, and is served over the table that block 0 spells
pub record Served (capacity : ℕ) (old : Held) (line : List ℕ) (reply : Reply) (new : Held) : Type 0 where
  pub it : Line
  pub spelled : Spells line it
  pub table : List Volume
  pub tabled : IsTabled old table
  pub serves : Serves capacity table old it reply new

-- this reply belongs to this line, on a medium with room for so many pages, and leads on so
abbrev pub Turn : ℕ → Held → List ℕ → Reply → Held → Type 0
Turn capacity old line reply new = Served capacity old line reply new ⊎ (IsBad line × (reply ≡ Bad) × (new ≡ old))
