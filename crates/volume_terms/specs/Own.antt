-- A volume alone: which replies belong to the lines that name it, without a word of any other.
use Rattle.std.specs.Prelude.{◌≡◌, ◌≢◌, ◌<◌, ◌≤◌, ◌⊎◌, ℕ, List, [], ◌∷◌, Option, None, Some, length, replicate, get_or}
use Rattle.std.specs.List.{slice_set}
use Rattle.sdbt_base.specs.Arrays.{padded}
use Rattle.script_lang.specs.Arrays.{trimmed}
use Rattle.volume_lines.specs.Lines.{Line, Create, Read, Write, Trim, Destroy, Commit}
use Rattle.volume_lines.specs.Grammar.{Spells}
use Rattle.volume_lines.specs.Replies.{Reply, Created, Exists, NoRoom, Unknown, Content, Done, Range, Full, Destroyed, Uncommitted}
use Rattle.device_course.specs.Held.{Held}
use Rattle.volume_terms.specs.Volumes.{IsCount, VolumeIn}

-- no volume, or its array of blocks
abbrev pub Array : Type 0
Array = Option (List (List ℕ))

-- the name that a line has
abbrev pub named_by : Line → Option (List ℕ)
named_by (Create name count) = Some name
named_by (Read name block) = Some name
named_by (Write name block content) = Some name
named_by (Trim name block) = Some name
named_by (Destroy name) = Some name
named_by Commit = None

-- a create where there is no volume: it has blocks of zeros then. That there is no room, or the medium is full, is free
abbrev pub OwnCreates : ℕ → ℕ → Reply → Array → Type 0
OwnCreates blocks count Range next = ((count ≡ 0) ⊎ (blocks < count)) × (next ≡ None)
OwnCreates blocks count NoRoom next = IsCount blocks count × (next ≡ None)
OwnCreates blocks count Full next = IsCount blocks count × (next ≡ None)
OwnCreates blocks count Created next = IsCount blocks count × (next ≡ Some (replicate count (replicate 4096 0)))
OwnCreates blocks count _ next = ⊥

abbrev pub OwnReads : List (List ℕ) → ℕ → Reply → Array → Type 0
OwnReads array block Range next = (length array ≤ block) × (next ≡ Some array)
OwnReads array block (Content bytes) next = (block < length array) × (bytes ≡ trimmed (get_or array block [])) × (next ≡ Some array)
OwnReads array block _ next = ⊥

-- that the medium is full is free
abbrev pub OwnWrites : List (List ℕ) → ℕ → List ℕ → Reply → Array → Type 0
OwnWrites array block content Range next = (length array ≤ block) × (next ≡ Some array)
OwnWrites array block content Full next = (block < length array) × (next ≡ Some array)
OwnWrites array block content Done next = (block < length array) × (next ≡ Some (slice_set array block (padded content)))
OwnWrites array block content _ next = ⊥

abbrev pub OwnTrims : List (List ℕ) → ℕ → Reply → Array → Type 0
OwnTrims array block Range next = (length array ≤ block) × (next ≡ Some array)
OwnTrims array block Done next = (block < length array) × (next ≡ Some (slice_set array block (replicate 4096 0)))
OwnTrims array block _ next = ⊥

-- a destroy: that the medium is full, and the number, are free
abbrev pub OwnDestroys : List (List ℕ) → Reply → Array → Type 0
OwnDestroys array Full next = next ≡ Some array
OwnDestroys array (Destroyed number) next = next ≡ None
OwnDestroys array Uncommitted next = next ≡ None
OwnDestroys array _ next = ⊥

-- a line that names the volume, on a device of so many blocks
abbrev pub OwnTurn : ℕ → Array → Line → Reply → Array → Type 0
OwnTurn blocks None (Create name count) reply next = OwnCreates blocks count reply next
OwnTurn blocks None (Read name block) reply next = (reply ≡ Unknown) × (next ≡ None)
OwnTurn blocks None (Write name block content) reply next = (reply ≡ Unknown) × (next ≡ None)
OwnTurn blocks None (Trim name block) reply next = (reply ≡ Unknown) × (next ≡ None)
OwnTurn blocks None (Destroy name) reply next = (reply ≡ Unknown) × (next ≡ None)
OwnTurn blocks None Commit reply next = ⊥
OwnTurn blocks (Some array) (Create name count) reply next = (reply ≡ Exists) × (next ≡ Some array)
OwnTurn blocks (Some array) (Read name block) reply next = OwnReads array block reply next
OwnTurn blocks (Some array) (Write name block content) reply next = OwnWrites array block content reply next
OwnTurn blocks (Some array) (Trim name block) reply next = OwnTrims array block reply next
OwnTurn blocks (Some array) (Destroy name) reply next = OwnDestroys array reply next
OwnTurn blocks (Some array) Commit reply next = ⊥

-- lines that name it, with their replies, one after another
abbrev pub Own : ℕ → Array → List (Line × Reply) → Array → Type 0
Own blocks volume [] last = last ≡ volume
Own blocks volume (turn ∷ turns) last = (next : Array) × OwnTurn blocks volume turn.0 turn.1 next × Own blocks next turns last

-- of the lines that have a reply, these have the name
abbrev pub AreOf : List ℕ → List (List ℕ) → List Reply → List (Line × Reply) → Type 0
AreOf name lines [] turns = turns ≡ []
AreOf name [] (reply ∷ replies) turns = ⊥
AreOf name (line ∷ lines) (reply ∷ replies) turns =
    ((it : Line) × Spells line it × (named_by it ≡ Some name) × (rest : List (Line × Reply)) × (turns ≡ (it, reply) ∷ rest) × AreOf name lines replies rest)
    ⊎ (((it : Line) → Spells line it → named_by it ≢ Some name) × AreOf name lines replies turns)

-- a name's volume at the start, its lines with their replies, which are its own, and its volume at the end
pub record HasOwn (entry last : Held) (name : List ℕ) (lines : List (List ℕ)) (replies : List Reply) : Type 0 where
  pub volume : Array
  pub there : VolumeIn entry name volume
  pub turns : List (Line × Reply)
  pub are : AreOf name lines replies turns
  pub next : Array
  pub own : Own entry.device.blocks volume turns next
  pub ends : VolumeIn last name next
