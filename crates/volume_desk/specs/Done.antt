-- What a line found, left, and kept, on any pages, forged ones too: what look-ups come to with a session over an image.
use Rattle.std.specs.Prelude.{◌≡◌, ◌≢◌, ◌≤◌, ◌<◌, ◌+◌, ℕ, List, Option, IfSome, false}
use Rattle.sdbt_base.specs.Arrays.{padded}
use Rattle.platform.specs.Image.{Image}
use Rattle.platform.specs.History.{History, image_at}
use Rattle.device_session.specs.Damage.{IsFound}
use Rattle.device_session.specs.Open.{blocks_of, needed_by, number_of}
use Rattle.device_session.specs.Reading.{FindsContent, KeepsBlock, KeepsOthers}
use Rattle.device_session.specs.Sessions.{Session}
use Rattle.script_lang.specs.Arrays.{trimmed}
use Rattle.session_calls.specs.Damage.{IsMounted}
use Rattle.volume_table.specs.Tables.{table_bytes}
use Rattle.volume_table.specs.declared.volume.Volume.{Volume}
use Rattle.volume_lines.specs.Lines.{Line, Create, Read, Write, Trim, Destroy, Commit}
use Rattle.volume_lines.specs.Replies.{Reply, Created, Content, Done, Destroyed, Uncommitted, Committed}
use Rattle.volume_terms.specs.Volumes.{IsBlockOf, IsNamed}

-- ---- where

-- so it is of this session over this image, and that one over the other behind it
abbrev pub Across : Image → Session → Image → Session → (Image → Session → Image → Session → Type 0) → Type 0
Across before session image now Claim = Claim before session image now

-- so it is with the one behind it, if one goes on
abbrev pub AcrossIf : Image → Session → Image → Option Session → (Image → Session → Image → Session → Type 0) → Type 0
AcrossIf before session image after Claim = IfSome after (λ now. Claim before session image now)

-- so it was at a moment, from this one on and up to that one, of a session on the root record in the cell
pub record WasOver (from to : ℕ) (history : History) (Claim : Image → Session → Type 0) : Type 0 where
  pub at : ℕ
  pub later : from ≤ at
  pub within : at ≤ to
  pub session : Session
  pub mounted : IsMounted (image_at history at) session
  pub is : Claim (image_at history at) session

-- ---- what

-- of each block of the device a look-up comes to what it came to before
abbrev pub KeepsAll : Image → Session → Image → Session → Type 0
KeepsAll before session image now = (block : ℕ) → block < blocks_of session → KeepsBlock before.readable image.readable session now block

-- a look-up of the device's block that is this one of the volume comes to these bytes, but for their trailing zeros: to zeros where the block is not mapped
pub record IsLookedUp (image : Image) (session : Session) (table : List Volume) (name : List ℕ) (block : ℕ) (bytes : List ℕ) : Type 0 where
  pub v : Volume
  pub named : IsNamed table name v
  pub below : block < v.count
  pub content : List ℕ
  pub found : FindsContent image.readable session.grove (v.start + block) content
  pub is : bytes ≡ trimmed content

-- it comes to these bytes, and zeros up to the end of the block, and one of each other block to what it came to before
pub record IsWritten (before : Image) (session : Session) (image : Image) (now : Session) (table : List Volume) (name : List ℕ) (block : ℕ) (bytes : List ℕ) : Type 0 where
  pub v : Volume
  pub named : IsNamed table name v
  pub below : block < v.count
  pub found : FindsContent image.readable now.grove (v.start + block) (padded bytes)
  pub others : KeepsOthers before.readable image.readable session now (v.start + block)

-- it finds none, and one of each other block comes to what it came to before
pub record IsUnmapped (before : Image) (session : Session) (image : Image) (now : Session) (table : List Volume) (name : List ℕ) (block : ℕ) : Type 0 where
  pub v : Volume
  pub named : IsNamed table name v
  pub below : block < v.count
  pub gone : IsFound false image.readable now (v.start + block)
  pub others : KeepsOthers before.readable image.readable session now (v.start + block)

-- of so many blocks from this one on a look-up finds none, and one of each other block of the device comes to what it came to before
pub record HasTrimmed (pages after : List (List ℕ)) (session now : Session) (first count : ℕ) : Type 0 where
  pub gone : (block : ℕ) → first ≤ block → block < first + count → IsFound false after now block
  pub before : (block : ℕ) → block < blocks_of session → block < first → KeepsBlock pages after session now block
  pub behind : (block : ℕ) → block < blocks_of session → first + count ≤ block → KeepsBlock pages after session now block

-- of the volume's blocks a look-up finds none, one of block 0 comes to the bytes of this table, and one of each other block to what it came to before
pub record HasCleared (before : Image) (session : Session) (image : Image) (now : Session) (v : Volume) (table : List Volume) : Type 0 where
  pub gone : (block : ℕ) → IsBlockOf v block → IsFound false image.readable now block
  pub tabled : FindsContent image.readable now.grove 0 (table_bytes table)
  pub others : (block : ℕ) → block < blocks_of session → block ≢ 0 → (IsBlockOf v block → ⊥) → KeepsBlock before.readable image.readable session now block

-- so it is of the volume of this name, which the one table has, and of the other table
abbrev pub IsCleared : Image → Session → Image → Session → List Volume → List ℕ → List Volume → Type 0
IsCleared before session image now table name next = (v : Volume) × IsNamed table name v × HasCleared before session image now v next

-- the session has no change of its own, and its root record this number
abbrev pub IsCommitted : ℕ → Session → Type 0
IsCommitted number now = (needed_by now ≡ 0) × (number ≡ number_of now)

-- ---- a reply

-- what a line did, by its reply, over this table, and the table behind it: a read found what it gives, a write left its content, a trim nothing at its block, and a volume that came or went none of its blocks, and the
-- table in block 0. A destroy that was committed had left that before its commit, and behind a commit the session has no change of its own, and the number that is told is that of its root record. All else is as it was
abbrev pub DoesAny : ((Image → Session → Image → Session → Type 0) → Type 0) → ((Image → Session → Image → Session → Type 0) → Type 0) → List Volume → Reply → Line → List Volume → Type 0
DoesAny Did HadLeft table (Content bytes) (Read name block) next = Did (λ before session image now. IsLookedUp before session table name block bytes × KeepsAll before session image now)
DoesAny Did HadLeft table Done (Write name block bytes) next = Did (λ before session image now. IsWritten before session image now table name block bytes)
DoesAny Did HadLeft table Done (Trim name block) next = Did (λ before session image now. IsUnmapped before session image now table name block)
DoesAny Did HadLeft table Created (Create name count) next = Did (λ before session image now. IsCleared before session image now next name next)
DoesAny Did HadLeft table (Destroyed number) (Destroy name) next = HadLeft (λ before session image now. IsCleared before session image now table name next) × Did (λ before session image now. IsCommitted number now)
DoesAny Did HadLeft table Uncommitted (Destroy name) next = Did (λ before session image now. IsCleared before session image now table name next)
DoesAny Did HadLeft table (Committed number) Commit next = Did (λ before session image now. IsCommitted number now)
DoesAny Did HadLeft table _ _ next = Did KeepsAll
