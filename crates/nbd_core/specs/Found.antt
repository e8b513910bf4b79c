-- What look-ups find of a session's bytes, on any pages, forged ones too.
use Rattle.std.specs.Prelude.{◌≡◌, ◌<◌, ◌≤◌, ◌⊎◌, ◌+◌, ◌/◌, ◌%◌, ℕ, List, Some, Result, Ok, Err, OnOk, IfErr, All, Contains, false, length, slice_get}
use Rattle.byte_arrays.specs.Ranges.{IsTouched}
use Rattle.platform.specs.Image.{Image}
use Rattle.device_session.specs.Damage.{IsFound}
use Rattle.device_session.specs.Open.{blocks_of}
use Rattle.device_session.specs.Reading.{FindsContent, KeepsBlock}
use Rattle.device_session.specs.Sessions.{Session}
use Rattle.session_calls.specs.declared.stops.DeviceStop.{DeviceStop}
use Rattle.nbd_lang.specs.declared.requests.RequestKind.TheVariants as kinds
use Rattle.nbd_core.specs.Meets.{MayMeet, MeetsAt}

-- look-ups find this byte at this place: it stands there in the content that one of its block comes to
pub record FindsByte (image : Image) (session : Session) (place byte : ℕ) : Type 0 where
  pub content : List ℕ
  pub finds : FindsContent image.readable session.grove (place / 4096) content
  pub is : slice_get content (place % 4096) ≡ Some byte

-- they find these bytes from this place on
abbrev pub FindsBytes : Image → Session → ℕ → List ℕ → Type 0
FindsBytes image session place bytes = (i byte : ℕ) → slice_get bytes i ≡ Some byte → FindsByte image session (place + i) byte

-- they find behind a call what they found before, of all blocks
pub record FindsSame (image after : Image) (session now : Session) : Type 0 where
  pub pages : after.readable ≡ image.readable
  pub grove : now.grove ≡ session.grove

-- what a read of bytes comes to: it has read those that look-ups find from this place on, or it met a page
-- that doesn't fit, if it stopped at one; and it leaves what they find
pub record ReadsFound (image after : Image) (session now : Session) (place : ℕ) (bytes : List ℕ) (result : Result (Unit {0}) DeviceStop) : Type 0 where
  pub same : FindsSame image after session now
  pub found : OnOk result (FindsBytes image session place bytes)
  pub met : IfErr result (MeetsAt (MayMeet kinds.Read session after place (length bytes)))

-- a trim that was done: behind it look-ups find none of these blocks, and of each other one of the device
-- what they found before
pub record HasTrimmed (image after : Image) (session now : Session) (blocks : List ℕ) : Type 0 where
  pub gone : All (IsFound false after.readable now) blocks
  pub others : (other : ℕ) → other < blocks_of session → (Contains blocks other → ⊥) → KeepsBlock image.readable after.readable session now other

-- this place lies beside a range of so many bytes from an offset on, in a block that the range touches
abbrev pub IsBeside : ℕ → ℕ → ℕ → Type 0
IsBeside offset n place = IsTouched offset n (place / 4096) × ((place < offset) ⊎ (offset + n ≤ place))

-- a write that was done: behind it look-ups find these bytes from this place on. Each byte beside them was
-- found before, and is found behind it; and of each block of the device that they don't touch look-ups find
-- what they found before
pub record HasWritten (image after : Image) (session now : Session) (offset : ℕ) (bytes : List ℕ) : Type 0 where
  pub came : FindsBytes after now offset bytes
  pub beside : (place : ℕ) → IsBeside offset (length bytes) place → (byte : ℕ) × FindsByte image session place byte × FindsByte after now place byte
  pub others : (other : ℕ) → other < blocks_of session → (IsTouched offset (length bytes) other → ⊥) → KeepsBlock image.readable after.readable session now other

-- what a write of bytes comes to: it has written them, or it met what doesn't fit where such a write does, if it
-- stopped at that
abbrev pub WritesFound : Image → Image → Session → Session → ℕ → List ℕ → Result (Unit {0}) DeviceStop → Type 0
WritesFound image after session now place bytes (Ok done) = HasWritten image after session now place bytes
WritesFound image after session now place bytes (Err stop) = MeetsAt (MayMeet kinds.Write session after place (length bytes)) stop
