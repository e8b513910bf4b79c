-- What a trim or a write did of its blocks that stopped at one of them, on any pages.
use Rattle.std.specs.Prelude.{◌≡◌, ◌<◌, ◌≤◌, ◌+◌, ℕ, List, length, take}
use Rattle.byte_arrays.specs.Parts.{IsAtPart}
use Rattle.byte_arrays.specs.Ranges.{covered_blocks, touched_blocks}
use Rattle.platform.specs.Image.{Image}
use Rattle.device_session.specs.Open.{blocks_of, needed_by}
use Rattle.device_session.specs.Sessions.{Session}
use Rattle.nbd_lang.specs.declared.requests.Request.{Request}
use Rattle.nbd_lang.specs.declared.requests.RequestKind.{RequestKind}
use Rattle.nbd_lang.specs.declared.requests.RequestKind.TheVariants as kinds
use Rattle.nbd_core.specs.Found.{HasTrimmed, HasWritten}

-- a call for a block that stopped: the device has as many blocks, as many of them are counted as mapped, and no page more is needed by the next commit
pub record LeavesCounts (session now : Session) : Type 0 where
  pub blocks : blocks_of now ≡ blocks_of session
  pub mapped : now.mapped ≡ session.mapped
  pub needs : needed_by now ≤ needed_by session

-- a trim that stopped at one of these blocks: it cleared those before it and no other, by which a session came to be. So no more are gone of the blocks that are counted
pub record TrimmedFirst (image after : Image) (session there now : Session) (blocks : List ℕ) : Type 0 where
  pub count : ℕ
  pub less : count < length blocks
  pub trimmed : HasTrimmed image after session there (take count blocks)
  pub counted : session.mapped ≤ now.mapped + count
  pub left : LeavesCounts there now

-- a write that stopped at a part of these bytes, from a block's first byte or from the write's on: it wrote those before it and no other, by which a session came to be. A page
-- was added for each block of what it wrote, and no other
pub record WroteFirst (image after : Image) (session there now : Session) (offset : ℕ) (bytes : List ℕ) : Type 0 where
  pub count : ℕ
  pub less : count < length bytes
  pub at : IsAtPart offset count (length (touched_blocks offset count))
  pub written : HasWritten image after session there offset (take count bytes)
  pub pages : length after.recorded ≡ length image.recorded + length (touched_blocks offset count)
  pub left : LeavesCounts there now

-- they stopped so, with a session of which this is so
abbrev pub StopsTrimming : Image → Image → Session → Session → List ℕ → (Session → Type 0) → Type 0
StopsTrimming image after session now blocks IsWhy = (there : Session) × TrimmedFirst image after session there now blocks × IsWhy there

abbrev pub StopsWriting : Image → Image → Session → Session → ℕ → List ℕ → (Session → Type 0) → Type 0
StopsWriting image after session now offset bytes IsWhy = (there : Session) × WroteFirst image after session there now offset bytes × IsWhy there

-- a request of which these bytes came stopped so: a read has changed nothing
abbrev pub HasStopped : RequestKind → Image → Image → Session → Session → Request → List ℕ → (Session → Type 0) → Type 0
HasStopped kinds.Read image after session now request sent IsWhy = IsWhy session
HasStopped kinds.Write image after session now request sent IsWhy = StopsWriting image after session now request.offset sent IsWhy
HasStopped kinds.Trim image after session now request sent IsWhy = StopsTrimming image after session now (covered_blocks request.offset request.length) IsWhy
HasStopped kinds.Flush image after session now request sent IsWhy = ⊥
HasStopped kinds.Disconnect image after session now request sent IsWhy = ⊥
HasStopped (kinds.Other number) image after session now request sent IsWhy = ⊥
