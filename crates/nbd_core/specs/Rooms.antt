-- How much room for replies is kept.
use Rattle.std.specs.Prelude.{◌≡◌, ◌<◌, ◌≤◌, ◌+◌, ℕ}
use Rattle.nbd_lang.specs.Refusals.{refusal}
use Rattle.nbd_lang.specs.declared.requests.Request.{Request}
use Rattle.nbd_lang.specs.declared.requests.RequestKind.{RequestKind}
use Rattle.nbd_lang.specs.declared.requests.RequestKind.TheVariants as kinds
use Rattle.nbd_core.specs.Ample.{unless_refused}

-- how much room the reply to a request of this kind takes: a read its head and its bytes, and another one none
abbrev pub room_at : RequestKind → ℕ → ℕ
room_at kinds.Read count = 16 + count
room_at kinds.Write count = 0
room_at kinds.Trim count = 0
room_at kinds.Flush count = 0
room_at kinds.Disconnect count = 0
room_at (kinds.Other number) count = 0

-- and the one to a request on a device of so many bytes: none where its head is refused
abbrev pub room_for : ℕ → Request → ℕ
room_for size request = unless_refused (refusal size request) (room_at request.kind request.length)

-- the room of earlier replies is kept, and is larger behind this only where the reply takes more: as large as that then. Where it takes none, no memory is given or taken
pub record KeepsRoom (most before now capacity capacity_now : ℕ) : Type 0 where
  pub kept : before ≤ now
  pub at_most : before < now → now ≤ most
  pub idle : most ≡ 0 → capacity_now ≡ capacity
