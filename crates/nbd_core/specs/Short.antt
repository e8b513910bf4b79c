-- Replies that say that pages lack.
use Rattle.std.specs.Prelude.{◌≡◌, ◌<◌, ◌≤◌, ◌+◌, ◌*◌, ◌⊎◌, ℕ, List, [], ◌∷◌, Option, None, Some, length}
use Rattle.byte_arrays.specs.Ranges.{touched_blocks}
use Rattle.device_session.specs.Open.{needed_by}
use Rattle.device_session.specs.Sessions.{Session}
use Rattle.nbd_lang.specs.Refusals.{refusal}
use Rattle.nbd_lang.specs.declared.replies.Outcome.{Outcome}
use Rattle.nbd_lang.specs.declared.replies.Outcome.TheVariants as outcomes
use Rattle.nbd_lang.specs.declared.requests.Request.{Request}
use Rattle.nbd_lang.specs.declared.requests.RequestKind.{RequestKind}
use Rattle.nbd_lang.specs.declared.requests.RequestKind.TheVariants as kinds
use Rattle.nbd_core.specs.Ample.{blocks_of_range}
use Rattle.nbd_core.specs.Exchanges.{Exchange}

-- how many updates the next commit makes good behind a request with this outcome, where it was so many
-- before: one more for each block of the range, and none behind a flush that was done
abbrev pub updates_with : RequestKind → Outcome → ℕ → ℕ → ℕ
updates_with kinds.Flush outcomes.Done n blocks = 0
updates_with kinds.Flush outcomes.Damaged n blocks = n
updates_with kinds.Flush outcomes.NoMemory n blocks = n
updates_with kinds.Flush outcomes.Invalid n blocks = n
updates_with kinds.Flush outcomes.NoSpace n blocks = n
updates_with kinds.Read outcome n blocks = n
updates_with kinds.Write outcome n blocks = n + blocks
updates_with kinds.Trim outcome n blocks = n + blocks
updates_with kinds.Disconnect outcome n blocks = n
updates_with (kinds.Other number) outcome n blocks = n

-- as many as before where it is refused
abbrev pub updates_unless : Option Outcome → RequestKind → Outcome → ℕ → ℕ → ℕ
updates_unless (Some why) kind outcome n blocks = n
updates_unless None kind outcome n blocks = updates_with kind outcome n blocks

abbrev pub updates_by : ℕ → ℕ → Request → Outcome → ℕ
updates_by size n request outcome = updates_unless (refusal size request) request.kind outcome n (blocks_of_range request.kind request.offset request.length)

-- the same behind requests with their replies
abbrev pub updates_in : ℕ → ℕ → List Exchange → ℕ
updates_in size n [] = n
updates_in size n (exchange ∷ more) = updates_in size (updates_by size n exchange.sent.head exchange.reply.outcome) more

-- a reply that says ENOSPC, unless its head is refused: so many pages are fewer than the blocks that a
-- write touches, or than 41 for each update that a flush makes good
pub record IsShort (size free n : ℕ) (request : Request) (outcome : Outcome) : Type 0 where
  pub write : refusal size request ≡ None → request.kind ≡ kinds.Write → outcome ≡ outcomes.NoSpace → free < length (touched_blocks request.offset request.length)
  pub flush : refusal size request ≡ None → request.kind ≡ kinds.Flush → outcome ≡ outcomes.NoSpace → free < 41 * n

-- so is each of these, where so many updates were to be made good at first
abbrev pub AreShort : ℕ → ℕ → ℕ → List Exchange → Type 0
AreShort size free n [] = Unit {0}
AreShort size free n (exchange ∷ more) =
    IsShort size free n exchange.sent.head exchange.reply.outcome × AreShort size free (updates_by size n exchange.sent.head exchange.reply.outcome) more

-- what a request did to the pages that the session's next commit needs, and that are free
pub record Spends (size free n : ℕ) (request : Request) (now : Session) (outcome : Outcome) : Type 0 where
  pub short : IsShort size free n request outcome
  pub needs : needed_by now ≤ 41 * updates_by size n request outcome

-- what a flush did to them, of which so many were needed; it adds none where too few are free
pub record FlushSpends (needed free head head_now : ℕ) (now : Session) (outcome : Outcome) : Type 0 where
  pub only : (outcome ≡ outcomes.Done) ⊎ (outcome ≡ outcomes.NoSpace)
  pub done : outcome ≡ outcomes.Done → needed_by now ≡ 0
  pub full : outcome ≡ outcomes.NoSpace → (needed_by now ≡ needed) × (free < needed) × (head_now ≡ head)
