-- With enough pages free each request is done.
use Rattle.std.specs.Prelude.{◌≡◌, ◌≢◌, ◌≤◌, ◌⊎◌, ◌+◌, ◌*◌, ℕ, List, [], ◌∷◌, All, Option, None, Some, Result, Err, length}
use Rattle.byte_arrays.specs.Ranges.{touched_blocks, covered_blocks}
use Rattle.nbd_lang.specs.Refusals.{refusal}
use Rattle.nbd_lang.specs.declared.replies.Outcome.{Outcome}
use Rattle.nbd_lang.specs.declared.replies.Outcome.TheVariants as outcomes
use Rattle.nbd_lang.specs.declared.requests.Request.{Request}
use Rattle.nbd_lang.specs.declared.requests.RequestKind.{RequestKind}
use Rattle.nbd_lang.specs.declared.requests.RequestKind.TheVariants as kinds
use Rattle.device_course.specs.Held.{Held}
use Rattle.nbd_core.specs.Exchanges.{Exchange}
use Rattle.nbd_core.specs.declared.halts.Halt.{Halt}
use Rattle.nbd_core.specs.declared.halts.Halt.TheVariants as halts

-- how many blocks a range has for a request of this kind: those that a write touches, or a trim covers
abbrev pub blocks_of_range : RequestKind → ℕ → ℕ → ℕ
blocks_of_range kinds.Write offset n = length (touched_blocks offset n)
blocks_of_range kinds.Trim offset n = length (covered_blocks offset n)
blocks_of_range kinds.Read offset n = 0
blocks_of_range kinds.Flush offset n = 0
blocks_of_range kinds.Disconnect offset n = 0
blocks_of_range (kinds.Other number) offset n = 0

-- none where it is refused
abbrev pub unless_refused : Option Outcome → ℕ → ℕ
unless_refused None n = n
unless_refused (Some why) n = 0

-- how many blocks requests change at most on a device of so many bytes
abbrev pub changed_by : ℕ → Request → ℕ
changed_by size request = unless_refused (refusal size request) (blocks_of_range request.kind request.offset request.length)

abbrev pub changed_in : ℕ → List Exchange → ℕ
changed_in size [] = 0
changed_in size (exchange ∷ more) = changed_by size exchange.sent.head + changed_in size more

-- 42 pages are free for each block that requests change, beside those that the next commit needs
abbrev pub HasRoom : ℕ → ℕ → Held → List Exchange → Type 0
HasRoom capacity size held exchanges = held.pages + 41 * held.updates + 42 * changed_in size exchanges ≤ capacity

-- a flush is done; and a request for blocks, or no memory was given to it. None of another kind has a reply
abbrev pub IsServed : RequestKind → Outcome → Type 0
IsServed kinds.Read outcome = (outcome ≡ outcomes.Done) ⊎ (outcome ≡ outcomes.NoMemory)
IsServed kinds.Write outcome = (outcome ≡ outcomes.Done) ⊎ (outcome ≡ outcomes.NoMemory)
IsServed kinds.Trim outcome = (outcome ≡ outcomes.Done) ⊎ (outcome ≡ outcomes.NoMemory)
IsServed kinds.Flush outcome = outcome ≡ outcomes.Done
IsServed kinds.Disconnect outcome = ⊥
IsServed (kinds.Other number) outcome = ⊥

-- so is a request that its head doesn't refuse
abbrev pub IsServedOut : ℕ → Exchange → Type 0
IsServedOut size exchange = refusal size exchange.sent.head ≡ None → IsServed exchange.sent.head.kind exchange.reply.outcome

-- so is each, and pages lack for no disconnect
pub record Completes (size : ℕ) (exchanges : List Exchange) (result : Result (Unit {0}) Halt) : Type 0 where
  pub done : All (IsServedOut size) exchanges
  pub ends : result ≢ Err halts.Unfinished
