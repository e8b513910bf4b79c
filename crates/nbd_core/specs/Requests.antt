-- How requests come.
use Rattle.std.specs.Prelude.{◌≡◌, ◌≢◌, ◌⊎◌, ◌≤◌, ◌<◌, ℕ, List, [], ◌++◌, Option, None, Some, Result, Ok, Err, IfOk, IfErr, length, take}
use Rattle.std.specs.Int.{w32, to_be_bytes}
use Rattle.sdbt_base.specs.Told.{IsAtEnd}
use Rattle.nbd_lang.specs.Requests.{RequestSent, FitsRequest, FitsSent, request_head, request_bytes}
use Rattle.nbd_lang.specs.declared.requests.Request.{Request}
use Rattle.nbd_core.specs.Room.{Room, Came, IsShorter}
use Rattle.nbd_core.specs.declared.stop.Stop.TheVariants as stops
use Rattle.nbd_core.specs.declared.halts.Halt.{Halt}
use Rattle.nbd_core.specs.declared.halts.Halt.TheVariants as halts

-- what each request begins with
abbrev pub request_magic : List ℕ
request_magic = to_be_bytes w32 0x25609513

-- bytes that may still become a request: none is whole at their front, and their first four, where
-- these are there, are what each request begins with
abbrev pub AwaitsRequest : List ℕ → Type 0
AwaitsRequest bytes = ((sent : RequestSent) (more : List ℕ) → FitsSent sent → bytes ≢ request_bytes sent ++ more) × (4 ≤ length bytes → take 4 bytes ≡ request_magic)

-- four bytes or more that begin as no request does
abbrev pub LacksRequest : List ℕ → Type 0
LacksRequest bytes = (4 ≤ length bytes) × (take 4 bytes ≢ request_magic)

-- a request is broken: the input ended inside of it, or it begins as none does
abbrev pub IsBrokenRequest : Option (List ℕ) → List ℕ → Type 0
IsBrokenRequest left bytes = (IsAtEnd left × (0 < length bytes) × AwaitsRequest bytes) ⊎ LacksRequest bytes

-- how the taking of a request's head ended
abbrev pub HeadEnd : Option (List ℕ) → List ℕ → List ℕ → Result (Option Request) Halt → Type 0
HeadEnd left ahead came (Ok (Some request)) = FitsRequest request × (came ≡ request_head request ++ ahead)
HeadEnd left ahead came (Ok None) = (came ≡ []) × IsAtEnd left
HeadEnd left ahead came (Err (halts.Client stops.Source)) = AwaitsRequest came
HeadEnd left ahead came (Err (halts.Client stops.Limit)) = AwaitsRequest came
HeadEnd left ahead came (Err (halts.Client stops.Broken)) = IsBrokenRequest left came
HeadEnd left ahead came (Err (halts.Client stops.Sink)) = ⊥
HeadEnd left ahead came (Err halts.Platform) = ⊥
HeadEnd left ahead came (Err halts.Tape) = ⊥
HeadEnd left ahead came (Err halts.Ledger) = ⊥
HeadEnd left ahead came (Err halts.BadRoot) = ⊥
HeadEnd left ahead came (Err halts.NoDevice) = ⊥
HeadEnd left ahead came (Err halts.Unfinished) = ⊥
HeadEnd left ahead came (Err halts.Memory) = ⊥

pub record HeadCame (left left_now : Option (List ℕ)) (old new : Room) (result : Result (Option Request) Halt) : Type 0 where
  pub came : List ℕ
  pub takes : Came left left_now old new.left AwaitsRequest came
  pub ends : HeadEnd left_now new.ahead came result
  pub limit : IfErr result (λ halt. halt ≡ halts.Client stops.Limit → new.left ≡ 0)

-- where a request halts of which so many bytes were to come behind its head, fewer came if its
-- client is to blame
abbrev pub DataEnd : Option (List ℕ) → ℕ → List ℕ → Halt → Type 0
DataEnd left count came (halts.Client stops.Source) = length came < count
DataEnd left count came (halts.Client stops.Limit) = length came < count
DataEnd left count came (halts.Client stops.Broken) = (length came < count) × IsAtEnd left
DataEnd left count came (halts.Client stops.Sink) = ⊥
DataEnd left count came halts.Platform = Unit {0}
DataEnd left count came halts.Tape = Unit {0}
DataEnd left count came halts.Ledger = Unit {0}
DataEnd left count came halts.Memory = Unit {0}
DataEnd left count came halts.BadRoot = ⊥
DataEnd left count came halts.NoDevice = ⊥
DataEnd left count came halts.Unfinished = ⊥

-- of what came so many bytes are gone, or the run is over; and this was done with those that are gone
pub record DataCame {X : Type 0} (left left_now : Option (List ℕ)) (old new : Room) (count : ℕ) (Did : List ℕ → Type 0) (result : Result X Halt) : Type 0 where
  pub gone : List ℕ
  pub came : Came left left_now old new.left (IsShorter count) (gone ++ new.ahead)
  pub whole : IfOk result (λ x. length gone ≡ count)
  pub ends : IfErr result (DataEnd left_now count (gone ++ new.ahead))
  pub limit : IfErr result (λ halt. halt ≡ halts.Client stops.Limit → new.left ≡ 0)
  pub did : Did gone
