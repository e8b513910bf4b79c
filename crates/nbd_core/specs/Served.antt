-- Requests that came, and their replies, on any image.
use Rattle.std.specs.Prelude.{◌≡◌, ◌≢◌, ◌≤◌, ◌<◌, ◌+◌, ◌-◌, ◌*◌, ◌⊎◌, ℕ, List, [], ◌∷◌, ◌++◌, All, Option, None, Some, Result, Ok, Err, IfErr, length, map, take}
use Rattle.std.specs.List.{flat_map}
use Rattle.sdbt_base.specs.Told.{Got, GotPart, IsAtEnd}
use Rattle.device_course.specs.States.{Outside}
use Rattle.device_session.specs.Open.{needed_by}
use Rattle.device_session.specs.Sessions.{Session}
use Rattle.session_calls.specs.Damage.{IsMounted}
use Rattle.nbd_lang.specs.Refusals.{refusal}
use Rattle.nbd_lang.specs.Replies.{Reply, reply_bytes}
use Rattle.nbd_lang.specs.Requests.{FitsSent, bytes_behind, request_head, request_bytes}
use Rattle.nbd_lang.specs.declared.replies.Outcome.{Outcome}
use Rattle.nbd_lang.specs.declared.replies.Outcome.TheVariants as outcomes
use Rattle.nbd_lang.specs.declared.requests.Request.{Request}
use Rattle.nbd_lang.specs.declared.requests.RequestKind.{RequestKind}
use Rattle.nbd_lang.specs.declared.requests.RequestKind.TheVariants as kinds
use Rattle.device_course.specs.Held.{Held}
use Rattle.nbd_terms.specs.Bytes.{size_of}
use Rattle.nbd_terms.specs.Turn.{Turn, Ends, HasToCommit, IsUnfinished}
use Rattle.nbd_core.specs.Ample.{Completes, HasRoom}
use Rattle.nbd_core.specs.Damages.{TellsTrue, ToldTrue}
use Rattle.nbd_core.specs.Exchanges.{Exchange, sent_of, told_of}
use Rattle.nbd_core.specs.Room.{Room, Came, IsShorter}
use Rattle.nbd_core.specs.Requests.{AwaitsRequest, IsBrokenRequest, DataEnd}
use Rattle.nbd_core.specs.Short.{AreShort, Spends, updates_in}
use Rattle.nbd_core.specs.Near.{IsNear, left_by, needed_for}
use Rattle.nbd_core.specs.Reads.{HasRead, reads_for, reads_in}
use Rattle.nbd_core.specs.Turns.{Turns, Halts, BeginsWith, ComesTo, DrawsKeys, IsOfCommit, MayHalt, OnArray}
use Rattle.nbd_core.specs.declared.stop.Stop.TheVariants as stops
use Rattle.nbd_core.specs.declared.halts.Halt.{Halt}
use Rattle.nbd_core.specs.declared.halts.Halt.TheVariants as halts
use Rattle.nbd_core.specs.Changes.{HasChanged, Tally, changes_in}

-- how many bytes a reply has behind its head: those of a read that was done
abbrev pub bytes_told : RequestKind → Outcome → ℕ → ℕ
bytes_told kinds.Read outcomes.Done count = count
bytes_told _ _ count = 0

-- a reply to a request on a device of so many bytes: what is refused by its head is answered so, and
-- else what such a request may come to
pub record IsReplyTo (size : ℕ) (request : Request) (reply : Reply) : Type 0 where
  pub cookie : reply.cookie ≡ request.cookie
  pub comes : ComesTo request.kind (refusal size request) reply.outcome
  pub bytes : length reply.bytes ≡ bytes_told request.kind reply.outcome request.length

-- how a request ended of which these bytes came behind its head: its reply was put, or a part of it;
-- or none was, and at most those pages were added that it needs
abbrev pub AnswerEnd : Type 0 → Outside → Outside → Session → ℕ → Request → Option (List ℕ) → List ℕ → List ℕ → Option (List ℕ) → Option (List ℕ) → Result Session Halt → Type 0
AnswerEnd tells before after session size request left gone ahead written written_now (Ok next) =
    (length gone ≡ bytes_behind request.kind request.length) × (reply : Reply) × IsReplyTo size request reply × Got written (reply_bytes reply) written_now
    × Turns tells before after session (Some next) (record { head = request; bytes = gone }) reply × (tells → TellsTrue before.history.present after.history.present session next (record { head = request; bytes = gone }) reply)
    × ((n : ℕ) → needed_by session ≤ 41 * n → Spends size (after.capacity - after.head) n request next reply.outcome)
AnswerEnd tells before after session size request left gone ahead written written_now (Err (halts.Client stops.Sink)) =
    (length gone ≡ bytes_behind request.kind request.length) × (reply : Reply) × IsReplyTo size request reply × GotPart written (reply_bytes reply) written_now
    × Turns tells before after session None (record { head = request; bytes = gone }) reply
    × (tells → (now : Session) × IsMounted after.history.present now × TellsTrue before.history.present after.history.present session now (record { head = request; bytes = gone }) reply)
AnswerEnd tells before after session size request left gone ahead written written_now (Err halt) =
    (written_now ≡ written) × DataEnd left (bytes_behind request.kind request.length) (gone ++ ahead) halt × MayHalt request.kind (refusal size request) halt
    × Halts tells before after session request.kind halt × ((n : ℕ) → needed_by session ≤ 41 * n → after.head ≤ before.head + left_by halt (needed_for size request n))

-- a request came to such an end; whichever it was, no more pages were read than it reads at most
pub record Answered (tells : Type 0) (before after : Outside) (session : Session) (size : ℕ) (request : Request) (left left_now : Option (List ℕ)) (old new : Room) (written written_now : Option (List ℕ)) (result : Result Session Halt) : Type 0 where
  pub gone : List ℕ
  pub came : Came left left_now old new.left (IsShorter (bytes_behind request.kind request.length)) (gone ++ new.ahead)
  pub ends : AnswerEnd tells before after session size request left_now gone new.ahead written written_now result
  pub limit : IfErr result (λ halt. halt ≡ halts.Client stops.Limit → new.left ≡ 0)
  pub reads : tells → after.reads ≤ before.reads + reads_for size request

pub record FitsExchange (size : ℕ) (exchange : Exchange) : Type 0 where
  pub sent : FitsSent exchange.sent
  pub other : exchange.sent.head.kind ≢ kinds.Disconnect
  pub reply : IsReplyTo size exchange.sent.head exchange.reply

abbrev pub sent_bytes : Exchange → List ℕ
sent_bytes exchange = request_bytes exchange.sent

abbrev pub replied_bytes : Exchange → List ℕ
replied_bytes exchange = reply_bytes exchange.reply

-- bytes that are the first of these requests, and behind them what may still become another
abbrev pub AwaitsMore : List Exchange → List ℕ → Type 0
AwaitsMore exchanges bytes = (first : List Exchange) × (others : List Exchange) × (part : List ℕ) × (exchanges ≡ first ++ others) × (bytes ≡ flat_map sent_bytes first ++ part) × AwaitsRequest part

-- a disconnect, and behind it what was not looked at
abbrev pub IsGoodbye : List ℕ → List ℕ → Type 0
IsGoodbye rest ahead = (request : Request) × (request.kind ≡ kinds.Disconnect) × (rest ≡ request_head request ++ ahead)

-- a request of which a reply was put in part
pub record IsCutOff (size : ℕ) (rest ahead part : List ℕ) : Type 0 where
  pub exchange : Exchange
  pub fits : FitsExchange size exchange
  pub is : rest ≡ sent_bytes exchange ++ ahead
  pub count : ℕ
  pub put : part ≡ take count (replied_bytes exchange)

-- how requests ended, all of which have their reply: with a rest behind them, and a part of one reply
-- more. Where the device halted the run, the rest begins with a request that may do so
abbrev pub ServedEnd : ℕ → List ℕ → List ℕ → Option (List ℕ) → List ℕ → Result (Unit {0}) Halt → Type 0
ServedEnd size rest part left ahead (Ok done) = (part ≡ []) × (((rest ≡ []) × IsAtEnd left) ⊎ IsGoodbye rest ahead)
ServedEnd size rest part left ahead (Err halts.Unfinished) = (part ≡ []) × IsGoodbye rest ahead
ServedEnd size rest part left ahead (Err (halts.Client stops.Source)) = (part ≡ []) × AwaitsRequest rest
ServedEnd size rest part left ahead (Err (halts.Client stops.Limit)) = (part ≡ []) × AwaitsRequest rest
ServedEnd size rest part left ahead (Err (halts.Client stops.Broken)) = (part ≡ []) × IsBrokenRequest left rest
ServedEnd size rest part left ahead (Err (halts.Client stops.Sink)) = IsCutOff size rest ahead part
ServedEnd size rest part left ahead (Err halts.Platform) = (part ≡ []) × BeginsWith size (λ kind. Unit {0}) rest
ServedEnd size rest part left ahead (Err halts.Tape) = (part ≡ []) × BeginsWith size DrawsKeys rest
ServedEnd size rest part left ahead (Err halts.Ledger) = (part ≡ []) × BeginsWith size IsOfCommit rest
ServedEnd size rest part left ahead (Err halts.Memory) = (part ≡ []) × BeginsWith size IsOfCommit rest
ServedEnd size rest part left ahead (Err halts.BadRoot) = ⊥
ServedEnd size rest part left ahead (Err halts.NoDevice) = ⊥

-- these bytes begin with a flush or a disconnect
abbrev pub IsCommit : List ℕ → Type 0
IsCommit rest = (request : Request) × (more : List ℕ) × IsOfCommit request.kind × (rest ≡ request_head request ++ more)

-- the state that lies ahead of the last one when requests ended, if one does: that of a disconnect
-- that was served; that of a request of which the reply was put in part; or, where the platform failed
-- in its commit, perhaps that of a flush or a disconnect. Where the ledger failed, or no memory was given, there
-- was something to commit in the last one
abbrev pub IsAhead : ℕ → ℕ → List ℕ → List ℕ → List ℕ → Result (Unit {0}) Halt → Held → List Held → Type 0
IsAhead capacity size rest tail part (Ok done) last ahead = ((rest ≡ []) × (ahead ≡ [])) ⊎ (IsGoodbye rest tail × (next : Held) × (ahead ≡ next ∷ []) × Ends capacity last next)
IsAhead capacity size rest tail part (Err (halts.Client stops.Sink)) last ahead = (cut : IsCutOff size rest tail part) × (next : Held) × (ahead ≡ next ∷ []) × Turn capacity last cut.exchange.sent cut.exchange.reply next
IsAhead capacity size rest tail part (Err halts.Platform) last ahead = (ahead ≡ []) ⊎ (IsCommit rest × (next : Held) × (ahead ≡ next ∷ []) × Ends capacity last next)
IsAhead capacity size rest tail part (Err halts.Unfinished) last ahead = (ahead ≡ []) × IsUnfinished capacity last
IsAhead capacity size rest tail part (Err (halts.Client stops.Source)) last ahead = ahead ≡ []
IsAhead capacity size rest tail part (Err (halts.Client stops.Limit)) last ahead = ahead ≡ []
IsAhead capacity size rest tail part (Err (halts.Client stops.Broken)) last ahead = ahead ≡ []
IsAhead capacity size rest tail part (Err halts.Tape) last ahead = ahead ≡ []
IsAhead capacity size rest tail part (Err halts.Ledger) last ahead = (ahead ≡ []) × HasToCommit capacity last
IsAhead capacity size rest tail part (Err halts.Memory) last ahead = (ahead ≡ []) × HasToCommit capacity last
IsAhead capacity size rest tail part (Err halts.BadRoot) last ahead = ⊥
IsAhead capacity size rest tail part (Err halts.NoDevice) last ahead = ⊥

-- how a run goes on to its end from the last of its states: to what lies ahead, and to so many pages
pub record EndsFrom (capacity size : ℕ) (rest tail part : List ℕ) (now : ℕ) (result : Result (Unit {0}) Halt) (last : Held) (ahead : List Held) : Type 0 where
  pub to : IsAhead capacity size rest tail part result last ahead
  pub near : IsNear size rest result now last ahead

-- requests that came, and the replies that were put, one for each in their order. From each state that
-- the run may have begun from the replies are those of the array, and each moment of the run has one
-- of the devices that they lead through; and with enough pages free each request is done. A reply that
-- tells of damage, which none does from such a state, was put where a page didn't fit its place; and one
-- that tells of want of pages says what is true of those that are free at the end. No more pages were read
-- than these requests read at most, and the last one that came without a reply, beside so many looks at the
-- cell before them; and so it is of how often the platform synced or changed the cell
pub record Served (From : Held → Type 0) (tells : Type 0) (tally : Tally) (before after : Outside) (size : ℕ) (left left_now : Option (List ℕ)) (old new : Room) (written written_now : Option (List ℕ)) (result : Result (Unit {0}) Halt) : Type 0 where
  pub exchanges : List Exchange
  pub came : List ℕ
  pub put : List ℕ
  pub rest : List ℕ
  pub part : List ℕ
  pub takes : Came left left_now old new.left (AwaitsMore exchanges) came
  pub got : Got written put written_now
  pub fit : All (FitsExchange size) exchanges
  pub said : came ≡ flat_map sent_bytes exchanges ++ rest
  pub replied : put ≡ flat_map replied_bytes exchanges ++ part
  pub ends : ServedEnd size rest part left_now new.ahead result
  pub limit : IfErr result (λ halt. halt ≡ halts.Client stops.Limit → new.left ≡ 0)
  pub led : (entry : Held) → From entry → OnArray before after entry (map sent_of exchanges) (map told_of exchanges) (EndsFrom before.capacity size rest new.ahead part after.head result)
  pub damage : tells → (end : ℕ) × (last : Session) × ToldTrue size before.history after.history exchanges end last
  pub short : AreShort size (after.capacity - after.head) 0 exchanges
  pub reads : tells → HasRead size rest (before.reads + tally.looks + reads_in size exchanges) after.reads
  pub changes : tells → HasChanged size rest (changes_in size exchanges) tally.changes tally.changes_now
  pub unfinished : result ≡ Err halts.Unfinished → after.capacity - after.head < 41 * updates_in size 0 exchanges
  pub complete : (entry : Held) → From entry → size ≡ size_of entry → HasRoom before.capacity size entry exchanges → Completes size exchanges result

-- how a disconnect may end
abbrev pub EndsByDisconnect : Result (Unit {0}) Halt → Type 0
EndsByDisconnect (Ok done) = Unit {0}
EndsByDisconnect (Err halts.Platform) = Unit {0}
EndsByDisconnect (Err halts.Tape) = Unit {0}
EndsByDisconnect (Err halts.Ledger) = Unit {0}
EndsByDisconnect (Err halts.Memory) = Unit {0}
EndsByDisconnect (Err halts.Unfinished) = Unit {0}
EndsByDisconnect (Err halts.BadRoot) = ⊥
EndsByDisconnect (Err halts.NoDevice) = ⊥
EndsByDisconnect (Err (halts.Client stop)) = ⊥
