-- What requests make of a session's array, and of the device below it.
use Rattle.std.specs.Prelude.{◌≡◌, ◌⊎◌, ◌≤◌, ◌+◌, ◌-◌, ℕ, List, [], ◌∷◌, ◌++◌, Option, None, Some, Result, Ok, Err, IfOk, IfSome}
use Rattle.sdbt_base.specs.Arrays.{session_on}
use Rattle.platform.specs.declared.platforms.Platform.{Ghosts as PlatformGhosts}
use Rattle.page_store.specs.Stands.{Stands}
use Rattle.device_terms.specs.Served.{IsServedImage}
use Rattle.device_course.specs.Course.{MadeBetween}
use Rattle.device_course.specs.States.{Outside}
use Rattle.device_session.specs.Sessions.{Session}
use Rattle.nbd_lang.specs.Replies.{Reply}
use Rattle.nbd_lang.specs.Requests.{RequestSent, request_head}
use Rattle.nbd_lang.specs.declared.requests.Request.{Request}
use Rattle.nbd_lang.specs.Refusals.{refusal}
use Rattle.nbd_lang.specs.declared.replies.Outcome.{Outcome}
use Rattle.nbd_lang.specs.declared.replies.Outcome.TheVariants as outcomes
use Rattle.nbd_lang.specs.declared.requests.RequestKind.{RequestKind}
use Rattle.nbd_lang.specs.declared.requests.RequestKind.TheVariants as kinds
use Rattle.device_course.specs.Held.{Held, IsHeld, device_of}
use Rattle.device_course.specs.Leading.{Led, last_of, marks_of}
use Rattle.nbd_terms.specs.Turn.{Turn, Ends, Flushes, HasToCommit, IsUnfinished}
use Rattle.nbd_core.specs.Serving.{reply_of}
use Rattle.nbd_core.specs.declared.halts.Halt.{Halt}
use Rattle.nbd_core.specs.declared.halts.Halt.TheVariants as halts
use Rattle.nbd_core.specs.declared.serving.Performed.{Performed}
use Rattle.nbd_core.specs.Changes.{Tally}

-- calls for blocks that came to an outcome: from each state that the session and the image stood for
-- they led to one of the same device that these stand for now
abbrev pub LeadsOn : {S : Type 0} → PlatformGhosts S → S → S → Session → Session → (Outcome → Held → Held → Type 0) → Result Outcome Halt → Type 0
LeadsOn P platform platform_now session now Does result =
    P.tells → (entry : Held) → IsHeld (P.history platform).present (P.head platform) session entry
    → IfOk result (λ outcome. (next : Held) × IsHeld (P.history platform_now).present (P.head platform_now) now next × (next.device ≡ entry.device) × Does outcome entry next)

-- a request with its reply, from this state: it led to another, with as many pages as there are, for
-- which the session stands with which the run goes on; and the device came to be the one of that state
pub record Turned (old new : Outside) (after : Option Session) (entry : Held) (sent : RequestSent) (reply : Reply) : Type 0 where
  pub next : Held
  pub pages : next.pages ≡ new.head
  pub held : IfSome after (λ now. IsHeld new.history.present new.head now next)
  pub turn : Turn old.capacity entry sent reply next
  pub made : MadeBetween old.history new.history entry.device (Some next.device ∷ []) next.device

-- requests that make a commit
abbrev pub IsOfCommit : RequestKind → Type 0
IsOfCommit kinds.Flush = Unit {0}
IsOfCommit kinds.Disconnect = Unit {0}
IsOfCommit kinds.Read = ⊥
IsOfCommit kinds.Write = ⊥
IsOfCommit kinds.Trim = ⊥
IsOfCommit (kinds.Other number) = ⊥

-- requests for which keys are drawn
abbrev pub DrawsKeys : RequestKind → Type 0
DrawsKeys kinds.Write = Unit {0}
DrawsKeys kinds.Flush = Unit {0}
DrawsKeys kinds.Disconnect = Unit {0}
DrawsKeys kinds.Read = ⊥
DrawsKeys kinds.Trim = ⊥
DrawsKeys (kinds.Other number) = ⊥

-- which request may halt a run where its client isn't to blame: one that its head doesn't refuse; at a
-- fault of the tape one for which keys are drawn; and at one of the ledger, or for want of memory, one
-- that makes a commit: to each other one want of memory is a reply
abbrev pub MayHalt : RequestKind → Option Outcome → Halt → Type 0
MayHalt kind refused halts.Platform = refused ≡ None
MayHalt kind refused halts.Tape = (refused ≡ None) × DrawsKeys kind
MayHalt kind refused halts.Ledger = (refused ≡ None) × IsOfCommit kind
MayHalt kind refused halts.Memory = (refused ≡ None) × IsOfCommit kind
MayHalt kind refused (halts.Client stop) = Unit {0}
MayHalt kind refused halts.BadRoot = ⊥
MayHalt kind refused halts.NoDevice = ⊥
MayHalt kind refused halts.Unfinished = ⊥

-- requests for which blocks are read, written or trimmed
abbrev pub IsOfBlocks : RequestKind → Type 0
IsOfBlocks kinds.Read = Unit {0}
IsOfBlocks kinds.Write = Unit {0}
IsOfBlocks kinds.Trim = Unit {0}
IsOfBlocks kinds.Flush = ⊥
IsOfBlocks kinds.Disconnect = ⊥
IsOfBlocks (kinds.Other number) = ⊥

-- what a request may come to that its head doesn't refuse, on any image: it is done; memory lacks, or a
-- page doesn't fit, for one of blocks; and pages lack for one that draws keys
abbrev pub MayCome : RequestKind → Outcome → Type 0
MayCome kind outcomes.Done = Unit {0}
MayCome kind outcomes.NoMemory = IsOfBlocks kind
MayCome kind outcomes.Damaged = IsOfBlocks kind
MayCome kind outcomes.NoSpace = DrawsKeys kind
MayCome kind outcomes.Invalid = ⊥

abbrev pub EndsAs : RequestKind → Result Outcome Halt → Type 0
EndsAs kind (Ok outcome) = MayCome kind outcome
EndsAs kind (Err halt) = MayHalt kind None halt

-- what a request comes to: what its head is refused with, if it is; else what it may come to
abbrev pub ComesTo : RequestKind → Option Outcome → Outcome → Type 0
ComesTo kind refused outcome = IfSome refused (λ why. outcome ≡ why) × (refused ≡ None → MayCome kind outcome)

abbrev pub IsByHead : RequestKind → Option Outcome → Result Outcome Halt → Type 0
IsByHead kind refused (Ok outcome) = ComesTo kind refused outcome
IsByHead kind refused (Err halt) = MayHalt kind refused halt

-- the same of what was performed
abbrev pub EndsByHead : RequestKind → Option Outcome → Result Performed Halt → Type 0
EndsByHead kind refused (Ok done) = ComesTo kind refused done.outcome
EndsByHead kind refused (Err halt) = MayHalt kind refused halt

-- these bytes begin with a request that its head doesn't refuse, of such a kind
abbrev pub BeginsWith : ℕ → (RequestKind → Type 0) → List ℕ → Type 0
BeginsWith size Is bytes = (request : Request) × (more : List ℕ) × (refusal size request ≡ None) × Is request.kind × (bytes ≡ request_head request ++ more)

-- what a request led to that halted the run: nothing; or, where the platform failed in a commit, it may
-- be the commit's state. Where too few pages are free for the commit of a disconnect, they are; and where the
-- ledger failed, or no memory was given, there was something to commit
abbrev pub HaltsAt : ℕ → Held → RequestKind → List Held → Halt → Type 0
HaltsAt capacity entry kind ahead halts.Platform = (ahead ≡ []) ⊎ (IsOfCommit kind × (next : Held) × (ahead ≡ next ∷ []) × Ends capacity entry next)
HaltsAt capacity entry kind ahead halts.Unfinished = (ahead ≡ []) × IsUnfinished capacity entry
HaltsAt capacity entry kind ahead halts.Tape = ahead ≡ []
HaltsAt capacity entry kind ahead halts.Ledger = (ahead ≡ []) × HasToCommit capacity entry
HaltsAt capacity entry kind ahead halts.Memory = (ahead ≡ []) × HasToCommit capacity entry
HaltsAt capacity entry kind ahead halts.BadRoot = ahead ≡ []
HaltsAt capacity entry kind ahead halts.NoDevice = ahead ≡ []
HaltsAt capacity entry kind ahead (halts.Client stop) = ahead ≡ []

-- a request without a reply, from this state
pub record Halted (old new : Outside) (entry : Held) (kind : RequestKind) (halt : Halt) : Type 0 where
  pub ahead : List Held
  pub is : HaltsAt old.capacity entry kind ahead halt
  pub made : MadeBetween old.history new.history entry.device (marks_of device_of ahead) (last_of entry ahead).device

-- the same from each state that a session stands for
abbrev pub Turns : Type 0 → Outside → Outside → Session → Option Session → RequestSent → Reply → Type 0
Turns tells old new session after sent reply = tells → (entry : Held) → IsHeld old.history.present old.head session entry → Turned old new after entry sent reply

abbrev pub Halts : Type 0 → Outside → Outside → Session → RequestKind → Halt → Type 0
Halts tells old new session kind halt = tells → (entry : Held) → IsHeld old.history.present old.head session entry → Halted old new entry kind halt

-- what was done for a request, with so much in the room of a reply
abbrev pub Performs : Type 0 → Outside → Outside → Session → RequestSent → List ℕ → Result Performed Halt → Type 0
Performs tells old new session sent room (Ok done) = Turns tells old new session (Some done.session) sent (reply_of sent.head done.outcome room)
Performs tells old new session sent room (Err halt) = Halts tells old new session sent.head.kind halt

-- a flush: from each state it led to another, as its outcome says
pub record FlushedTo (old new : Outside) (now : Session) (outcome : Outcome) (entry : Held) : Type 0 where
  pub next : Held
  pub held : IsHeld new.history.present new.head now next
  pub is : Flushes (old.capacity - entry.pages) entry outcome next
  pub made : MadeBetween old.history new.history entry.device (Some next.device ∷ []) next.device

abbrev pub Flushed : Type 0 → Outside → Outside → Session → Result Performed Halt → Type 0
Flushed tells old new session (Ok done) = tells → (entry : Held) → IsHeld old.history.present old.head session entry → FlushedTo old new done.session done.outcome entry
Flushed tells old new session (Err halt) = Halts tells old new session kinds.Flush halt

-- a disconnect: its commit was done, or it halted the run
pub record Ended (old new : Outside) (entry : Held) : Type 0 where
  pub next : Held
  pub pages : next.pages ≡ new.head
  pub is : Ends old.capacity entry next
  pub made : MadeBetween old.history new.history entry.device (Some next.device ∷ []) next.device

abbrev pub Finishes : Type 0 → Outside → Outside → Session → Result (Unit {0}) Halt → Type 0
Finishes tells old new session (Ok done) = tells → (entry : Held) → IsHeld old.history.present old.head session entry → Ended old new entry
Finishes tells old new session (Err halt) = Halts tells old new session kinds.Disconnect halt

-- a part of a run, from this state: requests had these replies, and led through states; these, and what
-- lay ahead when it ended, are the devices that were made
pub record OnArray (old new : Outside) (entry : Held) (asked : List RequestSent) (replies : List Reply) (IsEnd : Held → List Held → Type 0) : Type 0 where
  pub ahead : List Held
  pub led : Led (Turn old.capacity) device_of (MadeBetween old.history new.history) entry asked replies ahead
  pub ends : IsEnd (last_of entry led.states) ahead

-- no page was added or read, beside so many looks at the cell, and nothing was synced; and from each of these states the device stayed
pub record Stayed (From : Held → Type 0) (tells : Type 0) (tally : Tally) (old new : Outside) : Type 0 where
  pub pages : new.head ≡ old.head
  pub reads : tells → new.reads ≤ old.reads + tally.looks
  pub changes : tells → tally.changes_now ≡ tally.changes
  pub made : (entry : Held) → From entry → MadeBetween old.history new.history entry.device [] entry.device

-- the device that the image stands for, with a session just mounted on it
pub record IsStart (tells : Type 0) (here : Outside) (held : Held) : Type 0 where
  pub told : tells
  pub stands : Stands here.history.present (Some held.device)
  pub served : IsServedImage here.history.present
  pub session : held.session ≡ session_on held.device
  pub pages : held.pages ≡ here.head
  pub updates : held.updates ≡ 0

-- a state that this session stands for
abbrev pub IsFrom : Type 0 → Outside → Session → Held → Type 0
IsFrom tells here session held = tells × IsHeld here.history.present here.head session held
