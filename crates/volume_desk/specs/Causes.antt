-- Why a line is answered so, or the device stops at it, on any pages, forged ones too: by the table in memory, by the line's name and numbers, and by the pages that are free; and what a line that is done found or left.
use Rattle.std.specs.Prelude.{◌≡◌, ◌≤◌, ◌<◌, ◌-◌, ◌⊎◌, ℕ, List, Option, None, Some, Result, Ok, Err}
use Rattle.platform.specs.Image.{Image}
use Rattle.platform.specs.History.{History, moment}
use Rattle.device_session.specs.Damage.{IsAtLimit}
use Rattle.device_session.specs.Open.{needed_by}
use Rattle.device_session.specs.Sessions.{Session}
use Rattle.session_calls.specs.Damage.{IsMiscountedAt, IsMounted, IsWrongNode, IsWrongPlace}
use Rattle.session_calls.specs.declared.stops.DeviceStop.{DeviceStop}
use Rattle.session_calls.specs.declared.stops.DeviceStop.TheVariants as stops
use Rattle.volume_table.specs.Tables.{Lacks}
use Rattle.volume_table.specs.declared.volume.Volume.{Volume}
use Rattle.volume_lines.specs.Lines.{Line, Create, Read, Write, Trim, Destroy, Commit}
use Rattle.volume_lines.specs.Replies.{Reply, Created, Exists, NoRoom, Unknown, Content, Done, Range, Full, Destroyed, Uncommitted, Committed, said}
use Rattle.volume_lines.specs.declared.replies.Reply.{Reply as Given}
use Rattle.volume_terms.specs.Volumes.{HasNoRoom, IsCount, IsNamed, IsNew, IsTaken}
use Rattle.volume_desk.specs.Done.{Across, AcrossIf, DoesAny, IsCleared, WasOver}
use Rattle.volume_desk.specs.declared.serving.Answered.{Answered}

-- how many blocks the device has, how many pages there are, and how many there can be
pub record Sizes : Type 0 where
  pub blocks : ℕ
  pub pages : ℕ
  pub capacity : ℕ

abbrev pub sizes : ℕ → ℕ → ℕ → Sizes
sizes blocks pages capacity = record { blocks = blocks; pages = pages; capacity = capacity }

-- ---- replies

-- the volume of this name has such a block
abbrev pub HasBlock : List Volume → List ℕ → ℕ → Type 0
HasBlock table name block = (v : Volume) × IsNamed table name v × (block < v.count)

-- the reply where there is no such block
abbrev pub LacksBlock : List Volume → List ℕ → ℕ → Reply → Type 0
LacksBlock table name block Unknown = Lacks table name
LacksBlock table name block Range = (v : Volume) × IsNamed table name v × (v.count ≤ block)
LacksBlock table name block _ = ⊥

-- the line is refused so for its name or its numbers, over this table of a device with so many blocks
abbrev pub IsRefused : ℕ → List Volume → Line → Reply → Type 0
IsRefused blocks table (Create name count) Exists = (v : Volume) × IsNamed table name v
IsRefused blocks table (Create name count) Range = Lacks table name × ((count ≡ 0) ⊎ (blocks < count))
IsRefused blocks table (Create name count) NoRoom = Lacks table name × IsCount blocks count × HasNoRoom blocks table count
IsRefused blocks table (Read name block) reply = LacksBlock table name block reply
IsRefused blocks table (Write name block content) reply = LacksBlock table name block reply
IsRefused blocks table (Trim name block) reply = LacksBlock table name block reply
IsRefused blocks table (Destroy name) Unknown = Lacks table name
IsRefused blocks table _ _ = ⊥

-- it isn't, and once it is done the table is this one
abbrev pub IsAccepted : ℕ → List Volume → Line → List Volume → Type 0
IsAccepted blocks table (Create name count) next = Lacks table name × IsCount blocks count × (v : Volume) × IsNew blocks table name count v next
IsAccepted blocks table (Read name block) next = HasBlock table name block × (next ≡ table)
IsAccepted blocks table (Write name block content) next = HasBlock table name block × (next ≡ table)
IsAccepted blocks table (Trim name block) next = HasBlock table name block × (next ≡ table)
IsAccepted blocks table (Destroy name) next = (v : Volume) × (v.name ≡ name) × IsTaken table v next
IsAccepted blocks table Commit next = next ≡ table

-- fewer pages are free than a commit needs that needs so many
abbrev pub IsShortOf : Sizes → ℕ → Type 0
IsShortOf here needed = here.capacity - here.pages < needed

-- the reply says that it is done, and be it without the commit of a destroy: so it is only where fewer pages are free than the changes need that there are behind it
abbrev pub IsDone : Sizes → ℕ → Line → Reply → Type 0
IsDone here behind (Create name count) Created = Unit {0}
IsDone here behind (Read name block) (Content bytes) = Unit {0}
IsDone here behind (Write name block content) Done = Unit {0}
IsDone here behind (Trim name block) Done = Unit {0}
IsDone here behind (Destroy name) (Destroyed number) = Unit {0}
IsDone here behind (Destroy name) Uncommitted = IsShortOf here behind
IsDone here behind Commit (Committed number) = Unit {0}
IsDone here behind _ _ = ⊥

-- pages lack for it: it wants one, and none is free; or it commits, and fewer are free than the session's changes need
abbrev pub LacksPages : Sizes → ℕ → Line → Type 0
LacksPages here needed (Create name count) = here.capacity ≤ here.pages
LacksPages here needed (Write name block content) = here.capacity ≤ here.pages
LacksPages here needed (Destroy name) = here.capacity ≤ here.pages
LacksPages here needed Commit = IsShortOf here needed
LacksPages here needed _ = ⊥

-- a reply to the line, over this table, and the table behind it: the line is refused; or it is accepted, and done, or pages lack. So many pages are needed by what the session had
-- changed before the line, and so many by what it has changed behind it
abbrev pub TurnsTable : Sizes → ℕ → ℕ → List Volume → Line → Reply → List Volume → Type 0
TurnsTable here needed behind table it reply now =
    (IsRefused here.blocks table it reply × (now ≡ table))
    ⊎ ((next : List Volume) × IsAccepted here.blocks table it next × ((IsDone here behind it reply × (now ≡ next)) ⊎ (LacksPages here needed it × (reply ≡ Full) × (now ≡ table))))

-- ---- stops

-- it draws keys: it writes a block, and be it the table's, or it commits
abbrev pub Draws : Line → Type 0
Draws (Read name block) = ⊥
Draws (Trim name block) = ⊥
Draws _ = Unit {0}

-- it commits, and so the ledger gets an entry
abbrev pub Commits : Line → Type 0
Commits (Destroy name) = Unit {0}
Commits Commit = Unit {0}
Commits _ = ⊥

-- it changes the tree in memory, or commits it, and so takes memory
abbrev pub Changes : Line → Type 0
Changes (Read name block) = ⊥
Changes _ = Unit {0}

-- an update stops at a node's place that doesn't fit, or, only where this holds, at the root node of a tree that is miscounted
abbrev pub IsStepAt : Type 0 → Image → ℕ → Type 0
IsStepAt Bound image addr = IsWrongNode image addr ⊎ (IsMiscountedAt image addr × Bound)

-- and that is what it names
abbrev pub MeetsNode : Type 0 → Image → DeviceStop → Type 0
MeetsNode Bound image (stops.BadRecord addr) = IsStepAt Bound image addr
MeetsNode Bound image _ = Unit {0}

-- no block more can be mapped; or fewer are counted than so many that are trimmed behind a write of the table
abbrev pub IsNearBound : Session → ℕ → Type 0
IsNearBound session count = IsAtLimit session ⊎ (session.mapped < count)

-- the session's count of mapped blocks is, or comes to be, at a bound at which such a line stops: a write where no block more can be mapped, a trim where none is counted, and a line that writes the table and
-- trims the blocks of a volume at the one or the other
abbrev pub IsBounded : Session → List Volume → Line → Type 0
IsBounded session table (Create name count) = IsNearBound session count
IsBounded session table (Write name block content) = IsAtLimit session
IsBounded session table (Trim name block) = session.mapped ≡ 0
IsBounded session table (Destroy name) = (v : Volume) × IsNamed table name v × IsNearBound session v.count
IsBounded session table _ = ⊥

-- it comes to the record at this address, which doesn't fit, where this is known: a read to a place of the tree, and each other line to a node's, or to a root node, since it only updates blocks
abbrev pub MeetsRecord : Type 0 → Image → Session → List Volume → Line → ℕ → Type 0
MeetsRecord Known image session table (Read name block) addr = Known → IsWrongPlace image addr
MeetsRecord Known image session table Commit addr = ⊥
MeetsRecord Known image session table it addr = Known → IsStepAt (IsBounded session table it) image addr

-- such a line, over this session and table, may stop so, behind which there is this image
abbrev pub MayStop : Type 0 → Image → Session → List Volume → Line → DeviceStop → Type 0
MayStop Known image session table it stops.Platform = Unit {0}
MayStop Known image session table it stops.Tape = Draws it
MayStop Known image session table it stops.Ledger = Commits it
MayStop Known image session table it stops.Memory = Changes it
MayStop Known image session table it (stops.BadRecord addr) = MeetsRecord Known image session table it addr
MayStop Known image session table it stops.BadRoot = ⊥

-- and it is one that is not refused
abbrev pub StopsAny : Type 0 → Image → Session → ℕ → List Volume → Line → DeviceStop → Type 0
StopsAny Known image session blocks table it stop = MayStop Known image session table it stop × ((next : List Volume) × IsAccepted blocks table it next)

-- ---- answers

-- the one table of a line's answers on any pages: which replies it may have, and what it did where this is known; or which stops, behind which there is this image
abbrev pub AnswersAny : Type 0 → ((Image → Session → Image → Session → Type 0) → Type 0) → ((Image → Session → Image → Session → Type 0) → Type 0) → Image → Session → Sizes → ℕ → ℕ → List Volume → List Volume → Line → List ℕ → Result Given DeviceStop → Type 0
AnswersAny Known Did HadLeft image session here needed behind table table_now it buffer (Ok reply) =
    TurnsTable here needed behind table it (said reply buffer) table_now × DoesAny (λ Claim. Known → Did Claim) (λ Claim. Known → HadLeft Claim) table (said reply buffer) it table_now
AnswersAny Known Did HadLeft image session here needed behind table table_now it buffer (Err stop) = StopsAny Known image session here.blocks table it stop

-- those of calls for blocks: what it did is so of the session and the image from before, and of those behind
abbrev pub AnswersOver : Type 0 → Image → Image → Session → Session → Sizes → List Volume → List Volume → Line → List ℕ → Result Given DeviceStop → Type 0
AnswersOver tells before image session now here table table_now it buffer result =
    AnswersAny (tells × IsMounted before session) (Across before session image now) (Across before session image now) image session here (needed_by session) (needed_by now) table table_now it buffer result

-- what a commit of the session needs that goes on, if one does
abbrev pub needed_behind : Option Session → ℕ
needed_behind None = 0
needed_behind (Some now) = needed_by now

-- those of a line, behind which this session goes on: what it did is so of that one; and what it left before a commit was so at a moment of the line
abbrev pub AnswersAlong : Type 0 → History → History → Session → Option Session → Sizes → List Volume → List Volume → Line → List ℕ → Result Given DeviceStop → Type 0
AnswersAlong tells old new session after here table table_now it buffer result =
    AnswersAny tells (AcrossIf old.present session new.present after) (λ Claim. WasOver (moment old) (moment new) new (Claim old.present session)) new.present session here (needed_by session) (needed_behind after) table table_now it buffer result

-- the answer of which that speaks
abbrev pub answer_in : Result Answered DeviceStop → Result Given DeviceStop
answer_in (Ok done) = Ok done.reply
answer_in (Err stop) = Err stop

-- a volume that is taken out, of which no block is left; or the line is answered
abbrev pub TakesOver : Type 0 → Image → Image → Session → Session → Sizes → List Volume → List Volume → List ℕ → List ℕ → Result (Option Given) DeviceStop → Type 0
TakesOver tells before image session now here table table_now name buffer (Ok None) = IsAccepted here.blocks table (Destroy name) table_now × (tells × IsMounted before session → IsCleared before session image now table name table_now)
TakesOver tells before image session now here table table_now name buffer (Ok (Some reply)) = AnswersOver tells before image session now here table table_now (Destroy name) buffer (Ok reply)
TakesOver tells before image session now here table table_now name buffer (Err stop) = AnswersOver tells before image session now here table table_now (Destroy name) buffer (Err stop)
