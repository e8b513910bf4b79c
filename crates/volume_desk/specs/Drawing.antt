-- Which keys a line draws, each of which seals a page that is added, and how many pages it reads.
use Rattle.std.specs.Prelude.{◌≡◌, ◌≤◌, ◌+◌, ℕ, List, ◌∷◌, [], Option, None, Some, Result, IfOk, length}
use Rattle.page_store.specs.Keeping.{DrewAll}
use Rattle.session_calls.specs.declared.stops.DeviceStop.{DeviceStop}
use Rattle.volume_lines.specs.Lines.{Line, Create, Write, Destroy, Commit}
use Rattle.volume_lines.specs.Replies.{Reply, Created, Done, Destroyed, Uncommitted, Committed, said}
use Rattle.volume_lines.specs.declared.replies.Reply.{Reply as Given}
use Rattle.volume_table.specs.declared.volume.Volume.{Volume}
use Rattle.volume_desk.specs.Causes.{Draws}
use Rattle.volume_desk.specs.Reads.{reads_in}

-- the keys that a tape drew, and how many pages there are
pub record Tally : Type 0 where
  pub drawn : Option (List (List ℕ))
  pub pages : ℕ

abbrev pub tally : Option (List (List ℕ)) → ℕ → Tally
tally drawn pages = record { drawn = drawn; pages = pages }

-- the keys drawn now are those drawn before and these, and as many pages were added
pub record Seals (from : Tally) (keys : List (List ℕ)) (now : Tally) : Type 0 where
  pub drew : DrewAll from.drawn keys now.drawn
  pub adds : now.pages ≡ from.pages + length keys

-- a line with this reply draws so many keys: one where it writes a block, be it the table's; one for the table and those of its commit where a volume is destroyed; those of its commit where it commits; and else
-- none
abbrev pub AreDrawnFor : Line → Reply → ℕ → Type 0
AreDrawnFor (Create name count) Created many = many ≡ 1
AreDrawnFor (Write name block content) Done many = many ≡ 1
AreDrawnFor (Destroy name) (Destroyed number) many = 1 ≤ many
AreDrawnFor (Destroy name) Uncommitted many = many ≡ 1
AreDrawnFor Commit (Committed number) many = Unit {0}
AreDrawnFor _ _ many = many ≡ 0

-- a line with this reply drew so many, each for a page
abbrev pub DrewFor : Tally → Line → Reply → Tally → Type 0
DrewFor from it reply now = (keys : List (List ℕ)) × AreDrawnFor it reply (length keys) × Seals from keys now

-- one key was drawn, for a page
abbrev pub DrewOne : Tally → Tally → Type 0
DrewOne from now = (key : List ℕ) × Seals from (key ∷ []) now

-- a volume is taken out, for which the table is written; or why it isn't
abbrev pub TakesDrew : Tally → Tally → List ℕ → List ℕ → Option Given → Type 0
TakesDrew from now name buffer None = DrewOne from now
TakesDrew from now name buffer (Some reply) = DrewFor from (Destroy name) (said reply buffer) now

-- what a line costs: one that draws no key leaves the tape, and adds no page; with a reply it drew as many as that says; and over this table it read as many pages at most as its answer says
pub record Spends {T : Type 0} (tells : Type 0) (tape tape_now : T) (from now : Tally) (reads reads_now : ℕ) (table : List Volume) (it : Line) (buffer : List ℕ) (answer : Result Given DeviceStop) : Type 0 where
  pub undrawn : (Draws it → ⊥) → tape_now ≡ tape
  pub unadded : (Draws it → ⊥) → now.pages ≡ from.pages
  pub drew : IfOk answer (λ reply. DrewFor from it (said reply buffer) now)
  pub read : tells → reads_now ≤ reads + reads_in table it buffer answer
