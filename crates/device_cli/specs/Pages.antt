-- Which replies belong to the lines of a script, on a medium of so many pages.
use Rattle.std.specs.Prelude.{if◌then◌else◌, ◌≡◌, ℕ, ◌+◌, ◌-◌, ◌*◌, ◌<◌, ◌≤◌, ◌==◌, ◌&&◌, Bool, true, false, nat_lt, List, [], ◌∷◌, ◌⊎◌, codes}
use Rattle.script_lang.specs.Grammar.{Spells, IsBad}
use Rattle.script_lang.specs.Arrays.{needs_room, on_device}
use Rattle.sdbt_base.specs.Arrays.{State}
use Rattle.script_lang.specs.Answers.{IsAnswer}
use Rattle.script_lang.specs.Commands.{Command}
use Rattle.script_lang.specs.Commands.{Format, Write, Commit, Upgrade}
use Rattle.script_lang.specs.Replies.{Reply}
use Rattle.script_lang.specs.Replies.{Formatted, Mounted, Done, Committed, Upgraded, Bad, Full}
use Rattle.device_core.specs.Upgrading.{needed_of_device}

-- how many pages an upgrade of the state's device needs
abbrev pub upgrade_of : State → ℕ
upgrade_of state = on_device state.device 0 needed_of_device

-- how many pages a command needs that is accepted, where a commit needs so many, and an upgrade so many
abbrev pub needed_for : Command → ℕ → ℕ → ℕ
needed_for (Format blocks order) changes upgrade = 1
needed_for (Write block content) changes upgrade = 1
needed_for Commit changes upgrade = changes
needed_for Upgrade changes upgrade = upgrade
needed_for _ changes upgrade = 0

-- after so many updates a command needs so many pages: one where it is a format or a write that is accepted, at least one and at most 41 for each update
-- where it is a commit of changes, exactly those of the device where it is an upgrade that is accepted, and else none
pub record Needs (state : State) (command : Command) (updates needed : ℕ) : Type 0 where
  pub within : needed ≤ needed_for command (41 * updates) (upgrade_of state)
  pub some : needs_room state command ≡ true → 1 ≤ needed
  pub none : needs_room state command ≡ false → needed ≡ 0
  pub exact : command ≡ Upgrade → needs_room state command ≡ true → needed ≡ upgrade_of state

-- how many pages there are after a reply to a command that needs so many
abbrev pub pages_after : Reply → ℕ → ℕ → ℕ
pages_after Full needed pages = pages
pages_after _ needed pages = pages + needed

-- how many updates there are after a reply: one more after an accepted write or trim, and none after a mount and a commit
abbrev pub updates_after : Reply → ℕ → ℕ
updates_after Done updates = updates + 1
updates_after (Mounted number) updates = 0
updates_after (Committed number) updates = 0
updates_after _ updates = updates

-- and after some replies
abbrev pub updates_of : ℕ → List Reply → ℕ
updates_of updates [] = updates
updates_of updates (reply ∷ replies) = updates_of (updates_after reply updates) replies

-- what a line meets: the state of the device, how many pages there are, and how many updates came since the mount or the last commit
pub record Standing : Type 0 where
  pub state : State
  pub pages : ℕ
  pub updates : ℕ

abbrev pub standing : State → ℕ → ℕ → Standing
standing state pages updates = record { state = state; pages = pages; updates = updates }

-- this reply belongs to this line on a medium that has room for `capacity` pages: it is `full` exactly where fewer pages are free than are needed. It leads
-- from what the line meets to what the next one does
abbrev pub TurnOn : ℕ → Standing → List ℕ → Reply → Standing → Type 0
TurnOn capacity old line reply new =
    ((command : Command) × Spells line command × (needed : ℕ) × Needs old.state command old.updates needed
    × IsAnswer (nat_lt (capacity - old.pages) needed) old.state command reply new.state
    × (new.pages ≡ pages_after reply needed old.pages) × (new.updates ≡ updates_after reply old.updates))
    ⊎ (IsBad line × (reply ≡ Bad) × (new ≡ old))

-- these replies belong to the first of these lines, as many as there are replies. They lead from old to new
abbrev pub AnswersOn : ℕ → Standing → List (List ℕ) → List Reply → Standing → Type 0
AnswersOn capacity old lines [] new = new ≡ old
AnswersOn capacity old [] (reply ∷ replies) new = ⊥
AnswersOn capacity old (line ∷ lines) (reply ∷ replies) new = (mid : Standing) × TurnOn capacity old line reply mid × AnswersOn capacity mid lines replies new

-- how many formats and updates were accepted
abbrev pub accepted_by : Reply → ℕ
accepted_by Formatted = 1
accepted_by Done = 1
accepted_by _ = 0

abbrev pub accepted : List Reply → ℕ
accepted [] = 0
accepted (reply ∷ replies) = accepted_by reply + accepted replies

-- how many upgrades were accepted
abbrev pub upgraded_by : Reply → ℕ
upgraded_by (Upgraded number) = 1
upgraded_by _ = 0

abbrev pub upgrades : List Reply → ℕ
upgrades [] = 0
upgrades (reply ∷ replies) = upgraded_by reply + upgrades replies

-- how many pages an upgrade needs at most, where so many blocks are mapped at most
abbrev pub most_upgrade : ℕ → ℕ
most_upgrade mapped = 2 * mapped + 1

-- too few pages are free for a command: none for a format or a write, fewer than 41 for each update for a commit, and fewer than some upgrade of a device needs
abbrev pub IsShort : Command → ℕ → ℕ → ℕ → Type 0
IsShort Commit updates head capacity = capacity - head < 41 * updates
IsShort Upgrade updates head capacity = capacity - head < most_upgrade 1048576
IsShort _ updates head capacity = head ≡ capacity

-- what the replies to these lines say that are `full`, holds with so many pages, where so many updates came before
abbrev pub AreShort : ℕ → ℕ → ℕ → List (List ℕ) → List Reply → Type 0
AreShort head capacity updates lines [] = Unit {0}
AreShort head capacity updates [] (reply ∷ replies) = ⊥
AreShort head capacity updates (line ∷ lines) (reply ∷ replies) =
    (reply ≡ Full → (command : Command) × Spells line command × IsShort command updates head capacity)
    × AreShort head capacity (updates_after reply updates) lines replies

-- and what those to `upgrade` lines say, where so many blocks were mapped at most before: fewer pages are free than an upgrade needs of a device with these,
-- and one more for each line before
abbrev pub AreFew : ℕ → ℕ → ℕ → List (List ℕ) → List Reply → Type 0
AreFew head capacity mapped lines [] = Unit {0}
AreFew head capacity mapped [] (reply ∷ replies) = ⊥
AreFew head capacity mapped (line ∷ lines) (reply ∷ replies) =
    (Spells line Upgrade → reply ≡ Full → capacity - head < most_upgrade mapped) × AreFew head capacity (mapped + 1) lines replies

-- whether two texts are the same
abbrev pub is_same : List ℕ → List ℕ → Bool
is_same [] [] = true
is_same [] (byte ∷ bytes) = false
is_same (byte ∷ bytes) [] = false
is_same (byte ∷ bytes) (other ∷ others) = (byte == other) && is_same bytes others

-- how many of these lines spell `upgrade`
abbrev pub upgrade_lines : List (List ℕ) → ℕ
upgrade_lines [] = 0
upgrade_lines (line ∷ lines) = (if is_same line (codes "upgrade") then 1 else 0) + upgrade_lines lines

-- the line after those that have replies
abbrev pub IfNext : List Reply → List (List ℕ) → (List ℕ → Type 0) → Type 0
IfNext [] [] P = ⊥
IfNext [] (line ∷ lines) P = P line
IfNext (reply ∷ replies) [] P = ⊥
IfNext (reply ∷ replies) (line ∷ lines) P = IfNext replies lines P
