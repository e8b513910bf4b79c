-- Which replies belong to the lines of a script.
use Rattle.std.specs.Prelude.{◌≡◌, ℕ, Bool, ◌&&◌, if◌then◌else◌, List, [], ◌∷◌, ◌⊎◌, Option, ◌≤◌, length, take}
use Rattle.script_lang.specs.Commands.{Command}
use Rattle.script_lang.specs.Replies.{Reply}
use Rattle.script_lang.specs.Replies.{Bad, Full}
use Rattle.sdbt_base.specs.Arrays.{Device, State}
use Rattle.script_lang.specs.Grammar.{Spells, IsBad}
use Rattle.script_lang.specs.Arrays.{Counted, needs_room, step}

-- a seizure that counts nothing
abbrev pub none_counted : Counted
none_counted = record { pages = 0; nodes = 0; blocks = 0 }

-- the reply to a command on a medium that is full, or isn't, and the state after it
abbrev pub answer : Bool → Counted → State → Command → Reply × State
answer full counted state command = if needs_room state command && full then (Full, state) else step counted state command

-- this reply may be given to this command, and leads from old to new. What a seizure counts is free
abbrev pub IsAnswer : Bool → State → Command → Reply → State → Type 0
IsAnswer full old command reply new = (counted : Counted) × ((reply, new) ≡ answer full counted old command)

-- this reply may be given to this line, and leads from old to new. Whether the medium is full is free
abbrev pub Turn : State → List ℕ → Reply → State → Type 0
Turn old line reply new =
    ((command : Command) × Spells line command × (full : Bool) × IsAnswer full old command reply new)
    ⊎ (IsBad line × (reply ≡ Bad) × (new ≡ old))

-- these replies may be given to the first of these lines, as many as there are replies, and lead from old to new
abbrev pub Answers : State → List (List ℕ) → List Reply → State → Type 0
Answers old lines [] new = new ≡ old
Answers old [] (reply ∷ replies) new = ⊥
Answers old (line ∷ lines) (reply ∷ replies) new = (mid : State) × Turn old line reply mid × Answers mid lines replies new

-- the device after the first n replies. These devices are the marks, in the order of n: the one before all replies,
-- and one more after each accepted format, each commit that raises the number, each erase and each accepted upgrade
abbrev pub IsMark : State → List (List ℕ) → List Reply → ℕ → Option Device → Type 0
IsMark old lines replies n device = (n ≤ length replies) × (new : State) × Answers old lines (take n replies) new × (new.device ≡ device)
