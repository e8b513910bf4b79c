-- What a run leads through that answers one thing after another. `turn` says which answer may be
-- given to what is asked in a state, and to which state that leads; `device` is a state's device.
use Rattle.std.specs.Prelude.{◌≡◌, List, [], ◌∷◌, ◌++◌, map, Option, Some}
use Rattle.sdbt_base.specs.Arrays.{Device}

-- these answers belong to the first of the things that were asked, and lead from this state through
-- these. Things may be left over
abbrev pub Leads : {S A B : Type 0} → (S → A → B → S → Type 0) → S → List A → List B → List S → Type 0
Leads turn entry asked [] [] = Unit {0}
Leads turn entry asked [] (state ∷ states) = ⊥
Leads turn entry asked (answer ∷ answers) [] = ⊥
Leads turn entry [] (answer ∷ answers) (state ∷ states) = ⊥
Leads turn entry (one ∷ asked) (answer ∷ answers) (state ∷ states) = turn entry one answer state × Leads turn state asked answers states

-- the last state, or the one at the start
abbrev pub last_of : {S : Type 0} → S → List S → S
last_of entry [] = entry
last_of entry (state ∷ states) = last_of state states

-- the devices of states
abbrev pub marks_of : {S : Type 0} → (S → Device) → List S → List (Option Device)
marks_of device states = map (λ s. Some (device s)) states

-- a part of a run, from a state: its answers led through these states; and the devices of those and
-- of the ones ahead came to be in their order, which is what `Made` says of the device at the
-- start, the marks, and the device at the end
pub record Led {S A B : Type 0} (turn : S → A → B → S → Type 0) (device : S → Device) (Made : Device → List (Option Device) → Device → Type 0) (entry : S) (asked : List A) (answers : List B) (ahead : List S) : Type 0 where
  pub states : List S
  pub leads : Leads turn entry asked answers states
  pub made : Made (device entry) (marks_of device (states ++ ahead)) (device (last_of entry (states ++ ahead)))

-- the last of the marks is the last device
abbrev pub EndsAt : Device → List (Option Device) → Device → Type 0
EndsAt first marks last = Some last ≡ last_of (Some first) marks
