-- A medium that is not full.
use Rattle.std.proofs.Common.{◌≡◌, Bool, true, false, Option, None, Some, inl, inr, refl}
use Rattle.std.specs.Prelude.{◌&&◌, ◌==◌, nat_lt}
use Rattle.std.proofs.lemmas.Bool.{cases_Bool}
use Rattle.sdbt_base.specs.Arrays.{Device, Session as OpenSession, State}
use Rattle.script_lang.specs.Arrays.{Counted, in_limits, needs_room, step}
use Rattle.script_lang.specs.Answers.{answer}
use Rattle.script_lang.specs.Commands.{Command, Format, Mount, Read, Write, Trim, Commit, Drop, Erase, Upgrade, Seize}
use Rattle.script_lang.specs.Commands as commands
use Rattle.script_lang.specs.Replies.{Full}

-- a state of these parts
abbrev parts : Option Device → Option OpenSession → State
parts there opened = record { device = there; session = opened }

-- the array itself never answers that no page is free
step_room : (counted : Counted) (there : Option Device) (opened : Option OpenSession) (command : Command) → (step counted (parts there opened) command).0 ≡ Full → ⊥
step_room counted None opened (Format blocks order) e = elim (cases_Bool (in_limits blocks order)) [
  | inl holds ↦ let f = rw holds at e in cc
  | inr fails ↦ let f = rw fails at e in cc
]
step_room counted (Some d) opened (Format blocks order) e = cc
step_room counted None None Mount e = cc
step_room counted (Some d) None Mount e = cc
step_room counted there (Some t) Mount e = cc
step_room counted None opened (Read block) e = cc
step_room counted (Some d) None (Read block) e = cc
step_room counted (Some d) (Some t) (Read block) e = elim (cases_Bool (nat_lt block d.blocks)) [
  | inl holds ↦ let f = rw holds at e in cc
  | inr fails ↦ let f = rw fails at e in cc
]
step_room counted None opened (Write block content) e = cc
step_room counted (Some d) None (Write block content) e = cc
step_room counted (Some d) (Some t) (Write block content) e = elim (cases_Bool (nat_lt block d.blocks)) [
  | inl holds ↦ let f = rw holds at e in cc
  | inr fails ↦ let f = rw fails at e in cc
]
step_room counted None opened (Trim block) e = cc
step_room counted (Some d) None (Trim block) e = cc
step_room counted (Some d) (Some t) (Trim block) e = elim (cases_Bool (nat_lt block d.blocks)) [
  | inl holds ↦ let f = rw holds at e in cc
  | inr fails ↦ let f = rw fails at e in cc
]
step_room counted None opened Commit e = cc
step_room counted (Some d) None Commit e = cc
step_room counted (Some d) (Some t) Commit e = elim (cases_Bool t.touched) [
  | inl holds ↦ let f = rw holds at e in cc
  | inr fails ↦ let f = rw fails at e in cc
]
step_room counted None opened Drop e = cc
step_room counted (Some d) None Drop e = cc
step_room counted (Some d) (Some t) Drop e = cc
step_room counted None opened Erase e = cc
step_room counted (Some d) opened Erase e = cc
step_room counted None None Upgrade e = cc
step_room counted (Some d) None Upgrade e = elim (cases_Bool (d.version == 2)) [
  | inl holds ↦ let f = rw holds at e in cc
  | inr fails ↦ let f = rw fails at e in cc
]
step_room counted there (Some t) Upgrade e = cc
step_room counted None opened commands.Stat e = cc
step_room counted (Some d) None commands.Stat e = cc
step_room counted (Some d) (Some t) commands.Stat e = cc
step_room counted there opened Seize e = cc

and_false : (b : Bool) → (b && false) ≡ false
and_false true = refl
and_false false = refl

-- on a medium that is not full no reply says that it is
pub answer_room : (counted : Counted) (state : State) (command : Command) → (answer false counted state command).0 ≡ Full → ⊥
answer_room counted state command e = let f = rw (and_false (needs_room state command)) at e in step_room counted state.device state.session command f
