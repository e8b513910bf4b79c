-- What a `seize` line tells, and that no other does.
use Rattle.std.proofs.Common.{◌≡◌, ◌≢◌, ℕ, Bool, List, [], Option, None, Some, Result, Ok, Err, refl, sym, ◌∙◌, subst, ap, arith, inl, inr}
use Rattle.std.specs.Prelude.{nat_lt, ◌&&◌, ◌==◌, IfOk, length}
use Rattle.std.proofs.lemmas.Bool.{cases_Bool}
use Rattle.platform.specs.Image.{Image}
use Rattle.platform.specs.History.{Steps, moment}
use Rattle.platform.proofs.Moments.{image_at-now}
use Rattle.seizure.specs.Opened.{count_of_kind, count_of_nodes}
use Rattle.seizure.specs.Report.{Begins, IsSeizure, Seized as Report}
use Rattle.script_lang.specs.Arrays.{Counted, in_limits, needs_room, step}
use Rattle.script_lang.specs.Answers.{answer}
use Rattle.script_lang.specs.Commands.{Command}
use Rattle.script_lang.specs.Commands.{Format, Mount, Read, Write, Trim, Commit, Drop, Erase, Upgrade, Seize}
use Rattle.script_lang.specs.Commands as commands
use Rattle.script_lang.specs.Replies.{Reply}
use Rattle.script_lang.specs.Replies.{Seized}
use Rattle.sdbt_base.specs.Arrays.{Device, Session as OpenSession, State}
use Rattle.device_cli.specs.World.{World, is_full}
use Rattle.device_cli.specs.Replied.{Serves}
use Rattle.device_cli.specs.Represents.{Represents}
use Rattle.device_cli.specs.Seen.{IsCounted, IsSeized, Saw}
use Rattle.session_calls.specs.declared.stops.DeviceStop.{DeviceStop}
use Rattle.device_cli.proofs.SeenLaws.{saw_plain}

-- a state of these parts
abbrev parts : Option Device → Option OpenSession → State
parts there opened = record { device = there; session = opened }

-- no other command tells what a seizure counts
step_seized : (counted : Counted) (there : Option Device) (opened : Option OpenSession) (command : Command) (told nodes blocks : ℕ) → command ≢ Seize → (step counted (parts there opened) command).0 ≡ Seized told nodes blocks → ⊥
step_seized counted None opened (Format size order) told nodes blocks other e = elim (cases_Bool (in_limits size order)) [
  | inl holds ↦ let f = rw holds at e in cc
  | inr fails ↦ let f = rw fails at e in cc
]
step_seized counted (Some d) opened (Format size order) told nodes blocks other e = cc
step_seized counted None None Mount told nodes blocks other e = cc
step_seized counted (Some d) None Mount told nodes blocks other e = cc
step_seized counted there (Some t) Mount told nodes blocks other e = cc
step_seized counted None opened (Read block) told nodes blocks other e = cc
step_seized counted (Some d) None (Read block) told nodes blocks other e = cc
step_seized counted (Some d) (Some t) (Read block) told nodes blocks other e = elim (cases_Bool (nat_lt block d.blocks)) [
  | inl holds ↦ let f = rw holds at e in cc
  | inr fails ↦ let f = rw fails at e in cc
]
step_seized counted None opened (Write block content) told nodes blocks other e = cc
step_seized counted (Some d) None (Write block content) told nodes blocks other e = cc
step_seized counted (Some d) (Some t) (Write block content) told nodes blocks other e = elim (cases_Bool (nat_lt block d.blocks)) [
  | inl holds ↦ let f = rw holds at e in cc
  | inr fails ↦ let f = rw fails at e in cc
]
step_seized counted None opened (Trim block) told nodes blocks other e = cc
step_seized counted (Some d) None (Trim block) told nodes blocks other e = cc
step_seized counted (Some d) (Some t) (Trim block) told nodes blocks other e = elim (cases_Bool (nat_lt block d.blocks)) [
  | inl holds ↦ let f = rw holds at e in cc
  | inr fails ↦ let f = rw fails at e in cc
]
step_seized counted None opened Commit told nodes blocks other e = cc
step_seized counted (Some d) None Commit told nodes blocks other e = cc
step_seized counted (Some d) (Some t) Commit told nodes blocks other e = elim (cases_Bool t.touched) [
  | inl holds ↦ let f = rw holds at e in cc
  | inr fails ↦ let f = rw fails at e in cc
]
step_seized counted None opened Drop told nodes blocks other e = cc
step_seized counted (Some d) None Drop told nodes blocks other e = cc
step_seized counted (Some d) (Some t) Drop told nodes blocks other e = cc
step_seized counted None opened Erase told nodes blocks other e = cc
step_seized counted (Some d) opened Erase told nodes blocks other e = cc
step_seized counted None None Upgrade told nodes blocks other e = cc
step_seized counted (Some d) None Upgrade told nodes blocks other e = elim (cases_Bool (d.version == 2)) [
  | inl holds ↦ let f = rw holds at e in cc
  | inr fails ↦ let f = rw fails at e in cc
]
step_seized counted there (Some t) Upgrade told nodes blocks other e = cc
step_seized counted None opened commands.Stat told nodes blocks other e = cc
step_seized counted (Some d) None commands.Stat told nodes blocks other e = cc
step_seized counted (Some d) (Some t) commands.Stat told nodes blocks other e = cc
step_seized counted there opened Seize told nodes blocks other e = other refl

answer_seized : (full : Bool) (counted : Counted) (state : State) (command : Command) (told nodes blocks : ℕ) → command ≢ Seize → (answer full counted state command).0 ≡ Seized told nodes blocks → ⊥
answer_seized full counted state command told nodes blocks other e = elim (cases_Bool (needs_room state command && full)) [
  | inl holds ↦ let f = rw holds at e in cc
  | inr fails ↦ let f = rw fails at e in step_seized counted state.device state.session command told nodes blocks other f
]

-- the reply to any other command belongs to any moment
pub saw_of : (old new : World) (entry : State) (command : Command) (given : Result Reply DeviceStop) → command ≢ Seize → Serves old new entry command given
    → IfOk given (Saw new.history (moment old.history) entry.device old.head)
saw_of old new entry command (Ok reply) other (now, is, rep, turns) =
    saw_plain old.history new.history entry.device old.head reply turns.extends
    (λ told nodes blocks e. answer_seized (is_full old entry command) is.0 entry command told nodes blocks other (sym (ap (λ (p : Reply × State). p.0) is.1) ∙ e))
saw_of old new entry command (Err stop) other h = tt

-- what a seizure's report counts of an image
pub counted_of : (image : Image) (head : ℕ) (report : Report) → length image.recorded ≡ head → (there : (roots : List (List ℕ)) × Begins head image.cell [] roots × IsSeizure roots image.readable report)
    → IsCounted image report.pages (count_of_nodes report.opened) (count_of_kind 1 report.opened)
counted_of image head report pages (roots, begins, exact) = record {
  roots = roots;
  begins = subst (λ (n : ℕ). Begins n image.cell [] roots) (sym pages) begins;
  seized = report;
  exact = exact;
  pages_are = refl;
  nodes_are = refl;
  blocks_are = refl;
}

-- what a seizure counted of an image that stayed
pub saw_seized : (old new : World) (entry : State) (told nodes blocks : ℕ) → Represents old entry → Steps old.history new.history → new.history.present ≡ old.history.present
    → IsCounted old.history.present told nodes blocks → told ≡ old.head → Saw new.history (moment old.history) entry.device old.head (Seized told nodes blocks)
saw_seized old new entry told nodes blocks rep steps same counted as_many = record {
  at = moment new.history;
  later = steps.extends.later;
  within = omega arith;
  told = subst (λ (image : Image). IsSeized entry.device old.head image told nodes blocks) (sym (image_at-now new.history (moment new.history) (omega arith) ∙ same))
      (record { stands = rep.device; counted = counted; as_many = as_many });
}
