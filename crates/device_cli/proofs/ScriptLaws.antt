-- From how a run ends to its exit status.
use Rattle.std.proofs.Common.{◌≡◌, ◌≢◌, ℕ, ◌+◌, ◌-◌, ◌*◌, ◌<◌, ◌≤◌, Bool, false, List, [], ◌∷◌, ◌++◌, Option, None, Ok, Err, length, ◌⊎◌, inl, inr, refl, sym, ap, subst, arith, length-append}
use Rattle.sdbt_base.specs.Told.{Got, IsAtEnd}
use Rattle.text_lines.specs.Lines.{whole_lines_of, lines_of}
use Rattle.script_lang.specs.Replies.{line_of, Reply, Full}
use Rattle.sdbt_base.specs.Arrays.{State, Device, closed}
use Rattle.script_lang.specs.Commands.{Command, Format, Write, Commit, Upgrade}
use Rattle.script_lang.specs.Grammar.{Spells}
use Rattle.script_lang.specs.Arrays.{Counted}
use Rattle.script_lang.specs.Answers.{answer}
use Rattle.script_lang.proofs.CommandLaws.{one_command}
use Rattle.std.specs.Prelude.{nat_lt}
use Rattle.platform.specs.History.{moment}
use Rattle.std.proofs.lemmas.Bool.{cases_lt}
use Rattle.std.proofs.lemmas.Grind.{common_steps}
use Rattle.device_terms.specs.Served.{IsServedImage}
use Rattle.device_session.specs.Sessions.{Session}
use Rattle.platform.specs.History.{History}
use Rattle.device_cli.specs.World.{World, drew_by, first_by, world, AreEnough}
use Rattle.device_cli.specs.Looks.{IsWarmFor}
use Rattle.device_course.specs.States.{IsSessionOf}
use Rattle.device_cli.specs.Represents.{StandsFor, Represents}
use Rattle.platform.specs.Runs.{Passes}
use Rattle.device_cli.specs.Replied.{HasMark, AreMany, IsEndingAt, IsAhead, EndsIn, Answered, MeetsWith}
use Rattle.line_run.specs.Stops.{Ending, exit_of}
use Rattle.line_run.specs.Puts.{IsBehind, IsFirstPart, damage_line, AreLines, HaveCome}
use Rattle.device_cli.specs.Causes.{AreSo, Draws, PutsEntry, HasCalled, HasLacked, MeetsRecord, IsOf, HasMet}
use Rattle.device_cli.specs.Drawing.{DrewUntil}
use Rattle.device_cli.specs.Added.{left_by, HasAdded, IsNear}
use Rattle.device_cli.specs.Pages.{needed_for, upgrade_of, most_upgrade, Standing, standing, TurnOn, AnswersOn, AreFew, IfNext}
use Rattle.device_cli.specs.Seen.{mapped_of}
use Rattle.device_cli.proofs.PageLaws.{pages_cases}
use Rattle.device_cli.proofs.RoomLaws.{answer_room}
use Rattle.device_cli.proofs.TurnLaws.{answers_bound, answers_within}
use Rattle.device_cli.proofs.UpgradeLaws.{IsWithin, needs_within, turn_within, within_closed}
use Rattle.device_cli.specs.Ran.{Ran, AnswersFrom, AnswersScript, most_pages}
use Rattle.line_run.specs.declared.stop.Stop.TheVariants as stops
use Rattle.session_calls.specs.declared.stops.DeviceStop.{DeviceStop}
use Rattle.session_calls.specs.declared.stops.DeviceStop.TheVariants as device
use Rattle.device_cli.proofs.PassLaws.{passes_of, exits_of}
use Rattle.device_course.specs.Course.{Made}
use Rattle.device_course.specs.Marks.{last_mark}

-- an image that stands for a device, on which no session is open
pub alone_on : (w : World) (there : Option Device) → w.session ≡ None → StandsFor w.history.present there → Represents w (closed there)
alone_on w there alone stands = record {
  device = stands;
  session = subst (λ (s : Option Session). IsSessionOf s w.history.present there None) (sym alone) tt;
}

have_come : (ending : Ending) (taken : List ℕ) (left : Option (List ℕ)) (lines : List (List ℕ)) → AreLines ending taken left lines → HaveCome taken left lines
have_come (Ok done) taken left lines h = inr h
have_come (Err stops.Source) taken left lines h = inl h
have_come (Err stops.Limit) taken left lines h = inl h
have_come (Err stops.Sink) taken left lines h = h
have_come (Err (stops.Device stop)) taken left lines h = h

few : (ending : Ending) (a b : ℕ) → AreMany a b ending → a ≤ b
few (Ok done) a b h = omega (arith, h)
few (Err stops.Source) a b h = omega (arith, h)
few (Err stops.Limit) a b h = omega (arith, h)
few (Err stops.Sink) a b h = h
few (Err (stops.Device stop)) a b h = h

all : (ending : Ending) (a b : ℕ) (taken : List ℕ) (left : Option (List ℕ)) (lines : List (List ℕ)) → AreMany a b ending → AreLines ending taken left lines
    → exit_of ending ≡ 0 → IsAtEnd left × (lines ≡ lines_of taken) × (a ≡ b)
all (Ok done) a b taken left lines h k e = (k.0, k.1, h)
all (Err stops.Source) a b taken left lines h k e = absurd (omega (arith, e))
all (Err stops.Limit) a b taken left lines h k e = absurd (omega (arith, e))
all (Err stops.Sink) a b taken left lines h k e = absurd (omega (arith, e))
all (Err (stops.Device device.Platform)) a b taken left lines h k e = absurd (omega (arith, e))
all (Err (stops.Device device.Tape)) a b taken left lines h k e = absurd (omega (arith, e))
all (Err (stops.Device device.Memory)) a b taken left lines h k e = absurd (omega (arith, e))
all (Err (stops.Device device.Ledger)) a b taken left lines h k e = absurd (omega (arith, e))
all (Err (stops.Device device.BadRoot)) a b taken left lines h k e = absurd (omega (arith, e))
all (Err (stops.Device (device.BadRecord addr))) a b taken left lines h k e = absurd (omega (arith, e))

-- neither 3 nor 12
not_whole : (n : ℕ) → n ≢ 3 → n ≢ 12 → (n ≡ 3) ⊎ (n ≡ 12) → ⊥
not_whole n p q (inl e) = p e
not_whole n p q (inr e) = q e

whole : (ending : Ending) (a b : ℕ) (taken : List ℕ) (left : Option (List ℕ)) (lines : List (List ℕ)) → AreMany a b ending → AreLines ending taken left lines
    → (exit_of ending ≡ 3) ⊎ (exit_of ending ≡ 12) → (lines ≡ whole_lines_of taken) × (a ≡ b)
whole (Ok done) a b taken left lines h k e = absurd (not_whole 0 (λ p. omega (arith, p)) (λ p. omega (arith, p)) e)
whole (Err stops.Source) a b taken left lines h k e = (k, h)
whole (Err stops.Limit) a b taken left lines h k e = (k, h)
whole (Err stops.Sink) a b taken left lines h k e = absurd (not_whole 4 (λ p. omega (arith, p)) (λ p. omega (arith, p)) e)
whole (Err (stops.Device device.Platform)) a b taken left lines h k e = absurd (not_whole 5 (λ p. omega (arith, p)) (λ p. omega (arith, p)) e)
whole (Err (stops.Device device.Tape)) a b taken left lines h k e = absurd (not_whole 6 (λ p. omega (arith, p)) (λ p. omega (arith, p)) e)
whole (Err (stops.Device device.Memory)) a b taken left lines h k e = absurd (not_whole 11 (λ p. omega (arith, p)) (λ p. omega (arith, p)) e)
whole (Err (stops.Device device.Ledger)) a b taken left lines h k e = absurd (not_whole 7 (λ p. omega (arith, p)) (λ p. omega (arith, p)) e)
whole (Err (stops.Device device.BadRoot)) a b taken left lines h k e = absurd (not_whole 8 (λ p. omega (arith, p)) (λ p. omega (arith, p)) e)
whole (Err (stops.Device (device.BadRecord addr))) a b taken left lines h k e = absurd (not_whole 9 (λ p. omega (arith, p)) (λ p. omega (arith, p)) e)

no_part : (ending : Ending) (part : List ℕ) → IsBehind line_of damage_line part ending → exit_of ending ≢ 4 → exit_of ending ≢ 8 → exit_of ending ≢ 9 → part ≡ []
unfolding damage_line
no_part (Ok done) part h p q r = h
no_part (Err stops.Source) part h p q r = h
no_part (Err stops.Limit) part h p q r = h
no_part (Err stops.Sink) part h p q r = absurd (p refl)
no_part (Err (stops.Device device.Platform)) part h p q r = h
no_part (Err (stops.Device device.Tape)) part h p q r = h
no_part (Err (stops.Device device.Memory)) part h p q r = h
no_part (Err (stops.Device device.Ledger)) part h p q r = h
no_part (Err (stops.Device device.BadRoot)) part h p q r = absurd (q refl)
no_part (Err (stops.Device (device.BadRecord addr))) part h p q r = absurd (r refl)

bad_root : (ending : Ending) (part : List ℕ) → IsBehind line_of damage_line part ending → exit_of ending ≡ 8 → part ≡ damage_line device.BadRoot
bad_root (Ok done) part h e = absurd (omega (arith, e))
bad_root (Err stops.Source) part h e = absurd (omega (arith, e))
bad_root (Err stops.Limit) part h e = absurd (omega (arith, e))
bad_root (Err stops.Sink) part h e = absurd (omega (arith, e))
bad_root (Err (stops.Device device.Platform)) part h e = absurd (omega (arith, e))
bad_root (Err (stops.Device device.Tape)) part h e = absurd (omega (arith, e))
bad_root (Err (stops.Device device.Memory)) part h e = absurd (omega (arith, e))
bad_root (Err (stops.Device device.Ledger)) part h e = absurd (omega (arith, e))
bad_root (Err (stops.Device device.BadRoot)) part h e = h
bad_root (Err (stops.Device (device.BadRecord addr))) part h e = absurd (omega (arith, e))

bad_record : (tells Before : Type 0) (now : World) (ending : Ending) (part : List ℕ) (replies : List Reply) (lines : List (List ℕ)) → IsBehind line_of damage_line part ending → IsEndingAt tells Before now replies lines ending
    → exit_of ending ≡ 9 → (addr : ℕ) × (part ≡ damage_line (device.BadRecord addr)) × IfNext replies lines (IsOf (HasMet tells now.history.present addr))
bad_record tells Before now (Ok done) part replies lines h d e = absurd (omega (arith, e))
bad_record tells Before now (Err stops.Source) part replies lines h d e = absurd (omega (arith, e))
bad_record tells Before now (Err stops.Sink) part replies lines h d e = absurd (omega (arith, e))
bad_record tells Before now (Err stops.Limit) part replies lines h d e = absurd (omega (arith, e))
bad_record tells Before now (Err (stops.Device device.Platform)) part replies lines h d e = absurd (omega (arith, e))
bad_record tells Before now (Err (stops.Device device.Tape)) part replies lines h d e = absurd (omega (arith, e))
bad_record tells Before now (Err (stops.Device device.Memory)) part replies lines h d e = absurd (omega (arith, e))
bad_record tells Before now (Err (stops.Device device.Ledger)) part replies lines h d e = absurd (omega (arith, e))
bad_record tells Before now (Err (stops.Device device.BadRoot)) part replies lines h d e = absurd (omega (arith, e))
bad_record tells Before now (Err (stops.Device (device.BadRecord addr))) part replies lines h d e = (addr, h, d)

-- and it came to that record with the session that the lines before left
met_with : (tells : Type 0) (now : World) (ending : Ending) (part : List ℕ) (replies : List Reply) (lines : List (List ℕ)) (last : Option Session) → IsBehind line_of damage_line part ending → MeetsWith tells now ending replies lines last
    → exit_of ending ≡ 9 → (addr : ℕ) × (part ≡ damage_line (device.BadRecord addr)) × IfNext replies lines (IsOf (λ command. MeetsRecord tells last now.history.present command addr))
met_with tells now (Ok done) part replies lines last h d e = absurd (omega (arith, e))
met_with tells now (Err stops.Source) part replies lines last h d e = absurd (omega (arith, e))
met_with tells now (Err stops.Sink) part replies lines last h d e = absurd (omega (arith, e))
met_with tells now (Err stops.Limit) part replies lines last h d e = absurd (omega (arith, e))
met_with tells now (Err (stops.Device device.Platform)) part replies lines last h d e = absurd (omega (arith, e))
met_with tells now (Err (stops.Device device.Tape)) part replies lines last h d e = absurd (omega (arith, e))
met_with tells now (Err (stops.Device device.Memory)) part replies lines last h d e = absurd (omega (arith, e))
met_with tells now (Err (stops.Device device.Ledger)) part replies lines last h d e = absurd (omega (arith, e))
met_with tells now (Err (stops.Device device.BadRoot)) part replies lines last h d e = absurd (omega (arith, e))
met_with tells now (Err (stops.Device (device.BadRecord addr))) part replies lines last h d e = (addr, h, d)

no_platform : (tells Before : Type 0) (now : World) (ending : Ending) (replies : List Reply) (lines : List (List ℕ)) → IsEndingAt tells Before now replies lines ending
    → exit_of ending ≡ 5 → Before ⊎ IfNext replies lines (IsOf (HasCalled tells now.history.present))
no_platform tells Before now (Ok done) replies lines d e = absurd (omega (arith, e))
no_platform tells Before now (Err stops.Source) replies lines d e = absurd (omega (arith, e))
no_platform tells Before now (Err stops.Sink) replies lines d e = absurd (omega (arith, e))
no_platform tells Before now (Err stops.Limit) replies lines d e = absurd (omega (arith, e))
no_platform tells Before now (Err (stops.Device device.Platform)) replies lines d e = d
no_platform tells Before now (Err (stops.Device device.Tape)) replies lines d e = absurd (omega (arith, e))
no_platform tells Before now (Err (stops.Device device.Memory)) replies lines d e = absurd (omega (arith, e))
no_platform tells Before now (Err (stops.Device device.Ledger)) replies lines d e = absurd (omega (arith, e))
no_platform tells Before now (Err (stops.Device device.BadRoot)) replies lines d e = absurd (omega (arith, e))
no_platform tells Before now (Err (stops.Device (device.BadRecord addr))) replies lines d e = absurd (omega (arith, e))

no_key : (tells Before : Type 0) (now : World) (ending : Ending) (replies : List Reply) (lines : List (List ℕ)) → IsEndingAt tells Before now replies lines ending
    → exit_of ending ≡ 6 → IfNext replies lines (IsOf Draws)
no_key tells Before now (Ok done) replies lines d e = absurd (omega (arith, e))
no_key tells Before now (Err stops.Source) replies lines d e = absurd (omega (arith, e))
no_key tells Before now (Err stops.Sink) replies lines d e = absurd (omega (arith, e))
no_key tells Before now (Err stops.Limit) replies lines d e = absurd (omega (arith, e))
no_key tells Before now (Err (stops.Device device.Platform)) replies lines d e = absurd (omega (arith, e))
no_key tells Before now (Err (stops.Device device.Tape)) replies lines d e = d
no_key tells Before now (Err (stops.Device device.Memory)) replies lines d e = absurd (omega (arith, e))
no_key tells Before now (Err (stops.Device device.Ledger)) replies lines d e = absurd (omega (arith, e))
no_key tells Before now (Err (stops.Device device.BadRoot)) replies lines d e = absurd (omega (arith, e))
no_key tells Before now (Err (stops.Device (device.BadRecord addr))) replies lines d e = absurd (omega (arith, e))

no_entry : (tells Before : Type 0) (now : World) (ending : Ending) (replies : List Reply) (lines : List (List ℕ)) → IsEndingAt tells Before now replies lines ending
    → exit_of ending ≡ 7 → IfNext replies lines (IsOf PutsEntry)
no_entry tells Before now (Ok done) replies lines d e = absurd (omega (arith, e))
no_entry tells Before now (Err stops.Source) replies lines d e = absurd (omega (arith, e))
no_entry tells Before now (Err stops.Sink) replies lines d e = absurd (omega (arith, e))
no_entry tells Before now (Err stops.Limit) replies lines d e = absurd (omega (arith, e))
no_entry tells Before now (Err (stops.Device device.Platform)) replies lines d e = absurd (omega (arith, e))
no_entry tells Before now (Err (stops.Device device.Tape)) replies lines d e = absurd (omega (arith, e))
no_entry tells Before now (Err (stops.Device device.Memory)) replies lines d e = absurd (omega (arith, e))
no_entry tells Before now (Err (stops.Device device.Ledger)) replies lines d e = d
no_entry tells Before now (Err (stops.Device device.BadRoot)) replies lines d e = absurd (omega (arith, e))
no_entry tells Before now (Err (stops.Device (device.BadRecord addr))) replies lines d e = absurd (omega (arith, e))

no_memory : (tells Before : Type 0) (now : World) (ending : Ending) (replies : List Reply) (lines : List (List ℕ)) → IsEndingAt tells Before now replies lines ending
    → exit_of ending ≡ 11 → IfNext replies lines (IsOf (HasLacked tells now.history.present now.head now.capacity))
no_memory tells Before now (Ok done) replies lines d e = absurd (omega (arith, e))
no_memory tells Before now (Err stops.Source) replies lines d e = absurd (omega (arith, e))
no_memory tells Before now (Err stops.Sink) replies lines d e = absurd (omega (arith, e))
no_memory tells Before now (Err stops.Limit) replies lines d e = absurd (omega (arith, e))
no_memory tells Before now (Err (stops.Device device.Platform)) replies lines d e = absurd (omega (arith, e))
no_memory tells Before now (Err (stops.Device device.Tape)) replies lines d e = absurd (omega (arith, e))
no_memory tells Before now (Err (stops.Device device.Memory)) replies lines d e = d
no_memory tells Before now (Err (stops.Device device.Ledger)) replies lines d e = absurd (omega (arith, e))
no_memory tells Before now (Err (stops.Device device.BadRoot)) replies lines d e = absurd (omega (arith, e))
no_memory tells Before now (Err (stops.Device (device.BadRecord addr))) replies lines d e = absurd (omega (arith, e))

cut : (ending : Ending) (part : List ℕ) → IsBehind line_of damage_line part ending → exit_of ending ≡ 4
    → ((reply : Reply) × IsFirstPart (line_of reply) part) ⊎ ((stop : DeviceStop) × IsFirstPart (damage_line stop) part)
cut (Ok done) part h e = absurd (omega (arith, e))
cut (Err stops.Source) part h e = absurd (omega (arith, e))
cut (Err stops.Limit) part h e = absurd (omega (arith, e))
cut (Err stops.Sink) part h e = h
cut (Err (stops.Device device.Platform)) part h e = absurd (omega (arith, e))
cut (Err (stops.Device device.Tape)) part h e = absurd (omega (arith, e))
cut (Err (stops.Device device.Memory)) part h e = absurd (omega (arith, e))
cut (Err (stops.Device device.Ledger)) part h e = absurd (omega (arith, e))
cut (Err (stops.Device device.BadRoot)) part h e = absurd (omega (arith, e))
cut (Err (stops.Device (device.BadRecord addr))) part h e = absurd (omega (arith, e))

-- none of 0, 3 and 12
not_ended : (n : ℕ) → n ≢ 0 → n ≢ 3 → n ≢ 12 → (n ≡ 0) ⊎ (n ≡ 3) ⊎ (n ≡ 12) → ⊥
not_ended n p q r (inl e) = p e
not_ended n p q r (inr (inl e)) = q e
not_ended n p q r (inr (inr e)) = r e

ends : (old new : World) (ending : Ending) (entry now : Standing) (lines : List (List ℕ)) (replies : List Reply) (part : List ℕ)
    → EndsIn old new entry lines replies part now ending → (exit_of ending ≡ 0) ⊎ (exit_of ending ≡ 3) ⊎ (exit_of ending ≡ 12)
    → StandsFor new.history.present now.state.device × (new.head ≡ now.pages)
ends old new (Ok done) entry now lines replies part h e = (h.0.there.device, h.1)
ends old new (Err stops.Source) entry now lines replies part h e = (h.0.there.device, h.1)
ends old new (Err stops.Limit) entry now lines replies part h e = (h.0.there.device, h.1)
ends old new (Err stops.Sink) entry now lines replies part h e = absurd (not_ended 4 (λ p. omega (arith, p)) (λ p. omega (arith, p)) (λ p. omega (arith, p)) e)
ends old new (Err (stops.Device device.Platform)) entry now lines replies part h e = absurd (not_ended 5 (λ p. omega (arith, p)) (λ p. omega (arith, p)) (λ p. omega (arith, p)) e)
ends old new (Err (stops.Device device.Tape)) entry now lines replies part h e = absurd (not_ended 6 (λ p. omega (arith, p)) (λ p. omega (arith, p)) (λ p. omega (arith, p)) e)
ends old new (Err (stops.Device device.Ledger)) entry now lines replies part h e = absurd (not_ended 7 (λ p. omega (arith, p)) (λ p. omega (arith, p)) (λ p. omega (arith, p)) e)
ends old new (Err (stops.Device device.Memory)) entry now lines replies part h e = absurd (not_ended 11 (λ p. omega (arith, p)) (λ p. omega (arith, p)) (λ p. omega (arith, p)) e)
ends old new (Err (stops.Device device.BadRoot)) entry now lines replies part h e = absurd h
ends old new (Err (stops.Device (device.BadRecord addr))) entry now lines replies part h e = absurd h

-- how an ending of this status is that of a failed output
next : (old new : World) (ending : Ending) (entry now : Standing) (lines : List (List ℕ)) (replies : List Reply) (part : List ℕ)
    → EndsIn old new entry lines replies part now ending → exit_of ending ≡ 4 → EndsIn old new entry lines replies part now (Err stops.Sink)
next old new (Ok done) entry now lines replies part h e = absurd (omega (arith, e))
next old new (Err stops.Source) entry now lines replies part h e = absurd (omega (arith, e))
next old new (Err stops.Limit) entry now lines replies part h e = absurd (omega (arith, e))
next old new (Err stops.Sink) entry now lines replies part h e = h
next old new (Err (stops.Device device.Platform)) entry now lines replies part h e = absurd (omega (arith, e))
next old new (Err (stops.Device device.Tape)) entry now lines replies part h e = absurd (omega (arith, e))
next old new (Err (stops.Device device.Ledger)) entry now lines replies part h e = absurd (omega (arith, e))
next old new (Err (stops.Device device.Memory)) entry now lines replies part h e = absurd (omega (arith, e))
next old new (Err (stops.Device device.BadRoot)) entry now lines replies part h e = absurd h
next old new (Err (stops.Device (device.BadRecord addr))) entry now lines replies part h e = absurd h

sound : (old new : World) (ending : Ending) (entry now : Standing) (lines : List (List ℕ)) (replies : List Reply) (part : List ℕ)
    → EndsIn old new entry lines replies part now ending → (exit_of ending ≢ 8) × (exit_of ending ≢ 9)
sound old new (Ok done) entry now lines replies part h = (λ e. omega (arith, e), λ e. omega (arith, e))
sound old new (Err stops.Source) entry now lines replies part h = (λ e. omega (arith, e), λ e. omega (arith, e))
sound old new (Err stops.Limit) entry now lines replies part h = (λ e. omega (arith, e), λ e. omega (arith, e))
sound old new (Err stops.Sink) entry now lines replies part h = (λ e. omega (arith, e), λ e. omega (arith, e))
sound old new (Err (stops.Device device.Platform)) entry now lines replies part h = (λ e. omega (arith, e), λ e. omega (arith, e))
sound old new (Err (stops.Device device.Tape)) entry now lines replies part h = (λ e. omega (arith, e), λ e. omega (arith, e))
sound old new (Err (stops.Device device.Ledger)) entry now lines replies part h = (λ e. omega (arith, e), λ e. omega (arith, e))
sound old new (Err (stops.Device device.Memory)) entry now lines replies part h = (λ e. omega (arith, e), λ e. omega (arith, e))
sound old new (Err (stops.Device device.BadRoot)) entry now lines replies part h = absurd h
sound old new (Err (stops.Device (device.BadRecord addr))) entry now lines replies part h = absurd h

none_is : (ahead : List Reply) → ahead ≡ [] → length ahead ≤ 1
none_is [] e = omega arith
none_is (reply ∷ ahead) e = absurd cc

one_ahead : (ending : Ending) (ahead : List Reply) → IsAhead ending ahead → length ahead ≤ 1
one_ahead (Ok done) ahead h = none_is ahead h
one_ahead (Err stops.Source) ahead h = none_is ahead h
one_ahead (Err stops.Limit) ahead h = none_is ahead h
one_ahead (Err stops.Sink) ahead h = h
one_ahead (Err (stops.Device device.Platform)) ahead h = h
one_ahead (Err (stops.Device device.Tape)) ahead h = none_is ahead h
one_ahead (Err (stops.Device device.Ledger)) ahead h = none_is ahead h
one_ahead (Err (stops.Device device.Memory)) ahead h = none_is ahead h
one_ahead (Err (stops.Device device.BadRoot)) ahead h = none_is ahead h
one_ahead (Err (stops.Device (device.BadRecord addr))) ahead h = none_is ahead h

none_ahead : (ending : Ending) (ahead : List Reply) → IsAhead ending ahead → exit_of ending ≢ 4 → exit_of ending ≢ 5 → ahead ≡ []
none_ahead (Ok done) ahead h p q = h
none_ahead (Err stops.Source) ahead h p q = h
none_ahead (Err stops.Limit) ahead h p q = h
none_ahead (Err stops.Sink) ahead h p q = absurd (p refl)
none_ahead (Err (stops.Device device.Platform)) ahead h p q = absurd (q refl)
none_ahead (Err (stops.Device device.Tape)) ahead h p q = h
none_ahead (Err (stops.Device device.Ledger)) ahead h p q = h
none_ahead (Err (stops.Device device.Memory)) ahead h p q = h
none_ahead (Err (stops.Device device.BadRoot)) ahead h p q = h
none_ahead (Err (stops.Device (device.BadRecord addr))) ahead h p q = h

-- what a stop over an image that stands leaves is within what the command needs
left_most : (stop : DeviceStop) (command : Command) (changes upgrade : ℕ) → left_by stop command changes upgrade ≤ needed_for command changes upgrade
left_most device.Platform command changes upgrade = omega arith
left_most device.Ledger command changes upgrade = omega arith
left_most device.Tape Commit changes upgrade = omega arith
left_most device.Tape Upgrade changes upgrade = omega arith
left_most device.Tape _ changes upgrade = omega arith
left_most device.Memory command changes upgrade = omega arith
left_most device.BadRoot command changes upgrade = omega arith
left_most (device.BadRecord addr) Upgrade changes upgrade = omega arith
left_most (device.BadRecord addr) _ changes upgrade = omega arith

IfNext-weaker : (P Q : List ℕ → Type 0) (replies : List Reply) (lines : List (List ℕ)) → ((line : List ℕ) → P line → Q line) → IfNext replies lines P → IfNext replies lines Q
IfNext-weaker P Q [] [] weaker h = h
IfNext-weaker P Q [] (line ∷ lines) weaker h = weaker line h
IfNext-weaker P Q (reply ∷ replies) [] weaker h = h
IfNext-weaker P Q (reply ∷ replies) (line ∷ lines) weaker h = IfNext-weaker P Q replies lines weaker h

IfNext-any : (X : Type 0) (P : List ℕ → Type 0) (replies : List Reply) (lines : List (List ℕ)) → ((line : List ℕ) → P line → X) → IfNext replies lines P → X
IfNext-any X P [] [] any h = absurd h
IfNext-any X P [] (line ∷ lines) any h = any line h
IfNext-any X P (reply ∷ replies) [] any h = absurd h
IfNext-any X P (reply ∷ replies) (line ∷ lines) any h = IfNext-any X P replies lines any h

HasAdded-more : (less more : Command → ℕ) (lines : List (List ℕ)) (replies : List Reply) (pages now : ℕ) → ((command : Command) → less command ≤ more command)
    → HasAdded less lines replies pages now → HasAdded more lines replies pages now
HasAdded-more less more lines replies pages now all (inl e) = inl e
HasAdded-more less more lines replies pages now all (inr (rises, next)) =
    inr (rises, IfNext-weaker _ _ replies lines (λ line h. (h.0, h.1, omega (arith, h.2, all h.0))) next)

-- a stop at which no command may leave a page
HasAdded-none : (most : Command → ℕ) (lines : List (List ℕ)) (replies : List Reply) (pages now : ℕ) → ((command : Command) → most command ≤ 0) → HasAdded most lines replies pages now → now ≡ pages
HasAdded-none most lines replies pages now none (inl e) = e
HasAdded-none most lines replies pages now none (inr (rises, next)) =
    IfNext-any (now ≡ pages) _ replies lines (λ line h. omega (arith, rises, h.2, none h.0)) next

near : (ending : Ending) (met : Standing) (lines : List (List ℕ)) (replies : List Reply) (now : ℕ) → IsNear ending met lines replies now
    → HasAdded (λ command. needed_for command (41 * met.updates) (upgrade_of met.state)) lines replies met.pages now
near (Ok done) met lines replies now h = inl h
near (Err stops.Source) met lines replies now h = inl h
near (Err stops.Limit) met lines replies now h = inl h
near (Err stops.Sink) met lines replies now h = h
near (Err (stops.Device stop)) met lines replies now h =
    HasAdded-more (λ command. left_by stop command (41 * met.updates) (upgrade_of met.state)) (λ command. needed_for command (41 * met.updates) (upgrade_of met.state)) lines replies met.pages now (λ command. left_most stop command (41 * met.updates) (upgrade_of met.state)) h

keyless : (ending : Ending) (met : Standing) (lines : List (List ℕ)) (replies : List Reply) (now : ℕ) → IsNear ending met lines replies now
    → exit_of ending ≡ 6 → HasAdded (λ command. left_by device.Tape command (41 * met.updates) (upgrade_of met.state)) lines replies met.pages now
keyless (Ok done) met lines replies now h e = absurd (omega (arith, e))
keyless (Err stops.Source) met lines replies now h e = absurd (omega (arith, e))
keyless (Err stops.Limit) met lines replies now h e = absurd (omega (arith, e))
keyless (Err stops.Sink) met lines replies now h e = absurd (omega (arith, e))
keyless (Err (stops.Device device.Tape)) met lines replies now h e = h
keyless (Err (stops.Device device.Platform)) met lines replies now h e = absurd (omega (arith, e))
keyless (Err (stops.Device device.Ledger)) met lines replies now h e = absurd (omega (arith, e))
keyless (Err (stops.Device device.Memory)) met lines replies now h e = absurd (omega (arith, e))
keyless (Err (stops.Device device.BadRoot)) met lines replies now h e = absurd (omega (arith, e))
keyless (Err (stops.Device (device.BadRecord addr))) met lines replies now h e = absurd (omega (arith, e))

exact : (ending : Ending) (met : Standing) (lines : List (List ℕ)) (replies : List Reply) (now : ℕ) → IsNear ending met lines replies now → exit_of ending ≡ 11 → now ≡ met.pages
exact (Ok done) met lines replies now h e = absurd (omega (arith, e))
exact (Err stops.Source) met lines replies now h e = absurd (omega (arith, e))
exact (Err stops.Limit) met lines replies now h e = absurd (omega (arith, e))
exact (Err stops.Sink) met lines replies now h e = absurd (omega (arith, e))
exact (Err (stops.Device device.Memory)) met lines replies now h e = HasAdded-none _ lines replies met.pages now (λ command. omega arith) h
exact (Err (stops.Device device.Platform)) met lines replies now h e = absurd (omega (arith, e))
exact (Err (stops.Device device.Ledger)) met lines replies now h e = absurd (omega (arith, e))
exact (Err (stops.Device device.Tape)) met lines replies now h e = absurd (omega (arith, e))
exact (Err (stops.Device device.BadRoot)) met lines replies now h e = absurd (omega (arith, e))
exact (Err (stops.Device (device.BadRecord addr))) met lines replies now h e = absurd (omega (arith, e))

-- how many pages there are at most, after some replies and with what the command of the next line added
bound : (capacity before : ℕ) (entry : State) (lines : List (List ℕ)) (replies : List Reply) (now : Standing) → IsWithin entry (mapped_of entry.device) → AnswersOn capacity (standing entry before 0) lines replies now
    → now.pages + 41 * now.updates ≤ most_pages before entry replies
bound capacity before entry lines replies now held answers =
    let most = answers_bound capacity (standing entry before 0) lines replies now (mapped_of entry.device) (most_upgrade (mapped_of entry.device + length replies)) held (omega arith) answers in
    omega (arith, most)

-- what the command of the next line added is what a commit or an update needs, or as much as an upgrade needs
cut_needs : (line : List ℕ) (command : Command) (changes upgrade pages now most more : ℕ) → Spells line command → pages + changes ≤ most → upgrade ≤ more → now ≤ pages + needed_for command changes upgrade
    → (now ≤ most + 1) ⊎ (Spells line Upgrade × (now ≤ most + more))
cut_needs line Upgrade changes upgrade pages now most more spells within few h = inr (spells, omega (arith, within, few, h))
cut_needs line (Format blocks order) changes upgrade pages now most more spells within few h = inl (omega (arith, within, h))
cut_needs line (Write block content) changes upgrade pages now most more spells within few h = inl (omega (arith, within, h))
cut_needs line Commit changes upgrade pages now most more spells within few h = inl (omega (arith, within, h))
cut_needs line _ changes upgrade pages now most more spells within few h = inl (omega (arith, within, h))

-- a next line has the one or the other
next_either : (X : Type 0) (P Q : List ℕ → Type 0) (replies : List Reply) (lines : List (List ℕ)) → ((line : List ℕ) → P line → X ⊎ Q line) → IfNext replies lines P → X ⊎ IfNext replies lines Q
next_either X P Q [] [] either h = absurd h
next_either X P Q [] (line ∷ lines) either h = either line h
next_either X P Q (reply ∷ replies) [] either h = absurd h
next_either X P Q (reply ∷ replies) (line ∷ lines) either h = next_either X P Q replies lines either h

IfNext-out : (Q : List ℕ → Type 0) (Y : Type 0) (replies : List Reply) (lines : List (List ℕ)) → IfNext replies lines (λ line. Q line × Y) → IfNext replies lines Q × Y
IfNext-out Q Y [] [] h = absurd h
IfNext-out Q Y [] (line ∷ lines) h = (h.0, h.1)
IfNext-out Q Y (reply ∷ replies) [] h = absurd h
IfNext-out Q Y (reply ∷ replies) (line ∷ lines) h = IfNext-out Q Y replies lines h

cut_bound : (before : ℕ) (entry : State) (lines : List (List ℕ)) (replies : List Reply) (met : Standing) (now more : ℕ) → met.pages + 41 * met.updates ≤ most_pages before entry replies → upgrade_of met.state ≤ more
    → HasAdded (λ command. needed_for command (41 * met.updates) (upgrade_of met.state)) lines replies met.pages now
    → (now ≤ most_pages before entry replies + 1) ⊎ (IfNext replies lines (λ line. Spells line Upgrade) × (now ≤ most_pages before entry replies + more))
cut_bound before entry lines replies met now more within few (inl same) = inl (omega (arith, same, within))
cut_bound before entry lines replies met now more within few (inr (rises, next)) =
    elim (next_either (now ≤ most_pages before entry replies + 1) _ (λ line. Spells line Upgrade × (now ≤ most_pages before entry replies + more)) replies lines
    (λ line h. cut_needs line h.0 (41 * met.updates) (upgrade_of met.state) met.pages now (most_pages before entry replies) more h.1 within few h.2) next) [
      | inl one ↦ inl one
      | inr upgrades ↦ inr (IfNext-out (λ line. Spells line Upgrade) (now ≤ most_pages before entry replies + more) replies lines upgrades)
    ]

-- pages are only added
rises_turn : (capacity : ℕ) (old : Standing) (line : List ℕ) (reply : Reply) (new : Standing) → TurnOn capacity old line reply new → old.pages ≤ new.pages
rises_turn capacity old line reply new (inl (command, spells, needed, needs, is, added, updated)) = elim (pages_cases reply needed old.pages) [
  | inl none ↦ omega (arith, none, added)
  | inr some ↦ omega (arith, some, added)
]
rises_turn capacity old line reply new (inr (bad, is, same)) = rw same (omega arith)

rises_on : (capacity : ℕ) (old : Standing) (lines : List (List ℕ)) (replies : List Reply) (new : Standing) → AnswersOn capacity old lines replies new → old.pages ≤ new.pages
rises_on capacity old lines [] new h = rw h (omega arith)
rises_on capacity old [] (reply ∷ replies) new h = absurd h
rises_on capacity old (line ∷ lines) (reply ∷ replies) new (mid, turn, rest) = omega (arith, rises_turn capacity old line reply mid turn, rises_on capacity mid lines replies new rest)

-- a reply to an upgrade that too few pages were free is true for good
few_needed : (free needed : ℕ) (counted : Counted) (state new : State) (command : Command) → (Full, new) ≡ answer (nat_lt free needed) counted state command → free < needed
few_needed free needed counted state new command is = elim (cases_lt free needed) [
  | inl less ↦ less
  | inr not ↦ absurd (answer_room counted state command
      (subst (λ (b : Bool). (answer b counted state command).0 ≡ Full) (above free needed not) (sym (ap (λ (p : Reply × State). p.0) is))))
]
  where
    above : (a b : ℕ) → b ≤ a → nat_lt a b ≡ false
    above a b h = grind (arith, common_steps)

few_turn : (capacity : ℕ) (old : Standing) (line : List ℕ) (reply : Reply) (new : Standing) (head mapped : ℕ) → IsWithin old.state mapped → old.pages ≤ head → TurnOn capacity old line reply new
    → Spells line Upgrade → reply ≡ Full → capacity - head < most_upgrade mapped
few_turn capacity old line reply new head mapped held later (inl (command, spells, needed, needs, (counted, is), added, updated)) upgrade e =
    let same : command ≡ Upgrade = one_command line command Upgrade spells upgrade in
    let most : needed ≤ upgrade_of old.state = subst (λ (c : Command). needed ≤ needed_for c (41 * old.updates) (upgrade_of old.state)) same needs.within in
    let few : capacity - old.pages < needed = few_needed (capacity - old.pages) needed counted old.state new.state command (subst (λ (r : Reply). (r, new.state) ≡ answer (nat_lt (capacity - old.pages) needed) counted old.state command) e is) in
    omega (arith, most, few, later, needs_within old.state mapped held)
few_turn capacity old line reply new head mapped held later (inr (bad, is, same)) upgrade e = absurd (bad Upgrade upgrade)

few_on : (capacity : ℕ) (old : Standing) (lines : List (List ℕ)) (replies : List Reply) (new : Standing) (head mapped : ℕ) → IsWithin old.state mapped → new.pages ≤ head
    → AnswersOn capacity old lines replies new → AreFew head capacity mapped lines replies
few_on capacity old lines [] new head mapped held later h = tt
few_on capacity old [] (reply ∷ replies) new head mapped held later h = absurd h
few_on capacity old (line ∷ lines) (reply ∷ replies) new head mapped held later (mid, turn, rest) = (
  few_turn capacity old line reply mid head mapped held (omega (arith, later, rises_turn capacity old line reply mid turn, rises_on capacity mid lines replies new rest)) turn,
  few_on capacity mid lines replies new head (mapped + 1) (turn_within capacity old line reply mid mapped held turn) later rest,
)

-- there are no fewer pages than by the replies
added_more : (most : Command → ℕ) (lines : List (List ℕ)) (replies : List Reply) (pages now : ℕ) → HasAdded most lines replies pages now → pages ≤ now
added_more most lines replies pages now (inl same) = omega (arith, same)
added_more most lines replies pages now (inr (rises, next)) = rises

-- what a run answered, by its status
answers_from : (old new : World) (ending : Ending) (entry : State) (lines : List (List ℕ)) (replies : List Reply) (part : List ℕ) → IsWithin entry (mapped_of entry.device)
    → Answered old new ending (standing entry old.head 0) lines replies part → AnswersFrom old new (exit_of ending) entry lines replies part
answers_from old new ending entry lines replies part held f =
    let first = standing entry old.head 0 in
    let added = near ending f.now lines replies new.head f.near in
    let within = answers_within old.capacity first lines replies f.now (mapped_of entry.device) held f.answers in
    let most = bound old.capacity old.head entry lines replies f.now held f.answers in
    record {
      now = f.now.state;
      pages = f.now.pages;
      updates = f.now.updates;
      answers = f.answers;
      seen = f.seen;
      ends = ends old new ending first f.now lines replies part f.ends;
      next = next old new ending first f.now lines replies part f.ends;
      sound = sound old new ending first f.now lines replies part f.ends;
      near = added;
      keyless = keyless ending f.now lines replies new.head f.near;
      exact = exact ending f.now lines replies new.head f.near;
      bound = omega (arith, most);
      cut_bound = cut_bound old.head entry lines replies f.now new.head (most_upgrade (mapped_of entry.device + length replies)) most
          (needs_within f.now.state (mapped_of entry.device + length replies) within) added;
      few = few_on old.capacity first lines replies f.now new.head (mapped_of entry.device) held (added_more _ lines replies f.now.pages new.head added) f.answers;
      ahead = f.ahead;
      one_ahead = one_ahead ending f.ahead f.is_ahead;
      none_ahead = none_ahead ending f.ahead f.is_ahead;
      passes = subst (λ (n : ℕ). Passes old.history new.history (HasMark entry lines (replies ++ f.ahead)) n) (length-append replies f.ahead)
          (passes_of old.history new.history entry lines (replies ++ f.ahead) f.marks f.are f.made.passes);
      exits = exits_of new.history.present entry lines replies f.ahead f.marks f.are f.made.exits.there.device;
    }

-- what is said of a run's end says nothing of its session, and of its tape
forget : (old : World) (drawn drawn_now : Option (List (List ℕ))) (session : Option Session) (history : History) (head capacity reads changes : ℕ) (status : ℕ) (entry : State) (lines : List (List ℕ)) (replies : List Reply) (part : List ℕ)
    → AnswersFrom (first_by drawn old) (drew_by drawn_now (world session history head capacity reads changes)) status entry lines replies part → AnswersFrom old (world None history head capacity reads changes) status entry lines replies part
forget old drawn drawn_now session history head capacity reads changes status entry lines replies part f = record {
  now = f.now;
  pages = f.pages;
  updates = f.updates;
  answers = f.answers;
  seen = f.seen;
  ends = f.ends;
  next = f.next;
  sound = f.sound;
  near = f.near;
  keyless = f.keyless;
  exact = f.exact;
  bound = f.bound;
  cut_bound = f.cut_bound;
  few = f.few;
  ahead = f.ahead;
  one_ahead = f.one_ahead;
  none_ahead = f.none_ahead;
  passes = f.passes;
  exits = f.exits;
}

-- no session needs a page
enough_alone : (held : Option Session) → held ≡ None → AreEnough held 0
enough_alone held alone = subst (λ (session : Option Session). AreEnough session 0) (sym alone) (omega arith)

-- a run answers the script, whatever session it ends with
pub answers_script : (tells Before : Type 0) (old : World) (drawn drawn_now : Option (List (List ℕ))) (session : Option Session) (history : History) (head capacity reads changes : ℕ) (ending : Ending) (left left_now written written_now : Option (List ℕ))
    → old.session ≡ None → Ran tells Before (first_by drawn old) (drew_by drawn_now (world session history head capacity reads changes)) damage_line ending left left_now written written_now
    → AnswersScript tells old (world None history head capacity reads changes) (exit_of ending) left left_now written written_now
answers_script tells Before old drawn drawn_now session history head capacity reads changes ending left left_now written written_now alone r = let p = r.handled.replied in record {
  taken = r.taken;
  gave = r.gave;
  lines = r.lines;
  come = have_come ending r.taken left_now r.lines r.come;
  replies = p.replies;
  part = p.part;
  got = subst (λ (put : List ℕ). Got written put written_now) p.put_is r.handled.got;
  few = few ending (length p.replies) (length r.lines) p.many;
  prompt = r.prompt;
  all = all ending (length p.replies) (length r.lines) r.taken left_now r.lines p.many r.come;
  whole = whole ending (length p.replies) (length r.lines) r.taken left_now r.lines p.many r.come;
  no_part = no_part ending p.part p.behind;
  bad_root = bad_root ending p.part p.behind;
  bad_record = bad_record tells Before (drew_by drawn_now (world session history head capacity reads changes)) ending p.part p.replies r.lines p.behind p.stopped;
  no_key = no_key tells Before (drew_by drawn_now (world session history head capacity reads changes)) ending p.replies r.lines p.stopped;
  no_entry = no_entry tells Before (drew_by drawn_now (world session history head capacity reads changes)) ending p.replies r.lines p.stopped;
  no_memory = no_memory tells Before (drew_by drawn_now (world session history head capacity reads changes)) ending p.replies r.lines p.stopped;
  cut = cut ending p.part p.behind;
  full = p.full 0 (enough_alone old.session alone);
  so = λ told. (let so = p.so told in (so.1, so.2, subst (λ (held : Option Session). AreSo tells history (moment old.history) held r.lines p.replies so.1 so.2) alone so.3, met_with tells (drew_by drawn_now (world session history head capacity reads changes)) ending p.part p.replies r.lines so.2 p.behind so.5));
  changes = λ told. (p.looks told).0;
  looks = λ told most last h. omega (arith, ((p.looks told).1 None last most (subst (λ (held : Option Session). IsWarmFor held None) (sym alone) tt) h).0);
  answered = λ told there stands served.
      forget old drawn drawn_now session history head capacity reads changes (exit_of ending) (closed there) r.lines p.replies p.part
      (answers_from (first_by drawn old) (drew_by drawn_now (world session history head capacity reads changes)) ending (closed there) r.lines p.replies p.part (within_closed old.history.present there stands)
      (p.answered told (closed there) 0 (record { there = alone_on old there alone stands; served = served }) (enough_alone old.session alone)));
}

-- and with its replies, the keys that its lines drew, and where the platform failed
pub answers_with : (tells Before : Type 0) (old : World) (drawn drawn_now : Option (List (List ℕ))) (session : Option Session) (history : History) (head capacity reads changes : ℕ) (ending : Ending) (left left_now written written_now : Option (List ℕ))
    → old.session ≡ None → (r : Ran tells Before (first_by drawn old) (drew_by drawn_now (world session history head capacity reads changes)) damage_line ending left left_now written written_now)
    → (script : AnswersScript tells old (world None history head capacity reads changes) (exit_of ending) left left_now written written_now) × (script.replies ≡ r.handled.replied.replies) × DrewUntil drawn script.lines script.replies drawn_now
    × (exit_of ending ≡ 5 → Before ⊎ IfNext script.replies script.lines (IsOf (HasCalled tells history.present)))
unfolding answers_script
answers_with tells Before old drawn drawn_now session history head capacity reads changes ending left left_now written written_now alone r =
    (answers_script tells Before old drawn drawn_now session history head capacity reads changes ending left left_now written written_now alone r, refl, r.handled.replied.drew, no_platform tells Before (drew_by drawn_now (world session history head capacity reads changes)) ending r.handled.replied.replies r.lines r.handled.replied.stopped)

-- which devices a run made, whatever session it ends with
pub made_by : (tells Before : Type 0) (old : World) (drawn drawn_now : Option (List (List ℕ))) (session : Option Session) (history : History) (head capacity reads changes : ℕ) (ending : Ending) (left left_now written written_now : Option (List ℕ))
    → old.session ≡ None → Ran tells Before (first_by drawn old) (drew_by drawn_now (world session history head capacity reads changes)) damage_line ending left left_now written written_now
    → tells → (there : Option Device) → StandsFor old.history.present there → IsServedImage old.history.present
    → (marks : List (Option Device)) × Made old.history history None (closed there) marks (closed (last_mark there marks))
made_by tells Before old drawn drawn_now session history head capacity reads changes ending left left_now written written_now alone r told there stands served =
    let f = r.handled.replied.answered told (closed there) 0 (record { there = alone_on old there alone stands; served = served }) (enough_alone old.session alone) in
    (f.marks, f.made)
