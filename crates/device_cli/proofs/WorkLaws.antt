-- From the serving of a script in memory to what the word `work` says of it.
use Rattle.std.proofs.Common.{◌≡◌, ℕ, ◌+◌, ◌-◌, ◌*◌, ◌≤◌, List, [], ◌∷◌, ◌++◌, Option, None, Some, Ok, Err, length, drop, ◌⊎◌, inl, inr, refl, sym, ◌∙◌, subst, ap, arith}
use Rattle.std.proofs.lemmas.List.{append-nil}
use Rattle.std.specs.Prelude.{IfErr, flat_map, map}
use Rattle.std.specs.List.{AllByRecursion}
use Rattle.sdbt_base.specs.Arrays.{Device, closed}
use Rattle.platform.specs.History.{History}
use Rattle.device_course.specs.Course.{Made}
use Rattle.device_course.specs.Keys.{KeepsOn}
use Rattle.device_course.specs.States.{Outside}
use Rattle.device_course.proofs.MadeLaws.{made_start, shut}
use Rattle.device_course.proofs.ProgramLaws.{Ended}
use Rattle.script_lang.specs.Replies.{Reply, line_of}
use Rattle.workload.specs.Summaries.{refused, heading, summary}
use Rattle.workload.proofs.ScriptLaws.{lines_of-commands, script_has_lines, script_is_plain, script_is_short}
use Rattle.workload.proofs.GeneratedLaws.{generated_are_ordinary}
use Rattle.workload.specs.Lines.{text_of}
use Rattle.workload.specs.Scripts.{IsOrdinary, commands_of, generated_commands}
use Rattle.text_lines.specs.Lines.{lines_of}
use Rattle.script_lang.specs.Commands.{Command, Format, Mount, Read, Write, Trim, Commit, Drop, Erase, Upgrade, Seize}
use Rattle.script_lang.specs.Commands as commands
use Rattle.device_terms.specs.Served.{IsServedImage}
use Rattle.device_cli.specs.World.{World, drew_by, first_by, world}
use Rattle.device_cli.specs.Represents.{StandsFor}
use Rattle.device_cli.specs.Ran.{Ran, AnswersScript, IsAmple}
use Rattle.device_cli.specs.Causes.{HasCalled, IsOf}
use Rattle.device_cli.specs.Pages.{IfNext, upgrade_lines}
use Rattle.device_cli.specs.Seen.{mapped_of}
use Rattle.line_run.specs.Stops.{Ending, exit_of, HasCause, status_of}
use Rattle.line_run.specs.Puts.{HasPut, damage_line}
use Rattle.device_cli.specs.Drawing.{DrewUntil}
use Rattle.device_cli.specs.Handed.{Handed}
use Rattle.sdbt_base.specs.Counts.{Counts, NoneRose}
use Rattle.device_cli.specs.Scripts.{ScriptState}
use Rattle.device_cli.specs.Working.{IsIdle, Says, ServesAll, ServesWork, Worked, Working, script_of}
use Rattle.session_calls.specs.declared.stops.DeviceStop.{DeviceStop}
use Rattle.session_calls.specs.declared.stops.DeviceStop.TheVariants as device
use Rattle.line_run.specs.declared.stop.Stop.TheVariants as stops
use Rattle.device_cli.proofs.CompleteLaws.{complete_with}
use Rattle.device_cli.proofs.TurnLaws.{spelled}
use Rattle.device_cli.proofs.EndLaws.{ended_run}
use Rattle.device_cli.proofs.RanLaws.{Ran-before}
use Rattle.device_cli.proofs.ScriptLaws.{answers_with}
use Rattle.device_session.specs.Sessions.{Session}

-- ---- what is put

-- the parts of a summary
pub summary_parts : (seed count accepted declined : ℕ) (replies : List Reply) → declined ≡ refused replies → accepted + declined ≡ length replies
    → heading seed count accepted declined ++ flat_map line_of (drop (count + 3) replies) ≡ summary seed count replies
summary_parts seed count accepted declined replies are all =
    let served : accepted ≡ length replies - refused replies = omega (arith, are, all) in
    ap (λ (n : ℕ). heading seed count n declined ++ flat_map line_of (drop (count + 3) replies)) served
    ∙ ap (λ (n : ℕ). heading seed count (length replies - refused replies) n ++ flat_map line_of (drop (count + 3) replies)) are

-- the run of a script in memory, of which all is left where the platform failed before its first line
pub work_ran : (tells : Type 0) (seed count : ℕ) (old new : World) (serving : Ending) (source source_now : ScriptState) (was told : List ℕ) → source.left ≡ script_of seed count → was ≡ []
    → Ran tells (source_now ≡ source) old new damage_line serving (Some source.left) (Some source_now.left) (Some was) (Some told)
    → Ran tells (Some source_now.left ≡ Some (script_of seed count)) old new damage_line serving (Some (script_of seed count)) (Some source_now.left) (Some []) (Some told)
work_ran tells seed count old new serving source source_now was told is none r =
    let left : List ℕ = source_now.left in
    let text : List ℕ = source.left in
    subst (λ (t : List ℕ). Ran tells (Some left ≡ Some t) old new damage_line serving (Some t) (Some left) (Some []) (Some told)) is
    (subst (λ (w : List ℕ). Ran tells (Some left ≡ Some text) old new damage_line serving (Some text) (Some left) (Some w) (Some told)) none
    (Ran-before tells (source_now ≡ source) (Some left ≡ Some text) old new damage_line serving (Some text) (Some left) (Some was) (Some told) (λ e. ap (λ (s : ScriptState). Some s.left) e) r))

-- what an own output in memory got of a run over all lines are the lines of its replies
pub told_replies : (tells Before : Type 0) (old new : World) (left : Option (List ℕ)) (told text : List ℕ) → (r : Ran tells Before old new damage_line (Ok tt) (Some text) left (Some []) (Some told))
    → told ≡ flat_map line_of r.handled.replied.replies
told_replies tells Before old new left told text r =
    let p = r.handled.replied in
    let e : Some told ≡ Some ([] ++ r.handled.put) = r.handled.got in
    let f : told ≡ r.handled.put = cc in
    f ∙ p.put_is ∙ ap (λ (part : List ℕ). flat_map line_of p.replies ++ part) p.behind ∙ append-nil (flat_map line_of p.replies)

-- ---- how the serving ends

-- without memory for the script nothing is served
pub idle : (w : World) (written : Option (List ℕ)) → IsIdle w w written written (Err (stops.Device device.Memory))
idle w written = record { memory = refl; world = refl; unput = refl }

-- what a run gives, or what is as it was
pub ended_work : (tells : Type 0) (old new : Outside) (Going : Type 0) (seed count : ℕ) (was : World) (drawn drawn_now : Option (List (List ℕ))) (session : Option Session) (reads changes : ℕ) (written written_now : Option (List ℕ)) (ending : Ending)
    → was.session ≡ None → was.history ≡ old.history → was.head ≡ old.head → was.capacity ≡ old.capacity → new.head ≤ new.capacity
    → IsIdle was (world session new.history new.head new.capacity reads changes) written written_now ending ⊎ Worked tells seed count (first_by drawn was) (drew_by drawn_now (world session new.history new.head new.capacity reads changes)) written written_now ending
    → KeepsOn tells old.drawn new.drawn old.written new.written None old.history new.history Going (λ keys. Unit {0}) → Ended tells old new Going
ended_work tells old new Going seed count was drawn drawn_now session reads changes written written_now ending alone history head capacity room (inl not) keeps =
    let same : new.history ≡ old.history = ap (λ (w : World). w.history) not.world ∙ history in record {
      later = record { capacity = ap (λ (w : World). w.capacity) not.world ∙ capacity; rises = omega (arith, ap (λ (w : World). w.head) not.world, head); within = room };
      keeps = keeps;
      made = λ told device stands served. ([], subst (λ (h : History). Made old.history h None (closed device) [] (closed device)) (sym same) (made_start old.history None (closed device) (shut old.history.present device stands served)));
    }
ended_work tells old new Going seed count was drawn drawn_now session reads changes written written_now ending alone history head capacity room (inr w) keeps =
    ended_run tells _ old new Going was drawn drawn_now session reads changes w.serving (Some (script_of seed count)) w.left (Some []) w.told alone history head capacity w.ran keeps

-- ---- no line of a script spells `upgrade`

-- the command is no upgrade
abbrev IsOther : Command → Type 0
IsOther Upgrade = ⊥
IsOther _ = Unit {0}

ordinary_is : (command : Command) → IsOrdinary command → IsOther command
ordinary_is (Read block) h = tt
ordinary_is (Write block content) h = tt
ordinary_is (Trim block) h = tt
ordinary_is Commit h = tt
ordinary_is (Format blocks order) h = tt
ordinary_is Mount h = tt
ordinary_is Drop h = tt
ordinary_is Erase h = tt
ordinary_is Upgrade h = h
ordinary_is commands.Stat h = tt
ordinary_is Seize h = tt

others_are : (first : List Command) → AllByRecursion IsOrdinary first → AllByRecursion IsOther (first ++ Commit ∷ commands.Stat ∷ Seize ∷ [])
others_are [] h = (tt, (tt, (tt, tt)))
others_are (command ∷ first) h = (ordinary_is command h.0, others_are first h.1)

none_spelled : (command : Command) → IsOther command → spelled (text_of command) ≡ 0
unfolding text_of
none_spelled (Format blocks order) h = refl
none_spelled Mount h = refl
none_spelled (Read block) h = refl
none_spelled (Write block content) h = refl
none_spelled (Trim block) h = refl
none_spelled Commit h = refl
none_spelled Drop h = refl
none_spelled Erase h = refl
none_spelled Upgrade h = absurd h
none_spelled commands.Stat h = refl
none_spelled Seize h = refl

none_of : (commands : List Command) → AllByRecursion IsOther commands → upgrade_lines (map text_of commands) ≡ 0
none_of [] h = refl
none_of (command ∷ commands) h = omega (arith, none_spelled command h.0, none_of commands h.1)

no_upgrades : (seed count : ℕ) → upgrade_lines (lines_of (script_of seed count)) ≡ 0
no_upgrades seed count =
    ap (λ (l : List (List ℕ)). upgrade_lines l) (lines_of-commands (commands_of seed count) (script_is_plain seed count))
    ∙ none_of (commands_of seed count) (tt, (tt, others_are (generated_commands seed count) (generated_are_ordinary seed count)))

-- ---- completeness

-- with room for 42 pages a line and no fault
pub work_complete : (tells : Type 0) (old new : World) (seed count : ℕ) (serving ending : Ending) (before now : Counts) (left told written written_now : Option (List ℕ)) (there : Option Device)
    → tells → StandsFor old.history.present there → IsServedImage old.history.present
    → (script : AnswersScript tells old new (exit_of serving) (Some (script_of seed count)) left (Some []) told) → Says seed count script.replies serving written written_now ending
    → IfErr ending (HasCause before now) → count ≤ 5000 → old.head + 42 * (count + 5) ≤ old.capacity → NoneRose before now
    → (exit_of ending ≡ 11) ⊎ ((exit_of ending ≡ 0) × ServesAll seed count there written written_now ending)
work_complete tells old new seed count serving ending before now left told written written_now there holds stands served script says cause few room quiet = go serving ending script says cause
  where
    text : List ℕ
    text = script_of seed count

    ample : IsAmple (Some text) text (mapped_of there) old.head old.capacity
    ample = record { text_is = refl; short = omega (arith, script_is_short text seed count refl, few); room = rw (no_upgrades seed count) (omega (arith, room, script_has_lines text seed count refl)) }

    all : (s : AnswersScript tells old new 0 (Some text) left (Some []) told) → HasPut (summary seed count s.replies) (Ok tt) written written_now → ServesAll seed count there written written_now (Ok tt)
    all s put =
        let complete = complete_with tells old new (Some text) left (Some []) told text there s (s.answered holds there stands served) stands ample in
        record { told = told; all = complete.0; put = subst (λ (replies : List Reply). HasPut (summary seed count replies) (Ok tt) written written_now) (sym complete.1) put }

    go : (serving ending : Ending) → (s : AnswersScript tells old new (exit_of serving) (Some text) left (Some []) told) → Says seed count s.replies serving written written_now ending
        → IfErr ending (HasCause before now) → (exit_of ending ≡ 11) ⊎ ((exit_of ending ≡ 0) × ServesAll seed count there written written_now ending)
    go (Ok done) (Ok put) s says cause = inr (refl, all s says)
    go (Ok done) (Err stops.Sink) s says cause = absurd (quiet.output cause.0)
    go (Ok done) (Err stops.Source) s says cause = absurd says
    go (Ok done) (Err stops.Limit) s says cause = absurd says
    go (Ok done) (Err (stops.Device stop)) s says cause = absurd says
    go (Err stops.Source) ending s says cause = absurd says
    go (Err stops.Limit) ending s says cause = absurd says
    go (Err stops.Sink) ending s says cause = inl (ap exit_of says.0)
    go (Err (stops.Device stop)) ending s (inr part) cause = absurd (quiet.output (subst (λ (e : Ending). IfErr e (HasCause before now)) part.0 cause).0)
    go (Err (stops.Device stop)) ending s (inl whole) cause = stopped stop s (subst (λ (e : Ending). IfErr e (HasCause before now)) whole.0 cause) (ap exit_of whole.0)
      where
        Done : ℕ → Type 0
        Done n = (n ≡ 11) ⊎ ((n ≡ 0) × ServesAll seed count there written written_now ending)

        stopped : (stop : DeviceStop) → AnswersScript tells old new (status_of (stops.Device stop)) (Some text) left (Some []) told → HasCause before now (stops.Device stop)
            → exit_of ending ≡ status_of (stops.Device stop) → Done (exit_of ending)
        stopped device.Platform s cause e = absurd (quiet.platform cause.0)
        stopped device.Tape s cause e = absurd (quiet.tape cause.0)
        stopped device.Ledger s cause e = absurd (quiet.ledger cause.0)
        stopped device.BadRoot s cause e = absurd ((s.answered holds there stands served).sound.0 refl)
        stopped (device.BadRecord addr) s cause e = absurd ((s.answered holds there stands served).sound.1 refl)
        stopped device.Memory s cause e = inl e

-- ---- what is said of the words

-- whatever session the serving ends with
pub serves_work : {S R I O L : Type 0} (tells : Type 0) (seed count : ℕ) (old new : Handed S R I O L) (session : Option Session) (ending : Ending) → old.world.session ≡ None → new.world.session ≡ None → new.world.drawn ≡ None
    → Worked tells seed count (first_by old.drawn old.world) (drew_by new.drawn (record new.world { session = session })) old.written new.written ending → ServesWork tells seed count old.world new.world old.drawn new.drawn old.written new.written ending
serves_work tells seed count old new session ending alone then_alone untold w =
    let text : Option (List ℕ) = Some (script_of seed count) in
    let now = new.world in
    let script = answers_with tells (w.left ≡ text) old.world old.drawn new.drawn session now.history now.head now.capacity now.reads now.changes w.serving text w.left (Some []) w.told alone w.ran in
    let same : world None now.history now.head now.capacity now.reads now.changes ≡ now =
    ap (λ (d : Option (List (List ℕ))). record now { session = None; drawn = d }) (sym untold) ∙ ap (λ (s : Option Session). record now { session = s }) (sym then_alone) in
    let Answered : World → Type 0 = λ there. (s : AnswersScript tells old.world there (exit_of w.serving) text w.left (Some []) w.told) × (s.replies ≡ w.ran.handled.replied.replies) × DrewUntil old.drawn s.lines s.replies new.drawn
    × (exit_of w.serving ≡ 5 → (w.left ≡ text) ⊎ IfNext s.replies s.lines (IsOf (HasCalled tells there.history.present))) in
    let here : Answered now = subst Answered same script in
    record {
      serving = w.serving;
      left = w.left;
      told = w.told;
      serves = here.0;
      drew = here.2;
      no_platform = here.3;
      says = subst (λ (replies : List Reply). Says seed count replies w.serving old.written new.written ending) (sym here.1) w.says;
    }

-- the world with the session that it has
pub idle_still : {S R I O L : Type 0} (old new : Handed S R I O L) (session : Option Session) (ending : Ending) → old.world.session ≡ None → new.world.session ≡ None
    → IsIdle old.world (record new.world { session = session }) old.written new.written ending → IsIdle old.world new.world old.written new.written ending
idle_still old new session ending alone then_alone i =
    let none : session ≡ None = ap (λ (w : World). w.session) i.world ∙ alone in
    record {
      memory = i.memory;
      world = ap (λ (s : Option Session). record new.world { session = s }) (then_alone ∙ sym none) ∙ i.world;
      unput = i.unput;
    }

pub working_of : {S R I O L : Type 0} (tells : Type 0) (seed count status : ℕ) (old new : Handed S R I O L) (session : Option Session) (ending : Ending)
    → old.world.session ≡ None → new.world.session ≡ None → new.world.drawn ≡ None → new.input ≡ old.input → count ≤ 5000 → status ≡ exit_of ending → IfErr ending (HasCause old.counts new.counts)
    → (tells → (IsServedImage old.world.history.present → ⊥) → (exit_of ending ≡ 8) ⊎ (exit_of ending ≡ 4) ⊎ (exit_of ending ≡ 5) ⊎ (exit_of ending ≡ 11))
    → IsIdle old.world (record new.world { session = session }) old.written new.written ending ⊎ Worked tells seed count (first_by old.drawn old.world) (drew_by new.drawn (record new.world { session = session })) old.written new.written ending
    → Working tells seed count status old new
working_of tells seed count status old new session ending alone then_alone untold untaken few is cause refused course = record {
  untaken = untaken;
  ending = ending;
  status_is = is;
  course = elim course [
    | inl i ↦ inl (idle_still old new session ending alone then_alone i)
    | inr w ↦ inr (serves_work tells seed count old new session ending alone then_alone untold w)
  ];
  bad_root = λ told unserved. subst (λ (n : ℕ). (n ≡ 8) ⊎ (n ≡ 4) ⊎ (n ≡ 5) ⊎ (n ≡ 11)) (sym is) (refused told unserved);
  complete = λ told there stands served room quiet. subst (λ (n : ℕ). (n ≡ 11) ⊎ ((n ≡ 0) × ServesAll seed count there old.written new.written ending)) (sym is) (elim course [
    | inl i ↦ inl (ap exit_of i.memory)
    | inr w ↦
        (let s = serves_work tells seed count old new session ending alone then_alone untold w in
        work_complete tells old.world new.world seed count s.serving ending old.counts new.counts s.left s.told old.written new.written there told stands served s.serves s.says cause few room quiet)
  ]);
}
