-- A run with room for 42 pages a line and for each upgrade, a short input and no fault answers each line, and none that too few pages were free.
use Rattle.std.proofs.Common.{◌≡◌, ◌≢◌, ℕ, ◌+◌, ◌-◌, ◌*◌, ◌≤◌, Bool, false, List, [], ◌∷◌, ◌++◌, Option, None, Some, length, ◌⊎◌, inl, inr, refl, sym, ◌∙◌, subst, ap, arith, length-append, Ok, Err}
use Rattle.std.specs.Prelude.{All, nat_lt, flat_map, IfErr}
use Rattle.std.proofs.lemmas.Grind.{common_steps}
use Rattle.std.proofs.lemmas.List.{append-nil}
use Rattle.std.proofs.lemmas.List.Elements.{All-nil, All-cons}
use Rattle.sdbt_base.specs.Told.{Gave, Got, IsAtEnd}
use Rattle.text_lines.specs.Lines.{lines_of}
use Rattle.script_lang.specs.Replies.{line_of, Reply, Full}
use Rattle.sdbt_base.specs.Arrays.{State, closed, Device}
use Rattle.script_lang.specs.Answers.{Answers, answer}
use Rattle.device_terms.specs.Served.{IsServedImage}
use Rattle.device_cli.specs.World.{World}
use Rattle.device_cli.specs.Represents.{StandsFor}
use Rattle.device_cli.specs.Pages.{upgrade_of, upgrade_lines, most_upgrade, Standing, standing, TurnOn, AnswersOn}
use Rattle.device_cli.specs.Seen.{mapped_of}
use Rattle.device_cli.specs.Run.{IsStatus, Took}
use Rattle.line_run.specs.Stops.{HasCause, TookUntil, Ending, exit_of}
use Rattle.sdbt_base.specs.Counts.{Counts, NoneRose}
use Rattle.line_run.specs.declared.stop.Stop.TheVariants as stops
use Rattle.session_calls.specs.declared.stops.DeviceStop.TheVariants as device
use Rattle.device_cli.proofs.RanLaws.{Took-of}
use Rattle.device_cli.specs.Ran.{AnswersScript, AnswersFrom, IsAmple, IsComplete}
use Rattle.device_cli.proofs.PageLaws.{answers_of}
use Rattle.device_cli.proofs.RoomLaws.{answer_room}
use Rattle.device_cli.proofs.TurnLaws.{needed_most, line_bound, spelled}
use Rattle.device_cli.proofs.UpgradeLaws.{IsWithin, needs_within, turn_within, within_closed}

times_less : (n a b : ℕ) → a ≤ b → n * a ≤ n * b
times_less n a b less = grind (arith, common_steps)

not_less : (free needed : ℕ) → needed ≤ free → nat_lt free needed ≡ false
not_less free needed h = grind (arith, common_steps)

turn_room : (capacity : ℕ) (old : Standing) (line : List ℕ) (reply : Reply) (new : Standing) (most : ℕ) → upgrade_of old.state ≤ most → old.pages + 41 * old.updates + 1 + spelled line * most ≤ capacity
    → TurnOn capacity old line reply new → reply ≢ Full
turn_room capacity old line reply new most few room (inl (command, spells, needed, needs, (counted, is), added, updated)) e =
    let more : spelled line * upgrade_of old.state ≤ spelled line * most = times_less (spelled line) (upgrade_of old.state) most few in
    let free : nat_lt (capacity - old.pages) needed ≡ false = not_less (capacity - old.pages) needed (omega (arith, room, needs.within, needed_most line command (41 * old.updates) (upgrade_of old.state) spells, more)) in
    answer_room counted old.state command
    (subst (λ (b : Bool). (answer b counted old.state command).0 ≡ Full) free (sym (ap (λ (p : Reply × State). p.0) is) ∙ e))
turn_room capacity old line reply new most few room (inr (bad, is, same)) e = cc

-- with 42 pages for each line, and as many for each upgrade as one needs at most
roomy : (capacity : ℕ) (old : Standing) (lines : List (List ℕ)) (replies : List Reply) (new : Standing) (mapped most : ℕ) → IsWithin old.state mapped → most_upgrade (mapped + length lines) ≤ most
    → old.pages + 41 * old.updates + 42 * length lines + upgrade_lines lines * most ≤ capacity → AnswersOn capacity old lines replies new → All (λ r. r ≢ Full) replies
roomy capacity old lines [] new mapped most held within room h = All-nil (λ (r : Reply). r ≢ Full)
roomy capacity old [] (reply ∷ replies) new mapped most held within room h = absurd h
roomy capacity old (line ∷ lines) (reply ∷ replies) new mapped most held within room (mid, turn, rest) =
    let few : upgrade_of old.state ≤ most = omega (arith, needs_within old.state mapped held, within) in
    All-cons (λ (r : Reply). r ≢ Full) reply replies (turn_room capacity old line reply mid most few (omega (arith, room)) turn)
    (roomy capacity mid lines replies new (mapped + 1) most (turn_within capacity old line reply mid mapped held turn) (omega (arith, within))
    (omega (arith, room, line_bound capacity old line reply mid most few turn)) rest)

-- what was taken of a text, where nothing is left, is all of it
all_taken : (text taken : List ℕ) (left left_now : Option (List ℕ)) → left ≡ Some text → Gave left taken left_now → IsAtEnd left_now → taken ≡ text
all_taken text taken left None is gave end = absurd cc
all_taken text taken left (Some rest) is gave end =
    let e : Some text ≡ Some (taken ++ rest) = sym is ∙ gave in
    let f : text ≡ taken ++ rest = cc in
    sym (f ∙ ap (λ (r : List ℕ). taken ++ r) end ∙ append-nil taken)

-- no more is taken than there is
pub some_taken : (text taken : List ℕ) (left left_now : Option (List ℕ)) → left ≡ Some text → Gave left taken left_now → length taken ≤ length text
some_taken text taken left None is gave = absurd cc
some_taken text taken left (Some rest) is gave =
    let e : Some text ≡ Some (taken ++ rest) = sym is ∙ gave in
    let f : text ≡ taken ++ rest = cc in
    omega (arith, ap (λ (t : List ℕ). length t) f, length-append taken rest)

pub complete_at : (tells : Type 0) (old new : World) (left left_now written written_now : Option (List ℕ)) (text : List ℕ) (there : Option Device)
    → (script : AnswersScript tells old new 0 left left_now written written_now) → AnswersFrom old new 0 (closed there) script.lines script.replies script.part
    → StandsFor old.history.present there → IsAmple left text (mapped_of there) old.head old.capacity → IsComplete (closed there) text written written_now
complete_at tells old new left left_now written written_now text there script from stands ample =
    let all = script.all refl in
    let taken : script.taken ≡ text = all_taken text script.taken left left_now ample.text_is script.gave all.0 in
    let lines : script.lines ≡ lines_of text = all.1 ∙ ap (λ (t : List ℕ). lines_of t) taken in
    let none : script.part ≡ [] = script.no_part (λ e. omega (arith, e)) (λ e. omega (arith, e)) (λ e. omega (arith, e)) in
    let entry = standing (closed there) old.head 0 in
    let now = standing from.now from.pages from.updates in
    record {
      replies = script.replies;
      got = subst (λ (bytes : List ℕ). Got written bytes written_now)
          (ap (λ (part : List ℕ). flat_map line_of script.replies ++ part) none ∙ append-nil (flat_map line_of script.replies)) script.got;
      now = from.now;
      answers = subst (λ (l : List (List ℕ)). Answers (closed there) l script.replies from.now) lines
          (answers_of old.capacity entry script.lines script.replies now from.answers);
      each = all.2 ∙ ap (λ (l : List (List ℕ)). length l) lines;
      roomy = roomy old.capacity entry script.lines script.replies now (mapped_of there) (most_upgrade (mapped_of there + length script.lines))
          (within_closed old.history.present there stands) (omega arith)
          (subst (λ (l : List (List ℕ)). old.head + 41 * 0 + 42 * length l + upgrade_lines l * most_upgrade (mapped_of there + length l) ≤ old.capacity) (sym lines) (omega (arith, ample.room))) from.answers;
    }

-- and with its replies
pub complete_with : (tells : Type 0) (old new : World) (left left_now written written_now : Option (List ℕ)) (text : List ℕ) (there : Option Device)
    → (script : AnswersScript tells old new 0 left left_now written written_now) → AnswersFrom old new 0 (closed there) script.lines script.replies script.part
    → StandsFor old.history.present there → IsAmple left text (mapped_of there) old.head old.capacity → (all : IsComplete (closed there) text written written_now) × (all.replies ≡ script.replies)
unfolding complete_at
complete_with tells old new left left_now written written_now text there script from stands ample = (complete_at tells old new left left_now written written_now text there script from stands ample, refl)

pub complete : (tells : Type 0) (old new : World) (status : ℕ) (left left_now written written_now : Option (List ℕ)) (text : List ℕ) (there : Option Device)
    → tells → StandsFor old.history.present there → IsServedImage old.history.present
    → (script : AnswersScript tells old new status left left_now written written_now)
    → ((taken : List ℕ) × Gave left taken left_now × Took status taken left_now) → IsStatus status
    → (status ≡ 2 → ⊥) → (status ≡ 3 → ⊥) → (status ≡ 4 → ⊥) → (status ≡ 5 → ⊥) → (status ≡ 6 → ⊥) → (status ≡ 7 → ⊥) → (status ≡ 10 → ⊥)
    → IsAmple left text (mapped_of there) old.head old.capacity → (status ≡ 11) ⊎ ((status ≡ 0) × IsComplete (closed there) text written written_now)
complete tells old new status left left_now written written_now text there told stands served script (taken, gave, took) is no2 no3 no4 no5 no6 no7 no10 ample =
    let from = script.answered told there stands served in
    which is from.sound.0 from.sound.1
    (λ e. let limit = took.limit e in omega (arith, limit, some_taken text taken left left_now ample.text_is gave, ample.short))
    (λ zero.
    let script0 = subst (λ (n : ℕ). AnswersScript tells old new n left left_now written written_now) zero script in
    complete_at tells old new left left_now written written_now text there script0 (script0.answered told there stands served) stands ample)
  where
    which : IsStatus status → (status ≢ 8) → (status ≢ 9) → (status ≡ 12 → ⊥) → (status ≡ 0 → IsComplete (closed there) text written written_now)
        → (status ≡ 11) ⊎ ((status ≡ 0) × IsComplete (closed there) text written written_now)
    which (inl e) p q r k = inr (e, k e)
    which (inr (inl e)) p q r k = absurd (no2 e)
    which (inr (inr (inl e))) p q r k = absurd (no3 e)
    which (inr (inr (inr (inl e)))) p q r k = absurd (no4 e)
    which (inr (inr (inr (inr (inl e))))) p q r k = absurd (no5 e)
    which (inr (inr (inr (inr (inr (inl e)))))) p q r k = absurd (no6 e)
    which (inr (inr (inr (inr (inr (inr (inl e))))))) p q r k = absurd (no7 e)
    which (inr (inr (inr (inr (inr (inr (inr (inl e)))))))) p q r k = absurd (p e)
    which (inr (inr (inr (inr (inr (inr (inr (inr (inl e))))))))) p q r k = absurd (q e)
    which (inr (inr (inr (inr (inr (inr (inr (inr (inr (inl e)))))))))) p q r k = absurd (no10 e)
    which (inr (inr (inr (inr (inr (inr (inr (inr (inr (inr (inl e))))))))))) p q r k = inl e
    which (inr (inr (inr (inr (inr (inr (inr (inr (inr (inr (inr e))))))))))) p q r k = absurd (r e)

-- where no count rose, no status says so
quiet_exit : (ending : Ending) (before now : Counts) → IfErr ending (HasCause before now) → NoneRose before now
    → (exit_of ending ≢ 2) × (exit_of ending ≢ 3) × (exit_of ending ≢ 4) × (exit_of ending ≢ 5) × (exit_of ending ≢ 6) × (exit_of ending ≢ 7)
quiet_exit (Ok done) before now h quiet = (λ e. omega (arith, e), λ e. omega (arith, e), λ e. omega (arith, e), λ e. omega (arith, e), λ e. omega (arith, e), λ e. omega (arith, e))
quiet_exit (Err stops.Source) before now h quiet = (λ e. omega (arith, e), λ e. quiet.input h.0, λ e. omega (arith, e), λ e. omega (arith, e), λ e. omega (arith, e), λ e. omega (arith, e))
quiet_exit (Err stops.Sink) before now h quiet = (λ e. omega (arith, e), λ e. omega (arith, e), λ e. quiet.output h.0, λ e. omega (arith, e), λ e. omega (arith, e), λ e. omega (arith, e))
quiet_exit (Err (stops.Device device.Platform)) before now h quiet = (λ e. omega (arith, e), λ e. omega (arith, e), λ e. omega (arith, e), λ e. quiet.platform h.0, λ e. omega (arith, e), λ e. omega (arith, e))
quiet_exit (Err (stops.Device device.Tape)) before now h quiet = (λ e. omega (arith, e), λ e. omega (arith, e), λ e. omega (arith, e), λ e. omega (arith, e), λ e. quiet.tape h.0, λ e. omega (arith, e))
quiet_exit (Err (stops.Device device.Ledger)) before now h quiet = (λ e. omega (arith, e), λ e. omega (arith, e), λ e. omega (arith, e), λ e. omega (arith, e), λ e. omega (arith, e), λ e. quiet.ledger h.0)
quiet_exit (Err (stops.Device device.Memory)) before now h quiet = (λ e. omega (arith, e), λ e. omega (arith, e), λ e. omega (arith, e), λ e. omega (arith, e), λ e. omega (arith, e), λ e. omega (arith, e))
quiet_exit (Err (stops.Device device.BadRoot)) before now h quiet = (λ e. omega (arith, e), λ e. omega (arith, e), λ e. omega (arith, e), λ e. omega (arith, e), λ e. omega (arith, e), λ e. omega (arith, e))
quiet_exit (Err (stops.Device (device.BadRecord addr))) before now h quiet = (λ e. omega (arith, e), λ e. omega (arith, e), λ e. omega (arith, e), λ e. omega (arith, e), λ e. omega (arith, e), λ e. omega (arith, e))
quiet_exit (Err stops.Limit) before now h quiet = (λ e. omega (arith, e), λ e. omega (arith, e), λ e. omega (arith, e), λ e. omega (arith, e), λ e. omega (arith, e), λ e. omega (arith, e))

-- the statuses of endings are among those that there are
pub is_exit : (ending : Ending) → IsStatus (exit_of ending)
is_exit (Ok done) = inl refl
is_exit (Err stops.Source) = inr (inr (inl refl))
is_exit (Err stops.Sink) = inr (inr (inr (inl refl)))
is_exit (Err (stops.Device device.Platform)) = inr (inr (inr (inr (inl refl))))
is_exit (Err (stops.Device device.Tape)) = inr (inr (inr (inr (inr (inl refl)))))
is_exit (Err (stops.Device device.Ledger)) = inr (inr (inr (inr (inr (inr (inl refl))))))
is_exit (Err (stops.Device device.BadRoot)) = inr (inr (inr (inr (inr (inr (inr (inl refl)))))))
is_exit (Err (stops.Device (device.BadRecord addr))) = inr (inr (inr (inr (inr (inr (inr (inr (inl refl))))))))
is_exit (Err (stops.Device device.Memory)) = inr (inr (inr (inr (inr (inr (inr (inr (inr (inr (inl refl))))))))))
is_exit (Err stops.Limit) = inr (inr (inr (inr (inr (inr (inr (inr (inr (inr (inr refl))))))))))

-- a run never ends as a check that refuses
pub never_ten : (ending : Ending) → exit_of ending ≡ 10 → ⊥
never_ten (Ok done) is = omega (arith, is)
never_ten (Err stops.Source) is = omega (arith, is)
never_ten (Err stops.Sink) is = omega (arith, is)
never_ten (Err stops.Limit) is = omega (arith, is)
never_ten (Err (stops.Device device.Platform)) is = omega (arith, is)
never_ten (Err (stops.Device device.Tape)) is = omega (arith, is)
never_ten (Err (stops.Device device.Ledger)) is = omega (arith, is)
never_ten (Err (stops.Device device.BadRoot)) is = omega (arith, is)
never_ten (Err (stops.Device (device.BadRecord addr))) is = omega (arith, is)
never_ten (Err (stops.Device device.Memory)) is = omega (arith, is)

-- the same of a run that ends so
pub complete_ending : (tells : Type 0) (old new : World) (ending : Ending) (before now : Counts) (left left_now written written_now : Option (List ℕ)) (text : List ℕ) (there : Option Device)
    → tells → StandsFor old.history.present there → IsServedImage old.history.present
    → AnswersScript tells old new (exit_of ending) left left_now written written_now
    → (taken : List ℕ) → Gave left taken left_now → TookUntil ending taken left_now → IfErr ending (HasCause before now) → NoneRose before now
    → IsAmple left text (mapped_of there) old.head old.capacity → (exit_of ending ≡ 11) ⊎ ((exit_of ending ≡ 0) × IsComplete (closed there) text written written_now)
complete_ending tells old new ending before now left left_now written written_now text there told stands served script taken gave took cause quiet ample =
    let q = quiet_exit ending before now cause quiet in
    complete tells old new (exit_of ending) left left_now written written_now text there told stands served script
    (taken, gave, Took-of ending taken left_now took) (is_exit ending) q.0 q.1 q.2 q.3 q.4 q.5 (never_ten ending) ample
