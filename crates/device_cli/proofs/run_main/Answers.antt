use Rattle.std.proofs.Common.{rules, ◌≡◌, ◌≤◌, ◌⊎◌, ℕ, inl, inr, length, [], Result, Ok, Err, None, List, refl, sym, subst, arith, ◌∙◌}
use Rattle.std.specs.Prelude.{map, string_bytes}
use Rattle.std.proofs.lemmas.List.{length-map}
use Rattle.sdbt_base.specs.Told.{Got}
use Rattle.sdbt_base.proofs.ToldLaws.{Gave-nothing}
use Rattle.device_terms.specs.Served.{IsServedCell}
use Rattle.device_course.specs.States.{IsLater, around}
use Rattle.device_course.proofs.ProgramLaws.{keeps_ledger, ended_not, ended_look}
use Rattle.device_cli.specs.Given.{HasBadRecord}
use Rattle.device_cli.specs.Handed.{handed}
use Rattle.device_cli.specs.Run.{IsRefusal}
use Rattle.line_run.specs.Stops.{Ending, status_of}
use Rattle.line_run.specs.Puts.{damage_line}
use Rattle.device_cli.specs.Seizing.{IsRefused, ReadsFewFor, Seizes}
use Rattle.device_cli.specs.Words.{AreRunWords, AreCheckWords, AreSeizeWords, AreWorkWords, records_of}
use Rattle.device_cli.specs.Working.{Working}
use Rattle.device_cli.specs.World.{World, world_of}
use Rattle.device_cli.specs.declared.checking.Finding.{Finding}
use Rattle.session_calls.specs.declared.stops.DeviceStop.TheVariants as device
use Rattle.line_run.specs.declared.stop.Stop.{Stop}
use Rattle.line_run.specs.declared.stop.Stop.TheVariants as stops
use Rattle.device_cli.proofs.CheckLaws.{so_bad, bad_line, image_stays, not_served, untouched_of}
use Rattle.device_cli.proofs.EndLaws.{forgets, ended_run, serves_at, checked_at, seizing_at}
use Rattle.device_cli.proofs.GivenLaws.{few_records}
use Rattle.line_run.proofs.StopLaws.{ArePart, cause_wide}
use Rattle.device_cli.proofs.SeizeWordLaws.{only_word, at_eight}
use Rattle.device_cli.proofs.ExitLaws.{check_exits, never_two, run_exits, seize_exits, work_exits}
use Rattle.device_cli.proofs.StatusLaws.{neither, none_of}
use Rattle.device_cli.proofs.WordLaws.{one_script, not_run, not_serving, at_most}
use Rattle.device_cli.proofs.WorkLaws.{ended_work, working_of}
use Rattle.device_cli.proofs.run_main.Goals as goal

-- a run that was stopped has another status than 0
never_zero : (stop : Stop) → status_of stop ≡ 0 → ⊥
never_zero stops.Source is = omega (arith, is)
never_zero stops.Sink is = omega (arith, is)
never_zero stops.Limit is = omega (arith, is)
never_zero (stops.Device device.Platform) is = omega (arith, is)
never_zero (stops.Device device.Tape) is = omega (arith, is)
never_zero (stops.Device device.Ledger) is = omega (arith, is)
never_zero (stops.Device device.BadRoot) is = omega (arith, is)
never_zero (stops.Device (device.BadRecord addr)) is = omega (arith, is)
never_zero (stops.Device device.Memory) is = omega (arith, is)

-- ---- a run

pub returns-in-Ok-clause-serves : goal.returns-in-Ok-clause-serves
returns-in-Ok-clause-serves g c words =
    let old = handed g.P.Platform g.T.Tape g.I.Source g.O.Sink g.L.Sink c.args.platform.now c.args.tape.now c.args.input.now c.args.output.now c.args.ledger.now in
    let new = handed g.P.Platform g.T.Tape g.I.Source g.O.Sink g.L.Sink c.run.new.platform c.run.new.tape c.run.new.input c.run.new.output c.run.new.ledger in
    let ran = c.in-Ok.ensures.ran in
    serves_at g.P.Platform.tells _ old new ran.0 (Ok tt) refl refl refl refl ran.1 tt

pub returns-in-Ok-clause-forgets : goal.returns-in-Ok-clause-forgets
returns-in-Ok-clause-forgets g c =
    let old = around g.P.Platform g.T.Tape g.L.Sink c.args.platform.now c.args.tape.now c.args.ledger.now in
    let new = around g.P.Platform g.T.Tape g.L.Sink c.run.new.platform c.run.new.tape c.run.new.ledger in
    let was : World = world_of g.P.Platform None c.args.platform.now in
    let ran = c.in-Ok.ensures.ran in
    let ended = ended_run g.P.Platform.tells _ old new _ was (g.T.Tape.drawn c.args.tape.now) (g.T.Tape.drawn c.run.new.tape) ran.0 _ _ (Ok tt) _ _ _ _ refl refl refl refl ran.1 c.in-Ok.ensures.keeps in
    forgets g.P.Platform.tells old new _ ended

pub returns-in-Ok-clause-ledger : goal.returns-in-Ok-clause-ledger
returns-in-Ok-clause-ledger g c =
    let old = around g.P.Platform g.T.Tape g.L.Sink c.args.platform.now c.args.tape.now c.args.ledger.now in
    let new = around g.P.Platform g.T.Tape g.L.Sink c.run.new.platform c.run.new.tape c.run.new.ledger in
    let was : World = world_of g.P.Platform None c.args.platform.now in
    let ran = c.in-Ok.ensures.ran in
    let ended = ended_run g.P.Platform.tells _ old new _ was (g.T.Tape.drawn c.args.tape.now) (g.T.Tape.drawn c.run.new.tape) ran.0 _ _ (Ok tt) _ _ _ _ refl refl refl refl ran.1 c.in-Ok.ensures.keeps in
    keeps_ledger g.P.Platform.tells old new _ _ (λ zero. refl) ended

pub returns-in-Err-clause-serves : goal.returns-in-Err-clause-serves
returns-in-Err-clause-serves g c words =
    let old = handed g.P.Platform g.T.Tape g.I.Source g.O.Sink g.L.Sink c.args.platform.now c.args.tape.now c.args.input.now c.args.output.now c.args.ledger.now in
    let new = handed g.P.Platform g.T.Tape g.I.Source g.O.Sink g.L.Sink c.run.new.platform c.run.new.tape c.run.new.input c.run.new.output c.run.new.ledger in
    let ran = c.in-Err.ensures.ran in
    serves_at g.P.Platform.tells _ old new ran.0 (Err c.in-Err.stop) refl refl refl c.status.ensures ran.1 c.in-Err.ensures.blame.cause

pub returns-in-Err-clause-forgets : goal.returns-in-Err-clause-forgets
returns-in-Err-clause-forgets g c =
    let old = around g.P.Platform g.T.Tape g.L.Sink c.args.platform.now c.args.tape.now c.args.ledger.now in
    let new = around g.P.Platform g.T.Tape g.L.Sink c.run.new.platform c.run.new.tape c.run.new.ledger in
    let was : World = world_of g.P.Platform None c.args.platform.now in
    let ran = c.in-Err.ensures.ran in
    let ended = ended_run g.P.Platform.tells _ old new _ was (g.T.Tape.drawn c.args.tape.now) (g.T.Tape.drawn c.run.new.tape) ran.0 _ _ (Err c.in-Err.stop) _ _ _ _ refl refl refl refl ran.1 c.in-Err.ensures.keeps in
    forgets g.P.Platform.tells old new _ ended

pub returns-in-Err-clause-ledger : goal.returns-in-Err-clause-ledger
returns-in-Err-clause-ledger g c =
    let old = around g.P.Platform g.T.Tape g.L.Sink c.args.platform.now c.args.tape.now c.args.ledger.now in
    let new = around g.P.Platform g.T.Tape g.L.Sink c.run.new.platform c.run.new.tape c.run.new.ledger in
    let was : World = world_of g.P.Platform None c.args.platform.now in
    let ran = c.in-Err.ensures.ran in
    let ended = ended_run g.P.Platform.tells _ old new _ was (g.T.Tape.drawn c.args.tape.now) (g.T.Tape.drawn c.run.new.tape) ran.0 _ _ (Err c.in-Err.stop) _ _ _ _ refl refl refl refl ran.1 c.in-Err.ensures.keeps in
    keeps_ledger g.P.Platform.tells old new _ _ (λ zero. absurd (never_zero c.in-Err.stop (sym c.status.ensures ∙ zero))) ended

-- a stop before the first line, over a cell that can't be served
refusal_status : (stop : Stop) (status : ℕ) → status ≡ status_of stop → IsRefusal stop → (status ≡ 8) ⊎ (status ≡ 4) ⊎ (status ≡ 5)
refusal_status stops.Sink status is refusal = inr (inl is)
refusal_status (stops.Device device.Platform) status is refusal = inr (inr is)
refusal_status (stops.Device device.BadRoot) status is refusal = inl is
refusal_status (stops.Device device.Tape) status is refusal = absurd refusal
refusal_status (stops.Device device.Ledger) status is refusal = absurd refusal
refusal_status (stops.Device (device.BadRecord addr)) status is refusal = absurd refusal
refusal_status (stops.Device device.Memory) status is refusal = absurd refusal
refusal_status stops.Source status is refusal = absurd refusal
refusal_status stops.Limit status is refusal = absurd refusal

pub returns-in-Err-clause-refuses : goal.returns-in-Err-clause-refuses
returns-in-Err-clause-refuses g c =
    let eight : c.status.result ≡ 8 → status_of c.in-Err.stop ≡ 8 = λ e. sym c.status.ensures ∙ e in
    record {
      bad_root_only = λ told e served. absurd (c.in-Err.ensures.refused_only told (eight e) served);
      bad_root = λ told unserved words. refusal_status c.in-Err.stop c.status.result c.status.ensures (c.in-Err.ensures.refused told unserved).0;
      untouched = λ told why.
          let still = c.run.ensures.untouched told (not_served (λ e. c.in-Err.ensures.refused_only told (eight e)) why) in
          untouched_of still.undrawn still.untaken still.unput still.pages still.image;
      said = λ told e. c.in-Err.ensures.said told (eight e);
      other_words = λ two. absurd (never_two c.in-Err.stop (sym c.status.ensures ∙ two));
    }

pub returns-in-Ok-clause-exits : goal.returns-in-Ok-clause-exits
returns-in-Ok-clause-exits g c =
    let old = handed g.P.Platform g.T.Tape g.I.Source g.O.Sink g.L.Sink c.args.platform.now c.args.tape.now c.args.input.now c.args.output.now c.args.ledger.now in
    let new = handed g.P.Platform g.T.Tape g.I.Source g.O.Sink g.L.Sink c.run.new.platform c.run.new.tape c.run.new.input c.run.new.output c.run.new.ledger in
    let asked : AreRunWords (map string_bytes c.args.words.now) = rw c.in-Some-Run.field-0-is at c.in-Some-Run.ensures in
    let ran = c.in-Ok.ensures.ran.1 in
    run_exits (map string_bytes c.args.words.now) 0 old new (Ok tt) refl asked c.in-Ok.ensures.blame ran.taken ran.gave ran.took

pub returns-in-Err-clause-exits : goal.returns-in-Err-clause-exits
returns-in-Err-clause-exits g c =
    let old = handed g.P.Platform g.T.Tape g.I.Source g.O.Sink g.L.Sink c.args.platform.now c.args.tape.now c.args.input.now c.args.output.now c.args.ledger.now in
    let new = handed g.P.Platform g.T.Tape g.I.Source g.O.Sink g.L.Sink c.run.new.platform c.run.new.tape c.run.new.input c.run.new.output c.run.new.ledger in
    let asked : AreRunWords (map string_bytes c.args.words.now) = rw c.in-Some-Run.field-0-is at c.in-Some-Run.ensures in
    let ran = c.in-Err.ensures.ran.1 in
    run_exits (map string_bytes c.args.words.now) c.status.result old new (Err c.in-Err.stop) c.status.ensures asked c.in-Err.ensures.blame ran.taken ran.gave ran.took

-- ---- other words

pub returns-in-None-clause-exits : goal.returns-in-None-clause-exits
returns-in-None-clause-exits g c = record {
  is = search rules;
  forms = (λ two. c.in-None.ensures, λ other. refl);
  of_words = record { input = λ e. absurd (neither 2 3 12 (λ n. omega (arith, n)) (λ n. omega (arith, n)) e); lines = λ e. absurd (none_of 2 6 7 9 (λ n. omega (arith, n)) (λ n. omega (arith, n)) (λ n. omega (arith, n)) e); refused = λ e. absurd (omega (arith, e)) };
  blame = search rules;
  taken = λ no_seizure no_work. ([], Gave-nothing (g.I.Source.left c.args.input.now), search rules);
}

pub returns-in-None-clause-forgets : goal.returns-in-None-clause-forgets
returns-in-None-clause-forgets g c =
    let here = around g.P.Platform g.T.Tape g.L.Sink c.args.platform.now c.args.tape.now c.args.ledger.now in
    forgets g.P.Platform.tells here here (Unit {0}) (ended_not g.P.Platform.tells here (g.met.P.Platform.has_room c.args.platform.now))

pub returns-in-None-clause-ledger : goal.returns-in-None-clause-ledger
returns-in-None-clause-ledger g c =
    let here = around g.P.Platform g.T.Tape g.L.Sink c.args.platform.now c.args.tape.now c.args.ledger.now in
    keeps_ledger g.P.Platform.tells here here (Unit {0}) _ (λ zero. tt) (ended_not g.P.Platform.tells here (g.met.P.Platform.has_room c.args.platform.now))

pub returns-in-None-clause-works : goal.returns-in-None-clause-works
returns-in-None-clause-works g c seed count words = absurd (c.in-None.ensures (inr (inr (seed, count, words))))

-- ---- a check

pub returns-in-Ok-check-clause-forgets : goal.returns-in-Ok-check-clause-forgets
returns-in-Ok-check-clause-forgets g c =
    let old = around g.P.Platform g.T.Tape g.L.Sink c.args.platform.now c.args.tape.now c.args.ledger.now in
    let new = around g.P.Platform g.T.Tape g.L.Sink c.check.new.platform c.args.tape.now c.args.ledger.now in
    let later : IsLater old new = record { capacity = c.check.ensures.capacity; rises = omega (arith, c.check.ensures.head); within = g.met.P.Platform.has_room c.check.new.platform } in
    let ended = ended_look g.P.Platform.tells old new (Unit {0}) later refl refl c.check.ensures.time c.check.ensures.image in
    forgets g.P.Platform.tells old new (Unit {0}) ended

pub returns-in-Ok-check-clause-ledger : goal.returns-in-Ok-check-clause-ledger
returns-in-Ok-check-clause-ledger g c =
    let old = around g.P.Platform g.T.Tape g.L.Sink c.args.platform.now c.args.tape.now c.args.ledger.now in
    let new = around g.P.Platform g.T.Tape g.L.Sink c.check.new.platform c.args.tape.now c.args.ledger.now in
    let later : IsLater old new = record { capacity = c.check.ensures.capacity; rises = omega (arith, c.check.ensures.head); within = g.met.P.Platform.has_room c.check.new.platform } in
    let ended = ended_look g.P.Platform.tells old new (Unit {0}) later refl refl c.check.ensures.time c.check.ensures.image in
    keeps_ledger g.P.Platform.tells old new (Unit {0}) _ (λ zero. tt) ended

pub returns-in-Err-check-clause-forgets : goal.returns-in-Err-check-clause-forgets
returns-in-Err-check-clause-forgets g c =
    let old = around g.P.Platform g.T.Tape g.L.Sink c.args.platform.now c.args.tape.now c.args.ledger.now in
    let new = around g.P.Platform g.T.Tape g.L.Sink c.check.new.platform c.args.tape.now c.args.ledger.now in
    let later : IsLater old new = record { capacity = c.check.ensures.capacity; rises = omega (arith, c.check.ensures.head); within = g.met.P.Platform.has_room c.check.new.platform } in
    let ended = ended_look g.P.Platform.tells old new (Unit {0}) later refl refl c.check.ensures.time c.check.ensures.image in
    forgets g.P.Platform.tells old new (Unit {0}) ended

pub returns-in-Err-check-clause-ledger : goal.returns-in-Err-check-clause-ledger
returns-in-Err-check-clause-ledger g c =
    let old = around g.P.Platform g.T.Tape g.L.Sink c.args.platform.now c.args.tape.now c.args.ledger.now in
    let new = around g.P.Platform g.T.Tape g.L.Sink c.check.new.platform c.args.tape.now c.args.ledger.now in
    let later : IsLater old new = record { capacity = c.check.ensures.capacity; rises = omega (arith, c.check.ensures.head); within = g.met.P.Platform.has_room c.check.new.platform } in
    let ended = ended_look g.P.Platform.tells old new (Unit {0}) later refl refl c.check.ensures.time c.check.ensures.image in
    keeps_ledger g.P.Platform.tells old new (Unit {0}) _ (λ zero. tt) ended

pub returns-in-Ok-check-clause-checks : goal.returns-in-Ok-check-clause-checks
returns-in-Ok-check-clause-checks g c words =
    let old = handed g.P.Platform g.T.Tape g.I.Source g.O.Sink g.L.Sink c.args.platform.now c.args.tape.now c.args.input.now c.args.output.now c.args.ledger.now in
    let new = handed g.P.Platform g.T.Tape g.I.Source g.O.Sink g.L.Sink c.check.new.platform c.args.tape.now c.check.new.input c.check.new.output c.args.ledger.now in
    let ending : Result Finding Stop = Ok c.in-Ok-check.finding in
    let part : ArePart _ _ old.counts new.counts = record { platform = inr (refl, refl); tape = inl (refl, refl, refl); input = inr (refl, refl); output = inr (refl, refl); ledger = inl (refl, refl, refl) } in
    checked_at g.P.Platform.tells _ old new ending refl refl c.check.ensures.head c.check.ensures.time c.check.ensures.image c.check.ensures.reads c.status-in-Ok-check.ensures c.in-Ok-check.ensures.checks
    (cause_wide _ _ old.counts new.counts ending part c.in-Ok-check.ensures.blame.cause)

pub returns-in-Err-check-clause-checks : goal.returns-in-Err-check-clause-checks
returns-in-Err-check-clause-checks g c words =
    let old = handed g.P.Platform g.T.Tape g.I.Source g.O.Sink g.L.Sink c.args.platform.now c.args.tape.now c.args.input.now c.args.output.now c.args.ledger.now in
    let new = handed g.P.Platform g.T.Tape g.I.Source g.O.Sink g.L.Sink c.check.new.platform c.args.tape.now c.check.new.input c.check.new.output c.args.ledger.now in
    let ending : Result Finding Stop = Err c.in-Err-check.stop in
    let part : ArePart _ _ old.counts new.counts = record { platform = inr (refl, refl); tape = inl (refl, refl, refl); input = inr (refl, refl); output = inr (refl, refl); ledger = inl (refl, refl, refl) } in
    checked_at g.P.Platform.tells _ old new ending refl refl c.check.ensures.head c.check.ensures.time c.check.ensures.image c.check.ensures.reads c.status-in-Err-check.ensures c.in-Err-check.ensures.checks
    (cause_wide _ _ old.counts new.counts ending part c.in-Err-check.ensures.blame.cause)

pub returns-in-Ok-check-clause-refuses : goal.returns-in-Ok-check-clause-refuses
returns-in-Ok-check-clause-refuses g c =
    let checks = c.in-Ok-check.ensures.checks in
    let image = (g.P.Platform.history c.args.platform.now).present in
    let bad : c.status-in-Ok-check.result ≡ 8 → _ = λ e. so_bad g.P.Platform.tells image checks.taken (g.I.Source.left c.check.new.input) c.in-Ok-check.finding checks.is.0 (sym c.status-in-Ok-check.ensures ∙ e) in
    record {
      bad_root_only = λ told e served. absurd ((bad e).1 told served);
      bad_root = search rules;
      untouched = λ told why. untouched_of refl (c.check.ensures.untaken told (not_served (λ e. (bad e).1 told) why)) refl c.check.ensures.head (image_stays _ _ (c.check.ensures.time told) (c.check.ensures.image told));
      said = λ told e. bad_line (g.O.Sink.written c.args.output.now) (g.O.Sink.written c.check.new.output) c.in-Ok-check.finding (bad e).0 checks.is.1;
      other_words = search rules;
    }

pub returns-in-Ok-check-clause-exits : goal.returns-in-Ok-check-clause-exits
returns-in-Ok-check-clause-exits g c =
    let old = handed g.P.Platform g.T.Tape g.I.Source g.O.Sink g.L.Sink c.args.platform.now c.args.tape.now c.args.input.now c.args.output.now c.args.ledger.now in
    let new = handed g.P.Platform g.T.Tape g.I.Source g.O.Sink g.L.Sink c.check.new.platform c.args.tape.now c.check.new.input c.check.new.output c.args.ledger.now in
    let asked : AreCheckWords (map string_bytes c.args.words.now) = rw c.in-Some-Check.field-0-is at c.in-Some-Check.ensures in
    let before = record old.counts { tape = 0; ledger = 0 } in
    let now = record new.counts { tape = 0; ledger = 0 } in
    let ending : Result Finding Stop = Ok c.in-Ok-check.finding in
    let part : ArePart before now old.counts new.counts = record { platform = inr (refl, refl); tape = inl (refl, refl, refl); input = inr (refl, refl); output = inr (refl, refl); ledger = inl (refl, refl, refl) } in
    check_exits g.P.Platform.tells (map string_bytes c.args.words.now) c.status-in-Ok-check.result old new before now old.world.history.present ending c.status-in-Ok-check.ensures asked part c.in-Ok-check.ensures.blame c.in-Ok-check.ensures.checks

pub returns-in-Err-check-clause-exits : goal.returns-in-Err-check-clause-exits
returns-in-Err-check-clause-exits g c =
    let old = handed g.P.Platform g.T.Tape g.I.Source g.O.Sink g.L.Sink c.args.platform.now c.args.tape.now c.args.input.now c.args.output.now c.args.ledger.now in
    let new = handed g.P.Platform g.T.Tape g.I.Source g.O.Sink g.L.Sink c.check.new.platform c.args.tape.now c.check.new.input c.check.new.output c.args.ledger.now in
    let asked : AreCheckWords (map string_bytes c.args.words.now) = rw c.in-Some-Check.field-0-is at c.in-Some-Check.ensures in
    let before = record old.counts { tape = 0; ledger = 0 } in
    let now = record new.counts { tape = 0; ledger = 0 } in
    let ending : Result Finding Stop = Err c.in-Err-check.stop in
    let part : ArePart before now old.counts new.counts = record { platform = inr (refl, refl); tape = inl (refl, refl, refl); input = inr (refl, refl); output = inr (refl, refl); ledger = inl (refl, refl, refl) } in
    check_exits g.P.Platform.tells (map string_bytes c.args.words.now) c.status-in-Err-check.result old new before now old.world.history.present ending c.status-in-Err-check.ensures asked part c.in-Err-check.ensures.blame c.in-Err-check.ensures.checks

-- ---- a seizure

pub seize_word-requires : goal.seize_word-requires
seize_word-requires g c =
    let asked : AreSeizeWords (map string_bytes c.args.words.now) = rw c.in-Some-Seize.field-0-is at c.in-Some-Seize.ensures in
    let few = subst (λ (words : List (List ℕ)). length words ≤ 64) (sym c.records_of.ensures) (few_records (map string_bytes c.args.words.now) asked) in
    subst (λ (count : ℕ). count ≤ 64) (length-map c.records_of.result.now string_bytes) few

pub returns-in-Ok-seize_word-clause-forgets : goal.returns-in-Ok-seize_word-clause-forgets
returns-in-Ok-seize_word-clause-forgets g c =
    let old = around g.P.Platform g.T.Tape g.L.Sink c.args.platform.now c.args.tape.now c.args.ledger.now in
    let new = around g.P.Platform g.T.Tape g.L.Sink c.seize_word.new.platform c.args.tape.now c.args.ledger.now in
    let later : IsLater old new = record { capacity = c.seize_word.ensures.capacity; rises = omega (arith, c.seize_word.ensures.head); within = g.met.P.Platform.has_room c.seize_word.new.platform } in
    let ended = ended_look g.P.Platform.tells old new (Unit {0}) later refl refl c.seize_word.ensures.time c.seize_word.ensures.image in
    forgets g.P.Platform.tells old new (Unit {0}) ended

pub returns-in-Ok-seize_word-clause-ledger : goal.returns-in-Ok-seize_word-clause-ledger
returns-in-Ok-seize_word-clause-ledger g c =
    let old = around g.P.Platform g.T.Tape g.L.Sink c.args.platform.now c.args.tape.now c.args.ledger.now in
    let new = around g.P.Platform g.T.Tape g.L.Sink c.seize_word.new.platform c.args.tape.now c.args.ledger.now in
    let later : IsLater old new = record { capacity = c.seize_word.ensures.capacity; rises = omega (arith, c.seize_word.ensures.head); within = g.met.P.Platform.has_room c.seize_word.new.platform } in
    let ended = ended_look g.P.Platform.tells old new (Unit {0}) later refl refl c.seize_word.ensures.time c.seize_word.ensures.image in
    keeps_ledger g.P.Platform.tells old new (Unit {0}) _ (λ zero. tt) ended

pub returns-in-Err-seize_word-clause-forgets : goal.returns-in-Err-seize_word-clause-forgets
returns-in-Err-seize_word-clause-forgets g c =
    let old = around g.P.Platform g.T.Tape g.L.Sink c.args.platform.now c.args.tape.now c.args.ledger.now in
    let new = around g.P.Platform g.T.Tape g.L.Sink c.seize_word.new.platform c.args.tape.now c.args.ledger.now in
    let later : IsLater old new = record { capacity = c.seize_word.ensures.capacity; rises = omega (arith, c.seize_word.ensures.head); within = g.met.P.Platform.has_room c.seize_word.new.platform } in
    let ended = ended_look g.P.Platform.tells old new (Unit {0}) later refl refl c.seize_word.ensures.time c.seize_word.ensures.image in
    forgets g.P.Platform.tells old new (Unit {0}) ended

pub returns-in-Err-seize_word-clause-ledger : goal.returns-in-Err-seize_word-clause-ledger
returns-in-Err-seize_word-clause-ledger g c =
    let old = around g.P.Platform g.T.Tape g.L.Sink c.args.platform.now c.args.tape.now c.args.ledger.now in
    let new = around g.P.Platform g.T.Tape g.L.Sink c.seize_word.new.platform c.args.tape.now c.args.ledger.now in
    let later : IsLater old new = record { capacity = c.seize_word.ensures.capacity; rises = omega (arith, c.seize_word.ensures.head); within = g.met.P.Platform.has_room c.seize_word.new.platform } in
    let ended = ended_look g.P.Platform.tells old new (Unit {0}) later refl refl c.seize_word.ensures.time c.seize_word.ensures.image in
    keeps_ledger g.P.Platform.tells old new (Unit {0}) _ (λ zero. tt) ended

pub returns-in-Ok-seize_word-clause-seizes : goal.returns-in-Ok-seize_word-clause-seizes
returns-in-Ok-seize_word-clause-seizes g c words =
    let old = handed g.P.Platform g.T.Tape g.I.Source g.O.Sink g.L.Sink c.args.platform.now c.args.tape.now c.args.input.now c.args.output.now c.args.ledger.now in
    let new = handed g.P.Platform g.T.Tape g.I.Source g.O.Sink g.L.Sink c.seize_word.new.platform c.args.tape.now c.args.input.now c.seize_word.new.output c.args.ledger.now in
    let ending : Ending = Ok tt in
    let records = records_of (map string_bytes c.args.words.now) in
    let seizes = subst (λ (records : List (List ℕ)). Seizes g.P.Platform.tells old.world.head old.world.history.present records old.written new.written ending) c.records_of.ensures c.in-Ok-seize_word.ensures.seizes in
    let reads : g.P.Platform.tells → ReadsFewFor old.world.head old.world.history.present records old.world.reads new.world.reads =
    subst (λ (records : List (List ℕ)). g.P.Platform.tells → ReadsFewFor old.world.head old.world.history.present records old.world.reads new.world.reads) c.records_of.ensures c.seize_word.ensures.reads in
    let unread : g.P.Platform.tells → IsRefused old.world.head old.world.history.present records → new.page_reads ≡ old.page_reads =
    subst (λ (records : List (List ℕ)). g.P.Platform.tells → IsRefused old.world.head old.world.history.present records → new.page_reads ≡ old.page_reads) c.records_of.ensures c.seize_word.ensures.unread in
    let part : ArePart _ _ old.counts new.counts = record { platform = inr (refl, refl); tape = inl (refl, refl, refl); input = inl (refl, refl, refl); output = inr (refl, refl); ledger = inl (refl, refl, refl) } in
    seizing_at g.P.Platform.tells records _ old new ending refl refl refl c.seize_word.ensures.head c.seize_word.ensures.time c.seize_word.ensures.image refl seizes c.seize_word.ensures.looked reads unread
    (cause_wide _ _ old.counts new.counts ending part c.in-Ok-seize_word.ensures.blame.cause)

pub returns-in-Err-seize_word-clause-seizes : goal.returns-in-Err-seize_word-clause-seizes
returns-in-Err-seize_word-clause-seizes g c words =
    let old = handed g.P.Platform g.T.Tape g.I.Source g.O.Sink g.L.Sink c.args.platform.now c.args.tape.now c.args.input.now c.args.output.now c.args.ledger.now in
    let new = handed g.P.Platform g.T.Tape g.I.Source g.O.Sink g.L.Sink c.seize_word.new.platform c.args.tape.now c.args.input.now c.seize_word.new.output c.args.ledger.now in
    let ending : Ending = Err c.in-Err-seize_word.stop in
    let records = records_of (map string_bytes c.args.words.now) in
    let seizes = subst (λ (records : List (List ℕ)). Seizes g.P.Platform.tells old.world.head old.world.history.present records old.written new.written ending) c.records_of.ensures c.in-Err-seize_word.ensures.seizes in
    let reads : g.P.Platform.tells → ReadsFewFor old.world.head old.world.history.present records old.world.reads new.world.reads =
    subst (λ (records : List (List ℕ)). g.P.Platform.tells → ReadsFewFor old.world.head old.world.history.present records old.world.reads new.world.reads) c.records_of.ensures c.seize_word.ensures.reads in
    let unread : g.P.Platform.tells → IsRefused old.world.head old.world.history.present records → new.page_reads ≡ old.page_reads =
    subst (λ (records : List (List ℕ)). g.P.Platform.tells → IsRefused old.world.head old.world.history.present records → new.page_reads ≡ old.page_reads) c.records_of.ensures c.seize_word.ensures.unread in
    let part : ArePart _ _ old.counts new.counts = record { platform = inr (refl, refl); tape = inl (refl, refl, refl); input = inl (refl, refl, refl); output = inr (refl, refl); ledger = inl (refl, refl, refl) } in
    seizing_at g.P.Platform.tells records _ old new ending refl refl refl c.seize_word.ensures.head c.seize_word.ensures.time c.seize_word.ensures.image c.status-in-Err-seize_word.ensures seizes c.seize_word.ensures.looked reads unread
    (cause_wide _ _ old.counts new.counts ending part c.in-Err-seize_word.ensures.blame.cause)

pub returns-in-Err-seize_word-clause-refuses : goal.returns-in-Err-seize_word-clause-refuses
returns-in-Err-seize_word-clause-refuses g c =
    let P = g.P.Platform in
    let head = P.head c.args.platform.now in
    let image = (P.history c.args.platform.now).present in
    let records : List (List ℕ) = map string_bytes c.records_of.result.now in
    let refused : c.status-in-Err-seize_word.result ≡ 8 → (P.tells → IsRefused head image records) × Got (g.O.Sink.written c.args.output.now) (damage_line device.BadRoot) (g.O.Sink.written c.seize_word.new.output) =
    λ e. at_eight P.tells head image records (g.O.Sink.written c.args.output.now) (g.O.Sink.written c.seize_word.new.output) (Err c.in-Err-seize_word.stop) c.in-Err-seize_word.ensures.seizes (sym c.status-in-Err-seize_word.ensures ∙ e) in
    record {
      bad_root_only = λ told e served.
          let served_there = subst (λ (n : ℕ). IsServedCell image.cell n) (g.met.P.Platform.counts_pages told c.args.platform.now) served in
          (rw c.in-Some-Seize.field-0-is at c.in-Some-Seize.ensures, subst (λ (records : List (List ℕ)). HasBadRecord head records) c.records_of.ensures (only_word head image records served_there ((refused e).0 told)));
      bad_root = search rules;
      untouched = λ told why. untouched_of refl refl refl c.seize_word.ensures.head (image_stays _ _ (c.seize_word.ensures.time told) (c.seize_word.ensures.image told));
      said = λ told e. (refused e).1;
      other_words = search rules;
    }

pub returns-in-Ok-seize_word-clause-exits : goal.returns-in-Ok-seize_word-clause-exits
returns-in-Ok-seize_word-clause-exits g c =
    let old = handed g.P.Platform g.T.Tape g.I.Source g.O.Sink g.L.Sink c.args.platform.now c.args.tape.now c.args.input.now c.args.output.now c.args.ledger.now in
    let new = handed g.P.Platform g.T.Tape g.I.Source g.O.Sink g.L.Sink c.seize_word.new.platform c.args.tape.now c.args.input.now c.seize_word.new.output c.args.ledger.now in
    let asked : AreSeizeWords (map string_bytes c.args.words.now) = rw c.in-Some-Seize.field-0-is at c.in-Some-Seize.ensures in
    let before = record old.counts { tape = 0; input = 0; ledger = 0 } in
    let now = record new.counts { tape = 0; input = 0; ledger = 0 } in
    let ending : Ending = Ok tt in
    let part : ArePart before now old.counts new.counts = record { platform = inr (refl, refl); tape = inl (refl, refl, refl); input = inl (refl, refl, refl); output = inr (refl, refl); ledger = inl (refl, refl, refl) } in
    seize_exits g.P.Platform.tells (map string_bytes c.args.words.now) (map string_bytes c.records_of.result.now) 0 old new before now old.world.head old.world.history.present ending refl asked part c.in-Ok-seize_word.ensures.blame c.in-Ok-seize_word.ensures.seizes

pub returns-in-Err-seize_word-clause-exits : goal.returns-in-Err-seize_word-clause-exits
returns-in-Err-seize_word-clause-exits g c =
    let old = handed g.P.Platform g.T.Tape g.I.Source g.O.Sink g.L.Sink c.args.platform.now c.args.tape.now c.args.input.now c.args.output.now c.args.ledger.now in
    let new = handed g.P.Platform g.T.Tape g.I.Source g.O.Sink g.L.Sink c.seize_word.new.platform c.args.tape.now c.args.input.now c.seize_word.new.output c.args.ledger.now in
    let asked : AreSeizeWords (map string_bytes c.args.words.now) = rw c.in-Some-Seize.field-0-is at c.in-Some-Seize.ensures in
    let before = record old.counts { tape = 0; input = 0; ledger = 0 } in
    let now = record new.counts { tape = 0; input = 0; ledger = 0 } in
    let ending : Ending = Err c.in-Err-seize_word.stop in
    let part : ArePart before now old.counts new.counts = record { platform = inr (refl, refl); tape = inl (refl, refl, refl); input = inl (refl, refl, refl); output = inr (refl, refl); ledger = inl (refl, refl, refl) } in
    seize_exits g.P.Platform.tells (map string_bytes c.args.words.now) (map string_bytes c.records_of.result.now) c.status-in-Err-seize_word.result old new before now old.world.head old.world.history.present ending c.status-in-Err-seize_word.ensures asked part c.in-Err-seize_word.ensures.blame c.in-Err-seize_word.ensures.seizes

-- ---- the script of a seed

pub returns-in-Ok-work-clause-forgets : goal.returns-in-Ok-work-clause-forgets
returns-in-Ok-work-clause-forgets g c =
    let old = around g.P.Platform g.T.Tape g.L.Sink c.args.platform.now c.args.tape.now c.args.ledger.now in
    let new = around g.P.Platform g.T.Tape g.L.Sink c.work.new.platform c.work.new.tape c.work.new.ledger in
    let was : World = world_of g.P.Platform None c.args.platform.now in
    let worked = c.in-Ok-work.ensures.worked in
    let ended = ended_work g.P.Platform.tells old new _ c.in-Some-Work.seed c.in-Some-Work.count was (g.T.Tape.drawn c.args.tape.now) (g.T.Tape.drawn c.work.new.tape) worked.0 _ _ _ _ _ refl refl refl refl (g.met.P.Platform.has_room c.work.new.platform) worked.1 c.in-Ok-work.ensures.keeps in
    forgets g.P.Platform.tells old new _ ended

pub returns-in-Ok-work-clause-ledger : goal.returns-in-Ok-work-clause-ledger
returns-in-Ok-work-clause-ledger g c =
    let old = around g.P.Platform g.T.Tape g.L.Sink c.args.platform.now c.args.tape.now c.args.ledger.now in
    let new = around g.P.Platform g.T.Tape g.L.Sink c.work.new.platform c.work.new.tape c.work.new.ledger in
    let was : World = world_of g.P.Platform None c.args.platform.now in
    let worked = c.in-Ok-work.ensures.worked in
    let ended = ended_work g.P.Platform.tells old new _ c.in-Some-Work.seed c.in-Some-Work.count was (g.T.Tape.drawn c.args.tape.now) (g.T.Tape.drawn c.work.new.tape) worked.0 _ _ _ _ _ refl refl refl refl (g.met.P.Platform.has_room c.work.new.platform) worked.1 c.in-Ok-work.ensures.keeps in
    keeps_ledger g.P.Platform.tells old new _ _ (λ zero. refl) ended

pub returns-in-Ok-work-clause-works : goal.returns-in-Ok-work-clause-works
returns-in-Ok-work-clause-works g c seed count words =
    let old = handed g.P.Platform g.T.Tape g.I.Source g.O.Sink g.L.Sink c.args.platform.now c.args.tape.now c.args.input.now c.args.output.now c.args.ledger.now in
    let new = handed g.P.Platform g.T.Tape g.I.Source g.O.Sink g.L.Sink c.work.new.platform c.work.new.tape c.args.input.now c.work.new.output c.work.new.ledger in
    let all : List (List ℕ) = map string_bytes c.args.words.now in
    let asked : AreWorkWords c.in-Some-Work.seed c.in-Some-Work.count all = rw c.in-Some-Work.field-0-is at c.in-Some-Work.ensures in
    let same = one_script all c.in-Some-Work.seed c.in-Some-Work.count seed count asked words in
    let ending : Ending = Ok tt in
    let before = record old.counts { input = 0 } in
    let now = record new.counts { input = 0 } in
    let part : ArePart before now old.counts new.counts = record { platform = inr (refl, refl); tape = inr (refl, refl); input = inl (refl, refl, refl); output = inr (refl, refl); ledger = inr (refl, refl) } in
    let worked = c.in-Ok-work.ensures.worked in
    let here = working_of g.P.Platform.tells c.in-Some-Work.seed c.in-Some-Work.count 0 old new worked.0 ending refl refl refl refl (at_most all c.in-Some-Work.seed c.in-Some-Work.count asked) refl
    (cause_wide before now old.counts new.counts ending part c.in-Ok-work.ensures.blame.cause) c.in-Ok-work.ensures.refused worked.1 in
    subst (λ (s : ℕ). Working g.P.Platform.tells s count 0 old new) same.0 (subst (λ (n : ℕ). Working g.P.Platform.tells c.in-Some-Work.seed n 0 old new) same.1 here)

pub returns-in-Err-work-clause-forgets : goal.returns-in-Err-work-clause-forgets
returns-in-Err-work-clause-forgets g c =
    let old = around g.P.Platform g.T.Tape g.L.Sink c.args.platform.now c.args.tape.now c.args.ledger.now in
    let new = around g.P.Platform g.T.Tape g.L.Sink c.work.new.platform c.work.new.tape c.work.new.ledger in
    let was : World = world_of g.P.Platform None c.args.platform.now in
    let worked = c.in-Err-work.ensures.worked in
    let ended = ended_work g.P.Platform.tells old new _ c.in-Some-Work.seed c.in-Some-Work.count was (g.T.Tape.drawn c.args.tape.now) (g.T.Tape.drawn c.work.new.tape) worked.0 _ _ _ _ _ refl refl refl refl (g.met.P.Platform.has_room c.work.new.platform) worked.1 c.in-Err-work.ensures.keeps in
    forgets g.P.Platform.tells old new _ ended

pub returns-in-Err-work-clause-ledger : goal.returns-in-Err-work-clause-ledger
returns-in-Err-work-clause-ledger g c =
    let old = around g.P.Platform g.T.Tape g.L.Sink c.args.platform.now c.args.tape.now c.args.ledger.now in
    let new = around g.P.Platform g.T.Tape g.L.Sink c.work.new.platform c.work.new.tape c.work.new.ledger in
    let was : World = world_of g.P.Platform None c.args.platform.now in
    let worked = c.in-Err-work.ensures.worked in
    let ended = ended_work g.P.Platform.tells old new _ c.in-Some-Work.seed c.in-Some-Work.count was (g.T.Tape.drawn c.args.tape.now) (g.T.Tape.drawn c.work.new.tape) worked.0 _ _ _ _ _ refl refl refl refl (g.met.P.Platform.has_room c.work.new.platform) worked.1 c.in-Err-work.ensures.keeps in
    keeps_ledger g.P.Platform.tells old new _ _ (λ zero. absurd (never_zero c.in-Err-work.stop (sym c.status-in-Err-work.ensures ∙ zero))) ended

pub returns-in-Err-work-clause-works : goal.returns-in-Err-work-clause-works
returns-in-Err-work-clause-works g c seed count words =
    let old = handed g.P.Platform g.T.Tape g.I.Source g.O.Sink g.L.Sink c.args.platform.now c.args.tape.now c.args.input.now c.args.output.now c.args.ledger.now in
    let new = handed g.P.Platform g.T.Tape g.I.Source g.O.Sink g.L.Sink c.work.new.platform c.work.new.tape c.args.input.now c.work.new.output c.work.new.ledger in
    let all : List (List ℕ) = map string_bytes c.args.words.now in
    let asked : AreWorkWords c.in-Some-Work.seed c.in-Some-Work.count all = rw c.in-Some-Work.field-0-is at c.in-Some-Work.ensures in
    let same = one_script all c.in-Some-Work.seed c.in-Some-Work.count seed count asked words in
    let ending : Ending = Err c.in-Err-work.stop in
    let before = record old.counts { input = 0 } in
    let now = record new.counts { input = 0 } in
    let part : ArePart before now old.counts new.counts = record { platform = inr (refl, refl); tape = inr (refl, refl); input = inl (refl, refl, refl); output = inr (refl, refl); ledger = inr (refl, refl) } in
    let worked = c.in-Err-work.ensures.worked in
    let here = working_of g.P.Platform.tells c.in-Some-Work.seed c.in-Some-Work.count c.status-in-Err-work.result old new worked.0 ending refl refl refl refl (at_most all c.in-Some-Work.seed c.in-Some-Work.count asked) c.status-in-Err-work.ensures
    (cause_wide before now old.counts new.counts ending part c.in-Err-work.ensures.blame.cause) c.in-Err-work.ensures.refused worked.1 in
    subst (λ (s : ℕ). Working g.P.Platform.tells s count c.status-in-Err-work.result old new) same.0 (subst (λ (n : ℕ). Working g.P.Platform.tells c.in-Some-Work.seed n c.status-in-Err-work.result old new) same.1 here)

pub returns-in-Err-work-clause-refuses : goal.returns-in-Err-work-clause-refuses
returns-in-Err-work-clause-refuses g c =
    let eight : c.status-in-Err-work.result ≡ 8 → status_of c.in-Err-work.stop ≡ 8 = λ e. sym c.status-in-Err-work.ensures ∙ e in
    record {
      bad_root_only = λ told e served. absurd (c.in-Err-work.ensures.refused_only told (eight e) served);
      bad_root = λ told unserved words. absurd (not_serving (map string_bytes c.args.words.now) c.in-Some-Work.seed c.in-Some-Work.count (rw c.in-Some-Work.field-0-is at c.in-Some-Work.ensures) words);
      untouched = λ told why.
          let still = c.work.ensures.untouched told (not_served (λ e. c.in-Err-work.ensures.refused_only told (eight e)) why) in
          untouched_of still.undrawn refl still.unput still.pages still.image;
      said = λ told e. c.in-Err-work.ensures.said told (eight e);
      other_words = λ two. absurd (never_two c.in-Err-work.stop (sym c.status-in-Err-work.ensures ∙ two));
    }

pub returns-in-Ok-work-clause-exits : goal.returns-in-Ok-work-clause-exits
returns-in-Ok-work-clause-exits g c =
    let old = handed g.P.Platform g.T.Tape g.I.Source g.O.Sink g.L.Sink c.args.platform.now c.args.tape.now c.args.input.now c.args.output.now c.args.ledger.now in
    let new = handed g.P.Platform g.T.Tape g.I.Source g.O.Sink g.L.Sink c.work.new.platform c.work.new.tape c.args.input.now c.work.new.output c.work.new.ledger in
    let asked : AreWorkWords c.in-Some-Work.seed c.in-Some-Work.count (map string_bytes c.args.words.now) = rw c.in-Some-Work.field-0-is at c.in-Some-Work.ensures in
    let before = record old.counts { input = 0 } in
    let now = record new.counts { input = 0 } in
    let ending : Ending = Ok tt in
    let part : ArePart before now old.counts new.counts = record { platform = inr (refl, refl); tape = inr (refl, refl); input = inl (refl, refl, refl); output = inr (refl, refl); ledger = inr (refl, refl) } in
    work_exits g.P.Platform.tells (map string_bytes c.args.words.now) c.in-Some-Work.seed c.in-Some-Work.count 0 old new before now _ _ _ _ old.written new.written ending refl asked part c.in-Ok-work.ensures.blame c.in-Ok-work.ensures.worked.1

pub returns-in-Err-work-clause-exits : goal.returns-in-Err-work-clause-exits
returns-in-Err-work-clause-exits g c =
    let old = handed g.P.Platform g.T.Tape g.I.Source g.O.Sink g.L.Sink c.args.platform.now c.args.tape.now c.args.input.now c.args.output.now c.args.ledger.now in
    let new = handed g.P.Platform g.T.Tape g.I.Source g.O.Sink g.L.Sink c.work.new.platform c.work.new.tape c.args.input.now c.work.new.output c.work.new.ledger in
    let asked : AreWorkWords c.in-Some-Work.seed c.in-Some-Work.count (map string_bytes c.args.words.now) = rw c.in-Some-Work.field-0-is at c.in-Some-Work.ensures in
    let before = record old.counts { input = 0 } in
    let now = record new.counts { input = 0 } in
    let ending : Ending = Err c.in-Err-work.stop in
    let part : ArePart before now old.counts new.counts = record { platform = inr (refl, refl); tape = inr (refl, refl); input = inl (refl, refl, refl); output = inr (refl, refl); ledger = inr (refl, refl) } in
    work_exits g.P.Platform.tells (map string_bytes c.args.words.now) c.in-Some-Work.seed c.in-Some-Work.count c.status-in-Err-work.result old new before now _ _ _ _ old.written new.written ending c.status-in-Err-work.ensures asked part c.in-Err-work.ensures.blame c.in-Err-work.ensures.worked.1

pub returns-in-Err-work-clause-serves : goal.returns-in-Err-work-clause-serves
returns-in-Err-work-clause-serves g c words =
    let asked : AreWorkWords c.in-Some-Work.seed c.in-Some-Work.count (map string_bytes c.args.words.now) = rw c.in-Some-Work.field-0-is at c.in-Some-Work.ensures in
    absurd (not_run (map string_bytes c.args.words.now) c.in-Some-Work.seed c.in-Some-Work.count asked words)
