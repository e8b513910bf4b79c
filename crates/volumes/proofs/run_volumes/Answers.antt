use Rattle.std.proofs.Common.{arith, inl, inr, Ok, Err, ℕ, [], refl, sym, subst, ◌∙◌}
use Rattle.std.specs.Prelude.{string_bytes}
use Rattle.std.proofs.lemmas.Bool.{eqb-true}
use Rattle.sdbt_base.specs.Counts.{counts}
use Rattle.sdbt_base.proofs.ToldLaws.{Gave-nothing}
use Rattle.device_course.specs.States.{around}
use Rattle.device_course.proofs.ProgramLaws.{keeps_ledger, ended_not}
use Rattle.device_course.proofs.ReachingLaws.{discloses}
use Rattle.session_calls.specs.Handed.{IsBlamedAt}
use Rattle.volumes.specs.Program.{IsStatus, IsUnlessFault, Took}
use Rattle.volumes.proofs.EndLaws.{took_done, took_halted}
use Rattle.volumes.proofs.ProgramLaws.{bad_root_at, bad_root_due, complete_done, complete_halted, doing_of, done_tabled, halting_of, idle_at, no_device_due, no_table_due, refused_at}
use Rattle.volumes.proofs.StatusLaws.{blamed, blamed_none, never_two, never_zero, no_words, some_words, status_is, blamed_two}
use Rattle.volumes.proofs.run_volumes.Goals as goal

pub returns-in-Ok-clause-forgets : goal.returns-in-Ok-clause-forgets
returns-in-Ok-clause-forgets g c =
    let spans = c.in-Ok.ensures.spans in
    discloses _ _ _ _ _ spans.later spans.keeps spans.made

pub returns-in-Err-clause-forgets : goal.returns-in-Err-clause-forgets
returns-in-Err-clause-forgets g c =
    let spans = c.in-Err.ensures.spans in
    discloses _ _ _ _ _ spans.later spans.keeps spans.made

pub returns-in-Ok-clause-ledger : goal.returns-in-Ok-clause-ledger
returns-in-Ok-clause-ledger g c =
    let spans = c.in-Ok.ensures.spans in
    keeps_ledger g.P.Platform.tells (around g.P.Platform g.T.Tape g.L.Sink c.args.platform.now c.args.tape.now c.args.ledger.now) (around g.P.Platform g.T.Tape g.L.Sink c.run.new.platform c.run.new.tape c.run.new.ledger) _ _ (λ zero. refl)
    (record { later = spans.later; keeps = spans.keeps; made = spans.made })

pub returns-in-Err-clause-ledger : goal.returns-in-Err-clause-ledger
returns-in-Err-clause-ledger g c =
    let spans = c.in-Err.ensures.spans in
    keeps_ledger g.P.Platform.tells (around g.P.Platform g.T.Tape g.L.Sink c.args.platform.now c.args.tape.now c.args.ledger.now) (around g.P.Platform g.T.Tape g.L.Sink c.run.new.platform c.run.new.tape c.run.new.ledger) _ _ (λ zero. absurd (never_zero c.in-Err.halt (sym c.status.ensures ∙ zero)))
    (record { later = spans.later; keeps = spans.keeps; made = spans.made })

pub returns-then-not-is_empty-clause-forgets : goal.returns-then-not-is_empty-clause-forgets
returns-then-not-is_empty-clause-forgets g c =
    let here = around g.P.Platform g.T.Tape g.L.Sink c.args.platform.now c.args.tape.now c.args.ledger.now in
    let ended = ended_not g.P.Platform.tells here (g.met.P.Platform.has_room c.args.platform.now) in
    discloses _ here here _ _ ended.later ended.keeps ended.made

pub returns-then-not-is_empty-clause-ledger : goal.returns-then-not-is_empty-clause-ledger
returns-then-not-is_empty-clause-ledger g c =
    let here = around g.P.Platform g.T.Tape g.L.Sink c.args.platform.now c.args.tape.now c.args.ledger.now in
    keeps_ledger g.P.Platform.tells here here (Unit {0}) _ (λ zero. tt) (ended_not g.P.Platform.tells here (g.met.P.Platform.has_room c.args.platform.now))

pub returns-in-Ok-clause-serves : goal.returns-in-Ok-clause-serves
returns-in-Ok-clause-serves g c none = (
  record {
    ending = Ok tt;
    status_is = refl;
    ran = c.in-Ok.ensures.ran.0;
    complete = λ entry start table tabled text ample quiet. inr (refl, complete_done _ _ _ _ _ _ _ (doing_of _ _ _ _ _ _ _ _ c.in-Ok.ensures.ran.0) entry start text ample);
  },
  c.in-Ok.ensures.ran.1,
)

pub returns-in-Err-clause-serves : goal.returns-in-Err-clause-serves
returns-in-Err-clause-serves g c none = (
  record {
    ending = Err c.in-Err.halt;
    status_is = c.status.ensures;
    ran = c.in-Err.ensures.ran.0;
    complete = λ entry start table tabled text ample quiet.
        inl (c.status.ensures ∙ complete_halted _ _ _ _ _ _ _ _ _ _ c.in-Err.halt (halting_of _ _ _ _ _ _ _ _ c.in-Err.halt c.in-Err.ensures.ran.0) c.in-Err.ensures.blame.cause entry start table tabled text ample quiet);
  },
  c.in-Err.ensures.ran.1,
)

pub returns-in-Ok-clause-exits : goal.returns-in-Ok-clause-exits
returns-in-Ok-clause-exits g c = record {
  is = inl refl;
  refused = (λ two. absurd (omega (arith, two)), λ other. absurd (other (no_words string_bytes c.args.words.now (eqb-true _ _ (sym c.if-not-is_empty.ensures)))));
  blame = blamed_none _ _ c.in-Ok.ensures.blame;
  taken = took_done _ _ _ _ _ _ _ _ (doing_of _ _ _ _ _ _ _ _ c.in-Ok.ensures.ran.0).serves;
}

pub returns-in-Err-clause-exits : goal.returns-in-Err-clause-exits
returns-in-Err-clause-exits g c = record {
  is = subst IsStatus (sym c.status.ensures) (status_is c.in-Err.halt);
  refused = (λ two. absurd (never_two c.in-Err.halt (sym c.status.ensures ∙ two)), λ other. absurd (other (no_words string_bytes c.args.words.now (eqb-true _ _ (sym c.if-not-is_empty.ensures)))));
  blame =
      let P = g.P.Platform in
      let T = g.T.Tape in
      let I = g.I.Source in
      let O = g.O.Sink in
      let L = g.L.Sink in
      let before = counts (P.faults c.args.platform.now) (T.faults c.args.tape.now) (I.faults c.args.input.now) (O.faults c.args.output.now) (L.faults c.args.ledger.now) in
      let now = counts (P.faults c.run.new.platform) (T.faults c.run.new.tape) (I.faults c.run.new.input) (O.faults c.run.new.output) (L.faults c.run.new.ledger) in
      subst (λ (n : ℕ). IsBlamedAt n before now) (sym c.status.ensures) (blamed before now c.in-Err.halt c.in-Err.ensures.blame);
  taken =
      let h = halting_of _ _ _ _ _ _ _ _ c.in-Err.halt c.in-Err.ensures.ran.0 in
      let took = took_halted _ _ _ _ h.halted c.in-Err.halt _ _ _ _ _ h.serves h.told in
      (took.0, took.1, subst (λ (n : ℕ). Took n took.0 (g.I.Source.left c.run.new.input)) (sym c.status.ensures) took.2);
}

pub returns-in-Ok-clause-refuses : goal.returns-in-Ok-clause-refuses
returns-in-Ok-clause-refuses g c =
    let d = doing_of _ _ _ _ _ _ _ _ c.in-Ok.ensures.ran.0 in
    record {
      other_words = λ two. absurd (omega (arith, two));
      as_before = λ told which. absurd (elim which [ inl eight ↦ omega (arith, eight) | inr ten ↦ omega (arith, ten) ]);
      bad_root_only = λ told eight. absurd (omega (arith, eight));
      bad_root = λ told bad none. absurd (elim (d.looked.bad told bad) [ inl e ↦ cc | inr e ↦ cc ]);
      refused_only = λ told ten. absurd (omega (arith, ten));
      no_device = λ told empty none. absurd (elim (d.looked.empty told empty) [ inl e ↦ cc | inr e ↦ cc ]);
      no_table = λ entry start no_table none. absurd (done_tabled _ _ _ _ _ _ _ d entry start no_table);
    }

pub returns-in-Err-clause-refuses : goal.returns-in-Err-clause-refuses
returns-in-Err-clause-refuses g c =
    let h = halting_of _ _ _ _ _ _ _ _ c.in-Err.halt c.in-Err.ensures.ran.0 in
    let status = c.status.ensures in
    record {
      other_words = λ two. absurd (never_two c.in-Err.halt (sym status ∙ two));
      as_before = λ told which. idle_at _ _ _ _ _ _ _ _ c.in-Err.halt h told (elim which [ inl eight ↦ inl (sym status ∙ eight) | inr ten ↦ inr (sym status ∙ ten) ]);
      bad_root_only = λ told eight. bad_root_at _ _ _ _ _ _ _ _ c.in-Err.halt h told (sym status ∙ eight);
      bad_root = λ told bad none. subst (IsUnlessFault 8) (sym status) (bad_root_due _ _ _ _ _ _ _ _ c.in-Err.halt h told bad);
      refused_only = λ told ten. refused_at _ _ _ _ _ _ _ _ c.in-Err.halt h told (sym status ∙ ten);
      no_device = λ told empty none. subst (IsUnlessFault 10) (sym status) (no_device_due _ _ _ _ _ _ _ _ c.in-Err.halt h told empty);
      no_table = λ entry start no_table none. elim (no_table_due _ _ _ _ _ _ _ _ c.in-Err.halt h entry start no_table) [
        | inl fault ↦ inl (subst (IsUnlessFault 10) (sym status) fault)
        | inr eleven ↦ inr (status ∙ eleven)
      ];
    }

pub returns-then-not-is_empty-clause-exits : goal.returns-then-not-is_empty-clause-exits
returns-then-not-is_empty-clause-exits g c = record {
  is = inr (inl refl);
  refused = (λ two. some_words string_bytes c.args.words.now (sym c.if-not-is_empty.ensures), λ other. refl);
  blame = blamed_two _;
  taken = ([], Gave-nothing _, record { most = omega arith; whole = λ zero. absurd (omega (arith, zero)); failed = λ three. omega arith; limit = λ twelve. absurd (omega (arith, twelve)); nothing = λ which. refl });
}
