use Rattle.std.proofs.Common.{◌≡◌, arith, inl, inr, Ok, Err, ℕ, refl, sym, subst, ap, ◌∙◌}
use Rattle.std.specs.Prelude.{string_bytes}
use Rattle.std.proofs.lemmas.Bool.{eqb-true}
use Rattle.device_course.specs.States.{around}
use Rattle.session_calls.specs.Blame.{counts_of}
use Rattle.device_course.proofs.ProgramLaws.{keeps_ledger, ended_not}
use Rattle.device_course.proofs.ReachingLaws.{discloses}
use Rattle.nbd_core.specs.Halts.{status_at}
use Rattle.session_calls.specs.Handed.{IsBlamedAt}
use Rattle.nbd_core.specs.Program.{IsStatus}
use Rattle.nbd_core.specs.Running.{IsCellHalt}
use Rattle.nbd_core.specs.declared.halts.Halt.TheVariants as halts
use Rattle.nbd_core.proofs.StatusLaws.{status_is, never_zero, never_two, at_eight, at_twelve, blamed, blamed_none, no_words}
use Rattle.nbd_core.proofs.CompleteLaws.{completes}
use Rattle.nbd_core.proofs.TookLaws.{talks_taken}
use Rattle.nbd_core.proofs.run_nbd.Goals as goal

pub returns-in-Ok-clause-forgets : goal.returns-in-Ok-clause-forgets
returns-in-Ok-clause-forgets g c =
    let spans = c.in-Ok.ensures.spans in
    discloses _ _ _ _ _ spans.later spans.keeps spans.made

pub returns-in-Err-clause-forgets : goal.returns-in-Err-clause-forgets
returns-in-Err-clause-forgets g c =
    let spans = c.in-Err.ensures.spans in
    discloses _ _ _ _ _ spans.later spans.keeps spans.made

pub returns-in-Ok-clause-ledger : goal.returns-in-Ok-clause-ledger
returns-in-Ok-clause-ledger g c =
    let spans = c.in-Ok.ensures.spans in
    keeps_ledger g.P.Platform.tells (around g.P.Platform g.T.Tape g.L.Sink c.args.platform.now c.args.tape.now c.args.ledger.now) (around g.P.Platform g.T.Tape g.L.Sink c.run.new.platform c.run.new.tape c.run.new.ledger) _ _ (λ zero. refl)
    (record { later = spans.later; keeps = spans.keeps; made = spans.made })

pub returns-in-Err-clause-ledger : goal.returns-in-Err-clause-ledger
returns-in-Err-clause-ledger g c =
    let spans = c.in-Err.ensures.spans in
    keeps_ledger g.P.Platform.tells (around g.P.Platform g.T.Tape g.L.Sink c.args.platform.now c.args.tape.now c.args.ledger.now) (around g.P.Platform g.T.Tape g.L.Sink c.run.new.platform c.run.new.tape c.run.new.ledger) _ _ (λ zero. absurd (never_zero c.in-Err.halt (sym c.status.ensures ∙ zero)))
    (record { later = spans.later; keeps = spans.keeps; made = spans.made })

pub returns-then-not-is_empty-clause-forgets : goal.returns-then-not-is_empty-clause-forgets
returns-then-not-is_empty-clause-forgets g c =
    let here = around g.P.Platform g.T.Tape g.L.Sink c.args.platform.now c.args.tape.now c.args.ledger.now in
    let ended = ended_not g.P.Platform.tells here (g.met.P.Platform.has_room c.args.platform.now) in
    discloses _ here here _ _ ended.later ended.keeps ended.made

pub returns-then-not-is_empty-clause-ledger : goal.returns-then-not-is_empty-clause-ledger
returns-then-not-is_empty-clause-ledger g c =
    let here = around g.P.Platform g.T.Tape g.L.Sink c.args.platform.now c.args.tape.now c.args.ledger.now in
    keeps_ledger g.P.Platform.tells here here (Unit {0}) _ (λ zero. tt) (ended_not g.P.Platform.tells here (g.met.P.Platform.has_room c.args.platform.now))

pub returns-in-Ok-clause-serves : goal.returns-in-Ok-clause-serves
returns-in-Ok-clause-serves g c none = record {
  ending = Ok tt;
  status_is = refl;
  no_device = λ told is. absurd cc;
  talks = c.in-Ok.ensures.talks;
  complete = completes _ _ _ _ _ _ _ _ _ _ _ _ c.in-Ok.ensures.talks refl c.in-Ok.ensures.blame c.in-Ok.ensures.looked;
}

pub returns-in-Err-clause-serves : goal.returns-in-Err-clause-serves
returns-in-Err-clause-serves g c none = record {
  ending = Err c.in-Err.halt;
  status_is = c.status.ensures;
  no_device = c.in-Err.ensures.looked.empty_only;
  talks = c.in-Err.ensures.talks;
  complete = completes _ _ _ _ _ _ _ _ _ _ _ _ c.in-Err.ensures.talks c.status.ensures c.in-Err.ensures.blame c.in-Err.ensures.looked;
}

pub returns-in-Ok-clause-exits : goal.returns-in-Ok-clause-exits
returns-in-Ok-clause-exits g c = record {
  is = inl refl;
  refused = (λ two. absurd (omega (arith, two)), λ other. absurd (other (no_words string_bytes c.args.words.now (eqb-true _ _ (sym c.if-not-is_empty.ensures)))));
  blame = blamed_none _ _ c.in-Ok.ensures.blame;
  taken =
      let took = talks_taken _ _ _ _ _ _ _ _ _ c.in-Ok.ensures.talks in
      (took.bytes, took.gave, record { most = took.most; limit = λ twelve. absurd (omega (arith, twelve)); nothing = λ two. absurd (omega (arith, two)) });
}

pub returns-in-Err-clause-exits : goal.returns-in-Err-clause-exits
returns-in-Err-clause-exits g c = record {
  is = subst IsStatus (sym c.status.ensures) (status_is c.in-Err.halt);
  refused = (λ two. absurd (never_two c.in-Err.halt (sym c.status.ensures ∙ two)), λ other. absurd (other (no_words string_bytes c.args.words.now (eqb-true _ _ (sym c.if-not-is_empty.ensures)))));
  blame =
      let P = g.P.Platform in
      let T = g.T.Tape in
      let I = g.I.Source in
      let O = g.O.Sink in
      let L = g.L.Sink in
      let before = counts_of P T I O L c.args.platform.now c.args.tape.now c.args.input.now c.args.output.now c.args.ledger.now in
      let now = counts_of P T I O L c.run.new.platform c.run.new.tape c.run.new.input c.run.new.output c.run.new.ledger in
      subst (λ (n : ℕ). IsBlamedAt n before now) (sym c.status.ensures) (blamed before now c.in-Err.halt c.in-Err.ensures.blame);
  taken =
      let took = talks_taken _ _ _ _ _ _ _ _ _ c.in-Err.ensures.talks in (
        took.bytes,
        took.gave,
        record {
          most = took.most;
          limit = λ twelve. took.limit (ap Err (at_twelve c.in-Err.halt (sym c.status.ensures ∙ twelve)));
          nothing = λ two. absurd (never_two c.in-Err.halt (sym c.status.ensures ∙ two));
        },
      );
}

pub returns-in-Err-clause-refuses : goal.returns-in-Err-clause-refuses
returns-in-Err-clause-refuses g c =
    let looked = c.in-Err.ensures.looked in
    let status = c.status.ensures in
    let halt = c.in-Err.halt in
    record {
      other_words = λ two. absurd (never_two halt (sym status ∙ two));
      bad_root_only = λ told eight.
          let e : halt ≡ halts.BadRoot = at_eight halt (sym status ∙ eight) in
          (looked.bad_only told (ap Err e), looked.nothing told (subst IsCellHalt (sym e) tt));
      bad_root = λ told bad none. elim (looked.bad told bad) [
        | inl e ↦ inl (status ∙ ap status_at (let h : halt ≡ halts.BadRoot = cc in h))
        | inr e ↦ inr (status ∙ ap status_at (let h : halt ≡ halts.Platform = cc in h))
      ];
      no_device = λ told empty none. elim (looked.empty told empty) [
        | inl e ↦ inl (status ∙ ap status_at (let h : halt ≡ halts.NoDevice = cc in h), looked.nothing told (subst IsCellHalt (sym (let h : halt ≡ halts.NoDevice = cc in h)) tt))
        | inr e ↦ inr (status ∙ ap status_at (let h : halt ≡ halts.Platform = cc in h))
      ];
    }
