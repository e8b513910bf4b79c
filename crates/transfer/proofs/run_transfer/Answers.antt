use Rattle.std.proofs.Common.{◌∙◌, ℕ, Ok, Err, refl, sym, ap, subst, arith}
use Rattle.std.specs.Prelude.{string_bytes}
use Rattle.std.proofs.lemmas.Bool.{eqb-true}
use Rattle.transfer.specs.Changes.{ChangesFew, clears_at}
use Rattle.transfer.specs.Counts.{counts}
use Rattle.transfer.specs.Program.{IsBlamedAt, IsStatus}
use Rattle.transfer.proofs.ChangesLaws.{clears_status}
use Rattle.transfer.proofs.FromLaws.{clears_nothing, from_alone}
use Rattle.transfer.proofs.MoveLaws.{moves_done, moves_ended}
use Rattle.transfer.proofs.StatusLaws.{blamed, blamed_done, blamed_two, never_two, never_zero, no_words, some_words, status_is, status_two, status_zero}
use Rattle.transfer.proofs.ToLaws.{spans_not, to_alone}
use Rattle.transfer.proofs.run_transfer.Goals as goal

pub returns-then-not-is_empty-clause-exits : goal.returns-then-not-is_empty-clause-exits
returns-then-not-is_empty-clause-exits g c = record {
  is = status_two;
  refused = (λ two. some_words string_bytes c.args.words.now (sym c.if-not-is_empty.ensures), λ other. refl);
  blame = blamed_two _;
}

pub returns-then-not-is_empty-clause-ran : goal.returns-then-not-is_empty-clause-ran
returns-then-not-is_empty-clause-ran g c none = absurd (some_words string_bytes c.args.words.now (sym c.if-not-is_empty.ensures) none)

pub returns-then-not-is_empty-clause-from_alone : goal.returns-then-not-is_empty-clause-from_alone
returns-then-not-is_empty-clause-from_alone g c =
    from_alone _ _ _ _ ⊥ (λ zero. omega (arith, zero)) (g.met.P.Platform.has_room c.args.from.now) (clears_nothing g.P.Platform c.args.from.now ⊥ (λ never. never))

pub returns-then-not-is_empty-clause-to_alone : goal.returns-then-not-is_empty-clause-to_alone
returns-then-not-is_empty-clause-to_alone g c = to_alone _ _ _ _ ⊥ (λ zero. omega (arith, zero)) (spans_not g.Q.Platform _ _ (g.met.Q.Platform.has_room c.args.to.now))

pub returns-in-Ok-clause-exits : goal.returns-in-Ok-clause-exits
returns-in-Ok-clause-exits g c = record {
  is = status_zero;
  refused = (λ two. absurd (omega (arith, two)), λ other. absurd (other (no_words string_bytes c.args.words.now (eqb-true _ _ (sym c.if-not-is_empty.ensures)))));
  blame = blamed_done _ _ c.in-Ok.ensures.blame;
}

pub returns-in-Ok-clause-other_words : goal.returns-in-Ok-clause-other_words
returns-in-Ok-clause-other_words g c two = absurd (omega (arith, two))

pub returns-in-Ok-clause-ran : goal.returns-in-Ok-clause-ran
returns-in-Ok-clause-ran g c none =
    let went = c.in-Ok.ensures.went in
    record { moved = went.moved; ending = Ok tt; said = went.said; status_is = refl; wrong = went.wrong; looked = went.looked; there = went.there; mapped = went.mapped; number = went.number; whole = went.whole; refused = went.refused; unlike = went.unlike }

pub returns-in-Ok-clause-from_alone : goal.returns-in-Ok-clause-from_alone
returns-in-Ok-clause-from_alone g c = from_alone _ _ _ _ _ (λ zero. refl) (g.met.P.Platform.has_room c.run.new.from) c.in-Ok.ensures.from

pub returns-in-Ok-clause-to_alone : goal.returns-in-Ok-clause-to_alone
returns-in-Ok-clause-to_alone g c = to_alone _ _ _ _ _ (λ zero. refl) c.in-Ok.ensures.to

pub returns-in-Err-clause-exits : goal.returns-in-Err-clause-exits
returns-in-Err-clause-exits g c = record {
  is = subst IsStatus (sym c.status.ensures) (status_is c.in-Err.halt);
  refused = (λ two. absurd (never_two c.in-Err.halt (sym c.status.ensures ∙ two)), λ other. absurd (other (no_words string_bytes c.args.words.now (eqb-true _ _ (sym c.if-not-is_empty.ensures)))));
  blame =
      let before = counts (g.P.Platform.faults c.args.from.now) (g.Q.Platform.faults c.args.to.now) (g.T.Tape.faults c.args.tape.now) (g.O.Sink.faults c.args.output.now) (g.L.Sink.faults c.args.ledger.now) in
      let now = counts (g.P.Platform.faults c.run.new.from) (g.Q.Platform.faults c.run.new.to) (g.T.Tape.faults c.run.new.tape) (g.O.Sink.faults c.run.new.output) (g.L.Sink.faults c.run.new.ledger) in
      subst (λ (n : ℕ). IsBlamedAt n before now) (sym c.status.ensures) (blamed before now c.in-Err.halt c.in-Err.ensures.blame);
}

pub returns-in-Err-clause-other_words : goal.returns-in-Err-clause-other_words
returns-in-Err-clause-other_words g c two = absurd (never_two c.in-Err.halt (sym c.status.ensures ∙ two))

pub returns-in-Err-clause-ran : goal.returns-in-Err-clause-ran
returns-in-Err-clause-ran g c none =
    let went = c.in-Err.ensures.went in
    record { moved = went.moved; ending = Err c.in-Err.halt; said = went.said; status_is = c.status.ensures; wrong = went.wrong; looked = went.looked; there = went.there; mapped = went.mapped; number = went.number; whole = went.whole; refused = went.refused; unlike = went.unlike }

pub returns-in-Err-clause-from_alone : goal.returns-in-Err-clause-from_alone
returns-in-Err-clause-from_alone g c = from_alone _ _ _ _ _ (λ zero. absurd (never_zero c.in-Err.halt (sym c.status.ensures ∙ zero))) (g.met.P.Platform.has_room c.run.new.from) c.in-Err.ensures.from

pub returns-in-Err-clause-to_alone : goal.returns-in-Err-clause-to_alone
returns-in-Err-clause-to_alone g c = to_alone _ _ _ _ _ (λ zero. absurd (never_zero c.in-Err.halt (sym c.status.ensures ∙ zero))) c.in-Err.ensures.to

pub returns-then-not-is_empty-clause-moved : goal.returns-then-not-is_empty-clause-moved
returns-then-not-is_empty-clause-moved g c none = absurd (some_words string_bytes c.args.words.now (sym c.if-not-is_empty.ensures) none)

pub returns-in-Ok-clause-moved : goal.returns-in-Ok-clause-moved
returns-in-Ok-clause-moved g c none from_told to_told device there stands served stands_to served_to =
    let went = c.in-Ok.ensures.went in
    moves_done _ _ from_told to_told _ _ _ _ _ _ _ _ device there went.moved stands served stands_to served_to (g.met.P.Platform.has_room c.run.new.from)
    (g.met.P.Platform.counts_pages from_told c.run.new.from ∙ (c.in-Ok.ensures.from.head ∙ sym (g.met.P.Platform.counts_pages from_told c.args.from.now))) c.in-Ok.ensures.from c.in-Ok.ensures.to went.said went.mapped
    (went.leads from_told to_told device there stands served stands_to served_to)

pub returns-in-Err-clause-moved : goal.returns-in-Err-clause-moved
returns-in-Err-clause-moved g c none from_told to_told device there stands served stands_to served_to =
    let went = c.in-Err.ensures.went in
    rw c.status.ensures
    (moves_ended _ _ from_told to_told _ _ _ _ _ _ _ _ device there went.moved c.in-Err.halt stands served stands_to served_to (g.met.P.Platform.has_room c.run.new.from)
    (g.met.P.Platform.counts_pages from_told c.run.new.from ∙ (c.in-Err.ensures.from.head ∙ sym (g.met.P.Platform.counts_pages from_told c.args.from.now))) c.in-Err.ensures.from c.in-Err.ensures.to went.said
    (went.leads from_told to_told device there stands served stands_to served_to))

pub returns-then-not-is_empty-clause-reads : goal.returns-then-not-is_empty-clause-reads
returns-then-not-is_empty-clause-reads g c none = absurd (some_words string_bytes c.args.words.now (sym c.if-not-is_empty.ensures) none)

pub returns-in-Ok-clause-reads : goal.returns-in-Ok-clause-reads
returns-in-Ok-clause-reads g c none = c.in-Ok.ensures.reads

pub returns-in-Err-clause-reads : goal.returns-in-Err-clause-reads
returns-in-Err-clause-reads g c none = (
  c.in-Err.ensures.reads.0,
  subst (λ (n : ℕ). ChangesFew g.P.Platform g.Q.Platform n c.args.from.now c.run.new.from c.args.to.now c.run.new.to) (clears_status c.in-Err.halt ∙ ap clears_at (sym c.status.ensures)) c.in-Err.ensures.reads.1,
)
