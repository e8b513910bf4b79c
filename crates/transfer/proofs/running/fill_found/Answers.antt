use Rattle.std.proofs.Common.{◌≡◌, ◌<◌, ◌≤◌, ◌+◌, ◌∙◌, ℕ, true, false, sym, subst, arith}
use Rattle.device_course.proofs.MadeLaws.{made_kept}
use Rattle.std.specs.Prelude.{All}
use Rattle.session_calls.specs.Along.{drawn_by}
use Rattle.session_calls.proofs.AlongLaws.{along_then}
use Rattle.session_calls.proofs.CallLaws.{no_draw}
use Rattle.session_calls.proofs.CarryLaws.{carries_along, carries_end, carries_then}
use Rattle.transfer.proofs.HaltLaws.{halted, meets_where, meets_where_all}
use Rattle.transfer.proofs.NoneLaws.{none_listed}
use Rattle.transfer.proofs.ReadsLaws.{found_compared, found_copied}
use Rattle.transfer.proofs.ChangesLaws.{changed_behind, still_number}
use Rattle.transfer.proofs.BlameLaws.{blames_as, blames_done, blames_halt, blames_then}
use Rattle.transfer.proofs.FillLaws.{fresh_blank, number_at, reaches_halted, reaches_other, reaches_since, reaches_still, stale_other}
use Rattle.transfer.proofs.RefusalLaws.{at_then, reads_at, reads_behind}
use Rattle.transfer.proofs.running.fill_found.Goals as goal
use Rattle.transfer.proofs.WholeLaws.{copied_read, one_read, pages_same, reads_back}
use Rattle.std.proofs.Common.{refl}
use Rattle.sdbt_base.proofs.RiseLaws.{counted_not}
use Rattle.transfer.specs.Whole.{HasNone, SeesAll}
use Rattle.transfer.proofs.WholeLaws.{fills_copied, fills_same}

pub returns-in_err-has-clause-both : goal.returns-in_err-has-clause-both
returns-in_err-has-clause-both g c = rw (halted c.from_residual.result c.in_err-has.field-0.0 c.from_residual.ensures.1) (record {
  few = c.has_all.ensures.both.few;
  most = c.has_all.ensures.both.most;
  reads = λ idle. found_compared _ _ _ _ _ _ c.has_all.ensures.both.reads;
  from = λ any. c.has_all.ensures.both.from any;
  reads_to = (c.has_all.ensures.both.to no_draw).reads;
  changes = λ told. counted_not 2 _ _ ((c.has_all.ensures.both.to no_draw).changes told);
  unchanged = λ told written. (c.has_all.ensures.both.to no_draw).changes told;
  number = λ told. tt;
  to = carries_end _ _ _ _ _ _ _ (λ going. tt)
      (carries_along g.Q.Platform g.T.Tape g.L.Sink 0 c.has_all.ensures.both.most c.args.to.now c.has_all.new.to c.args.tape.now c.args.tape.now c.args.ledger.now _ _ c.requires.target (c.has_all.ensures.both.to (drawn_by g.T.Tape c.args.tape.now)));
  blame = λ output. blames_as _ _ c.in_err-has.field-0.0 (c.in_err-has.ensures.both.blame (g.T.Tape.faults c.args.tape.now) output (g.L.Sink.faults c.args.ledger.now));
  wrong = meets_where _ _ (1 ≤ c.args.found.root.mapped) (1 ≤ c.args.found.root.mapped) ⊥ _ _ _ c.in_err-has.field-0.0 (λ told some. some) (λ told never. absurd never) c.in_err-has.ensures.both.wrong;
  behind = reads_behind c.in_err-has.field-0.0 c.in_err-has.ensures.both.behind;
})

pub returns-then-has-clause-both : goal.returns-then-has-clause-both
returns-then-has-clause-both g c = record {
  few = c.has_all.ensures.both.few;
  most = c.has_all.ensures.both.most;
  reads = λ idle. found_compared _ _ _ _ _ _ c.has_all.ensures.both.reads;
  from = λ any. c.has_all.ensures.both.from any;
  reads_to = (c.has_all.ensures.both.to no_draw).reads;
  changes = λ told. counted_not 2 _ _ ((c.has_all.ensures.both.to no_draw).changes told);
  unchanged = λ told written. (c.has_all.ensures.both.to no_draw).changes told;
  number = λ told. still_number (g.Q.Platform.history c.args.to.now) (g.Q.Platform.history c.has_all.new.to) c.args.found c.number-number.result ((c.has_all.ensures.both.to no_draw).cell told) (c.requires.target.mounted told) c.number-number.ensures;
  to = carries_end _ _ _ _ _ _ _ (λ going. tt)
      (carries_along g.Q.Platform g.T.Tape g.L.Sink 0 c.has_all.ensures.both.most c.args.to.now c.has_all.new.to c.args.tape.now c.args.tape.now c.args.ledger.now _ _ c.requires.target (c.has_all.ensures.both.to (drawn_by g.T.Tape c.args.tape.now)));
  blame = λ output. blames_done _ _ _ (c.in_ok-has.ensures.both.blame (g.T.Tape.faults c.args.tape.now) output (g.L.Sink.faults c.args.ledger.now)).quiet;
  wrong = tt;
  behind = tt;
}

pub returns-then-fresh-clause-both : goal.returns-then-fresh-clause-both
returns-then-fresh-clause-both g c = record {
  few = c.has_all.ensures.both.few + c.copy.ensures.both.few;
  most = c.has_all.ensures.both.most + c.copy.ensures.both.most;
  reads = λ idle.
      let fresh = c.is_fresh-fresh.ensures.0 c.if-fresh.true in
      let none = fresh.1 in
      found_copied _ _ _ _ c.has_all.ensures.both.few c.has_all.ensures.both.most c.copy.ensures.both.few c.copy.ensures.both.most fresh (sym idle ∙ none) c.has_all.ensures.both.reads c.copy.ensures.both.reads.0 c.copy.ensures.both.reads.1;
  from = λ any. along_then g.P.Platform 0 0 c.has_all.ensures.both.few c.copy.ensures.both.few _ _ _ any any any _ _ _ (c.has_all.ensures.both.from any) (c.copy.ensures.both.from any);
  reads_to = λ told. let less = (c.has_all.ensures.both.to no_draw).reads told in
      let more = c.copy.ensures.both.reads_to told in
      omega (arith, less, more);
  changes = λ told. changed_behind 2 _ _ _ ((c.has_all.ensures.both.to no_draw).changes told) (c.copy.ensures.both.changes told);
  unchanged = λ told written. absurd (written (c.is_fresh-fresh.ensures.0 c.if-fresh.true));
  number = c.copy.ensures.both.number;
  to = carries_then _ _ _ _ c.args.found c.has_all.new.target _ _ _ tt
      (carries_along g.Q.Platform g.T.Tape g.L.Sink 0 c.has_all.ensures.both.most c.args.to.now c.has_all.new.to c.args.tape.now c.args.tape.now c.args.ledger.now _ _ c.requires.target (c.has_all.ensures.both.to (drawn_by g.T.Tape c.args.tape.now)))
      c.copy.ensures.both.to;
  blame = λ output. blames_then _ _ _ _ (c.in_ok-has.ensures.both.blame (g.T.Tape.faults c.args.tape.now) output (g.L.Sink.faults c.args.ledger.now)).quiet (c.copy.ensures.both.blame output);
  wrong = meets_where_all _ _ ⊥ (1 ≤ c.args.found.root.mapped) (HasNone (g.Q.Platform.history c.has_all.new.to).present → ⊥) _ _ _ c.copy.result (λ told never. absurd never)
      (λ told not idle.
      (let Q = g.Q.Platform in
      let target = c.has_all.ensures.both.to no_draw in
      let sees = c.in_ok-has.ensures.sees in
      let none : c.args.found.mapped ≡ 0 = (c.is_fresh-fresh.ensures.0 c.if-fresh.true).1 in
      not (none_listed (Q.history c.args.to.now) (Q.history c.has_all.new.to) c.args.found (Q.head c.args.to.now) sees.others c.requires.target.is_open (c.requires.target.mounted told).cell (target.cell told)
      (pages_same Q c.args.to.now c.has_all.new.to no_draw no_draw c.args.found c.has_all.new.target g.met.Q.Platform.counts_pages target told) (sees.listed told) (sees.count ∙ (sym idle ∙ none)) (sym idle ∙ none))))
      c.copy.ensures.both.wrong;
  behind = c.copy.ensures.both.behind;
}

pub returns-else-fresh-clause-both : goal.returns-else-fresh-clause-both
returns-else-fresh-clause-both g c = record {
  few = c.has_all.ensures.both.few;
  most = c.has_all.ensures.both.most;
  reads = λ idle. found_compared _ _ _ _ _ _ c.has_all.ensures.both.reads;
  from = λ any. c.has_all.ensures.both.from any;
  reads_to = (c.has_all.ensures.both.to no_draw).reads;
  changes = λ told. counted_not 2 _ _ ((c.has_all.ensures.both.to no_draw).changes told);
  unchanged = λ told written. (c.has_all.ensures.both.to no_draw).changes told;
  number = λ told. tt;
  to = carries_end _ _ _ _ _ _ _ (λ going. tt)
      (carries_along g.Q.Platform g.T.Tape g.L.Sink 0 c.has_all.ensures.both.most c.args.to.now c.has_all.new.to c.args.tape.now c.args.tape.now c.args.ledger.now _ _ c.requires.target (c.has_all.ensures.both.to (drawn_by g.T.Tape c.args.tape.now)));
  blame = λ output. let same = (c.in_ok-has.ensures.both.blame (g.T.Tape.faults c.args.tape.now) output (g.L.Sink.faults c.args.ledger.now)).quiet in
      blames_halt _ _ _ same same;
  wrong = tt;
  behind = tt;
}

pub has_all-requires : goal.has_all-requires
has_all-requires g c = record {
  source = c.requires.source;
  target = record { is_open = c.requires.target.is_open; mounted = c.requires.target.mounted };
  within = c.requires.within;
  alike = c.requires.alike;
}

pub copy-requires : goal.copy-requires
copy-requires g c =
    let source = c.has_all.ensures.both.from no_draw in
    let target = c.has_all.ensures.both.to no_draw in record {
      source = record { is_open = source.is_open; mounted = λ told. source.mounted told (c.requires.source.mounted told) };
      target = record { is_open = target.is_open; mounted = λ told. target.mounted told (c.requires.target.mounted told) };
      within = subst (λ (n : ℕ). All (λ (block : ℕ). block < n) c.args.blocks.now) (sym source.blocks) c.requires.within;
      alike = target.blocks ∙ (c.requires.alike ∙ sym source.blocks);
    }

pub returns-in_err-has-clause-leads : goal.returns-in_err-has-clause-leads
returns-in_err-has-clause-leads g c from_told to_told device there at at_there keys alike =
    rw (halted c.from_residual.result c.in_err-has.field-0.0 c.from_residual.ensures.1) (reaches_halted (g.Q.Platform.history c.args.to.now) (g.Q.Platform.history c.has_all.new.to) device there _ c.in_err-has.field-0.0 (c.in_err-has.ensures.leads from_told to_told device there at at_there keys)
    (made_kept (g.Q.Platform.history c.args.to.now) (g.Q.Platform.history c.has_all.new.to) there at_there.there.device at_there.served ((c.has_all.ensures.both.to no_draw).cell to_told)))

pub returns-then-has-clause-leads : goal.returns-then-has-clause-leads
returns-then-has-clause-leads g c from_told to_told device there at at_there keys alike =
    let led = c.in_ok-has.ensures.leads from_told to_told device there at at_there keys in
    reaches_still (g.Q.Platform.history c.args.to.now) (g.Q.Platform.history c.has_all.new.to) device there _ c.number-number.result (record { blocks = alike.blocks; order = alike.order; contents = led.2.0 c.if-has.true })
    (c.number-number.ensures ∙ number_at (g.Q.Platform.history c.args.to.now).present c.args.found there _ at_there)
    (made_kept (g.Q.Platform.history c.args.to.now) (g.Q.Platform.history c.has_all.new.to) there at_there.there.device at_there.served ((c.has_all.ensures.both.to no_draw).cell to_told))

pub returns-then-fresh-clause-leads : goal.returns-then-fresh-clause-leads
returns-then-fresh-clause-leads g c from_told to_told device there at at_there keys alike =
    let led = c.in_ok-has.ensures.leads from_told to_told device there at at_there keys in
    let blank = fresh_blank (g.Q.Platform.history c.args.to.now).present c.args.found device there at_there alike (c.is_fresh-fresh.ensures.0 c.if-fresh.true) in
    reaches_since (g.Q.Platform.history c.args.to.now) (g.Q.Platform.history c.has_all.new.to) (g.Q.Platform.history c.copy.new.to) device there _ _ c.copy.result (λ short. let along = c.has_all.ensures.both.to no_draw in omega (arith, short, along.adds, along.rises, along.capacity))
    (made_kept (g.Q.Platform.history c.args.to.now) (g.Q.Platform.history c.has_all.new.to) there at_there.there.device at_there.served ((c.has_all.ensures.both.to no_draw).cell to_told))
    (c.copy.ensures.leads from_told to_told device there led.0 led.1 keys blank)

pub returns-else-fresh-clause-leads : goal.returns-else-fresh-clause-leads
returns-else-fresh-clause-leads g c from_told to_told device there at at_there keys alike =
    let led = c.in_ok-has.ensures.leads from_told to_told device there at at_there keys in
    reaches_other (g.Q.Platform.history c.args.to.now) (g.Q.Platform.history c.has_all.new.to) device there _
    (stale_other (g.Q.Platform.history c.args.to.now).present c.args.found device there at_there (λ same.
    let never : true ≡ false = sym (led.2.1 same) ∙ c.if-has.false in
    cc) (λ fresh.
    let never : true ≡ false = sym (c.is_fresh-fresh.ensures.1 fresh) ∙ c.if-fresh.false in
    cc))
    (made_kept (g.Q.Platform.history c.args.to.now) (g.Q.Platform.history c.has_all.new.to) there at_there.there.device at_there.served ((c.has_all.ensures.both.to no_draw).cell to_told))

pub returns-in_err-has-clause-refused : goal.returns-in_err-has-clause-refused
returns-in_err-has-clause-refused g c none = rw (halted c.from_residual.result c.in_err-has.field-0.0 c.from_residual.ensures.1) (reads_at _ _ _ c.in_err-has.field-0.0 c.in_err-has.ensures.both.behind)

pub returns-then-fresh-clause-refused : goal.returns-then-fresh-clause-refused
returns-then-fresh-clause-refused g c none =
    let along = c.has_all.ensures.both.to no_draw in
    at_then _ _ _ _ _ _ c.copy.result (λ never. absurd never) (λ short. omega (arith, short, along.adds, along.rises, along.capacity)) (c.copy.ensures.refused (omega (arith, none, along.needs)))

pub returns-else-fresh-clause-refused : goal.returns-else-fresh-clause-refused
returns-else-fresh-clause-refused g c none = (
  (λ fresh.
      let never : true ≡ false = sym (c.is_fresh-fresh.ensures.1 fresh) ∙ c.if-fresh.false in
      cc),
  subst (SeesAll g.P.Platform.tells g.Q.Platform.tells (g.P.Platform.history c.args.from.now).present (g.Q.Platform.history c.args.to.now).present c.args.source.now c.args.found c.args.blocks.now) c.if-has.false c.in_ok-has.ensures.sees,
)

pub returns-in_err-has-clause-read : goal.returns-in_err-has-clause-read
returns-in_err-has-clause-read g c = rw (halted c.from_residual.result c.in_err-has.field-0.0 c.from_residual.ensures.1) tt

pub returns-then-has-clause-read : goal.returns-then-has-clause-read
returns-then-has-clause-read g c =
    one_read g.P.Platform.tells g.Q.Platform.tells (g.P.Platform.history c.args.from.now).present (g.Q.Platform.history c.args.to.now).present c.args.source.now c.args.found c.args.blocks.now (c.in_ok-has.ensures.sees.same c.if-has.true).1

pub returns-then-fresh-clause-read : goal.returns-then-fresh-clause-read
returns-then-fresh-clause-read g c =
    let P = g.P.Platform in
    reads_back P.tells (P.history c.args.from.now).present (P.history c.has_all.new.from).present c.args.source.now c.has_all.new.source c.args.blocks.now c.copy.result
    (pages_same P c.args.from.now c.has_all.new.from no_draw no_draw c.args.source.now c.has_all.new.source g.met.P.Platform.counts_pages (c.has_all.ensures.both.from no_draw)) c.in_ok-has.ensures.both.trees.0
    (copied_read P.tells g.Q.Platform.tells (P.history c.has_all.new.from).present (g.Q.Platform.history c.has_all.new.to) (g.Q.Platform.history c.copy.new.to) c.has_all.new.source c.has_all.new.target c.args.blocks.now c.copy.result c.copy.ensures.copied)

pub returns-in_err-has-clause-fills : goal.returns-in_err-has-clause-fills
returns-in_err-has-clause-fills g c idle = rw (halted c.from_residual.result c.in_err-has.field-0.0 c.from_residual.ensures.1) tt

pub returns-then-has-clause-fills : goal.returns-then-has-clause-fills
returns-then-has-clause-fills g c idle =
    let P = g.P.Platform in
    let Q = g.Q.Platform in
    fills_same _ P.tells Q.tells (P.history c.args.from.now).present (Q.history c.args.to.now) (Q.history c.has_all.new.to) c.args.source.now c.args.found c.args.blocks.now true refl (subst (SeesAll P.tells Q.tells (P.history c.args.from.now).present (Q.history c.args.to.now).present c.args.source.now c.args.found c.args.blocks.now) c.if-has.true c.in_ok-has.ensures.sees)
    (λ told. ((c.has_all.ensures.both.to no_draw).cell told).extends) c.requires.target.mounted

pub returns-then-fresh-clause-fills : goal.returns-then-fresh-clause-fills
returns-then-fresh-clause-fills g c idle =
    let P = g.P.Platform in
    let Q = g.Q.Platform in
    let source = c.has_all.ensures.both.from no_draw in
    let target = c.has_all.ensures.both.to no_draw in
    let sees = c.in_ok-has.ensures.sees in
    let fresh = c.is_fresh-fresh.ensures.0 c.if-fresh.true in
    let none : c.args.found.mapped ≡ 0 = fresh.1 in
    fills_copied _ P.tells Q.tells (P.history c.args.from.now).present (P.history c.has_all.new.from).present (Q.history c.args.to.now) (Q.history c.has_all.new.to) (Q.history c.copy.new.to) c.args.source.now c.has_all.new.source c.args.found c.has_all.new.target c.args.blocks.now sees.others c.copy.result
    (pages_same P c.args.from.now c.has_all.new.from no_draw no_draw c.args.source.now c.has_all.new.source g.met.P.Platform.counts_pages source) c.in_ok-has.ensures.both.trees.0
    (pages_same Q c.args.to.now c.has_all.new.to no_draw no_draw c.args.found c.has_all.new.target g.met.Q.Platform.counts_pages target) c.in_ok-has.ensures.both.trees.1 target.blocks
    (λ told. (target.cell told).extends) fresh sees.listed (sees.count ∙ (sym idle ∙ none)) c.copy.ensures.copied
