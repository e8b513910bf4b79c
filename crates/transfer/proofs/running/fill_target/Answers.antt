use Rattle.std.proofs.Common.{◌≡◌, ◌≤◌, ◌+◌, ◌-◌, ◌∙◌, inl, inr, Some, false, true, refl, sym, ap, subst, length, ◌<◌, ℕ, List, arith}
use Rattle.std.specs.Prelude.{All}
use Rattle.sdbt_base.proofs.RiseLaws.{counted_not}
use Rattle.device_session.specs.Open.{blocks_of}
use Rattle.sdbt_base.specs.Arrays.{mounted, session_on}
use Rattle.platform.specs.Image.{Image}
use Rattle.device_terms.proofs.MomentLaws.{still}
use Rattle.device_course.specs.States.{IsAt}
use Rattle.device_course.proofs.MadeLaws.{made_kept}
use Rattle.session_calls.proofs.AlongLaws.{along_start, along_then}
use Rattle.session_calls.proofs.CallLaws.{no_draw}
use Rattle.session_calls.proofs.CarryLaws.{carries_end, carries_start}
use Rattle.transfer.proofs.BlameLaws.{blames_as, blames_halt, blames_then}
use Rattle.transfer.proofs.HaltLaws.{behind_from, halted, meets_from, meets_where_all}
use Rattle.transfer.proofs.ReadsLaws.{filled_found, filled_new, filled_none, filled_walked}
use Rattle.transfer.proofs.FillLaws.{alike_of, reaches_halted, reaches_other, unlike_other}
use Rattle.device_session.proofs.CountLaws.{needs_none}
use Rattle.transfer.proofs.RefusalLaws.{at_then, reads_at, reads_from}
use Rattle.transfer.proofs.running.fill_target.Goals as goal
use Rattle.transfer.specs.Whole.{HasBlocks, HasNone}
use Rattle.transfer.proofs.WholeLaws.{copied_read, read_through, sees_other}
use Rattle.transfer.proofs.WholeLaws.{filled, fills_new}

pub returns-then-not-is_alike-clause-both : goal.returns-then-not-is_alike-clause-both
returns-then-not-is_alike-clause-both g c = record {
  few = 0;
  most = 0;
  reads = λ idle. filled_none _ _ _ _ _ _ _;
  reads_to = λ told. omega arith;
  changes = λ told. counted_not 2 _ _ refl;
  unchanged = λ told kept. refl;
  number = λ told. tt;
  from = λ any. along_start g.P.Platform c.args.from.now any c.args.source.now c.requires.source.is_open;
  to = carries_end _ _ _ _ _ _ _ (λ going. tt) (carries_start _ _ c.args.target c.requires.target);
  blame = λ output. blames_halt _ _ _ refl refl;
  wrong = tt;
  behind = tt;
}

pub returns-in_err-blocks-clause-both : goal.returns-in_err-blocks-clause-both
returns-in_err-blocks-clause-both g c = rw (halted c.from_residual.result c.in_err-blocks.field-0.0 c.from_residual.ensures.1) (record {
  few = g.P.Platform.reads c.list_source.new.from - g.P.Platform.reads c.args.from.now;
  most = 0;
  reads = λ idle. filled_walked _ _ _ _ _ _ _ (g.P.Platform.reads c.list_source.new.from - g.P.Platform.reads c.args.from.now) c.list_source.ensures.walks;
  reads_to = λ told. omega arith;
  changes = λ told. counted_not 2 _ _ refl;
  unchanged = λ told kept. refl;
  number = λ told. tt;
  from = λ any. c.list_source.ensures.along any;
  to = carries_end _ _ _ _ _ _ _ (λ going. tt) (carries_start _ _ c.args.target c.requires.target);
  blame = λ output. blames_as _ _ c.in_err-blocks.field-0.0 (c.in_err-blocks.ensures.blame (g.Q.Platform.faults c.args.to.now) (g.T.Tape.faults c.args.tape.now) output (g.L.Sink.faults c.args.ledger.now));
  wrong = meets_from _ _ _ _ _ _ c.in_err-blocks.field-0.0 c.in_err-blocks.ensures.wrong;
  behind = behind_from _ _ c.in_err-blocks.field-0.0 c.in_err-blocks.ensures.wrong;
})

pub returns-then-is_new-clause-both : goal.returns-then-is_new-clause-both
returns-then-is_new-clause-both g c = record {
  few = (g.P.Platform.reads c.list_source.new.from - g.P.Platform.reads c.args.from.now) + c.copy.ensures.both.few;
  most = c.copy.ensures.both.most;
  reads = λ idle. filled_new _ _ _ _ _ _ _ c.deref.result.now (g.P.Platform.reads c.list_source.new.from - g.P.Platform.reads c.args.from.now) c.copy.ensures.both.few c.copy.ensures.both.most c.if-is_new.true c.list_source.ensures.walks (ap length c.deref.ensures.value ∙ c.in_ok-blocks.ensures.count) c.copy.ensures.both.reads.0 c.copy.ensures.both.reads.1;
  from = λ any. along_then g.P.Platform 0 0 (g.P.Platform.reads c.list_source.new.from - g.P.Platform.reads c.args.from.now) c.copy.ensures.both.few _ _ _ any any any _ _ _ (c.list_source.ensures.along any) (c.copy.ensures.both.from any);
  reads_to = c.copy.ensures.both.reads_to;
  changes = c.copy.ensures.both.changes;
  unchanged = λ told kept. absurd (kept.0 c.if-is_new.true);
  number = c.copy.ensures.both.number;
  to = c.copy.ensures.both.to;
  blame = λ output. blames_then _ _ _ _ (c.in_ok-blocks.ensures.blame (g.Q.Platform.faults c.args.to.now) (g.T.Tape.faults c.args.tape.now) output (g.L.Sink.faults c.args.ledger.now)).quiet (c.copy.ensures.both.blame output);
  wrong = meets_where_all _ _ ⊥ (1 ≤ c.args.target.root.mapped) (HasNone (g.Q.Platform.history c.args.to.now).present → ⊥) _ _ _ c.copy.result (λ told never. absurd never) (λ told not new idle. not (new c.if-is_new.true told)) c.copy.ensures.both.wrong;
  behind = c.copy.ensures.both.behind;
}

pub returns-clause-both : goal.returns-clause-both
returns-clause-both g c = record {
  few = (g.P.Platform.reads c.list_source.new.from - g.P.Platform.reads c.args.from.now) + c.fill_found.ensures.both.few;
  most = c.fill_found.ensures.both.most;
  reads = λ idle. filled_found _ _ _ _ _ _ _ c.deref-else-is_new.result.now (g.P.Platform.reads c.list_source.new.from - g.P.Platform.reads c.args.from.now) c.fill_found.ensures.both.few c.fill_found.ensures.both.most (λ is. absurd cc) c.list_source.ensures.walks (ap length c.deref-else-is_new.ensures.value ∙ c.in_ok-blocks.ensures.count) (c.fill_found.ensures.both.reads idle.mapped);
  from = λ any. along_then g.P.Platform 0 0 (g.P.Platform.reads c.list_source.new.from - g.P.Platform.reads c.args.from.now) c.fill_found.ensures.both.few _ _ _ any any any _ _ _ (c.list_source.ensures.along any) (c.fill_found.ensures.both.from any);
  reads_to = c.fill_found.ensures.both.reads_to;
  changes = c.fill_found.ensures.both.changes;
  unchanged = λ told kept. c.fill_found.ensures.both.unchanged told kept.1;
  number = c.fill_found.ensures.both.number;
  to = c.fill_found.ensures.both.to;
  blame = λ output. blames_then _ _ _ _ (c.in_ok-blocks.ensures.blame (g.Q.Platform.faults c.args.to.now) (g.T.Tape.faults c.args.tape.now) output (g.L.Sink.faults c.args.ledger.now)).quiet (c.fill_found.ensures.both.blame output);
  wrong = meets_where_all _ _ (1 ≤ c.args.target.root.mapped) (1 ≤ c.args.target.root.mapped) (c.args.target.mapped ≡ c.args.target.root.mapped → ⊥) _ _ _ c.fill_found.result (λ told some. some) (λ told not new idle. not idle.mapped) c.fill_found.ensures.both.wrong;
  behind = c.fill_found.ensures.both.behind;
}

pub copy-requires : goal.copy-requires
copy-requires g c =
    let along = c.list_source.ensures.along no_draw in record {
      source = record { is_open = along.is_open; mounted = λ told. along.mounted told (c.requires.source.mounted told) };
      target = c.requires.target;
      within = subst (λ (bs : List ℕ). All (λ (block : ℕ). block < blocks_of c.args.source.now) bs) (sym c.deref.ensures.value) c.in_ok-blocks.ensures.within;
      alike = sym (c.if-not-is_alike.ensures.0 refl).0;
    }

pub fill_found-requires : goal.fill_found-requires
fill_found-requires g c =
    let along = c.list_source.ensures.along no_draw in record {
      source = record { is_open = along.is_open; mounted = λ told. along.mounted told (c.requires.source.mounted told) };
      target = c.requires.target;
      within = subst (λ (bs : List ℕ). All (λ (block : ℕ). block < blocks_of c.args.source.now) bs) (sym c.deref-else-is_new.ensures.value) c.in_ok-blocks.ensures.within;
      alike = sym (c.if-not-is_alike.ensures.0 refl).0;
    }

pub returns-then-not-is_alike-clause-leads : goal.returns-then-not-is_alike-clause-leads
returns-then-not-is_alike-clause-leads g c from_told to_told device there at at_there new =
    reaches_other (g.Q.Platform.history c.args.to.now) (g.Q.Platform.history c.args.to.now) device there _
    (unlike_other (g.P.Platform.history c.args.from.now).present (g.Q.Platform.history c.args.to.now).present c.args.source.now c.args.target device there _ _ at at_there (λ are.
    let never : false ≡ true = c.if-not-is_alike.ensures.1 are in
    cc))
    (made_kept (g.Q.Platform.history c.args.to.now) (g.Q.Platform.history c.args.to.now) there at_there.there.device at_there.served (still (g.Q.Platform.history c.args.to.now)))

pub returns-in_err-blocks-clause-leads : goal.returns-in_err-blocks-clause-leads
returns-in_err-blocks-clause-leads g c from_told to_told device there at at_there new =
    rw (halted c.from_residual.result c.in_err-blocks.field-0.0 c.from_residual.ensures.1) (reaches_halted (g.Q.Platform.history c.args.to.now) (g.Q.Platform.history c.args.to.now) device there _ c.in_err-blocks.field-0.0 (c.in_err-blocks.ensures.lists from_told device (session_on device) at).1
    (made_kept (g.Q.Platform.history c.args.to.now) (g.Q.Platform.history c.args.to.now) there at_there.there.device at_there.served (still (g.Q.Platform.history c.args.to.now))))

pub returns-then-is_new-clause-leads : goal.returns-then-is_new-clause-leads
returns-then-is_new-clause-leads g c from_told to_told device there at at_there new =
    let mid = subst (λ (i : Image). IsAt i (Some c.args.source.now) (mounted device (session_on device))) (sym (c.list_source.ensures.image from_told)) at in
    c.copy.ensures.leads from_told to_told device there mid at_there (c.deref.ensures.value ∙ (c.in_ok-blocks.ensures.lists from_told device (session_on device) at).0) (new c.if-is_new.true)

pub returns-clause-leads : goal.returns-clause-leads
returns-clause-leads g c from_told to_told device there at at_there new =
    let mid = subst (λ (i : Image). IsAt i (Some c.args.source.now) (mounted device (session_on device))) (sym (c.list_source.ensures.image from_told)) at in
    c.fill_found.ensures.leads from_told to_told device there mid at_there (c.deref-else-is_new.ensures.value ∙ (c.in_ok-blocks.ensures.lists from_told device (session_on device) at).0)
    (alike_of (g.P.Platform.history c.args.from.now).present (g.Q.Platform.history c.args.to.now).present c.args.source.now c.args.target device there _ _ at at_there (c.if-not-is_alike.ensures.0 refl))

pub returns-then-not-is_alike-clause-refused : goal.returns-then-not-is_alike-clause-refused
returns-then-not-is_alike-clause-refused g c idle = (
  (λ fresh.
      let never : false ≡ true = c.if-not-is_alike.ensures.1 (sym fresh.blocks_are, sym fresh.order_is) in
      cc),
  λ alike.
      let never : false ≡ true = c.if-not-is_alike.ensures.1 alike in
      cc,
)

pub returns-in_err-blocks-clause-refused : goal.returns-in_err-blocks-clause-refused
returns-in_err-blocks-clause-refused g c idle = rw (halted c.from_residual.result c.in_err-blocks.field-0.0 c.from_residual.ensures.1) (reads_at _ _ _ c.in_err-blocks.field-0.0 (reads_from _ _ c.in_err-blocks.field-0.0 c.in_err-blocks.ensures.wrong))

pub returns-then-is_new-clause-refused : goal.returns-then-is_new-clause-refused
returns-then-is_new-clause-refused g c idle =
    let many : length c.deref.result.now ≡ c.args.source.now.root.mapped = ap length c.deref.ensures.value ∙ c.in_ok-blocks.ensures.count in
    at_then _ _ _ _ _ _ c.copy.result (λ never. absurd never) (λ short. omega (arith, short, many)) (c.copy.ensures.refused (needs_none c.args.target (g.Q.Platform.head c.args.to.now) c.requires.target.is_open idle.untouched))

pub returns-clause-refused : goal.returns-clause-refused
returns-clause-refused g c idle =
    let many : length c.deref-else-is_new.result.now ≡ c.args.source.now.root.mapped = ap length c.deref-else-is_new.ensures.value ∙ c.in_ok-blocks.ensures.count in
    at_then _ _ _ _ _ _ c.fill_found.result (λ other. (
      (λ fresh. other.0 (fresh.commit, idle.mapped ∙ fresh.mapped)),
      λ alike. sees_other g.P.Platform.tells g.Q.Platform.tells (g.P.Platform.history c.args.from.now).present (g.P.Platform.history c.list_source.new.from).present (g.Q.Platform.history c.args.to.now).present c.args.source.now c.args.target c.deref-else-is_new.result.now c.list_source.ensures.image
          (λ told. subst (HasBlocks (g.P.Platform.history c.args.from.now).present c.args.source.now.root) (sym c.deref-else-is_new.ensures.value) (c.in_ok-blocks.ensures.listed told)) other.1,
    )) (λ short. omega (arith, short, many))
    (c.fill_found.ensures.refused (needs_none c.args.target (g.Q.Platform.head c.args.to.now) c.requires.target.is_open idle.untouched))

pub returns-in_err-blocks-clause-unlike : goal.returns-in_err-blocks-clause-unlike
returns-in_err-blocks-clause-unlike g c apart = absurd (apart (c.if-not-is_alike.ensures.0 refl))

pub returns-then-is_new-clause-unlike : goal.returns-then-is_new-clause-unlike
returns-then-is_new-clause-unlike g c apart = absurd (apart (c.if-not-is_alike.ensures.0 refl))

pub returns-clause-unlike : goal.returns-clause-unlike
returns-clause-unlike g c apart = absurd (apart (c.if-not-is_alike.ensures.0 refl))

pub returns-in_err-blocks-clause-read : goal.returns-in_err-blocks-clause-read
returns-in_err-blocks-clause-read g c = rw (halted c.from_residual.result c.in_err-blocks.field-0.0 c.from_residual.ensures.1) tt

pub returns-then-is_new-clause-read : goal.returns-then-is_new-clause-read
returns-then-is_new-clause-read g c =
    let P = g.P.Platform in
    let image : Image = (P.history c.args.from.now).present in
    read_through P.tells image (P.history c.list_source.new.from).present c.args.source.now c.deref.result.now c.copy.result c.list_source.ensures.image
    (λ told. subst (HasBlocks image c.args.source.now.root) (sym c.deref.ensures.value) (c.in_ok-blocks.ensures.listed told)) (ap length c.deref.ensures.value ∙ c.in_ok-blocks.ensures.count)
    (copied_read P.tells g.Q.Platform.tells (P.history c.list_source.new.from).present (g.Q.Platform.history c.args.to.now) (g.Q.Platform.history c.copy.new.to) c.args.source.now c.args.target c.deref.result.now c.copy.result c.copy.ensures.copied)

pub returns-clause-read : goal.returns-clause-read
returns-clause-read g c =
    let P = g.P.Platform in
    let image : Image = (P.history c.args.from.now).present in
    read_through P.tells image (P.history c.list_source.new.from).present c.args.source.now c.deref-else-is_new.result.now c.fill_found.result c.list_source.ensures.image
    (λ told. subst (HasBlocks image c.args.source.now.root) (sym c.deref-else-is_new.ensures.value) (c.in_ok-blocks.ensures.listed told)) (ap length c.deref-else-is_new.ensures.value ∙ c.in_ok-blocks.ensures.count) c.fill_found.ensures.read

pub returns-in_err-blocks-clause-fills : goal.returns-in_err-blocks-clause-fills
returns-in_err-blocks-clause-fills g c new idle = rw (halted c.from_residual.result c.in_err-blocks.field-0.0 c.from_residual.ensures.1) tt

pub returns-then-is_new-clause-fills : goal.returns-then-is_new-clause-fills
returns-then-is_new-clause-fills g c new idle =
    let P = g.P.Platform in
    let Q = g.Q.Platform in
    let image : Image = (P.history c.args.from.now).present in
    let mid : Image = (P.history c.list_source.new.from).present in
    filled _ _ P.tells Q.tells image mid (Q.history c.args.to.now) (Q.history c.copy.new.to) c.args.source.now c.args.target c.deref.result.now c.copy.result c.list_source.ensures.image
    (λ told. subst (HasBlocks image c.args.source.now.root) (sym c.deref.ensures.value) (c.in_ok-blocks.ensures.listed told)) (ap length c.deref.ensures.value ∙ c.in_ok-blocks.ensures.count) (sym (c.if-not-is_alike.ensures.0 refl).0) (sym (c.if-not-is_alike.ensures.0 refl).1) inl
    (fills_new _ P.tells Q.tells mid (Q.history c.args.to.now) (Q.history c.copy.new.to) c.args.source.now c.args.target c.deref.result.now c.copy.result c.if-is_new.true (new c.if-is_new.true) c.copy.ensures.copied)

pub returns-clause-fills : goal.returns-clause-fills
returns-clause-fills g c new idle =
    let P = g.P.Platform in
    let Q = g.Q.Platform in
    let image : Image = (P.history c.args.from.now).present in
    let mid : Image = (P.history c.list_source.new.from).present in
    filled _ _ P.tells Q.tells image mid (Q.history c.args.to.now) (Q.history c.fill_found.new.to) c.args.source.now c.args.target c.deref-else-is_new.result.now c.fill_found.result c.list_source.ensures.image
    (λ told. subst (HasBlocks image c.args.source.now.root) (sym c.deref-else-is_new.ensures.value) (c.in_ok-blocks.ensures.listed told)) (ap length c.deref-else-is_new.ensures.value ∙ c.in_ok-blocks.ensures.count) (sym (c.if-not-is_alike.ensures.0 refl).0) (sym (c.if-not-is_alike.ensures.0 refl).1) inr
    (c.fill_found.ensures.fills idle.mapped)
