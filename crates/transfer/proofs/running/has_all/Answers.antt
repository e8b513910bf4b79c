use Rattle.std.proofs.Common.{◌≡◌, ◌≤◌, ◌+◌, ◌-◌, ◌*◌, ◌∙◌, Some, false, true, length, inl, refl, sym, ap, subst, arith}
use Rattle.std.specs.Prelude.{Bool}
use Rattle.transfer.proofs.WholeLaws.{sees_same}
use Rattle.std.specs.FinMap as maps
use Rattle.std.proofs.lemmas.Slice.Eq.{bytes_eq-Decides}
use Rattle.sdbt_base.specs.Arrays.{Blocks, mounted, session_on}
use Rattle.platform.specs.Image.{Image}
use Rattle.device_course.specs.States.{IsAt}
use Rattle.session_calls.proofs.AlongLaws.{along_start, along_then}
use Rattle.session_calls.proofs.CallLaws.{no_draw}
use Rattle.transfer.proofs.BlameLaws.{blames_as, blames_done, blames_then}
use Rattle.transfer.proofs.FillLaws.{matches_as, same_contents}
use Rattle.transfer.proofs.HaltLaws.{halted, meets_to, meets_where, meets_where_all}
use Rattle.transfer.proofs.ReadsLaws.{walks_more}
use Rattle.transfer.proofs.RefusalLaws.{reads_to}
use Rattle.transfer.proofs.running.has_all.Goals as goal

pub returns-in_err-others-clause-both : goal.returns-in_err-others-clause-both
returns-in_err-others-clause-both g c = rw (halted c.from_residual.result c.in_err-others.field-0.0 c.from_residual.ensures.1) (record {
  few = 0;
  most = g.Q.Platform.reads c.list_target.new.to - g.Q.Platform.reads c.args.to.now;
  reads = record { compared = 0; within = omega arith; mapped = omega arith; first = omega arith; second = c.list_target.ensures.walks };
  from = λ any. along_start g.P.Platform c.args.from.now any c.args.source.now c.requires.source.is_open;
  to = λ any. c.list_target.ensures.along any;
  blame = λ tape output ledger. blames_as _ _ c.in_err-others.field-0.0 (c.in_err-others.ensures.blame (g.P.Platform.faults c.args.from.now) tape output ledger);
  wrong = meets_where _ _ ⊥ (1 ≤ c.args.target.now.root.mapped) ⊥ ⊥ _ _ c.in_err-others.field-0.0 (λ told never. absurd never) (λ told never. never) (meets_to _ _ ⊥ ⊥ _ _ c.in_err-others.field-0.0 c.in_err-others.ensures.wrong);
  behind = reads_to _ _ _ _ c.in_err-others.field-0.0 c.in_err-others.ensures.wrong c.in_err-others.ensures.full;
  trees = (refl, refl);
})

pub returns-then-eq-clause-both : goal.returns-then-eq-clause-both
returns-then-eq-clause-both g c =
    let listed = c.in_ok-others.ensures.count in
    let are = ap length (sym c.as_slice.ensures.value ∙ (bytes_eq-Decides _ _).0 (sym (c.if-eq.ensures))) in
    let many : length c.args.blocks.now ≡ c.args.target.now.root.mapped = sym are ∙ listed in
    record {
      few = c.has_same.ensures.both.few;
      most = (g.Q.Platform.reads c.list_target.new.to - g.Q.Platform.reads c.args.to.now) + c.has_same.ensures.both.most;
      reads = record {
        compared = length c.args.blocks.now;
        within = omega arith;
        mapped = omega (arith, many);
        first = c.has_same.ensures.both.reads.0;
        second = λ told. let more = c.has_same.ensures.both.reads.1 in
            walks_more _ _ 0 (21 * length c.args.blocks.now) ((g.Q.Platform.reads c.list_target.new.to - g.Q.Platform.reads c.args.to.now) + c.has_same.ensures.both.most) (g.Q.Platform.reads c.list_target.new.to - g.Q.Platform.reads c.args.to.now) (omega (arith, more)) (c.list_target.ensures.walks told);
      };
      from = λ any. c.has_same.ensures.both.from any;
      to = λ any. along_then g.Q.Platform 0 0 (g.Q.Platform.reads c.list_target.new.to - g.Q.Platform.reads c.args.to.now) c.has_same.ensures.both.most _ _ _ any any any _ _ _ (c.list_target.ensures.along any) (c.has_same.ensures.both.to any);
      blame = λ tape output ledger. blames_then _ _ _ _ (c.in_ok-others.ensures.blame (g.P.Platform.faults c.args.from.now) tape output ledger).quiet (c.has_same.ensures.both.blame tape output ledger);
      wrong = meets_where_all _ _ (1 ≤ length c.args.blocks.now) (1 ≤ c.args.target.now.root.mapped) ⊥ ⊥ _ _ c.has_same.result (λ told some. omega (arith, some, many)) (λ told never. never) c.has_same.ensures.both.wrong;
      behind = c.has_same.ensures.both.behind;
      trees = c.has_same.ensures.both.trees;
    }

pub returns-clause-both : goal.returns-clause-both
returns-clause-both g c = record {
  few = 0;
  most = g.Q.Platform.reads c.list_target.new.to - g.Q.Platform.reads c.args.to.now;
  reads = record { compared = 0; within = omega arith; mapped = omega arith; first = omega arith; second = c.list_target.ensures.walks };
  from = λ any. along_start g.P.Platform c.args.from.now any c.args.source.now c.requires.source.is_open;
  to = λ any. c.list_target.ensures.along any;
  blame = λ tape output ledger. blames_done _ _ _ (c.in_ok-others.ensures.blame (g.P.Platform.faults c.args.from.now) tape output ledger).quiet;
  wrong = tt;
  behind = tt;
  trees = (refl, refl);
}

pub has_same-requires : goal.has_same-requires
has_same-requires g c =
    let along = c.list_target.ensures.along no_draw in record {
      source = c.requires.source;
      target = record { is_open = along.is_open; mounted = λ told. along.mounted told (c.requires.target.mounted told) };
      within = c.requires.within;
      alike = c.requires.alike;
    }

pub returns-in_err-others-clause-leads : goal.returns-in_err-others-clause-leads
returns-in_err-others-clause-leads g c from_told to_told device there at at_there keys = rw (halted c.from_residual.result c.in_err-others.field-0.0 c.from_residual.ensures.1) ((c.in_err-others.ensures.lists to_told there (session_on there) at_there).1)

pub returns-then-eq-clause-leads : goal.returns-then-eq-clause-leads
returns-then-eq-clause-leads g c from_told to_told device there at at_there keys =
    let here = subst (λ (i : Image). IsAt i (Some c.args.target.now) (mounted there (session_on there))) (sym (c.list_target.ensures.image to_told)) at_there in
    let others : maps.keys there.contents ≡ c.args.blocks.now = sym (c.in_ok-others.ensures.lists to_told there (session_on there) at_there).0 ∙ (sym c.as_slice.ensures.value ∙ (bytes_eq-Decides _ _).0 (sym (c.if-eq.ensures))) in
    matches_as _ _ _ _ device there (session_on device) (session_on there) _ _ c.has_same.result (same_contents device there c.args.blocks.now keys others)
    (c.has_same.ensures.leads from_told to_told device there (session_on device) (session_on there) at here)

pub returns-clause-leads : goal.returns-clause-leads
returns-clause-leads g c from_told to_told device there at at_there keys =
    let here = subst (λ (i : Image). IsAt i (Some c.args.target.now) (mounted there (session_on there))) (sym (c.list_target.ensures.image to_told)) at_there in
    let listed = (c.in_ok-others.ensures.lists to_told there (session_on there) at_there).0 in (
      at,
      here,
      (λ never. absurd cc, λ same. c.if-eq.ensures ∙ (bytes_eq-Decides _ _).1 (c.as_slice.ensures.value ∙ (listed ∙ (ap (λ (m : Blocks). maps.keys m) same ∙ sym keys)))),
    )

pub returns-in_err-others-clause-sees : goal.returns-in_err-others-clause-sees
returns-in_err-others-clause-sees g c = rw (halted c.from_residual.result c.in_err-others.field-0.0 c.from_residual.ensures.1) tt

pub returns-then-eq-clause-sees : goal.returns-then-eq-clause-sees
returns-then-eq-clause-sees g c =
    sees_same g.P.Platform.tells g.Q.Platform.tells (g.P.Platform.history c.args.from.now).present (g.Q.Platform.history c.args.to.now).present (g.Q.Platform.history c.list_target.new.to).present c.args.source.now c.args.target.now c.args.blocks.now _ (λ (b : Bool). b) c.has_same.result
    c.list_target.ensures.image c.in_ok-others.ensures.listed c.in_ok-others.ensures.count (sym c.as_slice.ensures.value ∙ (bytes_eq-Decides _ _).0 (sym (c.if-eq.ensures))) c.has_same.ensures.same

pub returns-clause-sees : goal.returns-clause-sees
returns-clause-sees g c = record {
  others = _;
  listed = c.in_ok-others.ensures.listed;
  count = c.in_ok-others.ensures.count;
  same = λ never. absurd cc;
  unlike = λ apart. inl (λ same.
      let never : false ≡ true = c.if-eq.ensures ∙ (bytes_eq-Decides _ _).1 (c.as_slice.ensures.value ∙ same) in
      cc);
}
