use Rattle.std.proofs.Common.{◌≡◌, ◌<◌, ◌≤◌, ◌+◌, ◌*◌, ◌∙◌, ℕ, length, refl, ap, arith}
use Rattle.std.proofs.lemmas.List.Elements.{All-get_or}
use Rattle.device_session.specs.Open.{blocks_of}
use Rattle.session_calls.proofs.AlongLaws.{along_start, along_then}
use Rattle.session_calls.proofs.CallLaws.{along_more, no_draw}
use Rattle.transfer.proofs.HaltLaws.{halted, meets_where}
use Rattle.transfer.specs.Counts.{Counts}
use Rattle.std.proofs.Common.{[], ◌∷◌, List, false, get_or, subst, sym, take, true}
use Rattle.transfer.specs.Whole.{HasOne}
use Rattle.transfer.proofs.WholeLaws.{one_as, pages_same, two_as}
use Rattle.std.specs.Prelude.{All}
use Rattle.std.proofs.lemmas.List.{take_all, take_more}
use Rattle.std.proofs.lemmas.List.Elements.{All-append, All-cons, All-nil, Contains-get_or}
use Rattle.sdbt_base.specs.Arrays.{content_of}
use Rattle.transfer.proofs.MovingLaws.{same_at, same_more}
use Rattle.transfer.proofs.BlameLaws.{blames_done, blames_then, same_counts}
use Rattle.transfer.proofs.matching.has_same.Goals as goal

pub returns-then-not-branch-clause-both : goal.returns-then-not-branch-clause-both
returns-then-not-branch-clause-both g c = record {
  few = 21 * c.loop-block.block-index + c.has_same_block.ensures.both.few;
  most = 21 * c.loop-block.block-index + c.has_same_block.ensures.both.most;
  reads =
      let within = c.loop-block-test.true in
      let some = c.has_same_block.ensures.both.reads.0 in
      let more = c.has_same_block.ensures.both.reads.1 in
      (omega (arith, within, some), omega (arith, within, more));
  from = λ any. along_then g.P.Platform 0 0 (21 * c.loop-block.block-index) c.has_same_block.ensures.both.few _ _ _ any any any _ _ _ (c.loop-block.invariant.source any) (c.has_same_block.ensures.both.from any);
  to = λ any. along_then g.Q.Platform 0 0 (21 * c.loop-block.block-index) c.has_same_block.ensures.both.most _ _ _ any any any _ _ _ (c.loop-block.invariant.target any) (c.has_same_block.ensures.both.to any);
  blame = λ tape output ledger. blames_then _ _ _ _ (same_counts _ _ _ _ _ _ _ _ _ _ c.loop-block.invariant.from_quiet c.loop-block.invariant.to_quiet refl refl refl)
      (blames_done _ _ _ (c.in_ok-has_same_block.ensures.both.blame tape output ledger).quiet);
  wrong = tt;
  behind = tt;
  trees = (c.in_ok-has_same_block.ensures.both.trees.0 ∙ c.loop-block.invariant.source_tree, c.in_ok-has_same_block.ensures.both.trees.1 ∙ c.loop-block.invariant.target_tree);
}

pub returns-in_err-has_same_block-clause-both : goal.returns-in_err-has_same_block-clause-both
returns-in_err-has_same_block-clause-both g c = rw (halted c.from_residual.result c.in_err-has_same_block.field-0.0 c.from_residual.ensures.1) (record {
  few = 21 * c.loop-block.block-index + c.has_same_block.ensures.both.few;
  most = 21 * c.loop-block.block-index + c.has_same_block.ensures.both.most;
  reads =
      let within = c.loop-block-test.true in
      let some = c.has_same_block.ensures.both.reads.0 in
      let more = c.has_same_block.ensures.both.reads.1 in
      (omega (arith, within, some), omega (arith, within, more));
  from = λ any. along_then g.P.Platform 0 0 (21 * c.loop-block.block-index) c.has_same_block.ensures.both.few _ _ _ any any any _ _ _ (c.loop-block.invariant.source any) (c.has_same_block.ensures.both.from any);
  to = λ any. along_then g.Q.Platform 0 0 (21 * c.loop-block.block-index) c.has_same_block.ensures.both.most _ _ _ any any any _ _ _ (c.loop-block.invariant.target any) (c.has_same_block.ensures.both.to any);
  blame = λ tape output ledger. blames_then _ _ _ _ (same_counts _ _ _ _ _ _ _ _ _ _ c.loop-block.invariant.from_quiet c.loop-block.invariant.to_quiet refl refl refl)
      (c.in_err-has_same_block.ensures.both.blame tape output ledger);
  wrong = meets_where _ _ (Unit {0}) (1 ≤ length c.args.blocks.now) ⊥ ⊥ _ _ c.in_err-has_same_block.field-0.0 (λ told any. (let within = c.loop-block-test.true in omega (arith, within))) (λ told never. never) c.in_err-has_same_block.ensures.both.wrong;
  behind = c.in_err-has_same_block.ensures.both.behind;
  trees = (c.in_err-has_same_block.ensures.both.trees.0 ∙ c.loop-block.invariant.source_tree, c.in_err-has_same_block.ensures.both.trees.1 ∙ c.loop-block.invariant.target_tree);
})

pub returns-clause-both : goal.returns-clause-both
returns-clause-both g c = record {
  few = 21 * c.loop-block.block-index;
  most = 21 * c.loop-block.block-index;
  reads = (omega arith, omega arith);
  from = λ any. c.loop-block.invariant.source any;
  to = λ any. c.loop-block.invariant.target any;
  blame = λ tape output ledger. blames_done _ _ _ (same_counts _ _ _ _ _ _ _ _ _ _ c.loop-block.invariant.from_quiet c.loop-block.invariant.to_quiet refl refl refl);
  wrong = tt;
  behind = tt;
  trees = (c.loop-block.invariant.source_tree, c.loop-block.invariant.target_tree);
}

pub loop-block-init : goal.loop-block-init
loop-block-init g c = record {
  source = λ any. along_start g.P.Platform c.args.from.now any c.args.source.now c.requires.source.is_open;
  target = λ any. along_start g.Q.Platform c.args.to.now any c.args.target.now c.requires.target.is_open;
  from_quiet = refl;
  leads = λ from_told to_told device there array other at at_other. (at, at_other, All-nil (λ (block : ℕ). content_of array.contents block ≡ content_of other.contents block));
  to_quiet = refl;
  source_tree = refl;
  target_tree = refl;
  same = All-nil (HasOne g.P.Platform.tells g.Q.Platform.tells (g.P.Platform.history c.args.from.now).present (g.Q.Platform.history c.args.to.now).present c.args.source.now c.args.target.now);
  size = refl;
  other_size = refl;
}

pub has_same_block-requires-clause-source : goal.has_same_block-requires-clause-source
has_same_block-requires-clause-source g c =
    let along = c.loop-block.invariant.source no_draw in
    record { is_open = along.is_open; mounted = λ told. along.mounted told (c.requires.source.mounted told) }

pub has_same_block-requires-clause-target : goal.has_same_block-requires-clause-target
has_same_block-requires-clause-target g c =
    let along = c.loop-block.invariant.target no_draw in
    record { is_open = along.is_open; mounted = λ told. along.mounted told (c.requires.target.mounted told) }

pub has_same_block-requires-clause-within : goal.has_same_block-requires-clause-within
has_same_block-requires-clause-within g c =
    let within = All-get_or (λ (block : ℕ). block < blocks_of c.args.source.now) c.args.blocks.now c.loop-block.block-index 0 c.loop-block-test.true c.requires.within in
    omega (arith, within, (c.loop-block.invariant.source no_draw).blocks)

pub has_same_block-requires-clause-alike : goal.has_same_block-requires-clause-alike
has_same_block-requires-clause-alike g c = omega (arith, c.requires.alike, (c.loop-block.invariant.source no_draw).blocks, (c.loop-block.invariant.target no_draw).blocks)

pub loop-block-preserved : goal.loop-block-preserved
loop-block-preserved g c =
    let before = c.loop-block.invariant in
    let same = (c.in_ok-has_same_block.ensures.both.blame 0 0 0).quiet in
    record {
      source = λ any.
          let some = c.has_same_block.ensures.both.reads.0 in
          along_more g.P.Platform 0 0 (21 * c.loop-block.block-index + c.has_same_block.ensures.both.few) (21 * (c.loop-block.block-index + 1)) _ _ any any _ _ (omega arith) (omega (arith, some))
          (along_then g.P.Platform 0 0 (21 * c.loop-block.block-index) c.has_same_block.ensures.both.few _ _ _ any any any _ _ _ (before.source any) (c.has_same_block.ensures.both.from any));
      target = λ any.
          let more = c.has_same_block.ensures.both.reads.1 in
          along_more g.Q.Platform 0 0 (21 * c.loop-block.block-index + c.has_same_block.ensures.both.most) (21 * (c.loop-block.block-index + 1)) _ _ any any _ _ (omega arith) (omega (arith, more))
          (along_then g.Q.Platform 0 0 (21 * c.loop-block.block-index) c.has_same_block.ensures.both.most _ _ _ any any any _ _ _ (before.target any) (c.has_same_block.ensures.both.to any));
      from_quiet = ap (λ (n : Counts). n.from) same ∙ before.from_quiet;
      leads = λ from_told to_told device there array other at at_other.
          let so_far = before.leads from_told to_told device there array other at at_other in
          let led = c.in_ok-has_same_block.ensures.leads from_told to_told device there array other so_far.0 so_far.1 in
          (led.0, led.1, same_more array other c.args.blocks.now c.loop-block.block-index c.loop-block-test.true so_far.2 (led.2.0 c.if-not-branch.false));
      to_quiet = ap (λ (n : Counts). n.to) same ∙ before.to_quiet;
      source_tree = c.in_ok-has_same_block.ensures.both.trees.0 ∙ before.source_tree;
      target_tree = c.in_ok-has_same_block.ensures.both.trees.1 ∙ before.target_tree;
      same =
          let P = g.P.Platform in
          let Q = g.Q.Platform in
          let blocks : List ℕ = c.args.blocks.now in
          let index : ℕ = c.loop-block.block-index in
          let block : ℕ = get_or blocks index 0 in
          let One : ℕ → Type 0 = HasOne P.tells Q.tells (P.history c.args.from.now).present (Q.history c.args.to.now).present c.args.source.now c.args.target.now in
          let next : One block = one_as P.tells Q.tells (P.history c.args.from.now).present (P.history c.loop-block.from).present (Q.history c.args.to.now).present (Q.history c.loop-block.to).present c.args.source.now c.loop-block.source c.args.target.now c.loop-block.target block
          (pages_same P c.args.from.now c.loop-block.from no_draw no_draw c.args.source.now c.loop-block.source g.met.P.Platform.counts_pages (before.source no_draw))
          (pages_same Q c.args.to.now c.loop-block.to no_draw no_draw c.args.target.now c.loop-block.target g.met.Q.Platform.counts_pages (before.target no_draw))
          before.source_tree before.target_tree (c.in_ok-has_same_block.ensures.same.one c.if-not-branch.false) in
          subst (All One) (sym (take_more blocks index 0 c.loop-block-test.true)) (All-append One (take index blocks) (block ∷ []) before.same (All-cons One block [] next (All-nil One)));
      size = c.has_same_block.ensures.size;
      other_size = c.has_same_block.ensures.other_size;
    }

pub returns-then-not-branch-clause-leads : goal.returns-then-not-branch-clause-leads
returns-then-not-branch-clause-leads g c from_told to_told device there array other at at_other =
    let so_far = c.loop-block.invariant.leads from_told to_told device there array other at at_other in
    let led = c.in_ok-has_same_block.ensures.leads from_told to_told device there array other so_far.0 so_far.1 in
    (led.0, led.1, (λ never. absurd cc, λ all. sym c.if-not-branch.true ∙ led.2.1 (same_at array other c.args.blocks.now c.loop-block.block-index c.loop-block-test.true all)))

pub returns-in_err-has_same_block-clause-leads : goal.returns-in_err-has_same_block-clause-leads
returns-in_err-has_same_block-clause-leads g c from_told to_told device there array other at at_other =
    let so_far = c.loop-block.invariant.leads from_told to_told device there array other at at_other in
    rw (halted c.from_residual.result c.in_err-has_same_block.field-0.0 c.from_residual.ensures.1) (c.in_err-has_same_block.ensures.leads from_told to_told device there array other so_far.0 so_far.1)

pub returns-clause-leads : goal.returns-clause-leads
returns-clause-leads g c from_told to_told device there array other at at_other =
    let so_far = c.loop-block.invariant.leads from_told to_told device there array other at at_other in
    (so_far.0, so_far.1, (λ yes. subst (λ (bs : List ℕ). All (λ block. content_of array.contents block ≡ content_of other.contents block) bs) (take_all c.loop-block.block-index c.args.blocks.now (omega arith)) so_far.2, λ all. refl))

pub returns-then-not-branch-clause-same : goal.returns-then-not-branch-clause-same
returns-then-not-branch-clause-same g c =
    let P = g.P.Platform in
    let Q = g.Q.Platform in
    let before = c.loop-block.invariant in
    let block : ℕ = get_or c.args.blocks.now c.loop-block.block-index 0 in
    record {
      one = λ agrees. absurd cc;
      two = λ apart. (
        block,
        Contains-get_or c.args.blocks.now c.loop-block.block-index 0 c.loop-block-test.true,
        two_as P.tells Q.tells (P.history c.args.from.now).present (P.history c.loop-block.from).present (Q.history c.args.to.now).present (Q.history c.loop-block.to).present c.args.source.now c.loop-block.source c.args.target.now c.loop-block.target block
            (pages_same P c.args.from.now c.loop-block.from no_draw no_draw c.args.source.now c.loop-block.source g.met.P.Platform.counts_pages (before.source no_draw))
            (pages_same Q c.args.to.now c.loop-block.to no_draw no_draw c.args.target.now c.loop-block.target g.met.Q.Platform.counts_pages (before.target no_draw)) before.source_tree before.target_tree
            (c.in_ok-has_same_block.ensures.same.two (λ yes.
            let never : false ≡ true = sym c.if-not-branch.true ∙ yes in
            cc)),
      );
    }

pub returns-in_err-has_same_block-clause-same : goal.returns-in_err-has_same_block-clause-same
returns-in_err-has_same_block-clause-same g c = rw (halted c.from_residual.result c.in_err-has_same_block.field-0.0 c.from_residual.ensures.1) tt

pub returns-clause-same : goal.returns-clause-same
returns-clause-same g c = record {
  one = λ agrees.
      subst (All (HasOne g.P.Platform.tells g.Q.Platform.tells (g.P.Platform.history c.args.from.now).present (g.Q.Platform.history c.args.to.now).present c.args.source.now c.args.target.now)) (take_all c.loop-block.block-index c.args.blocks.now (omega arith)) c.loop-block.invariant.same;
  two = λ apart. absurd (apart refl);
}

pub returns-in_err-has_same_block-clause-memory : goal.returns-in_err-has_same_block-clause-memory
returns-in_err-has_same_block-clause-memory g c = rw (halted c.from_residual.result c.in_err-has_same_block.field-0.0 c.from_residual.ensures.1) c.in_err-has_same_block.ensures.memory
