use Rattle.std.proofs.Common.{◌≡◌, ◌<◌, ◌+◌, ◌*◌, ◌∙◌, ℕ, length, refl, ap, subst, arith}
use Rattle.std.proofs.lemmas.List.Elements.{All-get_or}
use Rattle.device_session.specs.Open.{blocks_of}
use Rattle.session_calls.specs.Along.{Along, drawn_by}
use Rattle.session_calls.proofs.AlongLaws.{along_start, along_then}
use Rattle.session_calls.proofs.CallLaws.{along_more, no_draw}
use Rattle.transfer.proofs.HaltLaws.{halted}
use Rattle.transfer.specs.Counts.{Counts}
use Rattle.std.proofs.Common.{List, Some, get_or, sym, take}
use Rattle.std.proofs.lemmas.List.{take_all, take_more}
use Rattle.sdbt_base.specs.Arrays.{Session as OpenSession, mounted}
use Rattle.device_course.specs.States.{IsAt}
use Rattle.transfer.specs.Copies.{copied, copy_block}
use Rattle.transfer.proofs.CopyLaws.{copied-more}
use Rattle.transfer.proofs.BlameLaws.{blames_done, blames_then, same_counts}
use Rattle.transfer.proofs.copying.copy_blocks.Goals as goal
use Rattle.std.proofs.lemmas.List.Elements.{All-take, All-weaker}
use Rattle.platform.specs.Image.{Image}
use Rattle.transfer.specs.Whole.{CopiesTree}
use Rattle.transfer.proofs.WholeLaws.{copied_more, copied_none, pages_same}

pub loop-block-init : goal.loop-block-init
loop-block-init g c = record {
  source = λ any. along_start g.P.Platform c.args.from.now any c.args.source.now c.requires.source.is_open;
  target = along_start g.Q.Platform c.args.to.now (drawn_by g.T.Tape c.args.tape.now) c.args.target.now c.requires.target.is_open;
  from_quiet = refl;
  to_quiet = refl;
  leads = λ from_told to_told device there array other at at_other. (at, at_other);
  tape_quiet = refl;
  tree = refl;
  copies = copied_none g.P.Platform.tells g.Q.Platform.tells (g.P.Platform.history c.args.from.now).present (g.Q.Platform.history c.args.to.now).present c.args.source.now c.args.target.now;
  size = refl;
}

pub copy_block-requires-clause-source : goal.copy_block-requires-clause-source
copy_block-requires-clause-source g c =
    let along = c.loop-block.invariant.source no_draw in
    record { is_open = along.is_open; mounted = λ told. along.mounted told (c.requires.source.mounted told) }

pub copy_block-requires-clause-target : goal.copy_block-requires-clause-target
copy_block-requires-clause-target g c =
    let along = c.loop-block.invariant.target in
    record { is_open = along.is_open; mounted = λ told. along.mounted told (c.requires.target.mounted told) }

pub copy_block-requires-clause-within : goal.copy_block-requires-clause-within
copy_block-requires-clause-within g c =
    let within = All-get_or (λ (block : ℕ). block < blocks_of c.args.source.now) c.args.blocks.now c.loop-block.block-index 0 c.loop-block-test.true c.requires.within in
    omega (arith, within, (c.loop-block.invariant.source no_draw).blocks)

pub copy_block-requires-clause-alike : goal.copy_block-requires-clause-alike
copy_block-requires-clause-alike g c = omega (arith, c.requires.alike, (c.loop-block.invariant.source no_draw).blocks, c.loop-block.invariant.target.blocks)

pub loop-block-preserved : goal.loop-block-preserved
loop-block-preserved g c =
    let before = c.loop-block.invariant in
    let T = g.T.Tape in
    let same = (c.in_ok-copy_block.ensures.blame 0 0).quiet in
    record {
      source = λ any. along_more g.P.Platform 0 0 (21 * c.loop-block.block-index + 21) (21 * (c.loop-block.block-index + 1)) _ _ any any _ _ (omega arith) (omega arith)
          (along_then g.P.Platform 0 0 (21 * c.loop-block.block-index) 21 _ _ _ any any any _ _ _ (before.source any) (c.copy_block.ensures.from any));
      target = along_more g.Q.Platform (c.loop-block.block-index + 1) (c.loop-block.block-index + 1) (40 * c.loop-block.block-index + 40) (40 * (c.loop-block.block-index + 1)) _ _ (drawn_by T c.args.tape.now) (drawn_by T c.copy_block.new.tape) _ _ (omega arith) (omega arith)
          (along_then g.Q.Platform c.loop-block.block-index 1 (40 * c.loop-block.block-index) 40 _ _ _ (drawn_by T c.args.tape.now) (drawn_by T c.loop-block.tape) (drawn_by T c.copy_block.new.tape) _ _ _ before.target c.copy_block.ensures.to);
      from_quiet = ap (λ (n : Counts). n.from) same ∙ before.from_quiet;
      to_quiet = ap (λ (n : Counts). n.to) same ∙ before.to_quiet;
      leads = λ from_told to_told device there array other at at_other.
          let so_far = before.leads from_told to_told device there array other at at_other in
          let blocks : List ℕ = c.args.blocks.now in
          let index : ℕ = c.loop-block.block-index in
          let block : ℕ = get_or blocks index 0 in
          let mid : OpenSession = copied array.contents (take index blocks) other in
          let led = c.in_ok-copy_block.ensures.leads from_told to_told device there array mid so_far.0 so_far.1 in
          let more : copied array.contents (take (index + 1) blocks) other ≡ copy_block array.contents mid block = ap (λ (bs : List ℕ). copied array.contents bs other) (take_more blocks index 0 c.loop-block-test.true) ∙ copied-more array.contents (take index blocks) block other in
          (led.0, subst (λ (o : OpenSession). IsAt (g.Q.Platform.history c.copy_block.new.to).present (Some c.copy_block.new.target) (mounted there o)) (sym more) led.1);
      tape_quiet = ap (λ (n : Counts). n.tape) same ∙ before.tape_quiet;
      tree = c.in_ok-copy_block.ensures.copies.0 ∙ before.tree;
      copies =
          let P = g.P.Platform in
          let Q = g.Q.Platform in
          let blocks : List ℕ = c.args.blocks.now in
          let index : ℕ = c.loop-block.block-index in
          let block : ℕ = get_or blocks index 0 in
          let first : Image = (P.history c.args.from.now).present in
          let start : Image = (Q.history c.args.to.now).present in
          subst (CopiesTree P.tells Q.tells first start (Q.history c.copy_block.new.to).present c.args.source.now c.args.target.now c.copy_block.new.target) (sym (take_more blocks index 0 c.loop-block-test.true))
          (copied_more P.tells Q.tells first (P.history c.loop-block.from).present start (Q.history c.loop-block.to).present (Q.history c.copy_block.new.to).present c.args.source.now c.loop-block.source c.args.target.now c.loop-block.target c.copy_block.new.target (take index blocks) block
          (pages_same P c.args.from.now c.loop-block.from no_draw no_draw c.args.source.now c.loop-block.source g.met.P.Platform.counts_pages (before.source no_draw)) before.tree before.target.blocks
          (All-take (λ (b : ℕ). b < blocks_of c.args.target.now) index blocks (All-weaker (λ (b : ℕ). b < blocks_of c.args.source.now) (λ (b : ℕ). b < blocks_of c.args.target.now) (λ b less. omega (arith, less, c.requires.alike)) blocks c.requires.within))
          before.copies c.in_ok-copy_block.ensures.copies.1);
      size = c.copy_block.ensures.size;
    }

pub returns-in_err-copy_block-clause-from : goal.returns-in_err-copy_block-clause-from
returns-in_err-copy_block-clause-from g c any =
    along_more g.P.Platform 0 0 (21 * c.loop-block.block-index + 21) (21 * length c.args.blocks.now) _ _ any any _ _ (omega arith) (omega (arith, c.loop-block-test.true))
    (along_then g.P.Platform 0 0 (21 * c.loop-block.block-index) 21 _ _ _ any any any _ _ _ (c.loop-block.invariant.source any) (c.copy_block.ensures.from any))

pub returns-in_err-copy_block-clause-to : goal.returns-in_err-copy_block-clause-to
returns-in_err-copy_block-clause-to g c =
    let T = g.T.Tape in
    along_more g.Q.Platform (c.loop-block.block-index + 1) (length c.args.blocks.now) (40 * c.loop-block.block-index + 40) (40 * length c.args.blocks.now) _ _ (drawn_by T c.args.tape.now) (drawn_by T c.copy_block.new.tape) _ _ (omega (arith, c.loop-block-test.true)) (omega (arith, c.loop-block-test.true))
    (along_then g.Q.Platform c.loop-block.block-index 1 (40 * c.loop-block.block-index) 40 _ _ _ (drawn_by T c.args.tape.now) (drawn_by T c.loop-block.tape) (drawn_by T c.copy_block.new.tape) _ _ _ c.loop-block.invariant.target c.copy_block.ensures.to)

pub returns-in_err-copy_block-clause-blame : goal.returns-in_err-copy_block-clause-blame
returns-in_err-copy_block-clause-blame g c output ledger =
    rw (halted c.from_residual.result c.in_err-copy_block.field-0.0 c.from_residual.ensures.1) (blames_then _ _ _ _ (same_counts _ _ _ _ _ _ _ _ _ _ c.loop-block.invariant.from_quiet c.loop-block.invariant.to_quiet c.loop-block.invariant.tape_quiet refl refl)
    (c.in_err-copy_block.ensures.blame output ledger))

pub returns-clause-from : goal.returns-clause-from
returns-clause-from g c any =
    let all : c.loop-block.block-index ≡ length c.args.blocks.now = omega arith in
    subst (λ (n : ℕ). Along g.P.Platform 0 (21 * n) c.args.from.now c.loop-block.from any any c.args.source.now c.loop-block.source) all (c.loop-block.invariant.source any)

pub returns-clause-to : goal.returns-clause-to
returns-clause-to g c =
    let all : c.loop-block.block-index ≡ length c.args.blocks.now = omega arith in
    subst (λ (n : ℕ). Along g.Q.Platform n (40 * n) c.args.to.now c.loop-block.to (drawn_by g.T.Tape c.args.tape.now) (drawn_by g.T.Tape c.loop-block.tape) c.args.target.now c.loop-block.target) all c.loop-block.invariant.target

pub returns-clause-blame : goal.returns-clause-blame
returns-clause-blame g c output ledger = blames_done _ _ _ (same_counts _ _ _ _ _ _ _ _ _ _ c.loop-block.invariant.from_quiet c.loop-block.invariant.to_quiet c.loop-block.invariant.tape_quiet refl refl)

pub returns-in_err-copy_block-clause-leads : goal.returns-in_err-copy_block-clause-leads
returns-in_err-copy_block-clause-leads g c from_told to_told device there array other at at_other =
    let so_far = c.loop-block.invariant.leads from_told to_told device there array other at at_other in
    rw (halted c.from_residual.result c.in_err-copy_block.field-0.0 c.from_residual.ensures.1) (c.in_err-copy_block.ensures.leads from_told to_told device there array (copied array.contents (take c.loop-block.block-index c.args.blocks.now) other) so_far.0 so_far.1)

pub returns-clause-leads : goal.returns-clause-leads
returns-clause-leads g c from_told to_told device there array other at at_other =
    let so_far = c.loop-block.invariant.leads from_told to_told device there array other at at_other in
    let blocks : List ℕ = c.args.blocks.now in
    (so_far.0, subst (λ (bs : List ℕ). IsAt (g.Q.Platform.history c.loop-block.to).present (Some c.loop-block.target) (mounted there (copied array.contents bs other))) (take_all c.loop-block.block-index blocks (omega arith)) so_far.1)

pub returns-in_err-copy_block-clause-full : goal.returns-in_err-copy_block-clause-full
returns-in_err-copy_block-clause-full g c is =
    (omega (arith, c.loop-block-test.true), c.in_err-copy_block.ensures.full (sym (halted c.from_residual.result c.in_err-copy_block.field-0.0 c.from_residual.ensures.1) ∙ is))

pub returns-in_err-copy_block-clause-copies : goal.returns-in_err-copy_block-clause-copies
returns-in_err-copy_block-clause-copies g c = (c.in_err-copy_block.ensures.copies.0 ∙ c.loop-block.invariant.tree, rw (halted c.from_residual.result c.in_err-copy_block.field-0.0 c.from_residual.ensures.1) tt)

pub returns-clause-copies : goal.returns-clause-copies
returns-clause-copies g c =
    let P = g.P.Platform in
    let Q = g.Q.Platform in
    (c.loop-block.invariant.tree, subst (CopiesTree P.tells Q.tells (P.history c.args.from.now).present (Q.history c.args.to.now).present (Q.history c.loop-block.to).present c.args.source.now c.args.target.now c.loop-block.target) (take_all c.loop-block.block-index c.args.blocks.now (omega arith)) c.loop-block.invariant.copies)

pub returns-in_err-copy_block-clause-room : goal.returns-in_err-copy_block-clause-room
returns-in_err-copy_block-clause-room g c is = c.in_err-copy_block.ensures.room (sym (halted c.from_residual.result c.in_err-copy_block.field-0.0 c.from_residual.ensures.1) ∙ is)
