use Rattle.std.proofs.Common.{Err, ◌≡◌, ◌≤◌, ◌+◌, ◌-◌, ℕ, ap, inl, inr, length, refl, subst, sym, ◌∙◌, arith, Ok, Some}
use Rattle.sdbt_base.specs.Arrays.{mounted}
use Rattle.byte_arrays.specs.Ranges.{blocks_from, covered_blocks}
use Rattle.byte_arrays.proofs.RangeLaws.{covered_is, length-blocks_from}
use Rattle.device_course.specs.States.{IsAt}
use Rattle.device_session.specs.Open.{needed_by}
use Rattle.device_course.specs.Held.{trim_all}
use Rattle.nbd_lang.specs.declared.requests.RequestKind.TheVariants.{Trim}
use Rattle.session_calls.proofs.AlongLaws.{along_start, along_then, pages_still}
use Rattle.nbd_lang.specs.declared.replies.Outcome.TheVariants.{Done}
use Rattle.nbd_core.proofs.ArrayLaws.{trim_halted, trim_step, trimmed_some}
use Rattle.nbd_core.proofs.MeetLaws.{trim_stops}
use Rattle.nbd_core.proofs.DamageLaws.{stop_after}
use Rattle.nbd_core.proofs.KeptLaws.{trimmed_all, trimmed_first, trimmed_start, trimmed_then}
use Rattle.nbd_core.proofs.TurnLaws.{trims_lead}
use Rattle.nbd_core.proofs.BlameLaws.{blame_done, blame_platform, blame_then, platform_halts, stop_comes}
use Rattle.session_calls.proofs.CallLaws.{along_more, draws_none, no_draw, platform_quiet}
use Rattle.nbd_core.specs.Meets.{MayMeet}
use Rattle.nbd_core.proofs.trimming.trim.Goals as goal

pub loop-block-init : goal.loop-block-init
loop-block-init g c = record {
  along = λ drawn. along_more g.P.Platform 0 _ 0 _ _ _ drawn drawn _ _ (omega arith) (omega arith) (along_start g.P.Platform _ drawn _ c.requires.open);
  trims = λ told device array at.
      let first : ℕ = c.covered-blocks.result.start in
      let none : first - first ≡ 0 = omega arith in
      subst (λ (n : ℕ). IsAt (g.P.Platform.history c.args.platform.now).present (Some c.args.session.now) (mounted device (trim_all array (blocks_from first n)))) (sym none) at;
  taken = λ told mounted. trimmed_start _ _ c.covered-blocks.result.start _ (omega arith);
  counted = λ told mounted. omega arith;
  head = refl;
  quiet = refl;
  few = omega arith;
}

pub loop-block-preserved : goal.loop-block-preserved
loop-block-preserved g c =
    let so_far = c.loop-block.invariant in
    let first : ℕ = c.covered-blocks.result.start in
    let block : ℕ = c.loop-block.block in
    let from : first ≤ block = c.loop-block.auto.block in
    let count : (block - first) + 1 ≡ (block + 1) - first = omega (arith, from) in
    record {
      along = λ drawn.
          along_more g.P.Platform (block - first + 1) _ _ _ _ _ drawn drawn _ _ (omega (arith, from)) (omega (arith, from, (so_far.along drawn).is_open.level))
          (along_then g.P.Platform (block - first) 1 _ _ _ _ _ drawn drawn drawn _ _ _ (so_far.along drawn) (c.in-Ok.ensures.goes drawn).along);
      trims = λ told device array at. trim_step _ _ device array first block from (c.in-Ok.ensures.leads told device _ (so_far.trims told device array at));
      taken = λ told mounted.
          let covered = covered_is c.args.request.now.offset c.args.request.now.length block ((c.covered-blocks.ensures.covered block).1 (omega arith, omega arith)) in
          let along = so_far.along no_draw in
          trimmed_then _ _ _ _ _ _ first (block - first) block ((block + 1) - first) along.blocks (omega (arith, from)) (sym count) (omega (arith, covered.1, c.requires.within)) (so_far.taken told mounted) (c.in-Ok.ensures.taken told (along.mounted told mounted));
      counted = λ told mounted.
          let along = so_far.along no_draw in
          elim (c.in-Ok.ensures.taken told (along.mounted told mounted)).counts [
            | inl same ↦ omega (arith, from, same.1, so_far.counted told mounted)
            | inr less ↦ omega (arith, from, less.1, so_far.counted told mounted)
          ];
      head = c.in-Ok.ensures.head ∙ so_far.head;
      quiet = platform_quiet _ _ (c.in-Ok.ensures.goes no_draw).quiet ∙ so_far.quiet;
      few = omega (arith, from, c.loop-block-test.true);
    }

pub trim_block-requires-clause-open : goal.trim_block-requires-clause-open
trim_block-requires-clause-open g c = (c.loop-block.invariant.along no_draw).is_open

pub trim_block-requires-clause-within : goal.trim_block-requires-clause-within
trim_block-requires-clause-within g c =
    let covered = covered_is c.args.request.now.offset c.args.request.now.length c.loop-block.block ((c.covered-blocks.ensures.covered c.loop-block.block).1 (omega arith, omega arith)) in
    omega (arith, covered.1, c.requires.within, (c.loop-block.invariant.along no_draw).blocks)

pub returns-in-Err-clause-along : goal.returns-in-Err-clause-along
returns-in-Err-clause-along g c drawn =
    let blocks = c.covered-blocks.result in
    let n : ℕ = c.loop-block.block - blocks.start in
    let few : n + 1 ≤ length (covered_blocks c.args.request.now.offset c.args.request.now.length) =
    omega (arith, ap length c.covered-blocks.ensures.blocks, length-blocks_from blocks.start (blocks.end - blocks.start), c.loop-block-test.true, c.loop-block.auto.block) in
    along_more g.P.Platform (n + 1) (length (covered_blocks c.args.request.now.offset c.args.request.now.length)) _ _ _ _ drawn drawn _ _ few (omega (arith, few, (c.loop-block.invariant.along drawn).is_open.level))
    (along_then g.P.Platform n 1 _ _ _ _ _ drawn drawn drawn _ _ _ (c.loop-block.invariant.along drawn) (c.in-Err.ensures.goes drawn).along)

pub returns-in-Err-clause-blame : goal.returns-in-Err-clause-blame
returns-in-Err-clause-blame g c rest =
    let goes = c.in-Err.ensures.goes (draws_none rest.tape) in
    blame_then _ _ _ _ (ap (λ (n : ℕ). record rest { platform = n }) c.loop-block.invariant.quiet) (blame_platform rest _ _ c.in-Err.stop _ goes.along.fell.platform goes.stops goes.cause c.after_stop.ensures)

pub returns-in-Err-clause-halts : goal.returns-in-Err-clause-halts
returns-in-Err-clause-halts g c =
    let goes = c.in-Err.ensures.goes no_draw in
    platform_halts _ _ c.in-Err.stop _ goes.stops goes.cause c.after_stop.ensures

pub returns-in-Err-clause-leads : goal.returns-in-Err-clause-leads
returns-in-Err-clause-leads g c =
    let goes = c.in-Err.ensures.goes no_draw in
    let so_far = c.loop-block.invariant in
    trims_lead g.P.Platform _ _ _ _ _ _ (c.in-Err.ensures.head ∙ so_far.head)
    (λ told there array at.
    trim_halted _ _ there array _ c.covered-blocks.result.start c.covered-blocks.result.end c.loop-block.block (needed_by c.args.session.now) (needed_by c.trim_block.new.session) c.in-Err.stop _ c.after_stop.ensures (sym c.covered-blocks.ensures.blocks) c.loop-block.auto.block c.loop-block-test.true
    (omega (arith, goes.needs_still, (so_far.along no_draw).needs)) (c.in-Err.ensures.leads told there _ (so_far.trims told there array at)))

pub after_stop-requires : goal.after_stop-requires
after_stop-requires g c = (c.in-Err.ensures.goes no_draw).stops

pub returns-clause-along : goal.returns-clause-along
returns-clause-along g c drawn =
    let blocks = c.covered-blocks.result in
    let few : c.loop-block.block - blocks.start ≤ length (covered_blocks c.args.request.now.offset c.args.request.now.length) =
    omega (arith, ap length c.covered-blocks.ensures.blocks, length-blocks_from blocks.start (blocks.end - blocks.start), c.loop-block.invariant.few) in
    along_more g.P.Platform (c.loop-block.block - blocks.start) (length (covered_blocks c.args.request.now.offset c.args.request.now.length)) _ _ _ _ drawn drawn _ _ few (omega (arith, few)) (c.loop-block.invariant.along drawn)

pub returns-clause-blame : goal.returns-clause-blame
returns-clause-blame g c rest = blame_done _ _ _ (ap (λ (n : ℕ). record rest { platform = n }) c.loop-block.invariant.quiet)

pub returns-clause-leads : goal.returns-clause-leads
returns-clause-leads g c =
    let so_far = c.loop-block.invariant in
    let past = c.loop-block-test.false in
    trims_lead g.P.Platform _ _ _ c.loop-block.session (covered_blocks c.args.request.now.offset c.args.request.now.length) (Ok Done) so_far.head
    (λ told there array at.
    trimmed_some _ _ there array _ c.covered-blocks.result.start c.covered-blocks.result.end (c.loop-block.block - c.covered-blocks.result.start) _ _ Done (sym c.covered-blocks.ensures.blocks) so_far.few
    (so_far.along no_draw).needs (inl refl) (λ done. omega (arith, past, so_far.few)) (so_far.trims told there array at))

pub returns-in-Err-clause-damage : goal.returns-in-Err-clause-damage
returns-in-Err-clause-damage g c told mounted =
    let P = g.P.Platform in
    let so_far = c.loop-block.invariant in
    let first : ℕ = c.covered-blocks.result.start in
    let block : ℕ = c.loop-block.block in
    let from : first ≤ block = c.loop-block.auto.block in
    let goes = c.in-Err.ensures.goes no_draw in
    let counts = g.met.P.Platform.counts_pages told in
    let same = pages_still (P.history c.loop-block.platform) (P.history c.trim_block.new.platform) _ _ (goes.along.cell told).extends (counts c.loop-block.platform) (counts c.trim_block.new.platform) c.in-Err.ensures.head in
    let some =
    trimmed_first (P.history c.args.platform.now).present (P.history c.loop-block.platform).present (P.history c.trim_block.new.platform).present c.args.session.now c.loop-block.session c.trim_block.new.session first (block - first) c.covered-blocks.result.end _
    (sym c.covered-blocks.ensures.blocks) (omega (arith, from, c.loop-block-test.true)) same (so_far.taken told mounted) (so_far.counted told mounted)
    (record { blocks = goes.along.blocks; mapped = goes.mapped_still; needs = omega (arith, goes.needs_still) }) in
    stop_after (MayMeet Trim c.loop-block.session (P.history c.trim_block.new.platform).present c.args.request.now.offset c.args.request.now.length) _ _ _ _ c.in-Err.stop _ (λ has. (c.loop-block.session, some, tt)) (λ has addr met. (c.loop-block.session, some, (addr, met)))
    (trim_stops _ (P.history c.loop-block.platform).present (P.history c.trim_block.new.platform).present c.loop-block.session block (Err c.in-Err.stop) c.in-Err.ensures.any (told, (so_far.along no_draw).mounted told mounted)) c.after_stop.ensures

pub returns-clause-damage : goal.returns-clause-damage
returns-clause-damage g c told mounted =
    let so_far = c.loop-block.invariant in
    let past = c.loop-block-test.false in
    trimmed_all _ _ _ _ c.covered-blocks.result.start (c.loop-block.block - c.covered-blocks.result.start) c.covered-blocks.result.end _ (sym c.covered-blocks.ensures.blocks) (omega (arith, past, so_far.few)) (so_far.taken told mounted)

pub returns-in-Err-clause-comes : goal.returns-in-Err-clause-comes
returns-in-Err-clause-comes g c = stop_comes Trim c.in-Err.stop _ tt c.after_stop.ensures

pub returns-in-Err-clause-head : goal.returns-in-Err-clause-head
returns-in-Err-clause-head g c = c.in-Err.ensures.head ∙ c.loop-block.invariant.head

pub returns-clause-head : goal.returns-clause-head
returns-clause-head g c = c.loop-block.invariant.head
