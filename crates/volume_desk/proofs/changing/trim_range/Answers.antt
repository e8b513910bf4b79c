use Rattle.std.proofs.Common.{Err, ◌≡◌, ◌+◌, ◌*◌, ◌<◌, inl, inr, ℕ, Some, ap, refl, subst, sym, ◌∙◌, arith}
use Rattle.sdbt_base.specs.Arrays.{Session as OpenSession, mounted}
use Rattle.sdbt_base.specs.Counts.{counts}
use Rattle.byte_arrays.specs.Ranges.{blocks_from}
use Rattle.byte_arrays.proofs.RangeLaws.{blocks_from-more}
use Rattle.device_course.specs.States.{IsAt}
use Rattle.device_course.specs.Held.{trim_all}
use Rattle.device_course.proofs.HeldLaws.{trim_all-more}
use Rattle.session_calls.specs.Along.{Along}
use Rattle.session_calls.proofs.AlongLaws.{along_start, along_then}
use Rattle.session_calls.proofs.CallLaws.{along_more, calls_stopped, calls_then, no_draw, platform_quiet}
use Rattle.volume_desk.specs.Done.{HasTrimmed}
use Rattle.volume_desk.proofs.CauseLaws.{names_where, trim_names}
use Rattle.volume_desk.proofs.DeskLaws.{trim_sound}
use Rattle.volume_desk.proofs.DoneLaws.{trimmed_more, trimmed_none}
use Rattle.volume_desk.proofs.ReadLaws.{along_block, calls_block}
use Rattle.volume_desk.proofs.changing.trim_range.Goals as goal

pub loop-i-init : goal.loop-i-init
loop-i-init g c = record {
  along = λ drawn. along_start g.P.Platform _ drawn _ c.requires.open;
  trims = λ told device array at. at;
  head = refl;
  gone = λ told mounted. trimmed_none (g.P.Platform.history c.args.platform.now).present.readable c.args.session.now c.args.volume.now.start;
  quiet = refl;
  fewer = λ told mounted. omega arith;
}

pub loop-i-preserved : goal.loop-i-preserved
loop-i-preserved g c =
    let P = g.P.Platform in
    let so_far = c.loop-i.invariant in
    let first : ℕ = c.args.volume.now.start in
    record {
      along = λ drawn. along_more P (c.loop-i.i + 1) (c.loop-i.i + 1) (40 * c.loop-i.i + 40) (40 * (c.loop-i.i + 1)) _ _ drawn drawn _ _ (omega arith) (omega arith)
          (along_then P c.loop-i.i 1 (40 * c.loop-i.i) 40 _ _ _ drawn drawn drawn _ _ _ (so_far.along drawn) (along_block P 1 _ _ drawn drawn _ _ _ (so_far.along drawn).is_open (c.in-Ok.ensures.goes drawn).along));
      trims = λ told device array at.
          subst (λ (a : OpenSession). IsAt (P.history c.trim_block.new.platform).present (Some c.trim_block.new.session) (mounted device a))
          (sym (ap (trim_all array) (blocks_from-more first c.loop-i.i) ∙ trim_all-more array (blocks_from first c.loop-i.i) (first + c.loop-i.i)))
          (c.in-Ok.ensures.leads told device (trim_all array (blocks_from first c.loop-i.i)) (so_far.trims told device array at));
      head = c.in-Ok.ensures.head ∙ so_far.head;
      gone = λ told mounted.
          trimmed_more (P.history c.args.platform.now).present.readable (P.history c.loop-i.platform).present.readable (P.history c.trim_block.new.platform).present.readable c.args.session.now c.loop-i.session c.trim_block.new.session first c.loop-i.i (so_far.along no_draw).blocks
          (omega (arith, c.requires.inside.within, c.loop-i-test.true)) (so_far.gone told mounted) (c.in-Ok.ensures.taken told ((so_far.along no_draw).mounted told mounted));
      quiet = platform_quiet _ _ (c.in-Ok.ensures.goes no_draw).quiet ∙ so_far.quiet;
      fewer = λ told mounted.
          let few = so_far.fewer told mounted in
          let taken = c.in-Ok.ensures.taken told ((so_far.along no_draw).mounted told mounted) in
          elim taken.counts [ inl still ↦ (let same = still.1 in omega (arith, few, same)) | inr one ↦ (let less = one.1 in omega (arith, few, less)) ];
    }

pub trim_block-requires-clause-open : goal.trim_block-requires-clause-open
trim_block-requires-clause-open g c = (c.loop-i.invariant.along no_draw).is_open

pub trim_block-requires-clause-within : goal.trim_block-requires-clause-within
trim_block-requires-clause-within g c = omega (arith, c.requires.inside.within, c.loop-i-test.true, (c.loop-i.invariant.along no_draw).blocks)

pub returns-in-Err-clause-calls : goal.returns-in-Err-clause-calls
returns-in-Err-clause-calls g c drawn =
    let P = g.P.Platform in
    let so_far = c.loop-i.invariant in
    calls_stopped P (c.loop-i.i + 1) c.args.volume.now.count (40 * c.loop-i.i + 40) (40 * c.args.volume.now.count) _ _ drawn drawn _ _ c.in-Err.stop (omega (arith, c.loop-i-test.true)) (omega (arith, c.loop-i-test.true))
    (calls_then P c.loop-i.i 1 (40 * c.loop-i.i) 40 _ _ _ drawn drawn drawn _ _ _ (Err c.in-Err.stop) (so_far.along drawn) so_far.quiet refl
    (calls_block P 1 _ _ drawn drawn _ _ (Err c.in-Err.stop) _ (so_far.along drawn).is_open (c.in-Err.ensures.goes drawn)))

pub returns-in-Err-clause-head : goal.returns-in-Err-clause-head
returns-in-Err-clause-head g c = c.in-Err.ensures.head ∙ c.loop-i.invariant.head

pub returns-in-Err-clause-leads : goal.returns-in-Err-clause-leads
returns-in-Err-clause-leads g c told device array at = trim_sound (g.P.Platform.history c.trim_block.new.platform).present c.trim_block.new.session device (trim_all array (blocks_from c.args.volume.now.start c.loop-i.i)) (c.args.volume.now.start + c.loop-i.i) c.in-Err.stop (c.in-Err.ensures.leads told device _ (c.loop-i.invariant.trims told device array at))

pub returns-in-Err-clause-damage : goal.returns-in-Err-clause-damage
returns-in-Err-clause-damage g c told mounted =
    let few = c.loop-i.invariant.fewer told mounted in
    names_where (c.loop-i.session.mapped ≡ 0) (c.args.session.now.mapped < c.args.volume.now.count) (g.P.Platform.history c.trim_block.new.platform).present c.in-Err.stop (λ none. omega (arith, none, few, c.loop-i-test.true))
    (trim_names _ (g.P.Platform.history c.loop-i.platform).present (g.P.Platform.history c.trim_block.new.platform).present c.loop-i.session (c.args.volume.now.start + c.loop-i.i) c.in-Err.stop c.in-Err.ensures.any (told, (c.loop-i.invariant.along no_draw).mounted told mounted))

pub returns-clause-calls : goal.returns-clause-calls
returns-clause-calls g c drawn =
    let so_far = c.loop-i.invariant in
    let all : c.loop-i.i ≡ c.args.volume.now.count = omega (arith, c.loop-i-test.false, c.loop-i.auto.i-end) in
    record {
      along = subst (λ (n : ℕ). Along g.P.Platform n (40 * n) c.args.platform.now c.loop-i.platform drawn drawn c.args.session.now c.loop-i.session) all (so_far.along drawn);
      stops = tt;
      quiet = ap (λ (n : ℕ). counts n drawn.faults 0 0 0) so_far.quiet;
      cause = tt;
    }

pub returns-clause-leads : goal.returns-clause-leads
returns-clause-leads g c told device array at =
    let all : c.loop-i.i ≡ c.args.volume.now.count = omega (arith, c.loop-i-test.false, c.loop-i.auto.i-end) in
    subst (λ (n : ℕ). IsAt (g.P.Platform.history c.loop-i.platform).present (Some c.loop-i.session) (mounted device (trim_all array (blocks_from c.args.volume.now.start n)))) all
    (c.loop-i.invariant.trims told device array at)

pub returns-clause-head : goal.returns-clause-head
returns-clause-head g c = c.loop-i.invariant.head

pub returns-clause-gone : goal.returns-clause-gone
returns-clause-gone g c told mounted =
    let all : c.loop-i.i ≡ c.args.volume.now.count = omega (arith, c.loop-i-test.false, c.loop-i.auto.i-end) in
    subst (λ (n : ℕ). HasTrimmed (g.P.Platform.history c.args.platform.now).present.readable (g.P.Platform.history c.loop-i.platform).present.readable c.args.session.now c.loop-i.session c.args.volume.now.start n) all (c.loop-i.invariant.gone told mounted)
