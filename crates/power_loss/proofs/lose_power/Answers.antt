use Rattle.std.proofs.Common.{◌≡◌, ◌∙◌, ℕ, List, subst, arith}
use Rattle.std.specs.Prelude.{slice_index_or}
use Rattle.std.proofs.lemmas.Grind.{common_steps}
use Rattle.std.proofs.lemmas.List.{take_all}
use Rattle.platform.specs.Mem.{image_of_now}
use Rattle.power_loss.specs.Loss.{Tore}
use Rattle.power_loss.proofs.LossLaws.{Tore-none, Tore-more, none_among, IsSameRest-then}
use Rattle.power_loss.proofs.lose_power.Goals as goal

pub loop-addr-init : goal.loop-addr-init
loop-addr-init c = record {
  left = Tore-none (image_of_now c.args.platform.now) (image_of_now c.power_cut.new.self) c.power_cut.ensures.left (λ addr. c.power_cut.ensures.torn.other_pages addr (none_among addr));
  past = c.power_cut.ensures.past.0;
  failures = c.power_cut.ensures.failures;
  calls = c.power_cut.ensures.calls;
  rest = c.power_cut.ensures.rest;
}

pub loop-addr-preserved : goal.loop-addr-preserved
loop-addr-preserved c =
    let addr = slice_index_or c.args.torn.now c.loop-addr.addr-index 0 in
    let at : addr ≡ slice_index_or c.args.torn.now c.loop-addr.addr-index addr = grind (arith, common_steps, c.loop-addr-test.true) in
    record {
      left = Tore-more c.args.torn.now (image_of_now c.args.platform.now) (image_of_now c.loop-addr.platform) (image_of_now c.tear_page.new.platform) c.loop-addr.addr-index addr
          c.loop-addr-test.true at c.loop-addr.invariant.left c.tear_page.ensures.left;
      past = c.tear_page.ensures.past;
      failures = c.tear_page.ensures.failures ∙ c.loop-addr.invariant.failures;
      calls = c.tear_page.ensures.calls ∙ c.loop-addr.invariant.calls;
      rest = IsSameRest-then _ _ _ c.loop-addr.invariant.rest c.tear_page.ensures.rest;
    }

pub returns-clause-left : goal.returns-clause-left
returns-clause-left c =
    subst (λ (done : List ℕ). Tore done (image_of_now c.args.platform.now) (image_of_now c.loop-addr.platform)) (take_all c.loop-addr.addr-index c.args.torn.now c.loop-addr-test.false) c.loop-addr.invariant.left
