use Rattle.std.proofs.Common.{map, arith, ap, sym, ◌∙◌}
use Rattle.std.proofs.lemmas.List.{length-map, get_or-map}
use Rattle.std.proofs.lemmas.Option.{get_or_from_slice_get}
use Rattle.sdbt_base.specs.Keys.{bare}
use Rattle.seizure.proofs.WorkLaws.{gains_listed}
use Rattle.seizure.proofs.work.Work.want_all.Goals as goal

pub loop-i-preserved : goal.loop-i-preserved
loop-i-preserved c =
    let keys = c.args.keys.now in let at = c.at.result.now in
    let here = get_or-map bare keys c.loop-i.i at (bare at) (omega (arith, c.len-i-end.ensures)) ∙ ap bare (get_or_from_slice_get keys c.loop-i.i at at c.at.ensures) in
    record {
      known = c.in_ok-want.ensures.known;
      keys = gains_listed c.args.self.now.keys c.loop-i.self.keys c.want.new.self.keys (map bare keys) c.loop-i.i (bare at)
          (omega (arith, c.len-i-end.ensures, length-map keys bare)) (sym here) c.loop-i.invariant.keys c.in_ok-want.ensures.keys;
      opened = c.want.ensures.opened ∙ c.loop-i.invariant.opened;
    }
