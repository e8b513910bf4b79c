use Rattle.std.proofs.Common.{refl, subst, sym}
use Rattle.btree_walk.specs.Ways.{IsWay}
use Rattle.btree_walk.proofs.TurnLaws.{way_at, some_reached}
use Rattle.btree_walk.proofs.turns.way_of.Goals as goal

pub returns : goal.returns
returns c =
    let es = c.args.entries.now in let r = c.reach_of-reach.result in
    record {
      entry = c.index-entries-reach.result;
      bound = c.end_of-bound.result;
      inner = c.requires.level;
      way = subst (IsWay es c.args.want.now.high c.args.block c.index-entries-reach.result) (sym c.end_of-bound.ensures) (way_at es c.args.want.now.high c.args.block r c.index-entries-reach.result c.reach_of-reach.ensures.point c.reach_of-reach.ensures.bound (some_reached es c.args.block r c.reach_of-reach.ensures.point c.requires.first c.requires.some) c.index-entries-reach.is c.requires.below);
      next_is = c.of_child.ensures;
      key_is = refl;
    }
