use Rattle.std.proofs.Common.{◌<◌, ◌∙◌, ℕ, List, subst, sym}
use Rattle.std.specs.Prelude.{All}
use Rattle.transfer.proofs.ListLaws.{low_more, within_more}
use Rattle.transfer.proofs.listing.lows_of.Goals as goal

pub loop-place-preserved : goal.loop-place-preserved
loop-place-preserved c = record {
  are = c.in-Ok.ensures.items ∙ low_more c.args.list.now c.loop-place.place c.at.result.now c.loop-place.lows.items c.at.ensures c.loop-place.invariant.are;
  within = subst (λ (l : List ℕ). All (λ block. block < c.args.blocks) l) (sym c.in-Ok.ensures.items) (within_more c.loop-place.lows.items c.at.result.now.low c.args.blocks c.if-low-blocks.false c.loop-place.invariant.within);
}
