use Rattle.std.proofs.Common.{arith}
use Rattle.volume_table.proofs.GapLaws.{begins_behind, gap_before, walked_more, gap_behind_all}
use Rattle.volume_table.proofs.gaps.least_gap.Goals as goal
use Rattle.volume_table.proofs.gaps.least_gap.Goals.{else-count-blocks-via-then-count-blocks+else-start-blocks, else-count-blocks-via-else-count-blocks}

pub overflow_sub-volume : goal.overflow_sub-volume
overflow_sub-volume c =
    begins_behind c.args.blocks c.args.count c.args.volumes.now c.requires.table c.loop-at.at c.loop-at.start c.loop-at.invariant c.index-volumes-at.result c.index-volumes-at.is c.loop-at-test.true

pub returns-then-count-volume-clause-found : goal.returns-then-count-volume-clause-found
returns-then-count-volume-clause-found c =
    gap_before c.args.blocks c.args.count c.args.volumes.now c.requires.table c.loop-at.at c.loop-at.start c.loop-at.invariant c.index-volumes-at.result c.index-volumes-at.is c.loop-at-test.true
    c.if-count-volume.true c.requires.count

pub loop-at-preserved : goal.loop-at-preserved
loop-at-preserved c =
    walked_more c.args.blocks c.args.count c.args.volumes.now c.requires.table c.loop-at.at c.loop-at.start c.loop-at.invariant c.index-volumes-at.result c.index-volumes-at.is c.loop-at-test.true
    c.if-count-volume.false

pub returns-then-start-blocks-clause-found : goal.returns-then-start-blocks-clause-found
returns-then-start-blocks-clause-found c =
    gap_behind_all c.args.blocks c.args.count c.args.volumes.now c.requires.table c.loop-at.at c.loop-at.start c.loop-at.invariant (omega arith) c.if-count-blocks.true c.if-start-blocks.true

pub returns-else-count-blocks-clause-none : goal.returns-else-count-blocks-clause-none
returns-else-count-blocks-clause-none c start fits =
    let low = c.loop-at.invariant.none start fits in
    elim c.else-count-blocks.branch [
      | else-count-blocks-via-then-count-blocks+else-start-blocks w ↦ omega (arith, low, fits.within)
      | else-count-blocks-via-else-count-blocks w ↦ omega (arith, fits.within)
    ]
