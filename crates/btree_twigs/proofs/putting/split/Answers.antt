use Rattle.std.proofs.Common.{◌/◌, arith}
use Rattle.btree_twigs.proofs.Nodes.{split_made}
use Rattle.btree_twigs.specs.declared.twigs.Twig.{out-Twig}
use Rattle.btree_twigs.proofs.Counts.{nodes_cut}
use Rattle.btree_twigs.proofs.LevelLaws.{cut_made}
use Rattle.btree_twigs.proofs.putting.split.Goals as goal

pub move_tail-requires-clause-room : goal.move_tail-requires-clause-room
move_tail-requires-clause-room c =
    let spare = c.take_spare-right.ensures.spare c.args.order 0 c.requires.spare in
    omega (arith, spare.2, c.requires.long)

pub returns-clause-split : goal.returns-clause-split
returns-clause-split c level low high h =
    let spare = c.take_spare-right.ensures.spare c.args.order 0 c.requires.spare in
    split_made c.args.order level low high _ c.low_of-low.result c.args.twig.now c.move_tail.new.from c.move_tail.new.to c.index.result.now h
    c.requires.long c.requires.four h.level_is c.move_tail.ensures.kept c.move_tail.ensures.moved
    (omega (arith, c.move_tail.ensures.capacity.0, h.room)) (omega (arith, c.move_tail.ensures.capacity.1, spare.2)) c.index.ensures c.low_of-low.ensures

pub returns-clause-spares : goal.returns-clause-spares
returns-clause-spares c count h = (c.take_spare-right.ensures.spare c.args.order count h).0

pub returns-clause-nodes : goal.returns-clause-nodes
returns-clause-nodes c level =
    nodes_cut level (out-Twig c.args.twig.now).level c.low_of-low.result (out-Twig c.args.twig.now).level (c.args.order / 2) c.args.twig.now c.move_tail.new.from c.move_tail.new.to c.move_tail.ensures.kept c.move_tail.ensures.moved

pub returns-clause-cut : goal.returns-clause-cut
returns-clause-cut c =
    cut_made c.args.order (out-Twig c.args.twig.now).level c.low_of-low.result c.args.twig.now c.move_tail.new.from c.move_tail.new.to c.index.result.now
    c.requires.long c.requires.four c.move_tail.ensures.kept c.move_tail.ensures.moved c.index.ensures c.low_of-low.ensures
