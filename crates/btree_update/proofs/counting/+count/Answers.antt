use Rattle.std.proofs.Common.{rules, ◌-◌, ap, sym, arith}
use Rattle.btree_twigs.specs.Stubs.{nodes, sum_by}
use Rattle.btree_update.proofs.CountLaws.{sum_more, sum_within, none_in_leaf, none_in_kept, one_in_grown}
use Rattle.btree_update.proofs.counting.+count.Goals as goal

pub count-returns-then-level-eq0 : goal.count-returns-then-level-eq0
count-returns-then-level-eq0 t c = sym (none_in_leaf c.args.level c.args.child.now c.if-level-eq0.true)

pub count-count_all-requires : goal.count-count_all-requires
count-count_all-requires t c =
    let one = one_in_grown c.args.level c.in-Grown.low c.in-Grown.twig c.args.child.now c.if-level-eq0.false c.in-Grown.is in
    let same = ap (sum_by (nodes (c.args.level - 1))) c.deref.ensures.value in
    (search rules, omega (arith, one, same, c.requires))

pub count-overflow_add-result : goal.count-overflow_add-result
count-overflow_add-result t c =
    let one = one_in_grown c.args.level c.in-Grown.low c.in-Grown.twig c.args.child.now c.if-level-eq0.false c.in-Grown.is in
    let same = ap (sum_by (nodes (c.args.level - 1))) c.deref.ensures.value in
    omega (arith, one, same, c.requires, c.count_all.ensures)

pub count-returns-in-Kept : goal.count-returns-in-Kept
count-returns-in-Kept t c = sym (none_in_kept c.args.level c.in-Kept.low c.in-Kept.addr c.in-Kept.key c.args.child.now c.in-Kept.is)

pub count-returns-in-Grown : goal.count-returns-in-Grown
count-returns-in-Grown t c =
    let one = one_in_grown c.args.level c.in-Grown.low c.in-Grown.twig c.args.child.now c.if-level-eq0.false c.in-Grown.is in
    let same = ap (sum_by (nodes (c.args.level - 1))) c.deref.ensures.value in
    omega (arith, one, same, c.count_all.ensures)

pub count_all-count-sum-requires : goal.count_all-count-sum-requires
count_all-count-sum-requires t c =
    (search rules, omega (arith, sum_within (nodes c.args.level) c.args.children.now c.loop-child.child-index c.child-item.result c.loop-child-test.true c.child-item.is, c.requires))

pub count_all-overflow_add-sum : goal.count_all-overflow_add-sum
count_all-overflow_add-sum t c =
    omega (arith, sum_within (nodes c.args.level) c.args.children.now c.loop-child.child-index c.child-item.result c.loop-child-test.true c.child-item.is, c.requires, c.loop-child.invariant, c.count-sum.ensures)

pub count_all-loop-child-preserved : goal.count_all-loop-child-preserved
count_all-loop-child-preserved t c =
    omega (arith, sum_more (nodes c.args.level) c.args.children.now c.loop-child.child-index c.child-item.result c.loop-child-test.true c.child-item.is, c.loop-child.invariant, c.count-sum.ensures)
