use Rattle.std.proofs.Common.{◌+◌, arith}
use Rattle.btree_update.proofs.GroveLaws.{spares_many, spares_still, spares_then}
use Rattle.btree_update.proofs.groves.make_spares.Goals as goal

pub loop-alloc-preserved : goal.loop-alloc-preserved
loop-alloc-preserved c = record {
  each = λ order le h. c.add_spare.ensures.kept order le (c.loop-alloc.invariant.each order le h);
  few = spares_then (c.args.level + 1) _ _ _ c.loop-alloc.invariant.few (c.add_spare.ensures.few (c.args.level + 1) (omega (arith, c.len.ensures, c.loop-alloc-test.true)));
}

pub loop-alloc-init : goal.loop-alloc-init
loop-alloc-init c = record { each = λ order le h. h; few = spares_still (c.args.level + 1) c.args.spares.now.items }

pub returns-in_err-add_spare-clause-few : goal.returns-in_err-add_spare-clause-few
returns-in_err-add_spare-clause-few c = spares_then (c.args.level + 1) _ _ _ c.loop-alloc.invariant.few (c.add_spare.ensures.few (c.args.level + 1) (omega (arith, c.len.ensures, c.loop-alloc-test.true)))

pub returns-in_err-add_spare-clause-kept : goal.returns-in_err-add_spare-clause-kept
returns-in_err-add_spare-clause-kept c = λ order le h. c.add_spare.ensures.kept order le (c.loop-alloc.invariant.each order le h)

pub returns-clause-made : goal.returns-clause-made
returns-clause-made c = λ order le h. spares_many order (c.args.level + 1) _ (omega (arith, c.len.ensures, c.loop-alloc-test.false)) (c.loop-alloc.invariant.each order le h)
