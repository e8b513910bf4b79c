use Rattle.std.proofs.Common.{arith, length, inr, refl, ◌++◌, sym, ap, subst, ◌∙◌, append-nil}
use Rattle.std.proofs.lemmas.List.{nil_from_length}
use Rattle.btree_twigs.specs.declared.twigs.Child.{out-Child}
use Rattle.btree_twigs.specs.declared.twigs.Child.TheVariants as made
use Rattle.btree_twigs.specs.Stubs.{low_in, low_of, children_of}
use Rattle.btree_twigs.specs.Shape.{IsTwig}
use Rattle.btree_twigs.specs.Updates.{IsGrown, IsGrownBy, OneShort, width_of}
use Rattle.btree_twigs.proofs.Mends.{merged, recut}
use Rattle.btree_twigs.proofs.Removals.{width_of_grown}
use Rattle.btree_twigs.proofs.SinkLaws.{evened_two}
use Rattle.btree_twigs.proofs.taking.mend_pair.Goals as goal

pub returns-then-not-even_twigs-clause-mended : goal.returns-then-not-even_twigs-clause-mended
returns-then-not-even_twigs-clause-mended c at =
    let at_left = subst (λ x. IsGrown c.args.order at.level 0 (low_of c.args.right) x) c.in-Grown-left.is at.on_left in
    let ta = subst (IsGrownBy c.args.order at.level 0 (low_of c.args.right)) (made.outs-Grown c.in-Grown-left.low c.in-Grown-left.left) at_left in
    let right_out = ap out-Child c.in-Grown.is ∙ made.outs-Grown c.in-Grown.low c.in-Grown.right in
    let ta' = subst (λ m. IsTwig c.args.order at.level 0 c.args.order c.in-Grown-left.low m c.in-Grown-left.left) (ap low_in right_out) ta in
    let tb = subst (IsGrownBy c.args.order at.level 0 at.high) right_out at.on_right in
    let e = rw (c.in-Grown-left.is, made.outs-Grown c.in-Grown-left.low c.in-Grown-left.left) at c.even_twigs.ensures in
    let m = merged c.args.order at.level c.in-Grown-left.low c.in-Grown.low at.high c.in-Grown-left.left c.in-Grown.right c.requires.four ta' tb c.even_twigs.new.left (e.levels.0 ∙ ta.level_is) (omega (arith, e.room.0, ta.room)) e.room.0 c.if-not-even_twigs.ensures.one.1 c.if-not-even_twigs.ensures.one.2
    (sym (ap (λ xs. children_of c.even_twigs.new.left ++ xs) (nil_from_length (children_of c.even_twigs.new.right) c.if-not-even_twigs.ensures.one.0) ∙ append-nil (children_of c.even_twigs.new.left)) ∙ e.all) in
    rw (c.in-Grown-left.is, made.outs-Grown c.in-Grown-left.low c.in-Grown-left.left, c.in-Grown.is) m

pub returns-clause-mended : goal.returns-clause-mended
returns-clause-mended c at =
    let at_left = subst (λ x. IsGrown c.args.order at.level 0 (low_of c.args.right) x) c.in-Grown-left.is at.on_left in
    let ta = subst (IsGrownBy c.args.order at.level 0 (low_of c.args.right)) (made.outs-Grown c.in-Grown-left.low c.in-Grown-left.left) at_left in
    let right_out = ap out-Child c.in-Grown.is ∙ made.outs-Grown c.in-Grown.low c.in-Grown.right in
    let ta' = subst (λ m. IsTwig c.args.order at.level 0 c.args.order c.in-Grown-left.low m c.in-Grown-left.left) (ap low_in right_out) ta in
    let tb = subst (IsGrownBy c.args.order at.level 0 at.high) right_out at.on_right in
    let e = rw (c.in-Grown-left.is, made.outs-Grown c.in-Grown-left.low c.in-Grown-left.left) at c.even_twigs.ensures in
    let two = c.if-not-even_twigs.ensures.two in
    let m = recut c.args.order at.level c.in-Grown-left.low c.in-Grown.low at.high c.in-Grown-left.left c.in-Grown.right c.requires.four ta' tb
    c.even_twigs.new.left c.even_twigs.new.right c.index.result.now c.low_of.result (e.levels.0 ∙ ta.level_is) (e.levels.1 ∙ tb.level_is)
    (omega (arith, e.room.0, ta.room)) (omega (arith, e.room.1, tb.room)) e.room.0 e.room.1 two.0 two.1 two.2 two.3 e.all c.index.ensures c.low_of.ensures in
    rw (c.in-Grown-left.is, made.outs-Grown c.in-Grown-left.low c.in-Grown-left.left, c.in-Grown.is) m

pub returns-then-not-even_twigs-clause-evened : goal.returns-then-not-even_twigs-clause-evened
returns-then-not-even_twigs-clause-evened c =
    let e = rw (c.in-Grown-left.is, made.outs-Grown c.in-Grown-left.low c.in-Grown-left.left) at c.even_twigs.ensures in
    let one = rw (c.in-Grown-left.is, made.outs-Grown c.in-Grown-left.low c.in-Grown-left.left) at c.if-not-even_twigs.ensures.one in
    rw (c.in-Grown-left.is, made.outs-Grown c.in-Grown-left.low c.in-Grown-left.left, c.in-Grown.is, made.outs-Grown c.in-Grown.low c.in-Grown.right) (inr (inr (record {
      all = c.even_twigs.new.left;
      few = one.3;
      none = one.4;
      is = refl;
      list = sym (ap (λ xs. children_of c.even_twigs.new.left ++ xs) (nil_from_length (children_of c.even_twigs.new.right) one.0) ∙ append-nil (children_of c.even_twigs.new.left)) ∙ e.all;
    })))

pub returns-clause-evened : goal.returns-clause-evened
returns-clause-evened c =
    let e = rw (c.in-Grown-left.is, made.outs-Grown c.in-Grown-left.low c.in-Grown-left.left) at c.even_twigs.ensures in
    let two = c.if-not-even_twigs.ensures.two in
    let lent = rw (c.in-Grown-left.is, made.outs-Grown c.in-Grown-left.low c.in-Grown-left.left) at c.if-not-even_twigs.ensures.lent in
    let short = subst (λ n. OneShort c.args.order n (length (children_of c.in-Grown.right))) (ap width_of c.in-Grown-left.is ∙ width_of_grown c.in-Grown-left.low c.in-Grown-left.left)
    (subst (OneShort c.args.order (width_of c.args.left.now)) (ap width_of c.in-Grown.is ∙ width_of_grown c.in-Grown.low c.in-Grown.right) c.requires.can.short) in
    rw (c.in-Grown-left.is, made.outs-Grown c.in-Grown-left.low c.in-Grown-left.left, c.in-Grown.is, made.outs-Grown c.in-Grown.low c.in-Grown.right)
    (evened_two c.args.order c.in-Grown-left.low c.low_of.result (children_of c.in-Grown-left.left) (children_of c.in-Grown.right) c.even_twigs.new.left c.even_twigs.new.right c.index.result.now
    c.requires.four short e.all two.0 two.2 lent.0 lent.1 c.index.ensures c.low_of.ensures)
