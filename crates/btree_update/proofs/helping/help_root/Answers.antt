use Rattle.std.proofs.Common.{◌≡◌, ℕ, zero, suc, ◌≤◌, ◌-◌, List, Option, sym, subst, arith}
use Rattle.btree_twigs.specs.declared.twigs.Child.{Child, out-Child}
use Rattle.btree_twigs.specs.declared.twigs.Child.TheVariants as made
use Rattle.btree_twigs.specs.declared.twigs.Twig.{Twig}
use Rattle.btree_twigs.specs.Stubs.{stubs, stubs_below}
use Rattle.btree_twigs.specs.Shape.{IsTwig}
use Rattle.btree_twigs.specs.Updates.{IsOpen}
use Rattle.btree_twigs.specs.Top.{IsTop, IsTopBy, top_least}
use Rattle.btree_twigs.proofs.Nodes.{stubs_of_grown}
use Rattle.btree_update.specs.Held.{AnyRead}
use Rattle.btree_update.specs.Beside.{IsNodeHeld, HelpsBelow}
use Rattle.btree_update.specs.Helping.{CanHelp, CanHelpRoot, HelpedOut}
use Rattle.btree_update.proofs.HelpingLaws.{root_out}
use Rattle.btree_update.proofs.helping.help_root.Goals as goal

least_two : (level : ℕ) → 1 ≤ level → 2 ≤ top_least level
least_two zero one = absurd (omega (arith, one))
least_two (suc level) one = omega arith

-- below the root
abbrev root_can : (level block low : ℕ) (top : Child) (twig : Twig) (beside : List (Option Twig)) → top ≡ made.Grown low twig → CanHelpRoot level block beside top → CanHelp (level - 1) block beside twig
root_can level block low top twig beside is at =
    let l : level - 1 ≡ at.below = omega (arith, at.level_is) in
    let shape = subst (IsTopBy at.order at.below at.high) (made.outs-Grown low twig) (subst (IsTop at.order at.below at.high) is at.shaped) in
    let opens = subst (IsOpen block) (stubs_of_grown at.below at.high low twig) (subst (λ x. IsOpen block (stubs (suc at.below) at.high x)) is at.is_open) in
    let node = subst (λ y. IsNodeHeld y at.helps.node at.held at.helps.left) (made.outs-Grown low twig) (subst (λ x. IsNodeHeld (out-Child x) at.helps.node at.held at.helps.left) is at.helps.is_node) in
    record {
      order = at.order;
      least = top_least at.below;
      low = 0;
      high = at.high;
      four = at.four;
      two = λ one. least_two at.below (omega (arith, one, l));
      shaped = subst (λ k. IsTwig at.order k (top_least at.below) at.order 0 at.high twig) (sym l) shape.1;
      from = omega arith;
      to = at.to;
      is_open = subst (λ k. IsOpen block (stubs_below k at.high twig)) (sym l) opens;
      held = at.helps.left;
      loses = at.loses;
      helps = subst (λ k. HelpsBelow AnyRead at.order block k at.high twig at.helps.left beside at.loses) (sym l)
          (subst (λ w. HelpsBelow AnyRead at.order block at.below at.high w at.helps.left beside at.loses) node.0 at.helps.helps);
    }

pub help_below-requires : goal.help_below-requires
help_below-requires c = rw (c.in-Grown.is, made.outs-Grown c.in-Grown.low c.in-Grown.twig) (record {
  can = root_can c.args.level c.args.block c.in-Grown.low c.args.top.now c.in-Grown.twig c.args.beside.now.items c.in-Grown.is c.requires.can;
  room = c.requires.room;
})

pub returns-in-Kept-clause-helped : goal.returns-in-Kept-clause-helped
returns-in-Kept-clause-helped c at = absurd (subst (IsTopBy at.order at.below at.high) (made.outs-Kept c.in-Kept.low c.in-Kept.addr c.in-Kept.key) (subst (IsTop at.order at.below at.high) c.in-Kept.is at.shaped))

pub returns-in-Grown-clause-helped : goal.returns-in-Grown-clause-helped
returns-in-Grown-clause-helped c at =
    let e = rw (c.in-Grown.is, made.outs-Grown c.in-Grown.low c.in-Grown.twig) at c.help_below.ensures in
    let l : c.args.level - 1 ≡ at.below = omega (arith, at.level_is) in
    let zero_is = (subst (IsTopBy at.order at.below at.high) (made.outs-Grown c.in-Grown.low c.in-Grown.twig) (subst (IsTop at.order at.below at.high) c.in-Grown.is at.shaped)).0 in
    let h = subst (λ k. HelpedOut at.order k (top_least at.below) 0 at.high c.args.block at.loses c.in-Grown.twig c.help_below.new.twig c.args.beside.now.items c.args.gone.now.items c.help_below.new.gone.items) l
    (e.helped (root_can c.args.level c.args.block c.in-Grown.low c.args.top.now c.in-Grown.twig c.args.beside.now.items c.in-Grown.is at)) in
    rw (c.in-Grown.is, made.outs-Grown c.in-Grown.low c.in-Grown.twig)
    (root_out at.order at.below at.high c.args.block at.loses c.in-Grown.low c.in-Grown.twig c.help_below.new.twig c.args.beside.now.items c.args.gone.now.items c.help_below.new.gone.items zero_is h)
