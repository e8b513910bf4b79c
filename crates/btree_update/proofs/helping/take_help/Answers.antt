use Rattle.std.proofs.Common.{◌<◌, ◌++◌, [], ◌∷◌, Some, length, sym, ap, subst, ◌∙◌, arith, vec_capacity}
use Rattle.std.specs.Vec.{with_item}
use Rattle.std.proofs.lemmas.List.{same_from_push, set_split}
use Rattle.btree_twigs.specs.declared.twigs.Twig.{Twig, Twig-F, out-Twig, roll-Twig, out-roll-Twig}
use Rattle.btree_twigs.specs.declared.twigs.Child.{Child}
use Rattle.btree_twigs.specs.Stubs.{children_of}
use Rattle.btree_twigs.proofs.ListLaws.{split_here}
use Rattle.btree_twigs.proofs.Nodes.{children_of_roll}
use Rattle.btree_update.specs.Helping.{IsHelpTaken, TakesHelp}
use Rattle.btree_update.proofs.helping.take_help.Goals as goal

pub returns-in-Some-Some-clause-taken : goal.returns-in-Some-Some-clause-taken
returns-in-Some-Some-clause-taken c rest one is =
    let same = same_from_push c.pop.new.self.items rest (Some c.in-Some-Some.node) one (ap (λ o. c.pop.new.self.items ++ o ∷ []) (sym c.in-Some-Some.field-0-is) ∙ sym c.in-Some-Some.ensures.items ∙ is) in
    let cs = children_of c.args.twig.now in
    let i = c.beside_of-other.result in
    let lt : i < length cs = omega (arith, c.beside_of-other.ensures.within, c.len.ensures) in
    let new : Twig-F Child Twig = record { level = (out-Twig c.args.twig.now).level; children = with_item (out-Twig c.args.twig.now).children i c.put_help.new.child } in
    let h : TakesHelp c.args.at c.in-Some-Some.node c.args.twig.now (roll-Twig new) c.args.gone.now.items c.put_help.new.gone.items = record {
      i = i;
      next = λ lt. c.beside_of-other.ensures.next (omega (arith, lt, c.len.ensures));
      last = λ is. c.beside_of-other.ensures.last (omega (arith, is, c.len.ensures));
      within = lt;
      child = c.index_mut.result.now;
      was = split_here cs i c.index_mut.result.now lt c.index_mut.ensures.value;
      other = c.put_help.new.child;
      now = children_of_roll new ∙ set_split cs i c.put_help.new.child lt;
      put = c.put_help.ensures.put;
      level_is = ap (λ t. t.level) (out-roll-Twig new);
      room = ap (λ t. vec_capacity t.children) (out-roll-Twig new);
    } in
    (same.0, subst (λ o. IsHelpTaken c.args.at o c.args.twig.now (roll-Twig new) c.args.gone.now.items c.put_help.new.gone.items) same.1 h)
