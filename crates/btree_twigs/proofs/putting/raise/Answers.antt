use Rattle.std.proofs.Common.{◌≡◌, ◌+◌, ◌<◌, ◌++◌, [], ◌∷◌, length, vec_capacity, sym, ap, subst, ◌∙◌, arith}
use Rattle.btree_twigs.specs.declared.twigs.Child.{Child}
use Rattle.btree_twigs.specs.declared.twigs.Child.TheVariants as made
use Rattle.btree_twigs.specs.declared.twigs.Twig.{Twig, Twig-F, roll-Twig, out-roll-Twig}
use Rattle.btree_twigs.specs.Top.{child_level}
use Rattle.btree_twigs.specs.Updates.{room_in}
use Rattle.btree_twigs.proofs.Nodes.{children_of_roll}
use Rattle.btree_twigs.proofs.putting.raise.Goals as goal

pub push-requires : goal.push-requires
push-requires c =
    let e = c.take_spare-children.ensures.spare c.requires.can.order 0 c.requires.can.spare in
    let four = c.requires.can.four in
    omega (arith, ap length e.1, e.2, c.take_spare-children.result.ok.0)

pub push-requires-2 : goal.push-requires-2
push-requires-2 c =
    let e = c.take_spare-children.ensures.spare c.requires.can.order 0 c.requires.can.spare in
    let four = c.requires.can.four in
    let items = c.push.ensures.items ∙ ap (λ xs. xs ++ c.replace-old.result ∷ []) e.1 in
    omega (arith, ap length items, e.2, c.push.ensures.capacity, c.push.new.children.ok.0)

pub returns-clause-raised : goal.returns-clause-raised
returns-clause-raised c at order spare =
    let e = c.take_spare-children.ensures.spare order 0 spare in
    let t : Twig-F Child Twig = record { level = c.level_of-level.result + 1; children = c.push-2.new.children } in
    let items = c.push-2.ensures.items ∙ ap (λ xs. xs ++ c.args.part ∷ []) (c.push.ensures.items ∙ ap (λ xs. xs ++ c.replace-old.result ∷ []) e.1) in
    let level : c.level_of-level.result ≡ child_level c.args.top.now = c.level_of-level.ensures ∙ ap child_level c.replace-old.ensures.value in
    record {
      twig = roll-Twig t;
      is = made.outs-Grown 0 (roll-Twig t);
      level_is = ap (λ (x : Twig-F Child Twig). x.level) (out-roll-Twig t) ∙ omega (arith, level, at.level_is);
      room = subst (λ (x : Twig-F Child Twig). order < vec_capacity x.children) (sym (out-roll-Twig t)) (omega (arith, e.2, c.push.ensures.capacity, c.push-2.ensures.capacity));
      children = children_of_roll t ∙ items ∙ ap (λ x. x ∷ c.args.part ∷ []) c.replace-old.ensures.value;
    }

pub returns-clause-spares : goal.returns-clause-spares
returns-clause-spares c order count h = (c.take_spare-children.ensures.spare order count h).0

pub returns-clause-room : goal.returns-clause-room
returns-clause-room c =
    let t : Twig-F Child Twig = record { level = c.level_of-level.result + 1; children = c.push-2.new.children } in
    record {
      last = c.take_spare-children.result;
      all = c.take_spare-children.ensures.last;
      room = c.take_spare-children.ensures.room;
      has = ap room_in (made.outs-Grown 0 (roll-Twig t)) ∙ ap (λ (x : Twig-F Child Twig). vec_capacity x.children) (out-roll-Twig t) ∙ c.push-2.ensures.capacity ∙ c.push.ensures.capacity;
    }
