use Rattle.std.proofs.Common.{◌≡◌, ◌⊎◌, ◌/◌, IsSome, ℕ, suc, ◌<◌, ◌+◌, ◌++◌, [], ◌∷◌, List, Option, get_or, set, sym, ap, subst, ◌∙◌, arith}
use Rattle.std.specs.Option.{option_to_list}
use Rattle.std.specs.List.{insert, remove}
use Rattle.std.proofs.lemmas.Bool.{false≢true}
use Rattle.std.proofs.lemmas.List.{get_or_at, set_at}
use Rattle.btree_twigs.specs.declared.twigs.Child.{Child, out-Child}
use Rattle.btree_twigs.specs.Levels.{IsEvenedBy}
use Rattle.btree_twigs.specs.Updates.{CanMend, IsMended, width_of}
use Rattle.btree_twigs.specs.Removal.{MendsAt}
use Rattle.btree_twigs.proofs.ListLaws.{without_other, other_is, with_behind}
use Rattle.btree_twigs.proofs.taking.mend_at.Goals as goal

module _ (order left : ℕ) (cs rest : List Child) (m : MendsAt order cs left) (right one new : Child) (result : Option Child)
    (value : right ≡ get_or cs (left + 1) right) (items : rest ≡ remove cs (left + 1)) (here : one ≡ get_or rest left one)
    (mended : (at : CanMend order one right) → IsMended order (suc at.level) at.high one right (new ∷ option_to_list result)) where
  rest_is : rest ≡ m.front ++ m.one ∷ m.back
  rest_is = items ∙ ap (λ ys. remove ys (left + 1)) m.is ∙ without_other m.front m.one m.other m.back left m.at

  right_is : m.other ≡ right
  right_is = sym (value ∙ ap (λ ys. get_or ys (left + 1) right) m.is ∙ other_is m.front m.one m.other m.back left m.at right)

  one_is : m.one ≡ one
  one_is = sym (here ∙ ap (λ ys. get_or ys left one) rest_is ∙ get_or_at m.front m.one m.back one left m.at)

  mended_is : IsMended order (suc m.can.level) m.can.high m.one m.other (new ∷ option_to_list result)
  mended_is =
      let can = subst (λ x. CanMend order x right) one_is (subst (λ x. CanMend order m.one x) right_is m.can) in
      subst (λ x. IsMended order (suc m.can.level) m.can.high m.one x (new ∷ option_to_list result)) (sym right_is)
      (subst (λ x. IsMended order (suc m.can.level) m.can.high x right (new ∷ option_to_list result)) (sym one_is) (mended can))

  spare_is : ((order / 2 < width_of m.one) ⊎ (order / 2 < width_of m.other)) → (order / 2 < width_of one) ⊎ (order / 2 < width_of right)
  spare_is s = subst (λ x. (order / 2 < width_of one) ⊎ (order / 2 < width_of x)) right_is (subst (λ x. (order / 2 < width_of x) ⊎ (order / 2 < width_of m.other)) one_is s)

  evened_is : (ns : List Child) → IsEvenedBy order (out-Child one) (out-Child right) ns → IsEvenedBy order (out-Child m.one) (out-Child m.other) ns
  evened_is ns h = subst (λ x. IsEvenedBy order (out-Child m.one) (out-Child x) ns) (sym right_is) (subst (λ x. IsEvenedBy order (out-Child x) (out-Child right) ns) (sym one_is) h)

  set_is : set rest left new ≡ m.front ++ new ∷ m.back
  set_is = ap (λ ys. set ys left new) rest_is ∙ set_at m.front m.one m.back new left m.at

pub returns-in-None-clause-mended : goal.returns-in-None-clause-mended
returns-in-None-clause-mended c m =
    let e = mended_is c.args.order c.args.left c.args.children.now.items c.remove-right.new.self.items m c.remove-right.result c.index_mut.result.now c.mend_pair.new.left c.mend_pair.result
    c.remove-right.ensures.value c.remove-right.ensures.items c.index_mut.ensures.value c.mend_pair.ensures.mended in
    record {
      news = c.mend_pair.new.left ∷ [];
      now = c.cover.ensures.items ∙ set_is c.args.order c.args.left c.args.children.now.items c.remove-right.new.self.items m c.remove-right.result c.index_mut.result.now c.mend_pair.new.left c.mend_pair.result
          c.remove-right.ensures.value c.remove-right.ensures.items c.index_mut.ensures.value c.mend_pair.ensures.mended;
      some = omega arith;
      few = omega arith;
      mended = subst (λ o. IsMended c.args.order (suc m.can.level) m.can.high m.one m.other (c.mend_pair.new.left ∷ option_to_list o)) c.in-None.is e;
      two = λ s. absurd (false≢true (subst IsSome c.in-None.is (c.mend_pair.ensures.lends (spare_is c.args.order c.args.left c.args.children.now.items c.remove-right.new.self.items m c.remove-right.result c.index_mut.result.now c.mend_pair.new.left c.mend_pair.result
          c.remove-right.ensures.value c.remove-right.ensures.items c.index_mut.ensures.value c.mend_pair.ensures.mended s))));
      evened = subst (λ o. IsEvenedBy c.args.order (out-Child m.one) (out-Child m.other) (c.mend_pair.new.left ∷ option_to_list o)) c.in-None.is (evened_is c.args.order c.args.left c.args.children.now.items c.remove-right.new.self.items m c.remove-right.result c.index_mut.result.now c.mend_pair.new.left c.mend_pair.result
          c.remove-right.ensures.value c.remove-right.ensures.items c.index_mut.ensures.value c.mend_pair.ensures.mended _ c.mend_pair.ensures.evened);
    }

pub returns-in-Some-clause-mended : goal.returns-in-Some-clause-mended
returns-in-Some-clause-mended c m =
    let e = mended_is c.args.order c.args.left c.args.children.now.items c.remove-right.new.self.items m c.remove-right.result c.index_mut.result.now c.mend_pair.new.left c.mend_pair.result
    c.remove-right.ensures.value c.remove-right.ensures.items c.index_mut.ensures.value c.mend_pair.ensures.mended in
    record {
      news = c.mend_pair.new.left ∷ c.in-Some.part ∷ [];
      now = c.insert.ensures.items ∙ ap (λ ys. insert ys (c.args.left + 1) c.in-Some.part) (set_is c.args.order c.args.left c.args.children.now.items c.remove-right.new.self.items m c.remove-right.result c.index_mut.result.now c.mend_pair.new.left c.mend_pair.result
          c.remove-right.ensures.value c.remove-right.ensures.items c.index_mut.ensures.value c.mend_pair.ensures.mended) ∙ with_behind m.front c.mend_pair.new.left c.in-Some.part m.back c.args.left m.at;
      some = omega arith;
      few = omega arith;
      mended = subst (λ o. IsMended c.args.order (suc m.can.level) m.can.high m.one m.other (c.mend_pair.new.left ∷ option_to_list o)) c.in-Some.is e;
      two = λ s. omega arith;
      evened = subst (λ o. IsEvenedBy c.args.order (out-Child m.one) (out-Child m.other) (c.mend_pair.new.left ∷ option_to_list o)) c.in-Some.is (evened_is c.args.order c.args.left c.args.children.now.items c.remove-right.new.self.items m c.remove-right.result c.index_mut.result.now c.mend_pair.new.left c.mend_pair.result
          c.remove-right.ensures.value c.remove-right.ensures.items c.index_mut.ensures.value c.mend_pair.ensures.mended _ c.mend_pair.ensures.evened);
    }
