use Rattle.std.proofs.Common.{◌≡◌, ◌++◌, ◌∷◌, [], false, length, refl, ap, arith, vec_len, ◌-◌}
use Rattle.std.proofs.lemmas.Grind.{common_steps}
use Rattle.std.proofs.lemmas.List.{take_at}
use Rattle.medium_trace.specs.Trace.{Trace, shown_pages}
use Rattle.medium_trace.proofs.Shown.{IsWhole-marked, IsMarked-push, shown_pages-push}
use Rattle.medium_trace.proofs.medium.MediumTrace.push.Goals as goal

pub returns-in_err-push-clause-whole : goal.returns-in_err-push-clause-whole
returns-in_err-push-clause-whole c = IsWhole-marked _ _ _ _ _ (rw c.in_err-push.ensures.items c.self.invariant) refl

pub returns-then-is_err-clause-whole : goal.returns-then-is_err-clause-whole
returns-then-is_err-clause-whole c =
    let pages_are : c.push-2.new.self ≡ c.self.inside.recorded = rw c.if-is_err.ensures.negation at c.push-2.ensures.pushed in
    let place : length c.self.inside.torn.items ≡ vec_len c.push.new.self - 1 = omega (arith, c.self.inside.torn.ok, c.in_ok-push.ensures.len) in
    let marks_are : c.pop.new.self.items ≡ c.self.inside.torn.items = rw (c.pop.ensures.rest, c.in_ok-push.ensures.items) (take_at c.self.inside.torn.items (false ∷ []) _ place) in
    IsWhole-marked _ _ _ _ _ (rw (pages_are, marks_are) c.self.invariant) refl

pub invariant_of-self-else-is_err : goal.invariant_of-self-else-is_err
invariant_of-self-else-is_err c =
    let pages_are : c.push-2.new.self ≡ c.self.inside.recorded ++ c.args.page.now ∷ [] = rw c.if-is_err.ensures.negation at (rw c.whole.ensures at c.push-2.ensures.pushed) in
    rw (c.in_ok-push.ensures.items, pages_are) (IsMarked-push _ _ _ _ _ c.self.invariant (c.requires, λ k d below. grind (arith, common_steps, c.type_inv.page k)))

pub returns-clause-whole : goal.returns-clause-whole
returns-clause-whole c =
    let pages_are : c.push-2.new.self ≡ c.self.inside.recorded ++ c.args.page.now ∷ [] = rw c.if-is_err.ensures.negation at (rw c.whole.ensures at c.push-2.ensures.pushed) in
    IsWhole-marked _ _ _ _ _ (rw (c.in_ok-push.ensures.items, pages_are) (IsMarked-push _ _ _ _ _ c.self.invariant (c.requires, λ k d below. grind (arith, common_steps, c.type_inv.page k)))) refl

pub returns-clause-readable : goal.returns-clause-readable
returns-clause-readable c =
    let inside = c.self.inside in
    let pages_are : c.push-2.new.self ≡ inside.recorded ++ c.args.page.now ∷ [] = rw c.if-is_err.ensures.negation at (rw c.whole.ensures at c.push-2.ensures.pushed) in
    let readable_is : shown_pages inside.unmarked inside.recorded inside.torn.items ≡ c.args.self.now.readable = ap (λ (trace : Trace). trace.readable) c.self.view_is in
    rw (c.in_ok-push.ensures.items, pages_are, shown_pages-push inside.unmarked inside.recorded inside.torn.items c.args.page.now c.self.invariant.as_many, readable_is)
