-- Nodes in memory: how they are cut.
use Rattle.std.proofs.Common.{◌≡◌, ℕ, zero, suc, ◌+◌, ◌/◌, ◌<◌, ◌≤◌, List, [], ◌∷◌, ◌++◌, length, take, drop, get_or, vec_capacity, refl, sym, ap, subst, ◌∙◌, arith, length-append}
use Rattle.std.proofs.lemmas.List.{take-append-drop, length-take-le}
use Rattle.btree_twigs.specs.declared.twigs.Child.{Child}
use Rattle.btree_twigs.specs.declared.twigs.Child.TheVariants as made
use Rattle.btree_twigs.specs.declared.twigs.Twig.{Twig, Twig-F, roll-Twig, out-roll-Twig}
use Rattle.btree_twigs.specs.Stubs.{start_by, stubs_in, low_in, low_of, children_of, stubs, stubs_below}
use Rattle.btree_twigs.specs.Shape.{EachBy, Begins, IsTwigBy, IsChildBy, IsChild, IsTwig}
use Rattle.std.specs.declared.vec.Vec.{Vec}
use Rattle.std.specs.declared.alloc.Global.{Global}
use Rattle.btree_twigs.specs.Updates.{IsNode, IsSplit, stubs_under}
use Rattle.btree_twigs.proofs.ListLaws.{start_append, stubs_append, each_front, each_back, start_least}
use Rattle.btree_twigs.proofs.Children.{begins_le}

pub begins_same : (level low : ℕ) → Begins level low low
begins_same zero low = omega arith
begins_same (suc level) low = refl

pub start_lt : (order level high : ℕ) (cs : List Child) → 0 < length cs → EachBy low_of (IsChild order level) high cs → start_by low_of cs high < high
start_lt order level high [] lt h = absurd (omega (arith, lt))
start_lt order level high (c ∷ cs) lt h = start_least low_of (IsChild order level) high c cs h

-- two lists of children for one, enough in each
pub record AreCut (order level low high : ℕ) (xs ys : List Child) : Type 0 where
  pub above : low < start_by low_of ys high
  pub below : start_by low_of ys high < high
  pub left : IsNode order level (order / 2) order low (start_by low_of ys high) xs
  pub right : IsNode order level (order / 2) order (start_by low_of ys high) high ys

pub cut : (order level least most low high : ℕ) (xs ys : List Child) → IsNode order level least most low high (xs ++ ys) →
    0 < length xs → 0 < length ys → order / 2 ≤ length xs → length xs ≤ order → order / 2 ≤ length ys → length ys ≤ order →
    AreCut order level low high xs ys
cut order level least most low high xs ys h one one' enough within enough' within' =
    let front = each_front low_of (IsChild order level) high xs ys h.each in
    let back = each_back low_of (IsChild order level) high xs ys h.each in
    let mid = start_by low_of ys high in
    let begins = subst (Begins level low) (start_append low_of xs ys high) h.begins in
    let lt = start_lt order level mid xs one front in
    record {
      above = omega (arith, begins_le level low _ begins, lt);
      below = start_lt order level high ys one' back;
      left = record { enough = enough; within = within; begins = begins; each = front };
      right = record { enough = enough'; within = within'; begins = begins_same level mid; each = back };
    }

pub stubs_cut : (level high : ℕ) (xs ys : List Child) → stubs_under level high (xs ++ ys) ≡ stubs_under level (start_by low_of ys high) xs ++ stubs_under level high ys
stubs_cut level high xs ys = stubs_append low_of (stubs level) high xs ys

-- a node that was put together, and a child that is one
pub twig_of : (order level least most low high : ℕ) (t : Twig-F Child Twig) → IsTwigBy (IsChild order level) order level least most low high t →
    IsTwig order level least most low high (roll-Twig t)
twig_of order level least most low high t h = subst (IsTwigBy (IsChild order level) order level least most low high) (sym (out-roll-Twig t)) h

pub children_of_roll : (t : Twig-F Child Twig) → children_of (roll-Twig t) ≡ t.children.items
children_of_roll t = ap (λ (x : Twig-F Child Twig). x.children.items) (out-roll-Twig t)

pub low_of_grown : (low : ℕ) (twig : Twig) → low_of (made.Grown low twig) ≡ low
low_of_grown low twig = ap low_in (made.outs-Grown low twig)

pub stubs_of_grown : (level high low : ℕ) (twig : Twig) → stubs (suc level) high (made.Grown low twig) ≡ stubs_below level high twig
unfolding stubs
stubs_of_grown level high low twig = ap (stubs_in (stubs level) (suc level) high) (made.outs-Grown low twig)

pub grown_is_child : (order level low high : ℕ) (twig : Twig) → IsTwig order level (order / 2) order low high twig → IsChild order (suc level) high (made.Grown low twig)
unfolding IsChild
grown_is_child order level low high twig h = subst (IsChildBy (IsChild order level) order level high) (sym (made.outs-Grown low twig)) h

pub start_first : (ys : List Child) (c : Child) (high : ℕ) → 0 < length ys → c ≡ get_or ys 0 c → start_by low_of ys high ≡ low_of c
start_first [] c high lt e = absurd (omega (arith, lt))
start_first (y ∷ ys) c high lt e = ap low_of (sym e)

pub split_made : (order level low high lev lo : ℕ) (old : Twig) (from to : Vec Child Global) (c : Child) →
    IsTwig order level (order / 2) (order + 1) low high old → length (children_of old) ≡ order + 1 → 4 ≤ order → lev ≡ suc level →
    from.items ≡ take (order / 2) (children_of old) → to.items ≡ drop (order / 2) (children_of old) →
    order < vec_capacity from → order < vec_capacity to → c ≡ get_or to.items 0 c → lo ≡ low_of c →
    IsSplit order level low high old (roll-Twig (record { level = lev; children = from })) (made.Grown lo (roll-Twig (record { level = lev; children = to })))
split_made order level low high lev lo old from to c h long four is front back room room' first low_is =
    let cs = children_of old in
    let right : Twig-F Child Twig = record { level = lev; children = to } in
    let left : Twig-F Child Twig = record { level = lev; children = from } in
    let part = made.Grown lo (roll-Twig right) in
    let all : cs ≡ from.items ++ to.items = sym (take-append-drop (order / 2) cs) ∙ rw (front, back) refl in
    let n : length from.items ≡ order / 2 = ap length front ∙ length-take-le (order / 2) cs (omega arith) in
    let m : length from.items + length to.items ≡ order + 1 = sym (length-append from.items to.items) ∙ ap length (sym all) ∙ long in
    let parts = cut order level (order / 2) (order + 1) low high from.items to.items (subst (IsNode order level (order / 2) (order + 1) low high) all h.node)
    (omega arith) (omega arith) (omega arith) (omega arith) (omega arith) (omega arith) in
    let mid : start_by low_of to.items high ≡ low_of part = start_first to.items c high (omega arith) first ∙ sym low_is ∙ sym (low_of_grown lo (roll-Twig right)) in
    let left_is = twig_of order level (order / 2) order low (start_by low_of to.items high) left (record { level_is = is; room = room; node = parts.left }) in
    let right_is = twig_of order level (order / 2) order (start_by low_of to.items high) high right (record { level_is = is; room = room'; node = parts.right }) in
    let on_left : stubs_under level (start_by low_of to.items high) from.items ≡ stubs_below level (low_of part) (roll-Twig left)
    = ap (λ m. stubs_under level m from.items) mid ∙ ap (stubs_under level (low_of part)) (sym (children_of_roll left)) in
    let on_right : stubs_under level high to.items ≡ stubs (suc level) high part
    = ap (stubs_under level high) (sym (children_of_roll right)) ∙ sym (stubs_of_grown level high lo (roll-Twig right)) in
    record {
      above = omega (arith, parts.above, mid);
      below = omega (arith, parts.below, mid);
      left = subst (λ m. IsTwig order level (order / 2) order low m (roll-Twig left)) mid left_is;
      right = grown_is_child order level lo high (roll-Twig right) (subst (λ m. IsTwig order level (order / 2) order m high (roll-Twig right)) (mid ∙ low_of_grown lo (roll-Twig right)) right_is);
      same = ap (stubs_under level high) all ∙ stubs_cut level high from.items to.items
          ∙ ap (λ xs. xs ++ stubs_under level high to.items) on_left ∙ ap (λ ys. stubs_below level (low_of part) (roll-Twig left) ++ ys) on_right;
    }
