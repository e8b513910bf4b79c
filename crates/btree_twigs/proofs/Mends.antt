-- How neighbours are evened out.
use Rattle.std.proofs.Common.{◌≡◌, ℕ, zero, suc, ◌+◌, ◌/◌, ◌≤◌, List, [], ◌∷◌, ◌++◌, length, get_or, refl, sym, ap, subst, ◌∙◌, arith, append-nil, length-append}
use Rattle.btree_twigs.specs.declared.twigs.Child.{Child}
use Rattle.btree_twigs.specs.declared.twigs.Child.TheVariants as made
use Rattle.btree_twigs.specs.declared.twigs.Twig.{Twig}
use Rattle.btree_twigs.specs.Stubs.{start_by, low_of, children_of, level_of, stubs, nodes, sum_by}
use Rattle.btree_twigs.specs.Shape.{EachBy, Begins, IsChild, IsTwig}
use Rattle.btree_twigs.specs.Updates.{IsNode, IsMended, HasRoom, room_of, rooms, stubs_under}
use Rattle.btree_twigs.proofs.ListLaws.{start_append, each_append}
use Rattle.btree_twigs.proofs.Counts.{sum_append, nodes_grown, rooms_grown}
use Rattle.btree_twigs.proofs.Children.{begins_le, one_datum}
use Rattle.btree_twigs.proofs.Nodes.{cut, start_lt, stubs_cut, start_first, low_of_grown, stubs_of_grown, grown_is_child}

-- in a leaf the last child may end later
pub widen : (order mid high : ℕ) (xs : List Child) → mid ≤ high → EachBy low_of (IsChild order 0) mid xs → EachBy low_of (IsChild order 0) high xs
widen order mid high [] le h = tt
widen order mid high (x ∷ []) le h = (omega (arith, h.0, le), (one_datum order mid x h.1).any order high, tt)
widen order mid high (x ∷ y ∷ ys) le h = (h.0, h.1, widen order mid high (y ∷ ys) le h.2)

pub widen_stubs : (order mid high : ℕ) (xs : List Child) → EachBy low_of (IsChild order 0) mid xs → stubs_under 0 high xs ≡ stubs_under 0 mid xs
widen_stubs order mid high [] h = refl
widen_stubs order mid high (x ∷ xs) h =
    let one = one_datum order (start_by low_of xs mid) x h.1 in
    ap (λ s. s ++ stubs_under 0 high xs) (one.stubs_are (start_by low_of xs high) ∙ sym (one.stubs_are (start_by low_of xs mid)))
    ∙ ap (λ s. stubs 0 (start_by low_of xs mid) x ++ s) (widen_stubs order mid high xs h.2)

-- two neighbours together
pub record AreJoined (order level low mid high : ℕ) (xs ys : List Child) : Type 0 where
  pub begins : Begins level low (start_by low_of (xs ++ ys) high)
  pub each : EachBy low_of (IsChild order level) high (xs ++ ys)
  pub same : stubs_under level high (xs ++ ys) ≡ stubs_under level mid xs ++ stubs_under level high ys

begins_join : (low mid start : ℕ) (xs : List Child) → low ≤ start_by low_of xs mid → mid ≤ start → low ≤ start_by low_of xs start
begins_join low mid start [] h le = omega (arith, h, le)
begins_join low mid start (x ∷ xs) h le = h

pub join : (order level low mid high : ℕ) (xs ys : List Child) → IsNode order level 0 order low mid xs → IsNode order level 0 order mid high ys → AreJoined order level low mid high xs ys
join order zero low mid high xs ys h k = record {
  begins = subst (λ s. low ≤ s) (sym (start_append low_of xs ys high)) (begins_join low mid (start_by low_of ys high) xs h.begins k.begins);
  each = each_append low_of (IsChild order 0) high xs ys (widen order mid (start_by low_of ys high) xs k.begins h.each) k.each;
  same = stubs_cut 0 high xs ys ∙ ap (λ s. s ++ stubs_under 0 high ys) (widen_stubs order mid (start_by low_of ys high) xs h.each);
}
join order (suc level) low mid high xs ys h k = record {
  begins = start_append low_of xs ys high ∙ ap (λ s. start_by low_of xs s) k.begins ∙ h.begins;
  each = each_append low_of (IsChild order (suc level)) high xs ys (subst (λ s. EachBy low_of (IsChild order (suc level)) s xs) (sym k.begins) h.each) k.each;
  same = stubs_cut (suc level) high xs ys ∙ ap (λ s. stubs_under (suc level) s xs ++ stubs_under (suc level) high ys) k.begins;
}

module _ (order level low mid high : ℕ) (left right : Twig) (four : 4 ≤ order) (h : IsTwig order level 0 order low mid left) (k : IsTwig order level 0 order mid high right) where
  olds : stubs_under level mid (children_of left) ++ stubs_under level high (children_of right)
      ≡ stubs (suc level) (low_of (made.Grown mid right)) (made.Grown low left) ++ stubs (suc level) high (made.Grown mid right)
  olds = ap (λ s. s ++ stubs_under level high (children_of right)) (sym (ap (λ m. stubs (suc level) m (made.Grown low left)) (low_of_grown mid right) ∙ stubs_of_grown level mid low left))
      ∙ ap (λ s. stubs (suc level) (low_of (made.Grown mid right)) (made.Grown low left) ++ s) (sym (stubs_of_grown level high mid right))

  -- both in one
  pub merged : (new : Twig) → level_of new ≡ suc level → HasRoom order new → room_of new ≡ room_of left → order / 2 ≤ length (children_of new) → length (children_of new) ≤ order →
      children_of new ≡ children_of left ++ children_of right →
      IsMended order (suc level) high (made.Grown low left) (made.Grown mid right) (made.Grown low new ∷ [])
  merged new is room same_room enough within all =
      let m = made.Grown low new in
      let j = join order level low mid high (children_of left) (children_of right) h.node k.node in
      let begins = subst (λ xs. Begins level low (start_by low_of xs high)) (sym all) j.begins in
      let each = subst (EachBy low_of (IsChild order level) high) (sym all) j.each in
      let shaped : IsTwig order level (order / 2) order low high new = record { level_is = is; room = room; node = record { enough = enough; within = within; begins = begins; each = each } } in
      let lt = start_lt order level high (children_of new) (omega (arith, four, enough)) each in
      let stubs_are : stubs (suc level) high m ≡ stubs (suc level) (low_of (made.Grown mid right)) (made.Grown low left) ++ stubs (suc level) high (made.Grown mid right)
      = stubs_of_grown level high low new ∙ ap (stubs_under level high) all ∙ j.same ∙ olds in
      record {
        begins = low_of_grown low new ∙ sym (low_of_grown low left);
        each = (omega (arith, lt, begins_le level low _ begins, low_of_grown low new), grown_is_child order level low high new shaped, tt);
        same = append-nil (stubs (suc level) high m) ∙ stubs_are;
        none_more = omega (arith, nodes_grown level low new, nodes_grown level low left, nodes_grown level mid right, ap (sum_by (nodes level)) all, sum_append (nodes level) (children_of left) (children_of right));
        no_more_room = omega (arith, same_room, rooms_grown level low new, rooms_grown level low left, rooms_grown level mid right, ap (sum_by (rooms level)) all, sum_append (rooms level) (children_of left) (children_of right));
      }

  -- two, cut elsewhere
  pub recut : (from to : Twig) (c : Child) (lo : ℕ) → level_of from ≡ suc level → level_of to ≡ suc level → HasRoom order from → HasRoom order to → room_of from ≡ room_of left → room_of to ≡ room_of right →
      order / 2 ≤ length (children_of from) → length (children_of from) ≤ order → order / 2 ≤ length (children_of to) → length (children_of to) ≤ order →
      children_of from ++ children_of to ≡ children_of left ++ children_of right → c ≡ get_or (children_of to) 0 c → lo ≡ low_of c →
      IsMended order (suc level) high (made.Grown low left) (made.Grown mid right) (made.Grown low from ∷ made.Grown lo to ∷ [])
  recut from to c lo is is' room room' same_room same_room' enough within enough' within' all first low_is =
      let a = made.Grown low from in
      let b = made.Grown lo to in
      let j = join order level low mid high (children_of left) (children_of right) h.node k.node in
      let whole = subst (IsNode order level 0 (order + order) low high) (sym all) (record {
        enough = omega arith;
        within = omega (arith, length-append (children_of left) (children_of right), h.node.within, k.node.within);
        begins = j.begins;
        each = j.each;
      }) in
      let parts = cut order level 0 (order + order) low high (children_of from) (children_of to) whole (omega (arith, four, enough)) (omega (arith, four, enough')) enough within enough' within' in
      let cut_is : start_by low_of (children_of to) high ≡ low_of b = start_first (children_of to) c high (omega (arith, four, enough')) first ∙ sym low_is ∙ sym (low_of_grown lo to) in
      let left_is : IsTwig order level (order / 2) order low (start_by low_of (children_of to) high) from = record { level_is = is; room = room; node = parts.left } in
      let right_is : IsTwig order level (order / 2) order (start_by low_of (children_of to) high) high to = record { level_is = is'; room = room'; node = parts.right } in
      let a_is = grown_is_child order level low (low_of b) from (subst (λ m. IsTwig order level (order / 2) order low m from) cut_is left_is) in
      let b_is = grown_is_child order level lo high to (subst (λ m. IsTwig order level (order / 2) order m high to) (cut_is ∙ low_of_grown lo to) right_is) in
      let on_left : stubs_under level (start_by low_of (children_of to) high) (children_of from) ≡ stubs (suc level) (low_of b) a
      = ap (λ m. stubs_under level m (children_of from)) cut_is ∙ sym (stubs_of_grown level (low_of b) low from) in
      let on_right : stubs_under level high (children_of to) ≡ stubs (suc level) high b = sym (stubs_of_grown level high lo to) in
      record {
        begins = low_of_grown low from ∙ sym (low_of_grown low left);
        each = (omega (arith, parts.above, cut_is, low_of_grown low from), a_is, (omega (arith, parts.below, cut_is), b_is, tt));
        same = ap (λ s. stubs (suc level) (low_of b) a ++ s) (append-nil (stubs (suc level) high b))
            ∙ ap (λ s. s ++ stubs (suc level) high b) (sym on_left) ∙ ap (λ s. stubs_under level (start_by low_of (children_of to) high) (children_of from) ++ s) (sym on_right)
            ∙ sym (stubs_cut level high (children_of from) (children_of to)) ∙ ap (stubs_under level high) all ∙ j.same ∙ olds;
        none_more = omega (arith, nodes_grown level low from, nodes_grown level lo to, nodes_grown level low left, nodes_grown level mid right, ap (sum_by (nodes level)) all, sum_append (nodes level) (children_of from) (children_of to), sum_append (nodes level) (children_of left) (children_of right));
        no_more_room = omega (arith, same_room, same_room', rooms_grown level low from, rooms_grown level lo to, rooms_grown level low left, rooms_grown level mid right, ap (sum_by (rooms level)) all, sum_append (rooms level) (children_of from) (children_of to), sum_append (rooms level) (children_of left) (children_of right));
      }
