-- What is held beside the way.
use Rattle.std.proofs.Common.{◌≡◌, ℕ, zero, suc, ◌+◌, ◌-◌, ◌/◌, ◌<◌, ◌≤◌, List, [], ◌∷◌, ◌++◌, Option, None, Some, Bool, true, false, length, map, take, drop, inl, inr, Result, Ok, Err, IfOk, refl, sym, ap, subst, ◌∙◌, arith, length-append, append_assoc}
use Rattle.std.specs.Prelude.{Contains}
use Rattle.std.proofs.lemmas.List.{length-take-le, map-append}
use Rattle.std.proofs.lemmas.List.Elements.{Contains-append_right}
use Rattle.std.specs.Bool.{OnTrue, OnFalse}
use Rattle.page_store.specs.declared.wants.Want.{Want}
use Rattle.btree_twigs.specs.declared.twigs.Child.{Child, out-Child}
use Rattle.btree_twigs.specs.declared.twigs.Child.TheVariants as made
use Rattle.btree_twigs.specs.declared.twigs.Twig.{Twig}
use Rattle.btree_twigs.specs.Stubs.{Stub, start_by, low_of, children_of, stubs}
use Rattle.btree_twigs.specs.Levels.{lows_of}
use Rattle.btree_twigs.specs.Shape.{EachBy, IsChild, IsTwig}
use Rattle.btree_twigs.proofs.Children.{low_of_kept}
use Rattle.btree_update.specs.Held.{stub_at, bound, AreBelow}
use Rattle.btree_update.specs.Holding.{IsNodeFor}
use Rattle.btree_update.specs.declared.siblings.Left.{Left}
use Rattle.btree_update.specs.declared.siblings.Left.TheVariants.{Unmapped, Enough, Short}
use Rattle.btree_update.specs.Beside.{LeftOf, IsNodeAt, loses_for, Spares, LendsFrom, HasHelp, IsNodeHeld, HelpsOnWay, HasRecord, HelpsBelow, HelpsFrom, IsLeft, IsAfter, HoldsHelp, HoldsBeside, CanRead}
use Rattle.btree_update.proofs.OpenLaws.{IsOnWay}
use Rattle.btree_update.proofs.HoldLaws.{same_way, bare_of, read_lower, node_is_twig, kept_below}

pub IfOk_all : {T E : Type 0} (P : T → Type 0) (r : Result T E) → ((x : T) → P x) → IfOk r P
IfOk_all P (Ok x) all = all x
IfOk_all P (Err e) all = tt

pub IfOk_both : {T E : Type 0} (P Q R : T → Type 0) (r : Result T E) → ((x : T) → P x → Q x → R x) → IfOk r P → IfOk r Q → IfOk r R
IfOk_both P Q R (Ok x) both p q = both x p q
IfOk_both P Q R (Err e) both p q = tt

abbrev pub want_beside : ℕ → ℕ → ℕ → ℕ → ℕ → Want
want_beside order level low high addr = record { addr = addr; level = level; low = low; high = high; least = order / 2; most = order }

pub spares_of : (order width : ℕ) (lends : Bool) → OnTrue lends (order / 2 < width) → OnFalse lends (width ≤ order / 2) → Spares order (loses_for lends) width
spares_of order width true t f = inl (t, refl)
spares_of order width false t f = inr (f, refl)

-- a neighbour on the medium whose node was read
module _ (order level high head low addr : ℕ) (key : List ℕ) (at : CanRead order level high head (made.Kept low addr key)) where
  level_is : level ≡ suc (level - 1)
  level_is = omega (arith, at.level_is)

  pub beside_lt : addr < head
  beside_lt = kept_below (bound head at.size) at.below high low addr key (subst (λ k. AreBelow (bound head at.size) (stubs k high (made.Kept low addr key))) at.level_is at.within)

  pub node_at : (Reads : ℕ → Stub → Twig → Type 0) (twig : Twig) → IsNodeFor (want_beside order level low high addr) key twig → Reads (level - 1) (stub_at (suc (level - 1)) low high addr key) twig → IsNodeAt Reads order (level - 1) low high addr key twig
  node_at Reads twig h r =
      let n = subst (λ k. IsNodeFor (want_beside order k low high addr) key twig) level_is h in
      record {
        reads = r;
        shaped = node_is_twig order (level - 1) (order / 2) low high addr key twig at.most (λ _. omega (arith, at.four)) (omega (arith, at.starts, low_of_kept low addr key)) n;
        bare = bare_of (level - 1) (want_beside order level low high addr) key twig h;
        lower = read_lower (level - 1) high (want_beside order level low high addr) key twig h;
      }

  pub lends_kept : (Reads : ℕ → Stub → Twig → Type 0) (twig : Twig) (loses : ℕ) → IsNodeAt Reads order (level - 1) low high addr key twig → Spares order loses (length (children_of twig)) →
      LendsFrom Reads order (level - 1) loses high (out-Child (made.Kept low addr key)) (Some twig)
  lends_kept Reads twig loses n s = subst (λ x. LendsFrom Reads order (level - 1) loses high x (Some twig)) (sym (made.outs-Kept low addr key)) (n, s)

pub lends_grown : (Reads : ℕ → Stub → Twig → Type 0) (order below loses high low : ℕ) (twig : Twig) → Spares order loses (length (children_of twig)) →
    LendsFrom Reads order below loses high (out-Child (made.Grown low twig)) None
lends_grown Reads order below loses high low twig s = subst (λ x. LendsFrom Reads order below loses high x None) (sym (made.outs-Grown low twig)) s

pub loses_few : (lends : Bool) → loses_for lends ≤ 1
loses_few true = omega arith
loses_few false = omega arith

pub after_for : (order width : ℕ) (lends : Bool) (after : Left) → OnTrue lends (IsAfter order width 0 after) → OnFalse lends (IsAfter order width 1 after) → IsAfter order width (loses_for lends) after
after_for order width true after t f = t
after_for order width false after t f = f

-- a list is split at one place in one way
pub same_split : {X : Type 0} (fs gs xs ys : List X) → length fs ≡ length gs → fs ++ xs ≡ gs ++ ys → (fs ≡ gs) × (xs ≡ ys)
same_split [] [] xs ys l e = (refl, e)
same_split [] (g ∷ gs) xs ys l e = absurd (omega (arith, l))
same_split (f ∷ fs) [] xs ys l e = absurd (omega (arith, l))
same_split (f ∷ fs) (g ∷ gs) xs ys l e =
    let first : f ≡ g = cc in
    let rest : fs ++ xs ≡ gs ++ ys = cc in
    let r = same_split fs gs xs ys (omega (arith, l)) rest in
    (rw (first, r.0) refl, r.1)

-- the neighbour of the child before a place
module _ (Reads : ℕ → Stub → Twig → Type 0) (order below loses high i : ℕ) (cs : List Child) (d : Child) (split : cs ≡ take i cs ++ d ∷ drop (suc i) cs) (lt : i < length cs) (one : Option Twig)
    (h : LendsFrom Reads order below loses (start_by low_of (drop (suc i) cs) high) (out-Child d) one) where
  before_is : length (take i cs) ≡ i
  before_is = length-take-le i cs (omega (arith, lt))

  pub helped_at : (at : ℕ) (front : List Child) (c : Child) (back : List Child) → cs ≡ front ++ c ∷ back → length front + 1 ≡ at → (at < length cs → i ≡ at) → (at ≡ length cs → i + 2 ≡ at) → HasHelp Reads order below loses high front c back one
  helped_at at front c (next ∷ back) is n at_next at_last =
      let i_is = at_next (omega (arith, n, ap length is, length-append front (c ∷ next ∷ back))) in
      let same = same_split (front ++ c ∷ []) (take i cs) (next ∷ back) (d ∷ drop (suc i) cs) (omega (arith, before_is, length-append front (c ∷ []), i_is, n)) (append_assoc front (c ∷ []) (next ∷ back) ∙ sym is ∙ split) in
      let first : d ≡ next = cc in
      let rest : drop (suc i) cs ≡ back = cc in
      subst (λ bs. LendsFrom Reads order below loses (start_by low_of bs high) (out-Child next) one) rest (subst (λ x. LendsFrom Reads order below loses (start_by low_of (drop (suc i) cs) high) (out-Child x) one) first h)
  helped_at at front c [] is n at_next at_last = λ others last front_is.
      (let i_is = at_last (omega (arith, n, ap length is, length-append front (c ∷ []))) in
      let all : others ++ (last ∷ c ∷ []) ≡ take i cs ++ d ∷ drop (suc i) cs = sym (append_assoc others (last ∷ []) (c ∷ [])) ∙ ap (λ xs. xs ++ c ∷ []) (sym front_is) ∙ sym is ∙ split in
      let same = same_split others (take i cs) (last ∷ c ∷ []) (d ∷ drop (suc i) cs) (omega (arith, before_is, ap length front_is, length-append others (last ∷ []), i_is, n)) all in
      let first : d ≡ last = cc in
      let rest : drop (suc i) cs ≡ c ∷ [] = cc in
      subst (λ bs. LendsFrom Reads order below loses (start_by low_of bs high) (out-Child last) one) rest (subst (λ x. LendsFrom Reads order below loses (start_by low_of (drop (suc i) cs) high) (out-Child x) one) first h))

-- what holds for the child on the way, and beside it, holds for the node
module _ (Reads : ℕ → Stub → Twig → Type 0) (order block l least low high n : ℕ) (twig : Twig) (c : Child) (shaped : IsTwig order (suc l) least order low high twig) (w : IsOnWay order block (suc l) high (children_of twig) n c) (held : List Twig) (new : List (Option Twig)) where
  on_way_is : (loses : ℕ) → HelpsOnWay Reads order l high (take w.at (children_of twig)) c (drop (suc w.at) (children_of twig)) (HelpsBelow Reads order block l) held new loses → HelpsBelow Reads order block (suc l) high twig held new loses
  unfolding HelpsBelow
  on_way_is loses h = λ front back d split from to.
      (let cs = children_of twig in
      let each = subst (EachBy low_of (IsChild order (suc l)) high) w.split shaped.node.each in
      let same = same_way order (suc l) high block (take w.at cs) front c d (drop (suc w.at) cs) back each (sym w.split ∙ split) w.from w.to from to in
      let ends : c ∷ drop (suc w.at) cs ≡ d ∷ back = rw (same.0, same.1) refl in
      let fronts = same_split (take w.at cs) front (c ∷ drop (suc w.at) cs) (d ∷ back)
      (omega (arith, ap length (sym w.split ∙ split), length-append (take w.at cs) (c ∷ drop (suc w.at) cs), length-append front (d ∷ back), ap length ends)) (sym w.split ∙ split) in
      subst (λ fs. HelpsOnWay Reads order l high fs d back (HelpsBelow Reads order block l) held new loses) fronts.0
      (subst (λ bs. HelpsOnWay Reads order l high (take w.at cs) d bs (HelpsBelow Reads order block l) held new loses) same.1
      (subst (λ x. HelpsOnWay Reads order l high (take w.at cs) x (drop (suc w.at) cs) (HelpsBelow Reads order block l) held new loses) same.0 h)))

  module _ (old : List (Option Twig)) where
    enough_on : (f : LeftOf Reads order block l (start_by low_of (drop (suc w.at) (children_of twig)) high) c held old Enough) → new ≡ old ++ None ∷ [] → HelpsBelow Reads order block (suc l) high twig held new 0
    enough_on f is = on_way_is 0 (record {
      node = f.node;
      left = f.rest;
      is_node = f.is_node;
      helps = record { rest = old; one = None; is = is; fewer = f.left.0; lower = f.left.1; helped = inl (refl, f.left.2, refl) };
    })

    short_on : (f : LeftOf Reads order block l (start_by low_of (drop (suc w.at) (children_of twig)) high) c held old Short) (after : Left) →
        (h : HoldsHelp Reads order l (length (children_of twig)) high (take w.at (children_of twig)) c (drop (suc w.at) (children_of twig)) old new after) → HelpsBelow Reads order block (suc l) high twig held new h.loses
    short_on f after h = on_way_is h.loses (record {
      node = f.node;
      left = f.rest;
      is_node = f.is_node;
      helps = record { rest = old; one = h.one; is = h.is; fewer = f.left.0; lower = f.left.1; helped = inr (f.left.2, h.helped) };
    })

    pub left_beside : (left after : Left) → LeftOf Reads order block l (start_by low_of (drop (suc w.at) (children_of twig)) high) c held old left →
        HoldsBeside Reads order l (length (children_of twig)) high (take w.at (children_of twig)) c (drop (suc w.at) (children_of twig)) old new left after →
        IsLeft (λ loses. HelpsBelow Reads order block (suc l) high twig held new loses) order (length (children_of twig)) after
    left_beside Unmapped after f h = subst (IsLeft (λ loses. HelpsBelow Reads order block (suc l) high twig held new loses) order (length (children_of twig))) (sym h) tt
    left_beside Enough Unmapped f h = absurd h.1
    left_beside Enough Enough f h = (0, enough_on f h.0, h.1)
    left_beside Enough Short f h = (0, enough_on f h.0, h.1)
    left_beside Short Unmapped f h = absurd h.left
    left_beside Short Enough f h = (h.loses, short_on f Enough h, h.left)
    left_beside Short Short f h = (h.loses, short_on f Short h, h.left)

-- a leaf has a block's record where one of its children begins at the block
pub has_record : (block : ℕ) (twig : Twig) (fs : List Child) (c : Child) (bs : List Child) (is_it : Bool) → children_of twig ≡ fs ++ c ∷ bs → (is_it ≡ true → low_of c ≡ block) → OnTrue is_it (HasRecord block twig)
has_record block twig fs c bs true split is =
    let lows : lows_of twig ≡ map low_of fs ++ low_of c ∷ map low_of bs = ap (map low_of) split ∙ map-append low_of fs (c ∷ bs) in
    subst (Contains (lows_of twig)) (is refl)
    (subst (λ ls. Contains ls (low_of c)) (sym lows) (Contains-append_right (map low_of fs) (low_of c ∷ map low_of bs) (low_of c) (0, omega arith, refl)))
has_record block twig fs c bs false split is = tt

-- a leaf loses the block's record
pub left_of_leaf : (Reads : ℕ → Stub → Twig → Type 0) (order block level high : ℕ) (twig : Twig) (held : List Twig) (beside : List (Option Twig)) (after : Left) → level ≡ 0 → HasRecord block twig → IsAfter order (length (children_of twig)) 1 after →
    IsLeft (λ loses. HelpsBelow Reads order block level high twig held beside loses) order (length (children_of twig)) after
unfolding HelpsBelow
left_of_leaf Reads order block zero high twig held beside Unmapped is has h = absurd h
left_of_leaf Reads order block zero high twig held beside Enough is has h = (1, (refl, has), h)
left_of_leaf Reads order block zero high twig held beside Short is has h = (1, (refl, has), h)
left_of_leaf Reads order block (suc level) high twig held beside after is has h = absurd (omega (arith, is))

-- what a removal asks of a node below which nothing is left open
pub loses_of : (Reads : ℕ → Stub → Twig → Type 0) (order block below high : ℕ) (c : Child) (held : List Twig) (beside : List (Option Twig)) (left : Left) → (left ≡ Unmapped → ⊥) → LeftOf Reads order block below high c held beside left →
    (loses : ℕ) × HelpsFrom Reads order block below high c held beside loses
loses_of Reads order block below high c held beside Unmapped mapped f = absurd (mapped refl)
loses_of Reads order block below high c held beside Enough mapped f = (f.left.0, record { node = f.node; left = f.rest; is_node = f.is_node; helps = f.left.1 })
loses_of Reads order block below high c held beside Short mapped f = (f.left.0, record { node = f.node; left = f.rest; is_node = f.is_node; helps = f.left.1 })

pub leaf_left : (Reads : ℕ → Stub → Twig → Type 0) (order block level high : ℕ) (twig : Twig) (held : List Twig) (beside : List (Option Twig)) (mapped : Bool) (after : Left) → level ≡ 0 → OnTrue mapped (HasRecord block twig) →
    OnTrue mapped (IsAfter order (length (children_of twig)) 1 after) → OnFalse mapped (after ≡ Unmapped) → IsLeft (λ loses. HelpsBelow Reads order block level high twig held beside loses) order (length (children_of twig)) after
leaf_left Reads order block level high twig held beside true after is has t f = left_of_leaf Reads order block level high twig held beside after is has t
leaf_left Reads order block level high twig held beside false after is has t f = subst (IsLeft (λ loses. HelpsBelow Reads order block level high twig held beside loses) order (length (children_of twig))) (sym f) tt

-- a child in memory, and one whose node was read
pub left_grown : (Reads : ℕ → Stub → Twig → Type 0) (order block below high low : ℕ) (twig : Twig) (held : List Twig) (beside : List (Option Twig)) (after : Left) →
    IsLeft (λ loses. HelpsBelow Reads order block below high twig held beside loses) order (length (children_of twig)) after → LeftOf Reads order block below high (made.Grown low twig) held beside after
left_grown Reads order block below high low twig held beside after h = record { node = twig; rest = held; is_node = subst (λ x. IsNodeHeld x twig held held) (sym (made.outs-Grown low twig)) (refl, refl); left = h }

pub left_kept : (Reads : ℕ → Stub → Twig → Type 0) (order block below high low addr : ℕ) (key : List ℕ) (twig : Twig) (rest held : List Twig) (beside : List (Option Twig)) (after : Left) → held ≡ rest ++ twig ∷ [] →
    IsLeft (λ loses. HelpsBelow Reads order block below high twig rest beside loses) order (length (children_of twig)) after → LeftOf Reads order block below high (made.Kept low addr key) held beside after
left_kept Reads order block below high low addr key twig rest held beside after is h = record { node = twig; rest = rest; is_node = subst (λ x. IsNodeHeld x twig held rest) (sym (made.outs-Kept low addr key)) is; left = h }

pub left_at : (Reads : ℕ → Stub → Twig → Type 0) (order block level least low high n : ℕ) (twig : Twig) (c : Child) → (one : level ≡ suc (level - 1)) → IsTwig order level least order low high twig → (w : IsOnWay order block level high (children_of twig) n c) →
    (held : List Twig) (old new : List (Option Twig)) (left after : Left) → LeftOf Reads order block (level - 1) (start_by low_of (drop (suc w.at) (children_of twig)) high) c held old left →
    HoldsBeside Reads order (level - 1) (length (children_of twig)) high (take w.at (children_of twig)) c (drop (suc w.at) (children_of twig)) old new left after →
    IsLeft (λ loses. HelpsBelow Reads order block level high twig held new loses) order (length (children_of twig)) after
left_at Reads order block level least low high n twig c one shaped w held old new left after f h =
    let w' : IsOnWay order block (suc (level - 1)) high (children_of twig) n c = record { at = w.at; at_is = w.at_is; within = w.within; here = w.here; split = w.split; from = w.from; to = w.to } in
    subst (λ k. IsLeft (λ loses. HelpsBelow Reads order block k high twig held new loses) order (length (children_of twig)) after) (sym one)
    (left_beside Reads order block (level - 1) least low high n twig c (subst (λ k. IsTwig order k least order low high twig) one shaped) w' held new old left after f h)
