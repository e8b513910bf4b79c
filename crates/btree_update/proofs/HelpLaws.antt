-- What is held beside the way, while the way is opened.
use Rattle.std.proofs.Common.{◌≡◌, ℕ, zero, suc, ◌-◌, List, [], ◌∷◌, ◌++◌, Option, length, map, take, drop, inl, inr, refl, sym, ap, subst, ◌∙◌, arith, length-append}
use Rattle.std.specs.Prelude.{Contains}
use Rattle.std.proofs.lemmas.List.{same_from_push, map-append}
use Rattle.btree_twigs.specs.declared.twigs.Child.{Child, Child-F, out-Child}
use Rattle.btree_twigs.specs.declared.twigs.Child.TheOpen.{Kept, Grown}
use Rattle.btree_twigs.specs.declared.twigs.Child.TheVariants as made
use Rattle.btree_twigs.specs.declared.twigs.Twig.{Twig}
use Rattle.btree_twigs.specs.Stubs.{Stub, start_by, low_of, children_of}
use Rattle.btree_twigs.specs.Levels.{lows_of}
use Rattle.btree_twigs.specs.Shape.{EachBy, IsChild, IsTwig}
use Rattle.btree_update.specs.Held.{IsTakenUp}
use Rattle.btree_update.specs.Beside.{LendsFrom, HasHelp, KeepsOrHasHelp, IsNodeHeld, HelpsOnWay, HelpsBelow, HelpsFrom, HelpsWide}
use Rattle.btree_update.proofs.OpenLaws.{IsOnWay}
use Rattle.btree_update.proofs.HoldLaws.{same_way}
use Rattle.btree_update.proofs.BesideLaws.{same_split}

abbrev grown_of : ℕ → Twig → Child-F Child Twig
grown_of low twig = Grown low twig

-- the node that a child is then
node_up : (x : Child-F Child Twig) (new : Child) (node : Twig) (held left rest : List Twig) (low : ℕ) (twig : Twig) → IsNodeHeld x node held left → IsTakenUp x new held rest → out-Child new ≡ Grown low twig → (node ≡ twig) × (left ≡ rest)
node_up (Kept low' addr key) new node held left rest low twig n t is =
    let same = same_from_push left rest node t.0 (sym n ∙ t.1) in
    let grown : grown_of low' t.0 ≡ grown_of low twig = sym t.2 ∙ is in
    let twigs : t.0 ≡ twig = cc in
    (same.1 ∙ twigs, same.0)
node_up (Grown low' twig') new node held left rest low twig n t is =
    let grown : grown_of low' twig' ≡ grown_of low twig = sym t.0 ∙ is in
    let twigs : twig' ≡ twig = cc in
    (n.0 ∙ twigs, n.1 ∙ sym t.1)

-- it is asked for the same
pub helps_up : (Reads : ℕ → Stub → Twig → Type 0) (order block below high : ℕ) (c new : Child) (held rest : List Twig) (low : ℕ) (twig : Twig) (beside : List (Option Twig)) (loses : ℕ) →
    (h : HelpsFrom Reads order block below high c held beside loses) → IsTakenUp (out-Child c) new held rest → out-Child new ≡ Grown low twig → HelpsBelow Reads order block below high twig rest beside loses × (h.node ≡ twig)
helps_up Reads order block below high c new held rest low twig beside loses h t is =
    let n = node_up (out-Child c) new h.node held h.left rest low twig h.is_node t is in (
      subst (λ r. HelpsBelow Reads order block below high twig r beside loses) n.1 (subst (λ w. HelpsBelow Reads order block below high w h.left beside loses) n.0 h.helps),
      n.0,
    )

abbrev pub from_grown : (Reads : ℕ → Stub → Twig → Type 0) (order block below high low : ℕ) (twig : Twig) (held : List Twig) (beside : List (Option Twig)) (loses : ℕ) → HelpsBelow Reads order block below high twig held beside loses →
    HelpsFrom Reads order block below high (made.Grown low twig) held beside loses
from_grown Reads order block below high low twig held beside loses h = record { node = twig; left = held; is_node = subst (λ x. IsNodeHeld x twig held held) (sym (made.outs-Grown low twig)) (refl, refl); helps = h }

pub wide_grown : (Reads : ℕ → Stub → Twig → Type 0) (order block below high width low : ℕ) (twig : Twig) (held : List Twig) (beside : List (Option Twig)) (loses : ℕ) → HelpsBelow Reads order block below high twig held beside loses →
    length (children_of twig) ≡ width → HelpsWide Reads order block below high width (made.Grown low twig) held beside loses
wide_grown Reads order block below high width low twig held beside loses h is = record { from = from_grown Reads order block below high low twig held beside loses h; wide = is }

-- help is the same for a child that begins where it did
other_help : (Reads : ℕ → Stub → Twig → Type 0) (order below loses high : ℕ) (front : List Child) (c d : Child) (back : List Child) (one : Option Twig) → low_of d ≡ low_of c →
    HasHelp Reads order below loses high front c back one → HasHelp Reads order below loses high front d back one
other_help Reads order below loses high front c d (next ∷ back) one is h = h
other_help Reads order below loses high front c d [] one is h = λ others last split. subst (λ m. LendsFrom Reads order below loses m (out-Child last) one) (sym is) (h others last split)

-- where the child on the way is opened, the node asks for the same
module _ (Reads : ℕ → Stub → Twig → Type 0) (order block l least low high n : ℕ) (twig new : Twig) (c d : Child) (shaped : IsTwig order (suc l) least order low high twig) (w : IsOnWay order block (suc l) high (children_of twig) n c)
    (each : EachBy low_of (IsChild order (suc l)) high (take w.at (children_of twig) ++ d ∷ drop (suc w.at) (children_of twig)))
    (low_is : low_of d ≡ low_of c) (now : children_of new ≡ take w.at (children_of twig) ++ d ∷ drop (suc w.at) (children_of twig)) (held rest : List Twig) (beside : List (Option Twig)) (loses : ℕ) where
  end : ℕ
  end = start_by low_of (drop (suc w.at) (children_of twig)) high

  pub below_opened : ((width : ℕ) (beside : List (Option Twig)) (loses : ℕ) → HelpsWide Reads order block l (start_by low_of (drop (suc w.at) (children_of twig)) high) width c held beside loses →
      HelpsWide Reads order block l (start_by low_of (drop (suc w.at) (children_of twig)) high) width d rest beside loses) →
      HelpsBelow Reads order block (suc l) high twig held beside loses → HelpsBelow Reads order block (suc l) high new rest beside loses
  unfolding HelpsBelow
  below_opened one h = λ front back e split from to.
      (let fs = take w.at (children_of twig) in
      let bs = drop (suc w.at) (children_of twig) in
      let o = h fs bs c w.split w.from w.to in
      let s = o.helps in
      let k = one (length (children_of o.node)) s.rest s.fewer (record { from = record { node = o.node; left = o.left; is_node = o.is_node; helps = s.lower }; wide = refl }) in
      let same = same_way order (suc l) high block fs front d e bs back each (sym now ∙ split) (omega (arith, w.from, low_is)) w.to from to in
      let ends : d ∷ bs ≡ e ∷ back = rw (same.0, same.1) refl in
      let fronts = same_split fs front (d ∷ bs) (e ∷ back) (omega (arith, ap length (sym now ∙ split), length-append fs (d ∷ bs), length-append front (e ∷ back), ap length ends)) (sym now ∙ split) in
      let r : HelpsOnWay Reads order l high fs d bs (HelpsBelow Reads order block l) rest beside loses = record {
        node = k.from.node;
        left = k.from.left;
        is_node = k.from.is_node;
        helps = record { rest = s.rest; one = s.one; is = s.is; fewer = s.fewer; lower = k.from.helps; helped = by s.fewer (length (children_of o.node)) (length (children_of k.from.node)) s.one (sym k.wide) s.helped };
      } in
      subst (λ gs. HelpsOnWay Reads order l high gs e back (HelpsBelow Reads order block l) rest beside loses) fronts.0
      (subst (λ cs. HelpsOnWay Reads order l high fs e cs (HelpsBelow Reads order block l) rest beside loses) same.1
      (subst (λ x. HelpsOnWay Reads order l high fs x bs (HelpsBelow Reads order block l) rest beside loses) same.0 r)))
    where
      by : (fewer width width' : ℕ) (one : Option Twig) → width ≡ width' → KeepsOrHasHelp Reads order l fewer width loses high (take w.at (children_of twig)) c (drop (suc w.at) (children_of twig)) one →
          KeepsOrHasHelp Reads order l fewer width' loses high (take w.at (children_of twig)) d (drop (suc w.at) (children_of twig)) one
      by fewer width width' one is (inl k) = inl (k.0, omega (arith, k.1, is), k.2)
      by fewer width width' one is (inr k) = inr (omega (arith, k.0, is), other_help Reads order l loses high (take w.at (children_of twig)) c d (drop (suc w.at) (children_of twig)) one low_is k.1)

-- the lows are the same where one child stands for another that begins where it did
lows_alike : (twig new : Twig) (fs : List Child) (c d : Child) (bs : List Child) → children_of twig ≡ fs ++ c ∷ bs → children_of new ≡ fs ++ d ∷ bs → low_of d ≡ low_of c → lows_of new ≡ lows_of twig
lows_alike twig new fs c d bs was now same =
    ap (map low_of) now ∙ map-append low_of fs (d ∷ bs) ∙ ap (λ l. map low_of fs ++ l ∷ map low_of bs) same ∙ sym (ap (map low_of) was ∙ map-append low_of fs (c ∷ bs))

-- a node over data records asks for nothing but the block's
pub leaf_asks : (Reads : ℕ → Stub → Twig → Type 0) (order block level high : ℕ) (twig new : Twig) (held rest : List Twig) (beside : List (Option Twig)) (loses : ℕ) → level ≡ 0 → lows_of new ≡ lows_of twig →
    HelpsBelow Reads order block level high twig held beside loses → HelpsBelow Reads order block level high new rest beside loses
unfolding HelpsBelow
leaf_asks Reads order block zero high twig new held rest beside loses is same h = (h.0, subst (λ ls. Contains ls block) (sym same) h.1)
leaf_asks Reads order block (suc level) high twig new held rest beside loses is same h = absurd (omega (arith, is))

pub opened_helps : (Reads : ℕ → Stub → Twig → Type 0) (order block level least low high n : ℕ) (twig new : Twig) (c d : Child) → IsTwig order level least order low high twig → (w : IsOnWay order block level high (children_of twig) n c) →
    EachBy low_of (IsChild order level) high (take w.at (children_of twig) ++ d ∷ drop (suc w.at) (children_of twig)) → low_of d ≡ low_of c → children_of new ≡ take w.at (children_of twig) ++ d ∷ drop (suc w.at) (children_of twig) →
    (held rest : List Twig) (beside : List (Option Twig)) (loses : ℕ) →
    ((width : ℕ) (beside : List (Option Twig)) (loses : ℕ) → HelpsWide Reads order block (level - 1) (start_by low_of (drop (suc w.at) (children_of twig)) high) width c held beside loses →
    HelpsWide Reads order block (level - 1) (start_by low_of (drop (suc w.at) (children_of twig)) high) width d rest beside loses) →
    HelpsBelow Reads order block level high twig held beside loses → HelpsBelow Reads order block level high new rest beside loses
opened_helps Reads order block zero least low high n twig new c d shaped w each low_is now held rest beside loses one h =
    leaf_asks Reads order block 0 high twig new held rest beside loses refl (lows_alike twig new (take w.at (children_of twig)) c d (drop (suc w.at) (children_of twig)) w.split now low_is) h
opened_helps Reads order block (suc l) least low high n twig new c d shaped w each low_is now held rest beside loses one h =
    let e : suc l - 1 ≡ l = omega arith in
    below_opened Reads order block l least low high n twig new c d shaped w each low_is now held rest beside loses
    (λ width beside loses. subst (λ k. HelpsWide Reads order block k (start_by low_of (drop (suc w.at) (children_of twig)) high) width c held beside loses → HelpsWide Reads order block k (start_by low_of (drop (suc w.at) (children_of twig)) high) width d rest beside loses) e (one width beside loses)) h
