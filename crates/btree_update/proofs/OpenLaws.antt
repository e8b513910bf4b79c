-- How the way to a block is opened.
use Rattle.std.proofs.Common.{◌≡◌, ℕ, zero, suc, ◌-◌, ◌/◌, ◌<◌, ◌≤◌, List, [], ◌∷◌, ◌++◌, length, take, drop, get_or, refl, sym, ap, subst, ◌∙◌, arith, length-append, vec_capacity, Some}
use Rattle.std.specs.List.{AllByRecursion}
use Rattle.std.proofs.lemmas.List.{same_from_push}
use Rattle.std.proofs.lemmas.Option.{none-some}
use Rattle.btree_twigs.specs.declared.twigs.Child.{Child, Child-F, out-Child}
use Rattle.btree_twigs.specs.declared.twigs.Child.TheOpen.{Kept, Grown}
use Rattle.btree_twigs.specs.declared.twigs.Twig.{Twig, roll-Twig}
use Rattle.std.specs.declared.vec.Vec.{Vec}
use Rattle.std.specs.declared.alloc.Global.{Global}
use Rattle.btree_twigs.proofs.Nodes.{twig_of, children_of_roll}
use Rattle.btree_twigs.specs.Stubs.{Stub, Tiles, start_by, stubs_in, datum_in, low_in, addr_in, low_of, stubs, stubs_below, nodes, nodes_in, nodes_below}
use Rattle.btree_twigs.specs.Shape.{EachBy, IsChildBy, IsChild, IsTwig}
use Rattle.btree_twigs.specs.Updates.{IsNode, IsOpen, stubs_under}
use Rattle.btree_twigs.proofs.ListLaws.{stubs_append, each_front, each_back, tiles_by, tiles_le, split_here, at_end, node_with}
use Rattle.btree_twigs.proofs.Children.{tiles_child}
use Rattle.btree_update.specs.Held.{Bound, bound, AreBelow, HasLeast, OnWay, HeldIn, HeldFor, AnyRead, IsOpened, IsTakenUp, IsAtHand, IsOpenedBelow}
use Rattle.btree_update.specs.Opens.{Opens, Within}

-- places before the block or behind it are no hindrance
open_before : (low high block : ℕ) (ss : List Stub) → Tiles low high ss → high ≤ block → IsOpen block ss
open_before low high block [] h le = tt
open_before low high block (s ∷ ss) h le =
    let t = tiles_le s.high high ss h.2 in
    ((λ from to. absurd (omega (arith, to, t, le))), open_before s.high high block ss h.2 le)

open_after : (low high block : ℕ) (ss : List Stub) → Tiles low high ss → block < low → IsOpen block ss
open_after low high block [] h lt = tt
open_after low high block (s ∷ ss) h lt =
    ((λ from to. absurd (omega (arith, from, lt, h.0))), open_after s.high high block ss h.2 (omega (arith, h.0, h.1, lt)))

open_append : (block : ℕ) (xs ys : List Stub) → IsOpen block xs → IsOpen block ys → IsOpen block (xs ++ ys)
open_append block [] ys h k = k
open_append block (x ∷ xs) ys h k = (h.0, open_append block xs ys h.1 k)

one_tiles : (order level : ℕ) (high : ℕ) (c : Child) → low_of c < high → IsChild order level high c → Tiles (low_of c) high (stubs level high c)
one_tiles order level high c = tiles_child order level high c

pub below_front : (most : Bound) (xs ys : List Stub) → AreBelow most (xs ++ ys) → AreBelow most xs
below_front most [] ys h = tt
below_front most (x ∷ xs) ys h = (h.0, below_front most xs ys h.1)

pub below_back : (most : Bound) (xs ys : List Stub) → AreBelow most (xs ++ ys) → AreBelow most ys
below_back most [] ys h = h
below_back most (x ∷ xs) ys h = below_back most xs ys h.1

pub below_append : (most : Bound) (xs ys : List Stub) → AreBelow most xs → AreBelow most ys → AreBelow most (xs ++ ys)
below_append most [] ys h k = k
below_append most (x ∷ xs) ys h k = (h.0, below_append most xs ys h.1 k)

-- what is below an address is below a higher one
pub lower : (less most : Bound) (ss : List Stub) → less.head ≤ most.head → less.size ≡ most.size → AreBelow less ss → AreBelow most ss
lower less most [] le same h = tt
lower less most (s ∷ ss) le same h = ((omega (arith, h.0.0, le), h.0.1 ∙ same), lower less most ss le same h.1)

-- nothing is on the way
pub open_first : (order level least low high block : ℕ) (cs : List Child) → IsNode order level least order low high cs → block < start_by low_of cs high → IsOpen block (stubs_under level high cs)
open_first order level least low high block cs h lt = open_after (start_by low_of cs high) high block _ (tiles_by low_of (IsChild order level) (stubs level) (one_tiles order level) high cs h.each) lt

module _ (order level least low high block : ℕ) (fs : List Child) (c : Child) (bs : List Child) (h : IsNode order level least order low high (fs ++ c ∷ bs)) where
  pub child_is : IsChild order level (start_by low_of bs high) c
  child_is = (each_back low_of (IsChild order level) high fs (c ∷ bs) h.each).1

  -- the child's way is open, and so is the node's
  pub opened : (d : Child) → low_of c ≤ block → block < start_by low_of bs high → IsOpened order level block (start_by low_of bs high) c d →
      IsNode order level least order low high (fs ++ d ∷ bs) × IsOpen block (stubs_under level high (fs ++ d ∷ bs))
  opened d from to o =
      let back = each_back low_of (IsChild order level) high fs (c ∷ bs) h.each in
      let front = each_front low_of (IsChild order level) high fs (c ∷ bs) h.each in
      let front' = subst (λ m. EachBy low_of (IsChild order level) m fs) (sym o.low_is) front in (
        node_with low_of (IsChild order level) level least order low high fs c d bs h o.low_is o.shaped,
        subst (IsOpen block) (sym (stubs_append low_of (stubs level) high fs (d ∷ bs)))
            (open_append block _ _ (open_before (start_by low_of fs (low_of d)) (low_of d) block _ (tiles_by low_of (IsChild order level) (stubs level) (one_tiles order level) (low_of d) fs front') (omega (arith, from, o.low_is)))
            (open_append block _ _ o.is_open (open_after (start_by low_of bs high) high block _ (tiles_by low_of (IsChild order level) (stubs level) (one_tiles order level) high bs back.2) to))),
      )

  -- what is opened below the child is opened below the node
  pub still_opens : (pages : List (List ℕ)) (d : Child) (places : List Stub) → low_of d ≡ low_of c → Opens pages order places (stubs level (start_by low_of bs high) c) (stubs level (start_by low_of bs high) d) →
      Opens pages order places (stubs_under level high (fs ++ c ∷ bs)) (stubs_under level high (fs ++ d ∷ bs))
  still_opens pages d places low_is o =
      let all = Within (stubs_under level (low_of c) fs) (stubs_under level high bs) o in
      subst (λ ss. Opens pages order places ss (stubs_under level high (fs ++ d ∷ bs))) (sym (stubs_append low_of (stubs level) high fs (c ∷ bs)))
      (subst (Opens pages order places (stubs_under level (low_of c) fs ++ (stubs level (start_by low_of bs high) c ++ stubs_under level high bs)))
      (ap (λ m. stubs_under level m fs ++ (stubs level (start_by low_of bs high) d ++ stubs_under level high bs)) (sym low_is) ∙ sym (stubs_append low_of (stubs level) high fs (d ∷ bs))) all)

  -- where the child's places have lower addresses, so have the node's
  pub still_below : (most : Bound) (d : Child) → low_of d ≡ low_of c → (AreBelow most (stubs level (start_by low_of bs high) c) → AreBelow most (stubs level (start_by low_of bs high) d)) →
      AreBelow most (stubs_under level high (fs ++ c ∷ bs)) → AreBelow most (stubs_under level high (fs ++ d ∷ bs))
  still_below most d low_is one h' =
      let all = subst (AreBelow most) (stubs_append low_of (stubs level) high fs (c ∷ bs)) h' in
      let front = below_front most (stubs_under level (low_of c) fs) _ all in
      let rest = below_back most (stubs_under level (low_of c) fs) _ all in
      let here = one (below_front most (stubs level (start_by low_of bs high) c) _ rest) in
      let back = below_back most (stubs level (start_by low_of bs high) c) _ rest in
      subst (AreBelow most) (ap (λ m. stubs_under level m fs ++ (stubs level (start_by low_of bs high) d ++ stubs_under level high bs)) (sym low_is) ∙ sym (stubs_append low_of (stubs level) high fs (d ∷ bs)))
      (below_append most (stubs_under level (low_of c) fs) _ front (below_append most (stubs level (start_by low_of bs high) d) (stubs_under level high bs) here back))

-- the child at the place on the way
pub record IsOnWay (order block level high : ℕ) (cs : List Child) (n : ℕ) (c : Child) : Type 0 where
  pub at : ℕ
  pub at_is : suc at ≡ n
  pub within : at < length cs
  pub here : c ≡ get_or cs at c
  pub split : cs ≡ take at cs ++ c ∷ drop (suc at) cs
  pub from : low_of c ≤ block
  pub to : block < start_by low_of (drop (suc at) cs) high

pub on_way : (order block level high n : ℕ) (cs ds : List Child) (c : Child) → ds ≡ cs → (n ≡ 0 → ⊥) → n ≤ length ds → AllByRecursion (λ d. low_of d ≤ block) (take n ds) →
    ((high : ℕ) → block < high → block < start_by low_of (drop n ds) high) → block < high → c ≡ get_or cs (n - 1) c → IsOnWay order block level high cs n c
on_way order block level high n cs ds c same some within before after to here =
    let within' = subst (λ xs. n ≤ length xs) same within in
    let at_is : suc (n - 1) ≡ n = omega (arith, some) in
    let lt : n - 1 < length cs = omega (arith, some, within') in
    record {
      at = n - 1;
      at_is = at_is;
      within = lt;
      here = here;
      split = split_here cs (n - 1) c lt here;
      from = at_end (λ d. low_of d ≤ block) cs (n - 1) n c at_is lt here (subst (λ xs. AllByRecursion (λ d. low_of d ≤ block) (take n xs)) same before);
      to = subst (λ m. block < start_by low_of (drop m cs) high) (sym at_is) (subst (λ xs. block < start_by low_of (drop n xs) high) same (after high to));
    }

-- a place that takes what is held for it
pub at_hand_by : (Reads : ℕ → Stub → Twig → Type 0) (order least block l high : ℕ) (Rest : ℕ → Child → List Twig → Type 0) (x : Child-F Child Twig) (held : List Twig) → HeldIn Reads order least block Rest l high x held → IsAtHand x held
at_hand_by Reads order least block l high Rest (Kept low addr key) held h = omega (arith, ap length h.is, length-append h.rest (h.twig ∷ []))
at_hand_by Reads order least block l high Rest (Grown low twig) held h = tt

pub at_hand : (order block l high : ℕ) (c : Child) (held : List Twig) → HeldFor AnyRead order block (suc l) high c held → IsAtHand (out-Child c) held
unfolding HeldFor
at_hand order block l high c held h = at_hand_by AnyRead order (order / 2) block l high (HeldFor AnyRead order block l) (out-Child c) held h

abbrev grown_of : ℕ → Twig → Child-F Child Twig
grown_of low twig = Grown low twig

-- what is known of the node that a child is then
pub record IsUp (Reads : ℕ → Stub → Twig → Type 0) (order least block l high : ℕ) (Rest : ℕ → Child → List Twig → Type 0) (x : Child-F Child Twig) (low : ℕ) (twig : Twig) (held : List Twig) : Type 0 where
  pub low_is : low ≡ low_in x
  pub shaped : IsTwig order l least order low high twig
  pub few : nodes_below l twig ≤ nodes_in (nodes l) x
  pub on_way : OnWay block (λ high c. Rest high c held) high twig

pub up_by : (Reads : ℕ → Stub → Twig → Type 0) (order least block l high : ℕ) (Rest : ℕ → Child → List Twig → Type 0) (x : Child-F Child Twig) (new : Child) (held rest : List Twig) (low : ℕ) (twig : Twig) →
    HasLeast order least l high x → HeldIn Reads order least block Rest l high x held → IsTakenUp x new held rest → out-Child new ≡ Grown low twig → IsUp Reads order least block l high Rest x low twig rest
up_by Reads order least block l high Rest (Kept low' addr key) new held rest low twig c h t is =
    let same = same_from_push h.rest rest h.twig t.0 (sym h.is ∙ t.1) in
    let grown : grown_of low' t.0 ≡ grown_of low twig = sym t.2 ∙ is in
    let lows : low' ≡ low = cc in
    let twigs : t.0 ≡ twig = cc in
    record {
      low_is = sym lows;
      shaped = subst (λ m. IsTwig order l least order m high twig) lows (subst (IsTwig order l least order low' high) (same.1 ∙ twigs) h.shaped);
      few = omega (arith, subst (λ w. nodes_below l w ≡ 0) (same.1 ∙ twigs) h.bare);
      on_way = subst (λ r. OnWay block (λ high c. Rest high c r) high twig) same.0 (subst (OnWay block (λ high c. Rest high c h.rest) high) (same.1 ∙ twigs) h.on_way);
    }
up_by Reads order least block l high Rest (Grown low' twig') new held rest low twig c h t is =
    let grown : grown_of low' twig' ≡ grown_of low twig = sym t.0 ∙ is in
    let lows : low' ≡ low = cc in
    let twigs : twig' ≡ twig = cc in
    record {
      low_is = sym lows;
      shaped = subst (λ m. IsTwig order l least order m high twig) lows (subst (IsTwig order l least order low' high) twigs c);
      few = omega (arith, ap (nodes_below l) twigs);
      on_way = subst (λ r. OnWay block (λ high c. Rest high c r) high twig) (sym t.1) (subst (OnWay block (λ high c. Rest high c held) high) twigs h);
    }

has_least_by : (order l high : ℕ) (x : Child-F Child Twig) → IsChildBy (IsChild order l) order l high x → HasLeast order (order / 2) l high x
has_least_by order l high (Kept low addr key) h = tt
has_least_by order l high (Grown low twig) h = h

-- a child has as many children as it should
pub has_least : (order l high : ℕ) (c : Child) → IsChild order (suc l) high c → HasLeast order (order / 2) l high (out-Child c)
unfolding IsChild
has_least order l high c h = has_least_by order l high (out-Child c) h

pub up : (Reads : ℕ → Stub → Twig → Type 0) (order block l high : ℕ) (c new : Child) (held rest : List Twig) (low : ℕ) (twig : Twig) →
    IsChild order (suc l) high c → HeldFor Reads order block (suc l) high c held → IsTakenUp (out-Child c) new held rest → out-Child new ≡ Grown low twig →
    IsUp Reads order (order / 2) block l high (HeldFor Reads order block l) (out-Child c) low twig rest
unfolding HeldFor
up Reads order block l high c new held rest low twig h k t is = up_by Reads order (order / 2) block l high (HeldFor Reads order block l) (out-Child c) new held rest low twig (has_least order l high c h) k t is

pub up_below_by : (order least block l high : ℕ) (most : Bound) (Rest : ℕ → Child → List Twig → Type 0) (x : Child-F Child Twig) (new : Child) (held rest : List Twig) (low : ℕ) (twig : Twig) →
    HeldIn AnyRead order least block Rest l high x held → IsTakenUp x new held rest → out-Child new ≡ Grown low twig → AreBelow most (stubs_in (stubs l) (suc l) high x) → AreBelow most (stubs_below l high twig)
up_below_by order least block l high most Rest (Kept low' addr key) new held rest low twig h t is below =
    let same = same_from_push h.rest rest h.twig t.0 (sym h.is ∙ t.1) in
    let grown : grown_of low' t.0 ≡ grown_of low twig = sym t.2 ∙ is in
    let twigs : t.0 ≡ twig = cc in
    subst (λ w. AreBelow most (stubs_below l high w)) (same.1 ∙ twigs) (lower (bound addr (length key)) most _ (omega (arith, below.0.0)) below.0.1 h.lower)
up_below_by order least block l high most Rest (Grown low' twig') new held rest low twig h t is below =
    let grown : grown_of low' twig' ≡ grown_of low twig = sym t.0 ∙ is in
    let twigs : twig' ≡ twig = cc in
    subst (λ w. AreBelow most (stubs_below l high w)) twigs below

pub up_below : (order block l high : ℕ) (most : Bound) (c new : Child) (held rest : List Twig) (low : ℕ) (twig : Twig) →
    HeldFor AnyRead order block (suc l) high c held → IsTakenUp (out-Child c) new held rest → out-Child new ≡ Grown low twig → AreBelow most (stubs (suc l) high c) → AreBelow most (stubs_below l high twig)
unfolding HeldFor stubs
up_below order block l high most c new held rest low twig h t is below = up_below_by order (order / 2) block l high most (HeldFor AnyRead order block l) (out-Child c) new held rest low twig h t is below

pub nodes_is : (l : ℕ) (c : Child) → nodes (suc l) c ≡ nodes_in (nodes l) (out-Child c)
unfolding nodes
nodes_is l c = refl

datum_open : (block : ℕ) (x : Child-F Child Twig) → IsOpen block (datum_in x)
datum_open block (Kept low addr key) = ((λ from to. refl), tt)
datum_open block (Grown low twig) = tt

-- a data record is no hindrance
pub data_open : (order level high block : ℕ) (c : Child) → level ≡ 0 → IsChild order level high c → IsOpen block (stubs level high c)
unfolding stubs
data_open order zero high block c is h = datum_open block (out-Child c)
data_open order (suc level) high block c is h = absurd (omega (arith, is))

pub twig_opened : (order level least low high block lev : ℕ) (t : Twig) (new : Vec Child Global) → lev ≡ suc level → order < vec_capacity new → IsNode order level least order low high new.items →
    IsOpen block (stubs_under level high new.items) → IsOpenedBelow order level least low high block t (roll-Twig (record { level = lev; children = new }))
twig_opened order level least low high block lev t new is room h o = record {
  shaped = twig_of order level least order low high (record { level = lev; children = new }) (record { level_is = is; room = room; node = h });
  is_open = subst (λ xs. IsOpen block (stubs_under level high xs)) (sym (children_of_roll (record { level = lev; children = new }))) o;
}

-- a child on the medium that took a node
pub taken_up : (x : Child-F Child Twig) (new : Child) (old rest : List Twig) (low addr : ℕ) → addr_in x ≡ Some addr → low ≡ low_in x → (twig : Twig) × (old ≡ rest ++ twig ∷ []) × (out-Child new ≡ Grown low twig) → IsTakenUp x new old rest
taken_up (Kept low' addr' key) new old rest low addr some is t = (t.0, t.1, subst (λ (l : ℕ). out-Child new ≡ Grown l t.0) is t.2)
taken_up (Grown low' twig) new old rest low addr some is t = absurd (none-some addr some)
