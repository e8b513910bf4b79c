-- How what is held beside the way comes into the tree.
use Rattle.std.proofs.Common.{◌≡◌, ◌⊎◌, ℕ, zero, suc, ◌+◌, ◌-◌, ◌/◌, ◌<◌, ◌≤◌, List, [], ◌∷◌, ◌++◌, Option, None, Some, Bool, length, take, drop, get_or, set, vec_capacity, inl, inr, refl, sym, ap, subst, ◌∙◌, arith, length-append, append_assoc}
use Rattle.std.proofs.lemmas.List.{same_from_push, length-take-le, get_or_at}
use Rattle.btree_twigs.specs.declared.twigs.Child.{Child, Child-F, out-Child}
use Rattle.btree_twigs.specs.declared.twigs.Child.TheOpen.{Kept, Grown}
use Rattle.btree_twigs.specs.declared.twigs.Child.TheVariants as made
use Rattle.btree_twigs.specs.declared.twigs.Twig.{Twig, out-Twig}
use Rattle.btree_twigs.specs.Stubs.{Stub, start_by, low_in, low_of, level_of, children_of, stubs, stubs_in, stubs_below, nodes, nodes_in, sum_by}
use Rattle.btree_twigs.specs.Shape.{EachBy, IsChildBy, IsChild, IsTwig}
use Rattle.btree_twigs.specs.Updates.{IsNode, IsOpen, stubs_under, width_in, width_of}
use Rattle.btree_twigs.specs.Levels.{row_in, row}
use Rattle.btree_twigs.specs.Removal.{IsHeldIn, below_in, Lends, IsHelped, HelpsOne, Helps}
use Rattle.btree_twigs.proofs.ListLaws.{start_append, stubs_append, each_front, each_le, node_with}
use Rattle.btree_twigs.proofs.Counts.{sum_append, nodes_grown}
use Rattle.btree_twigs.proofs.Nodes.{low_of_grown, stubs_of_grown, grown_is_child}
use Rattle.btree_twigs.specs.Top.{IsTopBy, top_least}
use Rattle.btree_twigs.proofs.Ways.{open_front, open_back, child_is_twig}
use Rattle.btree_update.specs.Held.{Bound, bound, AreBelow, AnyRead}
use Rattle.btree_update.specs.Opens.{GivesWay, GivesChild, GivesBelow}
use Rattle.btree_update.specs.Beside.{IsReadWhere, Spares, LendsFrom, HasHelp, KeepsOrHasHelp, IsNodeHeld, HelpsBeside, HelpsOnWay, HelpsBelow, HelpsFrom}
use Rattle.btree_update.specs.Helping.{IsPutBy, TakesHelp, IsHelpTaken, CanHelp, CanHelpWay, MayHelp, HelpedOut, HelpedWay, HelpedRoot}
use Rattle.btree_update.proofs.ThereLaws.{twig_there}
use Rattle.btree_update.proofs.OpenLaws.{child_is, opened, still_below, lower}
use Rattle.btree_update.proofs.GivesLaws.{TakesUp, kept_takes, below_none, below_then, child_gives, node_gives}
use Rattle.btree_update.proofs.BesideLaws.{same_split}

-- a neighbour that took its node
record IsUp (order l loses end : ℕ) (x : Child-F Child Twig) (new : Child) : Type 0 where
  low_is : low_of new ≡ low_in x
  shaped : IsChildBy (IsChild order l) order l end (out-Child new)
  lends : Lends order loses new
  below : (most : Bound) → AreBelow most (stubs_in (stubs l) (suc l) end x) → AreBelow most (stubs_in (stubs l) (suc l) end (out-Child new))
  few : nodes_in (nodes l) (out-Child new) ≤ nodes_in (nodes l) x + 1

-- it lends, or the node above loses one
lends_by : (order loses width : ℕ) → Spares order loses width → (order / 2 < width) ⊎ (1 ≤ loses)
lends_by order loses width (inl h) = inl h.0
lends_by order loses width (inr h) = inr (omega (arith, h.1))

up : (order l loses end : ℕ) (x : Child-F Child Twig) (new : Child) (node : Twig) (gone more : List ℕ) → LendsFrom AnyRead order l loses end x (Some node) → IsPutBy x new node gone more → IsUp order l loses end x new
up order l loses end (Grown low twig) new node gone more h p = absurd h
up order l loses end (Kept low addr key) new node gone more h p = record {
  low_is = ap low_in p.0;
  shaped = subst (IsChildBy (IsChild order l) order l end) (sym p.0) h.0.shaped;
  lends = subst (λ (y : Child-F Child Twig). IsHeldIn y × ((order / 2 < width_in y) ⊎ (1 ≤ loses))) (sym p.0) (tt, lends_by order loses _ h.1);
  below = λ most b. subst (λ y. AreBelow most (stubs_in (stubs l) (suc l) end y)) (sym p.0) (lower (bound addr (length key)) most _ (omega (arith, b.0.0)) b.0.1 h.0.lower);
  few = omega (arith, ap (nodes_in (nodes l)) p.0, h.0.bare);
}

help_by : (pages : List (List ℕ)) (may : Stub → Bool) (order l loses end : ℕ) (x : Child-F Child Twig) (new : Child) (node : Twig) (gone more : List ℕ) → LendsFrom (IsReadWhere pages may order) order l loses end x (Some node) → IsPutBy x new node gone more →
    (low : ℕ) × (out-Child new ≡ Grown low node) × TakesUp pages order (MayHelp pages order may) l end x low node gone more
help_by pages may order l loses end (Grown low twig) new node gone more h p = absurd h
help_by pages may order l loses end (Kept low addr key) new node gone more h p =
    (low, p.0, kept_takes pages order (MayHelp pages order may) l end low addr low key node gone more refl h.0.reads.0 (h.0.reads.1, twig_there pages order l (order / 2) low end addr key node h.0.reads.0 h.0.shaped) p.1)

help_gives : (pages : List (List ℕ)) (may : Stub → Bool) (order l loses end : ℕ) (c new : Child) (node : Twig) (gone more : List ℕ) → LendsFrom (IsReadWhere pages may order) order l loses end (out-Child c) (Some node) → IsPutBy (out-Child c) new node gone more →
    GivesChild pages order (MayHelp pages order may) (suc l) end c new gone more
unfolding stubs row
help_gives pages may order l loses end c new node gone more h p =
    let u = help_by pages may order l loses end (out-Child c) new node gone more h p in
    record {
      places = subst (λ y. GivesWay pages order (MayHelp pages order may) (stubs_in (stubs l) (suc l) end (out-Child c)) (stubs_in (stubs l) (suc l) end y) gone more) (sym u.1) u.2.places;
      rows = λ medium t j. ap (row_in medium j (row medium j l) l end) u.1 ∙ u.2.rows medium t j;
    }

-- in memory it lends as it stands
lends_none : (Reads : ℕ → Stub → Twig → Type 0) (order l loses end : ℕ) (x : Child-F Child Twig) → LendsFrom Reads order l loses end x None → IsHeldIn x × ((order / 2 < width_in x) ⊎ (1 ≤ loses))
lends_none Reads order l loses end (Kept low addr key) h = absurd h
lends_none Reads order l loses end (Grown low twig) h = (tt, lends_by order loses _ h)

helped_none : (Reads : ℕ → Stub → Twig → Type 0) (order l loses high : ℕ) (fs : List Child) (c : Child) (bs : List Child) → HasHelp Reads order l loses high fs c bs None → IsHelped order loses fs bs
helped_none Reads order l loses high fs c (next ∷ back) h = lends_none Reads order l loses _ (out-Child next) h
helped_none Reads order l loses high fs c [] h = λ others last is. lends_none Reads order l loses _ (out-Child last) (h others last is)

-- which neighbour it is
neighbour_at : (Reads : ℕ → Stub → Twig → Type 0) (order l loses high at i : ℕ) (cs fs : List Child) (c : Child) (bs : List Child) (d : Child) (one : Option Twig) → cs ≡ fs ++ c ∷ bs → length fs + 1 ≡ at → cs ≡ take i cs ++ d ∷ drop (suc i) cs → i < length cs →
    (at < length cs → i ≡ at) → (at ≡ length cs → i + 2 ≡ at) → HasHelp Reads order l loses high fs c bs one → LendsFrom Reads order l loses (start_by low_of (drop (suc i) cs) high) (out-Child d) one
neighbour_at Reads order l loses high at i cs fs c (next ∷ back) d one is n split lt at_next at_last h =
    let i_is = at_next (omega (arith, n, ap length is, length-append fs (c ∷ next ∷ back))) in
    let same = same_split (fs ++ c ∷ []) (take i cs) (next ∷ back) (d ∷ drop (suc i) cs) (omega (arith, length-take-le i cs (omega (arith, lt)), length-append fs (c ∷ []), i_is, n)) (append_assoc fs (c ∷ []) (next ∷ back) ∙ sym is ∙ split) in
    let first : next ≡ d = cc in
    let rest : back ≡ drop (suc i) cs = cc in
    subst (λ bs. LendsFrom Reads order l loses (start_by low_of bs high) (out-Child d) one) rest (subst (λ x. LendsFrom Reads order l loses (start_by low_of back high) (out-Child x) one) first h)
neighbour_at Reads order l loses high at i cs fs c [] d one is n split lt at_next at_last h =
    let i_is = at_last (omega (arith, n, ap length is, length-append fs (c ∷ []))) in
    let same = same_split fs (take i cs ++ d ∷ []) (c ∷ []) (drop (suc i) cs) (omega (arith, length-take-le i cs (omega (arith, lt)), length-append (take i cs) (d ∷ []), i_is, n)) (sym is ∙ split ∙ sym (append_assoc (take i cs) (d ∷ []) (drop (suc i) cs))) in
    subst (λ bs. LendsFrom Reads order l loses (start_by low_of bs high) (out-Child d) one) same.1 (h (take i cs) d same.0)

-- the child on the way where help came
pub record Comes (order l high at loses fewer : ℕ) (mid : List Child) (c : Child) (bs : List Child) : Type 0 where
  pub front : List Child
  pub back : List Child
  pub now : mid ≡ front ++ c ∷ back
  pub count : length front + 1 ≡ at
  pub ends : start_by low_of back high ≡ start_by low_of bs high
  pub helped : (order / 2 + fewer ≤ width_of c) ⊎ IsHelped order loses front back

comes_beside : (order l high at loses fewer i : ℕ) (cs mid fs : List Child) (c : Child) (bs : List Child) (d e : Child) → cs ≡ fs ++ c ∷ bs → length fs + 1 ≡ at → cs ≡ take i cs ++ d ∷ drop (suc i) cs → mid ≡ take i cs ++ e ∷ drop (suc i) cs → i < length cs →
    (at < length cs → i ≡ at) → (at ≡ length cs → i + 2 ≡ at) → low_of e ≡ low_of d → Lends order loses e → Comes order l high at loses fewer mid c bs
comes_beside order l high at loses fewer i cs mid fs c (next ∷ back) d e is n split now lt at_next at_last low_is lends =
    let i_is = at_next (omega (arith, n, ap length is, length-append fs (c ∷ next ∷ back))) in
    let same = same_split (fs ++ c ∷ []) (take i cs) (next ∷ back) (d ∷ drop (suc i) cs) (omega (arith, length-take-le i cs (omega (arith, lt)), length-append fs (c ∷ []), i_is, n)) (append_assoc fs (c ∷ []) (next ∷ back) ∙ sym is ∙ split) in
    let first : next ≡ d = cc in
    record {
      front = fs;
      back = e ∷ drop (suc i) cs;
      now = now ∙ ap (λ xs. xs ++ e ∷ drop (suc i) cs) (sym same.0) ∙ append_assoc fs (c ∷ []) (e ∷ drop (suc i) cs);
      count = n;
      ends = low_is ∙ ap low_of (sym first);
      helped = inr lends;
    }
comes_beside order l high at loses fewer i cs mid fs c [] d e is n split now lt at_next at_last low_is lends =
    let i_is = at_last (omega (arith, n, ap length is, length-append fs (c ∷ []))) in
    let same = same_split fs (take i cs ++ d ∷ []) (c ∷ []) (drop (suc i) cs) (omega (arith, length-take-le i cs (omega (arith, lt)), length-append (take i cs) (d ∷ []), i_is, n)) (sym is ∙ split ∙ sym (append_assoc (take i cs) (d ∷ []) (drop (suc i) cs))) in
    record {
      front = take i cs ++ e ∷ [];
      back = [];
      now = now ∙ ap (λ xs. take i cs ++ e ∷ xs) (sym same.1) ∙ sym (append_assoc (take i cs) (e ∷ []) (c ∷ []));
      count = omega (arith, length-take-le i cs (omega (arith, lt)), length-append (take i cs) (e ∷ []), i_is);
      ends = refl;
      helped = inr (λ others last push. subst (Lends order loses) (same_from_push (take i cs) others e last push).1 lends);
    }

-- the node when help came for the child on the way
pub record Placed (order l least low high at loses fewer : ℕ) (old mid : List Child) (c : Child) (bs : List Child) : Type 0 where
  pub comes : Comes order l high at loses fewer mid c bs
  pub node : IsNode order (suc l) least order low high mid
  pub wide : length mid ≡ length old
  pub below : (most : Bound) → AreBelow most (stubs_under (suc l) high old) → AreBelow most (stubs_under (suc l) high mid)
  pub few : sum_by (nodes (suc l)) mid ≤ sum_by (nodes (suc l)) old + 1

placed_some : (order l least low high at loses fewer : ℕ) (old mid : Twig) (gone more : List ℕ) (fs : List Child) (c : Child) (bs : List Child) (node : Twig) → IsNode order (suc l) least order low high (children_of old) → children_of old ≡ fs ++ c ∷ bs → length fs + 1 ≡ at →
    TakesHelp at node old mid gone more → HasHelp AnyRead order l loses high fs c bs (Some node) → Placed order l least low high at loses fewer (children_of old) (children_of mid) c bs
unfolding IsChild stubs nodes
placed_some order l least low high at loses fewer old mid gone more fs c bs node h is n th help =
    let cs = children_of old in
    let fi = take th.i cs in
    let bi = drop (suc th.i) cs in
    let u = up order l loses (start_by low_of bi high) (out-Child th.child) th.other node gone more (neighbour_at AnyRead order l loses high at th.i cs fs c bs th.child (Some node) is n th.was th.within th.next th.last help) th.put in
    let was = subst (IsNode order (suc l) least order low high) th.was h in
    let nodes_old = ap (sum_by (nodes (suc l))) th.was ∙ sum_append (nodes (suc l)) fi (th.child ∷ bi) in
    let nodes_mid = ap (sum_by (nodes (suc l))) th.now ∙ sum_append (nodes (suc l)) fi (th.other ∷ bi) in
    record {
      comes = comes_beside order l high at loses fewer th.i cs (children_of mid) fs c bs th.child th.other is n th.was th.now th.within th.next th.last u.low_is u.lends;
      node = subst (IsNode order (suc l) least order low high) (sym th.now) (node_with low_of (IsChild order (suc l)) (suc l) least order low high fi th.child th.other bi was u.low_is u.shaped);
      wide = omega (arith, ap length th.now, ap length th.was, length-append fi (th.other ∷ bi), length-append fi (th.child ∷ bi));
      below = λ most b. subst (λ xs. AreBelow most (stubs_under (suc l) high xs)) (sym th.now)
          (still_below order (suc l) least low high 0 fi th.child bi was most th.other u.low_is (u.below most) (subst (λ xs. AreBelow most (stubs_under (suc l) high xs)) th.was b));
      few = omega (arith, nodes_old, nodes_mid, u.few);
    }

placed_none : (order l least low high at loses fewer : ℕ) (old mid : Twig) (fs : List Child) (c : Child) (bs : List Child) → IsNode order (suc l) least order low high (children_of old) → children_of old ≡ fs ++ c ∷ bs → length fs + 1 ≡ at → mid ≡ old →
    (order / 2 + fewer ≤ width_of c) ⊎ IsHelped order loses fs bs → Placed order l least low high at loses fewer (children_of old) (children_of mid) c bs
placed_none order l least low high at loses fewer old mid fs c bs h is n same helped = subst (λ t. Placed order l least low high at loses fewer (children_of old) (children_of t) c bs) (sym same) (record {
  comes = record { front = fs; back = bs; now = is; count = n; ends = refl; helped = helped };
  node = h;
  wide = refl;
  below = λ most b. b;
  few = omega arith;
})

pub placed : (order l least low high at loses fewer width : ℕ) (old mid : Twig) (gone more : List ℕ) (fs : List Child) (c : Child) (bs : List Child) (one : Option Twig) → IsNode order (suc l) least order low high (children_of old) → children_of old ≡ fs ++ c ∷ bs → length fs + 1 ≡ at →
    width ≡ width_of c → IsHelpTaken at one old mid gone more → KeepsOrHasHelp AnyRead order l fewer width loses high fs c bs one → Placed order l least low high at loses fewer (children_of old) (children_of mid) c bs
placed order l least low high at loses fewer width old mid gone more fs c bs None h is n wide t (inl e) = placed_none order l least low high at loses fewer old mid fs c bs h is n t.0 (inl (omega (arith, e.1, wide)))
placed order l least low high at loses fewer width old mid gone more fs c bs None h is n wide t (inr k) = placed_none order l least low high at loses fewer old mid fs c bs h is n t.0 (inr (helped_none AnyRead order l loses high fs c bs k.1))
placed order l least low high at loses fewer width old mid gone more fs c bs (Some node) h is n wide t (inl e) = absurd (some_none node e.0)
  where
    some_none : (x : Twig) → Some x ≡ None → ⊥
    some_none x e = absurd cc
placed order l least low high at loses fewer width old mid gone more fs c bs (Some node) h is n wide t (inr k) = placed_some order l least low high at loses fewer old mid gone more fs c bs node h is n t k.1

gives_some : (pages : List (List ℕ)) (may : Stub → Bool) (order l least low high at loses : ℕ) (old mid : Twig) (gone more : List ℕ) (fs : List Child) (c : Child) (bs : List Child) (node : Twig) → IsNode order (suc l) least order low high (children_of old) → children_of old ≡ fs ++ c ∷ bs → length fs + 1 ≡ at →
    TakesHelp at node old mid gone more → HasHelp AnyRead order l loses high fs c bs (Some node) → (loses' : ℕ) → HasHelp (IsReadWhere pages may order) order l loses' high fs c bs (Some node) →
    GivesBelow pages order (MayHelp pages order may) (suc l) high old mid gone more
gives_some pages may order l least low high at loses old mid gone more fs c bs node h is n th help loses' reads =
    let cs = children_of old in
    let fi = take th.i cs in
    let bi = drop (suc th.i) cs in
    let u = up order l loses (start_by low_of bi high) (out-Child th.child) th.other node gone more (neighbour_at AnyRead order l loses high at th.i cs fs c bs th.child (Some node) is n th.was th.within th.next th.last help) th.put in
    let g = help_gives pages may order l loses' (start_by low_of bi high) th.child th.other node gone more (neighbour_at (IsReadWhere pages may order) order l loses' high at th.i cs fs c bs th.child (Some node) is n th.was th.within th.next th.last reads) th.put in
    node_gives pages order (MayHelp pages order may) (suc l) least low high old mid fi th.child th.other bi gone more (subst (IsNode order (suc l) least order low high) th.was h) th.was th.now u.low_is g

pub placed_gives : (pages : List (List ℕ)) (may : Stub → Bool) (order l least low high at loses fewer width loses' fewer' width' : ℕ) (old mid : Twig) (gone more : List ℕ) (fs : List Child) (c : Child) (bs : List Child) (one : Option Twig) → IsNode order (suc l) least order low high (children_of old) → children_of old ≡ fs ++ c ∷ bs → length fs + 1 ≡ at →
    IsHelpTaken at one old mid gone more → KeepsOrHasHelp AnyRead order l fewer width loses high fs c bs one →
    KeepsOrHasHelp (IsReadWhere pages may order) order l fewer' width' loses' high fs c bs one → GivesBelow pages order (MayHelp pages order may) (suc l) high old mid gone more
placed_gives pages may order l least low high at loses fewer width loses' fewer' width' old mid gone more fs c bs None h is n t e k =
    subst (GivesBelow pages order (MayHelp pages order may) (suc l) high old mid gone) (sym t.1)
    (subst (λ w. GivesBelow pages order (MayHelp pages order may) (suc l) high old w gone gone) (sym t.0) (below_none pages order (MayHelp pages order may) (suc l) high old gone))
placed_gives pages may order l least low high at loses fewer width loses' fewer' width' old mid gone more fs c bs (Some node) h is n t (inr e) (inr k) = gives_some pages may order l least low high at loses old mid gone more fs c bs node h is n t e.1 loses' k.1
placed_gives pages may order l least low high at loses fewer width loses' fewer' width' old mid gone more fs c bs (Some node) h is n t (inl e) k = absurd (some_none e.0)
  where
    some_none : Some node ≡ None → ⊥
    some_none e = absurd cc
placed_gives pages may order l least low high at loses fewer width loses' fewer' width' old mid gone more fs c bs (Some node) h is n t (inr e) (inl k) = absurd (some_none k.0)
  where
    some_none : Some node ≡ None → ⊥
    some_none e = absurd cc

-- there is a child at each place
pub nth : (cs : List Child) (i : ℕ) → i < length cs → (c : Child) × (c ≡ get_or cs i c)
nth [] i lt = absurd (omega (arith, lt))
nth (x ∷ xs) zero lt = (x, refl)
nth (x ∷ xs) (suc i) lt = nth xs i (omega (arith, lt))

pub set_at : (fs : List Child) (y : Child) (bs : List Child) (d : Child) (i : ℕ) → length fs ≡ i → set (fs ++ y ∷ bs) i d ≡ fs ++ d ∷ bs
set_at [] y bs d zero is = refl
set_at [] y bs d (suc i) is = absurd (omega (arith, is))
set_at (f ∷ fs) y bs d zero is = absurd (omega (arith, is))
set_at (f ∷ fs) y bs d (suc i) is = ap (λ xs. f ∷ xs) (set_at fs y bs d i (omega (arith, is)))

-- the way leads to one child, wherever the last one ends
starts_by : (order level high : ℕ) (gs es : List Child) (d : Child) → EachBy low_of (IsChild order level) high (gs ++ d ∷ es) → start_by low_of (gs ++ d ∷ es) high ≤ low_of d
starts_by order level high gs es d each =
    omega (arith, ap (λ n. n) (start_append low_of gs (d ∷ es) high), each_le low_of (IsChild order level) (low_of d) gs (each_front low_of (IsChild order level) high gs (d ∷ es) each))

one_way_alike : (order level high block : ℕ) (fs gs : List Child) (c d : Child) (bs es : List Child) → EachBy low_of (IsChild order level) high (fs ++ c ∷ bs) → fs ++ c ∷ bs ≡ gs ++ d ∷ es →
    low_of c ≤ block → block < start_by low_of bs high → low_of d ≤ block → block < start_by low_of es (suc block) → (c ≡ d) × (bs ≡ es)
one_way_alike order level high block [] [] c d bs es each e from to from' to' = (cc, cc)
one_way_alike order level high block [] (g ∷ gs) c d bs es each e from to from' to' =
    let rest : bs ≡ gs ++ d ∷ es = cc in
    let le = starts_by order level high gs es d (subst (EachBy low_of (IsChild order level) high) rest each.2) in
    let lt = subst (λ xs. block < start_by low_of xs high) rest to in
    absurd (omega (arith, le, lt, from'))
one_way_alike order level high block (f ∷ fs) [] c d bs es each e from to from' to' =
    let rest : fs ++ c ∷ bs ≡ es = cc in
    let le = starts_by order level high fs bs c each.2 in
    let lt = later fs c bs (subst (λ xs. block < start_by low_of xs (suc block)) (sym rest) to') in
    absurd (omega (arith, le, lt, from))
  where
    later : (fs : List Child) (c : Child) (bs : List Child) → block < start_by low_of (fs ++ c ∷ bs) (suc block) → block < start_by low_of (fs ++ c ∷ bs) high
    later [] c bs h = h
    later (f ∷ fs) c bs h = h
one_way_alike order level high block (f ∷ fs) (g ∷ gs) c d bs es each e from to from' to' =
    let rest : fs ++ c ∷ bs ≡ gs ++ d ∷ es = cc in
    one_way_alike order level high block fs gs c d bs es each.2 rest from to from' to'

-- what is asked for the child on the way
pub way_asks : (Reads : ℕ → Stub → Twig → Type 0) (order block level l high loses : ℕ) (twig : Twig) (held : List Twig) (beside : List (Option Twig)) (fs : List Child) (c : Child) (bs : List Child) → level ≡ suc l → HelpsBelow Reads order block level high twig held beside loses →
    children_of twig ≡ fs ++ c ∷ bs → low_of c ≤ block → block < start_by low_of bs high → HelpsOnWay Reads order l high fs c bs (HelpsBelow Reads order block l) held beside loses
unfolding HelpsBelow
way_asks Reads order block level l high loses twig held beside fs c bs is h split from to = (subst (λ k. HelpsBelow Reads order block k high twig held beside loses) is h) fs bs c split from to

-- on an open way the node of a child is its own
width_by : (block l end : ℕ) (x : Child-F Child Twig) (node : Twig) (held left : List Twig) → IsNodeHeld x node held left → low_in x ≤ block → block < end → IsOpen block (stubs_in (stubs l) (suc l) end x) → length (children_of node) ≡ width_in x
width_by block l end (Kept low addr key) node held left n from to h = let z : suc l ≡ 0 = h.0 from to in absurd (omega (arith, z))
width_by block l end (Grown low twig) node held left n from to h = ap (λ w. length (children_of w)) n.0

open_width : (block l end : ℕ) (c : Child) (node : Twig) (held left : List Twig) → IsNodeHeld (out-Child c) node held left → low_of c ≤ block → block < end → IsOpen block (stubs (suc l) end c) → length (children_of node) ≡ width_of c
unfolding stubs
open_width block l end c node held left n from to h = width_by block l end (out-Child c) node held left n from to h

-- a node keeps its level and its room
pub taken_level : (at : ℕ) (one : Option Twig) (old mid : Twig) (gone more : List ℕ) → IsHelpTaken at one old mid gone more → (level_of mid ≡ level_of old) × (vec_capacity (out-Twig mid).children ≡ vec_capacity (out-Twig old).children)
taken_level at None old mid gone more t = (ap level_of t.0, ap (λ w. vec_capacity (out-Twig w).children) t.0)
taken_level at (Some node) old mid gone more t = (t.level_is, t.room)

module _ (order l least low high block n loses : ℕ) (old mid : Twig) (beside : List (Option Twig)) (gone gone' : List ℕ) (held : List Twig) (fs : List Child) (x : Child) (bs : List Child)
    (shaped : IsTwig order (suc l) least order low high old) (is_open : IsOpen block (stubs_below (suc l) high old)) (split : children_of old ≡ fs ++ x ∷ bs) (n_is : length fs + 1 ≡ n) (from : low_of x ≤ block) (to : block < start_by low_of bs high)
    (o : HelpsOnWay AnyRead order l high fs x bs (HelpsBelow AnyRead order block l) held beside loses) (t : IsHelpTaken n o.helps.one old mid gone gone') where
  x_open : IsOpen block (stubs (suc l) (start_by low_of bs high) x)
  x_open = open_front block _ (stubs_under (suc l) high bs) (open_back block (stubs_under (suc l) (low_of x) fs) _ (subst (IsOpen block) (ap (stubs_under (suc l) high) split ∙ stubs_append low_of (stubs (suc l)) high fs (x ∷ bs)) is_open))

  x_shaped : IsChild order (suc l) (start_by low_of bs high) x
  x_shaped = child_is order (suc l) least low high block fs x bs (subst (IsNode order (suc l) least order low high) split shaped.node)

  x_placed : Placed order l least low high n loses o.helps.fewer (children_of old) (children_of mid) x bs
  x_placed = placed order l least low high n loses o.helps.fewer (length (children_of o.node)) old mid gone gone' fs x bs o.helps.one shaped.node split n_is
      (open_width block l (start_by low_of bs high) x o.node held o.left o.is_node from to x_open) t o.helps.helped

  module _ (y : Child) (y_is : y ≡ get_or (children_of mid) (n - 1) y) where
    same : x ≡ y
    same = sym (y_is ∙ ap (λ xs. get_or xs (n - 1) y) x_placed.comes.now ∙ get_or_at x_placed.comes.front x x_placed.comes.back y (n - 1) (omega (arith, x_placed.comes.count)))

    pub q : Placed order l least low high n loses o.helps.fewer (children_of old) (children_of mid) y bs
    q = subst (λ c. Placed order l least low high n loses o.helps.fewer (children_of old) (children_of mid) c bs) same x_placed

    pub from_y : low_of y ≤ block
    from_y = subst (λ c. low_of c ≤ block) same from

    pub to_y : block < start_by low_of q.comes.back high
    to_y = omega (arith, to, q.comes.ends)

    pub open_y : IsOpen block (stubs (suc l) (start_by low_of q.comes.back high) y)
    open_y = subst (λ m. IsOpen block (stubs (suc l) m y)) (sym q.comes.ends) (subst (λ c. IsOpen block (stubs (suc l) (start_by low_of bs high) c)) same x_open)

    pub shaped_y : IsChild order (suc l) (start_by low_of q.comes.back high) y
    shaped_y = subst (λ m. IsChild order (suc l) m y) (sym q.comes.ends) (subst (IsChild order (suc l) (start_by low_of bs high)) same x_shaped)

    pub asks_y : (Reads : ℕ → Stub → Twig → Type 0) (held : List Twig) (loses : ℕ) (o' : HelpsOnWay Reads order l high fs x bs (HelpsBelow Reads order block l) held beside loses) (rest : List (Option Twig)) → rest ≡ o'.helps.rest →
        HelpsFrom Reads order block l (start_by low_of q.comes.back high) y held rest o'.helps.fewer
    asks_y Reads held loses o' rest rest_is =
        subst (λ m. HelpsFrom Reads order block l m y held rest o'.helps.fewer) (sym q.comes.ends)
        (subst (λ r. HelpsFrom Reads order block l (start_by low_of bs high) y held r o'.helps.fewer) (sym rest_is)
        (subst (λ c. HelpsFrom Reads order block l (start_by low_of bs high) c held o'.helps.rest o'.helps.fewer) same (record { node = o'.node; left = o'.left; is_node = o'.is_node; helps = o'.helps.lower })))

    abbrev pub way_can : (level : ℕ) (rest : List (Option Twig)) → level ≡ suc l → 4 ≤ order → rest ≡ o.helps.rest → CanHelpWay level block rest y
    way_can level rest level_is four rest_is = record {
      order = order;
      below = l;
      level_is = level_is;
      high = start_by low_of q.comes.back high;
      four = four;
      shaped = shaped_y;
      from = from_y;
      to = to_y;
      is_open = open_y;
      held = held;
      loses = o.helps.fewer;
      helps = asks_y AnyRead held loses o rest rest_is;
    }

    node_y : IsNode order (suc l) least order low high (q.comes.front ++ y ∷ q.comes.back)
    node_y = subst (IsNode order (suc l) least order low high) q.comes.now q.node

    module _ (d : Child) (rest : List (Option Twig)) (rest_is : rest ≡ o.helps.rest) (more : List ℕ) (h : HelpedWay order l (start_by low_of q.comes.back high) block o.helps.fewer y d rest gone' more) where
      pub out_node : IsNode order (suc l) least order low high (q.comes.front ++ d ∷ q.comes.back) × IsOpen block (stubs_under (suc l) high (q.comes.front ++ d ∷ q.comes.back))
      out_node = opened order (suc l) least low high block q.comes.front y q.comes.back node_y d from_y to_y (record { low_is = h.low_is; shaped = h.shaped; is_open = h.is_open })

      out_helps : Helps order block (suc l) (q.comes.front ++ d ∷ q.comes.back) loses
      unfolding Helps
      out_helps = λ front back c split' from' to'.
          (let same' = one_way_alike order (suc l) high block q.comes.front front d c q.comes.back back out_node.0.each split' (omega (arith, from_y, h.low_is)) to_y from' to' in
          let ends : d ∷ q.comes.back ≡ c ∷ back = rw (same'.0, same'.1) refl in
          let fronts = same_split q.comes.front front (d ∷ q.comes.back) (c ∷ back) (omega (arith, ap length split', length-append q.comes.front (d ∷ q.comes.back), length-append front (c ∷ back), ap length ends)) split' in
          let one : HelpsOne (Helps order block l) order loses q.comes.front q.comes.back d = record { fewer = o.helps.fewer; below = h.helps; helped = by q.comes.helped } in
          subst (λ f. HelpsOne (Helps order block l) order loses f back c) fronts.0
          (subst (λ b. HelpsOne (Helps order block l) order loses q.comes.front b c) same'.1
          (subst (λ e. HelpsOne (Helps order block l) order loses q.comes.front q.comes.back e) same'.0 one)))
        where
          by : (order / 2 + o.helps.fewer ≤ width_of y) ⊎ IsHelped order loses q.comes.front q.comes.back → (order / 2 + o.helps.fewer ≤ width_of d) ⊎ IsHelped order loses q.comes.front q.comes.back
          by (inl k) = inl (omega (arith, k, h.wide))
          by (inr k) = inr k

      pub helped_out : (new : Twig) → children_of new ≡ q.comes.front ++ d ∷ q.comes.back → IsTwig order (suc l) least order low high new → HelpedOut order (suc l) least low high block loses old new beside gone more
      helped_out new now shape =
          let f = q.comes.front in
          let b = q.comes.back in
          let nodes_new = ap (sum_by (nodes (suc l))) now ∙ sum_append (nodes (suc l)) f (d ∷ b) in
          let nodes_mid = ap (sum_by (nodes (suc l))) q.comes.now ∙ sum_append (nodes (suc l)) f (y ∷ b) in
          record {
            shaped = shape;
            is_open = subst (λ xs. IsOpen block (stubs_under (suc l) high xs)) (sym now) out_node.1;
            helps = subst (λ xs. Helps order block (suc l) xs loses) (sym now) out_helps;
            wide = omega (arith, ap length now, length-append f (d ∷ b), q.wide, ap length q.comes.now, length-append f (y ∷ b));
            below = λ most k. subst (λ xs. AreBelow most (stubs_under (suc l) high xs)) (sym now)
                (still_below order (suc l) least low high block f y b node_y most d h.low_is (h.below_it most) (subst (λ xs. AreBelow most (stubs_under (suc l) high xs)) q.comes.now (q.below most k)));
            few = omega (arith, nodes_new, nodes_mid, h.few, q.few);
            gives = λ pages may held' loses' asks.
                (let o' = way_asks (IsReadWhere pages may order) order block (suc l) l high loses' old held' beside fs x bs refl asks split from to in
                let popped = same_from_push o.helps.rest o'.helps.rest o.helps.one o'.helps.one (sym o.helps.is ∙ o'.helps.is) in
                let first = placed_gives pages may order l least low high n loses o.helps.fewer (length (children_of o.node)) loses' o'.helps.fewer (length (children_of o'.node)) old mid gone gone' fs x bs o.helps.one shaped.node split n_is t o.helps.helped
                (subst (KeepsOrHasHelp (IsReadWhere pages may order) order l o'.helps.fewer (length (children_of o'.node)) loses' high fs x bs) (sym popped.1) o'.helps.helped) in
                let g = h.gives pages may held' o'.helps.fewer (asks_y (IsReadWhere pages may order) held' loses' o' rest (rest_is ∙ popped.0)) in
                below_then pages order (MayHelp pages order may) (suc l) high old mid new gone gone' more first
                (node_gives pages order (MayHelp pages order may) (suc l) least low high mid new f y d b gone' more node_y q.comes.now now h.low_is g));
          }

-- what gives way below a child that stands in memory
grown_out : (order below high block low : ℕ) (twig : Twig) (beside : List (Option Twig)) (held : List Twig) (loses : ℕ) (pages : List (List ℕ)) (may : Stub → Bool) (new : Twig) (gone more : List ℕ) → HelpsFrom (IsReadWhere pages may order) order block below high (made.Grown low twig) held beside loses →
    ((pages : List (List ℕ)) (may : Stub → Bool) (held : List Twig) (loses : ℕ) → HelpsBelow (IsReadWhere pages may order) order block below high twig held beside loses → GivesBelow pages order (MayHelp pages order may) below high twig new gone more) →
    GivesChild pages order (MayHelp pages order may) (suc below) high (made.Grown low twig) (made.Grown low new) gone more
grown_out order below high block low twig beside held loses pages may new gone more asks gives =
    let n = subst (λ y. IsNodeHeld y asks.node held asks.left) (made.outs-Grown low twig) asks.is_node in
    let helps = subst (λ w. HelpsBelow (IsReadWhere pages may order) order block below high w asks.left beside loses) n.0 asks.helps in
    child_gives pages order (MayHelp pages order may) below high low twig new gone more (gives pages may asks.left loses helps)

-- what is asked of the nodes that are held holds of what it implies
lends_weaker : (R Q : ℕ → Stub → Twig → Type 0) → ((l : ℕ) (s : Stub) (t : Twig) → R l s t → Q l s t) → (order l loses end : ℕ) (x : Child-F Child Twig) (one : Option Twig) → LendsFrom R order l loses end x one → LendsFrom Q order l loses end x one
lends_weaker R Q f order l loses end (Kept low addr key) None h = absurd h
lends_weaker R Q f order l loses end (Kept low addr key) (Some node) h = (record { reads = f l _ node h.0.reads; shaped = h.0.shaped; bare = h.0.bare; lower = h.0.lower }, h.1)
lends_weaker R Q f order l loses end (Grown low twig) None h = h
lends_weaker R Q f order l loses end (Grown low twig) (Some node) h = absurd h

help_weaker : (R Q : ℕ → Stub → Twig → Type 0) → ((l : ℕ) (s : Stub) (t : Twig) → R l s t → Q l s t) → (order l loses high : ℕ) (fs : List Child) (c : Child) (bs : List Child) (one : Option Twig) → HasHelp R order l loses high fs c bs one → HasHelp Q order l loses high fs c bs one
help_weaker R Q f order l loses high fs c (next ∷ back) one h = lends_weaker R Q f order l loses _ (out-Child next) one h
help_weaker R Q f order l loses high fs c [] one h = λ others last is. lends_weaker R Q f order l loses _ (out-Child last) one (h others last is)

helps_weaker : (R Q : ℕ → Stub → Twig → Type 0) → ((l : ℕ) (s : Stub) (t : Twig) → R l s t → Q l s t) → (order block level high : ℕ) (twig : Twig) (held : List Twig) (beside : List (Option Twig)) (loses : ℕ) → HelpsBelow R order block level high twig held beside loses →
    HelpsBelow Q order block level high twig held beside loses
unfolding HelpsBelow
helps_weaker R Q f order block zero high twig held beside loses h = h
helps_weaker R Q f order block (suc level) high twig held beside loses h = λ front back c is from to.
    (let k = h front back c is from to in
    let helps : HelpsBeside Q order level (length (children_of k.node)) high front c back (HelpsBelow Q order block level (start_by low_of back high) k.node k.left) beside loses = record {
      rest = k.helps.rest;
      one = k.helps.one;
      is = k.helps.is;
      fewer = k.helps.fewer;
      lower = helps_weaker R Q f order block level (start_by low_of back high) k.node k.left k.helps.rest k.helps.fewer k.helps.lower;
      helped = by front c back (length (children_of k.node)) k.helps.fewer k.helps.one k.helps.helped;
    } in
    record { node = k.node; left = k.left; is_node = k.is_node; helps = helps })
  where
    by : (front : List Child) (c : Child) (back : List Child) (width fewer : ℕ) (one : Option Twig) → KeepsOrHasHelp R order level fewer width loses high front c back one → KeepsOrHasHelp Q order level fewer width loses high front c back one
    by front c back width fewer one (inl k) = inl k
    by front c back width fewer one (inr k) = inr (k.0, help_weaker R Q f order level loses high front c back one k.1)

pub from_weaker : (R Q : ℕ → Stub → Twig → Type 0) → ((l : ℕ) (s : Stub) (t : Twig) → R l s t → Q l s t) → (order block below high : ℕ) (c : Child) (held : List Twig) (beside : List (Option Twig)) (loses : ℕ) → HelpsFrom R order block below high c held beside loses →
    HelpsFrom Q order block below high c held beside loses
from_weaker R Q f order block below high c held beside loses h =
    record { node = h.node; left = h.left; is_node = h.is_node; helps = helps_weaker R Q f order block below high h.node h.left beside loses h.helps }

-- below a child
pub way_out : (order below high block loses low : ℕ) (twig new : Twig) (beside : List (Option Twig)) (gone more : List ℕ) → HelpedOut order below (order / 2) low high block loses twig new beside gone more →
    HelpedWay order below high block loses (made.Grown low twig) (made.Grown low new) beside gone more
way_out order below high block loses low twig new beside gone more h = record {
  low_is = low_of_grown low new ∙ sym (low_of_grown low twig);
  shaped = grown_is_child order below low high new h.shaped;
  is_open = subst (IsOpen block) (sym (stubs_of_grown below high low new)) h.is_open;
  helps = subst (λ y. Helps order block below (below_in y) loses) (sym (made.outs-Grown low new)) h.helps;
  wide = ap width_in (made.outs-Grown low new) ∙ h.wide ∙ sym (ap width_in (made.outs-Grown low twig));
  below_it = λ most k. subst (AreBelow most) (sym (stubs_of_grown below high low new)) (h.below most (subst (AreBelow most) (stubs_of_grown below high low twig) k));
  few = omega (arith, nodes_grown below low new, nodes_grown below low twig, h.few);
  gives = λ pages may held loses asks. grown_out order below high block low twig beside held loses pages may new gone more asks h.gives;
}

-- a leaf stays as it is
pub leaf_out : (order level least low high block loses : ℕ) (twig : Twig) (held : List Twig) (beside : List (Option Twig)) (gone : List ℕ) → level ≡ 0 → IsTwig order level least order low high twig → IsOpen block (stubs_below level high twig) →
    HelpsBelow AnyRead order block level high twig held beside loses → HelpedOut order level least low high block loses twig twig beside gone gone
unfolding HelpsBelow Helps
leaf_out order zero least low high block loses twig held beside gone is shaped is_open h = record {
  shaped = shaped;
  is_open = is_open;
  helps = omega (arith, h.0);
  wide = refl;
  below = λ most k. k;
  few = omega arith;
  gives = λ pages may held loses asks. below_none pages order (MayHelp pages order may) 0 high twig gone;
}
leaf_out order (suc level) least low high block loses twig held beside gone is shaped is_open h = absurd (omega (arith, is))

-- the node of a child on an open way
abbrev pub grown_can : (level block low : ℕ) (twig : Twig) (beside : List (Option Twig)) → CanHelpWay level block beside (made.Grown low twig) → CanHelp (level - 1) block beside twig
grown_can level block low twig beside at =
    let l : level - 1 ≡ at.below = omega (arith, at.level_is) in
    record {
      order = at.order;
      least = at.order / 2;
      low = low;
      high = at.high;
      four = at.four;
      two = λ one. omega (arith, at.four);
      shaped = subst (λ k. IsTwig at.order k (at.order / 2) at.order low at.high twig) (sym l) (child_is_twig at.order at.below at.high low twig at.shaped);
      from = omega (arith, at.from, low_of_grown low twig);
      to = at.to;
      is_open = subst (λ k. IsOpen block (stubs_below k at.high twig)) (sym l) (subst (IsOpen block) (stubs_of_grown at.below at.high low twig) at.is_open);
      held = at.helps.left;
      loses = at.loses;
      helps = subst (λ k. HelpsBelow AnyRead at.order block k at.high twig at.helps.left beside at.loses) (sym l)
          (subst (λ w. HelpsBelow AnyRead at.order block at.below at.high w at.helps.left beside at.loses) (subst (λ y. IsNodeHeld y at.helps.node at.held at.helps.left) (made.outs-Grown low twig) at.helps.is_node).0 at.helps.helps);
    }

-- below a root
pub root_out : (order below high block loses low : ℕ) (twig new : Twig) (beside : List (Option Twig)) (gone more : List ℕ) → low ≡ 0 → HelpedOut order below (top_least below) 0 high block loses twig new beside gone more →
    HelpedRoot order below high block loses (made.Grown low twig) (made.Grown low new) beside gone more
root_out order below high block loses low twig new beside gone more zero_is h = record {
  shaped = subst (IsTopBy order below high) (sym (made.outs-Grown low new)) (zero_is, h.shaped);
  is_open = subst (IsOpen block) (sym (stubs_of_grown below high low new)) h.is_open;
  helps = subst (λ y. Helps order block below (below_in y) loses) (sym (made.outs-Grown low new)) h.helps;
  below_it = λ most k. subst (AreBelow most) (sym (stubs_of_grown below high low new)) (h.below most (subst (AreBelow most) (stubs_of_grown below high low twig) k));
  few = omega (arith, nodes_grown below low new, nodes_grown below low twig, h.few);
  gives = λ pages may held loses asks. grown_out order below high block low twig beside held loses pages may new gone more asks h.gives;
}
