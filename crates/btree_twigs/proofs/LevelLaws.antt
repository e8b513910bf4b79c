-- What an insertion makes of the levels of a tree.
use Rattle.std.proofs.Common.{◌≡◌, ◌⊎◌, ◌≢◌, ◌==◌, if◌then◌else◌, true, false, inl, inr, ℕ, zero, suc, ◌+◌, ◌/◌, ◌<◌, ◌≤◌, List, [], ◌∷◌, ◌++◌, Option, None, Some, length, take, drop, get_or, map, refl, sym, ap, subst, ◌∙◌, arith, append_assoc, append-nil, length-append}
use Rattle.std.specs.List.{AllByRecursion}
use Rattle.std.proofs.Math.Dec.{eqb}
use Rattle.std.proofs.lemmas.Bool.{eq-eqb, ne_eqb}
use Rattle.std.proofs.lemmas.Bool.Decides.{eqb_tells}
use Rattle.std.proofs.lemmas.List.{map-append, take-append-drop, length-take-le}
use Rattle.std.specs.declared.vec.Vec.{Vec}
use Rattle.std.specs.declared.alloc.Global.{Global}
use Rattle.btree_twigs.specs.declared.twigs.Child.{Child, Child-F, out-Child}
use Rattle.btree_twigs.specs.declared.twigs.Child.TheOpen.{Kept, Grown}
use Rattle.btree_twigs.specs.declared.twigs.Child.TheVariants as made
use Rattle.btree_twigs.specs.declared.twigs.Twig.{Twig, Twig-F, roll-Twig}
use Rattle.btree_twigs.specs.Stubs.{Stub, start_by, low_in, low_of, level_of, children_of}
use Rattle.btree_twigs.specs.Shape.{EachBy, IsChildBy, IsChild}
use Rattle.btree_twigs.specs.Updates.{IsNode}
use Rattle.btree_twigs.specs.Levels.{Node, IsMedium, rows_by, row_in, row, row_below, lows_of, Replaces, TakesLow, FitsAt, CutAt, Rises, TakesOut, IsRowPut, IsRowPutBelow, IsCut, rows_at, Reshape}
use Rattle.btree_twigs.specs.Top.{level_in, child_level, IsRaised}
use Rattle.btree_twigs.proofs.ListLaws.{start_append, each_front, each_back, each_le, split_here}
use Rattle.btree_twigs.proofs.Children.{begins_le}
use Rattle.btree_twigs.proofs.Nodes.{low_of_grown, children_of_roll, start_first}
use Rattle.btree_twigs.proofs.Ways.{IsWay}

pub all_append : (P : Node → Type 0) (xs ys : List Node) → AllByRecursion P xs → AllByRecursion P ys → AllByRecursion P (xs ++ ys)
all_append P [] ys h k = k
all_append P (x ∷ xs) ys h k = (h.0, all_append P xs ys h.1 k)

pub all_weaker : (P Q : Node → Type 0) → ((n : Node) → P n → Q n) → (xs : List Node) → AllByRecursion P xs → AllByRecursion Q xs
all_weaker P Q f [] h = tt
all_weaker P Q f (x ∷ xs) h = (f x h.0, all_weaker P Q f xs h.1)

pub rows_append : (below : ℕ → Child → List Node) (high : ℕ) (xs ys : List Child) → rows_by below high (xs ++ ys) ≡ rows_by below (start_by low_of ys high) xs ++ rows_by below high ys
rows_append below high [] ys = refl
rows_append below high (x ∷ xs) ys = rw (start_append low_of xs ys high, rows_append below high xs ys, append_assoc) refl

-- nodes lie within bounds
abbrev Within : ℕ → ℕ → List Node → Type 0
Within low high = AllByRecursion (λ n. (low ≤ n.low) × (n.low < high))

pub rows_within : (Below : ℕ → Child → Type 0) (below : ℕ → Child → List Node) → ((high : ℕ) (c : Child) → low_of c < high → Below high c → Within (low_of c) high (below high c)) →
    (high : ℕ) (cs : List Child) → EachBy low_of Below high cs → Within (start_by low_of cs high) high (rows_by below high cs)
rows_within Below below one high [] h = tt
rows_within Below below one high (c ∷ cs) h =
    let le = each_le low_of Below high cs h.2 in
    all_append _ (below (start_by low_of cs high) c) (rows_by below high cs)
    (all_weaker _ _ (λ n k. (k.0, omega (arith, k.1, le))) _ (one (start_by low_of cs high) c h.0 h.1))
    (all_weaker _ _ (λ n k. (omega (arith, k.0, h.0), k.1)) _ (rows_within Below below one high cs h.2))

-- so do those of a child
pub row_within : (medium : Stub → ℕ → List Node) → IsMedium medium → (j order level high : ℕ) (c : Child) → low_of c < high → IsChild order level high c → Within (low_of c) high (row medium j level high c)
unfolding row IsChild
row_within medium m j order zero high c lt h = tt
row_within medium m j order (suc level) high c lt h = here (λ high c. row_within medium m j order level high c) (out-Child c) lt h
  where
    here : ((high : ℕ) (c : Child) → low_of c < high → IsChild order level high c → Within (low_of c) high (row medium j level high c)) → (x : Child-F Child Twig) → low_in x < high → IsChildBy (IsChild order level) order level high x →
        Within (low_in x) high (row_in medium j (row medium j level) level high x)
    here below (Kept low addr key) lt h = m _ j
    here below (Grown low twig) lt h = by (j == suc level) (begins_le level low _ h.node.begins) (rows_within (IsChild order level) (row medium j level) below high (children_of twig) h.node.each)
      where
        by : (b : _) → low ≤ start_by low_of (children_of twig) high → Within (start_by low_of (children_of twig) high) high (rows_by (row medium j level) high (children_of twig)) →
            Within low high (if b then record { low = low; lows = lows_of twig } ∷ [] else rows_by (row medium j level) high (children_of twig))
        by true le w = ((omega arith, lt), tt)
        by false le w = all_weaker _ _ (λ n k. (omega (arith, k.0, le), k.1)) _ w

-- a row between others
pub replaces_lift : (block : ℕ) (xs old new ys old' new' : List Node) (node : Node) (news : List Node) → old' ≡ xs ++ (old ++ ys) → new' ≡ xs ++ (new ++ ys) → AllByRecursion (λ n. n.low ≤ block) xs → AllByRecursion (λ n. block < n.low) ys →
    Replaces block old new node news → Replaces block old' new' node news
replaces_lift block xs old new ys old' new' node news was now before after r = record {
  front = xs ++ r.front;
  back = r.back ++ ys;
  was = was ∙ rw (r.was, append_assoc, append_assoc) refl;
  now = now ∙ rw (r.now, append_assoc, append_assoc, append_assoc) refl;
  before = all_append _ xs r.front before r.before;
  here = r.here;
  after = all_append _ r.back ys r.after after;
}

-- levels between others rise as they do
module _ (order block top : ℕ) (old new old' new' xs ys : ℕ → List Node) (was : (k : ℕ) → k ≤ top → old' k ≡ xs k ++ (old k ++ ys k)) (now : (k : ℕ) → k ≤ top → new' k ≡ xs k ++ (new k ++ ys k))
    (before : (k : ℕ) → k ≤ top → AllByRecursion (λ n. n.low ≤ block) (xs k)) (after : (k : ℕ) → k ≤ top → AllByRecursion (λ n. block < n.low) (ys k)) where
  pub rises_lift : (n j low : ℕ) (out : Option ℕ) → j + n ≤ suc top → Rises order block old new n j low out → Rises order block old' new' n j low out
  unfolding Rises
  rises_lift zero j low out le h = h
  rises_lift (suc n) j low out le (inl h) =
      let here : j ≤ top = omega (arith, le) in
      inl (
        record { node = h.0.node; lows = h.0.lows; replaces = replaces_lift block (xs j) (old j) (new j) (ys j) (old' j) (new' j) h.0.node _ (was j here) (now j here) (before j here) (after j here) h.0.replaces; takes = h.0.takes; few = h.0.few },
        (λ k lt le'. let k_top : k ≤ top = omega (arith, le, le') in now k k_top ∙ ap (λ r. xs k ++ (r ++ ys k)) (h.1 k lt le') ∙ sym (was k k_top)),
        h.2,
      )
  rises_lift (suc n) j low out le (inr h) =
      let here : j ≤ top = omega (arith, le) in
      inr (
        h.0,
        record { node = h.1.node; left = h.1.left; right = h.1.right; replaces = replaces_lift block (xs j) (old j) (new j) (ys j) (old' j) (new' j) h.1.node _ (was j here) (now j here) (before j here) (after j here) h.1.replaces; takes = h.1.takes; half = h.1.half; rest = h.1.rest },
        rises_lift n (suc j) h.0 out (omega (arith, le)) h.2,
      )

-- the same levels rise the same way
pub rises_same : (order block top : ℕ) (old new old' new' : ℕ → List Node) → ((k : ℕ) → k ≤ top → old' k ≡ old k) → ((k : ℕ) → k ≤ top → new' k ≡ new k) → (n j low : ℕ) (out : Option ℕ) → j + n ≤ suc top →
    Rises order block old new n j low out → Rises order block old' new' n j low out
rises_same order block top old new old' new' was now n j low out le h =
    rises_lift order block top old new old' new' (λ k. []) (λ k. []) (λ k le. was k le ∙ sym (append-nil (old k))) (λ k le. now k le ∙ sym (append-nil (new k))) (λ k le. tt) (λ k le. tt) n j low out le h

-- levels that are the same have the same reshape
pub reshape_from : (order block level new_level : ℕ) (old new old' : ℕ → List Node) → ((k : ℕ) → old' k ≡ old k) → Reshape order block level new_level old new → Reshape order block level new_level old' new
reshape_from order block level new_level old new old' was (inl h) = inl (h.0, rises_same order block level old new old' new (λ k le. was k) (λ k le. refl) level 1 block None (omega arith) h.1)
reshape_from order block level new_level old new old' was (inr h) = inr (h.0, (h.1.0, rises_same order block level old new old' new (λ k le. was k) (λ k le. refl) level 1 block (Some h.1.0) (omega arith) h.1.1, h.1.2))

-- what happens at the level above the last
abbrev Ends : ℕ → ℕ → List Node → List Node → Option ℕ → Option ℕ → Type 0
Ends order block old new None out = (new ≡ old) × (out ≡ None)
Ends order block old new (Some low) out = (FitsAt order block old new low × (out ≡ None)) ⊎ ((part : ℕ) × CutAt order block old new low part × (out ≡ Some part))

-- one level more
module _ (order block : ℕ) (old new : ℕ → List Node) where
  pub rises_more : (n j low t : ℕ) (out more : Option ℕ) → t ≡ j + n → Rises order block old new n j low out → Ends order block (old t) (new t) out more → Rises order block old new (suc n) j low more
  unfolding Rises
  rises_more zero j low t out more is h e =
      let t_is : t ≡ j = omega (arith, is) in
      by (subst (λ o. Ends order block (old t) (new t) o more) h e) t_is
    where
      by : (FitsAt order block (old t) (new t) low × (more ≡ None)) ⊎ ((part : ℕ) × CutAt order block (old t) (new t) low part × (more ≡ Some part)) → t ≡ j →
          (FitsAt order block (old j) (new j) low × ((k : ℕ) → j < k → k ≤ j + 0 → new k ≡ old k) × (more ≡ None)) ⊎ ((part : ℕ) × CutAt order block (old j) (new j) low part × (more ≡ Some part))
      by (inl f) t_is = inl (subst (λ m. FitsAt order block (old m) (new m) low) t_is f.0, (λ k lt le. absurd (omega (arith, lt, le))), f.1)
      by (inr c) t_is = inr (c.0, subst (λ m. CutAt order block (old m) (new m) low c.0) t_is c.1, c.2)
  rises_more (suc n) j low t out more is (inl h) e =
      let last = subst (λ o. Ends order block (old t) (new t) o more) h.2 e in
      inl (h.0, (λ k lt le. same last k lt le (eqb_tells k t)), last.1)
    where
      same : (new t ≡ old t) × (more ≡ None) → (k : ℕ) → j < k → k ≤ j + suc n → ((eqb k t ≡ true) × (k ≡ t)) ⊎ ((eqb k t ≡ false) × (k ≢ t)) → new k ≡ old k
      same last k lt le (inl at) = subst (λ m. new m ≡ old m) (sym at.1) last.0
      same last k lt le (inr at) = h.1 k lt (omega (arith, le, is, at.1))
  rises_more (suc n) j low t out more is (inr h) e = inr (h.0, h.1, rises_more n (suc j) h.0 t out more (omega (arith, is)) h.2 e)

-- the levels of a node that is a child
pub row_own : (medium : Stub → ℕ → List Node) (level high low : ℕ) (twig : Twig) → row medium (suc level) (suc level) high (made.Grown low twig) ≡ record { low = low; lows = lows_of twig } ∷ []
unfolding row
row_own medium level high low twig = ap (row_in medium (suc level) (row medium (suc level) level) level high) (made.outs-Grown low twig) ∙ rw (eq-eqb (suc level) (suc level) refl) refl

pub row_lower : (medium : Stub → ℕ → List Node) (j level high low : ℕ) (twig : Twig) → j ≤ level → row medium j (suc level) high (made.Grown low twig) ≡ row_below medium j level high twig
unfolding row
row_lower medium j level high low twig le =
    let other : j ≡ suc level → ⊥ = λ e. omega (arith, e, le) in
    ap (row_in medium j (row medium j level) level high) (made.outs-Grown low twig) ∙ rw (ne_eqb j (suc level) other) refl

pub lows_long : (cs : List Child) → length (map low_of cs) ≡ length cs
lows_long [] = refl
lows_long (c ∷ cs) = ap suc (lows_long cs)

-- a node has room for what it takes
pub fits_child : (medium : Stub → ℕ → List Node) (order block level high low : ℕ) (old new : Twig) → low ≤ block → length (children_of new) ≤ order → IsRowPut medium order block level high old new →
    Rises order block (λ j. row medium j (suc level) high (made.Grown low old)) (λ j. row medium j (suc level) high (made.Grown low new)) (suc level) 1 block None
fits_child medium order block level high low old new le few p =
    rises_more order block _ _ level 1 block (suc level) p.out None (omega arith)
    (rises_same order block level _ _ _ _ (λ k le. row_lower medium k level high low old le) (λ k le. row_lower medium k level high low new le) level 1 block p.out (omega arith) p.rises)
    (by p.out p.takes)
  where
    by : (out : Option ℕ) → TakesOut out (lows_of old) (lows_of new) →
        Ends order block (row medium (suc level) (suc level) high (made.Grown low old)) (row medium (suc level) (suc level) high (made.Grown low new)) out None
    by None t = (row_own medium level high low new ∙ ap (λ ls. record { low = low; lows = ls } ∷ []) t ∙ sym (row_own medium level high low old), refl)
    by (Some x) t = inl (
      record {
        node = record { low = low; lows = lows_of old };
        lows = lows_of new;
        replaces = record { front = []; back = []; was = row_own medium level high low old; now = row_own medium level high low new; before = tt; here = le; after = tt };
        takes = t;
        few = omega (arith, few, lows_long (children_of new));
      },
      refl,
    )

-- it is cut
pub cut_child : (medium : Stub → ℕ → List Node) (order block level high low : ℕ) (old new left : Twig) (part : Child) → low ≤ block → length (children_of old) ≤ order → length (children_of new) ≡ order + 1 → IsRowPut medium order block level high old new → IsCut order new left part →
    Rises order block (λ j. row medium j (suc level) high (made.Grown low old)) (λ j. row medium j (suc level) (low_of part) (made.Grown low left) ++ row medium j (suc level) high part) (suc level) 1 block (Some (low_of part))
cut_child medium order block level high low old new left part le few long p c =
    rises_more order block _ _ level 1 block (suc level) p.out (Some (low_of part)) (omega arith)
    (rises_same order block level _ _ _ _ (λ k le. row_lower medium k level high low old le) lower level 1 block p.out (omega arith) p.rises)
    (by p.out p.takes)
  where
    begins : start_by low_of (children_of c.right) high ≡ low_of part
    begins = ap (λ cs. start_by low_of cs high) c.list ∙ c.begins

    part_row : (j : ℕ) → row medium j (suc level) high part ≡ row medium j (suc level) high (made.Grown (low_of part) c.right)
    part_row j = ap (row medium j (suc level) high) c.is

    lower : (k : ℕ) → k ≤ level → row medium k (suc level) (low_of part) (made.Grown low left) ++ row medium k (suc level) high part ≡ row_below medium k level high new
    lower k le =
        ap (λ xs. xs ++ row medium k (suc level) high part) (row_lower medium k level (low_of part) low left le)
        ∙ ap (λ xs. row_below medium k level (low_of part) left ++ xs) (part_row k ∙ row_lower medium k level high (low_of part) c.right le)
        ∙ ap (λ m. row_below medium k level m left ++ row_below medium k level high c.right) (sym begins)
        ∙ sym (rows_append (row medium k level) high (children_of left) (children_of c.right))
        ∙ ap (rows_by (row medium k level) high) (sym c.all)

    all : lows_of new ≡ lows_of left ++ (low_of part ∷ map low_of c.rest)
    all = ap (map low_of) c.all ∙ map-append low_of (children_of left) (children_of c.right) ∙ ap (λ xs. lows_of left ++ map low_of xs) c.list ∙ ap (λ m. lows_of left ++ (m ∷ map low_of c.rest)) c.begins

    own : row medium (suc level) (suc level) (low_of part) (made.Grown low left) ++ row medium (suc level) (suc level) high part
        ≡ record { low = low; lows = lows_of left } ∷ record { low = low_of part; lows = low_of part ∷ map low_of c.rest } ∷ []
    own = ap (λ xs. xs ++ row medium (suc level) (suc level) high part) (row_own medium level (low_of part) low left)
        ∙ ap (λ xs. record { low = low; lows = lows_of left } ∷ xs) (part_row (suc level) ∙ row_own medium level high (low_of part) c.right
        ∙ ap (λ ls. record { low = low_of part; lows = ls } ∷ []) (ap (map low_of) c.list ∙ ap (λ m. m ∷ map low_of c.rest) c.begins))

    by : (out : Option ℕ) → TakesOut out (lows_of old) (lows_of new) →
        Ends order block (row medium (suc level) (suc level) high (made.Grown low old)) (row medium (suc level) (suc level) (low_of part) (made.Grown low left) ++ row medium (suc level) (suc level) high part) out (Some (low_of part))
    by None t = absurd (omega (arith, few, long, ap length t, lows_long (children_of old), lows_long (children_of new)))
    by (Some x) t = inr (
      low_of part,
      record {
        node = record { low = low; lows = lows_of old };
        left = lows_of left;
        right = map low_of c.rest;
        replaces = record { front = []; back = []; was = row_own medium level high low old; now = own; before = tt; here = le; after = tt };
        takes = subst (TakesLow x (lows_of old)) all t;
        half = lows_long (children_of left) ∙ c.half;
        rest = omega (arith, long, ap length all, length-append (lows_of left) (low_of part ∷ map low_of c.rest), lows_long (children_of new));
      },
      refl,
    )

-- children in a node, of which one changed
module _ (medium : Stub → ℕ → List Node) (m : IsMedium medium) (order block l least low high : ℕ) (fs : List Child) (c : Child) (bs : List Child) (h : IsNode order (suc l) least order low high (fs ++ c ∷ bs))
    (from : low_of c ≤ block) (to : block < start_by low_of bs high) (d : Child) (low_is : low_of d ≡ low_of c) where
  back_each : EachBy low_of (IsChild order (suc l)) high (c ∷ bs)
  back_each = each_back low_of (IsChild order (suc l)) high fs (c ∷ bs) h.each

  before : (k : ℕ) → k ≤ suc l → AllByRecursion (λ n. n.low ≤ block) (rows_by (row medium k (suc l)) (low_of c) fs)
  before k le = all_weaker _ _ (λ n w. omega (arith, w.1, from)) _ (rows_within (IsChild order (suc l)) (row medium k (suc l)) (λ high c lt. row_within medium m k order (suc l) high c lt) (low_of c) fs (each_front low_of (IsChild order (suc l)) high fs (c ∷ bs) h.each))

  after : (k : ℕ) → k ≤ suc l → AllByRecursion (λ n. block < n.low) (rows_by (row medium k (suc l)) high bs)
  after k le = all_weaker _ _ (λ n w. omega (arith, w.0, to)) _ (rows_within (IsChild order (suc l)) (row medium k (suc l)) (λ high c lt. row_within medium m k order (suc l) high c lt) high bs back_each.2)

  was : (k : ℕ) → k ≤ suc l → rows_by (row medium k (suc l)) high (fs ++ c ∷ bs) ≡ rows_by (row medium k (suc l)) (low_of c) fs ++ (row medium k (suc l) (start_by low_of bs high) c ++ rows_by (row medium k (suc l)) high bs)
  was k le = rows_append (row medium k (suc l)) high fs (c ∷ bs)

  pub rises_alone : Rises order block (λ j. row medium j (suc l) (start_by low_of bs high) c) (λ j. row medium j (suc l) (start_by low_of bs high) d) (suc l) 1 block None →
      Rises order block (λ j. rows_by (row medium j (suc l)) high (fs ++ c ∷ bs)) (λ j. rows_by (row medium j (suc l)) high (fs ++ d ∷ bs)) (suc l) 1 block None
  rises_alone r = rises_lift order block (suc l) _ _ _ _ (λ k. rows_by (row medium k (suc l)) (low_of c) fs) (λ k. rows_by (row medium k (suc l)) high bs) was
      (λ k le. rows_append (row medium k (suc l)) high fs (d ∷ bs) ∙ ap (λ s. rows_by (row medium k (suc l)) s fs ++ (row medium k (suc l) (start_by low_of bs high) d ++ rows_by (row medium k (suc l)) high bs)) low_is)
      before after (suc l) 1 block None (omega arith) r

  pub lows_alone : map low_of (fs ++ d ∷ bs) ≡ map low_of (fs ++ c ∷ bs)
  lows_alone = map-append low_of fs (d ∷ bs) ∙ ap (λ x. map low_of fs ++ (x ∷ map low_of bs)) low_is ∙ sym (map-append low_of fs (c ∷ bs))

  pub rises_two : (part : Child) → Rises order block (λ j. row medium j (suc l) (start_by low_of bs high) c) (λ j. row medium j (suc l) (low_of part) d ++ row medium j (suc l) (start_by low_of bs high) part) (suc l) 1 block (Some (low_of part)) →
      Rises order block (λ j. rows_by (row medium j (suc l)) high (fs ++ c ∷ bs)) (λ j. rows_by (row medium j (suc l)) high (fs ++ d ∷ part ∷ bs)) (suc l) 1 block (Some (low_of part))
  rises_two part r = rises_lift order block (suc l) _ _ _ _ (λ k. rows_by (row medium k (suc l)) (low_of c) fs) (λ k. rows_by (row medium k (suc l)) high bs) was
      (λ k le. rows_append (row medium k (suc l)) high fs (d ∷ part ∷ bs)
      ∙ ap (λ s. rows_by (row medium k (suc l)) s fs ++ (row medium k (suc l) (low_of part) d ++ (row medium k (suc l) (start_by low_of bs high) part ++ rows_by (row medium k (suc l)) high bs))) low_is
      ∙ ap (λ xs. rows_by (row medium k (suc l)) (low_of c) fs ++ xs) (sym (append_assoc (row medium k (suc l) (low_of part) d) (row medium k (suc l) (start_by low_of bs high) part) (rows_by (row medium k (suc l)) high bs))))
      before after (suc l) 1 block (Some (low_of part)) (omega arith) r

  pub lows_two : (part : Child) → TakesLow (low_of part) (map low_of (fs ++ c ∷ bs)) (map low_of (fs ++ d ∷ part ∷ bs))
  lows_two part = record {
    front = map low_of fs ++ (low_of d ∷ []);
    back = map low_of bs;
    now = map-append low_of fs (d ∷ part ∷ bs) ∙ sym (append_assoc (map low_of fs) (low_of d ∷ []) (low_of part ∷ map low_of bs));
    was = inl (map-append low_of fs (c ∷ bs) ∙ ap (λ x. map low_of fs ++ (x ∷ map low_of bs)) (sym low_is) ∙ sym (append_assoc (map low_of fs) (low_of d ∷ []) (map low_of bs)));
  }

pub lows_in : (fs : List Child) (c d : Child) (bs : List Child) → TakesLow (low_of d) (map low_of (fs ++ c ∷ bs)) (map low_of (fs ++ c ∷ d ∷ bs))
lows_in fs c d bs = record {
  front = map low_of fs ++ (low_of c ∷ []);
  back = map low_of bs;
  now = map-append low_of fs (c ∷ d ∷ bs) ∙ sym (append_assoc (map low_of fs) (low_of c ∷ []) (low_of d ∷ map low_of bs));
  was = inl (map-append low_of fs (c ∷ bs) ∙ sym (append_assoc (map low_of fs) (low_of c ∷ []) (map low_of bs)));
}

pub lows_first : (d : Child) (cs : List Child) → TakesLow (low_of d) (map low_of cs) (map low_of (d ∷ cs))
lows_first d cs = record { front = []; back = map low_of cs; now = refl; was = inl refl }

pub lows_same : (fs : List Child) (c d : Child) (bs : List Child) → low_of d ≡ low_of c → TakesLow (low_of d) (map low_of (fs ++ c ∷ bs)) (map low_of (fs ++ d ∷ bs))
lows_same fs c d bs is = record {
  front = map low_of fs;
  back = map low_of bs;
  now = map-append low_of fs (d ∷ bs);
  was = inr (map-append low_of fs (c ∷ bs) ∙ ap (λ x. map low_of fs ++ (x ∷ map low_of bs)) (sym is) ∙ sym (map-append low_of fs (d ∷ bs)));
}

-- a leaf takes the block itself
pub leaf_rows : (medium : Stub → ℕ → List Node) (order block level high lev : ℕ) (t : Twig) (new : Vec Child Global) → lev ≡ suc level → lev ≡ 1 → TakesLow block (lows_of t) (map low_of new.items) →
    IsRowPut medium order block level high t (roll-Twig (record { level = lev; children = new }))
unfolding Rises
leaf_rows medium order block zero high lev t new is one p = record {
  out = Some block;
  rises = refl;
  takes = subst (λ cs. TakesLow block (lows_of t) (map low_of cs)) (sym (children_of_roll (record { level = lev; children = new }))) p;
}
leaf_rows medium order block (suc level) high lev t new is one p = absurd (omega (arith, is, one))

-- the children of a node that changed
module _ (medium : Stub → ℕ → List Node) (m : IsMedium medium) (order block level least low high n lev : ℕ) (t : Twig) (c d : Child) (h : IsNode order level least order low high (children_of t)) (w : IsWay order block level high (children_of t) n c)
    (low_is : low_of d ≡ low_of c) (new : Vec Child Global) where
  abbrev fs : List Child
  fs = take w.at (children_of t)

  abbrev bs : List Child
  bs = drop (suc w.at) (children_of t)

  split : children_of t ≡ take w.at (children_of t) ++ c ∷ drop (suc w.at) (children_of t)
  split = split_here (children_of t) w.at c w.within w.here

  node : IsNode order (suc w.below) least order low high (take w.at (children_of t) ++ c ∷ drop (suc w.at) (children_of t))
  node = subst (λ k. IsNode order k least order low high (take w.at (children_of t) ++ c ∷ drop (suc w.at) (children_of t))) w.level_is (subst (IsNode order level least order low high) split h)

  ends : start_by low_of (drop n (children_of t)) high ≡ start_by low_of (drop (suc w.at) (children_of t)) high
  ends = ap (λ i. start_by low_of (drop i (children_of t)) high) (sym w.at_is)

  to : block < start_by low_of (drop (suc w.at) (children_of t)) high
  to = omega (arith, w.to, ends)

  pub row_alone : new.items ≡ take w.at (children_of t) ++ d ∷ drop (suc w.at) (children_of t) → IsRowPutBelow medium order block (suc w.below) (start_by low_of (drop n (children_of t)) high) c d None →
      IsRowPut medium order block level high t (roll-Twig (record { level = lev; children = new }))
  row_alone is p =
      let now = children_of_roll (record { level = lev; children = new }) ∙ is in
      let r = rises_alone medium m order block w.below least low high fs c bs node w.from to d low_is
      (subst (λ e. Rises order block (λ j. row medium j (suc w.below) e c) (λ j. row medium j (suc w.below) e d) (suc w.below) 1 block None) ends p) in
      subst (λ k. IsRowPut medium order block k high t (roll-Twig (record { level = lev; children = new }))) (sym w.level_is) (record {
        out = None;
        rises = subst (λ xs. Rises order block (λ j. rows_by (row medium j (suc w.below)) high xs) (λ j. row_below medium j (suc w.below) high (roll-Twig (record { level = lev; children = new }))) (suc w.below) 1 block None) (sym split)
            (subst (λ xs. Rises order block (λ j. rows_by (row medium j (suc w.below)) high (fs ++ c ∷ bs)) (λ j. rows_by (row medium j (suc w.below)) high xs) (suc w.below) 1 block None) (sym now) r);
        takes = ap (map low_of) now ∙ lows_alone medium m order block w.below least low high fs c bs node w.from to d low_is ∙ ap (map low_of) (sym split);
      })

  pub row_two : (part : Child) → new.items ≡ take w.at (children_of t) ++ d ∷ part ∷ drop (suc w.at) (children_of t) → IsRowPutBelow medium order block (suc w.below) (start_by low_of (drop n (children_of t)) high) c d (Some part) →
      IsRowPut medium order block level high t (roll-Twig (record { level = lev; children = new }))
  row_two part is p =
      let now = children_of_roll (record { level = lev; children = new }) ∙ is in
      let r = rises_two medium m order block w.below least low high fs c bs node w.from to d low_is part
      (subst (λ e. Rises order block (λ j. row medium j (suc w.below) e c) (λ j. row medium j (suc w.below) (low_of part) d ++ row medium j (suc w.below) e part) (suc w.below) 1 block (Some (low_of part))) ends p) in
      subst (λ k. IsRowPut medium order block k high t (roll-Twig (record { level = lev; children = new }))) (sym w.level_is) (record {
        out = Some (low_of part);
        rises = subst (λ xs. Rises order block (λ j. rows_by (row medium j (suc w.below)) high xs) (λ j. row_below medium j (suc w.below) high (roll-Twig (record { level = lev; children = new }))) (suc w.below) 1 block (Some (low_of part))) (sym split)
            (subst (λ xs. Rises order block (λ j. rows_by (row medium j (suc w.below)) high (fs ++ c ∷ bs)) (λ j. rows_by (row medium j (suc w.below)) high xs) (suc w.below) 1 block (Some (low_of part))) (sym now) r);
        takes = subst (λ xs. TakesLow (low_of part) (map low_of xs) (lows_of (roll-Twig (record { level = lev; children = new })))) (sym split)
            (subst (λ xs. TakesLow (low_of part) (map low_of (fs ++ c ∷ bs)) (map low_of xs)) (sym now) (lows_two medium m order block w.below least low high fs c bs node w.from to d low_is part));
      })

pub uncons : (xs : List Child) → 0 < length xs → (x : Child) × (ys : List Child) × (xs ≡ x ∷ ys)
uncons [] lt = absurd (omega (arith, lt))
uncons (x ∷ xs) lt = (x, xs, refl)

pub cut_made : (order lev lo : ℕ) (old : Twig) (from to : Vec Child Global) (c : Child) → length (children_of old) ≡ order + 1 → 4 ≤ order → from.items ≡ take (order / 2) (children_of old) → to.items ≡ drop (order / 2) (children_of old) →
    c ≡ get_or to.items 0 c → lo ≡ low_of c → IsCut order old (roll-Twig (record { level = lev; children = from })) (made.Grown lo (roll-Twig (record { level = lev; children = to })))
cut_made order lev lo old from to c long four front back first low_is =
    let cs = children_of old in
    let left : Twig-F Child Twig = record { level = lev; children = from } in
    let right : Twig-F Child Twig = record { level = lev; children = to } in
    let all : cs ≡ from.items ++ to.items = sym (take-append-drop (order / 2) cs) ∙ rw (front, back) refl in
    let n : length from.items ≡ order / 2 = ap length front ∙ length-take-le (order / 2) cs (omega arith) in
    let k : length from.items + length to.items ≡ order + 1 = sym (length-append from.items to.items) ∙ ap length (sym all) ∙ long in
    let u = uncons to.items (omega arith) in
    record {
      right = roll-Twig right;
      first = u.0;
      rest = u.1;
      is = sym (ap (λ l. made.Grown l (roll-Twig right)) (low_of_grown lo (roll-Twig right)));
      all = all ∙ ap (λ xs. xs ++ to.items) (sym (children_of_roll left)) ∙ ap (λ xs. children_of (roll-Twig left) ++ xs) (sym (children_of_roll right));
      half = ap length (children_of_roll left) ∙ n;
      list = children_of_roll right ∙ u.2;
      begins = sym (ap (λ xs. start_by low_of xs 0) u.2) ∙ start_first to.items c 0 (omega arith) first ∙ sym low_is ∙ sym (low_of_grown lo (roll-Twig right));
    }

-- the levels of a child that is known by its content
pub own_when : (medium : Stub → ℕ → List Node) (level high low : ℕ) (new : Child) (twig : Twig) → out-Child new ≡ Grown low twig → row medium (suc level) (suc level) high new ≡ record { low = low; lows = lows_of twig } ∷ []
unfolding row
own_when medium level high low new twig is = ap (row_in medium (suc level) (row medium (suc level) level) level high) is ∙ rw (eq-eqb (suc level) (suc level) refl) refl

pub lower_when : (medium : Stub → ℕ → List Node) (j level high low : ℕ) (new : Child) (twig : Twig) → out-Child new ≡ Grown low twig → j ≤ level → row medium j (suc level) high new ≡ row_below medium j level high twig
unfolding row
lower_when medium j level high low new twig is le =
    let other : j ≡ suc level → ⊥ = λ e. omega (arith, e, le) in
    ap (row_in medium j (row medium j level) level high) is ∙ rw (ne_eqb j (suc level) other) refl

-- a root that was cut in two, under a new one
pub raised_rows : (medium : Stub → ℕ → List Node) (order block level high low : ℕ) (old put left : Twig) (part new : Child) → low ≡ 0 → length (children_of old) ≤ order → length (children_of put) ≡ order + 1 →
    IsRowPut medium order block level high old put → IsCut order put left part → IsRaised order level (made.Grown low left) part new →
    Reshape order block (suc level) (child_level new) (rows_at medium (suc level) high (made.Grown low old)) (rows_at medium (child_level new) high new)
raised_rows medium order block level high low old put left part new zero_is few long p c raised =
    let both : (k : ℕ) → k ≤ suc level → row medium k (suc (suc level)) high new ≡ row medium k (suc level) (low_of part) (made.Grown low left) ++ row medium k (suc level) high part
    = λ k le. lower_when medium k (suc level) high 0 new raised.twig raised.is le ∙ ap (rows_by (row medium k (suc level)) high) raised.children ∙ ap (λ xs. row medium k (suc level) (low_of part) (made.Grown low left) ++ xs) (append-nil (row medium k (suc level) high part)) in
    let r : Reshape order block (suc level) (suc (suc level)) (rows_at medium (suc level) high (made.Grown low old)) (rows_at medium (suc (suc level)) high new) = inr (
      refl,
      (
        low_of part,
        rises_same order block (suc level) _ _ _ _ (λ k le. refl) both (suc level) 1 block (Some (low_of part)) (omega arith)
            (cut_child medium order block level high low old put left part (omega (arith, zero_is)) few long p c),
        own_when medium (suc level) high 0 new raised.twig raised.is ∙ ap (λ cs. record { low = 0; lows = map low_of cs } ∷ []) raised.children ∙ ap (λ l. record { low = 0; lows = l ∷ low_of part ∷ [] } ∷ []) (low_of_grown low left ∙ zero_is),
      ),
    ) in
    subst (λ k. Reshape order block (suc level) k (rows_at medium (suc level) high (made.Grown low old)) (rows_at medium k high new)) (sym (ap level_in raised.is ∙ raised.level_is)) r

-- a root that has room for all its children
pub kept_rows : (medium : Stub → ℕ → List Node) (order block level high low : ℕ) (old new : Twig) → low ≡ 0 → level_of new ≡ suc level → length (children_of new) ≤ order → IsRowPut medium order block level high old new →
    Reshape order block (suc level) (child_level (made.Grown low new)) (rows_at medium (suc level) high (made.Grown low old)) (rows_at medium (child_level (made.Grown low new)) high (made.Grown low new))
kept_rows medium order block level high low old new zero_is is few p =
    let r : Reshape order block (suc level) (suc level) (rows_at medium (suc level) high (made.Grown low old)) (rows_at medium (suc level) high (made.Grown low new))
    = inl (refl, fits_child medium order block level high low old new (omega (arith, zero_is)) few p) in
    subst (λ k. Reshape order block (suc level) k (rows_at medium (suc level) high (made.Grown low old)) (rows_at medium k high (made.Grown low new))) (sym (ap level_in (made.outs-Grown low new) ∙ is)) r
