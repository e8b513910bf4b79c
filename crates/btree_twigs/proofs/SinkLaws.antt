-- What a removal makes of the levels of a tree.
use Rattle.std.proofs.Common.{◌≡◌, ◌≢◌, ◌⊎◌, true, false, inl, inr, ℕ, zero, suc, ◌+◌, ◌-◌, ◌/◌, ◌<◌, ◌≤◌, List, [], ◌∷◌, ◌++◌, length, get_or, map, refl, sym, ap, subst, ◌∙◌, arith, append_assoc, append-nil, length-append}
use Rattle.std.specs.List.{AllByRecursion}
use Rattle.std.proofs.Math.Dec.{eqb}
use Rattle.std.proofs.lemmas.Bool.Decides.{eqb_tells}
use Rattle.std.proofs.lemmas.List.{map-append}
use Rattle.btree_twigs.specs.declared.twigs.Child.{Child, Child-F, out-Child}
use Rattle.btree_twigs.specs.declared.twigs.Child.TheOpen.{Kept, Grown}
use Rattle.btree_twigs.specs.declared.twigs.Child.TheVariants as made
use Rattle.btree_twigs.specs.declared.twigs.Twig.{Twig, roll-Twig}
use Rattle.std.specs.declared.vec.Vec.{Vec}
use Rattle.std.specs.declared.alloc.Global.{Global}
use Rattle.btree_twigs.specs.Stubs.{Stub, start_by, low_in, low_of, level_of, children_of}
use Rattle.btree_twigs.specs.Shape.{EachBy, Begins, IsChildBy, IsChild, IsTwig}
use Rattle.btree_twigs.specs.Updates.{IsNode, IsGrownBy, OneShort, width_in, width_of}
use Rattle.btree_twigs.specs.Top.{level_in, child_level}
use Rattle.btree_twigs.specs.Removal.{IsHeldIn, IsHelped, MendsAt, AreMended, IsChildTaken}
use Rattle.btree_twigs.specs.Levels.{Node, IsMedium, rows_by, row, row_below, lows_of, Change, Stays, Drops, Loses, Moves, LosesLast, MovesLast, Changes, KeepsAt, EvensNext, EvensLast, MendedAt, Sinks, IsRowTaken, IsRowTakenBy, rows_at, ReshapeDown, IsEvened, IsEvenedBy}
use Rattle.btree_twigs.proofs.ListLaws.{each_front, each_back}
use Rattle.btree_twigs.proofs.Nodes.{low_of_grown, start_first, children_of_roll}
use Rattle.btree_twigs.proofs.Removals.{snoc, last_at, next_at}
use Rattle.btree_twigs.proofs.LevelLaws.{all_append, all_weaker, rows_append, rows_within, row_within, replaces_lift, row_own, row_lower, own_when, lower_when, lows_long, uncons}

module _ (order block top : ℕ) (old new old' new' xs ys : ℕ → List Node) (was : (k : ℕ) → k ≤ top → old' k ≡ xs k ++ (old k ++ ys k)) (now : (k : ℕ) → k ≤ top → new' k ≡ xs k ++ (new k ++ ys k))
    (before : (k : ℕ) → k ≤ top → AllByRecursion (λ n. n.low ≤ block) (xs k)) (after : (k : ℕ) → k ≤ top → AllByRecursion (λ n. block < n.low) (ys k)) where
  mended_lift : (j : ℕ) (change next : Change) → j ≤ top → MendedAt order block (old j) (new j) change next → MendedAt order block (old' j) (new' j) change next
  mended_lift j change next le h = record {
    node = h.node;
    other = h.other;
    lows = h.lows;
    news = h.news;
    front = xs j ++ h.front;
    back = h.back ++ ys j;
    changes = h.changes;
    short = h.short;
    how = by h.how;
    now = now j le ∙ rw (h.now, append_assoc, append_assoc, append_assoc) refl;
    before = all_append _ (xs j) h.front (before j le) h.before;
    here = h.here;
    after = all_append _ h.back (ys j) h.after (after j le);
  }
    where
      by : ((old j ≡ h.front ++ (h.node ∷ h.other ∷ h.back)) × (block < h.other.low) × EvensNext order h.node.low h.lows h.other h.news next)
          ⊎ ((old j ≡ h.front ++ (h.other ∷ h.node ∷ h.back)) × (h.other.low ≤ block) × EvensLast order h.node.low h.lows h.other h.news next) →
          ((old' j ≡ (xs j ++ h.front) ++ (h.node ∷ h.other ∷ (h.back ++ ys j))) × (block < h.other.low) × EvensNext order h.node.low h.lows h.other h.news next)
          ⊎ ((old' j ≡ (xs j ++ h.front) ++ (h.other ∷ h.node ∷ (h.back ++ ys j))) × (h.other.low ≤ block) × EvensLast order h.node.low h.lows h.other h.news next)
      by (inl k) = inl (was j le ∙ rw (k.0, append_assoc, append_assoc) refl, k.1, k.2)
      by (inr k) = inr (was j le ∙ rw (k.0, append_assoc, append_assoc) refl, k.1, k.2)

  pub sinks_lift : (n j : ℕ) (change out : Change) → j + n ≤ suc top → Sinks order block old new n j change out → Sinks order block old' new' n j change out
  unfolding Sinks
  sinks_lift zero j change out le h = h
  sinks_lift (suc n) j change out le (inl h) =
      let here : j ≤ top = omega (arith, le) in
      inl (
        record { node = h.0.node; lows = h.0.lows; replaces = replaces_lift block (xs j) (old j) (new j) (ys j) (old' j) (new' j) h.0.node _ (was j here) (now j here) (before j here) (after j here) h.0.replaces; changes = h.0.changes; enough = h.0.enough },
        (λ k lt le'. let k_top : k ≤ top = omega (arith, le, le') in now k k_top ∙ ap (λ r. xs k ++ (r ++ ys k)) (h.1 k lt le') ∙ sym (was k k_top)),
        h.2,
      )
  sinks_lift (suc n) j change out le (inr h) = inr (h.0, mended_lift j change h.0 (omega (arith, le)) h.1, sinks_lift n (suc j) h.0 out (omega (arith, le)) h.2)

-- what happens at the level above the last
abbrev pub SinkEnds : ℕ → ℕ → List Node → List Node → Change → Change → Type 0
SinkEnds order block old new change out =
    ((KeepsAt order block old new change × (out ≡ Stays)) ⊎ MendedAt order block old new change out) × (change ≡ Stays → (new ≡ old) × (out ≡ Stays))

-- one level more
module _ (order block : ℕ) (old new : ℕ → List Node) where
  pub sinks_more : (n j t : ℕ) (change out more : Change) → t ≡ j + n → Sinks order block old new n j change out → SinkEnds order block (old t) (new t) out more → Sinks order block old new (suc n) j change more
  unfolding Sinks
  sinks_more zero j t change out more is h e =
      let t_is : t ≡ j = omega (arith, is) in
      by (subst (λ o. SinkEnds order block (old t) (new t) o more) h e).0 t_is
    where
      by : (KeepsAt order block (old t) (new t) change × (more ≡ Stays)) ⊎ MendedAt order block (old t) (new t) change more → t ≡ j →
          (KeepsAt order block (old j) (new j) change × ((k : ℕ) → j < k → k ≤ j + 0 → new k ≡ old k) × (more ≡ Stays)) ⊎ ((next : Change) × MendedAt order block (old j) (new j) change next × (more ≡ next))
      by (inl f) t_is = inl (subst (λ m. KeepsAt order block (old m) (new m) change) t_is f.0, (λ k lt le. absurd (omega (arith, lt, le))), f.1)
      by (inr c) t_is = inr (more, subst (λ m. MendedAt order block (old m) (new m) change more) t_is c, refl)
  sinks_more (suc n) j t change out more is (inl h) e =
      let last = e.1 h.2 in
      inl (h.0, (λ k lt le. same last k lt le (eqb_tells k t)), last.1)
    where
      same : (new t ≡ old t) × (more ≡ Stays) → (k : ℕ) → j < k → k ≤ j + suc n → ((eqb k t ≡ true) × (k ≡ t)) ⊎ ((eqb k t ≡ false) × (k ≢ t)) → new k ≡ old k
      same last k lt le (inl at) = subst (λ m. new m ≡ old m) (sym at.1) last.0
      same last k lt le (inr at) = h.1 k lt (omega (arith, le, is, at.1))
  sinks_more (suc n) j t change out more is (inr h) e = inr (h.0, h.1, sinks_more n (suc j) t h.0 out more (omega (arith, is)) h.2 e)

-- below the leaves there is nothing
rows_zero : (medium : Stub → ℕ → List Node) (k high : ℕ) (cs : List Child) → rows_by (row medium k 0) high cs ≡ []
unfolding row
rows_zero medium k high [] = refl
rows_zero medium k high (c ∷ cs) = rows_zero medium k high cs

rows_bound : (medium : Stub → ℕ → List Node) (k l low mid : ℕ) (xs : List Child) → Begins l low mid → rows_by (row medium k l) mid xs ≡ rows_by (row medium k l) low xs
rows_bound medium k zero low mid xs b = rows_zero medium k mid xs ∙ sym (rows_zero medium k low xs)
rows_bound medium k (suc l) low mid xs b = ap (λ m. rows_by (row medium k (suc l)) m xs) b

-- however two neighbours were evened out, below them there is what was there
pub news_rows : (medium : Stub → ℕ → List Node) (order k l high low : ℕ) (xs ys news : List Child) → k ≤ l → IsEvened order low xs ys news → rows_by (row medium k (suc l)) high news ≡ rows_by (row medium k l) high (xs ++ ys)
news_rows medium order k l high low xs ys news le (inl e) =
    ap (rows_by (row medium k (suc l)) high) e.is ∙ two ∙ ap (λ zs. rows_by (row medium k l) high (xs ++ zs)) (sym e.list)
  where
    two : rows_by (row medium k (suc l)) high (made.Grown low e.from ∷ made.Grown (low_of e.second) e.to ∷ []) ≡ rows_by (row medium k l) high (xs ++ (e.first ∷ e.second ∷ e.rest))
    two =
        ap (λ m. row medium k (suc l) m (made.Grown low e.from) ++ (row medium k (suc l) high (made.Grown (low_of e.second) e.to) ++ [])) (low_of_grown (low_of e.second) e.to)
        ∙ ap (λ s. row medium k (suc l) (low_of e.second) (made.Grown low e.from) ++ s) (append-nil (row medium k (suc l) high (made.Grown (low_of e.second) e.to)))
        ∙ ap (λ s. s ++ row medium k (suc l) high (made.Grown (low_of e.second) e.to)) (row_lower medium k l (low_of e.second) low e.from le ∙ ap (rows_by (row medium k l) (low_of e.second)) e.left)
        ∙ ap (λ s. rows_by (row medium k l) (low_of e.second) (xs ++ (e.first ∷ [])) ++ s) (row_lower medium k l high (low_of e.second) e.to le ∙ ap (rows_by (row medium k l) high) e.right)
        ∙ sym (rows_append (row medium k l) high (xs ++ (e.first ∷ [])) (e.second ∷ e.rest))
        ∙ ap (rows_by (row medium k l) high) (append_assoc xs (e.first ∷ []) (e.second ∷ e.rest))
news_rows medium order k l high low xs ys news le (inr (inl e)) =
    ap (rows_by (row medium k (suc l)) high) e.is ∙ two ∙ ap (λ zs. rows_by (row medium k l) high (zs ++ ys)) (sym e.list)
  where
    two : rows_by (row medium k (suc l)) high (made.Grown low e.from ∷ made.Grown (low_of e.last) e.to ∷ []) ≡ rows_by (row medium k l) high ((e.rest ++ (e.last ∷ [])) ++ ys)
    two =
        ap (λ m. row medium k (suc l) m (made.Grown low e.from) ++ (row medium k (suc l) high (made.Grown (low_of e.last) e.to) ++ [])) (low_of_grown (low_of e.last) e.to)
        ∙ ap (λ s. row medium k (suc l) (low_of e.last) (made.Grown low e.from) ++ s) (append-nil (row medium k (suc l) high (made.Grown (low_of e.last) e.to)))
        ∙ ap (λ s. s ++ row medium k (suc l) high (made.Grown (low_of e.last) e.to)) (row_lower medium k l (low_of e.last) low e.from le ∙ ap (rows_by (row medium k l) (low_of e.last)) e.left)
        ∙ ap (λ s. rows_by (row medium k l) (low_of e.last) e.rest ++ s) (row_lower medium k l high (low_of e.last) e.to le ∙ ap (rows_by (row medium k l) high) e.right)
        ∙ sym (rows_append (row medium k l) high e.rest (e.last ∷ ys))
        ∙ ap (rows_by (row medium k l) high) (sym (append_assoc e.rest (e.last ∷ []) ys))
news_rows medium order k l high low xs ys news le (inr (inr e)) =
    ap (rows_by (row medium k (suc l)) high) e.is ∙ append-nil (row medium k (suc l) high (made.Grown low e.all)) ∙ row_lower medium k l high low e.all le ∙ ap (rows_by (row medium k l) high) e.list

pub news_split : (medium : Stub → ℕ → List Node) (order k l high low mid : ℕ) (xs ys news : List Child) → k ≤ l → Begins l mid (start_by low_of ys high) → IsEvened order low xs ys news →
    rows_by (row medium k (suc l)) high news ≡ rows_by (row medium k l) mid xs ++ rows_by (row medium k l) high ys
news_split medium order k l high low mid xs ys news le b e =
    news_rows medium order k l high low xs ys news le e ∙ rows_append (row medium k l) high xs ys ∙ ap (λ s. s ++ rows_by (row medium k l) high ys) (rows_bound medium k l mid (start_by low_of ys high) xs b)

-- children in a node, of which one changed
pub record RowsTaken (medium : Stub → ℕ → List Node) (order block level high : ℕ) (old new : List Child) : Type 0 where
  pub out : Change
  pub sinks : Sinks order block (λ j. rows_by (row medium j level) high old) (λ j. rows_by (row medium j level) high new) level 1 (Drops block) out
  pub changes : Changes out (map low_of old) (map low_of new)

no_change : (order : ℕ) (out : Change) (old new : Twig) → Changes out (lows_of old) (lows_of new) → out ≡ Stays → order / 2 ≤ length (children_of old) → length (children_of new) < order / 2 → ⊥
no_change order out old new ch is wide short =
    let same : lows_of new ≡ lows_of old = subst (λ o. Changes o (lows_of old) (lows_of new)) is ch in
    omega (arith, ap length same, lows_long (children_of old), lows_long (children_of new), wide, short)

module _ (medium : Stub → ℕ → List Node) (m : IsMedium medium) (order block l least low high : ℕ) (fs : List Child) (c d : Child) (lc : ℕ) (ct dt : Twig) (c_is : out-Child c ≡ Grown lc ct) (d_is : out-Child d ≡ Grown lc dt) (from : low_of c ≤ block)
    (wide : order / 2 ≤ length (children_of ct)) where
  low_c : low_of c ≡ lc
  low_c = ap low_in c_is

  low_d : low_of d ≡ lc
  low_d = ap low_in d_is

  module _ (bs : List Child) (h : IsNode order (suc l) least order low high (fs ++ c ∷ bs)) (to : block < start_by low_of bs high) (r : IsRowTaken medium order block l (start_by low_of bs high) ct dt) where
    each : EachBy low_of (IsChild order (suc l)) high (c ∷ bs)
    each = each_back low_of (IsChild order (suc l)) high fs (c ∷ bs) h.each

    before : (k : ℕ) → AllByRecursion (λ n. n.low ≤ block) (rows_by (row medium k (suc l)) (low_of c) fs)
    before k = all_weaker _ _ (λ n w. omega (arith, w.1, from)) _ (rows_within (IsChild order (suc l)) (row medium k (suc l)) (λ high c lt. row_within medium m k order (suc l) high c lt) (low_of c) fs (each_front low_of (IsChild order (suc l)) high fs (c ∷ bs) h.each))

    after : (k : ℕ) → AllByRecursion (λ n. block < n.low) (rows_by (row medium k (suc l)) high bs)
    after k = all_weaker _ _ (λ n w. omega (arith, w.0, to)) _ (rows_within (IsChild order (suc l)) (row medium k (suc l)) (λ high c lt. row_within medium m k order (suc l) high c lt) high bs each.2)

    was : (k : ℕ) → k ≤ l → rows_by (row medium k (suc l)) high (fs ++ c ∷ bs) ≡ rows_by (row medium k (suc l)) (low_of c) fs ++ (row_below medium k l (start_by low_of bs high) ct ++ rows_by (row medium k (suc l)) high bs)
    was k le = rows_append (row medium k (suc l)) high fs (c ∷ bs) ∙ ap (λ s. rows_by (row medium k (suc l)) (low_of c) fs ++ (s ++ rows_by (row medium k (suc l)) high bs)) (lower_when medium k l (start_by low_of bs high) lc c ct c_is le)

    own : rows_by (row medium (suc l) (suc l)) high (fs ++ c ∷ bs) ≡ rows_by (row medium (suc l) (suc l)) (low_of c) fs ++ (record { low = lc; lows = lows_of ct } ∷ rows_by (row medium (suc l) (suc l)) high bs)
    own = rows_append (row medium (suc l) (suc l)) high fs (c ∷ bs) ∙ ap (λ s. rows_by (row medium (suc l) (suc l)) (low_of c) fs ++ (s ++ rows_by (row medium (suc l) (suc l)) high bs)) (own_when medium l (start_by low_of bs high) lc c ct c_is)

    -- the child has enough children still
    pub rows_kept : order / 2 ≤ length (children_of dt) → RowsTaken medium order block (suc l) high (fs ++ c ∷ bs) (fs ++ d ∷ bs)
    rows_kept enough =
        let start : low_of d ≡ low_of c = low_d ∙ sym low_c in
        let now : (k : ℕ) → k ≤ l → rows_by (row medium k (suc l)) high (fs ++ d ∷ bs) ≡ rows_by (row medium k (suc l)) (low_of c) fs ++ (row_below medium k l (start_by low_of bs high) dt ++ rows_by (row medium k (suc l)) high bs)
        = λ k le. rows_append (row medium k (suc l)) high fs (d ∷ bs) ∙ ap (λ s. rows_by (row medium k (suc l)) s fs ++ (row medium k (suc l) (start_by low_of bs high) d ++ rows_by (row medium k (suc l)) high bs)) start
        ∙ ap (λ s. rows_by (row medium k (suc l)) (low_of c) fs ++ (s ++ rows_by (row medium k (suc l)) high bs)) (lower_when medium k l (start_by low_of bs high) lc d dt d_is le) in
        let own_now : rows_by (row medium (suc l) (suc l)) high (fs ++ d ∷ bs) ≡ rows_by (row medium (suc l) (suc l)) (low_of c) fs ++ (record { low = lc; lows = lows_of dt } ∷ rows_by (row medium (suc l) (suc l)) high bs)
        = rows_append (row medium (suc l) (suc l)) high fs (d ∷ bs) ∙ ap (λ s. rows_by (row medium (suc l) (suc l)) s fs ++ (row medium (suc l) (suc l) (start_by low_of bs high) d ++ rows_by (row medium (suc l) (suc l)) high bs)) start
        ∙ ap (λ s. rows_by (row medium (suc l) (suc l)) (low_of c) fs ++ (s ++ rows_by (row medium (suc l) (suc l)) high bs)) (own_when medium l (start_by low_of bs high) lc d dt d_is) in
        record {
          out = Stays;
          sinks = sinks_more order block _ _ l 1 (suc l) (Drops block) r.out Stays (omega arith)
              (sinks_lift order block l _ _ _ _ (λ k. rows_by (row medium k (suc l)) (low_of c) fs) (λ k. rows_by (row medium k (suc l)) high bs) was now (λ k le. before k) (λ k le. after k) l 1 (Drops block) r.out (omega arith) r.sinks) (
                inl (
                  record {
                    node = record { low = lc; lows = lows_of ct };
                    lows = lows_of dt;
                    replaces = record { front = rows_by (row medium (suc l) (suc l)) (low_of c) fs; back = rows_by (row medium (suc l) (suc l)) high bs; was = own; now = own_now; before = before (suc l); here = omega (arith, from, low_c); after = after (suc l) };
                    changes = r.changes;
                    enough = omega (arith, enough, lows_long (children_of dt));
                  },
                  refl,
                ),
                λ is. (own_now ∙ ap (λ ls. rows_by (row medium (suc l) (suc l)) (low_of c) fs ++ (record { low = lc; lows = ls } ∷ rows_by (row medium (suc l) (suc l)) high bs)) (subst (λ o. Changes o (lows_of ct) (lows_of dt)) is r.changes) ∙ sym own, refl),
              );
          changes = map-append low_of fs (d ∷ bs) ∙ ap (λ x. map low_of fs ++ (x ∷ map low_of bs)) start ∙ sym (map-append low_of fs (c ∷ bs));
        }

-- with the neighbour that follows
module _ (medium : Stub → ℕ → List Node) (m : IsMedium medium) (order block l least low high : ℕ) (fs : List Child) (c d : Child) (lc : ℕ) (ct dt : Twig) (c_is : out-Child c ≡ Grown lc ct) (d_is : out-Child d ≡ Grown lc dt) (from : low_of c ≤ block)
    (wide : order / 2 ≤ length (children_of ct)) (short : length (children_of dt) < order / 2) where
  module _ (b : Child) (bs : List Child) (bt : Twig) (b_is : out-Child b ≡ Grown (low_of b) bt) (h : IsNode order (suc l) least order low high (fs ++ c ∷ b ∷ bs)) (to : block < low_of b) (r : IsRowTaken medium order block l (low_of b) ct dt)
      (begins : Begins l (low_of b) (start_by low_of (children_of bt) (start_by low_of bs high))) (news : List Child) (e : IsEvened order lc (children_of dt) (children_of bt) news) where
    front : ℕ → List Node
    front k = rows_by (row medium k (suc l)) (low_of c) fs

    -- where the news begin
    starts : IsEvened order lc (children_of dt) (children_of bt) news → start_by low_of (news ++ bs) high ≡ low_of c
    starts (inl e) = ap (λ ns. start_by low_of (ns ++ bs) high) e.is ∙ low_of_grown lc e.from ∙ sym (ap low_in c_is)
    starts (inr (inl e)) = ap (λ ns. start_by low_of (ns ++ bs) high) e.is ∙ low_of_grown lc e.from ∙ sym (ap low_in c_is)
    starts (inr (inr e)) = ap (λ ns. start_by low_of (ns ++ bs) high) e.is ∙ low_of_grown lc e.all ∙ sym (ap low_in c_is)

    cut : (k : ℕ) → rows_by (row medium k (suc l)) high (fs ++ (news ++ bs)) ≡ rows_by (row medium k (suc l)) (low_of c) fs ++ (rows_by (row medium k (suc l)) (start_by low_of bs high) news ++ rows_by (row medium k (suc l)) high bs)
    cut k = rows_append (row medium k (suc l)) high fs (news ++ bs) ∙ ap (λ s. rows_by (row medium k (suc l)) s fs ++ rows_by (row medium k (suc l)) high (news ++ bs)) (starts e)
        ∙ ap (λ s. rows_by (row medium k (suc l)) (low_of c) fs ++ s) (rows_append (row medium k (suc l)) high news bs)

    now : (k : ℕ) → k ≤ l → rows_by (row medium k (suc l)) high (fs ++ (news ++ bs)) ≡ rows_by (row medium k (suc l)) (low_of c) fs ++ (row_below medium k l (low_of b) dt ++ rows_by (row medium k (suc l)) high (b ∷ bs))
    now k le = cut k
        ∙ ap (λ s. rows_by (row medium k (suc l)) (low_of c) fs ++ (s ++ rows_by (row medium k (suc l)) high bs)) (news_split medium order k l (start_by low_of bs high) lc (low_of b) (children_of dt) (children_of bt) news le begins e)
        ∙ ap (λ s. rows_by (row medium k (suc l)) (low_of c) fs ++ s) (append_assoc (row_below medium k l (low_of b) dt) (row_below medium k l (start_by low_of bs high) bt) (rows_by (row medium k (suc l)) high bs))
        ∙ ap (λ s. rows_by (row medium k (suc l)) (low_of c) fs ++ (row_below medium k l (low_of b) dt ++ (s ++ rows_by (row medium k (suc l)) high bs))) (sym (lower_when medium k l (start_by low_of bs high) (low_of b) b bt b_is le))

    old_row : rows_by (row medium (suc l) (suc l)) high (fs ++ c ∷ b ∷ bs) ≡ rows_by (row medium (suc l) (suc l)) (low_of c) fs ++ (record { low = lc; lows = lows_of ct } ∷ record { low = low_of b; lows = lows_of bt } ∷ rows_by (row medium (suc l) (suc l)) high bs)
    old_row = own medium m order block l least low high fs c d lc ct dt c_is d_is from wide (b ∷ bs) h to r
        ∙ ap (λ s. rows_by (row medium (suc l) (suc l)) (low_of c) fs ++ (record { low = lc; lows = lows_of ct } ∷ (s ++ rows_by (row medium (suc l) (suc l)) high bs))) (own_when medium l (start_by low_of bs high) (low_of b) b bt b_is)

    all_after : AllByRecursion (λ n. block < n.low) (rows_by (row medium (suc l) (suc l)) high bs)
    all_after = all_weaker _ _ (λ n w. omega (arith, w.0, to, later)) _ (rows_within (IsChild order (suc l)) (row medium (suc l) (suc l)) (λ high c lt. row_within medium m (suc l) order (suc l) high c lt) high bs bs_each.2)
      where
        bs_each : EachBy low_of (IsChild order (suc l)) high (b ∷ bs)
        bs_each = (each_back low_of (IsChild order (suc l)) high fs (c ∷ b ∷ bs) h.each).2

        later : low_of b < start_by low_of bs high
        later = bs_each.0

    -- what the two neighbours become, and what the node above does
    record Step : Type 0 where
      next : Change
      nodes : List Node
      evens : EvensNext order lc (lows_of dt) (record { low = low_of b; lows = lows_of bt }) nodes next
      row_is : rows_by (row medium (suc l) (suc l)) (start_by low_of bs high) news ≡ nodes
      changes : Changes next (map low_of (fs ++ c ∷ b ∷ bs)) (map low_of (fs ++ (news ++ bs)))

    lows_old : map low_of (fs ++ c ∷ b ∷ bs) ≡ (map low_of fs ++ (lc ∷ [])) ++ (low_of b ∷ map low_of bs)
    lows_old = map-append low_of fs (c ∷ b ∷ bs) ∙ ap (λ x. map low_of fs ++ (x ∷ low_of b ∷ map low_of bs)) (ap low_in c_is) ∙ sym (append_assoc (map low_of fs) (lc ∷ []) (low_of b ∷ map low_of bs))

    step : IsEvened order lc (children_of dt) (children_of bt) news → Step
    step (inl e) = record {
      next = Moves (low_of b) (low_of e.second);
      nodes = record { low = lc; lows = lows_of dt ++ (low_of e.first ∷ []) } ∷ record { low = low_of e.second; lows = low_of e.second ∷ map low_of e.rest } ∷ [];
      evens = inl (low_of e.first, low_of e.second, map low_of e.rest, omega (arith, e.spare, lows_long (children_of bt)), ap (map low_of) e.list, refl, refl);
      row_is = ap (rows_by (row medium (suc l) (suc l)) (start_by low_of bs high)) e.is
          ∙ ap (λ s. s ++ (row medium (suc l) (suc l) (start_by low_of bs high) (made.Grown (low_of e.second) e.to) ++ [])) (row_own medium l (low_of (made.Grown (low_of e.second) e.to)) lc e.from ∙ ap (λ ls. record { low = lc; lows = ls } ∷ []) (ap (map low_of) e.left ∙ map-append low_of (children_of dt) (e.first ∷ [])))
          ∙ ap (λ s. record { low = lc; lows = lows_of dt ++ (low_of e.first ∷ []) } ∷ (s ++ [])) (row_own medium l (start_by low_of bs high) (low_of e.second) e.to ∙ ap (λ ls. record { low = low_of e.second; lows = ls } ∷ []) (ap (map low_of) e.right));
      changes = (
        map low_of fs ++ (lc ∷ []),
        map low_of bs,
        lows_old,
        ap (λ ns. map low_of (fs ++ (ns ++ bs))) e.is ∙ map-append low_of fs (made.Grown lc e.from ∷ made.Grown (low_of e.second) e.to ∷ bs)
            ∙ ap (λ x. map low_of fs ++ (x ∷ low_of (made.Grown (low_of e.second) e.to) ∷ map low_of bs)) (low_of_grown lc e.from) ∙ ap (λ x. map low_of fs ++ (lc ∷ x ∷ map low_of bs)) (low_of_grown (low_of e.second) e.to)
            ∙ sym (append_assoc (map low_of fs) (lc ∷ []) (low_of e.second ∷ map low_of bs)),
      );
    }
    step (inr (inl e)) = absurd (omega (arith, e.spare, short))
    step (inr (inr e)) = record {
      next = Loses (low_of b);
      nodes = record { low = lc; lows = lows_of dt ++ lows_of bt } ∷ [];
      evens = inr (omega (arith, e.none, lows_long (children_of bt)), refl, refl);
      row_is = ap (rows_by (row medium (suc l) (suc l)) (start_by low_of bs high)) e.is ∙ append-nil (row medium (suc l) (suc l) (start_by low_of bs high) (made.Grown lc e.all))
          ∙ row_own medium l (start_by low_of bs high) lc e.all ∙ ap (λ ls. record { low = lc; lows = ls } ∷ []) (ap (map low_of) e.list ∙ map-append low_of (children_of dt) (children_of bt));
      changes = (
        map low_of fs ++ (lc ∷ []),
        map low_of bs,
        lows_old,
        ap (λ ns. map low_of (fs ++ (ns ++ bs))) e.is ∙ map-append low_of fs (made.Grown lc e.all ∷ bs) ∙ ap (λ x. map low_of fs ++ (x ∷ map low_of bs)) (low_of_grown lc e.all) ∙ sym (append_assoc (map low_of fs) (lc ∷ []) (map low_of bs)),
      );
    }

    pub rows_next : RowsTaken medium order block (suc l) high (fs ++ c ∷ b ∷ bs) (fs ++ (news ++ bs))
    rows_next =
        let s = step e in
        record {
          out = s.next;
          sinks = sinks_more order block _ _ l 1 (suc l) (Drops block) r.out s.next (omega arith)
              (sinks_lift order block l _ _ _ _ (λ k. rows_by (row medium k (suc l)) (low_of c) fs) (λ k. rows_by (row medium k (suc l)) high (b ∷ bs)) (was medium m order block l least low high fs c d lc ct dt c_is d_is from wide (b ∷ bs) h to r) now
              (λ k le. before medium m order block l least low high fs c d lc ct dt c_is d_is from wide (b ∷ bs) h to r k) (λ k le. after medium m order block l least low high fs c d lc ct dt c_is d_is from wide (b ∷ bs) h to r k) l 1 (Drops block) r.out (omega arith) r.sinks) (
                inr (record {
                  node = record { low = lc; lows = lows_of ct };
                  other = record { low = low_of b; lows = lows_of bt };
                  lows = lows_of dt;
                  news = s.nodes;
                  front = rows_by (row medium (suc l) (suc l)) (low_of c) fs;
                  back = rows_by (row medium (suc l) (suc l)) high bs;
                  changes = r.changes;
                  short = omega (arith, short, lows_long (children_of dt));
                  how = inl (old_row, to, s.evens);
                  now = cut (suc l) ∙ ap (λ t. rows_by (row medium (suc l) (suc l)) (low_of c) fs ++ (t ++ rows_by (row medium (suc l) (suc l)) high bs)) s.row_is;
                  before = before medium m order block l least low high fs c d lc ct dt c_is d_is from wide (b ∷ bs) h to r (suc l);
                  here = omega (arith, from, ap low_in c_is);
                  after = all_after;
                }),
                λ is. absurd (no_change order r.out ct dt r.changes is wide short),
              );
          changes = s.changes;
        }

-- or, where there is none, with the one before
module _ (medium : Stub → ℕ → List Node) (m : IsMedium medium) (order block l least low high : ℕ) (gs : List Child) (g c d : Child) (lg lc : ℕ) (gt ct dt : Twig) (g_is : out-Child g ≡ Grown lg gt) (c_is : out-Child c ≡ Grown lc ct) (d_is : out-Child d ≡ Grown lc dt)
    (from : low_of c ≤ block) (wide : order / 2 ≤ length (children_of ct)) (short : length (children_of dt) < order / 2) (h : IsNode order (suc l) least order low high ((gs ++ g ∷ []) ++ c ∷ [])) (to : block < high) (r : IsRowTaken medium order block l high ct dt)
    (begins : Begins l lc (start_by low_of (children_of dt) high)) (news : List Child) (e : IsEvened order lg (children_of gt) (children_of dt) news) where
  low_g : low_of g ≡ lg
  low_g = ap low_in g_is

  last_low : low_of c ≡ lc
  last_low = ap low_in c_is

  starts_last : IsEvened order lg (children_of gt) (children_of dt) news → start_by low_of (news ++ []) high ≡ low_of g
  starts_last (inl e) = ap (λ ns. start_by low_of (ns ++ []) high) e.is ∙ low_of_grown lg e.from ∙ sym low_g
  starts_last (inr (inl e)) = ap (λ ns. start_by low_of (ns ++ []) high) e.is ∙ low_of_grown lg e.from ∙ sym low_g
  starts_last (inr (inr e)) = ap (λ ns. start_by low_of (ns ++ []) high) e.is ∙ low_of_grown lg e.all ∙ sym low_g

  cut_last : (k : ℕ) → rows_by (row medium k (suc l)) high (gs ++ (news ++ [])) ≡ rows_by (row medium k (suc l)) (low_of g) gs ++ rows_by (row medium k (suc l)) high news
  cut_last k = rows_append (row medium k (suc l)) high gs (news ++ []) ∙ ap (λ s. rows_by (row medium k (suc l)) s gs ++ rows_by (row medium k (suc l)) high (news ++ [])) (starts_last e)
      ∙ ap (λ ns. rows_by (row medium k (suc l)) (low_of g) gs ++ rows_by (row medium k (suc l)) high ns) (append-nil news)

  fronts : (k : ℕ) → rows_by (row medium k (suc l)) (low_of c) (gs ++ g ∷ []) ≡ rows_by (row medium k (suc l)) (low_of g) gs ++ row medium k (suc l) (low_of c) g
  fronts k = rows_append (row medium k (suc l)) (low_of c) gs (g ∷ []) ∙ ap (λ s. rows_by (row medium k (suc l)) (low_of g) gs ++ s) (append-nil (row medium k (suc l) (low_of c) g))

  now_last : (k : ℕ) → k ≤ l → rows_by (row medium k (suc l)) high (gs ++ (news ++ [])) ≡ rows_by (row medium k (suc l)) (low_of c) (gs ++ g ∷ []) ++ (row_below medium k l high dt ++ [])
  now_last k le = cut_last k
      ∙ ap (λ s. rows_by (row medium k (suc l)) (low_of g) gs ++ s) (news_split medium order k l high lg lc (children_of gt) (children_of dt) news le begins e)
      ∙ sym (append_assoc (rows_by (row medium k (suc l)) (low_of g) gs) (rows_by (row medium k l) lc (children_of gt)) (row_below medium k l high dt))
      ∙ ap (λ s. (rows_by (row medium k (suc l)) (low_of g) gs ++ s) ++ row_below medium k l high dt) (ap (λ i. rows_by (row medium k l) i (children_of gt)) (sym last_low) ∙ sym (lower_when medium k l (low_of c) lg g gt g_is le))
      ∙ ap (λ s. s ++ row_below medium k l high dt) (sym (fronts k))
      ∙ ap (λ s. rows_by (row medium k (suc l)) (low_of c) (gs ++ g ∷ []) ++ s) (sym (append-nil (row_below medium k l high dt)))

  old_last : rows_by (row medium (suc l) (suc l)) high ((gs ++ g ∷ []) ++ c ∷ []) ≡ rows_by (row medium (suc l) (suc l)) (low_of g) gs ++ (record { low = lg; lows = lows_of gt } ∷ record { low = lc; lows = lows_of ct } ∷ [])
  old_last = own medium m order block l least low high (gs ++ g ∷ []) c d lc ct dt c_is d_is from wide [] h to r
      ∙ ap (λ s. s ++ (record { low = lc; lows = lows_of ct } ∷ [])) (fronts (suc l) ∙ ap (λ s. rows_by (row medium (suc l) (suc l)) (low_of g) gs ++ s) (own_when medium l (low_of c) lg g gt g_is))
      ∙ append_assoc (rows_by (row medium (suc l) (suc l)) (low_of g) gs) (record { low = lg; lows = lows_of gt } ∷ []) (record { low = lc; lows = lows_of ct } ∷ [])

  whole : EachBy low_of (IsChild order (suc l)) high (gs ++ (g ∷ c ∷ []))
  whole = subst (EachBy low_of (IsChild order (suc l)) high) (append_assoc gs (g ∷ []) (c ∷ [])) h.each

  g_lt : low_of g < low_of c
  g_lt = (each_back low_of (IsChild order (suc l)) high gs (g ∷ c ∷ []) whole).0

  all_before : AllByRecursion (λ n. n.low ≤ block) (rows_by (row medium (suc l) (suc l)) (low_of g) gs)
  all_before = all_weaker _ _ (λ n w. omega (arith, w.1, g_lt, from)) _ (rows_within (IsChild order (suc l)) (row medium (suc l) (suc l)) (λ high c lt. row_within medium m (suc l) order (suc l) high c lt) (low_of g) gs (each_front low_of (IsChild order (suc l)) high gs (g ∷ c ∷ []) whole))

  record LastStep : Type 0 where
    next : Change
    nodes : List Node
    evens : EvensLast order lc (lows_of dt) (record { low = lg; lows = lows_of gt }) nodes next
    row_is : rows_by (row medium (suc l) (suc l)) high news ≡ nodes
    changes : Changes next (map low_of ((gs ++ g ∷ []) ++ c ∷ [])) (map low_of (gs ++ (news ++ [])))

  lows_last : map low_of ((gs ++ g ∷ []) ++ c ∷ []) ≡ (map low_of gs ++ (lg ∷ [])) ++ (lc ∷ [])
  lows_last = map-append low_of (gs ++ g ∷ []) (c ∷ []) ∙ ap (λ x. map low_of (gs ++ g ∷ []) ++ (x ∷ [])) last_low ∙ ap (λ s. s ++ (lc ∷ [])) (map-append low_of gs (g ∷ []) ∙ ap (λ x. map low_of gs ++ (x ∷ [])) low_g)

  last_step : IsEvened order lg (children_of gt) (children_of dt) news → LastStep
  last_step (inl e) = absurd (omega (arith, e.spare, short))
  last_step (inr (inl e)) = record {
    next = MovesLast lc (low_of e.last);
    nodes = record { low = lg; lows = map low_of e.rest } ∷ record { low = low_of e.last; lows = low_of e.last ∷ lows_of dt } ∷ [];
    evens = inl (map low_of e.rest, low_of e.last, omega (arith, e.spare, lows_long (children_of gt)), ap (map low_of) e.list ∙ map-append low_of e.rest (e.last ∷ []), refl, refl);
    row_is = ap (rows_by (row medium (suc l) (suc l)) high) e.is
        ∙ ap (λ s. s ++ (row medium (suc l) (suc l) high (made.Grown (low_of e.last) e.to) ++ [])) (row_own medium l (low_of (made.Grown (low_of e.last) e.to)) lg e.from ∙ ap (λ ls. record { low = lg; lows = ls } ∷ []) (ap (map low_of) e.left))
        ∙ ap (λ s. record { low = lg; lows = map low_of e.rest } ∷ (s ++ [])) (row_own medium l high (low_of e.last) e.to ∙ ap (λ ls. record { low = low_of e.last; lows = ls } ∷ []) (ap (map low_of) e.right));
    changes = (
      map low_of gs ++ (lg ∷ []),
      lows_last,
      ap (λ ns. map low_of (gs ++ (ns ++ []))) e.is ∙ map-append low_of gs (made.Grown lg e.from ∷ made.Grown (low_of e.last) e.to ∷ [])
          ∙ ap (λ x. map low_of gs ++ (x ∷ low_of (made.Grown (low_of e.last) e.to) ∷ [])) (low_of_grown lg e.from) ∙ ap (λ x. map low_of gs ++ (lg ∷ x ∷ [])) (low_of_grown (low_of e.last) e.to)
          ∙ sym (append_assoc (map low_of gs) (lg ∷ []) (low_of e.last ∷ [])),
    );
  }
  last_step (inr (inr e)) = record {
    next = LosesLast lc;
    nodes = record { low = lg; lows = lows_of gt ++ lows_of dt } ∷ [];
    evens = inr (omega (arith, e.few, lows_long (children_of gt)), refl, refl);
    row_is = ap (rows_by (row medium (suc l) (suc l)) high) e.is ∙ append-nil (row medium (suc l) (suc l) high (made.Grown lg e.all))
        ∙ row_own medium l high lg e.all ∙ ap (λ ls. record { low = lg; lows = ls } ∷ []) (ap (map low_of) e.list ∙ map-append low_of (children_of gt) (children_of dt));
    changes = lows_last ∙ ap (λ s. s ++ (lc ∷ [])) (sym (ap (λ ns. map low_of (gs ++ (ns ++ []))) e.is ∙ map-append low_of gs (made.Grown lg e.all ∷ []) ∙ ap (λ x. map low_of gs ++ (x ∷ [])) (low_of_grown lg e.all)));
  }

  pub rows_last : RowsTaken medium order block (suc l) high ((gs ++ g ∷ []) ++ c ∷ []) (gs ++ (news ++ []))
  rows_last =
      let s = last_step e in
      record {
        out = s.next;
        sinks = sinks_more order block _ _ l 1 (suc l) (Drops block) r.out s.next (omega arith)
            (sinks_lift order block l _ _ _ _ (λ k. rows_by (row medium k (suc l)) (low_of c) (gs ++ g ∷ [])) (λ k. []) (was medium m order block l least low high (gs ++ g ∷ []) c d lc ct dt c_is d_is from wide [] h to r) now_last
            (λ k le. before medium m order block l least low high (gs ++ g ∷ []) c d lc ct dt c_is d_is from wide [] h to r k) (λ k le. tt) l 1 (Drops block) r.out (omega arith) r.sinks) (
              inr (record {
                node = record { low = lc; lows = lows_of ct };
                other = record { low = lg; lows = lows_of gt };
                lows = lows_of dt;
                news = s.nodes;
                front = rows_by (row medium (suc l) (suc l)) (low_of g) gs;
                back = [];
                changes = r.changes;
                short = omega (arith, short, lows_long (children_of dt));
                how = inr (old_last, omega (arith, g_lt, from, low_g), s.evens);
                now = cut_last (suc l) ∙ ap (λ t. rows_by (row medium (suc l) (suc l)) (low_of g) gs ++ t) (s.row_is ∙ sym (append-nil s.nodes));
                before = all_before;
                here = omega (arith, from, last_low);
                after = tt;
              }),
              λ is. absurd (no_change order r.out ct dt r.changes is wide short),
            );
        changes = s.changes;
      }

-- how two lists are evened out
longer : (ps qs xs ys : List Child) → ps ++ qs ≡ xs ++ ys → length ps ≡ suc (length xs) → (y : Child) × (ps ≡ xs ++ y ∷ []) × (ys ≡ y ∷ qs)
longer [] qs xs ys e n = absurd (omega (arith, n))
longer (p ∷ []) qs [] ys e n = (p, refl, sym e)
longer (p ∷ q ∷ ps) qs [] ys e n = absurd (omega (arith, n))
longer (p ∷ ps) qs (x ∷ xs) ys e n =
    let first : p ≡ x = cc in
    let rest : ps ++ qs ≡ xs ++ ys = cc in
    let r = longer ps qs xs ys rest (omega (arith, n)) in
    (r.0, ap (λ z. z ∷ ps) first ∙ ap (λ zs. x ∷ zs) r.1, r.2)

pub evened_two : (order low lo : ℕ) (xs ys : List Child) (from to : Twig) (c : Child) → 4 ≤ order → OneShort order (length xs) (length ys) → children_of from ++ children_of to ≡ xs ++ ys → order / 2 ≤ length (children_of from) → order / 2 ≤ length (children_of to) →
    (order / 2 < length ys → length (children_of from) ≡ length xs + 1) → (length ys ≤ order / 2 → length (children_of to) ≡ length ys + 1) → c ≡ get_or (children_of to) 0 c → lo ≡ low_of c →
    IsEvened order low xs ys (made.Grown low from ∷ made.Grown lo to ∷ [])
evened_two order low lo xs ys from to c four short all enough enough' next last first low_is = by (eqb_tells (length ys - order / 2) 0)
  where
    begins : (z : Child) (zs : List Child) → children_of to ≡ z ∷ zs → lo ≡ low_of z
    begins z zs is = low_is ∙ sym (start_first (children_of to) c 0 (omega (arith, enough', four)) first) ∙ ap (λ cs. start_by low_of cs 0) is

    by : ((eqb (length ys - order / 2) 0 ≡ true) × (length ys - order / 2 ≡ 0)) ⊎ ((eqb (length ys - order / 2) 0 ≡ false) × (length ys - order / 2 ≢ 0)) → IsEvened order low xs ys (made.Grown low from ∷ made.Grown lo to ∷ [])
    by (inr k) =
        let more : order / 2 < length ys = omega (arith, k.1) in
        let s = longer (children_of from) (children_of to) xs ys all (omega (arith, next more)) in
        let u = uncons (children_of to) (omega (arith, enough', four)) in
        inl (record {
          first = s.0;
          second = u.0;
          rest = u.1;
          from = from;
          to = to;
          spare = more;
          list = s.2 ∙ ap (λ zs. s.0 ∷ zs) u.2;
          is = ap (λ b. made.Grown low from ∷ made.Grown b to ∷ []) (begins u.0 u.1 u.2);
          left = s.1;
          right = u.2;
        })
    by (inl k) =
        let few : length ys ≤ order / 2 = omega (arith, k.1) in
        let sum : length (children_of from) + length (children_of to) ≡ length xs + length ys = sym (length-append (children_of from) (children_of to)) ∙ ap length all ∙ length-append xs ys in
        let s = longer xs ys (children_of from) (children_of to) (sym all) (omega (arith, last few, sum)) in
        inr (inl (record {
          rest = children_of from;
          last = s.0;
          from = from;
          to = to;
          none = few;
          spare = omega (arith, last few, sum, enough);
          list = s.1;
          is = ap (λ b. made.Grown low from ∷ made.Grown b to ∷ []) (begins s.0 ys s.2);
          left = refl;
          right = s.2;
        }))

abbrev pub grown_as : ℕ → Twig → Child-F Child Twig
grown_as low twig = Grown low twig

-- a child in memory before and after
record Pair (medium : Stub → ℕ → List Node) (order block level high : ℕ) (x y : Child-F Child Twig) : Type 0 where
  low : ℕ
  old : Twig
  new : Twig
  x_is : x ≡ Grown low old
  y_is : y ≡ Grown low new
  rows : IsRowTaken medium order block level high old new

pair_of : (medium : Stub → ℕ → List Node) (order block level high : ℕ) (x y : Child-F Child Twig) → IsRowTakenBy medium order block level high x y → Pair medium order block level high x y
pair_of medium order block level high (Kept low addr key) y h = absurd h
pair_of medium order block level high (Grown low old) (Kept low' addr key) h = absurd h
pair_of medium order block level high (Grown low old) (Grown low' new) h = record { low = low; old = old; new = new; x_is = refl; y_is = ap (λ l. grown_as l new) h.0; rows = h.1 }

held_is : (x : Child-F Child Twig) → IsHeldIn x → (t : Twig) × (x ≡ Grown (low_in x) t)
held_is (Kept low addr key) h = absurd h
held_is (Grown low twig) h = (twig, refl)

child_node : (order l high low : ℕ) (x : Child) (t : Twig) → out-Child x ≡ Grown low t → IsChild order (suc l) high x → IsTwig order l (order / 2) order low high t
unfolding IsChild
child_node order l high low x t is h = subst (IsChildBy (IsChild order l) order l high) is h

module _ (medium : Stub → ℕ → List Node) (m : IsMedium medium) (order l least low high block i loses fewer : ℕ) (four : 4 ≤ order) (fs : List Child) (c d : Child) (at : length fs ≡ i) (from : low_of c ≤ block) where
  pub kept_rows : (bs : List Child) → IsNode order (suc l) least order low high (fs ++ c ∷ bs) → block < start_by low_of bs high → IsRowTakenBy medium order block l (start_by low_of bs high) (out-Child c) (out-Child d) → order / 2 ≤ width_of d →
      RowsTaken medium order block (suc l) high (fs ++ c ∷ bs) (fs ++ d ∷ bs)
  kept_rows bs h to r enough =
      let p = pair_of medium order block l (start_by low_of bs high) (out-Child c) (out-Child d) r in
      let c_node = child_node order l (start_by low_of bs high) p.low c p.old p.x_is (each_back low_of (IsChild order (suc l)) high fs (c ∷ bs) h.each).1 in
      rows_kept medium m order block l least low high fs c d p.low p.old p.new p.x_is p.y_is from c_node.node.enough bs h to p.rows (omega (arith, enough, ap width_in p.y_is))

  module _ (short : width_of d < order / 2) where
    pub mend_rows : (bs new : List Child) → IsNode order (suc l) least order low high (fs ++ c ∷ bs) → (t : IsChildTaken order l (start_by low_of bs high) block fewer c d) → IsHelped order loses fs bs → 2 ≤ least → block < start_by low_of bs high →
        (suc i < length (fs ++ d ∷ bs) → (m : MendsAt order (fs ++ d ∷ bs) i) → AreMended order (fs ++ d ∷ bs) i m new) →
        (suc i ≡ length (fs ++ d ∷ bs) → (m : MendsAt order (fs ++ d ∷ bs) (i - 1)) → AreMended order (fs ++ d ∷ bs) (i - 1) m new) →
        IsRowTakenBy medium order block l (start_by low_of bs high) (out-Child c) (out-Child d) → RowsTaken medium order block (suc l) high (fs ++ c ∷ bs) new
    mend_rows [] new h t n two to next last r =
        let p = pair_of medium order block l high (out-Child c) (out-Child d) r in
        let s = snoc fs (omega (arith, h.enough, two, length-append fs (c ∷ []))) in
        let lent = n s.front s.last s.is in
        let here = last_at order l least low high block i loses fewer four fs c d at short s.front s.last s.is h t lent.0 in
        let a = last (omega (arith, at, length-append fs (d ∷ []))) here in
        let g = held_is (out-Child s.last) lent.0 in
        let h' = subst (λ ys. IsNode order (suc l) least order low high (ys ++ c ∷ [])) s.is h in
        let c_node = child_node order l high p.low c p.old p.x_is (each_back low_of (IsChild order (suc l)) high fs (c ∷ []) h.each).1 in
        let d_node = subst (IsGrownBy order l (order / 2 - 1) high) p.y_is t.grown in
        let e = subst (λ y. IsEvenedBy order (Grown (low_of s.last) g.0) y a.news) p.y_is (subst (λ x. IsEvenedBy order x (out-Child d) a.news) g.1 a.evened) in
        subst (RowsTaken medium order block (suc l) high (fs ++ c ∷ [])) (sym a.now)
        (subst (λ ys. RowsTaken medium order block (suc l) high (ys ++ c ∷ []) (s.front ++ (a.news ++ []))) (sym s.is)
        (rows_last medium m order block l least low high s.front s.last c d (low_of s.last) p.low g.0 p.old p.new g.1 p.x_is p.y_is from c_node.node.enough (omega (arith, short, ap width_in p.y_is)) h' to p.rows d_node.node.begins a.news e))
    mend_rows (b ∷ bs) new h t n two to next last r =
        let p = pair_of medium order block l (low_of b) (out-Child c) (out-Child d) r in
        let here = next_at order l least low high block i loses fewer four fs c d at short b bs h t n.0 in
        let a = next (omega (arith, at, length-append fs (d ∷ b ∷ bs))) here in
        let k = held_is (out-Child b) n.0 in
        let each = each_back low_of (IsChild order (suc l)) high fs (c ∷ b ∷ bs) h.each in
        let c_node = child_node order l (low_of b) p.low c p.old p.x_is each.1 in
        let b_node = child_node order l (start_by low_of bs high) (low_of b) b k.0 k.1 each.2.1 in
        let e = subst (λ y. IsEvenedBy order (Grown p.low p.new) y a.news) k.1 (subst (λ x. IsEvenedBy order x (out-Child b) a.news) p.y_is a.evened) in
        subst (RowsTaken medium order block (suc l) high (fs ++ c ∷ b ∷ bs)) (sym a.now)
        (rows_next medium m order block l least low high fs c d p.low p.old p.new p.x_is p.y_is from c_node.node.enough (omega (arith, short, ap width_in p.y_is)) b bs k.0 k.1 h to p.rows b_node.node.begins a.news e)

-- a leaf drops the block itself
pub leaf_sinks : (medium : Stub → ℕ → List Node) (order block level high lev : ℕ) (t : Twig) (new : Vec Child Global) → lev ≡ suc level → lev ≡ 1 → Changes (Drops block) (lows_of t) (map low_of new.items) →
    IsRowTaken medium order block level high t (roll-Twig (record { level = lev; children = new }))
unfolding Sinks
leaf_sinks medium order block zero high lev t new is one p = record {
  out = Drops block;
  sinks = refl;
  changes = subst (λ cs. Changes (Drops block) (lows_of t) (map low_of cs)) (sym (children_of_roll (record { level = lev; children = new }))) p;
}
leaf_sinks medium order block (suc level) high lev t new is one p = absurd (omega (arith, is, one))

-- a node, from its list of children
pub node_sinks : (medium : Stub → ℕ → List Node) (order block level l high lev : ℕ) (t : Twig) (new : Vec Child Global) → level ≡ suc l → (olds news : List Child) → children_of t ≡ olds → new.items ≡ news → RowsTaken medium order block (suc l) high olds news →
    IsRowTaken medium order block level high t (roll-Twig (record { level = lev; children = new }))
node_sinks medium order block level l high lev t new is olds news was now r =
    let n = children_of_roll (record { level = lev; children = new }) ∙ now in
    let q = subst (λ xs. RowsTaken medium order block (suc l) high xs (children_of (roll-Twig (record { level = lev; children = new })))) (sym was) (subst (RowsTaken medium order block (suc l) high olds) (sym n) r) in
    subst (λ k. IsRowTaken medium order block k high t (roll-Twig (record { level = lev; children = new }))) (sym is) (record { out = q.out; sinks = q.sinks; changes = q.changes })

-- the same levels sink the same way
pub sinks_same : (order block top : ℕ) (old new old' new' : ℕ → List Node) → ((k : ℕ) → k ≤ top → old' k ≡ old k) → ((k : ℕ) → k ≤ top → new' k ≡ new k) → (n j : ℕ) (change out : Change) → j + n ≤ suc top →
    Sinks order block old new n j change out → Sinks order block old' new' n j change out
sinks_same order block top old new old' new' was now n j change out le h =
    sinks_lift order block top old new old' new' (λ k. []) (λ k. []) (λ k le. was k le ∙ sym (append-nil (old k))) (λ k le. now k le ∙ sym (append-nil (new k))) (λ k le. tt) (λ k le. tt) n j change out le h

-- the root keeps children enough
pub sunk_rows : (medium : Stub → ℕ → List Node) (order block level high low : ℕ) (old left : Twig) → low ≡ 0 → level_of left ≡ suc level → (1 ≤ level → 2 ≤ length (children_of left)) → IsRowTaken medium order block level high old left →
    ReshapeDown order block (suc level) (child_level (made.Grown low left)) (rows_at medium (suc level) high (made.Grown low old)) (rows_at medium (child_level (made.Grown low left)) high (made.Grown low left))
sunk_rows medium order block level high low old left zero_is is two r =
    let h : ReshapeDown order block (suc level) (suc level) (rows_at medium (suc level) high (made.Grown low old)) (rows_at medium (suc level) high (made.Grown low left)) = record {
      below = level;
      level_is = refl;
      lows = lows_of old;
      left = lows_of left;
      out = r.out;
      was = row_own medium level high low old ∙ ap (λ m. record { low = m; lows = lows_of old } ∷ []) zero_is;
      sinks = sinks_same order block level _ _ _ _ (λ k le. row_lower medium k level high low old le) (λ k le. row_lower medium k level high low left le) level 1 (Drops block) r.out (omega arith) r.sinks;
      changes = r.changes;
      now = inl (refl, row_own medium level high low left ∙ ap (λ m. record { low = m; lows = lows_of left } ∷ []) zero_is, (λ one. omega (arith, two one, lows_long (children_of left))));
    } in
    subst (λ k. ReshapeDown order block (suc level) k (rows_at medium (suc level) high (made.Grown low old)) (rows_at medium k high (made.Grown low left))) (sym (ap level_in (made.outs-Grown low left) ∙ is)) h

-- the root gives way to its only child
pub gone_rows : (medium : Stub → ℕ → List Node) (order block level high low : ℕ) (old left : Twig) (x : Child) → low ≡ 0 → child_level x ≡ level → 1 ≤ level → children_of left ≡ x ∷ [] → IsRowTaken medium order block level high old left →
    ReshapeDown order block (suc level) (child_level x) (rows_at medium (suc level) high (made.Grown low old)) (rows_at medium (child_level x) high x)
gone_rows medium order block level high low old left x zero_is is one only r =
    let h : ReshapeDown order block (suc level) level (rows_at medium (suc level) high (made.Grown low old)) (rows_at medium level high x) = record {
      below = level;
      level_is = refl;
      lows = lows_of old;
      left = lows_of left;
      out = r.out;
      was = row_own medium level high low old ∙ ap (λ m. record { low = m; lows = lows_of old } ∷ []) zero_is;
      sinks = sinks_same order block level _ _ _ _ (λ k le. row_lower medium k level high low old le) (λ k le. sym (ap (rows_by (row medium k level) high) only ∙ append-nil (row medium k level high x))) level 1 (Drops block) r.out (omega arith) r.sinks;
      changes = r.changes;
      now = inr (refl, one, lows_long (children_of left) ∙ ap length only);
    } in
    subst (λ k. ReshapeDown order block (suc level) k (rows_at medium (suc level) high (made.Grown low old)) (rows_at medium k high x)) (sym is) h

-- levels that are the same have the same reshape
pub down_from : (order block level new_level : ℕ) (old new old' : ℕ → List Node) → ((k : ℕ) → old' k ≡ old k) → ReshapeDown order block level new_level old new → ReshapeDown order block level new_level old' new
down_from order block level new_level old new old' was h = record {
  below = h.below;
  level_is = h.level_is;
  lows = h.lows;
  left = h.left;
  out = h.out;
  was = was level ∙ h.was;
  sinks = sinks_same order block h.below old new old' new (λ k le. was k) (λ k le. refl) h.below 1 (Drops block) h.out (omega arith) h.sinks;
  changes = h.changes;
  now = h.now;
}
