-- Each tree over pages has levels: what the medium has below each of its places.
use Rattle.std.proofs.Common.{◌≡◌, ◌⊎◌, ◌==◌, if◌then◌else◌, Bool, true, false, inl, inr, ℕ, zero, suc, ◌<◌, ◌≤◌, List, [], ◌∷◌, ◌++◌, map, refl, sym, ap, subst, ◌∙◌, arith}
use Rattle.std.specs.List.{AllByRecursion}
use Rattle.std.specs.List.Sorted.{IsStrictlyIncreasing}
use Rattle.std.proofs.Math.Dec.{eqb, leb}
use Rattle.std.proofs.lemmas.Bool.{eq-eqb, ne_eqb}
use Rattle.std.proofs.lemmas.Bool.Decides.{leb_tells}
use Rattle.std.proofs.lemmas.List.Elements.{recursion_from_All}
use Rattle.node_codec.specs.declared.body.Entry.{Entry}
use Rattle.page_store.specs.declared.wants.Want.{Want}
use Rattle.page_store.specs.Places.{child_want}
use Rattle.page_store.specs.Tree.{Parts, Subtree, EachChild, bound_of}
use Rattle.btree_twigs.specs.declared.twigs.Child.{Child}
use Rattle.btree_twigs.specs.declared.twigs.Child.TheVariants as made
use Rattle.btree_twigs.specs.Stubs.{Stub, start_by, low_of, stubs, stubs_in}
use Rattle.btree_twigs.specs.Shape.{IsChild}
use Rattle.btree_twigs.specs.Levels.{Node, IsMedium, rows_by, row_in, row}
use Rattle.btree_twigs.proofs.LevelLaws.{all_weaker, rows_within, row_within}
use Rattle.btree_update.specs.GroveTree.{stubs_at}
use Rattle.btree_update.specs.Reading.{kept_of, all_kept}
use Rattle.btree_update.specs.Held.{stub_at}
use Rattle.btree_update.specs.Tells.{node_row, IsTold, Tells}
use Rattle.btree_update.proofs.Places.{bound_le}
use Rattle.btree_update.proofs.Readings.{start_is, bound_above, tail_ascends, each_kept}

abbrev Rows : Type 0
Rows = Stub → ℕ → List Node

-- nodes within bounds
abbrev Within : ℕ → ℕ → List Node → Type 0
Within low high = AllByRecursion (λ n. (low ≤ n.low) × (n.low < high))

abbrev is_in : ℕ → ℕ → Node → Bool
is_in low high n = if leb low n.low then leb (suc n.low) high else false

-- those of these that lie within bounds
abbrev clip : ℕ → ℕ → List Node → List Node
clip low high [] = []
clip low high (n ∷ ns) = if is_in low high n then n ∷ clip low high ns else clip low high ns

in_is : (low high : ℕ) (n : Node) → low ≤ n.low → n.low < high → is_in low high n ≡ true
in_is low high n from to = by (leb_tells low n.low) (leb_tells (suc n.low) high)
  where
    by : ((leb low n.low ≡ true) × (low ≤ n.low)) ⊎ ((leb low n.low ≡ false) × (n.low < low)) → ((leb (suc n.low) high ≡ true) × (suc n.low ≤ high)) ⊎ ((leb (suc n.low) high ≡ false) × (high < suc n.low)) → is_in low high n ≡ true
    by (inl a) (inl b) = rw (a.0, b.0) refl
    by (inl a) (inr b) = absurd (omega (arith, b.1, to))
    by (inr a) b = absurd (omega (arith, a.1, from))

is_from : (low high : ℕ) (n : Node) → is_in low high n ≡ true → (low ≤ n.low) × (n.low < high)
is_from low high n h = by (leb_tells low n.low) (leb_tells (suc n.low) high)
  where
    by : ((leb low n.low ≡ true) × (low ≤ n.low)) ⊎ ((leb low n.low ≡ false) × (n.low < low)) → ((leb (suc n.low) high ≡ true) × (suc n.low ≤ high)) ⊎ ((leb (suc n.low) high ≡ false) × (high < suc n.low)) → (low ≤ n.low) × (n.low < high)
    by (inl a) (inl b) = (a.1, omega (arith, b.1))
    by (inl a) (inr b) = absurd (no (rw (a.0, b.0) at h))
      where
        no : false ≡ true → ⊥
        no e = cc
    by (inr a) b = absurd (no (rw a.0 at h))
      where
        no : false ≡ true → ⊥
        no e = cc

clip_in : (low high : ℕ) (ns : List Node) → Within low high (clip low high ns)
clip_in low high [] = tt
clip_in low high (n ∷ ns) = by (is_in low high n) refl (clip_in low high ns)
  where
    by : (b : Bool) → is_in low high n ≡ b → Within low high (clip low high ns) → Within low high (if b then n ∷ clip low high ns else clip low high ns)
    by true is rest = (is_from low high n is, rest)
    by false is rest = rest

clip_same : (low high : ℕ) (ns : List Node) → Within low high ns → clip low high ns ≡ ns
clip_same low high [] h = refl
clip_same low high (n ∷ ns) h = rw (in_is low high n h.0.0 h.0.1) (ap (λ xs. n ∷ xs) (clip_same low high ns h.1))

-- what a kept child has is what the medium has
kept_has : (m : Rows) (j l end : ℕ) (e : Entry) → row m j (suc l) end (kept_of e) ≡ m (stub_at (suc l) e.low end e.addr e.key) j
unfolding row
kept_has m j l end e = ap (row_in m j (row m j l) l end) (made.outs-Kept e.low e.addr e.key)

none_has : (m : Rows) (j end : ℕ) (c : Child) → row m j 0 end c ≡ []
unfolding row
none_has m j end c = refl

module _ (pages : List (List ℕ)) (order : ℕ) where
  -- whatever has the same below the places within the bounds tells of the place
  pub record Told (level : ℕ) (want : Want) (key : List ℕ) : Type 0 where
    pub medium : Rows
    pub bounds : IsMedium medium
    pub told : (m : Rows) → ((s : Stub) → want.low ≤ s.low → s.low < want.high → s.level ≤ level → (j : ℕ) → m s j ≡ medium s j) → IsTold pages m level (stub_at level want.low want.high want.addr key)

  -- the same of the places of entries
  record ToldEach (level high : ℕ) (es : List Entry) : Type 0 where
    medium : Rows
    bounds : IsMedium medium
    told : (m : Rows) → ((s : Stub) → bound_of es high ≤ s.low → s.low < high → s.level ≤ level → (j : ℕ) → m s j ≡ medium s j) → AllByRecursion (IsTold pages m level) (stubs_at level high es)

  -- the first of two, up to a bound
  abbrev beside : ℕ → Rows → Rows → Rows
  beside bound one other s j = if leb (suc s.low) bound then one s j else other s j

  beside_in : (bound : ℕ) (one other : Rows) → IsMedium one → IsMedium other → IsMedium (beside bound one other)
  beside_in bound one other h k s j = by (leb (suc s.low) bound)
    where
      by : (b : Bool) → Within s.low s.high (if b then one s j else other s j)
      by true = h s j
      by false = k s j

  first_is : (bound : ℕ) (one other : Rows) (s : Stub) (j : ℕ) → s.low < bound → beside bound one other s j ≡ one s j
  first_is bound one other s j lt = by (leb_tells (suc s.low) bound)
    where
      by : ((leb (suc s.low) bound ≡ true) × (suc s.low ≤ bound)) ⊎ ((leb (suc s.low) bound ≡ false) × (bound < suc s.low)) → beside bound one other s j ≡ one s j
      by (inl t) = rw t.0 refl
      by (inr t) = absurd (omega (arith, t.1, lt))

  other_is : (bound : ℕ) (one other : Rows) (s : Stub) (j : ℕ) → bound ≤ s.low → beside bound one other s j ≡ other s j
  other_is bound one other s j le = by (leb_tells (suc s.low) bound)
    where
      by : ((leb (suc s.low) bound ≡ true) × (suc s.low ≤ bound)) ⊎ ((leb (suc s.low) bound ≡ false) × (bound < suc s.low)) → beside bound one other s j ≡ other s j
      by (inl t) = absurd (omega (arith, t.1, le))
      by (inr t) = rw t.0 refl

  data_each : (high : ℕ) (es : List Entry) (m : Rows) → AllByRecursion (IsTold pages m 0) (stubs_at 0 high es)
  unfolding IsTold
  data_each high [] m = tt
  data_each high (e ∷ es) m = (tt, data_each high es m)

  each_told : (l high : ℕ) (es : List Entry) (ps : List Parts) → ((want : Want) (key : List ℕ) (parts : Parts) → want.low < want.high → Subtree pages order (suc l) want key parts → Told (suc l) want key) →
      AllByRecursion (λ (e : Entry). e.low < high) es → IsStrictlyIncreasing (map (λ (e : Entry). e.low) es) → EachChild (Subtree pages order (suc l)) order (suc l) high es ps → ToldEach (suc l) high es
  each_told l high [] ps below lt up each = record { medium = λ s j. []; bounds = λ s j. tt; told = λ m a. tt }
  each_told l high (e ∷ es) [] below lt up each = absurd each
  each_told l high (e ∷ es) (p ∷ ps) below lt up each =
      let bound = bound_of es high in
      let above : e.low < bound = bound_above e es high lt.0 up in
      let le : bound ≤ high = bound_le high es lt.1 in
      let h = below (child_want order (suc l) e bound) e.key p above each.0 in
      let r = each_told l high es ps below lt.1 (tail_ascends e.low (map (λ (e : Entry). e.low) es) up) each.1 in
      record {
        medium = beside bound h.medium r.medium;
        bounds = beside_in bound h.medium r.medium h.bounds r.bounds;
        told = λ m a. (
          h.told m (λ s from to few j. a s from (omega (arith, to, le)) few j ∙ first_is bound h.medium r.medium s j to),
          r.told m (λ s from to few j. a s (omega (arith, from, above)) to few j ∙ other_is bound h.medium r.medium s j from),
        );
      }

  -- what the children have in two media that agree on them
  rows_agree : (m other : Rows) (j l high : ℕ) (es : List Entry) → AllByRecursion (λ (e : Entry). e.low < high) es → IsStrictlyIncreasing (map (λ (e : Entry). e.low) es) →
      ((s : Stub) → bound_of es high ≤ s.low → s.low < high → s.level ≤ l → m s j ≡ other s j) → rows_by (row m j l) high (all_kept es) ≡ rows_by (row other j l) high (all_kept es)
  rows_agree m other j l high [] lt up a = refl
  rows_agree m other j zero high (e ∷ es) lt up a =
      ap (λ xs. xs ++ rows_by (row m j 0) high (all_kept es)) (none_has m j _ (kept_of e) ∙ sym (none_has other j _ (kept_of e)))
      ∙ ap (λ ys. row other j 0 (start_by low_of (all_kept es) high) (kept_of e) ++ ys)
      (rows_agree m other j 0 high es lt.1 (tail_ascends e.low (map (λ (e : Entry). e.low) es) up) (λ s from to few. a s (omega (arith, from, bound_above e es high lt.0 up)) to few))
  rows_agree m other j (suc l) high (e ∷ es) lt up a =
      let end = start_by low_of (all_kept es) high in
      ap (λ xs. xs ++ rows_by (row m j (suc l)) high (all_kept es)) (kept_has m j l end e ∙ a (stub_at (suc l) e.low end e.addr e.key) (omega arith) lt.0 (omega arith) ∙ sym (kept_has other j l end e))
      ∙ ap (λ ys. row other j (suc l) end (kept_of e) ++ ys)
      (rows_agree m other j (suc l) high es lt.1 (tail_ascends e.low (map (λ (e : Entry). e.low) es) up) (λ s from to few. a s (omega (arith, from, bound_above e es high lt.0 up)) to few))

  node_within : (m : Rows) → IsMedium m → (j l low high : ℕ) (es : List Entry) → low < high → low ≤ bound_of es high → AllByRecursion (λ (e : Entry). e.low < high) es → IsStrictlyIncreasing (map (λ (e : Entry). e.low) es) →
      Within low high (node_row (row m j l) j l low high (all_kept es))
  node_within m h j l low high es lt le below up = by (j == suc l) (rows_within (IsChild order l) (row m j l) (row_within m h j order l) high (all_kept es) (each_kept order l high es below up))
    where
      by : (b : Bool) → Within (start_by low_of (all_kept es) high) high (rows_by (row m j l) high (all_kept es)) → Within low high (if b then record { low = low; lows = map low_of (all_kept es) } ∷ [] else rows_by (row m j l) high (all_kept es))
      by true w = ((omega arith, lt), tt)
      by false w = all_weaker _ _ (λ n k. (omega (arith, k.0, le, start_is es high), k.1)) _ w

  -- a node over what is below its entries
  abbrev over : ℕ → List Entry → Rows → Rows
  over l es below s j = if eqb s.level (suc l) then clip s.low s.high (node_row (row below j l) j l s.low s.high (all_kept es)) else below s j

  over_in : (l : ℕ) (es : List Entry) (below : Rows) → IsMedium below → IsMedium (over l es below)
  over_in l es below h s j = by (eqb s.level (suc l))
    where
      by : (b : Bool) → Within s.low s.high (if b then clip s.low s.high (node_row (row below j l) j l s.low s.high (all_kept es)) else below s j)
      by true = clip_in s.low s.high _
      by false = h s j

  own_is : (l : ℕ) (es : List Entry) (below : Rows) (low high addr : ℕ) (key : List ℕ) (j : ℕ) → over l es below (stub_at (suc l) low high addr key) j ≡ clip low high (node_row (row below j l) j l low high (all_kept es))
  own_is l es below low high addr key j = rw (eq-eqb (suc l) (suc l) refl) refl

  under_is : (l : ℕ) (es : List Entry) (below : Rows) (s : Stub) (j : ℕ) → s.level ≤ l → over l es below s j ≡ below s j
  under_is l es below s j le =
      let other : s.level ≡ suc l → ⊥ = λ e. omega (arith, e, le) in
      rw (ne_eqb s.level (suc l) other) refl

  from_le : (low high : ℕ) (es : List Entry) → low ≤ high → AllByRecursion (λ (e : Entry). low ≤ e.low) es → low ≤ bound_of es high
  from_le low high [] le h = le
  from_le low high (e ∷ es) le h = h.0

  node_told : (l : ℕ) (want : Want) (key : List ℕ) (parts : Parts) → want.low < want.high → Subtree pages order (suc l) want key parts → ((es : List Entry) (ps : List Parts) → AllByRecursion (λ (e : Entry). e.low < want.high) es → IsStrictlyIncreasing (map (λ (e : Entry). e.low) es) →
      EachChild (Subtree pages order l) order l want.high es ps → ToldEach l want.high es) → Told (suc l) want key
  unfolding Subtree IsTold
  node_told l want key parts lt t each =
      let es = t.entries in
      let up = t.fits.0.in_range.0.ascend in
      let below = recursion_from_All (λ (e : Entry). e.low < want.high) es t.fits.1.below_high in
      let le = from_le want.low want.high es (omega (arith, lt)) (recursion_from_All (λ (e : Entry). want.low ≤ e.low) es t.fits.1.from_low) in
      let r = each es t.children below up t.each in
      record {
        medium = over l es r.medium;
        bounds = over_in l es r.medium r.bounds;
        told = λ m a.
            (let same : (s : Stub) → bound_of es want.high ≤ s.low → s.low < want.high → s.level ≤ l → (j : ℕ) → m s j ≡ r.medium s j
            = λ s from to few j. a s (omega (arith, from, le)) to (omega (arith, few)) j ∙ under_is l es r.medium s j few in
            record {
              entries = es;
              here = t.fits.0;
              rows = λ j. a (stub_at (suc l) want.low want.high want.addr key) (omega arith) lt (omega arith) j ∙ own_is l es r.medium want.low want.high want.addr key j
                  ∙ clip_same want.low want.high _ (node_within r.medium r.bounds j l want.low want.high es lt le below up)
                  ∙ ap (λ rs. if j == suc l then record { low = want.low; lows = map low_of (all_kept es) } ∷ [] else rs) (sym (rows_agree m r.medium j l want.high es below up (λ s from to few. same s from to few j)));
              below = r.told m same;
            });
      }

  -- each tree has levels
  pub tree_told : (level : ℕ) (want : Want) (key : List ℕ) (parts : Parts) → want.low < want.high → Subtree pages order level want key parts → Told level want key
  unfolding IsTold
  tree_told zero want key parts lt t = record { medium = λ s j. []; bounds = λ s j. tt; told = λ m a. tt }
  tree_told (suc zero) want key parts lt t = node_told 0 want key parts lt t (λ es ps below up each. (record { medium = λ s j. []; bounds = λ s j. tt; told = λ m a. data_each want.high es m }))
  tree_told (suc (suc l)) want key parts lt t = node_told (suc l) want key parts lt t (λ es ps below up each. each_told l want.high es ps (λ w k p lt' h. tree_told (suc l) w k p lt' h) below up each)

-- the place of a child on the medium
pub kept_told : (pages : List (List ℕ)) (m : Rows) (level high low addr : ℕ) (key : List ℕ) → 1 ≤ level → IsTold pages m level (stub_at level low high addr key) → Tells pages m (stubs level high (made.Kept low addr key))
unfolding stubs
kept_told pages m zero high low addr key one t = absurd (omega (arith, one))
kept_told pages m (suc level) high low addr key one t = subst (λ x. Tells pages m (stubs_in (stubs level) (suc level) high x)) (sym (made.outs-Kept low addr key)) (t, tt)
