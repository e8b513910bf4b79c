-- The lows of the nodes of a level ascend, and so do those of the items that a node is over.
use Rattle.std.proofs.Common.{◌≡◌, inl, inr, ℕ, zero, suc, ◌+◌, ◌-◌, ◌*◌, ◌/◌, ◌<◌, ◌≤◌, ◌⊎◌, List, [], ◌∷◌, ◌++◌, length, map, take, drop, refl, sym, ap, subst, ◌∙◌, arith, append-nil, length-append, length-drop, length-take-le, take-append-drop, suc-mul}
use Rattle.std.specs.Prelude.{All}
use Rattle.std.specs.List.{AllByRecursion, AllZip}
use Rattle.std.specs.List.Sorted.{IsStrictlyIncreasing}
use Rattle.node_codec.specs.declared.body.Entry.{Entry}
use Rattle.page_store.specs.Tree.{bound_of}
use Rattle.tree_build.specs.declared.shapes.Span.{Span}
use Rattle.tree_build.specs.Shape.{IsShaped, span, cut, shape_from, shape_of}
use Rattle.tree_build.specs.Nodes.{AreInOrder, children_in, low_of}
use Rattle.tree_build.proofs.ShapeLaws.{AreOver, IsHalf, fits_or_not, length_cut, over, shape_more, shape_one, shaped_halves}
use Rattle.tree_build.proofs.ItemLaws.{Ascend, ascend_below, ascend_bound, ascend_left, ascend_lows, ascend_right, ascend_wider, bound_append, in_span, lows_ascend, low_first, low_zero, regrouped, split_behind, split_middle, zip_length, zip_split}

-- ---- lows of a level

-- the lows of nodes over items: they ascend, and begin where these do; but the first leaf begins at 0
pub record AreLows (first high : ℕ) (xs es : List Entry) : Type 0 where
  pub ascend : Ascend high es
  pub begins : 1 ≤ first → bound_of es high ≡ bound_of xs high
  pub begins_zero : first ≡ 0 → 1 ≤ length xs → bound_of es high ≡ 0

pub no_lows : (first high : ℕ) → AreLows first high [] []
no_lows first high = record { ascend = tt; begins = λ on. refl; begins_zero = λ none some. absurd (omega (arith, some)) }

-- the low of one node over items
pub record IsLow (first bound low : ℕ) : Type 0 where
  pub on : 1 ≤ first → low ≡ bound
  pub none : first ≡ 0 → low ≡ 0
  pub from : low ≤ bound

low_le : (low first bound : ℕ) → (first ≡ 0 → low ≡ 0) → (1 ≤ first → low ≡ bound) → low ≤ bound
low_le low zero bound none on = omega (arith, none refl)
low_le low (suc first) bound none on = omega (arith, on (omega arith))

pub low_over : (items front us rest : List Entry) (level first count high : ℕ) (e : Entry) → items ≡ front ++ (us ++ rest) → length front ≡ first → 1 ≤ length us → e.low ≡ low_of items (span level first count) → IsLow first (bound_of us high) e.low
low_over items front us rest level first count high e is before filled low =
    let on : 1 ≤ first → e.low ≡ bound_of us high = λ h. low ∙ low_first items front us rest level first count high is before filled h in
    let none : first ≡ 0 → e.low ≡ 0 = λ h. low ∙ low_zero items level first count h in
    record { on = on; none = none; from = low_le e.low first (bound_of us high) none on }

-- a node more, before those over what follows its own items
pub one_low : (items front us vs rest : List Entry) (level first count high : ℕ) (e : Entry) (es : List Entry) → items ≡ front ++ (us ++ (vs ++ rest)) → length front ≡ first → length us ≡ count → 1 ≤ count → e.low ≡ low_of items (span level first count) →
    Ascend high (us ++ vs) → AreLows (first + count) high vs es → AreLows first high (us ++ vs) (e ∷ es)
one_low items front us vs rest level first count high e es is before many some low ascend lows =
    let bound : bound_of es high ≡ bound_of vs high = lows.begins (omega (arith, some)) in
    let filled : 1 ≤ length us = omega (arith, many, some) in
    let one = low_over items front us (vs ++ rest) level first count (bound_of es high) e is before filled low in
    let start : bound_of (us ++ vs) high ≡ bound_of us (bound_of es high) = bound_append high us vs ∙ ap (bound_of us) (sym bound) in
    record {
      ascend = (strict us filled (subst (λ n. Ascend n us) (sym bound) (ascend_left high us vs ascend)) one.from, lows.ascend);
      begins = λ h. one.on h ∙ sym start;
      begins_zero = λ h k. one.none h;
    }
  where
    strict : (us : List Entry) → 1 ≤ length us → Ascend (bound_of es high) us → e.low ≤ bound_of us (bound_of es high) → e.low < bound_of es high
    strict [] filled h le = absurd (omega (arith, filled))
    strict (u ∷ us) filled h le = omega (arith, h.0, le, ascend_bound (bound_of es high) us h.1)

-- ---- the items of a span

-- the low of an entry is that of a node over a span
abbrev pub IsLowOf : List Entry → Span → Entry → Type 0
IsLowOf items s e = e.low ≡ low_of items s

-- the lows of the items of a span ascend, up to a bound
abbrev pub Rises : ℕ → List Entry → Span → Type 0
Rises high items s = Ascend high (children_in items s)

-- what is said of each span of a level, and of the lows of nodes over them
record AreRisen (level half first n count high : ℕ) (items xs : List Entry) : Type 0 where
  pub rises : AllByRecursion (Rises high items) (cut level half first n count)
  pub lows : (es : List Entry) → AllZip (IsLowOf items) (cut level half first n count) es → AreLows first high xs es

risen : (level half k first count high : ℕ) (items front xs rest : List Entry) → 2 ≤ half → items ≡ front ++ (xs ++ rest) → length front ≡ first → length xs ≡ count → suc k * half ≤ count → Ascend high xs →
    AreRisen level half first (suc k) count high items xs
unfolding cut
risen level half zero first count high items front xs rest two is before many low ascend =
    let whole : items ≡ front ++ (xs ++ ([] ++ rest)) = is in
    record {
      rises = (subst (Ascend high) (sym (in_span items front xs rest level first count is before many)) ascend, tt);
      lows = ends whole;
    }
  where
    ends : items ≡ front ++ (xs ++ ([] ++ rest)) → (es : List Entry) → AllZip (IsLowOf items) (span level first count ∷ []) es → AreLows first high xs es
    ends whole [] h = absurd h
    ends whole (e ∷ f ∷ es) h = absurd h.1
    ends whole (e ∷ []) h =
        let all = append-nil xs in
        subst (λ xs. AreLows first high xs (e ∷ [])) all
        (one_low items front xs [] rest level first count high e [] whole before many (omega (arith, two, low)) h.0 (subst (Ascend high) (sym all) ascend) (no_lows (first + count) high))
risen level half (suc more) first count high items front xs rest two is before many low ascend =
    let us = take half xs in
    let vs = drop half xs in
    let e1 : suc (suc more) * half ≡ suc more * half + half = suc-mul (suc more) half in
    let here : half ≤ length xs = omega (arith, many, low, e1) in
    let whole : us ++ vs ≡ xs = take-append-drop half xs in
    let long : length us ≡ half = length-take-le half xs here in
    let left : length vs ≡ count - half = length-drop half xs ∙ ap (λ m. m - half) many in
    let both : Ascend high (us ++ vs) = subst (Ascend high) (sym whole) ascend in
    let is' : items ≡ front ++ (us ++ (vs ++ rest)) = split_middle items front xs us vs rest is whole in
    let next : items ≡ (front ++ us) ++ (vs ++ rest) = regrouped items front us (vs ++ rest) is' in
    let behind : length (front ++ us) ≡ first + half = length-append front us ∙ (λ i. before i + long i) in
    let on = risen level half more (first + half) (count - half) high items (front ++ us) vs rest two next behind left (omega (arith, low, e1)) (ascend_right high us vs both) in
    let first_up = ascend_wider (bound_of vs high) high us (ascend_bound high vs (ascend_right high us vs both)) (ascend_left high us vs both) in
    record {
      rises = (subst (Ascend high) (sym (in_span items front us (vs ++ rest) level first half is' before long)) first_up, on.rises);
      lows = goes us vs whole is' long both on.lows;
    }
  where
    goes : (us vs : List Entry) → us ++ vs ≡ xs → items ≡ front ++ (us ++ (vs ++ rest)) → length us ≡ half → Ascend high (us ++ vs) →
        ((es : List Entry) → AllZip (IsLowOf items) (cut level half (first + half) (suc more) (count - half)) es → AreLows (first + half) high vs es) →
        (es : List Entry) → AllZip (IsLowOf items) (span level first half ∷ cut level half (first + half) (suc more) (count - half)) es → AreLows first high xs es
    goes us vs whole is' long both on [] h = absurd h
    goes us vs whole is' long both on (e ∷ es) h =
        subst (λ xs. AreLows first high xs (e ∷ es)) whole
        (one_low items front us vs rest level first half high e es is' before long (omega (arith, two)) h.0 both (on es h.1))

level_risen : (level half n first count high : ℕ) (items front xs rest : List Entry) → 2 ≤ half → AreOver half count n → items ≡ front ++ (xs ++ rest) → length front ≡ first → length xs ≡ count → Ascend high xs → AreRisen level half first n count high items xs
level_risen level half zero first count high items front xs rest two are is before many ascend = absurd (omega (arith, are.least))
level_risen level half (suc k) first count high items front xs rest two are is before many ascend = risen level half k first count high items front xs rest two is before many are.within ascend

-- an element of two lists is in the first, or behind it
abbrev Behind : {A : Type 0} → List A → List A → List A → List A → A → Type 0
Behind xs ys done rest s = (here : List _) × (done ≡ xs ++ here) × (ys ≡ here ++ s ∷ rest)

where_is : {A : Type 0} (P : A → Type 0) (xs ys done rest : List A) (s : A) → xs ++ ys ≡ done ++ s ∷ rest → (AllByRecursion P xs → P s) ⊎ Behind xs ys done rest s
where_is P [] ys done rest s is = inr (done, refl, is)
where_is P (x ∷ xs) ys [] rest s is = inl (λ all. let same : x ≡ s = cc in subst P same all.0)
where_is P (x ∷ xs) ys (d ∷ ds) rest s is = by (where_is P xs ys ds rest s (let same : xs ++ ys ≡ ds ++ s ∷ rest = cc in same))
  where
    by : (AllByRecursion P xs → P s) ⊎ Behind xs ys ds rest s → (AllByRecursion P (x ∷ xs) → P s) ⊎ Behind (x ∷ xs) ys (d ∷ ds) rest s
    by (inl f) = inl (λ all. f all.1)
    by (inr r) = let same : d ≡ x = cc in inr (r.0, (λ i. same i ∷ r.1 i), r.2)

abbrev NextRises : ℕ → ℕ → List Entry → ℕ → Type 0
NextRises order high items fuel = (level first count : ℕ) (front xs es : List Entry) (done rest : List Span) (s : Span) → items ≡ front ++ (xs ++ es) → length front ≡ first → length xs ≡ count → Ascend high xs →
    shape_from fuel order level first count ≡ done ++ s ∷ rest → AllZip (IsLowOf items) done es → Rises high items s

more_rises : (order high : ℕ) (items : List Entry) (more level first count : ℕ) (front xs es : List Entry) (done rest : List Span) (s : Span) → IsHalf order (order / 2) → NextRises order high items more → order < count →
    items ≡ front ++ (xs ++ es) → length front ≡ first → length xs ≡ count → Ascend high xs →
    cut level (order / 2) first (count / (order / 2)) count ++ shape_from more order (suc level) (first + count) (count / (order / 2)) ≡ done ++ s ∷ rest → AllZip (IsLowOf items) done es → Rises high items s
more_rises order high items more level first count front xs es done rest s half on lt is before many ascend shape lows =
    by (where_is (Rises high items) (cut level (order / 2) first (count / (order / 2)) count) (shape_from more order (suc level) (first + count) (count / (order / 2))) done rest s shape)
  where
    by : (AllByRecursion (Rises high items) (cut level (order / 2) first (count / (order / 2)) count) → Rises high items s) ⊎ Behind (cut level (order / 2) first (count / (order / 2)) count) (shape_from more order (suc level) (first + count) (count / (order / 2))) done rest s → Rises high items s
    by (inl f) = f (level_risen level (order / 2) (count / (order / 2)) first count high items front xs es half.least (over order (order / 2) count half lt) is before many ascend).rises
    by (inr r) =
        let n = count / (order / 2) in
        let here = cut level (order / 2) first n count in
        let both = zip_split (IsLowOf items) here r.0 es (subst (λ ss. AllZip (IsLowOf items) ss es) r.1 lows) in
        let is' : items ≡ front ++ (xs ++ (both.left ++ both.right)) = split_behind items front xs es both.left both.right is both.is in
        let next : items ≡ (front ++ xs) ++ (both.left ++ both.right) = regrouped items front xs (both.left ++ both.right) is' in
        let up = (level_risen level (order / 2) n first count high items front xs es half.least (over order (order / 2) count half lt) is before many ascend).lows both.left both.on_left in
        on (suc level) (first + count) n (front ++ xs) both.left both.right r.0 rest s next (length-append front xs ∙ (λ i. before i + many i))
        (zip_length (IsLowOf items) here both.left both.on_left ∙ length_cut level (order / 2) first n count) up.ascend r.2 both.on_right

next_rises : (order high : ℕ) (items : List Entry) (fuel : ℕ) → IsHalf order (order / 2) → NextRises order high items fuel
unfolding shape_from
next_rises order high items zero half level first count front xs es [] rest s is before many ascend shape lows = absurd (cc)
next_rises order high items zero half level first count front xs es (d ∷ done) rest s is before many ascend shape lows = absurd (cc)
next_rises order high items (suc more) half level first count front xs es done rest s is before many ascend shape lows = by (next_rises order high items more half) (fits_or_not order count)
  where
    by : NextRises order high items more → (count ≤ order) ⊎ (order < count) → Rises high items s
    by on (inl fits) = one (sym (shape_one more order level first count fits) ∙ shape)
      where
        one : span level first count ∷ [] ≡ done ++ s ∷ rest → Rises high items s
        one is_one = found (where_is (Rises high items) (span level first count ∷ []) [] done rest s is_one)
          where
            found : (AllByRecursion (Rises high items) (span level first count ∷ []) → Rises high items s) ⊎ Behind (span level first count ∷ []) [] done rest s → Rises high items s
            found (inl f) = f (subst (Ascend high) (sym (in_span items front xs es level first count is before many)) ascend, tt)
            found (inr r) = none r.0 r.2
              where
                none : (ss : List Span) → [] ≡ ss ++ s ∷ rest → Rises high items s
                none [] e = absurd (cc)
                none (x ∷ ss) e = absurd (cc)
    by on (inr lt) = more_rises order high items more level first count front xs es done rest s half on lt is before many ascend (sym (shape_more more order level first count lt) ∙ shape) lows

-- where the nodes before it have the lows of their spans, the lows of the items of the next span ascend, and are below the blocks
pub children_rise : (order blocks : ℕ) (records nodes : List Entry) (done rest : List Span) (s : Span) → IsShaped order (length records) → AreInOrder blocks records → shape_of order (length records) ≡ done ++ s ∷ rest →
    AllZip (IsLowOf (records ++ nodes)) done nodes → IsStrictlyIncreasing (map (λ (e : Entry). e.low) (children_in (records ++ nodes) s)) × All (λ (e : Entry). e.low < blocks) (children_in (records ++ nodes) s)
children_rise order blocks records nodes done rest s shaped ordered shape lows =
    let up = next_rises order blocks (records ++ nodes) 20 (shaped_halves order (length records) shaped) 1 0 (length records) [] records nodes done rest s refl refl refl (ascend_lows blocks records ordered.ascend ordered.lows) shape lows in
    (lows_ascend blocks (children_in (records ++ nodes) s) up, ascend_below blocks (children_in (records ++ nodes) s) up)
