-- Rules 6, 7 and 8, from what the looks answer.
use Rattle.std.proofs.Common.{◌≡◌, ◌≢◌, ◌⊎◌, inl, inr, ◌↔◌, ℕ, zero, suc, ◌<◌, ◌||◌, true, false, Option, None, Some, List, [], ◌∷◌, length, get_or, take, refl, sym, ap, subst, ◌∙◌, arith}
use Rattle.std.specs.Prelude.{Contains, AllPairs, slice_get, slice_index, option_map}
use Rattle.std.specs.Ordering.{nat_cmp}
use Rattle.std.specs.BTreeMap.{BTreeMap, get}
use Rattle.std.specs.BTreeSet.{BTreeSet, contains}
use Rattle.std.proofs.lemmas.Bool.{cases_lt, cases_order, cases_Bool, both_ways, or_cases, or_left, or_right}
use Rattle.std.proofs.lemmas.List.{take-map}
use Rattle.std.proofs.lemmas.Option.{none-some, same_Some, slice_get-map, slice_get-get_or, slice_get_within, get_or_from_slice_get}
use Rattle.key_graph.specs.Trace.{Entries, Has, IsChild, entry_in}
use Rattle.sdbt_base.specs.Traces.{NodeOver, Traced}
use Rattle.cert_maker.specs.Cert.{Cert}
use Rattle.cert_checker.specs.declared.held.Held.{Held}
use Rattle.cert_checker.specs.declared.held.Held.TheVariants.{Data, Node}
use Rattle.cert_checker.specs.declared.held.Placed.{Placed}
use Rattle.cert_checker.specs.declared.live.Live.{Live}
use Rattle.cert_checker.specs.declared.numbers.Last.{Last}
use Rattle.cert_checker.specs.Rules.{is_listed, added_by, IsFresh, GoesFromTheTop, IsHandedOver, TakesOver, TakesOnce, HangsTogether}
use Rattle.cert_checker.specs.First.{added_addrs, IsChildAt, IsFirstChild, IsMetAgain, BreaksTakeover, BreaksOnce, BreaksTogether, IsLoose}
use Rattle.cert_checker.specs.Succession.{IsTreeOrNone, root_of}
use Rattle.cert_checker.specs.Held.{live_of, children_held, trace_of_held, traced_of, traced_all}
use Rattle.cert_checker.specs.Kept.{all_children, children_of}
use Rattle.cert_checker.specs.Looks.{Ascends, FirstOf, FirstAmong, FirstUnfit, FirstAgain, children_before, IsFit, IsLeft, IsOrphan, HasTaken}
use Rattle.cert_checker.specs.Settles.{Tells, Stands}
use Rattle.cert_checker.proofs.AfterLaws.{has_or_not, has_not, listed, listed_contains}
use Rattle.cert_checker.proofs.FirstLaws.{contains_at, in_added, mapped}
use Rattle.cert_checker.proofs.ListLaws.{Climbs, get_contained, contains_or_not, least_is, climbs_at, place_below, same_place, child_at, found_child, first_child, added_in}
use Rattle.cert_checker.proofs.TakenLaws.{all_of, one_of, taken_is, taken_back}

-- ---- items and what the list says of them

held_children : (held : Held) → children_of (trace_of_held held) ≡ children_held held
held_children (Data block) = refl
held_children (Node children) = refl

item_traced : (items : List Placed) (i : ℕ) (item : Placed) → slice_get items i ≡ Some item → slice_get (traced_all items) i ≡ Some (traced_of item)
item_traced items i item at = slice_get-map traced_of items i ∙ ap (option_map traced_of) at

traced_item : (items : List Placed) (i : ℕ) (t : Traced) → slice_get (traced_all items) i ≡ Some t → (item : Placed) × (slice_get items i ≡ Some item) × (traced_of item ≡ t)
traced_item items i t at = go (slice_get items i) refl
  where
    go : (o : Option Placed) → slice_get items i ≡ o → (item : Placed) × (slice_get items i ≡ Some item) × (traced_of item ≡ t)
    go None is = absurd (none-some t (ap (option_map traced_of) (sym is) ∙ sym (slice_get-map traced_of items i) ∙ at))
    go (Some item) is = (item, is, same_Some (traced_of item) t (ap (option_map traced_of) (sym is) ∙ sym (slice_get-map traced_of items i) ∙ at))

-- ---- rule 6

orphan_or_not : (parents : BTreeMap ℕ ℕ) (gone : List ℕ) (a : ℕ) → IsOrphan parents gone a ⊎ (IsOrphan parents gone a → ⊥)
orphan_or_not parents gone a = go (get nat_cmp parents a) refl
  where
    go : (o : Option ℕ) → get nat_cmp parents a ≡ o → IsOrphan parents gone a ⊎ (IsOrphan parents gone a → ⊥)
    go None is = inr (λ orphan. none-some orphan.parent (sym is ∙ orphan.is))
    go (Some p) is = elim (contains_or_not gone p) [
      | inl goes ↦ inl (record { parent = p; is = is; goes = goes })
      | inr stays ↦ inr (λ orphan. stays (subst (λ (x : ℕ). Contains gone x) (same_Some orphan.parent p (sym orphan.is ∙ is)) orphan.goes))
    ]

left_or_not : (live : BTreeMap ℕ Held) (parents : BTreeMap ℕ ℕ) (gone : List ℕ) (a : ℕ) → IsLeft live parents gone a ⊎ (IsLeft live parents gone a → ⊥)
left_or_not live parents gone a = elim (has_or_not (live_of live) a) [
  | inl none ↦ inr (λ left. has_not (live_of live) a left.live_before none)
  | inr has ↦ elim (contains_or_not gone a) [
    | inl goes ↦ inr (λ left. left.stays goes)
    | inr stays ↦ elim (orphan_or_not parents gone a) [
      | inl orphan ↦ inl (record { live_before = has; stays = stays; orphan = orphan })
      | inr not ↦ inr (λ left. not left.orphan)
    ]
  ]
]

fit_or_not : (live : BTreeMap ℕ Held) (parents : BTreeMap ℕ ℕ) (addrs gone : List ℕ) (node child : ℕ) → IsFit live parents addrs gone node child ⊎ (IsFit live parents addrs gone node child → ⊥)
fit_or_not live parents addrs gone node child = elim (cases_lt child node) [
  | inr high ↦ inr (λ fit. let low = fit.below in absurd (omega arith))
  | inl below ↦ elim (contains_or_not addrs child) [
    | inl added ↦ inl (record { below = below; from = inl added })
    | inr not_added ↦ elim (left_or_not live parents gone child) [
      | inl left ↦ inl (record { below = below; from = inr left })
      | inr not_left ↦ inr (λ fit. elim fit.from [ inl added ↦ not_added added | inr left ↦ not_left left ])
    ]
  ]
]

-- a child is below, and is added or handed over
abbrev Fits : Entries → Cert → ℕ → ℕ → Type 0
Fits live cert parent child = (child < parent) × (Has (added_by cert) child ⊎ IsHandedOver live cert child)

-- a live address that stays, while the root goes, has the parent that is kept
above_is : (live : Entries) (former : Option Cert) (cert : Cert) (a : ℕ) → IsTreeOrNone live (root_of former) → GoesFromTheTop live former cert → Has live a → (Contains cert.gone a → ⊥) → (p : ℕ) × IsChild live p a
above_is live None cert a none goes has stays = has_not live a has (none a)
above_is live (Some former) cert a tree goes has stays = tree.parent a has (λ same. stays (subst (λ (x : ℕ). Contains cert.gone x) (sym same) goes.root))

fit_is : (live : Live) (last : Option Last) (former : Option Cert) (cert : Cert) (node child : ℕ) → Stands live last former → GoesFromTheTop (live_of live.entries) former cert → IsFit live.entries live.parents (added_addrs cert) cert.gone node child ↔ Fits (live_of live.entries) cert node child
fit_is live last former cert node child stands goes = (
  λ fit. (
    fit.below,
    elim fit.from [
      | inl added ↦ inl (in_added cert.added child added)
      | inr left ↦ inr
          (let above = above_is (live_of live.entries) former cert child stands.tree goes left.live_before left.stays in
          let one : above.0 ≡ left.orphan.parent = same_Some above.0 left.orphan.parent (sym (stands.parents above.0 child above.1) ∙ left.orphan.is) in
          record { live_before = left.live_before; stays = left.stays; parent = above.0; child = above.1; parent_goes = subst (λ (a : ℕ). Contains cert.gone a) (sym one) left.orphan.goes })
    ],
  ),
  λ both. record {
    below = both.0;
    from = elim both.1 [
      | inl added ↦ inl (added_in cert.added child added)
      | inr over ↦ inr (record {
        live_before = over.live_before;
        stays = over.stays;
        orphan = record { parent = over.parent; is = stands.parents over.parent child over.child; goes = over.parent_goes };
      })
    ];
  },
)

module _ (live : Live) (last : Option Last) (former : Option Cert) (cert : Cert) (items : List Placed) (stands : Stands live last former) (goes : GoesFromTheTop (live_of live.entries) former cert)
    (same : traced_all items ≡ cert.added) (asc : Climbs (traced_all items)) where
  abbrev unfit : ℕ → Type 0
  unfit v = IsFirstChild (entry_in (traced_all items)) (λ parent place child. Fits (live_of live.entries) cert parent child → ⊥) v

  -- no child of an item is unfit where none was found
  none_unfit : (i : ℕ) (item : Placed) → FirstUnfit live.entries live.parents (added_addrs cert) cert.gone i item None → (t : Traced) → traced_of item ≡ t → (k c : ℕ) → slice_get (children_of t.trace) k ≡ Some c → (Fits (live_of live.entries) cert t.addr c → ⊥) → ⊥
  none_unfit i item none t is k c at bad =
      let at' : slice_get (children_held item.held) k ≡ Some c = ap (λ (xs : List ℕ). slice_get xs k) (sym (held_children item.held)) ∙ ap (λ (x : Traced). slice_get (children_of x.trace) k) is ∙ at in
      let e = get_or_from_slice_get (children_held item.held) k c 0 at' in
      none k (slice_get_within (children_held item.held) k c at')
      (λ fit. bad (subst (λ (x : Traced). Fits (live_of live.entries) cert x.addr c) is
      ((fit_is live last former cert item.addr c stands goes).0 (subst (λ (x : ℕ). IsFit live.entries live.parents (added_addrs cert) cert.gone item.addr x) e fit))))

  takes_over : FirstAmong (FirstUnfit live.entries live.parents (added_addrs cert) cert.gone) items None → (p c : ℕ) → IsChild (entry_in (traced_all items)) p c → Fits (live_of live.entries) cert p c
  takes_over none p c child =
      let k = get_contained child.children c child.inside in
      let found = found_child (traced_all items) p k.0 c (record { children = child.children; node = child.node; at = k.1 }) in
      let item = traced_item items found.0 found.1 found.2 in
      elim (fit_or_not live.entries live.parents (added_addrs cert) cert.gone p c) [
        | inl fit ↦ (fit_is live last former cert p c stands goes).0 fit
        | inr not ↦ absurd (none_unfit found.0 item.0 (none found.0 item.0 item.1) found.1 item.2 k.0 c found.4
            (λ fits. not ((fit_is live last former cert p c stands goes).1 (subst (λ (x : ℕ). Fits (live_of live.entries) cert x c) found.3 fits))))
      ]

  first_unfit : (v : ℕ) → FirstAmong (FirstUnfit live.entries live.parents (added_addrs cert) cert.gone) items (Some v) → unfit v
  first_unfit v first =
      let i = first.0 in
      let item = first.1 in
      let here = first.3 in
      let children = children_held item.held in
      let at : slice_get children here.0 ≡ Some v = slice_get-get_or children here.0 0 here.1 ∙ ap (λ (y : ℕ). Some y) here.2 in
      first_child (traced_all items) asc (λ parent place child. Fits (live_of live.entries) cert parent child → ⊥) i (traced_of item) (item_traced items i item first.2) here.0 v
      (ap (λ (xs : List ℕ). slice_get xs here.0) (held_children item.held) ∙ at)
      (λ fits. here.3 (subst (λ (x : ℕ). IsFit live.entries live.parents (added_addrs cert) cert.gone item.addr x) (sym here.2) ((fit_is live last former cert item.addr v stands goes).1 fits)))
      (λ j u low at' m c at'' bad. let other = traced_item items j u at' in none_unfit j other.0 (first.4 j other.0 low other.1) u other.2 m c at'' bad)
      (λ m c low at' bad.
      let at'' : slice_get children m ≡ Some c = ap (λ (xs : List ℕ). slice_get xs m) (sym (held_children item.held)) ∙ at' in
      here.4 m low (λ fit. bad ((fit_is live last former cert item.addr c stands goes).0 (subst (λ (x : ℕ). IsFit live.entries live.parents (added_addrs cert) cert.gone item.addr x) (get_or_from_slice_get children m c 0 at'') fit))))

pub tells_children : (live : Live) (last : Option Last) (former : Option Cert) (cert : Cert) (items : List Placed) (addrs gone : List ℕ) (answer : Option ℕ) → Stands live last former → GoesFromTheTop (live_of live.entries) former cert
    → traced_all items ≡ cert.added → addrs ≡ added_addrs cert → gone ≡ cert.gone → IsFresh cert
    → FirstAmong (FirstUnfit live.entries live.parents addrs gone) items answer → Tells (TakesOver (live_of live.entries) cert) (BreaksTakeover (live_of live.entries) cert) answer
tells_children live last former cert items addrs gone answer stands goes same same' same'' fresh first' =
    let first = subst (λ (xs : List ℕ). FirstAmong (FirstUnfit live.entries live.parents xs cert.gone) items answer) same' (subst (λ (ys : List ℕ). FirstAmong (FirstUnfit live.entries live.parents addrs ys) items answer) same'' first') in
    let asc = subst (λ (ts : List Traced). Climbs ts) (sym same) fresh.added_ascend in
    go answer asc first
  where
    go : (answer : Option ℕ) → Climbs (traced_all items) → FirstAmong (FirstUnfit live.entries live.parents (added_addrs cert) cert.gone) items answer → Tells (TakesOver (live_of live.entries) cert) (BreaksTakeover (live_of live.entries) cert) answer
    go None asc first = subst (λ (ts : List Traced). (p c : ℕ) → IsChild (entry_in ts) p c → Fits (live_of live.entries) cert p c) same (takes_over live last former cert items stands goes same asc first)
    go (Some v) asc first = subst (λ (ts : List Traced). IsFirstChild (entry_in ts) (λ parent place child. Fits (live_of live.entries) cert parent child → ⊥) v) same (first_unfit live last former cert items stands goes same asc v first)

-- ---- rule 7

-- a child stands among the children of the items before, or before it among its own
abbrev IsAgain : List Traced → ℕ → Traced → ℕ → ℕ → Type 0
IsAgain ts i t k c = (is_listed (all_children (take i ts)) c || is_listed (take k (children_of t.trace)) c) ≡ true

get_take : {X : Type 0} (xs : List X) (n i : ℕ) (x : X) → slice_get (take n xs) i ≡ Some x → (i < n) × (slice_get xs i ≡ Some x)
get_take [] zero i x at = absurd (none-some x at)
get_take [] (suc n) i x at = absurd (none-some x at)
get_take (y ∷ ys) zero i x at = absurd (none-some x at)
get_take (y ∷ ys) (suc n) zero x at = (omega arith, at)
get_take (y ∷ ys) (suc n) (suc i) x at = let rest = get_take ys n i x at in (omega (arith, rest.0), rest.1)

take_get : {X : Type 0} (xs : List X) (n i : ℕ) (x : X) → i < n → slice_get xs i ≡ Some x → slice_get (take n xs) i ≡ Some x
take_get [] n i x low at = absurd (none-some x at)
take_get (y ∷ ys) zero i x low at = absurd (omega arith)
take_get (y ∷ ys) (suc n) zero x low at = at
take_get (y ∷ ys) (suc n) (suc i) x low at = take_get ys n i x (omega arith) at

module _ (ts : List Traced) (asc : Climbs ts) where
  again_is : (i : ℕ) (t : Traced) (k c : ℕ) → slice_get ts i ≡ Some t → slice_get (children_of t.trace) k ≡ Some c → IsAgain ts i t k c → IsMetAgain (entry_in ts) t.addr k c
  again_is i t k c at at' again = elim (or_cases (is_listed (all_children (take i ts)) c) (is_listed (take k (children_of t.trace)) c) again) [
    | inl before ↦
        (let one = one_of (take i ts) c before in
        let there = get_take ts i one.0 one.1 one.2 in
        let m = get_contained (children_of one.1.trace) c one.3 in
        record { other = one.1.addr; other_place = m.0; before = inl (climbs_at ts one.0 i one.1 t asc there.0 there.1 at); same = child_at ts one.0 one.1 m.0 c asc there.1 m.1 })
    | inr own ↦
        (let m = get_contained (take k (children_of t.trace)) c (listed_contains (take k (children_of t.trace)) c own) in
        let there = get_take (children_of t.trace) k m.0 c m.1 in
        record { other = t.addr; other_place = m.0; before = inr (refl, there.0); same = child_at ts i t m.0 c asc at there.1 })
  ]

  again_back : (i : ℕ) (t : Traced) (k c : ℕ) → slice_get ts i ≡ Some t → IsMetAgain (entry_in ts) t.addr k c → IsAgain ts i t k c
  again_back i t k c at met =
      let found = found_child ts met.other met.other_place c met.same in
      elim met.before [
        | inl low ↦
            (let below = place_below ts found.0 i found.1 t asc found.2 at (omega (arith, found.3)) in
            or_left (is_listed (all_children (take i ts)) c) (is_listed (take k (children_of t.trace)) c)
            (all_of (take i ts) found.0 found.1 c (take_get ts i found.0 found.1 below found.2)
            (listed (children_of found.1.trace) c (contains_at (children_of found.1.trace) met.other_place c found.4))))
        | inr here ↦
            (let one : found.0 ≡ i = same_place ts found.0 i found.1 t asc found.2 at (found.3 ∙ here.0) in
            let same : found.1 ≡ t = same_Some found.1 t (sym found.2 ∙ ap (slice_get ts) one ∙ at) in
            let mine : slice_get (children_of t.trace) met.other_place ≡ Some c = ap (λ (x : Traced). slice_get (children_of x.trace) met.other_place) (sym same) ∙ found.4 in
            or_right (is_listed (all_children (take i ts)) c) (is_listed (take k (children_of t.trace)) c)
            (listed (take k (children_of t.trace)) c
            (contains_at (take k (children_of t.trace)) met.other_place c (take_get (children_of t.trace) k met.other_place c here.1 mine))))
      ]

  -- where no child is met again, each is taken once
  module _ (none : (i : ℕ) (t : Traced) → slice_get ts i ≡ Some t → (k c : ℕ) → slice_get (children_of t.trace) k ≡ Some c → IsAgain ts i t k c → ⊥) where
    none_met : (p k c : ℕ) → IsChildAt (entry_in ts) p k c → IsMetAgain (entry_in ts) p k c → ⊥
    none_met p k c child met =
        let found = found_child ts p k c child in
        none found.0 found.1 found.2 k c found.4 (again_back found.0 found.1 k c found.2 (subst (λ (a : ℕ). IsMetAgain (entry_in ts) a k c) (sym found.3) met))

    one_taker : (one other child : ℕ) → IsChild (entry_in ts) one child → IsChild (entry_in ts) other child → one ≡ other
    one_taker one other child a b =
        let k = get_contained a.children child a.inside in
        let m = get_contained b.children child b.inside in
        let at : IsChildAt (entry_in ts) one k.0 child = record { children = a.children; node = a.node; at = k.1 } in
        let at' : IsChildAt (entry_in ts) other m.0 child = record { children = b.children; node = b.node; at = m.1 } in
        elim (cases_order one other) [
          | inl same ↦ same
          | inr apart ↦ elim apart [
            | inl low ↦ absurd (none_met other m.0 child at' (record { other = one; other_place = k.0; before = inl low; same = at }))
            | inr high ↦ absurd (none_met one k.0 child at (record { other = other; other_place = m.0; before = inl high; same = at' }))
          ]
        ]

    taken_once : (addr : ℕ) (children : List ℕ) → entry_in ts addr ≡ Some (NodeOver children) → AllPairs (λ a b. a ≢ b) children
    taken_once addr children node = λ i j d low inside same.
        let x = get_or children j d in
        let at : slice_get children i ≡ Some x = slice_get-get_or children i d (omega arith) ∙ ap (λ (y : ℕ). Some y) same in
        none_met addr j x (record { children = children; node = node; at = slice_get-get_or children j d inside })
        (record { other = addr; other_place = i; before = inr (refl, low); same = record { children = children; node = node; at = at } })

-- what the code asks is whether a child is met again
module _ (items : List Placed) where
  same_test : (i : ℕ) (item : Placed) (k x c : ℕ) → x ≡ c
      → (is_listed (children_before items i) x || is_listed (take k (children_held item.held)) x) ≡ (is_listed (all_children (take i (traced_all items))) c || is_listed (take k (children_of (traced_of item).trace)) c)
  same_test i item k x c is =
      ap (λ (y : ℕ). is_listed (children_before items i) y || is_listed (take k (children_held item.held)) y) is
      ∙ ap (λ (ts : List Traced). is_listed (all_children ts) c || is_listed (take k (children_held item.held)) c) (sym (take-map traced_of i items))
      ∙ ap (λ (xs : List ℕ). is_listed (all_children (take i (traced_all items))) c || is_listed (take k xs) c) (sym (held_children item.held))

  none_again : (i : ℕ) (item : Placed) → FirstAgain items i item None → (k c : ℕ) → slice_get (children_of (traced_of item).trace) k ≡ Some c → IsAgain (traced_all items) i (traced_of item) k c → ⊥
  none_again i item none k c at again =
      let at' : slice_get (children_held item.held) k ≡ Some c = ap (λ (xs : List ℕ). slice_get xs k) (sym (held_children item.held)) ∙ at in
      none k (slice_get_within (children_held item.held) k c at')
      (same_test i item k (get_or (children_held item.held) k 0) c (get_or_from_slice_get (children_held item.held) k c 0 at') ∙ again)

  none_again_of : (i : ℕ) (item : Placed) (t : Traced) → traced_of item ≡ t → FirstAgain items i item None → (k c : ℕ) → slice_get (children_of t.trace) k ≡ Some c → IsAgain (traced_all items) i t k c → ⊥
  none_again_of i item t is none = subst (λ (x : Traced). (k c : ℕ) → slice_get (children_of x.trace) k ≡ Some c → IsAgain (traced_all items) i x k c → ⊥) is (none_again i item none)

  takes_once : Climbs (traced_all items) → FirstAmong (FirstAgain items) items None → (cert : Cert) → traced_all items ≡ cert.added → TakesOnce cert
  takes_once asc none cert same =
      let no_again : (i : ℕ) (t : Traced) → slice_get (traced_all items) i ≡ Some t → (k c : ℕ) → slice_get (children_of t.trace) k ≡ Some c → IsAgain (traced_all items) i t k c → ⊥
      = λ i t at. let item = traced_item items i t at in none_again_of i item.0 t item.2 (none i item.0 item.1) in
      record {
        by_one = subst (λ (ts : List Traced). (one other child : ℕ) → IsChild (entry_in ts) one child → IsChild (entry_in ts) other child → one ≡ other) same (one_taker (traced_all items) asc no_again);
        once = subst (λ (ts : List Traced). (addr : ℕ) (children : List ℕ) → entry_in ts addr ≡ Some (NodeOver children) → AllPairs (λ a b. a ≢ b) children) same (taken_once (traced_all items) asc no_again);
      }

  met_again : (v : ℕ) → Climbs (traced_all items) → FirstAmong (FirstAgain items) items (Some v) → IsFirstChild (entry_in (traced_all items)) (IsMetAgain (entry_in (traced_all items))) v
  met_again v asc first =
      let i = first.0 in
      let item = first.1 in
      let here = first.3 in
      let children = children_held item.held in
      let ts = traced_all items in
      let there = item_traced items i item first.2 in
      let at : slice_get children here.0 ≡ Some v = slice_get-get_or children here.0 0 here.1 ∙ ap (λ (y : ℕ). Some y) here.2 in
      let at' : slice_get (children_of (traced_of item).trace) here.0 ≡ Some v = ap (λ (xs : List ℕ). slice_get xs here.0) (held_children item.held) ∙ at in
      first_child ts asc (IsMetAgain (entry_in ts)) i (traced_of item) there here.0 v at'
      (again_is ts asc i (traced_of item) here.0 v there at' (sym (same_test i item here.0 (get_or children here.0 0) v here.2) ∙ here.3))
      (λ j u low at2 m c at3 met. let other = traced_item items j u at2 in
      none_again_of j other.0 u other.2 (first.4 j other.0 low other.1) m c at3 (again_back ts asc j u m c at2 met))
      (λ m c low at2 met.
      let at3 : slice_get children m ≡ Some c = ap (λ (xs : List ℕ). slice_get xs m) (sym (held_children item.held)) ∙ at2 in
      here.4 m low (same_test i item m (get_or children m 0) c (get_or_from_slice_get children m c 0 at3) ∙ again_back ts asc i (traced_of item) m c there met))

pub tells_once : (cert : Cert) (items : List Placed) (answer : Option ℕ) → traced_all items ≡ cert.added → IsFresh cert → FirstAmong (FirstAgain items) items answer → Tells (TakesOnce cert) (BreaksOnce cert) answer
tells_once cert items None same fresh first = takes_once items (subst (λ (ts : List Traced). Climbs ts) (sym same) fresh.added_ascend) first cert same
tells_once cert items (Some v) same fresh first =
    subst (λ (ts : List Traced). IsFirstChild (entry_in ts) (IsMetAgain (entry_in ts)) v) same
    (met_again items v (subst (λ (ts : List Traced). Climbs ts) (sym same) fresh.added_ascend) first)

-- ---- rule 8

abbrev IsBadRoot : List ℕ → ℕ → BTreeSet ℕ → ℕ → Type 0
IsBadRoot addrs root taken k = ((slice_index addrs k ≡ root) → ⊥) × (contains nat_cmp taken (slice_index addrs k) ≡ false)

pub addrs_ascend : (cert : Cert) (addrs : List ℕ) → addrs ≡ added_addrs cert → IsFresh cert → Ascends addrs
addrs_ascend cert addrs same fresh = subst (λ (xs : List ℕ). Ascends xs) (sym same) (mapped (λ (t : Traced). t.addr) cert.added fresh.added_ascend)

pub tells_no_root : (cert : Cert) (addrs : List ℕ) (root : ℕ) → addrs ≡ added_addrs cert → root ≡ cert.root → (Contains addrs root → ⊥) → BreaksTogether cert root
tells_no_root cert addrs root same is not = inl (is, λ has. not (subst (λ (xs : List ℕ). Contains xs root) (sym same) (subst (λ (x : ℕ). Contains (added_addrs cert) x) (sym is) (added_in cert.added cert.root has))))

module _ (cert : Cert) (addrs : List ℕ) (taken : BTreeSet ℕ) (same : addrs ≡ added_addrs cert) (fresh : IsFresh cert) (has : HasTaken cert.added taken) where
  loose_of : (k a : ℕ) → slice_get addrs k ≡ Some a → IsBadRoot addrs cert.root taken k → IsLoose cert a
  loose_of k a at bad =
      let e = get_or_from_slice_get addrs k a 0 at in
      record {
        added = in_added cert.added a (subst (λ (xs : List ℕ). Contains xs a) same (contains_at addrs k a at));
        other = λ is. bad.0 (e ∙ is);
        loose = λ is. both_ways (contains nat_cmp taken a) (ap (contains nat_cmp taken) (sym e) ∙ bad.1) (taken_back cert taken has a is);
      }

  of_loose : (k a : ℕ) → slice_get addrs k ≡ Some a → IsLoose cert a → IsBadRoot addrs cert.root taken k
  of_loose k a at loose =
      let e = get_or_from_slice_get addrs k a 0 at in (
        λ is. loose.other (sym e ∙ is),
        elim (cases_Bool (contains nat_cmp taken (get_or addrs k 0))) [
          | inl is_so ↦ absurd (loose.loose (taken_is cert taken fresh.added_ascend has a (ap (contains nat_cmp taken) (sym e) ∙ is_so)))
          | inr not_so ↦ not_so
        ],
      )

  hangs_together : Contains addrs cert.root → FirstOf (IsBadRoot addrs cert.root taken) (length addrs) (slice_index addrs) None → HangsTogether cert
  hangs_together root none = record {
    root = in_added cert.added cert.root (subst (λ (xs : List ℕ). Contains xs cert.root) same root);
    others = λ addr added other. elim (cases_Bool (contains nat_cmp taken addr)) [
      | inl is_so ↦ taken_is cert taken fresh.added_ascend has addr is_so
      | inr not_so ↦
          (let at = get_contained addrs addr (subst (λ (xs : List ℕ). Contains xs addr) (sym same) (added_in cert.added addr added)) in
          absurd (none at.0 (slice_get_within addrs at.0 addr at.1)
          (of_loose at.0 addr at.1 (record { added = added; other = other; loose = λ is. both_ways (contains nat_cmp taken addr) not_so (taken_back cert taken has addr is) }))))
    ];
  }

  breaks_together : (v : ℕ) → Contains addrs cert.root → FirstOf (IsBadRoot addrs cert.root taken) (length addrs) (slice_index addrs) (Some v) → BreaksTogether cert v
  breaks_together v root first = inr (
    in_added cert.added cert.root (subst (λ (xs : List ℕ). Contains xs cert.root) same root),
    least_is (IsBadRoot addrs cert.root taken) (IsLoose cert) addrs v (addrs_ascend cert addrs same fresh) loose_of of_loose
        (λ a loose. subst (λ (xs : List ℕ). Contains xs a) (sym same) (added_in cert.added a loose.added)) first,
  )

pub tells_together : (cert : Cert) (addrs : List ℕ) (taken : BTreeSet ℕ) (root : ℕ) (answer : Option ℕ) → addrs ≡ added_addrs cert → IsFresh cert → HasTaken cert.added taken → root ≡ cert.root → Contains addrs root
    → FirstOf (IsBadRoot addrs root taken) (length addrs) (slice_index addrs) answer → Tells (HangsTogether cert) (BreaksTogether cert) answer
tells_together cert addrs taken root answer same fresh has is inside first' =
    go answer (subst (λ (x : ℕ). FirstOf (IsBadRoot addrs x taken) (length addrs) (slice_index addrs) answer) is first')
  where
    there : Contains addrs cert.root
    there = subst (λ (x : ℕ). Contains addrs x) is inside

    go : (answer : Option ℕ) → FirstOf (IsBadRoot addrs cert.root taken) (length addrs) (slice_index addrs) answer → Tells (HangsTogether cert) (BreaksTogether cert) answer
    go None first = hangs_together cert addrs taken same fresh has there first
    go (Some v) first = breaks_together cert addrs taken same fresh has v there first
