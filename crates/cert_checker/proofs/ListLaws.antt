-- Places of lists, and what a look for the first bad place says.
use Rattle.std.proofs.Common.{◌≡◌, ◌⊎◌, inl, inr, ℕ, zero, suc, ◌<◌, ◌≤◌, None, Some, List, [], ◌∷◌, map, length, get_or, refl, sym, ap, subst, ◌∙◌, arith}
use Rattle.std.specs.Prelude.{Contains, AllPairs, slice_get, slice_index}
use Rattle.std.proofs.lemmas.Bool.{cases_eq, cases_lt, cases_Bool, eq-eqb, ne_eqb, both_ways}
use Rattle.std.proofs.lemmas.List.{get_or-map}
use Rattle.std.proofs.lemmas.Option.{none-some, same_Some, slice_get-get_or, slice_get_within, get_or_from_slice_get}
use Rattle.key_graph.specs.Trace.{Has, entry_in}
use Rattle.sdbt_base.specs.Traces.{TraceEntry, DataOf, NodeOver, Traced}
use Rattle.sdbt_base.specs.declared.lists.Unkept.{Unkept}
use Rattle.cert_checker.specs.Rules.{is_listed}
use Rattle.cert_checker.specs.First.{IsFirst, IsLeast, IsChildAt, IsFirstChild}
use Rattle.cert_checker.specs.Kept.{children_of}
use Rattle.cert_checker.specs.Looks.{Ascends, FirstOf}
use Rattle.cert_checker.proofs.AfterLaws.{listed, listed_contains}
use Rattle.cert_checker.proofs.FirstLaws.{contains_at}

-- ---- places

pub get_contained : (xs : List ℕ) (x : ℕ) → Contains xs x → (k : ℕ) × (slice_get xs k ≡ Some x)
get_contained xs x inside = (inside.0, slice_get-get_or xs inside.0 x inside.1 ∙ ap (λ (y : ℕ). Some y) inside.2)

pub contains_or_not : (xs : List ℕ) (x : ℕ) → Contains xs x ⊎ (Contains xs x → ⊥)
contains_or_not xs x = elim (cases_Bool (is_listed xs x)) [
  | inl is_so ↦ inl (listed_contains xs x is_so)
  | inr not_so ↦ inr (λ inside. both_ways (is_listed xs x) not_so (listed xs x inside))
]

pub rises : (xs : List ℕ) → Ascends xs → (i j : ℕ) → i ≤ j → j < length xs → get_or xs i 0 ≤ get_or xs j 0
rises xs asc i j most inside = elim (cases_eq i j) [
  | inl same ↦ omega (arith, ap (λ (k : ℕ). get_or xs k 0) same)
  | inr other ↦ (let up = asc i j 0 (omega arith) inside in omega arith)
]

-- ---- what was looked for

pub first_is : (Bad : ℕ → Type 0) (P : ℕ → ℕ → Type 0) (xs : List ℕ) (v : ℕ)
    → ((k a : ℕ) → slice_get xs k ≡ Some a → Bad k → P k a) → ((k a : ℕ) → slice_get xs k ≡ Some a → P k a → Bad k)
    → FirstOf Bad (length xs) (slice_index xs) (Some v) → IsFirst P xs v
first_is Bad P xs v to back first =
    let here : slice_get xs first.0 ≡ Some v = slice_get-get_or xs first.0 0 first.1 ∙ ap (λ (y : ℕ). Some y) first.2 in
    record { place = first.0; here = here; bad = to first.0 v here first.3; before = λ k other low at p. first.4 k low (back k other at p) }

pub none_is : (Bad : ℕ → Type 0) (P : ℕ → ℕ → Type 0) (xs : List ℕ)
    → ((k a : ℕ) → slice_get xs k ≡ Some a → P k a → Bad k)
    → FirstOf Bad (length xs) (slice_index xs) None → (k a : ℕ) → slice_get xs k ≡ Some a → P k a → ⊥
none_is Bad P xs back none k a at p = none k (slice_get_within xs k a at) (back k a at p)

-- the first bad one of an ascending list is the least
pub least_is : (Bad : ℕ → Type 0) (P : ℕ → Type 0) (xs : List ℕ) (v : ℕ) → Ascends xs
    → ((k a : ℕ) → slice_get xs k ≡ Some a → Bad k → P a) → ((k a : ℕ) → slice_get xs k ≡ Some a → P a → Bad k) → ((a : ℕ) → P a → Contains xs a)
    → FirstOf Bad (length xs) (slice_index xs) (Some v) → IsLeast P v
least_is Bad P xs v asc to back inside first =
    let here : slice_get xs first.0 ≡ Some v = slice_get-get_or xs first.0 0 first.1 ∙ ap (λ (y : ℕ). Some y) first.2 in
    record {
      bad = to first.0 v here first.3;
      least = λ other p. (let at = get_contained xs other (inside other p) in
          elim (cases_lt at.0 first.0) [
            | inl low ↦ absurd (first.4 at.0 low (back at.0 other at.1 p))
            | inr high ↦
                (let up = rises xs asc first.0 at.0 high (slice_get_within xs at.0 other at.1) in
                let e = get_or_from_slice_get xs at.0 other 0 at.1 in
                let e' = get_or_from_slice_get xs first.0 v 0 here in
                omega arith)
          ]);
    }

-- ---- lists of traced addresses

abbrev pub Climbs : List Traced → Type 0
Climbs ts = AllPairs (λ one next. one.addr < next.addr) ts

pub climbs_at : (ts : List Traced) (i j : ℕ) (t u : Traced) → Climbs ts → i < j → slice_get ts i ≡ Some t → slice_get ts j ≡ Some u → t.addr < u.addr
climbs_at ts i j t u asc low at at' =
    let up : (get_or ts i t).addr < (get_or ts j t).addr = asc i j t low (slice_get_within ts j u at') in
    let e : (get_or ts i t).addr ≡ t.addr = ap (λ (x : Traced). x.addr) (get_or_from_slice_get ts i t t at) in
    let e' : (get_or ts j t).addr ≡ u.addr = ap (λ (x : Traced). x.addr) (get_or_from_slice_get ts j u t at') in
    omega arith

pub place_below : (ts : List Traced) (i j : ℕ) (t u : Traced) → Climbs ts → slice_get ts i ≡ Some t → slice_get ts j ≡ Some u → t.addr < u.addr → i < j
place_below ts i j t u asc at at' low = elim (cases_lt i j) [
  | inl below ↦ below
  | inr high ↦ elim (cases_eq i j) [
    | inl same ↦
        (let one : t.addr ≡ u.addr = ap (λ (x : Traced). x.addr) (same_Some t u (sym at ∙ ap (slice_get ts) same ∙ at')) in
        absurd (omega arith))
    | inr other ↦ (let up = climbs_at ts j i u t asc (omega arith) at' at in absurd (omega arith))
  ]
]

pub same_place : (ts : List Traced) (i j : ℕ) (t u : Traced) → Climbs ts → slice_get ts i ≡ Some t → slice_get ts j ≡ Some u → t.addr ≡ u.addr → i ≡ j
same_place ts i j t u asc at at' same = elim (cases_eq i j) [
  | inl one ↦ one
  | inr other ↦ elim (cases_lt i j) [
    | inl low ↦ (let up = climbs_at ts i j t u asc low at at' in absurd (omega arith))
    | inr high ↦ (let up = climbs_at ts j i u t asc (omega arith) at' at in absurd (omega arith))
  ]
]

pub climbs_tail : (x : Traced) (ts : List Traced) → Climbs (x ∷ ts) → Climbs ts
climbs_tail x ts asc = λ i j d low inside. asc (suc i) (suc j) d (omega arith) (omega arith)

-- what the list says of an address that stands in it
pub entry_at : (ts : List Traced) (i : ℕ) (t : Traced) → Climbs ts → slice_get ts i ≡ Some t → entry_in ts t.addr ≡ Some t.trace
entry_at [] i t asc at = absurd (none-some t at)
entry_at (x ∷ ts) zero t asc at =
    let same : x ≡ t = same_Some x t at in
    rw (eq-eqb x.addr t.addr (ap (λ (y : Traced). y.addr) same)) (ap (λ (y : Traced). Some y.trace) same)
entry_at (x ∷ ts) (suc i) t asc at =
    let up : x.addr < t.addr = climbs_at (x ∷ ts) 0 (suc i) x t asc (omega arith) refl at in
    rw (ne_eqb x.addr t.addr (λ same. absurd (omega arith))) (entry_at ts i t (climbs_tail x ts asc) at)

pub found_at : (ts : List Traced) (a : ℕ) (e : TraceEntry) → entry_in ts a ≡ Some e → (i : ℕ) × (t : Traced) × (slice_get ts i ≡ Some t) × (t.addr ≡ a) × (t.trace ≡ e)
found_at [] a e is = absurd (none-some e is)
found_at (x ∷ ts) a e is = elim (cases_eq x.addr a) [
  | inl same ↦
      (let here : entry_in (x ∷ ts) a ≡ Some x.trace = rw (eq-eqb x.addr a same) refl in
      (0, x, refl, same, same_Some x.trace e (sym here ∙ is)))
  | inr other ↦
      (let later : entry_in (x ∷ ts) a ≡ entry_in ts a = rw (ne_eqb x.addr a other) refl in
      let rest = found_at ts a e (sym later ∙ is) in
      (suc rest.0, rest.1, rest.2, rest.3, rest.4))
]

pub added_in : (ts : List Traced) (a : ℕ) → Has (entry_in ts) a → Contains (map (λ t. t.addr) ts) a
added_in ts a has =
    let at = found_at ts a has.trace has.is in
    contains_at (map (λ (t : Traced). t.addr) ts) at.0 a
    (slice_get-get_or (map (λ (t : Traced). t.addr) ts) at.0 a (in_map ts at.0 at.1 at.2)
    ∙ ap (λ (y : ℕ). Some y) (get_or-map (λ (t : Traced). t.addr) ts at.0 at.1 a (slice_get_within ts at.0 at.1 at.2) ∙ ap (λ (t : Traced). t.addr) (get_or_from_slice_get ts at.0 at.1 at.1 at.2) ∙ at.3))
  where
    in_map : (us : List Traced) (i : ℕ) (t : Traced) → slice_get us i ≡ Some t → i < length (map (λ (x : Traced). x.addr) us)
    in_map [] i t at = absurd (none-some t at)
    in_map (x ∷ us) zero t at = omega arith
    in_map (x ∷ us) (suc i) t at = let rest = in_map us i t at in omega arith

pub never_in : (pages : List Unkept) (page : Unkept) → Contains pages page → Contains (map (λ p. p.addr) pages) page.addr
never_in [] page inside = absurd (omega (arith, inside.1))
never_in (p ∷ ps) page (zero, inside, same) = (0, omega arith, ap (λ (x : Unkept). x.addr) same)
never_in (p ∷ ps) page (suc k, inside, same) = let rest = never_in ps page (k, omega arith, same) in (suc rest.0, omega (arith, rest.1), rest.2)

-- a list ascends by the addresses that ascend
pub unmapped : {A : Type 0} (f : A → ℕ) (xs : List A) → AllPairs (λ a b. a < b) (map f xs) → AllPairs (λ a b. f a < f b) xs
unmapped {A} f xs asc = λ i j d low inside.
    let up : get_or (map f xs) i 0 < get_or (map f xs) j 0 = asc i j 0 low (omega (arith, longer xs, inside)) in
    let e = get_or-map f xs i d 0 (omega arith) in
    let e' = get_or-map f xs j d 0 inside in
    omega arith
  where
    longer : (ys : List A) → length (map f ys) ≡ length ys
    longer [] = refl
    longer (y ∷ ys) = let rest = longer ys in omega arith

-- ---- the first child

node_of : (e : TraceEntry) (k c : ℕ) → slice_get (children_of e) k ≡ Some c → e ≡ NodeOver (children_of e)
node_of (DataOf block) k c at = absurd (none-some c at)
node_of (NodeOver children) k c at = refl

pub child_at : (ts : List Traced) (i : ℕ) (t : Traced) (k c : ℕ) → Climbs ts → slice_get ts i ≡ Some t → slice_get (children_of t.trace) k ≡ Some c → IsChildAt (entry_in ts) t.addr k c
child_at ts i t k c asc at at' = record {
  children = children_of t.trace;
  node = entry_at ts i t asc at ∙ ap (λ (e : TraceEntry). Some e) (node_of t.trace k c at');
  at = at';
}

-- where a child at a place stands
pub found_child : (ts : List Traced) (p k c : ℕ) → IsChildAt (entry_in ts) p k c → (i : ℕ) × (t : Traced) × (slice_get ts i ≡ Some t) × (t.addr ≡ p) × (slice_get (children_of t.trace) k ≡ Some c)
found_child ts p k c child =
    let at = found_at ts p (NodeOver child.children) child.node in
    (at.0, at.1, at.2, at.3, ap (λ (e : TraceEntry). slice_get (children_of e) k) at.4 ∙ child.at)

pub first_child : (ts : List Traced) → Climbs ts → (Bad : ℕ → ℕ → ℕ → Type 0) (i : ℕ) (t : Traced) → slice_get ts i ≡ Some t → (k v : ℕ) → slice_get (children_of t.trace) k ≡ Some v → Bad t.addr k v
    → ((j : ℕ) (u : Traced) → j < i → slice_get ts j ≡ Some u → (m c : ℕ) → slice_get (children_of u.trace) m ≡ Some c → Bad u.addr m c → ⊥)
    → ((m c : ℕ) → m < k → slice_get (children_of t.trace) m ≡ Some c → Bad t.addr m c → ⊥)
    → IsFirstChild (entry_in ts) Bad v
first_child ts asc Bad i t at k v at' bad items places = record {
  parent = t.addr;
  place = k;
  here = child_at ts i t k v asc at at';
  bad = bad;
  before = λ p m other lower child wrong.
      let found = found_child ts p m other child in
      let wrong' : Bad found.1.addr m other = subst (λ (a : ℕ). Bad a m other) (sym found.3) wrong in
      elim lower [
        | inl low ↦ items found.0 found.1 (place_below ts found.0 i found.1 t asc found.2 at (omega (arith, found.3))) found.2 m other found.4 wrong'
        | inr here ↦
            (let one : found.0 ≡ i = same_place ts found.0 i found.1 t asc found.2 at (found.3 ∙ here.0) in
            let same : found.1 ≡ t = same_Some found.1 t (sym found.2 ∙ ap (slice_get ts) one ∙ at) in
            places m other here.1
            (ap (λ (x : Traced). slice_get (children_of x.trace) m) (sym same) ∙ found.4)
            (subst (λ (x : Traced). Bad x.addr m other) same wrong'))
      ];
}
