-- Facts on the items of a level, and on what a span of them is.
use Rattle.std.proofs.Common.{◌≡◌, ℕ, zero, suc, ◌+◌, ◌<◌, ◌≤◌, Bool, List, [], ◌∷◌, ◌++◌, length, map, take, drop, refl, sym, ap, subst, ◌∙◌, arith, append_assoc, take_at, drop_at, length-drop, ne_eqb, eq-eqb}
use Rattle.std.specs.Prelude.{◌==◌, All, Some, slice_get, slice_index, if◌then◌else◌}
use Rattle.std.specs.List.{AllZip}
use Rattle.std.specs.List.Sorted.{IsPermutation, IsStrictlyIncreasing}
use Rattle.std.specs.Option.{option_map_or}
use Rattle.std.proofs.lemmas.List.{drop-append-le, take-append-le}
use Rattle.std.proofs.lemmas.List.Elements.{All-nil, All-cons, All-head, All-tail}
use Rattle.std.proofs.lemmas.List.Sorted.{IsPermutation-append_left, IsPermutation-append_comm}
use Rattle.sdbt_base.specs.Traces.{NodeOver}
use Rattle.node_codec.specs.declared.body.Entry.{Entry}
use Rattle.page_store.specs.Tree.{Place, Parts, bound_of, joined}
use Rattle.tree_build.specs.declared.shapes.Span.{Span}
use Rattle.tree_build.specs.Shape.{span}
use Rattle.tree_build.specs.Nodes.{children_in, low_of, node_places}

-- ---- lists

-- a list that goes with two others, one after the other
pub record AreBoth {A B : Type 0} (R : A → B → Type 0) (xs xs' : List A) (ys : List B) : Type 0 where
  pub left : List B
  pub right : List B
  pub is : ys ≡ left ++ right
  pub on_left : AllZip R xs left
  pub on_right : AllZip R xs' right

pub zip_split : {A B : Type 0} (R : A → B → Type 0) (xs xs' : List A) (ys : List B) → AllZip R (xs ++ xs') ys → AreBoth R xs xs' ys
zip_split R [] xs' ys h = record { left = []; right = ys; is = refl; on_left = tt; on_right = h }
zip_split R (x ∷ xs) xs' [] h = absurd h
zip_split R (x ∷ xs) xs' (y ∷ ys) h =
    let rest = zip_split R xs xs' ys h.1 in
    record { left = y ∷ rest.left; right = rest.right; is = ap (λ zs. y ∷ zs) rest.is; on_left = (h.0, rest.on_left); on_right = rest.on_right }

pub zip_length : {A B : Type 0} (R : A → B → Type 0) (xs : List A) (ys : List B) → AllZip R xs ys → length ys ≡ length xs
zip_length R [] [] h = refl
zip_length R [] (y ∷ ys) h = absurd h
zip_length R (x ∷ xs) [] h = absurd h
zip_length R (x ∷ xs) (y ∷ ys) h = ap (λ n. suc n) (zip_length R xs ys h.1)

last_or : {A : Type 0} → A → List A → A
last_or d [] = d
last_or d (x ∷ xs) = last_or x xs

last_is : {A : Type 0} (d x : A) (xs : List A) → last_or d (xs ++ x ∷ []) ≡ x
unfolding last_or
last_is d x [] = refl
last_is d x (y ∷ ys) = last_is y x ys

-- what two equal lists end with
pub last_same : {A : Type 0} (xs ys : List A) (x y : A) → xs ++ x ∷ [] ≡ ys ++ y ∷ [] → x ≡ y
last_same xs ys x y is = sym (last_is x x xs) ∙ ap (last_or x) is ∙ last_is x y ys

-- a last part is two
pub split_behind : {A : Type 0} (all front xs ys left right : List A) → all ≡ front ++ (xs ++ ys) → ys ≡ left ++ right → all ≡ front ++ (xs ++ (left ++ right))
split_behind all front xs ys left right is both = is ∙ ap (λ zs. front ++ (xs ++ zs)) both

pub regrouped : {A : Type 0} (all front xs ys : List A) → all ≡ front ++ (xs ++ ys) → all ≡ (front ++ xs) ++ ys
regrouped all front xs ys is = is ∙ sym (append_assoc front xs ys)

-- a middle part is two
pub split_middle : {A : Type 0} (all front xs left right ys : List A) → all ≡ front ++ (xs ++ ys) → left ++ right ≡ xs → all ≡ front ++ (left ++ (right ++ ys))
split_middle all front xs left right ys is both = is ∙ ap (λ zs. front ++ (zs ++ ys)) (sym both) ∙ ap (λ zs. front ++ zs) (append_assoc left right ys)

-- a middle goes to the front
pub to_front : {A : Type 0} (xs ys zs : List A) → IsPermutation (xs ++ (ys ++ zs)) (ys ++ (xs ++ zs))
to_front xs ys zs =
    subst (λ ws. IsPermutation ws (ys ++ (xs ++ zs))) (append_assoc xs ys zs)
    (subst (IsPermutation ((xs ++ ys) ++ zs)) (append_assoc ys xs zs) (IsPermutation-append_left zs (xs ++ ys) (ys ++ xs) (IsPermutation-append_comm xs ys)))

pub joined_places : (ps qs : List Parts) → (joined (ps ++ qs)).places ≡ (joined ps).places ++ (joined qs).places
joined_places [] qs = refl
joined_places (p ∷ ps) qs = ap (λ xs. p.places ++ xs) (joined_places ps qs) ∙ sym (append_assoc p.places (joined ps).places (joined qs).places)

pub joined_mapped : (ps qs : List Parts) → (joined (ps ++ qs)).mapped ≡ (joined ps).mapped ++ (joined qs).mapped
joined_mapped [] qs = refl
joined_mapped (p ∷ ps) qs = ap (λ xs. p.mapped ++ xs) (joined_mapped ps qs) ∙ sym (append_assoc p.mapped (joined ps).mapped (joined qs).mapped)

-- ---- lows

-- the lows of items ascend, up to a bound
abbrev pub Ascend : ℕ → List Entry → Type 0
Ascend high [] = Unit {0}
Ascend high (e ∷ es) = (e.low < bound_of es high) × Ascend high es

pub bound_append : (high : ℕ) (xs ys : List Entry) → bound_of (xs ++ ys) high ≡ bound_of xs (bound_of ys high)
bound_append high [] ys = refl
bound_append high (x ∷ xs) ys = refl

pub bound_some : (high other : ℕ) (xs : List Entry) → 1 ≤ length xs → bound_of xs high ≡ bound_of xs other
bound_some high other [] some = absurd (omega (arith, some))
bound_some high other (x ∷ xs) some = refl

pub ascend_left : (high : ℕ) (xs ys : List Entry) → Ascend high (xs ++ ys) → Ascend (bound_of ys high) xs
ascend_left high [] ys h = tt
ascend_left high (x ∷ xs) ys h = (subst (λ n. x.low < n) (bound_append high xs ys) h.0, ascend_left high xs ys h.1)

pub ascend_right : (high : ℕ) (xs ys : List Entry) → Ascend high (xs ++ ys) → Ascend high ys
ascend_right high [] ys h = h
ascend_right high (x ∷ xs) ys h = ascend_right high xs ys h.1

pub ascend_bound : (high : ℕ) (xs : List Entry) → Ascend high xs → bound_of xs high ≤ high
ascend_bound high [] h = omega arith
ascend_bound high (x ∷ xs) h = omega (arith, h.0, ascend_bound high xs h.1)

pub ascend_below : (high : ℕ) (xs : List Entry) → Ascend high xs → All (λ (e : Entry). e.low < high) xs
ascend_below high [] h = All-nil (λ (e : Entry). e.low < high)
ascend_below high (x ∷ xs) h = All-cons (λ (e : Entry). e.low < high) x xs (omega (arith, h.0, ascend_bound high xs h.1)) (ascend_below high xs h.1)

pub ascend_from : (low high : ℕ) (xs : List Entry) → low ≤ bound_of xs high → Ascend high xs → All (λ (e : Entry). low ≤ e.low) xs
ascend_from low high [] le h = All-nil (λ (e : Entry). low ≤ e.low)
ascend_from low high (x ∷ xs) le h = All-cons (λ (e : Entry). low ≤ e.low) x xs le (ascend_from low high xs (omega (arith, le, h.0)) h.1)

pub ascend_lows : (high : ℕ) (xs : List Entry) → IsStrictlyIncreasing (map (λ (e : Entry). e.low) xs) → All (λ (e : Entry). e.low < high) xs → Ascend high xs
ascend_lows high [] up below = tt
ascend_lows high (x ∷ []) up below = (All-head (λ (e : Entry). e.low < high) x [] below, tt)
ascend_lows high (x ∷ y ∷ xs) up below =
    let lows = map (λ (e : Entry). e.low) (x ∷ y ∷ xs) in
    let rest : IsStrictlyIncreasing (map (λ (e : Entry). e.low) (y ∷ xs)) = λ k lt. let e : suc k + 1 ≡ suc (k + 1) = omega arith in subst (λ n. slice_index lows (suc k) < slice_index lows n) e (up (suc k) (omega (arith, lt))) in
    (up 0 (omega arith), ascend_lows high (y ∷ xs) rest (All-tail (λ (e : Entry). e.low < high) x (y ∷ xs) below))

pub lows_ascend : (high : ℕ) (xs : List Entry) → Ascend high xs → IsStrictlyIncreasing (map (λ (e : Entry). e.low) xs)
lows_ascend high [] h k lt = absurd (omega (arith, lt))
lows_ascend high (x ∷ []) h k lt = absurd (omega (arith, lt))
lows_ascend high (x ∷ y ∷ xs) h zero lt = h.0
lows_ascend high (x ∷ y ∷ xs) h (suc k) lt =
    let lows = map (λ (e : Entry). e.low) (x ∷ y ∷ xs) in
    let e : suc (k + 1) ≡ suc k + 1 = omega arith in
    subst (λ n. slice_index lows (suc k) < slice_index lows n) e (lows_ascend high (y ∷ xs) h.1 k (omega (arith, lt)))

pub ascend_wider : (high wide : ℕ) (xs : List Entry) → high ≤ wide → Ascend high xs → Ascend wide xs
ascend_wider high wide [] le h = tt
ascend_wider high wide (x ∷ []) le h = (omega (arith, h.0, le), tt)
ascend_wider high wide (x ∷ y ∷ xs) le h = (h.0, ascend_wider high wide (y ∷ xs) le h.1)

-- ---- spans

pub in_span : (items front us rest : List Entry) (level first count : ℕ) → items ≡ front ++ (us ++ rest) → length front ≡ first → length us ≡ count → children_in items (span level first count) ≡ us
in_span items front us rest level first count is before many =
    ap (λ (es : List Entry). take count (drop first es)) is ∙ ap (take count) (drop_at front (us ++ rest) first before) ∙ take_at us rest count many

pub get_behind : (front : List Entry) (u : Entry) (rest : List Entry) → slice_get (front ++ u ∷ rest) (length front) ≡ Some u
get_behind [] u rest = refl
get_behind (x ∷ xs) u rest = get_behind xs u rest

pub low_zero : (items : List Entry) (level first count : ℕ) → first ≡ 0 → low_of items (span level first count) ≡ 0
low_zero items level first count none = ap (λ (b : Bool). if b then 0 else option_map_or (λ (e : Entry). e.low) (slice_get items first) 0) (eq-eqb first 0 none)

-- from the second item on, the low of a node is that of the first item that it is over
pub low_first : (items front us rest : List Entry) (level first count high : ℕ) → items ≡ front ++ (us ++ rest) → length front ≡ first → 1 ≤ length us → 1 ≤ first → low_of items (span level first count) ≡ bound_of us high
low_first items front [] rest level first count high is before some on = absurd (omega (arith, some))
low_first items front (u ∷ us) rest level first count high is before some on =
    ap (λ (b : Bool). if b then 0 else option_map_or (λ (e : Entry). e.low) (slice_get items first) 0) (ne_eqb first 0 (λ e. absurd (omega (arith, e, on))))
    ∙ ap (λ (es : List Entry). option_map_or (λ (e : Entry). e.low) (slice_get es first) 0) is
    ∙ ap (λ n. option_map_or (λ (e : Entry). e.low) (slice_get (front ++ u ∷ (us ++ rest)) n) 0) (sym before)
    ∙ ap (λ r. option_map_or (λ (e : Entry). e.low) r 0) (get_behind front u (us ++ rest))

-- what a span is over, and its low, stay as they are with more items
pub children_stay : (items more : List Entry) (s : Span) → s.first + s.count ≤ length items → children_in (items ++ more) s ≡ children_in items s
children_stay items more s within =
    let long = length-drop s.first items in
    ap (take s.count) (drop-append-le s.first items more (omega (arith, within))) ∙ take-append-le s.count (drop s.first items) more (omega (arith, long, within))

get_stays : (items more : List Entry) (i : ℕ) → i < length items → slice_get (items ++ more) i ≡ slice_get items i
get_stays [] more i lt = absurd (omega (arith, lt))
get_stays (x ∷ xs) more zero lt = refl
get_stays (x ∷ xs) more (suc i) lt = get_stays xs more i (omega (arith, lt))

abbrev low_from : List Entry → ℕ → ℕ
low_from items n = if n == 0 then 0 else option_map_or (λ (e : Entry). e.low) (slice_get items n) 0

pub low_stays : (items more : List Entry) (s : Span) → (1 ≤ s.first → s.first < length items) → low_of (items ++ more) s ≡ low_of items s
low_stays items more s within = by s.first within
  where
    by : (n : ℕ) → (1 ≤ n → n < length items) → low_from (items ++ more) n ≡ low_from items n
    by zero within = refl
    by (suc n) within = ap (λ r. if suc n == 0 then 0 else option_map_or (λ (e : Entry). e.low) r 0) (get_stays items more (suc n) (within (omega arith)))

-- ---- places

pub places_append : (items : List Entry) (ss ts : List Span) (es fs : List Entry) → length es ≡ length ss → node_places items (ss ++ ts) (es ++ fs) ≡ node_places items ss es ++ node_places items ts fs
places_append items [] ts [] fs long = refl
places_append items [] ts (e ∷ es) fs long = absurd (omega (arith, long))
places_append items (s ∷ ss) ts [] fs long = absurd (omega (arith, long))
places_append items (s ∷ ss) ts (e ∷ es) fs long =
    let place : Place = record { addr = e.addr; key = e.key; trace = NodeOver (map (λ (c : Entry). c.addr) (children_in items s)) } in
    ap (λ ps. place ∷ ps) (places_append items ss ts es fs (omega (arith, long)))
