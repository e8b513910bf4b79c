-- The nodes of a build make a tree.
use Rattle.std.proofs.Common.{◌≡◌, inl, inr, ℕ, zero, suc, ◌+◌, ◌-◌, ◌*◌, ◌/◌, ◌^◌, ◌<◌, ◌≤◌, ◌⊎◌, Bool, List, [], ◌∷◌, ◌++◌, length, map, take, drop, refl, sym, ap, subst, ◌∙◌, arith, append_assoc, append-nil, length-append, length-drop, length-take-le, take-append-drop, suc-mul, false, ne_eqb}
use Rattle.std.specs.Prelude.{◌==◌, IfSome, slice_get, if◌then◌else◌}
use Rattle.std.specs.List.{AllZip}
use Rattle.std.specs.List.Sorted.{IsPermutation}
use Rattle.std.proofs.lemmas.List.Sorted.{IsPermutation-refl, IsPermutation-trans, IsPermutation-cons, IsPermutation-append_right, IsPermutation-append_comm}
use Rattle.sdbt_base.specs.Traces.{NodeOver}
use Rattle.node_codec.specs.declared.body.Entry.{Entry}
use Rattle.node_codec.specs.Record.{NodeRecord}
use Rattle.root_codec.specs.declared.root.Root.{Root}
use Rattle.page_store.specs.declared.wants.Want.{Want}
use Rattle.page_store.specs.Places.{IsRecordAt, IsNodeWanted, child_want}
use Rattle.page_store.specs.Tree.{Place, Mapped, Parts, Subtree, EachChild, joined, data_parts, node_parts, bound_of}
use Rattle.tree_build.specs.declared.shapes.Span.{Span}
use Rattle.tree_build.specs.Shape.{IsShaped, span, cut, shape_from, shape_of, levels_from}
use Rattle.tree_build.specs.Nodes.{AreData, AreInOrder, AreNodes, HasTree, IsNodeOver, IsRootOver, children_in, data_place, mapped_of, node_places}
use Rattle.tree_build.proofs.ShapeLaws.{AreOver, IsHalf, enough, fits_or_not, length_cut, levels_more, levels_one, over, shape_more, shape_one, shaped_halves}
use Rattle.tree_build.proofs.RiseLaws.{AreLows, low_over, no_lows, one_low}
use Rattle.tree_build.proofs.ItemLaws.{Ascend, ascend_below, ascend_from, ascend_left, ascend_lows, ascend_right, bound_append, in_span, joined_mapped, joined_places, last_same, places_append, regrouped, split_behind, split_middle, to_front, zip_length, zip_split}

-- ---- a node

-- a node over items is what is wanted where its bounds are those of the lows
pub node_wanted : (want : Want) (level : ℕ) (es : List Entry) → level ≡ want.level → want.least ≤ length es → length es ≤ want.most → Ascend want.high es → want.low ≤ bound_of es want.high → (2 ≤ level → bound_of es want.high ≡ want.low) →
    IsNodeWanted want level es
node_wanted want level es same least most ascend from first = record {
  same_level = same;
  least = least;
  most = most;
  from_low = ascend_from want.low want.high es from ascend;
  below_high = ascend_below want.high es ascend;
  first = first_is es first;
}
  where
    first_is : (es : List Entry) → (2 ≤ level → bound_of es want.high ≡ want.low) → 2 ≤ level → IfSome (slice_get es 0) (λ (e : Entry). e.low ≡ want.low)
    first_is [] h le = tt
    first_is (e ∷ es) h le = h le

pub node_tree : (pages : List (List ℕ)) (order level : ℕ) (want : Want) (key : List ℕ) (es : List Entry) (children : List Parts) → IsRecordAt pages want.addr key (NodeRecord (suc level) es) → IsNodeWanted want (suc level) es →
    EachChild (Subtree pages order level) order level want.high es children → Subtree pages order (suc level) want key (node_parts want.addr key es (joined children))
unfolding Subtree
node_tree pages order level want key es children node wanted each = record { entries = es; children = children; fits = (node, wanted); each = each; has = refl }

-- children of two lists, one after the other
record AreChildren (Below : Want → List ℕ → Parts → Type 0) (order level high : ℕ) (xs ys : List Entry) (ps : List Parts) : Type 0 where
  pub left : List Parts
  pub right : List Parts
  pub is : ps ≡ left ++ right
  pub on_left : EachChild Below order level (bound_of ys high) xs left
  pub on_right : EachChild Below order level high ys right

children_split : (Below : Want → List ℕ → Parts → Type 0) (order level high : ℕ) (xs ys : List Entry) (ps : List Parts) → EachChild Below order level high (xs ++ ys) ps → AreChildren Below order level high xs ys ps
children_split Below order level high [] ys ps h = record { left = []; right = ps; is = refl; on_left = tt; on_right = h }
children_split Below order level high (x ∷ xs) ys [] h = absurd h
children_split Below order level high (x ∷ xs) ys (p ∷ ps) h =
    let rest = children_split Below order level high xs ys ps h.1 in
    record {
      left = p ∷ rest.left;
      right = rest.right;
      is = ap (λ qs. p ∷ qs) rest.is;
      on_left = (subst (λ n. Below (child_want order level x n) x.key p) (bound_append high xs ys) h.0, rest.on_left);
      on_right = rest.on_right;
    }

-- ---- a level over another

-- the nodes of a level over items have the trees below these
record AreUp (pages : List (List ℕ)) (order level first high : ℕ) (items xs : List Entry) (children : List Parts) (spans : List Span) (es : List Entry) : Type 0 where
  pub parents : List Parts
  pub each : EachChild (Subtree pages order (suc level)) order (suc level) high es parents
  pub lows : AreLows first high xs es
  pub mapped : (joined parents).mapped ≡ (joined children).mapped
  pub places : IsPermutation (node_places items spans es ++ (joined children).places) (joined parents).places

none_up : (pages : List (List ℕ)) (order level first high : ℕ) (items : List Entry) → AreUp pages order level first high items [] [] [] []
none_up pages order level first high items = record {
  parents = [];
  each = tt;
  lows = no_lows first high;
  mapped = refl;
  places = IsPermutation-refl [];
}

places_up : (s : Place) (ps left right up all : List Place) → all ≡ left ++ right → IsPermutation (ps ++ right) up → IsPermutation ((s ∷ ps) ++ all) ((s ∷ left) ++ up)
places_up s ps left right up all is h =
    let moved = IsPermutation-trans (ps ++ (left ++ right)) (left ++ (ps ++ right)) (left ++ up) (to_front ps left right) (IsPermutation-append_right left (ps ++ right) up h) in
    IsPermutation-cons s (ps ++ all) (left ++ up) (subst (λ xs. IsPermutation (ps ++ xs) (left ++ up)) (sym is) moved)

-- a node more, before those over what follows its own items
one_up : (pages : List (List ℕ)) (order level first count high : ℕ) (items front us vs rest : List Entry) (e : Entry) (es : List Entry) (spans : List Span) (left right : List Parts) →
    items ≡ front ++ (us ++ (vs ++ rest)) → length front ≡ first → length us ≡ count → 1 ≤ count → order / 2 ≤ count → count ≤ order → (2 ≤ suc level → 1 ≤ first) → IsNodeOver pages items (span (suc level) first count) e →
    Ascend high (us ++ vs) → EachChild (Subtree pages order level) order level (bound_of vs high) us left → AreUp pages order level (first + count) high items vs right spans es →
    AreUp pages order level first high items (us ++ vs) (left ++ right) (span (suc level) first count ∷ spans) (e ∷ es)
one_up pages order level first count high items front us vs rest e es spans left right is before many some least most inner node ascend each up =
    let bound : bound_of es high ≡ bound_of vs high = up.lows.begins (omega (arith, some)) in
    let over_us : children_in items (span (suc level) first count) ≡ us = in_span items front us (vs ++ rest) (suc level) first count is before many in
    let low = low_over items front us (vs ++ rest) (suc level) first count (bound_of es high) e is before (omega (arith, many, some)) node.low in
    let low_us : Ascend (bound_of es high) us = subst (λ n. Ascend n us) (sym bound) (ascend_left high us vs ascend) in
    let want = child_want order (suc level) e (bound_of es high) in
    let wanted = node_wanted want (suc level) us refl (omega (arith, many, least)) (omega (arith, many, most)) low_us low.from (λ le. sym (low.on (inner le))) in
    let here = subst (λ xs. IsRecordAt pages e.addr e.key (NodeRecord (suc level) xs)) over_us node.node in
    let below = subst (λ n. EachChild (Subtree pages order level) order level n us left) (sym bound) each in
    let tree = node_tree pages order level want e.key us left here wanted below in
    let place : Place = record { addr = e.addr; key = e.key; trace = NodeOver (map (λ (c : Entry). c.addr) us) } in
    record {
      parents = node_parts e.addr e.key us (joined left) ∷ up.parents;
      each = (tree, up.each);
      lows = one_low items front us vs rest (suc level) first count high e es is before many some node.low ascend up.lows;
      mapped = ap (λ xs. (joined left).mapped ++ xs) up.mapped ∙ sym (joined_mapped left right);
      places = subst (λ (xs : List Entry). IsPermutation (record { addr = e.addr; key = e.key; trace = NodeOver (map (λ (c : Entry). c.addr) xs) } ∷ (node_places items spans es ++ (joined (left ++ right)).places)) (place ∷ ((joined left).places ++ (joined up.parents).places))) (sym over_us)
          (places_up place (node_places items spans es) (joined left).places (joined right).places (joined up.parents).places (joined (left ++ right)).places (joined_places left right) up.places);
    }

-- all nodes of a level
all_up : (pages : List (List ℕ)) (order level k first count high : ℕ) (items front xs rest es : List Entry) (children : List Parts) → IsHalf order (order / 2) →
    items ≡ front ++ (xs ++ rest) → length front ≡ first → length xs ≡ count → suc k * (order / 2) ≤ count → count ≤ k * (order / 2) + order → (2 ≤ suc level → 1 ≤ first) →
    AllZip (IsNodeOver pages items) (cut (suc level) (order / 2) first (suc k) count) es → Ascend high xs → EachChild (Subtree pages order level) order level high xs children →
    AreUp pages order level first high items xs children (cut (suc level) (order / 2) first (suc k) count) es
unfolding cut
all_up pages order level zero first count high items front xs rest [] children half is before many low most inner nodes ascend each = absurd nodes
all_up pages order level zero first count high items front xs rest (e ∷ f ∷ es) children half is before many low most inner nodes ascend each = absurd nodes.1
all_up pages order level zero first count high items front xs rest (e ∷ []) children half is before many low most inner nodes ascend each =
    let e1 : 1 * (order / 2) ≡ order / 2 = omega arith in
    let all = append-nil xs in
    let one = one_up pages order level first count high items front xs [] rest e [] [] children [] is before many (omega (arith, half.least, low)) (omega (arith, low)) (omega (arith, most)) inner nodes.0
    (subst (Ascend high) (sym all) ascend) each (none_up pages order level (first + count) high items) in
    subst (λ xs. AreUp pages order level first high items xs children (span (suc level) first count ∷ []) (e ∷ [])) all
    (subst (λ ps. AreUp pages order level first high items (xs ++ []) ps (span (suc level) first count ∷ []) (e ∷ [])) (append-nil children) one)
all_up pages order level (suc more) first count high items front xs rest [] children half is before many low most inner nodes ascend each = absurd nodes
all_up pages order level (suc more) first count high items front xs rest (e ∷ es) children half is before many low most inner nodes ascend each =
    let n = order / 2 in
    let us = take n xs in
    let vs = drop n xs in
    let e1 : suc (suc more) * n ≡ suc more * n + n = suc-mul (suc more) n in
    let e2 : suc more * n ≡ more * n + n = suc-mul more n in
    let here : n ≤ length xs = omega (arith, many, low, e1) in
    let whole : us ++ vs ≡ xs = take-append-drop n xs in
    let long : length us ≡ n = length-take-le n xs here in
    let left : length vs ≡ count - n = length-drop n xs ∙ ap (λ m. m - n) many in
    let parts = children_split (Subtree pages order level) order level high us vs children (subst (λ xs. EachChild (Subtree pages order level) order level high xs children) (sym whole) each) in
    let rises = subst (Ascend high) (sym whole) ascend in
    let is' : items ≡ front ++ (us ++ (vs ++ rest)) = split_middle items front xs us vs rest is whole in
    let next : items ≡ (front ++ us) ++ (vs ++ rest) = regrouped items front us (vs ++ rest) is' in
    let behind : length (front ++ us) ≡ first + n = length-append front us ∙ (λ i. before i + long i) in
    let up = all_up pages order level more (first + n) (count - n) high items (front ++ us) vs rest es parts.right half next behind left (omega (arith, low, e1)) (omega (arith, most, e2, low, e1)) (λ le. omega (arith, half.least)) nodes.1 (ascend_right high us vs rises) parts.on_right in
    let one = one_up pages order level first n high items front us vs rest e es (cut (suc level) n (first + n) (suc more) (count - n)) parts.left parts.right is' before long (omega (arith, half.least)) (omega arith) (omega (arith, half.twice)) inner nodes.0 rises parts.on_left up in
    subst (λ xs. AreUp pages order level first high items xs children (span (suc level) first n ∷ cut (suc level) n (first + n) (suc more) (count - n)) (e ∷ es)) whole
    (subst (λ ps. AreUp pages order level first high items (us ++ vs) ps (span (suc level) first n ∷ cut (suc level) n (first + n) (suc more) (count - n)) (e ∷ es)) (sym parts.is) one)

level_up : (pages : List (List ℕ)) (order level n first count high : ℕ) (items front xs rest es : List Entry) (children : List Parts) → IsHalf order (order / 2) → AreOver (order / 2) count n →
    items ≡ front ++ (xs ++ rest) → length front ≡ first → length xs ≡ count → (2 ≤ suc level → 1 ≤ first) →
    AllZip (IsNodeOver pages items) (cut (suc level) (order / 2) first n count) es → Ascend high xs → EachChild (Subtree pages order level) order level high xs children →
    AreUp pages order level first high items xs children (cut (suc level) (order / 2) first n count) es
level_up pages order level zero first count high items front xs rest es children half are is before many inner nodes ascend each = absurd (omega (arith, are.least))
level_up pages order level (suc k) first count high items front xs rest es children half are is before many inner nodes ascend each =
    let e1 : suc k * (order / 2) ≡ k * (order / 2) + order / 2 = suc-mul k (order / 2) in
    all_up pages order level k first count high items front xs rest es children half is before many are.within (omega (arith, are.left, half.twice, e1)) inner nodes ascend each

-- ---- all levels

-- what is wanted of the last node
abbrev top_want : ℕ → ℕ → ℕ → ℕ → Want
top_want order level high addr = record { addr = addr; level = level; low = 0; high = high; least = (if level == 1 then 0 else 2); most = order }

-- the last of these nodes has a tree over what is below
record HasTop (pages : List (List ℕ)) (order level high : ℕ) (items : List Entry) (below : Parts) (spans : List Span) (es : List Entry) : Type 0 where
  pub before : List Entry
  pub top : Entry
  pub is : es ≡ before ++ top ∷ []
  pub parts : Parts
  pub tree : Subtree pages order level (top_want order level high top.addr) top.key parts
  pub mapped : parts.mapped ≡ below.mapped
  pub places : IsPermutation (node_places items spans es ++ below.places) parts.places

-- the data records are the first items; and a level of nodes has more than one, and begins at 0
record Begins (level first count low : ℕ) : Type 0 where
  pub leaves : level ≡ 0 → first ≡ 0
  pub behind : 1 ≤ level → 1 ≤ first
  pub some : 1 ≤ level → 2 ≤ count
  pub zero_low : 1 ≤ level → low ≡ 0

abbrev Rises : List (List ℕ) → ℕ → ℕ → List Entry → ℕ → Type 0
Rises pages order high items fuel = (level first count top : ℕ) (front xs es : List Entry) (children : List Parts) → count ≤ 2 ^ fuel → 2 ≤ fuel + count → items ≡ front ++ (xs ++ es) → length front ≡ first → length xs ≡ count →
    AllZip (IsNodeOver pages items) (shape_from fuel order (suc level) first count) es → Ascend high xs → EachChild (Subtree pages order level) order level high xs children → Begins level first count (bound_of xs high) →
    top ≡ level + levels_from fuel order count → HasTop pages order top high items (joined children) (shape_from fuel order (suc level) first count) es

-- one node over all items
one_top : (pages : List (List ℕ)) (order level first count high : ℕ) (items front xs rest es : List Entry) (children : List Parts) → items ≡ front ++ (xs ++ rest) → length front ≡ first → length xs ≡ count → count ≤ order →
    AllZip (IsNodeOver pages items) (span (suc level) first count ∷ []) es → Ascend high xs → EachChild (Subtree pages order level) order level high xs children → Begins level first count (bound_of xs high) →
    HasTop pages order (suc level) high items (joined children) (span (suc level) first count ∷ []) es
one_top pages order level first count high items front xs rest [] children is before many fits nodes ascend each begins = absurd nodes
one_top pages order level first count high items front xs rest (e ∷ f ∷ es) children is before many fits nodes ascend each begins = absurd nodes.1
one_top pages order level first count high items front xs rest (e ∷ []) children is before many fits nodes ascend each begins =
    let over_xs : children_in items (span (suc level) first count) ≡ xs = in_span items front xs rest (suc level) first count is before many in
    let want = top_want order (suc level) high e.addr in
    let wanted = node_wanted want (suc level) xs refl (least level begins) (omega (arith, many, fits)) ascend (omega arith) (λ le. begins.zero_low (omega (arith, le))) in
    let here = subst (λ xs. IsRecordAt pages e.addr e.key (NodeRecord (suc level) xs)) over_xs nodes.0.node in
    let place : Place = record { addr = e.addr; key = e.key; trace = NodeOver (map (λ (c : Entry). c.addr) xs) } in
    record {
      before = [];
      top = e;
      is = refl;
      parts = node_parts e.addr e.key xs (joined children);
      tree = node_tree pages order level want e.key xs children here wanted each;
      mapped = refl;
      places = subst (λ (xs : List Entry). IsPermutation (record { addr = e.addr; key = e.key; trace = NodeOver (map (λ (c : Entry). c.addr) xs) } ∷ (joined children).places) (place ∷ (joined children).places)) (sym over_xs) (IsPermutation-refl (place ∷ (joined children).places));
    }
  where
    least : (level : ℕ) → Begins level first count (bound_of xs high) → (if suc level == 1 then 0 else 2) ≤ length xs
    least zero begins = omega arith
    least (suc level) begins =
        let inner : (suc (suc level) == 1) ≡ false = ne_eqb (suc (suc level)) 1 (λ e. absurd (omega (arith, e))) in
        subst (λ (b : Bool). (if b then 0 else 2) ≤ length xs) (sym inner) (omega (arith, begins.some (omega arith), many))

begins_up : (level first count n low up : ℕ) → Begins level first count low → 1 ≤ count → 2 ≤ n → (1 ≤ first → up ≡ low) → (first ≡ 0 → up ≡ 0) → Begins (suc level) (first + count) n up
begins_up level first count n low up begins some two on none = record {
  leaves = λ e. absurd (omega (arith, e));
  behind = λ le. omega (arith, some);
  some = λ le. two;
  zero_low = λ le. is level begins;
}
  where
    is : (level : ℕ) → Begins level first count low → up ≡ 0
    is zero begins = none (begins.leaves refl)
    is (suc level) begins = on (begins.behind (omega arith)) ∙ begins.zero_low (omega arith)

last_on : (es left right before : List Entry) (top : Entry) → es ≡ left ++ right → right ≡ before ++ top ∷ [] → es ≡ (left ++ before) ++ top ∷ []
last_on es left right before top is last = is ∙ ap (λ xs. left ++ xs) last ∙ sym (append_assoc left before (top ∷ []))

places_both : (items : List Entry) (ss ts : List Span) (es left right : List Entry) → es ≡ left ++ right → length left ≡ length ss → node_places items (ss ++ ts) es ≡ node_places items ss left ++ node_places items ts right
places_both items ss ts es left right is long = ap (node_places items (ss ++ ts)) is ∙ places_append items ss ts left right long

-- the nodes of one level, and the last of those above
more_top : (pages : List (List ℕ)) (order more level first count top high : ℕ) (items front xs es : List Entry) (children : List Parts) → IsHalf order (order / 2) → Rises pages order high items more → order < count → count ≤ 2 ^ suc more →
    items ≡ front ++ (xs ++ es) → length front ≡ first → length xs ≡ count →
    AllZip (IsNodeOver pages items) (cut (suc level) (order / 2) first (count / (order / 2)) count ++ shape_from more order (suc (suc level)) (first + count) (count / (order / 2))) es →
    Ascend high xs → EachChild (Subtree pages order level) order level high xs children → Begins level first count (bound_of xs high) → top ≡ suc level + levels_from more order (count / (order / 2)) →
    HasTop pages order top high items (joined children) (cut (suc level) (order / 2) first (count / (order / 2)) count ++ shape_from more order (suc (suc level)) (first + count) (count / (order / 2))) es
more_top pages order more level first count top high items front xs es children half rises lt most is before many nodes ascend each begins top_is =
    let n = count / (order / 2) in
    let here = cut (suc level) (order / 2) first n count in
    let on = shape_from more order (suc (suc level)) (first + count) n in
    let are = over order (order / 2) count half lt in
    let both = zip_split (IsNodeOver pages items) here on es nodes in
    let is' : items ≡ front ++ (xs ++ (both.left ++ both.right)) = split_behind items front xs es both.left both.right is both.is in
    let next : items ≡ (front ++ xs) ++ (both.left ++ both.right) = regrouped items front xs (both.left ++ both.right) is' in
    let up = level_up pages order level n first count high items front xs (both.left ++ both.right) both.left children half are is' before many (λ le. begins.behind (omega (arith, le))) both.on_left ascend each in
    let some : 1 ≤ length xs = omega (arith, many, lt) in
    let long : length both.left ≡ length here = zip_length (IsNodeOver pages items) here both.left both.on_left in
    let above = begins_up level first count n (bound_of xs high) (bound_of both.left high) begins (omega (arith, lt)) are.least up.lows.begins (λ none. up.lows.begins_zero none some) in
    let t = rises (suc level) (first + count) n top (front ++ xs) both.left both.right up.parents (enough more order (order / 2) count half lt most) (omega (arith, are.least)) next
    (length-append front xs ∙ (λ i. before i + many i)) (long ∙ length_cut (suc level) (order / 2) first n count) both.on_right up.lows.ascend up.each above top_is in
    record {
      before = both.left ++ t.before;
      top = t.top;
      is = last_on es both.left both.right t.before t.top both.is t.is;
      parts = t.parts;
      tree = t.tree;
      mapped = ◌∙◌ {a = t.parts.mapped} t.mapped up.mapped;
      places = two (node_places items here both.left) (node_places items on both.right) (joined children).places (joined up.parents).places t.parts.places (node_places items (here ++ on) es)
          (places_both items here on es both.left both.right both.is long) up.places t.places;
    }
  where
    two : (ns ms ks ps qs all : List Place) → all ≡ ns ++ ms → IsPermutation (ns ++ ks) ps → IsPermutation (ms ++ ps) qs → IsPermutation (all ++ ks) qs
    two ns ms ks ps qs all is h k =
        let moved = IsPermutation-trans (ns ++ (ms ++ ks)) (ms ++ (ns ++ ks)) qs (to_front ns ms ks) (IsPermutation-trans (ms ++ (ns ++ ks)) (ms ++ ps) qs (IsPermutation-append_right ms (ns ++ ks) ps h) k) in
        subst (λ xs. IsPermutation xs qs) (sym (ap (λ xs. xs ++ ks) is ∙ append_assoc ns ms ks)) moved

all_rises : (pages : List (List ℕ)) (order high : ℕ) (items : List Entry) (fuel : ℕ) → IsHalf order (order / 2) → Rises pages order high items fuel
all_rises pages order high items zero half level first count top front xs es children most some is before many nodes ascend each begins top_is = absurd (omega (arith, most, some))
all_rises pages order high items (suc more) half level first count top front xs es children most some is before many nodes ascend each begins top_is =
    by (all_rises pages order high items more half) (fits_or_not order count)
  where
    by : Rises pages order high items more → (count ≤ order) ⊎ (order < count) → HasTop pages order top high items (joined children) (shape_from (suc more) order (suc level) first count) es
    by rises (inl fits) =
        let shape = shape_one more order (suc level) first count fits in
        let t = one_top pages order level first count high items front xs es es children is before many fits (subst (λ ss. AllZip (IsNodeOver pages items) ss es) shape nodes) ascend each begins in
        let last : suc level ≡ top = omega (arith, top_is, levels_one more order count fits) in
        subst (λ ss. HasTop pages order top high items (joined children) ss es) (sym shape)
        (subst (λ n. HasTop pages order n high items (joined children) (span (suc level) first count ∷ []) es) last t)
    by rises (inr lt) =
        let shape = shape_more more order (suc level) first count lt in
        subst (λ ss. HasTop pages order top high items (joined children) ss es) (sym shape)
        (more_top pages order more level first count top high items front xs es children half rises lt most is before many (subst (λ ss. AllZip (IsNodeOver pages items) ss es) shape nodes) ascend each begins
        (omega (arith, top_is, levels_more more order count lt)))

-- ---- the data records

record AreLeaves (pages : List (List ℕ)) (order high : ℕ) (records : List Entry) (contents : List (List ℕ)) : Type 0 where
  pub children : List Parts
  pub each : EachChild (Subtree pages order 0) order 0 high records children
  pub mapped : (joined children).mapped ≡ mapped_of records contents
  pub places : (joined children).places ≡ map data_place records

leaves_of : (pages : List (List ℕ)) (order high : ℕ) (records : List Entry) (contents : List (List ℕ)) → AreData pages records contents → AreLeaves pages order high records contents
unfolding Subtree
leaves_of pages order high [] [] h = record { children = []; each = tt; mapped = refl; places = refl }
leaves_of pages order high [] (content ∷ contents) h = absurd h
leaves_of pages order high (e ∷ es) [] h = absurd h
leaves_of pages order high (e ∷ es) (content ∷ contents) h =
    let rest = leaves_of pages order high es contents h.1 in
    let mapped : Mapped = record { block = e.low; addr = e.addr; key = e.key; content = content } in
    record {
      children = data_parts e.addr e.key e.low content ∷ rest.children;
      each = (record { content = content; fits = (h.0, (refl, refl)); has = refl }, rest.each);
      mapped = ap (λ xs. mapped ∷ xs) rest.mapped;
      places = ap (λ xs. data_place e ∷ xs) rest.places;
    }

-- the nodes of a build over data records make a tree
pub builds_a_tree : (pages : List (List ℕ)) (order blocks : ℕ) (records nodes : List Entry) (contents : List (List ℕ)) (root : Root) → IsShaped order (length records) → AreInOrder blocks records → AreData pages records contents →
    AreNodes pages order records nodes → IsRootOver order blocks records nodes root → HasTree pages order records nodes contents root
builds_a_tree pages order blocks records nodes contents root shaped ordered leaves made is_root =
    let half = shaped_halves order (length records) shaped in
    let below = leaves_of pages order blocks records contents leaves in
    let most : length records ≤ 2 ^ 20 = omega (arith, shaped.count_most) in
    let begins : Begins 0 0 (length records) (bound_of records blocks) = record { leaves = λ e. refl; behind = λ le. absurd (omega (arith, le)); some = λ le. absurd (omega (arith, le)); zero_low = λ le. absurd (omega (arith, le)) } in
    let t = all_rises pages order blocks (records ++ nodes) 20 half 0 0 (length records) root.level [] records nodes below.children most (omega arith) refl refl refl made (ascend_lows blocks records ordered.ascend ordered.lows) below.each begins (omega (arith, is_root.level_is)) in
    let last : t.top ≡ record { low = is_root.last.1; addr = root.addr; key = root.key } = last_same t.before is_root.last.0 t.top (record { low = is_root.last.1; addr = root.addr; key = root.key }) (sym t.is ∙ is_root.last.2) in
    let there = subst (λ (e : Entry). Subtree pages order root.level (top_want order root.level blocks e.addr) e.key t.parts) last t.tree in
    let wide = subst (λ n. Subtree pages order root.level (top_want order root.level n root.addr) root.key t.parts) (sym is_root.blocks_are) there in
    let ns = node_places (records ++ nodes) (shape_of order (length records)) nodes in
    let behind = subst (λ xs. IsPermutation (ns ++ xs) t.parts.places) below.places t.places in
    record {
      parts = t.parts;
      tree = subst (λ n. Subtree pages n root.level (top_want n root.level root.blocks root.addr) root.key t.parts) (sym is_root.order_is) wide;
      mapped = t.mapped ∙ below.mapped;
      places = IsPermutation-trans (map data_place records ++ ns) (ns ++ map data_place records) t.parts.places (IsPermutation-append_comm (map data_place records) ns) behind;
    }
