-- The tree that sealed nodes make.
use Rattle.std.proofs.Common.{◌≡◌, ℕ, zero, suc, ◌+◌, ◌/◌, ◌<◌, ◌≤◌, List, [], ◌∷◌, ◌++◌, length, map, refl, sym, ap, subst, ◌∙◌, arith, append_assoc, append-nil}
use Rattle.std.specs.Prelude.{IfSome, slice_get}
use Rattle.std.specs.List.{AllByRecursion}
use Rattle.std.specs.List.Sorted.{IsPermutation}
use Rattle.std.proofs.lemmas.List.{map-append}
use Rattle.std.proofs.lemmas.List.Elements.{All-from_recursion}
use Rattle.std.proofs.lemmas.List.Sorted.{IsPermutation-refl, IsPermutation-trans, IsPermutation-cons, IsPermutation-append, IsPermutation-append_left, IsPermutation-append_right, IsPermutation-append_comm, IsPermutation-to_front}
use Rattle.node_codec.specs.declared.body.Entry.{Entry}
use Rattle.page_store.specs.declared.wants.Want.{Want}
use Rattle.page_store.specs.Places.{IsNodeWanted, child_want}
use Rattle.page_store.specs.Tree.{Parts, Place, Subtree, EachChild, joined, node_parts, bound_of}
use Rattle.shadow_commit.proofs.PageLaws.{subtree_stays}
use Rattle.btree_twigs.specs.declared.twigs.Child.{Child, Child-F, out-Child}
use Rattle.btree_twigs.specs.declared.twigs.Child.TheOpen.{Kept, Grown}
use Rattle.btree_twigs.specs.declared.twigs.Twig.{Twig}
use Rattle.btree_twigs.specs.Stubs.{Stub, start_by, stubs_by, stubs_in, datum_in, low_in, low_of, children_of, stubs, stubs_below}
use Rattle.btree_twigs.specs.Shape.{EachBy, Begins, IsChildBy, IsChild, IsTwig}
use Rattle.btree_twigs.proofs.Children.{begins_le}
use Rattle.btree_update.specs.GroveTree.{want_of, HasEach}
use Rattle.grove_accounts.proofs.PartsLaws.{joined_places, joined_mapped}
use Rattle.shadow_commit.specs.Sealed.{Sealed, SealsEach, SealsNode, SealsDatum, SealsIn, Seals}
use Rattle.shadow_commit.specs.NewTree.{IsNodeAt, place_of, AreParts}
use Rattle.shadow_commit.proofs.SealLaws.{count_is, lows_all, lows_below}

-- ---- lists

pub all_front : {X : Type 0} (P : X → Type 0) (xs ys : List X) → AllByRecursion P (xs ++ ys) → AllByRecursion P xs
all_front P [] ys h = tt
all_front P (x ∷ xs) ys h = (h.0, all_front P xs ys h.1)

pub all_back : {X : Type 0} (P : X → Type 0) (xs ys : List X) → AllByRecursion P (xs ++ ys) → AllByRecursion P ys
all_back P [] ys h = h
all_back P (x ∷ xs) ys h = all_back P xs ys h.1

pub all_append : {X : Type 0} (P : X → Type 0) (xs ys : List X) → AllByRecursion P xs → AllByRecursion P ys → AllByRecursion P (xs ++ ys)
all_append P [] ys h k = k
all_append P (x ∷ xs) ys h k = (h.0, all_append P xs ys h.1 k)

crossed : (a b c d : List Place) → IsPermutation ((a ++ b) ++ (c ++ d)) ((a ++ c) ++ (b ++ d))
crossed a b c d =
    let mid = IsPermutation-append_right a ((b ++ c) ++ d) ((c ++ b) ++ d) (IsPermutation-append_left d (b ++ c) (c ++ b) (IsPermutation-append_comm b c)) in
    let one : a ++ ((b ++ c) ++ d) ≡ (a ++ b) ++ (c ++ d) = ap (λ xs. a ++ xs) (append_assoc b c d) ∙ sym (append_assoc a b (c ++ d)) in
    let two : a ++ ((c ++ b) ++ d) ≡ (a ++ c) ++ (b ++ d) = ap (λ xs. a ++ xs) (append_assoc c b d) ∙ sym (append_assoc a c (b ++ d)) in
    subst (λ xs. IsPermutation xs ((a ++ c) ++ (b ++ d))) one (subst (IsPermutation (a ++ ((b ++ c) ++ d))) two mid)

-- ---- what is below two lists of places

pub record HasBoth (pages : List (List ℕ)) (order : ℕ) (xs ys : List Stub) (ps : List Parts) : Type 0 where
  pub left : List Parts
  pub right : List Parts
  pub is : ps ≡ left ++ right
  pub on_left : HasEach pages order xs left
  pub on_right : HasEach pages order ys right

pub has_split : (pages : List (List ℕ)) (order : ℕ) (xs ys : List Stub) (ps : List Parts) → HasEach pages order (xs ++ ys) ps → HasBoth pages order xs ys ps
has_split pages order [] ys ps h = record { left = []; right = ps; is = refl; on_left = tt; on_right = h }
has_split pages order (x ∷ xs) ys [] h = absurd h
has_split pages order (x ∷ xs) ys (p ∷ ps) h =
    let rest = has_split pages order xs ys ps h.1 in
    record { left = p ∷ rest.left; right = rest.right; is = ap (λ qs. p ∷ qs) rest.is; on_left = (h.0, rest.on_left); on_right = rest.on_right }

pub has_stays : (pages more : List (List ℕ)) (order : ℕ) (ss : List Stub) (ps : List Parts) → HasEach pages order ss ps → HasEach (pages ++ more) order ss ps
has_stays pages more order [] [] h = tt
has_stays pages more order [] (p ∷ ps) h = absurd h
has_stays pages more order (s ∷ ss) [] h = absurd h
has_stays pages more order (s ∷ ss) (p ∷ ps) h = (subtree_stays pages more order s.level (want_of order s) s.key p h.0, has_stays pages more order ss ps h.1)

-- ---- lows

pub child_low : (version level first : ℕ) (c : Child) (ns : List Sealed) (e : Entry) → Seals version level first c ns e → e.low ≡ low_of c
unfolding Seals
child_low version zero first c ns e h = here (out-Child c) h
  where
    here : (x : Child-F Child Twig) → SealsDatum version x ns e → e.low ≡ low_in x
    here (Kept low addr key) h = ap (λ (e : Entry). e.low) h.entry_is
    here (Grown low twig) h = absurd h
child_low version (suc level) first c ns e h = here (out-Child c) h
  where
    here : (x : Child-F Child Twig) → SealsIn version (Seals version level) level first x ns e → e.low ≡ low_in x
    here (Kept low addr key) h = ap (λ (e : Entry). e.low) h.entry_is
    here (Grown low twig) h = h.low_is

lows_are : (version level first : ℕ) (cs : List Child) (ns : List Sealed) (es : List Entry) → SealsEach (Seals version level) first cs ns es → map (λ (e : Entry). e.low) es ≡ map low_of cs
lows_are version level first [] ns es h = ap (map (λ (e : Entry). e.low)) h.1
lows_are version level first (c ∷ cs) ns es h =
    let low = child_low version level first c h.here h.entry h.one in
    let rest = lows_are version level (first + length h.here) cs h.rest h.others h.more in
    ap (map (λ (e : Entry). e.low)) h.entries_are ∙ (λ i. low i ∷ rest i)

bound_is : (high : ℕ) (cs : List Child) (es : List Entry) → map (λ (e : Entry). e.low) es ≡ map low_of cs → bound_of es high ≡ start_by low_of cs high
bound_is high [] [] h = refl
bound_is high [] (e ∷ es) h = absurd (omega (arith, ap length h))
bound_is high (c ∷ cs) [] h = absurd (omega (arith, ap length h))
bound_is high (c ∷ cs) (e ∷ es) h = cc

from_low : (low : ℕ) (Below : ℕ → Child → Type 0) (high : ℕ) (cs : List Child) → EachBy low_of Below high cs → low ≤ start_by low_of cs high → AllByRecursion (λ n. low ≤ n) (map low_of cs)
from_low low Below high [] h le = tt
from_low low Below high (c ∷ cs) h le = (le, from_low low Below high cs h.2 (omega (arith, h.0, le)))

lows_from : (low : ℕ) (es : List Entry) → AllByRecursion (λ n. low ≤ n) (map (λ (e : Entry). e.low) es) → AllByRecursion (λ (e : Entry). low ≤ e.low) es
lows_from low [] h = tt
lows_from low (e ∷ es) h = (h.0, lows_from low es h.1)

first_low : (low high : ℕ) (cs : List Child) (es : List Entry) → map (λ (e : Entry). e.low) es ≡ map low_of cs → start_by low_of cs high ≡ low → IfSome (slice_get es 0) (λ (e : Entry). e.low ≡ low)
first_low low high cs [] h is = tt
first_low low high [] (e ∷ es) h is = absurd (omega (arith, ap length h))
first_low low high (c ∷ cs) (e ∷ es) h is = cc

-- the node is wanted where it stands
pub node_wanted : (order level : ℕ) (want : Want) (twig : Twig) (es : List Entry) → IsTwig order level want.least order want.low want.high twig → want.level ≡ suc level → want.most ≡ order →
    map (λ (e : Entry). e.low) es ≡ map low_of (children_of twig) → IsNodeWanted want (suc level) es
node_wanted order level want twig es shaped level_is most lows =
    let n = count_is (children_of twig) es lows in
    let each = shaped.node.each in
    record {
      same_level = sym level_is;
      least = omega (arith, n, shaped.node.enough);
      most = omega (arith, n, shaped.node.within, most);
      from_low = All-from_recursion (λ (e : Entry). want.low ≤ e.low) es (lows_from want.low es (subst (AllByRecursion (λ n. want.low ≤ n)) (sym lows) (from_low want.low (IsChild order level) want.high (children_of twig) each (begins_le level want.low _ shaped.node.begins))));
      below_high = All-from_recursion (λ (e : Entry). e.low < want.high) es (lows_all want.high want.high es (omega arith) (subst (AllByRecursion (λ n. n < want.high)) (sym lows) (lows_below (IsChild order level) want.high (children_of twig) each)));
      first = first_is level shaped.node.begins;
    }
  where
    first_is : (level : ℕ) → Begins level want.low (start_by low_of (children_of twig) want.high) → 2 ≤ suc level → IfSome (slice_get es 0) (λ (e : Entry). e.low ≡ want.low)
    first_is zero h le = absurd (omega (arith, le))
    first_is (suc level) h le = first_low want.low want.high (children_of twig) es lows h

-- ---- the tree

-- a child's tree
pub record IsTreeOf (pages : List (List ℕ)) (order level high : ℕ) (ns : List Sealed) (e : Entry) (each : List Parts) : Type 0 where
  pub parts : Parts
  pub has : Subtree pages order level (child_want order level e high) e.key parts
  pub are : AreParts ns each parts

-- the trees of children
pub record AreTreesOf (pages : List (List ℕ)) (order level high : ℕ) (ns : List Sealed) (es : List Entry) (each : List Parts) : Type 0 where
  pub children : List Parts
  pub has : EachChild (Subtree pages order level) order level high es children
  pub are : AreParts ns each (joined children)

one_part : (ns : List Sealed) (p : Parts) → ns ≡ [] → AreParts ns (p ∷ []) p
one_part ns p none = record {
  mapped = sym (append-nil p.mapped);
  places = subst (λ xs. IsPermutation xs p.places) (sym (ap (λ ns. map place_of ns ++ (p.places ++ [])) none ∙ append-nil p.places)) (IsPermutation-refl p.places);
}

more_parts : (here rest ns : List Sealed) (left right all : List Parts) (p q : Parts) → ns ≡ here ++ rest → all ≡ left ++ right → AreParts here left p → AreParts rest right q →
    AreParts ns all (record { mapped = p.mapped ++ q.mapped; places = p.places ++ q.places })
more_parts here rest ns left right all p q ns_are all_are one two =
    let K = (joined left).places in
    let L = (joined right).places in
    let both = IsPermutation-append (map place_of here ++ K) p.places (map place_of rest ++ L) q.places one.places two.places in
    let cross = IsPermutation-trans _ _ _ (crossed (map place_of here) (map place_of rest) K L) both in
    let is : map place_of ns ++ (joined all).places ≡ (map place_of here ++ map place_of rest) ++ (K ++ L)
    = ap (λ ns. map place_of ns ++ (joined all).places) ns_are ∙ ap (λ xs. xs ++ (joined all).places) (map-append place_of here rest)
    ∙ ap (λ ps. (map place_of here ++ map place_of rest) ++ (joined ps).places) all_are ∙ ap (λ xs. (map place_of here ++ map place_of rest) ++ xs) (joined_places left right) in
    record {
      mapped = (λ i. one.mapped i ++ two.mapped i) ∙ sym (ap (λ ps. (joined ps).mapped) all_are ∙ joined_mapped left right);
      places = subst (λ xs. IsPermutation xs (p.places ++ q.places)) (sym is) cross;
    }

top_parts : (below ns : List Sealed) (n : Sealed) (each children : List Parts) → ns ≡ below ++ n ∷ [] → AreParts below each (joined children) → AreParts ns each (node_parts n.addr n.key n.entries (joined children))
top_parts below ns n each children is h =
    let K = (joined each).places in
    let front = IsPermutation-append_left K (map place_of below ++ place_of n ∷ []) (place_of n ∷ map place_of below) (IsPermutation-to_front (map place_of below) (place_of n)) in
    let all = IsPermutation-trans _ _ _ front (IsPermutation-cons (place_of n) _ _ h.places) in
    record {
      mapped = h.mapped;
      places = subst (λ xs. IsPermutation (xs ++ K) (place_of n ∷ (joined children).places)) (sym (ap (map place_of) is ∙ map-append place_of below (n ∷ []))) all;
    }

abbrev ChildTree : ℕ → List (List ℕ) → ℕ → ℕ → Type 0
ChildTree version pages order level = (first high : ℕ) (c : Child) (ns : List Sealed) (e : Entry) (each : List Parts) → Seals version level first c ns e → IsChild order level high c →
    AllByRecursion (IsNodeAt pages) ns → HasEach pages order (stubs level high c) each → IsTreeOf pages order level high ns e each

children_trees : (version : ℕ) (pages : List (List ℕ)) (order level : ℕ) → ChildTree version pages order level → (first high : ℕ) (cs : List Child) (ns : List Sealed) (es : List Entry) (each : List Parts) → SealsEach (Seals version level) first cs ns es →
    EachBy low_of (IsChild order level) high cs → AllByRecursion (IsNodeAt pages) ns → HasEach pages order (stubs_by low_of (stubs level) high cs) each → AreTreesOf pages order level high ns es each
children_trees version pages order level one first high [] ns es [] h shaped at has = record {
  children = [];
  has = subst (λ es. EachChild (Subtree pages order level) order level high es []) (sym h.1) tt;
  are = record { mapped = refl; places = subst (λ ns. IsPermutation (map place_of ns ++ []) []) (sym h.0) (IsPermutation-refl []) };
}
children_trees version pages order level one first high [] ns es (p ∷ ps) h shaped at has = absurd has
children_trees version pages order level one first high (c ∷ cs) ns es each h shaped at has =
    let both = has_split pages order (stubs level (start_by low_of cs high) c) (stubs_by low_of (stubs level) high cs) each has in
    let at_all = subst (AllByRecursion (IsNodeAt pages)) h.nodes_are at in
    let here = one first (start_by low_of cs high) c h.here h.entry both.left h.one shaped.1 (all_front (IsNodeAt pages) h.here h.rest at_all) both.on_left in
    let rest = children_trees version pages order level one (first + length h.here) high cs h.rest h.others both.right h.more shaped.2 (all_back (IsNodeAt pages) h.here h.rest at_all) both.on_right in
    let bound = bound_is high cs h.others (lows_are version level (first + length h.here) cs h.rest h.others h.more) in
    let has_all : EachChild (Subtree pages order level) order level high (h.entry ∷ h.others) (here.parts ∷ rest.children) = (subst (λ m. Subtree pages order level (child_want order level h.entry m) h.entry.key here.parts) (sym bound) here.has, rest.has) in
    record {
      children = here.parts ∷ rest.children;
      has = subst (λ es. EachChild (Subtree pages order level) order level high es (here.parts ∷ rest.children)) (sym h.entries_are) has_all;
      are = more_parts h.here h.rest ns both.left both.right each here.parts (joined rest.children) h.nodes_are both.is here.are rest.are;
    }

-- a node that was sealed over children's trees
node_tree_by : (version : ℕ) (pages : List (List ℕ)) (order level : ℕ) → ChildTree version pages order level → (first : ℕ) (want : Want) (key : List ℕ) (twig : Twig) (ns : List Sealed) (each : List Parts) →
    SealsNode version (Seals version level) level first (children_of twig) ns want.addr key → IsTwig order level want.least order want.low want.high twig → want.level ≡ suc level → want.most ≡ order →
    AllByRecursion (IsNodeAt pages) ns → HasEach pages order (stubs_below level want.high twig) each → (parts : Parts) × Subtree pages order (suc level) want key parts × AreParts ns each parts
unfolding Subtree
node_tree_by version pages order level one first want key twig ns each h shaped level_is most at has =
    let n : Sealed = record { addr = want.addr; key = key; level = suc level; entries = h.entries } in
    let at_all = subst (AllByRecursion (IsNodeAt pages)) h.is at in
    let trees = children_trees version pages order level one first want.high (children_of twig) h.below h.entries each h.each shaped.node.each (all_front (IsNodeAt pages) h.below (n ∷ []) at_all) has in
    let here = (all_back (IsNodeAt pages) h.below (n ∷ []) at_all).0 in (
      node_parts want.addr key h.entries (joined trees.children),
      record {
        entries = h.entries;
        children = trees.children;
        fits = (here, node_wanted order level want twig h.entries shaped level_is most (lows_are version level first (children_of twig) h.below h.entries h.each));
        each = trees.has;
        has = refl;
      },
      top_parts h.below ns n each trees.children h.is trees.are,
    )

pub child_tree : (version : ℕ) (pages : List (List ℕ)) (order level : ℕ) → ChildTree version pages order level
unfolding Seals IsChild stubs Subtree
child_tree version pages order zero first high c ns e each h shaped at has = here (out-Child c) each h has
  where
    here : (x : Child-F Child Twig) (each : List Parts) → SealsDatum version x ns e → HasEach pages order (datum_in x) each → IsTreeOf pages order 0 high ns e each
    here (Kept low addr key) [] h has = absurd has
    here (Kept low addr key) (p ∷ q ∷ ps) h has = absurd has.1
    here (Kept low addr key) (p ∷ []) h has = record {
      parts = p;
      has = subst (λ (e : Entry). Subtree pages order 0 (child_want order 0 e high) e.key p) (sym h.entry_is) (record { content = has.0.content; fits = has.0.fits; has = has.0.has });
      are = one_part ns p h.none;
    }
    here (Grown low twig) each h has = absurd h
child_tree version pages order (suc level) first high c ns e each h shaped at has = here (λ first high c ns e each h shaped at has. child_tree version pages order level first high c ns e each h shaped at has) (out-Child c) each h shaped has
  where
    here : ChildTree version pages order level → (x : Child-F Child Twig) (each : List Parts) → SealsIn version (Seals version level) level first x ns e → IsChildBy (IsChild order level) order level high x → HasEach pages order (stubs_in (stubs level) (suc level) high x) each →
        IsTreeOf pages order (suc level) high ns e each
    here one (Kept low addr key) [] h shaped has = absurd has
    here one (Kept low addr key) (p ∷ q ∷ ps) h shaped has = absurd has.1
    here one (Kept low addr key) (p ∷ []) h shaped has = record {
      parts = p;
      has = subst (λ (e : Entry). Subtree pages order (suc level) (child_want order (suc level) e high) e.key p) (sym h.entry_is) has.0;
      are = one_part ns p h.none;
    }
    here one (Grown low twig) each h shaped has =
        let t = node_tree_by version pages order level one first (child_want order (suc level) e high) e.key twig ns each h.node (subst (λ m. IsTwig order level (order / 2) order m high twig) (sym h.low_is) shaped) refl refl at has in
        record { parts = t.0; has = t.1; are = t.2 }

pub node_tree : (version : ℕ) (pages : List (List ℕ)) (order level first : ℕ) (want : Want) (key : List ℕ) (twig : Twig) (ns : List Sealed) (each : List Parts) →
    SealsNode version (Seals version level) level first (children_of twig) ns want.addr key → IsTwig order level want.least order want.low want.high twig → want.level ≡ suc level → want.most ≡ order →
    AllByRecursion (IsNodeAt pages) ns → HasEach pages order (stubs_below level want.high twig) each → (parts : Parts) × Subtree pages order (suc level) want key parts × AreParts ns each parts
node_tree version pages order level first want key twig ns each h shaped level_is most at has = node_tree_by version pages order level (child_tree version pages order level) first want key twig ns each h shaped level_is most at has
