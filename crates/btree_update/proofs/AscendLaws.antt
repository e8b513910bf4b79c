-- The blocks that a tree maps ascend.
use Rattle.std.proofs.Common.{◌≡◌, ℕ, zero, suc, ◌+◌, ◌-◌, ◌^◌, ◌<◌, ◌≤◌, All, List, [], ◌∷◌, ◌++◌, length, slice_index, map, inl, inr, refl, sym, subst, arith}
use Rattle.std.specs.List.{AllByRecursion, AllZip}
use Rattle.std.specs.List.Sorted.{IsStrictlyIncreasing}
use Rattle.std.proofs.lemmas.Bool.{cases_lt}
use Rattle.std.proofs.lemmas.List.Elements.{recursion_from_All, All-from_recursion}
use Rattle.node_codec.specs.declared.body.Entry.{Entry}
use Rattle.page_store.specs.declared.wants.Want.{Want}
use Rattle.page_store.specs.Places.{child_want}
use Rattle.page_store.specs.Tree.{Parts, Mapped, Subtree, EachChild, joined, bound_of}
use Rattle.btree_twigs.specs.declared.twigs.Child.{Child, Child-F, out-Child}
use Rattle.btree_twigs.specs.declared.twigs.Child.TheOpen.{Kept, Grown}
use Rattle.btree_twigs.specs.declared.twigs.Twig.{Twig}
use Rattle.btree_twigs.specs.Stubs.{Stub, Tiles, start_by, low_of, children_of, stubs, stubs_below}
use Rattle.btree_twigs.specs.Shape.{IsChild}
use Rattle.btree_twigs.specs.Top.{top_least}
use Rattle.btree_twigs.proofs.ListLaws.{tiles_by}
use Rattle.btree_twigs.proofs.Children.{tiles_child}
use Rattle.btree_update.specs.declared.groves.Grove.{Grove}
use Rattle.btree_update.specs.GroveTree.{want_of, want_at, MapsIn}
use Rattle.btree_update.specs.Roots.{IsRootBy}
use Rattle.btree_update.specs.Maps.{HasBlock}
use Rattle.btree_update.specs.Groves.{IsSound, GroveMaps}
use Rattle.btree_update.proofs.Places.{IsIn, end_of, maps_within, in_maps}
use Rattle.btree_update.proofs.Readings.{tail_ascends, bound_above}
use Rattle.btree_update.proofs.ManyLaws.{grove_many}

-- blocks ascend from a number on
abbrev pub Ascends : ℕ → List Mapped → Type 0
Ascends low [] = Unit {0}
Ascends low (m ∷ ms) = (low ≤ m.block) × Ascends (suc m.block) ms

pub ascends_from : (low high : ℕ) (ms : List Mapped) → low ≤ high → Ascends high ms → Ascends low ms
ascends_from low high [] le h = tt
ascends_from low high (m ∷ ms) le h = (omega (arith, le, h.0), h.1)

ascends_append : (low mid : ℕ) (xs ys : List Mapped) → low ≤ mid → Ascends low xs → AllByRecursion (λ m. m.block < mid) xs → Ascends mid ys → Ascends low (xs ++ ys)
ascends_append low mid [] ys le h under k = ascends_from low mid ys le k
ascends_append low mid (x ∷ xs) ys le h under k = (h.0, ascends_append (suc x.block) mid xs ys (omega (arith, under.0)) h.1 under.1 k)

-- what lies within bounds lies below a later one
under : (low high end : ℕ) (ms : List Mapped) → high ≤ end → AllByRecursion (IsIn low high) ms → AllByRecursion (λ m. m.block < end) ms
under low high end [] le h = tt
under low high end (m ∷ ms) le h = (omega (arith, le, h.0.1), under low high end ms le h.1)

ends : (order level bound : ℕ) (e : Entry) → e.low < bound → end_of level (child_want order level e bound) ≤ bound
ends order zero bound e less = omega (arith, less)
ends order (suc level) bound e less = omega arith

each_up : (pages : List (List ℕ)) (order level high : ℕ) (es : List Entry) (ps : List Parts) → ((want : Want) (key : List ℕ) (parts : Parts) → Subtree pages order level want key parts → Ascends want.low parts.mapped) →
    IsStrictlyIncreasing (map (λ (e : Entry). e.low) es) → AllByRecursion (λ e. e.low < high) es → EachChild (Subtree pages order level) order level high es ps → Ascends (bound_of es high) (joined ps).mapped
each_up pages order level high [] [] below up to each = tt
each_up pages order level high [] (p ∷ ps) below up to each = absurd each
each_up pages order level high (e ∷ es) [] below up to each = absurd each
each_up pages order level high (e ∷ es) (p ∷ ps) below up to each =
    let want = child_want order level e (bound_of es high) in
    let less = bound_above e es high to.0 up in
    ascends_append e.low (bound_of es high) p.mapped (joined ps).mapped (omega (arith, less)) (below want e.key p each.0)
    (under e.low (end_of level want) (bound_of es high) p.mapped (ends order level (bound_of es high) e less) (maps_within pages order level want e.key p each.0))
    (each_up pages order level high es ps below (tail_ascends e.low (map (λ (e : Entry). e.low) es) up) to.1 each.1)

from_first : (low high : ℕ) (es : List Entry) (ms : List Mapped) → AllByRecursion (λ e. low ≤ e.low) es → (es ≡ [] → ms ≡ []) → Ascends (bound_of es high) ms → Ascends low ms
from_first low high [] ms from none h = subst (Ascends low) (sym (none refl)) tt
from_first low high (e ∷ es) [] from none h = tt
from_first low high (e ∷ es) (m ∷ ms) from none h = (omega (arith, h.0, from.0), h.1)

no_children : (pages : List (List ℕ)) (order level high : ℕ) (es : List Entry) (ps : List Parts) → EachChild (Subtree pages order level) order level high es ps → es ≡ [] → (joined ps).mapped ≡ []
no_children pages order level high [] [] each is = refl
no_children pages order level high [] (p ∷ ps) each is = absurd each
no_children pages order level high (e ∷ es) ps each is = absurd cc

-- below a place the blocks ascend
subtree_up : (pages : List (List ℕ)) (order level : ℕ) (want : Want) (key : List ℕ) (parts : Parts) → Subtree pages order level want key parts → Ascends want.low parts.mapped
unfolding Subtree
subtree_up pages order zero want key parts is = subst (λ (p : Parts). Ascends want.low p.mapped) (sym is.has) (omega arith, tt)
subtree_up pages order (suc level) want key parts is =
    let from = recursion_from_All (λ (e : Entry). want.low ≤ e.low) is.entries is.fits.1.from_low in
    let to = recursion_from_All (λ (e : Entry). e.low < want.high) is.entries is.fits.1.below_high in
    let up = each_up pages order level want.high is.entries is.children (subtree_up pages order level) is.fits.0.in_range.0.ascend to is.each in
    subst (λ (p : Parts). Ascends want.low p.mapped) (sym is.has)
    (from_first want.low want.high is.entries (joined is.children).mapped from (no_children pages order level want.high is.entries is.children is.each) up)

-- below places that ascend they do, whatever is wanted there within their bounds
pub places_up : (pages : List (List ℕ)) (order : ℕ) (want : Stub → Want) → ((s : Stub) → ((want s).low ≡ s.low) × ((want s).high ≡ s.high)) → (low high : ℕ) (ss : List Stub) (ps : List Parts) → Tiles low high ss →
    AllZip (λ s p. Subtree pages order s.level (want s) s.key p) ss ps → Ascends low (joined ps).mapped
places_up pages order want bounds low high [] [] tiles h = tt
places_up pages order want bounds low high [] (p ∷ ps) tiles h = absurd h
places_up pages order want bounds low high (s ∷ ss) [] tiles h = absurd h
places_up pages order want bounds low high (s ∷ ss) (p ∷ ps) tiles h =
    let b = bounds s in
    ascends_append low s.high p.mapped (joined ps).mapped (omega (arith, tiles.0, tiles.1))
    (ascends_from low (want s).low p.mapped (omega (arith, tiles.0, b.0)) (subtree_up pages order s.level (want s) s.key p h.0))
    (under (want s).low (end_of s.level (want s)) s.high p.mapped (stub_ends s.level) (maps_within pages order s.level (want s) s.key p h.0))
    (places_up pages order want bounds s.high high ss ps tiles.2 h.1)
  where
    stub_ends : (level : ℕ) → end_of level (want s) ≤ s.high
    stub_ends zero = let b = bounds s in omega (arith, tiles.1, b.0)
    stub_ends (suc level) = let b = bounds s in omega (arith, b.1)

-- below a root they ascend, and end before its bound
root_up : (pages : List (List ℕ)) (order below high : ℕ) (x : Child-F Child Twig) (mapped : List Mapped) → IsRootBy order below high x → MapsIn pages order (top_least below) below high x mapped → Ascends 0 mapped × AllByRecursion (λ m. m.block < high) mapped
root_up pages order below high (Kept low addr key) mapped h m =
    let want = want_at order (suc below) low high addr (top_least below) in (
      subst (Ascends 0) (sym m.2) (ascends_from 0 low m.0.mapped (omega arith) (subtree_up pages order (suc below) want key m.0 m.1)),
      subst (AllByRecursion (λ m. m.block < high)) (sym m.2) (under low high high m.0.mapped (omega arith) (maps_within pages order (suc below) want key m.0 m.1)),
    )
root_up pages order below high (Grown low twig) mapped h m =
    let start = start_by low_of (children_of twig) high in
    let tiles = tiles_by low_of (IsChild order below) (stubs below) (λ high c. tiles_child order below high c) high (children_of twig) h.1.node.each in (
      subst (Ascends 0) (sym m.is) (ascends_from 0 start (joined m.each).mapped (omega arith) (places_up pages order (want_of order) (λ s. (refl, refl)) start high (stubs_below below high twig) m.each tiles m.has)),
      under start high high mapped (omega arith) (in_maps pages order start high (stubs_below below high twig) mapped tiles m),
    )

increasing : (low : ℕ) (ms : List Mapped) → Ascends low ms → IsStrictlyIncreasing (map (λ (m : Mapped). m.block) ms)
increasing low [] up k lt = absurd (omega (arith, lt))
increasing low (m ∷ []) up k lt = absurd (omega (arith, lt))
increasing low (m ∷ n ∷ ms) up zero lt = omega (arith, up.1.0)
increasing low (m ∷ n ∷ ms) up (suc k) lt =
    let rest = increasing (suc m.block) (n ∷ ms) up.1 k (omega (arith, lt)) in
    let e : suc (k + 1) ≡ suc k + 1 = omega arith in
    let bs = map (λ (m : Mapped). m.block) (n ∷ ms) in
    subst (λ i. slice_index (m.block ∷ bs) (suc k) < slice_index (m.block ∷ bs) i) e rest

pub grove_up : (pages : List (List ℕ)) (grove : Grove) (mapped : List Mapped) → IsSound grove → GroveMaps pages grove mapped → Ascends 0 mapped
grove_up pages grove mapped sound m = (root_up pages grove.order (grove.level - 1) grove.blocks (out-Child grove.top) mapped sound.shaped m).0

pub grove_ascends : (pages : List (List ℕ)) (grove : Grove) (mapped : List Mapped) → IsSound grove → GroveMaps pages grove mapped → IsStrictlyIncreasing (map (λ (m : Mapped). m.block) mapped) × All (λ m. m.block < grove.blocks) mapped
grove_ascends pages grove mapped sound m =
    let up = root_up pages grove.order (grove.level - 1) grove.blocks (out-Child grove.top) mapped sound.shaped m in
    (increasing 0 mapped up.0, All-from_recursion (λ m. m.block < grove.blocks) mapped up.1)

-- there are no more than there is room for
room : (low high : ℕ) (ms : List Mapped) → low ≤ high → Ascends low ms → AllByRecursion (λ m. m.block < high) ms → low + length ms ≤ high
room low high [] le up to = omega (arith, le)
room low high (m ∷ ms) le up to = let rest = room (suc m.block) high ms (omega (arith, to.0)) up.1 to.1 in omega (arith, rest, up.0)

has_later : (block : ℕ) (m : Mapped) (ms : List Mapped) → HasBlock block ms → HasBlock block (m ∷ ms)
has_later block m ms h = (h.0, (suc h.1.0, omega (arith, h.1.1), h.1.2), h.2)

-- and where no room is left each block is there
all_there : (low high block : ℕ) (ms : List Mapped) → Ascends low ms → AllByRecursion (λ m. m.block < high) ms → high ≤ low + length ms → low ≤ block → block < high → HasBlock block ms
all_there low high block [] up to many from lt = absurd (omega (arith, many, from, lt))
all_there low high block (m ∷ ms) up to many from lt =
    let rest = room (suc m.block) high ms (omega (arith, to.0)) up.1 to.1 in
    let first : m.block ≡ low = omega (arith, rest, many, up.0) in
    elim (cases_lt low block) [
      | inl more ↦ has_later block m ms (all_there (suc m.block) high block ms up.1 to.1 (omega (arith, many, first)) (omega (arith, more, first)) lt)
      | inr le ↦ (m, (0, omega arith, refl), omega (arith, first, from, le))
    ]

pub grove_all : (pages : List (List ℕ)) (grove : Grove) (mapped : List Mapped) (block : ℕ) → IsSound grove → GroveMaps pages grove mapped → 2 ≤ grove.level → grove.blocks ≤ 2 ^ grove.level → block < grove.blocks → HasBlock block mapped
grove_all pages grove mapped block sound m two few to =
    let up = root_up pages grove.order (grove.level - 1) grove.blocks (out-Child grove.top) mapped sound.shaped m in
    all_there 0 grove.blocks block mapped up.0 up.1 (omega (arith, few, grove_many pages grove mapped sound m two)) (omega arith) to

-- as many blocks as the device has are all of them
pub grove_filled : (pages : List (List ℕ)) (grove : Grove) (mapped : List Mapped) (block : ℕ) → IsSound grove → GroveMaps pages grove mapped → grove.blocks ≤ length mapped → block < grove.blocks → HasBlock block mapped
grove_filled pages grove mapped block sound m many to =
    let up = root_up pages grove.order (grove.level - 1) grove.blocks (out-Child grove.top) mapped sound.shaped m in
    all_there 0 grove.blocks block mapped up.0 up.1 (omega (arith, many)) (omega arith) to
