-- Places at consecutive addresses, and in any order.
use Rattle.std.proofs.Common.{◌≡◌, ℕ, suc, ◌+◌, ◌<◌, ◌≤◌, List, [], ◌∷◌, ◌++◌, All, map, length, subst, arith}
use Rattle.std.specs.Prelude.{AllPairs}
use Rattle.std.proofs.lemmas.List.Elements.{All-nil, All-cons, All-head, All-tail, All-weaker}
use Rattle.std.proofs.lemmas.List.Kept.{AllPairs-cons}
use Rattle.platform.specs.Logged.{AllPairs-nil}
use Rattle.node_codec.specs.declared.body.Entry.{Entry}
use Rattle.page_store.specs.Tree.{Place}
use Rattle.page_store.proofs.ApartLaws.{AreApart}
use Rattle.tree_build.specs.declared.shapes.Span.{Span}
use Rattle.tree_build.specs.Nodes.{AreFrom, data_place, node_places}

-- ---- consecutive addresses

-- places have consecutive addresses, from this one on
abbrev pub StandFrom : ℕ → List Place → Type 0
StandFrom first [] = Unit {0}
StandFrom first (p ∷ ps) = (p.addr ≡ first) × StandFrom (suc first) ps

abbrev pub IsWithin : ℕ → ℕ → Place → Type 0
IsWithin first end p = (first ≤ p.addr) × (p.addr < end)

pub data_from_on : (first : ℕ) (es : List Entry) → AreFrom first es → StandFrom first (map data_place es)
data_from_on first [] from = tt
data_from_on first (e ∷ es) from = (from.0, data_from_on (suc first) es from.1)

pub node_from_on : (first : ℕ) (items : List Entry) (spans : List Span) (es : List Entry) → AreFrom first es → StandFrom first (node_places items spans es)
node_from_on first items [] es from = tt
node_from_on first items (s ∷ spans) [] from = tt
node_from_on first items (s ∷ spans) (e ∷ es) from = (from.0, node_from_on (suc first) items spans es from.1)

-- places of as many entries at most
pub few_node_places : (items : List Entry) (spans : List Span) (es : List Entry) → length (node_places items spans es) ≤ length es
few_node_places items [] es = omega arith
few_node_places items (s ∷ spans) [] = omega arith
few_node_places items (s ∷ spans) (e ∷ es) = let rest = few_node_places items spans es in omega arith

-- what holds of the nodes' entries holds of their places
pub node_places_all : (P : ℕ → List ℕ → Type 0) (items : List Entry) (spans : List Span) (es : List Entry) → All (λ e. P e.addr e.key) es → All (λ p. P p.addr p.key) (node_places items spans es)
node_places_all P items [] es all = All-nil (λ (p : Place). P p.addr p.key)
node_places_all P items (s ∷ spans) [] all = All-nil (λ (p : Place). P p.addr p.key)
node_places_all P items (s ∷ spans) (e ∷ es) all =
    All-cons (λ (p : Place). P p.addr p.key) _ (node_places items spans es) (All-head (λ (x : Entry). P x.addr x.key) e es all)
    (node_places_all P items spans es (All-tail (λ (x : Entry). P x.addr x.key) e es all))

pub from_append : (first : ℕ) (ps qs : List Place) → StandFrom first ps → StandFrom (first + length ps) qs → StandFrom first (ps ++ qs)
from_append first [] qs one two = subst (λ n. StandFrom n qs) (omega arith) two
from_append first (p ∷ ps) qs one two = (one.0, from_append (suc first) ps qs one.1 (subst (λ n. StandFrom n qs) (omega arith) two))

pub from_within : (first end : ℕ) (ps : List Place) → StandFrom first ps → first + length ps ≤ end → All (IsWithin first end) ps
from_within first end [] from fits = All-nil (IsWithin first end)
from_within first end (p ∷ ps) from fits =
    All-cons (IsWithin first end) p ps (omega (arith, from.0), omega (arith, from.0, fits))
    (All-weaker (IsWithin (suc first) end) (IsWithin first end) (λ q is. (omega (arith, is.0), is.1)) ps (from_within (suc first) end ps from.1 (omega (arith, fits))))

-- ---- apart

pub from_apart : (first : ℕ) (ps : List Place) → StandFrom first ps → AllPairs AreApart ps
from_apart first [] from = AllPairs-nil AreApart
from_apart first (p ∷ ps) from =
    AllPairs-cons AreApart p ps
    (All-weaker (IsWithin (suc first) (suc first + length ps)) (AreApart p) (λ q is same. omega (arith, is.0, same, from.0)) ps (from_within (suc first) (suc first + length ps) ps from.1 (omega arith)))
    (from_apart (suc first) ps from.1)
