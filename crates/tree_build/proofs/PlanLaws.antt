-- What was planned is what is said of the places of a build.
use Rattle.std.proofs.Common.{◌≡◌, ℕ, zero, suc, ◌+◌, ◌≤◌, List, [], ◌∷◌, ◌++◌, length, map, take, drop, refl, sym, ap, subst, ◌∙◌, arith, length-append, length-drop}
use Rattle.std.proofs.lemmas.List.{map-append}
use Rattle.sdbt_base.specs.Traces.{Traced, DataOf, NodeOver}
use Rattle.node_codec.specs.declared.body.Entry.{Entry}
use Rattle.tree_build.specs.declared.shapes.Span.{Span}
use Rattle.tree_build.specs.Shape.{IsShaped, built, shape_of}
use Rattle.tree_build.specs.Nodes.{AreFrom, addrs_from, children_in, data_from, data_place, node_places, nodes_from, places_of, planned, traced_of}
use Rattle.tree_build.proofs.ShapeLaws.{AreSpans, shape_many, spans_of}

-- ---- consecutive addresses

pub from_append : (first : ℕ) (xs ys : List Entry) → AreFrom first xs → AreFrom (first + length xs) ys → AreFrom first (xs ++ ys)
from_append first [] ys h k = let e : first + 0 ≡ first = omega arith in subst (λ n. AreFrom n ys) e k
from_append first (x ∷ xs) ys h k = (h.0, from_append (suc first) xs ys h.1 (let e : first + suc (length xs) ≡ suc first + length xs = omega arith in subst (λ n. AreFrom n ys) e k))

pub from_drop : (first n : ℕ) (xs : List Entry) → AreFrom first xs → AreFrom (first + n) (drop n xs)
from_drop first zero xs h = let e : first ≡ first + 0 = omega arith in subst (λ n. AreFrom n xs) e h
from_drop first (suc n) [] h = tt
from_drop first (suc n) (x ∷ xs) h = let e : suc first + n ≡ first + suc n = omega arith in subst (λ m. AreFrom m (drop n xs)) e (from_drop (suc first) n xs h.1)

pub from_take : (first n : ℕ) (xs : List Entry) → AreFrom first xs → n ≤ length xs → map (λ (e : Entry). e.addr) (take n xs) ≡ addrs_from first n
from_take first zero xs h le = refl
from_take first (suc n) [] h le = absurd (omega (arith, le))
from_take first (suc n) (x ∷ xs) h le = λ i. h.0 i ∷ from_take (suc first) n xs h.1 (omega (arith, le)) i

-- the addresses of the items of a span
pub addrs_in : (base : ℕ) (items : List Entry) (s : Span) → AreFrom base items → s.first + s.count ≤ length items → map (λ (e : Entry). e.addr) (children_in items s) ≡ addrs_from (base + s.first) s.count
addrs_in base items s from within = from_take (base + s.first) s.count (drop s.first items) (from_drop base s.first items from) (omega (arith, length-drop s.first items, within))

-- ---- the data records, and the nodes

data_planned : (base : ℕ) (records : List Entry) → AreFrom base records → map traced_of (map data_place records) ≡ data_from base (map (λ (e : Entry). e.low) records)
data_planned base [] from = refl
data_planned base (e ∷ es) from = λ i. (let t : Traced = record { addr = from.0 i; trace = DataOf e.low } in t) ∷ data_planned (suc base) es from.1 i

pub nodes_planned : (order base at addr : ℕ) (items : List Entry) (spans : List Span) (nodes : List Entry) → AreFrom base items → AreSpans order at spans → at + length nodes ≤ length items → length nodes ≡ length spans → AreFrom addr nodes →
    map traced_of (node_places items spans nodes) ≡ nodes_from base addr spans
nodes_planned order base at addr items [] nodes from spans within long nodes_from = refl
nodes_planned order base at addr items (s ∷ ss) [] from spans within long nodes_from = absurd (omega (arith, long))
nodes_planned order base at addr items (s ∷ ss) (e ∷ es) from spans within long nodes_from =
    let here = addrs_in base items s from (omega (arith, spans.0.before, within)) in
    let rest = nodes_planned order base (suc at) (suc addr) items ss es from spans.1 (omega (arith, within)) (omega (arith, long)) nodes_from.1 in
    λ i. (let t : Traced = record { addr = nodes_from.0 i; trace = NodeOver (here i) } in t) ∷ rest i

length_lows : (records : List Entry) → length (map (λ (e : Entry). e.low) records) ≡ length records
length_lows [] = refl
length_lows (e ∷ es) = ap (λ n. suc n) (length_lows es)

-- what was planned is what is said of the places
pub planned_places : (order base : ℕ) (records nodes : List Entry) → IsShaped order (length records) → length nodes ≡ built order (length records) → AreFrom base records → AreFrom (base + length records) nodes →
    map traced_of (places_of order records nodes) ≡ planned order base (map (λ (e : Entry). e.low) records)
planned_places order base records nodes shaped many from behind =
    let count = length records in
    let items = records ++ nodes in
    let spans = shape_of order count in
    let lows = map (λ (e : Entry). e.low) records in
    let whole : length items ≡ count + length nodes = length-append records nodes in
    let all = from_append base records nodes from behind in
    let over = nodes_planned order base count (base + count) items spans nodes all (spans_of order count shaped) (omega (arith, whole)) (many ∙ sym (shape_many order count shaped)) behind in
    map-append traced_of (map data_place records) (node_places items spans nodes)
    ∙ (λ i. data_planned base records from i ++ over i)
    ∙ ap (λ n. data_from base lows ++ nodes_from base (base + n) (shape_of order n)) (sym (length_lows records))
