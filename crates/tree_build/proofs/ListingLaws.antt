-- What a plan lists, one item after the other.
use Rattle.std.proofs.Common.{◌≡◌, ℕ, zero, suc, ◌+◌, ◌-◌, ◌<◌, ◌^◌, List, [], ◌∷◌, ◌++◌, map, length, drop, sym, ap, subst, ◌∙◌, arith, append_assoc}
use Rattle.std.specs.Prelude.{Some, slice_get, All}
use Rattle.std.proofs.lemmas.List.{length-map}
use Rattle.sdbt_base.specs.Traces.{Traced, NodeOver}
use Rattle.node_codec.specs.declared.body.Entry.{Entry}
use Rattle.tree_build.specs.declared.shapes.Span.{Span}
use Rattle.tree_build.specs.Shape.{IsShaped, shape_of, built}
use Rattle.tree_build.specs.Nodes.{planned, data_from, nodes_from, addrs_from}
use Rattle.tree_build.proofs.ShapeLaws.{AreSpans, shape_many, shape_most, spans_of, span_or_at}

pub addrs_next : (first i count : ℕ) (addrs all : List ℕ) → i < count → addrs ++ addrs_from (first + i) (count - i) ≡ all → (addrs ++ (first + i) ∷ []) ++ addrs_from (first + (i + 1)) (count - (i + 1)) ≡ all
addrs_next first i count addrs all before is =
    let next : count - i ≡ suc (count - (i + 1)) = omega arith in
    let up : first + (i + 1) ≡ suc (first + i) = omega arith in
    append_assoc addrs ((first + i) ∷ []) (addrs_from (first + (i + 1)) (count - (i + 1)))
    ∙ ap (λ (a : ℕ). addrs ++ (first + i) ∷ addrs_from a (count - (i + 1))) up
    ∙ (ap (λ (n : ℕ). addrs ++ addrs_from (first + i) n) (sym next) ∙ is)

pub drop_get : {A : Type 0} (xs : List A) (i : ℕ) (x : A) → slice_get xs i ≡ Some x → drop i xs ≡ x ∷ drop (suc i) xs
drop_get [] i x there = absurd cc
drop_get (first ∷ xs) zero x there = let same : first ≡ x = cc in ap (λ y. y ∷ xs) same
drop_get (first ∷ xs) (suc i) x there = drop_get xs i x there

pub nodes_next : (base addr i : ℕ) (spans : List Span) (s : Span) (children : List ℕ) (old new all : List Traced) → slice_get spans i ≡ Some s → children ≡ addrs_from (base + s.first) s.count
    → new ≡ old ++ record { addr = addr; trace = NodeOver children } ∷ [] → old ++ nodes_from base addr (drop i spans) ≡ all → new ++ nodes_from base (addr + 1) (drop (i + 1) spans) ≡ all
nodes_next base addr i spans s children old new all there over pushed is =
    let next : i + 1 ≡ suc i = omega arith in
    let up : addr + 1 ≡ suc addr = omega arith in
    let rest = nodes_from base (suc addr) (drop (suc i) spans) in
    let node : Traced = record { addr = addr; trace = NodeOver (addrs_from (base + s.first) s.count) } in
    ap (λ (n : ℕ). new ++ nodes_from base (addr + 1) (drop n spans)) next
    ∙ ap (λ (a : ℕ). new ++ nodes_from base a (drop (suc i) spans)) up
    ∙ ap (λ (ts : List Traced). ts ++ rest) (pushed ∙ ap (λ (cs : List ℕ). old ++ record { addr = addr; trace = NodeOver cs } ∷ []) over)
    ∙ append_assoc old (node ∷ []) rest
    ∙ (ap (λ (ss : List Span). old ++ nodes_from base addr ss) (sym (drop_get spans i s there)) ∙ is)

pub planned_is : (order base : ℕ) (entries : List Entry) (spans : List Span) (none one two : List Traced) → spans ≡ shape_of order (length entries) → none ≡ []
    → one ≡ none ++ data_from base (map (λ (e : Entry). e.low) entries) → two ≡ one ++ nodes_from base (base + length entries) spans → two ≡ planned order base (map (λ (e : Entry). e.low) entries)
planned_is order base entries spans none one two shape empty first second =
    let blocks = map (λ (e : Entry). e.low) entries in
    let many : length entries ≡ length blocks = sym (length-map entries (λ (e : Entry). e.low)) in
    second
    ∙ ap (λ (ts : List Traced). ts ++ nodes_from base (base + length entries) spans) (first ∙ ap (λ (ts : List Traced). ts ++ data_from base blocks) empty)
    ∙ ap (λ (ss : List Span). data_from base blocks ++ nodes_from base (base + length entries) ss) shape
    ∙ ap (λ (n : ℕ). data_from base blocks ++ nodes_from base (base + n) (shape_of order n)) many

-- there is room for all addresses
pub plan_room : (order base count : ℕ) (spans : List Span) → IsShaped order count → base < 2 ^ 32 → spans ≡ shape_of order count → base + count + length spans < 2 ^ 63
plan_room order base count spans shaped small shape =
    let few = shaped.count_most in
    let many : length spans ≡ built order count = ap length shape ∙ shape_many order count shaped in
    let most = shape_most order count shaped in
    omega (arith, few, many, most, small)

pub plan_spans : (order base count : ℕ) (spans : List Span) → IsShaped order count → base < 2 ^ 32 → spans ≡ shape_of order count → All (λ (s : Span). base + s.first + s.count < 2 ^ 63) spans
plan_spans order base count spans shaped small shape i d within =
    let few = shaped.count_most in
    let many : length spans ≡ built order count = ap length shape ∙ shape_many order count shaped in
    let most = shape_most order count shaped in
    let is = (subst (λ (ss : List Span). AreSpans order count ss) (sym shape) (spans_of order count shaped)) in
    let before = (span_or_at order count spans i d is within).before in
    omega (arith, few, many, most, small, before, within)
