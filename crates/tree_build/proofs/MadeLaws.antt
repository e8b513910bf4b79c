-- That the next node of a build fits, after those so far.
use Rattle.std.proofs.Common.{◌≡◌, ◌⊎◌, inl, inr, ℕ, zero, suc, ◌+◌, ◌<◌, ◌≤◌, List, [], ◌∷◌, ◌++◌, length, map, take, drop, refl, sym, ap, subst, ◌∙◌, arith, length-append}
use Rattle.std.specs.Prelude.{All, Some, slice_get}
use Rattle.std.specs.List.{AllZip}
use Rattle.std.specs.List.Sorted.{IsStrictlyIncreasing}
use Rattle.std.proofs.lemmas.List.{length-take-le, length-drop, take-append-drop}
use Rattle.std.proofs.lemmas.List.Elements.{All-take, All-drop, All-weaker}
use Rattle.std.proofs.lemmas.Option.{slice_get_within}
use Rattle.sdbt_base.specs.Keys.{IsKeyOf}
use Rattle.node_codec.specs.declared.body.Entry.{Entry}
use Rattle.node_codec.specs.Record.{FitsNode}
use Rattle.tree_build.specs.declared.shapes.Span.{Span}
use Rattle.tree_build.specs.Shape.{IsShaped, shape_of}
use Rattle.tree_build.specs.Nodes.{AreInOrder, children_in, low_of}
use Rattle.tree_build.proofs.ShapeLaws.{IsSpan, span_at, spans_of}
use Rattle.tree_build.proofs.RiseLaws.{IsLowOf, children_rise}
use Rattle.tree_build.proofs.ListingLaws.{drop_get}

-- ---- items of lists

-- an item of two lists is in the first, or behind it
pub get_apart : {A : Type 0} (xs ys : List A) (j : ℕ) (x : A) → slice_get (xs ++ ys) j ≡ Some x → (slice_get xs j ≡ Some x) ⊎ ((i : ℕ) × (j ≡ length xs + i) × (slice_get ys i ≡ Some x))
get_apart [] ys j x there = inr (j, omega arith, there)
get_apart (first ∷ xs) ys zero x there = inl there
get_apart (first ∷ xs) ys (suc j) x there = elim (get_apart xs ys j x there) as (λ e. (slice_get xs j ≡ Some x) ⊎ ((i : ℕ) × (suc j ≡ length (first ∷ xs) + i) × (slice_get ys i ≡ Some x))) [
  | inl in_front ↦ inl in_front
  | inr behind ↦ let at = behind.1 in inr (behind.0, omega (arith, at), behind.2)
]

get_front : {A : Type 0} (xs ys : List A) (j : ℕ) (x : A) → slice_get xs j ≡ Some x → slice_get (xs ++ ys) j ≡ Some x
get_front [] ys j x there = absurd cc
get_front (first ∷ xs) ys zero x there = there
get_front (first ∷ xs) ys (suc j) x there = get_front xs ys j x there

-- what is said of each place is said of both lists
pub zip_each : (Q : Span → Entry → Type 0) (spans : List Span) (nodes : List Entry) → length nodes ≡ length spans
    → ((j : ℕ) (s : Span) (e : Entry) → slice_get spans j ≡ Some s → slice_get nodes j ≡ Some e → Q s e) → AllZip Q spans nodes
zip_each Q [] [] long each = tt
zip_each Q [] (e ∷ nodes) long each = absurd (omega (arith, long))
zip_each Q (s ∷ spans) [] long each = absurd (omega (arith, long))
zip_each Q (s ∷ spans) (e ∷ nodes) long each = (each 0 s e refl refl, zip_each Q spans nodes (omega (arith, long)) (λ j t f at at'. each (suc j) t f at at'))

-- ---- the next node

-- the nodes so far have the lows of their first children
abbrev pub HaveLows : List Span → List Entry → List Entry → Type 0
HaveLows spans nodes items = (j : ℕ) (s : Span) (e : Entry) → slice_get spans j ≡ Some s → slice_get nodes j ≡ Some e → e.low ≡ low_of items s

pub next_span : (order : ℕ) (records : List Entry) (i : ℕ) (s : Span) → IsShaped order (length records) → slice_get (shape_of order (length records)) i ≡ Some s → IsSpan order (length records + i) s
next_span order records i s shaped there = span_at order (length records) (shape_of order (length records)) i s (spans_of order (length records) shaped) there

-- its children ascend
record AreChildren (blocks : ℕ) (children : List Entry) : Type 0 where
  pub ascend : IsStrictlyIncreasing (map (λ (e : Entry). e.low) children)
  pub lows : All (λ (e : Entry). e.low < blocks) children

next_children : (order blocks : ℕ) (records nodes : List Entry) (s : Span) → IsShaped order (length records) → AreInOrder blocks records → HaveLows (shape_of order (length records)) nodes (records ++ nodes)
    → slice_get (shape_of order (length records)) (length nodes) ≡ Some s → AreChildren blocks (children_in (records ++ nodes) s)
next_children order blocks records nodes s shaped ordered lows there =
    let spans = shape_of order (length records) in
    let i = length nodes in
    let done = take i spans in
    let within = slice_get_within spans i s there in
    let whole : done ++ drop i spans ≡ spans = take-append-drop i spans in
    let long : length done ≡ i = length-take-le i spans (omega (arith, within)) in
    let rise = children_rise order blocks records nodes done (drop (suc i) spans) s shaped ordered (sym whole ∙ ap (λ ss. done ++ ss) (drop_get spans i s there))
    (zip_each (IsLowOf (records ++ nodes)) done nodes (sym long) (λ j t e at at'. lows j t e (subst (λ ss. slice_get ss j ≡ Some t) whole (get_front done (drop i spans) j t at)) at')) in
    record { ascend = rise.0; lows = rise.1 }

pub next_fits : (order blocks head : ℕ) (records nodes : List Entry) (s : Span) → IsShaped order (length records) → blocks ≤ 1048576 → AreInOrder blocks records → HaveLows (shape_of order (length records)) nodes (records ++ nodes)
    → All (λ (e : Entry). e.addr < head) (records ++ nodes) → All (λ (e : Entry). IsKeyOf 2 e.key) (records ++ nodes)
    → slice_get (shape_of order (length records)) (length nodes) ≡ Some s → FitsNode 2 head s.level (children_in (records ++ nodes) s)
next_fits order blocks head records nodes s shaped few ordered lows below keys there =
    let items = records ++ nodes in
    let behind = drop s.first items in
    let is = next_span order records (length nodes) s shaped there in
    let inside = is.before in
    let most = is.count_most in
    let all = length-append records nodes in
    let dropped = length-drop s.first items in
    let many : length (children_in items s) ≡ s.count = length-take-le s.count behind (omega (arith, inside, all, dropped)) in
    let children = next_children order blocks records nodes s shaped ordered lows there in
    record {
      version_known = inr refl;
      level_least = is.level_least;
      level_most = is.level_most;
      count = let wide = shaped.most in omega (arith, many, most, wide);
      ascend = children.ascend;
      lows = All-weaker (λ (e : Entry). e.low < blocks) (λ (e : Entry). e.low < 1048576) (λ e low. omega (arith, low, few)) (children_in items s) children.lows;
      below = All-take (λ (e : Entry). e.addr < head) s.count behind (All-drop (λ (e : Entry). e.addr < head) s.first items below);
      sized = All-take (λ (e : Entry). length e.key ≡ 64) s.count behind (All-drop (λ (e : Entry). length e.key ≡ 64) s.first items
          (All-weaker (λ (e : Entry). IsKeyOf 2 e.key) (λ (e : Entry). length e.key ≡ 64) (λ e key. key.0) items keys));
    }
