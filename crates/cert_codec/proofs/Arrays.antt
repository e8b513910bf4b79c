-- An array, read from its front.
use Rattle.std.proofs.Common.{◌≡◌, ◌≢◌, ℕ, ◌+◌, ◌<◌, ◌≤◌, List, [], ◌∷◌, ◌++◌, map, length, drop, get_or, Option, Some, None, option_map, option_and_then, MatchOption, refl, sym, ap, ◌∙◌, append_assoc, append-nil}
use Rattle.std.proofs.lemmas.List.{drop_more, drop_all, map-append}
use Rattle.serde_json.specs.Data.{Data, null, boolean, number, string, array, object, Items}
use Rattle.serde_json.specs.Find.{as_array, as_number, as_u64}
use Rattle.serde_json.specs.View.{view, items_of, items_view}
use Rattle.serde_json.specs.declared.value.Value.{Value}
use Rattle.sdbt_base.specs.declared.lists.Unkept.{Unkept}
use Rattle.sdbt_base.specs.Traces.{TraceEntry, DataOf, NodeOver}
use Rattle.cert_maker.specs.declared.added.Added.{Added}
use Rattle.cert_maker.specs.Added.{traced, trace_of}
use Rattle.cert_codec.specs.Text.{whole, array_of, row, added_json, never_json}
use Rattle.cert_codec.specs.ReadBack.{IsReadBack, data_row, node_row}

pub array_is : (d : Data) (ds : Items) → Some ds ≡ as_array d → d ≡ array ds
array_is null ds e = absurd cc
array_is (boolean b) ds e = absurd cc
array_is (number n) ds e = absurd cc
array_is (string s) ds e = absurd cc
array_is (array es) ds e = cc
array_is (object ms) ds e = absurd cc

pub same_items : (ds es : List Data) → items_of ds ≡ items_of es → ds ≡ es
same_items [] [] e = refl
same_items [] (d ∷ es) e = absurd cc
same_items (d ∷ ds) [] e = absurd cc
same_items (d ∷ ds) (f ∷ es) e = let rest : items_of ds ≡ items_of es = cc in let tail = same_items ds es rest in cc

module _ {X : Type 0} (json : X → Data) where
  cannot_be : (xs : List X) (d : Data) (rest : List Data) → ((x : X) → d ≢ json x) → (ys : List X) → map json xs ++ d ∷ rest ≢ map json ys
  cannot_be [] d rest other [] e = cc
  cannot_be [] d rest other (y ∷ ys) e = other y cc
  cannot_be (x ∷ xs) d rest other [] e = cc
  cannot_be (x ∷ xs) d rest other (y ∷ ys) e = cannot_be xs d rest other ys cc

  module _ (vs : List Value) where
    -- the items before this place are these
    abbrev pub IsReadTo : ℕ → List X → Type 0
    IsReadTo i xs = map view vs ≡ map json xs ++ map view (drop i vs)

    split : (i : ℕ) (v : Value) → i < length vs → v ≡ get_or vs i v → drop i vs ≡ v ∷ drop (i + 1) vs
    split i v within is = drop_more vs i v within ∙ ap (λ y. y ∷ drop (i + 1) vs) (sym is)

    pub read_more : (i : ℕ) (v : Value) (xs : List X) (x : X) → i < length vs → v ≡ get_or vs i v → view v ≡ json x → IsReadTo i xs → IsReadTo (i + 1) (xs ++ x ∷ [])
    read_more i v xs x within is seen so_far =
        let rest = map view (drop (i + 1) vs) in
        so_far ∙ ap (λ ys. map json xs ++ map view ys) (split i v within is) ∙ ap (λ d. map json xs ++ d ∷ rest) seen
        ∙ sym (append_assoc (map json xs) (json x ∷ []) rest) ∙ ap (λ ds. ds ++ rest) (sym (map-append json xs (x ∷ [])))

    pub read_all : (i : ℕ) (xs : List X) → length vs ≤ i → IsReadTo i xs → map view vs ≡ map json xs
    read_all i xs past so_far = so_far ∙ ap (λ ys. map json xs ++ map view ys) (drop_all i vs past) ∙ append-nil (map json xs)

    pub unread : (i : ℕ) (v : Value) (xs : List X) → i < length vs → v ≡ get_or vs i v → ((x : X) → view v ≢ json x) → IsReadTo i xs → (ys : List X) → map view vs ≢ map json ys
    unread i v xs within is other so_far ys e =
        cannot_be xs (view v) (map view (drop (i + 1) vs)) other ys (sym (so_far ∙ ap (λ zs. map json xs ++ map view zs) (split i v within is)) ∙ e)

    -- in an array it is the same
    pub in_array : (d : Data) → d ≡ array (items_view vs) → (o : Option (List X)) → IsReadBack (map json) (map view vs) o → IsReadBack (array_of json) d o
    in_array d is None h = λ xs e. let items : items_of (map view vs) ≡ items_of (map json xs) = cc in h xs (same_items _ _ items)
    in_array d is (Some xs) h = is ∙ ap (λ ds. array (items_of ds)) h

  pub no_array : (d : Data) → None ≡ as_array d → (xs : List X) → d ≢ array_of json xs
  no_array d none xs e = let some = none ∙ ap as_array e in cc

  pub same_array : (vs : List Value) (d : Data) → Some (items_view vs) ≡ as_array d → (xs : List X) → d ≡ array_of json xs → map view vs ≡ map json xs
  same_array vs d is xs e = let whole = array_is d (items_view vs) is in let items : items_of (map view vs) ≡ items_of (map json xs) = cc in same_items _ _ items

not_row : (ds : List Data) → ((addr block : ℕ) → ds ≢ data_row addr block) → ((addr : ℕ) (children : List ℕ) → ds ≢ node_row addr children) → (addr : ℕ) (trace : TraceEntry) → ds ≢ map whole (row addr trace)
not_row ds block_row node addr (DataOf block) e = block_row addr block e
not_row ds block_row node addr (NodeOver children) e = node addr children e

-- a row that was read is that of an added address
pub row_read : (vs : List Value) (d : Data) → Some (items_view vs) ≡ as_array d → (o : Option Added) → MatchOption o
    (((addr block : ℕ) → map view vs ≢ data_row addr block) × ((addr : ℕ) (children : List ℕ) → map view vs ≢ node_row addr children))
    (λ added. map view vs ≡ map whole (row added.addr (trace_of added.block added.children))) → IsReadBack added_json d (option_map traced o)
row_read vs d is None h = λ t e. not_row (map view vs) h.0 h.1 t.addr t.trace (same_array whole vs d is (row t.addr t.trace) e)
row_read vs d is (Some added) h = array_is d (items_view vs) is ∙ ap (λ ds. array (items_of ds)) h

pub page_read : (vs : List Value) (d : Data) → Some (items_view vs) ≡ as_array d → (o : Option Unkept) → MatchOption o
    ((block addr : ℕ) → map view vs ≢ whole block ∷ whole addr ∷ []) (λ page. map view vs ≡ whole page.block ∷ whole page.addr ∷ []) → IsReadBack never_json d o
page_read vs d is None h = λ page e. h page.block page.addr (same_array whole vs d is (page.block ∷ page.addr ∷ []) e)
page_read vs d is (Some page) h = array_is d (items_view vs) is ∙ ap (λ ds. array (items_of ds)) h

pub not_whole : (d : Data) → None ≡ option_and_then as_u64 (as_number d) → (n : ℕ) → d ≢ whole n
not_whole d none n e = let some = none ∙ ap (λ x. option_and_then as_u64 (as_number x)) e in cc
