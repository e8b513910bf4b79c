-- What is written is read, and bytes spell one certificate.
use Rattle.std.proofs.Common.{Bool, true, false, ◌≡◌, ℕ, ◌<◌, ◌≤◌, ◌^◌, suc, List, [], ◌∷◌, map, Some, decimal, codes, refl, sym, ap, ap₂, ◌∙◌, subst, arith, append-nil, IsUtf8}
use Rattle.std.specs.Prelude.{option_and_then, option_map}
use Rattle.std.specs.List.{AllByRecursion}
use Rattle.std.proofs.lemmas.Str.{IsUtf8-append, IsUtf8-nil, IsUtf8-from_ascii}
use Rattle.std.proofs.lemmas.Fmt.{IsAscii-decimal}
use Rattle.json.specs.Lex.{tokens}
use Rattle.json.specs.Json as json
use Rattle.json.specs.Tree as tree
use Rattle.json.specs.Tree.{json_tokens, HasNumbers, ItemsHaveNumbers}
use Rattle.json.proofs.Printed.Decimals.{IsNumber-decimal}
use Rattle.json.proofs.Printed.Trees.{value-json_tokens, ArePrintable-json_tokens}
use Rattle.json.proofs.Printed.Tokens.{tokens-print}
use Rattle.json.proofs.Printed.Utf8.{IsUtf8-are_ascii}
use Rattle.serde_json.specs.Data.{Data, number, array, item}
use Rattle.serde_json.specs.Read.{of_json, of_items, max_depth}
use Rattle.serde_json.specs.View.{items_of}
use Rattle.serde_json.specs.Written.{outline, items_outline, compact_text, items_text, comma_if}
use Rattle.serde_json.proofs.Numbers.{number_of-decimal}
use Rattle.serde_json.proofs.OnLiterals.{serde_json_on_literals}
use Rattle.serde_json.proofs.Texts.{print-outline}
use Rattle.sdbt_base.specs.declared.lists.Unkept.{Unkept}
use Rattle.sdbt_base.specs.Traces.{TraceEntry, Traced, DataOf, NodeOver}
use Rattle.cert_maker.specs.Cert.{Cert}
use Rattle.cert_codec.specs.Text.{whole, array_of, numbers, row, added_json, never_json, cert_json, Spells, TraceFits, Fits}
use Rattle.cert_codec.proofs.Arrays.{same_items}
use Rattle.cert_codec.proofs.Writes.{compact_is}

-- what is known of a value: its text is UTF-8, its outline has numbers, no deeper than this, and reads back
record IsGood (deep : ℕ) (d : Data) : Type 0 where
  pub numbered : HasNumbers (outline d)
  pub shallow : tree.depth (outline d) ≤ deep
  pub back : of_json (outline d) ≡ Some d
  pub utf8 : IsUtf8 (compact_text d)

number_utf8 : (n : ℕ) → n < 2 ^ 64 → IsUtf8 (decimal n)
number_utf8 n fits = IsUtf8-from_ascii (decimal n) (IsAscii-decimal n fits)

good_whole : (n : ℕ) → n < 2 ^ 64 → IsGood 0 (whole n)
good_whole n fits = record {
  numbered = IsNumber-decimal n fits;
  shallow = omega arith;
  back = ap (option_map number) (number_of-decimal n fits);
  utf8 = IsUtf8-from_ascii (decimal n) (IsAscii-decimal n fits);
}

record AreGood (deep : ℕ) (ds : List Data) : Type 0 where
  pub numbered : ItemsHaveNumbers (items_outline (items_of ds))
  pub shallow : tree.items_depth (items_outline (items_of ds)) ≤ deep
  pub back : of_items (items_outline (items_of ds)) ≡ Some (items_of ds)
  pub utf8 : (later : Bool) → IsUtf8 (items_text later (items_of ds))

comma_utf8 : (later : Bool) → IsUtf8 (comma_if later)
comma_utf8 true = IsUtf8-are_ascii (44 ∷ []) refl
comma_utf8 false = IsUtf8-nil

good_none : (deep : ℕ) → AreGood deep []
good_none deep = record { numbered = tt; shallow = omega arith; back = refl; utf8 = λ later. IsUtf8-are_ascii (93 ∷ []) refl }

good_cons : (deep : ℕ) (d : Data) (ds : List Data) → IsGood deep d → AreGood deep ds → AreGood deep (d ∷ ds)
good_cons deep d ds first rest = record {
  numbered = (first.numbered, rest.numbered);
  shallow = omega (arith, first.shallow, rest.shallow);
  back = ap (option_and_then (λ e. option_map (item e) (of_items (items_outline (items_of ds))))) first.back ∙ ap (option_map (item d)) rest.back;
  utf8 = λ later. IsUtf8-append _ _ (comma_utf8 later) (IsUtf8-append _ _ first.utf8 (rest.utf8 true));
}

good_array : (deep : ℕ) (ds : List Data) → AreGood deep ds → IsGood (suc deep) (array (items_of ds))
good_array deep ds h = record {
  numbered = h.numbered;
  shallow = omega (arith, h.shallow);
  back = ap (option_map array) h.back;
  utf8 = IsUtf8-append (91 ∷ []) _ (IsUtf8-are_ascii (91 ∷ []) refl) (h.utf8 false);
}

good_items : {X : Type 0} (json : X → Data) (P : X → Type 0) (deep : ℕ) → ((x : X) → P x → IsGood deep (json x)) → (xs : List X) → AllByRecursion P xs → AreGood deep (map json xs)
good_items json P deep each [] h = good_none deep
good_items json P deep each (x ∷ xs) h = good_cons deep (json x) (map json xs) (each x h.0) (good_items json P deep each xs h.1)

good_numbers : (ns : List ℕ) → AllByRecursion (λ n. n < 2 ^ 64) ns → IsGood 1 (numbers ns)
good_numbers ns h = good_array 0 (map whole ns) (good_items whole (λ n. n < 2 ^ 64) 0 good_whole ns h)

good_never : (page : Unkept) → (page.block < 2 ^ 64) × (page.addr < 2 ^ 64) → IsGood 1 (never_json page)
good_never page h = good_numbers (page.block ∷ page.addr ∷ []) (h.0, (h.1, tt))

pub row_fits : (addr : ℕ) (trace : TraceEntry) → addr < 2 ^ 64 → TraceFits trace → AllByRecursion (λ n. n < 2 ^ 64) (row addr trace)
row_fits addr (DataOf block) small h = let none : 0 < 2 ^ 64 = omega arith in (small, (none, (h, tt)))
row_fits addr (NodeOver children) small h = let one : 1 < 2 ^ 64 = omega arith in (small, (one, h))

good_added : (traced : Traced) → (traced.addr < 2 ^ 64) × TraceFits traced.trace → IsGood 1 (added_json traced)
good_added traced h = good_numbers (row traced.addr traced.trace) (row_fits traced.addr traced.trace h.0 h.1)

json_back : (cert : Cert) → Fits cert → IsGood 2 (array_of added_json cert.added) × IsGood 1 (numbers cert.gone) × IsGood 2 (array_of never_json cert.never)
json_back cert fits = (
  good_array 1 _ (good_items added_json _ 1 good_added cert.added fits.added),
  good_numbers cert.gone fits.gone,
  good_array 1 _ (good_items never_json _ 1 good_never cert.never fits.never),
)

pub written_is_read : (cert : Cert) → Fits cert → Spells (compact_text (cert_json cert)) cert
unfolding serde_json_on_literals
written_is_read cert fits =
    let g = json_back cert fits in
    let j = outline (cert_json cert) in
    let numbered : HasNumbers j = (g.0.numbered, (IsNumber-decimal cert.base fits.base, (IsNumber-decimal cert.commit fits.commit, (g.1.numbered, (IsNumber-decimal cert.head fits.head, (g.2.numbered, (IsNumber-decimal cert.root fits.root, tt))))))) in
    let shallow : tree.depth j ≤ max_depth = omega (arith, g.0.shallow, g.1.shallow, g.2.shallow) in
    let back : of_json j ≡ Some (cert_json cert) = rw (g.0.back, g.1.back, g.2.back, number_of-decimal cert.base fits.base, number_of-decimal cert.commit fits.commit, number_of-decimal cert.head fits.head, number_of-decimal cert.root fits.root) refl in
    let same : tokens (compact_text (cert_json cert)) ≡ json_tokens j = ap tokens (sym (print-outline (cert_json cert))) ∙ tokens-print (json_tokens j) (ArePrintable-json_tokens j numbered) in
    let utf8 = (IsUtf8-append _ _ (IsUtf8-are_ascii (codes "{\"added\":") refl) (IsUtf8-append _ _ (g.0.utf8) (IsUtf8-append _ _ (IsUtf8-are_ascii (codes ",\"base\":") refl) (IsUtf8-append _ _ (number_utf8 cert.base fits.base) (IsUtf8-append _ _ (IsUtf8-are_ascii (codes ",\"commit\":") refl) (IsUtf8-append _ _ (number_utf8 cert.commit fits.commit) (IsUtf8-append _ _ (IsUtf8-are_ascii (codes ",\"gone\":") refl) (IsUtf8-append _ _ (g.1.utf8) (IsUtf8-append _ _ (IsUtf8-are_ascii (codes ",\"head\":") refl) (IsUtf8-append _ _ (number_utf8 cert.head fits.head) (IsUtf8-append _ _ (IsUtf8-are_ascii (codes ",\"never\":") refl) (IsUtf8-append _ _ (g.2.utf8) (IsUtf8-append _ _ (IsUtf8-are_ascii (codes ",\"root\":") refl) (IsUtf8-append _ _ (number_utf8 cert.root fits.root) (IsUtf8-are_ascii (codes "}") refl))))))))))))))) in (
      subst IsUtf8 (sym (compact_is cert)) utf8,
      ap (λ r. option_and_then of_json (option_and_then (λ p. json.if_last p.0 p.1) r))
          (ap (json.value max_depth) (same ∙ sym (append-nil (json_tokens j))) ∙ value-json_tokens j max_depth [] shallow)
          ∙ back,
    )

abbrev SameKind : ℕ → ℕ → Type 0
SameKind m n = m ≡ n

none_is_one : SameKind 0 1 → ⊥
none_is_one e = omega (arith, e)

same_rows : (one other : ℕ) (a b : TraceEntry) → row one a ≡ row other b → (one ≡ other) × (a ≡ b)
same_rows one other (DataOf block) (DataOf page) e = (cc, let same : block ≡ page = cc in ap DataOf same)
same_rows one other (DataOf block) (NodeOver children) e = absurd (none_is_one (let clash : SameKind 0 1 = cc in clash))
same_rows one other (NodeOver children) (DataOf block) e = absurd (none_is_one (let clash : SameKind 0 1 = cc in clash))
same_rows one other (NodeOver children) (NodeOver kids) e = (cc, let same : children ≡ kids = cc in ap NodeOver same)

same_map : {X : Type 0} (json : X → Data) → ((x y : X) → json x ≡ json y → x ≡ y) → (xs ys : List X) → map json xs ≡ map json ys → xs ≡ ys
same_map json one [] [] e = refl
same_map json one [] (y ∷ ys) e = absurd cc
same_map json one (x ∷ xs) [] e = absurd cc
same_map json one (x ∷ xs) (y ∷ ys) e = let head = one x y cc in let tail = same_map json one xs ys cc in ap₂ (λ z zs. z ∷ zs) head tail

same_array_of : {X : Type 0} (json : X → Data) → ((x y : X) → json x ≡ json y → x ≡ y) → (xs ys : List X) → array_of json xs ≡ array_of json ys → xs ≡ ys
same_array_of json one xs ys e = let items : items_of (map json xs) ≡ items_of (map json ys) = cc in same_map json one xs ys (same_items _ _ items)

same_whole : (m n : ℕ) → whole m ≡ whole n → m ≡ n
same_whole m n e = cc

same_numbers : (ms ns : List ℕ) → numbers ms ≡ numbers ns → ms ≡ ns
same_numbers = same_array_of whole same_whole

same_added : (one other : Traced) → added_json one ≡ added_json other → one ≡ other
same_added one other e = let both = same_rows one.addr other.addr one.trace other.trace (same_numbers _ _ e) in ap₂ (λ addr trace. record { addr = addr; trace = trace }) both.0 both.1

same_never : (one other : Unkept) → never_json one ≡ never_json other → one ≡ other
same_never one other e =
    let lists = same_numbers (one.block ∷ one.addr ∷ []) (other.block ∷ other.addr ∷ []) e in
    let block : one.block ≡ other.block = cc in let addr : one.addr ≡ other.addr = cc in ap₂ (λ b a. record { block = b; addr = a }) block addr

abbrev cert_of : ℕ → ℕ → ℕ → ℕ → List Traced → List ℕ → List Unkept → Cert
cert_of commit base head root added gone never = record { commit = commit; base = base; head = head; root = root; added = added; gone = gone; never = never }

same_parts : (one other : Cert) → one.commit ≡ other.commit → one.base ≡ other.base → one.head ≡ other.head → one.root ≡ other.root → one.added ≡ other.added → one.gone ≡ other.gone → one.never ≡ other.never
    → one ≡ other
same_parts one other commit base head root added gone never =
    let parts : cert_of one.commit one.base one.head one.root one.added one.gone one.never ≡ cert_of other.commit other.base other.head other.root other.added other.gone other.never = cc in
    parts

pub one_cert : (bytes : List ℕ) (one other : Cert) → Spells bytes one → Spells bytes other → one ≡ other
one_cert bytes one other a b =
    let same : Some (cert_json one) ≡ Some (cert_json other) = sym a.1 ∙ b.1 in
    let added : array_of added_json one.added ≡ array_of added_json other.added = cc in
    let gone : numbers one.gone ≡ numbers other.gone = cc in
    let never : array_of never_json one.never ≡ array_of never_json other.never = cc in
    let base : one.base ≡ other.base = cc in
    let commit : one.commit ≡ other.commit = cc in
    let head : one.head ≡ other.head = cc in
    let root : one.root ≡ other.root = cc in
    same_parts one other commit base head root (same_array_of added_json same_added _ _ added) (same_numbers _ _ gone) (same_array_of never_json same_never _ _ never)
