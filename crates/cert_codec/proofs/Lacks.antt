-- Bytes that what is written lacks.
use Rattle.std.proofs.Common.{Bool, true, false, ◌≡◌, ℕ, zero, suc, ◌<◌, ◌≤◌, ◌^◌, List, [], ◌∷◌, ◌++◌, map, take, length, decimal, codes, refl, sym, ap, ◌∙◌, subst, arith}
use Rattle.std.specs.Prelude.{◌≢◌, ◌==◌, ◌&&◌, not}
use Rattle.std.specs.List.{AllByRecursion}
use Rattle.std.proofs.lemmas.Fmt.{decimal_is_IsNumeral}
use Rattle.std.proofs.lemmas.Str.Parse.{digit_from_value}
use Rattle.std.proofs.lemmas.Bool.{and_parts, eq-eqb}
use Rattle.std.specs.Str.Parse.{AllDigits}
use Rattle.serde_json.specs.Data.{Data}
use Rattle.serde_json.specs.View.{items_of}
use Rattle.serde_json.specs.Written.{compact_text, items_text, comma_if}
use Rattle.cert_maker.specs.Cert.{Cert}
use Rattle.cert_codec.specs.Text.{array_of, numbers, row, added_json, never_json, cert_json, Fits, whole}
use Rattle.cert_codec.proofs.RoundTrip.{row_fits}
use Rattle.cert_codec.proofs.Writes.{compact_is}

-- a text without a byte
abbrev pub Lacks : ℕ → List ℕ → Type 0
Lacks b = AllByRecursion (λ byte. byte ≢ b)

lacks_append : (b : ℕ) (xs ys : List ℕ) → Lacks b xs → Lacks b ys → Lacks b (xs ++ ys)
lacks_append b [] ys h k = k
lacks_append b (x ∷ xs) ys h k = (h.0, lacks_append b xs ys h.1 k)

abbrev lacks : ℕ → List ℕ → Bool
lacks b [] = true
lacks b (x ∷ xs) = not (x == b) && lacks b xs

lacks_literal : (b : ℕ) (text : List ℕ) → lacks b text ≡ true → Lacks b text
lacks_literal b [] e = tt
lacks_literal b (x ∷ xs) e =
    let p = and_parts (not (x == b)) (lacks b xs) e in
    (λ same. let met : (x == b) ≡ true = eq-eqb x b same in let clash : false ≡ true = ap not (sym met) ∙ p.0 in cc, lacks_literal b xs p.1)

-- arrays of numbers have digits, commas and brackets alone
module _ (b : ℕ) (apart : (x : ℕ) → 44 ≤ x → x ≤ 93 → x ≢ b) where
  lacks_digits : (text : List ℕ) → AllDigits 10 text → Lacks b text
  lacks_digits [] h = tt
  lacks_digits (c ∷ cs) h = let digit = digit_from_value c h.0 in (apart c (omega (arith, digit.0)) (omega (arith, digit.1)), lacks_digits cs h.1)

  lacks_number : (n : ℕ) → n < 2 ^ 64 → Lacks b (decimal n)
  lacks_number n fits = lacks_digits (decimal n) (decimal_is_IsNumeral n fits).0.1

  lacks_one : (x : ℕ) → 44 ≤ x → x ≤ 93 → Lacks b (x ∷ [])
  lacks_one x low high = (apart x low high, tt)

  lacks_comma : (later : Bool) → Lacks b (comma_if later)
  lacks_comma true = lacks_one 44 (omega arith) (omega arith)
  lacks_comma false = tt

  lacks_items : {X : Type 0} (json : X → Data) (P : X → Type 0) → ((x : X) → P x → Lacks b (compact_text (json x))) → (later : Bool) (xs : List X) → AllByRecursion P xs → Lacks b (items_text later (items_of (map json xs)))
  lacks_items json P each later [] h = lacks_one 93 (omega arith) (omega arith)
  lacks_items json P each later (x ∷ xs) h = lacks_append b (comma_if later) _ (lacks_comma later) (lacks_append b (compact_text (json x)) _ (each x h.0) (lacks_items json P each true xs h.1))

  lacks_array : {X : Type 0} (json : X → Data) (P : X → Type 0) → ((x : X) → P x → Lacks b (compact_text (json x))) → (xs : List X) → AllByRecursion P xs → Lacks b (compact_text (array_of json xs))
  lacks_array json P each xs h = (apart 91 (omega arith) (omega arith), lacks_items json P each false xs h)

  lacks_numbers : (ns : List ℕ) → AllByRecursion (λ n. n < 2 ^ 64) ns → Lacks b (compact_text (numbers ns))
  lacks_numbers = lacks_array whole (λ n. n < 2 ^ 64) lacks_number

-- a first part that isn't the whole lacks the byte
abbrev pub Ends : ℕ → List ℕ → Type 0
Ends b text = (n : ℕ) → n < length text → Lacks b (take n text)

ends_here : (b x : ℕ) → Ends b (x ∷ [])
ends_here b x zero below = tt
ends_here b x (suc n) below = absurd (omega arith)

ends_later : (b : ℕ) (xs ys : List ℕ) → Lacks b xs → Ends b ys → Ends b (xs ++ ys)
ends_later b [] ys h k n below = k n below
ends_later b (x ∷ xs) ys h k zero below = tt
ends_later b (x ∷ xs) ys h k (suc n) below = (h.0, ends_later b xs ys h.1 k n (omega arith))

-- ---- a certificate, piece by piece

record IsFree (b : ℕ) (text : List ℕ) : Type 0 where
  pub holds : Lacks b text

free : (b : ℕ) (text : List ℕ) → Lacks b text → IsFree b text
free b text h = record { holds = h }

literal : (b : ℕ) (text : List ℕ) → lacks b text ≡ true → IsFree b text
literal b text e = free b text (lacks_literal b text e)

module _ (b : ℕ) (apart : (x : ℕ) → 44 ≤ x → x ≤ 93 → x ≢ b) (Q : List ℕ → Type 0) (then : (xs ys : List ℕ) → Lacks b xs → Q ys → Q (xs ++ ys)) where
  joined : {xs ys : List ℕ} → IsFree b xs → Q ys → Q (xs ++ ys)
  joined {xs} {ys} h k = then xs ys h.holds k

  number : (n : ℕ) → n < 2 ^ 64 → IsFree b (decimal n)
  number n fits = free b (decimal n) (lacks_number b apart n fits)

  added_free : (cert : Cert) → Fits cert → IsFree b (compact_text (array_of added_json cert.added))
  added_free cert fits = free b _ (lacks_array b apart added_json _ (λ t h. lacks_numbers b apart (row t.addr t.trace) (row_fits t.addr t.trace h.0 h.1)) cert.added fits.added)

  gone_free : (cert : Cert) → Fits cert → IsFree b (compact_text (numbers cert.gone))
  gone_free cert fits = free b _ (lacks_numbers b apart cert.gone fits.gone)

  never_free : (cert : Cert) → Fits cert → IsFree b (compact_text (array_of never_json cert.never))
  never_free cert fits = free b _ (lacks_array b apart never_json _ (λ page h. lacks_numbers b apart (page.block ∷ page.addr ∷ []) (h.0, (h.1, tt))) cert.never fits.never)

  in_pieces : lacks b (codes "{\"added\":") ≡ true → lacks b (codes ",\"base\":") ≡ true → lacks b (codes ",\"commit\":") ≡ true → lacks b (codes ",\"gone\":") ≡ true → lacks b (codes ",\"head\":") ≡ true
      → lacks b (codes ",\"never\":") ≡ true → lacks b (codes ",\"root\":") ≡ true → Q (codes "}") → (cert : Cert) → Fits cert → Q (compact_text (cert_json cert))
  in_pieces added base commit gone head never root end cert fits =
      subst Q (sym (compact_is cert))
      (joined (literal b (codes "{\"added\":") added) (joined (added_free cert fits) (joined (literal b (codes ",\"base\":") base) (joined (number cert.base fits.base)
      (joined (literal b (codes ",\"commit\":") commit) (joined (number cert.commit fits.commit) (joined (literal b (codes ",\"gone\":") gone) (joined (gone_free cert fits)
      (joined (literal b (codes ",\"head\":") head) (joined (number cert.head fits.head) (joined (literal b (codes ",\"never\":") never) (joined (never_free cert fits)
      (joined (literal b (codes ",\"root\":") root) (joined (number cert.root fits.root) end))))))))))))))

-- no line feed
pub flat_cert : (cert : Cert) → Fits cert → Lacks 10 (compact_text (cert_json cert))
flat_cert = in_pieces 10 (λ x low high e. omega arith) (Lacks 10) (lacks_append 10) refl refl refl refl refl refl refl (lacks_literal 10 (codes "}") refl)

-- no closing brace but at the end
pub closes_last : (cert : Cert) → Fits cert → Ends 125 (compact_text (cert_json cert))
closes_last = in_pieces 125 (λ x low high e. omega arith) (Ends 125) (ends_later 125) refl refl refl refl refl refl refl (ends_here 125 125)
