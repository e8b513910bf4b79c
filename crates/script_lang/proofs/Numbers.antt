-- The texts of numbers: what stands in them, and what reading one says.
use Rattle.std.proofs.Common.{◌≡◌, ℕ, zero, suc, ◌+◌, ◌*◌, ◌/◌, ◌%◌, ◌^◌, ◌<◌, ◌≤◌, ◌⊎◌, inl, inr, List, [], ◌∷◌, ◌++◌, length, length-append, Result, Ok, sym, subst, arith}
use Rattle.std.specs.Str.{IsAscii, IsUtf8}
use Rattle.std.specs.Fmt.{decimal}
use Rattle.std.specs.Str.Parse.{AllDigits, IsNumeral, ParsesUnsigned, digits_value}
use Rattle.std.proofs.lemmas.Fmt.{decimal_is_IsNumeral, decimal_by_steps, length-decimal-le, IsAscii-decimal, parse-decimal}
use Rattle.std.proofs.lemmas.Str.{IsUtf8-from_ascii}
use Rattle.std.proofs.lemmas.Str.Parse.{digit_from_value}
use Rattle.script_lang.specs.Grammar.{IsNumber}
use Rattle.text_lines.specs.Lines.{HasNone}

pub number_is_numeral : (text : List ℕ) (n : ℕ) → IsNumber text n → IsNumeral 10 text × (digits_value 10 text ≡ n)
number_is_numeral text n h = let P : List ℕ → Type 0 = λ t. IsNumeral 10 t × (digits_value 10 t ≡ n) in
    subst P (sym h.1) (decimal_is_IsNumeral n h.0)

pub number_is_utf8 : (text : List ℕ) (n : ℕ) → IsNumber text n → IsUtf8 text
number_is_utf8 text n h = IsUtf8-from_ascii text (subst IsAscii (sym h.1) (IsAscii-decimal n h.0))

-- each number's text is read
pub number_is_read : {E : Type 0} (text : List ℕ) (r : Result ℕ E) (n : ℕ) → ParsesUnsigned 64 10 text r → IsNumber text n → r ≡ Ok n
number_is_read text r n parses h = parse-decimal 64 n text r h.0 h.0 h.1 parses

digits_have_none : (byte : ℕ) → (byte < 48) ⊎ (57 < byte) → (text : List ℕ) → AllDigits 10 text → HasNone byte text
digits_have_none byte other [] h = tt
digits_have_none byte other (c ∷ cs) h =
    let digit = digit_from_value c h.0 in
    (λ e. elim other [ inl low ↦ absurd (omega (arith, digit.0, e)) | inr high ↦ absurd (omega (arith, digit.1, e)) ], digits_have_none byte other cs h.1)

-- no number's text has this byte, which is no digit
pub number_has_none : (byte : ℕ) → (byte < 48) ⊎ (57 < byte) → (text : List ℕ) (n : ℕ) → IsNumber text n → HasNone byte text
number_has_none byte other text n h = digits_have_none byte other text (number_is_numeral text n h).0.1

power_of_ten : (j : ℕ) → 0 < 10 ^ j
power_of_ten zero = omega arith
power_of_ten (suc j) = omega (arith, power_of_ten j)

-- a number that is at least a power of ten has a digit more than that has zeros
length-decimal-gt : (k n : ℕ) → 10 ^ k ≤ n → n < 2 ^ 64 → k < length (decimal n)
length-decimal-gt k n least small = decimal_by_steps (λ m ds. (j : ℕ) → 10 ^ j ≤ m → j < length ds) one more n small k least
  where
    one : (m : ℕ) → m < 10 → (j : ℕ) → 10 ^ j ≤ m → j < 1
    one m short zero a = omega arith
    one m short (suc j) a = absurd (omega (arith, power_of_ten j))

    more : (m : ℕ) (ds : List ℕ) → 10 ≤ m → ((j : ℕ) → 10 ^ j ≤ m / 10 → j < length ds) → (j : ℕ) → 10 ^ j ≤ m → j < length (ds ++ ((48 + m % 10) ∷ []))
    more m ds some h zero a = omega (arith, length-append ds ((48 + m % 10) ∷ []))
    more m ds some h (suc j) a = omega (arith, length-append ds ((48 + m % 10) ∷ []), h j (omega arith))

-- a number from a power of ten up to the next one has a digit more than that has zeros
pub length-decimal : (k n : ℕ) → 10 ^ k ≤ n → n < 10 * 10 ^ k → n < 2 ^ 64 → length (decimal n) ≡ suc k
length-decimal k n least less small = omega (arith, length-decimal-gt k n least small, length-decimal-le (suc k) n (omega arith) (omega arith) small)
