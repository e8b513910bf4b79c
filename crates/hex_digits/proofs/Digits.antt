-- Digits as numbers: what tests and arithmetic on their codes give.
use Rattle.std.proofs.Common.{◌≡◌, ℕ, ◌+◌, ◌*◌, ◌/◌, ◌%◌, ◌<◌, ◌≤◌, min, cond, true, nat_lt, Some, Ok, bit_and, bit_or, ◌==◌, slice_index, refl, ap, ◌∙◌, arith}
use Rattle.std.proofs.lemmas.Bool.{agree_below_at, cond_above, cond_below, eqb-true}
use Rattle.std.proofs.lemmas.Nat.{and_block, and_mask}
use Rattle.hex.specs.Hex.{digit_or_error, hex_digit_value, is_hex_digit, lower_digits, pair_value, value_at}

-- a byte's distance above `0`, and above four places before `a` in lower case
abbrev pub number_of : ℕ → ℕ
number_of c = (c + 208) % 256

abbrev pub letter_of : ℕ → ℕ
letter_of c = min ((bit_or c 32 + 159) % 256 + 4) 255

-- the lower of both is below 10 where the byte is a digit
lower_below_ten : (c : ℕ) → c < 256
    → nat_lt (cond (nat_lt (number_of c) (letter_of c)) (number_of c) (letter_of c)) 10 ≡ is_hex_digit c
lower_below_ten c h =
    agree_below_at (λ k. nat_lt (cond (nat_lt (number_of k) (letter_of k)) (number_of k) (letter_of k)) 10) is_hex_digit 256 c refl h

pub number_below_ten : (c letter : ℕ) → c < 256 → letter ≡ letter_of c → number_of c < letter
    → nat_lt (number_of c) 10 ≡ is_hex_digit c
number_below_ten c letter h e below =
    let less : number_of c < letter_of c = rw e at below in
    ap (λ (v : ℕ). nat_lt v 10) (cond_below (number_of c) (letter_of c) (number_of c) (letter_of c) less) ∙ lower_below_ten c h

pub letter_below_ten : (c letter : ℕ) → c < 256 → letter ≡ letter_of c → letter ≤ number_of c
    → nat_lt letter 10 ≡ is_hex_digit c
letter_below_ten c letter h e above =
    let most : letter_of c ≤ number_of c = rw e at above in
    ap (λ (v : ℕ). nat_lt v 10) (cond_above (number_of c) (letter_of c) (number_of c) (letter_of c) letter most e) ∙ lower_below_ten c h

-- a digit's code is small
pub is_hex_digit-small : (c : ℕ) → is_hex_digit c ≡ true → c < 128
is_hex_digit-small c h = grind (arith)

-- a digit's value, by arithmetic on its code
pub hex_digit_value-by_code : (c : ℕ) → is_hex_digit c ≡ true → hex_digit_value c ≡ Some (c % 16 + c / 64 * 9)
hex_digit_value-by_code c h = grind (arith)

-- such a value is below 16
pub code_value-small : (c : ℕ) → is_hex_digit c ≡ true → c % 16 + c / 64 * 9 < 16
code_value-small c h = grind (arith)

-- both values in the halves of one number
pub values_at_once : (h l : ℕ) → h < 128 → l < 128
    → bit_and (h + l * 256) 3855 + bit_and ((h + l * 256) / 64) 257 * 9
    ≡ (l % 16 + l / 64 * 9) * 256 + (h % 16 + h / 64 * 9)
values_at_once h l hs ls =
    let turned : h + l * 256 ≡ l * 256 + h = omega arith in
    let low : bit_and (l * 256 + h) 3855 ≡ bit_and l 15 * 256 + bit_and h 15 = and_block 8 l 15 h 15 (omega arith) (omega arith) in
    let l15 : bit_and l 15 ≡ l % 16 = and_mask l 4 in
    let h15 : bit_and h 15 ≡ h % 16 = and_mask h 4 in
    let shifted : (l * 256 + h) / 64 ≡ l / 64 * 256 + (l % 64 * 4 + h / 64) = omega arith in
    let letters : bit_and (l / 64 * 256 + (l % 64 * 4 + h / 64)) 257
    ≡ bit_and (l / 64) 1 * 256 + bit_and (l % 64 * 4 + h / 64) 1 = and_block 8 (l / 64) 1 (l % 64 * 4 + h / 64) 1 (omega arith) (omega arith) in
    let l1 : bit_and (l / 64) 1 ≡ l / 64 % 2 = and_mask (l / 64) 1 in
    let h1 : bit_and (l % 64 * 4 + h / 64) 1 ≡ (l % 64 * 4 + h / 64) % 2 = and_mask (l % 64 * 4 + h / 64) 1 in
    rw (turned, low, shifted, letters, l15, h15, l1, h1) (omega arith)

-- two digits read as their byte
pub pair_value-by_code : (h l i : ℕ) → is_hex_digit h ≡ true → is_hex_digit l ≡ true
    → pair_value h l i ≡ Ok ((h % 16 + h / 64 * 9) * 16 + (l % 16 + l / 64 * 9))
pair_value-by_code h l i hd ld =
    let hv : value_at h i ≡ Ok (h % 16 + h / 64 * 9) = ap (digit_or_error h i) (hex_digit_value-by_code h hd) in
    let lv : value_at l (i + 1) ≡ Ok (l % 16 + l / 64 * 9) = ap (digit_or_error l (i + 1)) (hex_digit_value-by_code l ld) in
    rw (hv, lv) refl

-- the byte of both values
pub byte_at_once : (x y : ℕ) → x < 16 → y < 16 → (y * 256 + x) * 4097 % 65536 / 256 ≡ x * 16 + y
byte_at_once x y hx hy = omega arith

-- both digits of a byte in the halves of one number, as `digits_of` computes them
abbrev pub digits_at_once : ℕ → ℕ
digits_at_once b =
    b * 4097 % 65536 / 16 + 12336 + bit_and ((b * 4097 % 65536 / 16 + 1542) / 16) 257 * 39

pub digits_at_once-first : (b : ℕ) → b < 256 → digits_at_once b % 256 ≡ slice_index lower_digits (b / 16)
digits_at_once-first b h =
    eqb-true _ _
    (agree_below_at (λ k. digits_at_once k % 256 == slice_index lower_digits (k / 16)) (λ k. true) 256 b refl h)

pub digits_at_once-second : (b : ℕ) → b < 256 → digits_at_once b / 256 ≡ slice_index lower_digits (b % 16)
digits_at_once-second b h =
    eqb-true _ _
    (agree_below_at (λ k. digits_at_once k / 256 == slice_index lower_digits (k % 16)) (λ k. true) 256 b refl h)
