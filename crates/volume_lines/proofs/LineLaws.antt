-- A line asks for one thing, and no line of the grammar is long.
use Rattle.std.proofs.Common.{◌≡◌, ℕ, ◌+◌, ◌*◌, ◌<◌, cond, ◌==◌, List, [], ◌∷◌, ◌++◌, length, get_or, drop, refl, sym, ap, ◌∙◌, arith, length-append}
use Rattle.std.specs.Prelude.{codes}
use Rattle.std.specs.Result.{result_unwrap_or}
use Rattle.std.specs.Str.Parse.{digits_value}
use Rattle.hex.specs.Hex.{decode_of}
use Rattle.script_lang.specs.Grammar.{IsNumber}
use Rattle.script_lang.proofs.LongLines.{number_is_short, hex_is_short}
use Rattle.script_lang.proofs.Numbers.{number_is_numeral}
use Rattle.script_lang.proofs.Spaces.{no_space}
use Rattle.script_lang.proofs.ReplyLaws.{before_space, behind_space, before-space, behind-space}
use Rattle.text_lines.specs.Lines.{HasNone}
use Rattle.volume_lines.specs.Lines.{Line, Create, Read, Write, Trim, Destroy, Commit}
use Rattle.volume_lines.specs.Grammar.{Spells, IsBad}
use Rattle.volume_lines.proofs.NameLaws.{name_has_no_space}

-- the first two bytes as one number
abbrev begins : List ℕ → ℕ
begins text = get_or text 0 0 * 256 + get_or text 1 0

-- a number behind a name
abbrev number_behind : List ℕ → ℕ
number_behind text = digits_value 10 (behind_space text)

-- a write, without its first word
abbrev write_of : List ℕ → Line
write_of text = Write (before_space text) (digits_value 10 (before_space (behind_space text))) (result_unwrap_or (decode_of (behind_space (behind_space text))) [])

-- what the line asks for
abbrev asked_of : List ℕ → Line
asked_of line =
    cond (begins line == begins (codes "create ")) (Create (before_space (drop 7 line)) (number_behind (drop 7 line)))
    (cond (begins line == begins (codes "read ")) (Read (before_space (drop 5 line)) (number_behind (drop 5 line)))
    (cond (begins line == begins (codes "write ")) (write_of (drop 6 line))
    (cond (begins line == begins (codes "trim ")) (Trim (before_space (drop 5 line)) (number_behind (drop 5 line)))
    (cond (begins line == begins (codes "destroy ")) (Destroy (drop 8 line)) Commit))))

value : (text : List ℕ) (n : ℕ) → IsNumber text n → digits_value 10 text ≡ n
value text n h = (number_is_numeral text n h).1

-- a name, a space, and the text of a number behind it
named_number : (make : List ℕ → ℕ → Line) (name rest : List ℕ) (n : ℕ) → HasNone 32 name → digits_value 10 rest ≡ n
    → make (before_space (name ++ 32 ∷ rest)) (number_behind (name ++ 32 ∷ rest)) ≡ make name n
named_number make name rest n none is =
    ap (λ (text : List ℕ). make text (number_behind (name ++ 32 ∷ rest))) (before-space name rest none)
    ∙ ap (λ (text : List ℕ). make name (digits_value 10 text)) (behind-space name rest none) ∙ ap (make name) is

-- behind it the texts of a number and of bytes
named_write : (name a b : List ℕ) (block : ℕ) (content : List ℕ) → HasNone 32 name → HasNone 32 a → digits_value 10 a ≡ block → result_unwrap_or (decode_of b) [] ≡ content
    → write_of (name ++ 32 ∷ (a ++ 32 ∷ b)) ≡ Write name block content
named_write name a b block content none none-a is bytes =
    let rest : List ℕ = a ++ 32 ∷ b in
    ap (λ (text : List ℕ). Write text (digits_value 10 (before_space (behind_space (name ++ 32 ∷ rest)))) (result_unwrap_or (decode_of (behind_space (behind_space (name ++ 32 ∷ rest)))) [])) (before-space name rest none)
    ∙ ap (λ (text : List ℕ). Write name (digits_value 10 (before_space text)) (result_unwrap_or (decode_of (behind_space text)) [])) (behind-space name rest none)
    ∙ ap (λ (text : List ℕ). Write name (digits_value 10 text) (result_unwrap_or (decode_of (behind_space rest)) [])) (before-space a b none-a)
    ∙ ap (λ (text : List ℕ). Write name (digits_value 10 a) (result_unwrap_or (decode_of text) [])) (behind-space a b none-a)
    ∙ ap (λ (n : ℕ). Write name n (result_unwrap_or (decode_of b) [])) is ∙ ap (Write name block) bytes

-- it is computed from the line
asked_back : (line : List ℕ) (it : Line) → Spells line it → asked_of line ≡ it
asked_back line (Create name count) (a, is, n, e) = ap asked_of e ∙ named_number Create name a count (name_has_no_space name is) (value a count n)
asked_back line (Read name block) (rest, is, e, (a, n, f)) =
    let same : rest ≡ a = ap (drop 5) f in
    ap asked_of e ∙ named_number Read name rest block (name_has_no_space name is) (ap (digits_value 10) same ∙ value a block n)
asked_back line (Write name block content) (rest, is, e, (a, b, n, h, f)) =
    let same : rest ≡ a ++ 32 ∷ b = ap (drop 6) f in
    let bytes : result_unwrap_or (decode_of b) [] ≡ content = rw h.0 refl in
    ap asked_of e ∙ ap (λ (text : List ℕ). write_of (name ++ 32 ∷ text)) same ∙ named_write name a b block content (name_has_no_space name is) (no_space a block n) (value a block n) bytes
asked_back line (Trim name block) (rest, is, e, (a, n, f)) =
    let same : rest ≡ a = ap (drop 5) f in
    ap asked_of e ∙ named_number Trim name rest block (name_has_no_space name is) (ap (digits_value 10) same ∙ value a block n)
asked_back line (Destroy name) (is, e) = ap asked_of e
asked_back line Commit e = ap asked_of e

-- no line asks for two
pub one_thing : (line : List ℕ) (a b : Line) → Spells line a → Spells line b → a ≡ b
one_thing line a b p q = sym (asked_back line a p) ∙ asked_back line b q

-- no line of more than 8,300 bytes is in the grammar
pub long_is_bad : (line : List ℕ) → 8300 < length line → IsBad line
long_is_bad line long (Create name count) (a, is, n, e) = omega (arith, long, simp length-append at (ap length e), is.most, number_is_short a count n)
long_is_bad line long (Read name block) (rest, is, e, (a, n, f)) =
    let same : rest ≡ a = ap (drop 5) f in
    omega (arith, long, simp length-append at (ap length e), is.most, ap length same, number_is_short a block n)
long_is_bad line long (Write name block content) (rest, is, e, (a, b, n, h, f)) =
    let same : rest ≡ a ++ 32 ∷ b = ap (drop 6) f in
    omega (arith, long, simp length-append at (ap length e), is.most, simp length-append at (ap length same), number_is_short a block n, hex_is_short b content h)
long_is_bad line long (Trim name block) (rest, is, e, (a, n, f)) =
    let same : rest ≡ a = ap (drop 5) f in
    omega (arith, long, simp length-append at (ap length e), is.most, ap length same, number_is_short a block n)
long_is_bad line long (Destroy name) (is, e) = omega (arith, long, simp length-append at (ap length e), is.most)
long_is_bad line long Commit e = omega (arith, long, ap length e)
