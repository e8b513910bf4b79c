-- No space stands in a name.
use Rattle.std.proofs.Common.{◌≡◌, ℕ, ◌+◌, inl, inr, List, [], ◌∷◌, ◌++◌, length, drop, sym, ap, ◌∙◌, append_assoc, arith, length-append}
use Rattle.std.proofs.lemmas.List.{drop_at}
use Rattle.std.specs.List.{All}
use Rattle.std.proofs.lemmas.List.Elements.{All-head, All-tail}
use Rattle.text_lines.specs.Lines.{HasNone}
use Rattle.volume_table.specs.Names.{IsName, IsNameByte}

no_space_byte : (byte : ℕ) → IsNameByte byte → byte ≡ 32 → ⊥
no_space_byte byte (inl letter) e = omega (arith, letter.0, e)
no_space_byte byte (inr (inl digit)) e = omega (arith, digit.0, e)
no_space_byte byte (inr (inr (inl low_line))) e = omega (arith, low_line, e)
no_space_byte byte (inr (inr (inr hyphen))) e = omega (arith, hyphen, e)

none_of : (text : List ℕ) → All IsNameByte text → HasNone 32 text
none_of [] all = tt
none_of (byte ∷ text) all = (no_space_byte byte (All-head IsNameByte byte text all), none_of text (All-tail IsNameByte byte text all))

pub name_has_no_space : (name : List ℕ) → IsName name → HasNone 32 name
name_has_no_space name is = none_of name is.bytes

-- what stands behind a word and a space
pub behind_word : (text word rest : List ℕ) → text ≡ word ++ 32 ∷ rest → drop (length word + 1) text ≡ rest
behind_word text word rest is =
    let size : length (word ++ 32 ∷ []) ≡ length word + 1 = length-append word (32 ∷ []) in
    ap (drop (length word + 1)) (is ∙ sym (append_assoc word (32 ∷ []) rest)) ∙ drop_at (word ++ 32 ∷ []) rest (length word + 1) size
