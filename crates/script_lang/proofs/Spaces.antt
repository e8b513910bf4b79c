-- A text falls into a word and a rest at its first space in one way.
use Rattle.std.proofs.Common.{◌≡◌, ℕ, inl, List, [], ◌∷◌, ◌++◌, refl, arith}
use Rattle.script_lang.specs.Grammar.{IsNumber}
use Rattle.text_lines.specs.Lines.{HasNone}
use Rattle.script_lang.proofs.Numbers.{number_has_none}

-- where the byte stands, the text doesn't lack it
pub has_byte : (byte : ℕ) (a b : List ℕ) → HasNone byte (a ++ byte ∷ b) → ⊥
has_byte byte [] b h = h.0 refl
has_byte byte (c ∷ a) b h = has_byte byte a b h.1

-- the first place of the byte is one
pub split_once : (byte : ℕ) (a b c d : List ℕ) → HasNone byte a → HasNone byte c → a ++ byte ∷ b ≡ c ++ byte ∷ d → (a ≡ c) × (b ≡ d)
split_once byte [] b [] d p q e = (refl, cc)
split_once byte [] b (y ∷ c) d p q e = absurd (q.0 (cc))
split_once byte (x ∷ a) b [] d p q e = absurd (p.0 (cc))
split_once byte (x ∷ a) b (y ∷ c) d p q e =
    let heads : x ≡ y = cc in
    let tails : a ++ byte ∷ b ≡ c ++ byte ∷ d = cc in
    let rest = split_once byte a b c d p.1 q.1 tails in
    (cc, rest.1)

-- no space stands in a number
pub no_space : (text : List ℕ) (n : ℕ) → IsNumber text n → HasNone 32 text
no_space text n h = number_has_none 32 (inl (omega arith)) text n h
