-- The fronts of blocks, and their hex.
use Rattle.std.proofs.Common.{◌≡◌, ℕ, zero, suc, ◌<◌, ◌⊎◌, inl, inr, List, [], ◌∷◌, length, get_or, sym, ap, subst, arith, length-append, Ok}
use Rattle.std.specs.List.{AllByRecursion}
use Rattle.hex.specs.Hex.{decode_of, encode_lower}
use Rattle.hex.proofs.HexLemmas.{decode_of-ok, decode_of-encode_lower}
use Rattle.script_lang.specs.Grammar.{IsHex}
use Rattle.script_lang.specs.Replies.{IsFront, IsTrimmed, hex_or_dash}

pub small_at : (bytes : List ℕ) → AllByRecursion (λ byte. byte < 256) bytes → (i : ℕ) → get_or bytes i 0 < 256
small_at [] h i = omega arith
small_at (b ∷ bytes) h zero = h.0
small_at (b ∷ bytes) h (suc i) = small_at bytes h.1 i

pub small_from : (bytes : List ℕ) → ((i : ℕ) → get_or bytes i 0 < 256) → AllByRecursion (λ byte. byte < 256) bytes
small_from [] h = tt
small_from (b ∷ bytes) h = (h 0, small_from bytes (λ i. h (suc i)))

-- nothing ends in a zero
pub nothing_is_trimmed : IsTrimmed []
nothing_is_trimmed front e = absurd (omega (arith, simp length-append at (ap length e)))

pub nothing_is_front : IsFront []
nothing_is_front = record { small = tt; fits = omega arith; trimmed = nothing_is_trimmed }

-- the text of a front is a dash, or its hex
pub front_hex : (text bytes : List ℕ) → IsFront bytes → text ≡ hex_or_dash bytes
    → (text ≡ 45 ∷ []) ⊎ (IsHex text bytes × (text ≡ encode_lower bytes))
front_hex text [] f e = inl e
front_hex text (b ∷ bytes) f e =
    let P : List ℕ → Type 0 = λ t. decode_of t ≡ Ok (b ∷ bytes) in
    inr ((subst P (sym e) (decode_of-encode_lower (b ∷ bytes) (small_at (b ∷ bytes) f.small)), omega arith, f.fits), e)

-- bytes that are trimmed and spelled in lower case are a front
pub found_front : (text bytes : List ℕ) → IsHex text bytes → IsTrimmed bytes → text ≡ encode_lower bytes
    → IsFront bytes × (text ≡ hex_or_dash bytes)
found_front text [] h trimmed e = absurd (omega (arith, h.1))
found_front text (b ∷ bytes) h trimmed e =
    (record { small = small_from (b ∷ bytes) (decode_of-ok text (b ∷ bytes) h.0).3; fits = h.2; trimmed = trimmed }, e)
