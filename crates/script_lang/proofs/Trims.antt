-- Bytes without their trailing zeros.
use Rattle.std.proofs.Common.{◌≡◌, ◌≢◌, ℕ, zero, suc, false, ◌==◌, inl, inr, List, [], ◌∷◌, ◌++◌, refl, length, replicate, take, get_or, ◌+◌, ◌-◌, ◌<◌, ◌≤◌, sym, ap, ◌∙◌, arith}
use Rattle.std.proofs.lemmas.Bool.{cases_Bool, eqb-true}
use Rattle.std.proofs.lemmas.List.{take_more}
use Rattle.script_lang.specs.Arrays.{before_trimmed, trimmed}
use Rattle.script_lang.specs.Replies.{IsTrimmed}
use Rattle.script_lang.proofs.Fronts.{nothing_is_trimmed}

-- a last zero is dropped
pub trimmed-zero : (front : List ℕ) → trimmed (front ++ 0 ∷ []) ≡ trimmed front
unfolding trimmed
trimmed-zero [] = refl
trimmed-zero (byte ∷ front) = ap (before_trimmed byte) (trimmed-zero front)

not_zero : (byte : ℕ) → byte ≢ 0 → (byte == 0) ≡ false
not_zero byte other = elim (cases_Bool (byte == 0)) [ inl same ↦ absurd (other (eqb-true byte 0 same)) | inr different ↦ different ]

-- bytes that end in another byte stay
pub trimmed-other : (front : List ℕ) (byte : ℕ) → byte ≢ 0 → trimmed (front ++ byte ∷ []) ≡ front ++ byte ∷ []
unfolding trimmed
trimmed-other [] byte other = rw (not_zero byte other) refl
trimmed-other (first ∷ []) byte other = rw (trimmed-other [] byte other) refl
trimmed-other (first ∷ second ∷ front) byte other = rw (trimmed-other (second ∷ front) byte other) refl

-- nothing is left of zeros
pub trimmed-zeros : (n : ℕ) → trimmed (replicate n 0) ≡ []
unfolding trimmed
trimmed-zeros zero = refl
trimmed-zeros (suc n) = rw (trimmed-zeros n) refl

alone : (byte : ℕ) → (byte == 0) ≡ false → IsTrimmed (byte ∷ [])
alone byte other [] e = let zero_is : byte ≡ 0 = cc in cc (other, ap (λ (n : ℕ). n == 0) zero_is)
alone byte other (x ∷ front) e = let rest : [] ≡ front ++ 0 ∷ [] = cc in absurd (nothing_is_trimmed front rest)

longer : (byte next : ℕ) (bytes : List ℕ) → IsTrimmed (next ∷ bytes) → IsTrimmed (byte ∷ next ∷ bytes)
longer byte next bytes h [] e = absurd (cc)
longer byte next bytes h (x ∷ front) e = let rest : next ∷ bytes ≡ front ++ 0 ∷ [] = cc in h front rest

stays_trimmed : (byte : ℕ) (bytes : List ℕ) → IsTrimmed bytes → IsTrimmed (before_trimmed byte bytes)
stays_trimmed byte [] h =
    elim (cases_Bool (byte == 0)) [
      | inl same ↦ rw same nothing_is_trimmed
      | inr other ↦ rw other (alone byte other)
    ]
stays_trimmed byte (next ∷ bytes) h = longer byte next bytes h

-- what is left doesn't end in a zero
pub trimmed_is_trimmed : (bytes : List ℕ) → IsTrimmed (trimmed bytes)
unfolding trimmed
trimmed_is_trimmed [] = nothing_is_trimmed
trimmed_is_trimmed (byte ∷ bytes) = stays_trimmed byte (trimmed bytes) (trimmed_is_trimmed bytes)

-- the last of some first bytes
last_of_front : (bytes : List ℕ) (len : ℕ) → 0 < len → len ≤ length bytes → take len bytes ≡ take (len - 1) bytes ++ get_or bytes (len - 1) 0 ∷ []
last_of_front bytes len some fits =
    let e : len ≡ len - 1 + 1 = omega arith in
    ap (λ (n : ℕ). take n bytes) e ∙ take_more bytes (len - 1) 0 (omega arith)

-- a last byte that is zero is dropped, and another stays
pub trim_step : (bytes : List ℕ) (len : ℕ) → 0 < len → len ≤ length bytes → get_or bytes (len - 1) 0 ≡ 0 → trimmed (take (len - 1) bytes) ≡ trimmed (take len bytes)
trim_step bytes len some fits last = rw (last_of_front bytes len some fits, last) (sym (trimmed-zero (take (len - 1) bytes)))

pub trim_end : (bytes : List ℕ) (len : ℕ) → 0 < len → len ≤ length bytes → get_or bytes (len - 1) 0 ≢ 0 → trimmed (take len bytes) ≡ take len bytes
trim_end bytes len some fits last = rw (last_of_front bytes len some fits) (trimmed-other (take (len - 1) bytes) (get_or bytes (len - 1) 0) last)

pub trimmed-nil : trimmed [] ≡ []
unfolding trimmed
trimmed-nil = refl
