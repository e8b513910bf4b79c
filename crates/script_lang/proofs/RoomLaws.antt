-- What stands in the room of a line behind a text that was written over it from a place on.
use Rattle.std.proofs.Common.{arith, ◌≡◌, ◌∙◌, ◌+◌, ◌-◌, ◌≤◌, ℕ, zero, suc, List, [], ◌∷◌, ◌++◌, length, take, drop, get_or, replicate, refl, sym, ap, subst}
use Rattle.std.proofs.lemmas.List.{get_or-append_right, get_or-drop, length-take-le, take-append-drop}
use Rattle.std.proofs.Math.Seq.{take-append-add, take-append_seam}

-- a text was written from the place on, and all else stands as it was
pub record IsWritten (at : ℕ) (text old new : List ℕ) : Type 0 where
  pub before : take at new ≡ take at old
  pub written : drop at new ≡ text ++ drop (at + length text) old
  pub fits : at ≤ length old

module _ (at : ℕ) (text old new : List ℕ) (is : IsWritten at text old new) where
  whole : new ≡ take at old ++ (text ++ drop (at + length text) old)
  whole = subst (λ front. new ≡ front ++ (text ++ drop (at + length text) old)) is.before (subst (λ back. new ≡ take at new ++ back) is.written (sym (take-append-drop at new)))

  len : length (take at old) ≡ at
  len = length-take-le at old is.fits

  pub front_written : take (at + length text) new ≡ take at old ++ text
  front_written =
      ap (take (at + length text)) whole
      ∙ subst (λ n. take (n + length text) (take at old ++ (text ++ drop (at + length text) old)) ≡ take at old ++ text) len
      (take-append-add (take at old) (text ++ drop (at + length text) old) (length text) ∙ ap (λ back. take at old ++ back) (take-append_seam text (drop (at + length text) old)))

  pub behind_written : (place : ℕ) → at + length text ≤ place → get_or new place 0 ≡ get_or old place 0
  behind_written place behind =
      let same : (at + length text) + (place - at - length text) ≡ place = omega arith in
      ap (λ room. get_or room place 0) whole
      ∙ get_or-append_right (take at old) (text ++ drop (at + length text) old) at place 0 len (omega arith)
      ∙ get_or-append_right text (drop (at + length text) old) (length text) (place - at) 0 refl (omega arith)
      ∙ get_or-drop (at + length text) old (place - at - length text) 0
      ∙ ap (λ i. get_or old i 0) same

-- bytes that all are zero
pub all_zero : (bytes : List ℕ) → ((place : ℕ) → get_or bytes place 0 ≡ 0) → bytes ≡ replicate (length bytes) 0
all_zero [] zeros = refl
all_zero (byte ∷ bytes) zeros = ap (λ (first : ℕ). first ∷ bytes) (zeros 0) ∙ ap (λ (rest : List ℕ). 0 ∷ rest) (all_zero bytes (λ place. zeros (suc place)))

-- zeros were written over the front of a room, and all behind it was zero
pub blank_room : (used : ℕ) (bytes : List ℕ) → used ≤ length bytes → ((place : ℕ) → used ≤ place → get_or bytes place 0 ≡ 0)
    → replicate used 0 ++ drop used bytes ≡ replicate (length bytes) 0
blank_room zero bytes fits zeros = all_zero bytes (λ place. zeros place (omega arith))
blank_room (suc used) [] fits zeros = absurd (omega (arith, fits))
blank_room (suc used) (byte ∷ bytes) fits zeros = ap (λ (rest : List ℕ). 0 ∷ rest) (blank_room used bytes (omega (arith, fits)) (λ place behind. zeros (suc place) (omega (arith, behind))))
