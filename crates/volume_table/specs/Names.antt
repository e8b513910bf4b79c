-- Names of volumes.
use Rattle.std.proofs.Common.{◌≡◌, ℕ, ◌-◌, ◌≤◌, ◌⊎◌, List, ◌∷◌, ◌++◌, length, replicate, take, drop, sym, ap, ◌∙◌, arith}
use Rattle.std.specs.List.{All}
use Rattle.std.proofs.lemmas.List.{length-take, take-append-drop}

-- a to z, 0 to 9, _ and -
abbrev pub IsNameByte : ℕ → Type 0
IsNameByte byte = ((97 ≤ byte) × (byte ≤ 122)) ⊎ ((48 ≤ byte) × (byte ≤ 57)) ⊎ (byte ≡ 95) ⊎ (byte ≡ 45)

-- a name has 1 to 47 of these
pub record IsName (name : List ℕ) : Type 0 where
  pub least : 1 ≤ length name
  pub most : length name ≤ 47
  pub bytes : All IsNameByte name

-- the 48 bytes of a name: its length before it, and zeros behind it
unfoldable pub name_bytes : List ℕ → List ℕ
name_bytes name = length name ∷ (name ++ replicate (47 - length name) 0)

-- a name and the zeros behind it are known from each other
pub unpadded : (bytes : List ℕ) (len : ℕ) → len ≤ 47 → length bytes ≡ 47 → drop len bytes ≡ replicate (47 - len) 0
    → (take len bytes ++ replicate (47 - length (take len bytes)) 0 ≡ bytes) × (length (take len bytes) ≡ len)
unpadded bytes len most size zeros =
    let short : length (take len bytes) ≡ len = simp length-take (omega arith) in
    (ap (λ (n : ℕ). take len bytes ++ replicate (47 - n) 0) short ∙ ap (λ (xs : List ℕ). take len bytes ++ xs) (sym zeros) ∙ take-append-drop len bytes, short)
