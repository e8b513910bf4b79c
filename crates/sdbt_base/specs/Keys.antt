-- What a key is: 32 bytes, and behind them, where it is known, the digest of the page that they seal.
use Rattle.std.specs.Prelude.{◌≡◌, ◌==◌, ℕ, ◌+◌, List, [], ◌∷◌, ◌++◌, Option, None, Some, Result, Ok, Err, take, drop, length, IfSome, if◌then◌else◌}
use Rattle.std.proofs.Common.{refl, ap, subst, ◌∙◌, arith}
use Rattle.std.proofs.Math.Seq.{take-append_seam, drop-append_seam, take-length, drop-length}
use Rattle.sdbt_base.specs.Bytes.{IsBytes}

-- the bytes without the digest
abbrev pub bare : List ℕ → List ℕ
bare key = take 32 key

-- the digest, or nothing
abbrev pub digest_in : List ℕ → List ℕ
digest_in key = drop 32 key

-- how many bytes a key has in a version: the digest stands behind it in version 2
abbrev pub key_size : ℕ → ℕ
key_size version = if version == 2 then 64 else 32

-- the version of the node whose page a key seals
abbrev pub version_of : List ℕ → ℕ
version_of key = if length key == 64 then 2 else 1

-- how many entries a node of a version holds at most, and how many bytes one takes
abbrev pub most_entries : ℕ → ℕ
most_entries version = if version == 2 then 48 else 64

abbrev pub entry_size : ℕ → ℕ
entry_size version = key_size version + 16

-- a key in a version
abbrev pub IsKeyOf : ℕ → List ℕ → Type 0
IsKeyOf version key = IsBytes (key_size version) key

-- nothing, where there are no bytes
abbrev pub some_bytes : List ℕ → Option (List ℕ)
some_bytes [] = None
some_bytes (b ∷ bs) = Some (b ∷ bs)

-- the digest, if there is one
abbrev pub digest_of : List ℕ → Option (List ℕ)
digest_of key = some_bytes (digest_in key)

-- the bytes, and the digest behind them
abbrev pub key_with : List ℕ → Option (List ℕ) → List ℕ
key_with bytes None = bytes
key_with bytes (Some digest) = bytes ++ digest

-- what the fields of a key are: 32 bytes, and perhaps as many
abbrev pub AreOfKey : List ℕ → Option (List ℕ) → Type 0
AreOfKey bytes digest = (length bytes ≡ 32) × IfSome digest (λ d. length d ≡ 32)

-- the fields of a key can be read off it
pub bare_with : (bytes : List ℕ) (digest : Option (List ℕ)) → AreOfKey bytes digest → bare (key_with bytes digest) ≡ bytes
bare_with bytes None h = subst (λ n. take n bytes ≡ bytes) h.0 (take-length bytes)
bare_with bytes (Some d) h = subst (λ n. take n (bytes ++ d) ≡ bytes) h.0 (take-append_seam bytes d)

some_bytes_is : (d : List ℕ) → length d ≡ 32 → some_bytes d ≡ Some d
some_bytes_is [] h = absurd (omega (arith, h))
some_bytes_is (b ∷ bs) h = refl

pub digest_with : (bytes : List ℕ) (digest : Option (List ℕ)) → AreOfKey bytes digest → digest_of (key_with bytes digest) ≡ digest
digest_with bytes None h = ap some_bytes (subst (λ n. drop n bytes ≡ []) h.0 (drop-length bytes))
digest_with bytes (Some d) h = ap some_bytes (subst (λ n. drop n (bytes ++ d) ≡ d) h.0 (drop-append_seam bytes d)) ∙ some_bytes_is d h.1

-- what a place for a fresh key holds behind a draw: a key where that was done, and else none, so that its bytes are zeros
abbrev pub Fills : {T E : Type 0} → Result T E → List ℕ → Type 0
Fills (Ok done) key = length key ≡ 32
Fills (Err fault) key = key ≡ []
