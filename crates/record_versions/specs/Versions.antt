-- The versions of records, and what a record has of a key in each.
use Rattle.std.specs.Prelude.{◌≡◌, ◌⊎◌, ℕ, ◌-◌, List, ◌++◌, length, replicate}
use Rattle.sdbt_base.specs.Keys.{digest_in}

-- there are two versions
abbrev pub IsVersion : ℕ → Type 0
IsVersion version = (version ≡ 1) ⊎ (version ≡ 2)

-- the 32 bytes that a root record has for a digest: zeros, where the key has none
abbrev pub digest_field : List ℕ → List ℕ
digest_field key = digest_in key ++ replicate (64 - length key) 0
