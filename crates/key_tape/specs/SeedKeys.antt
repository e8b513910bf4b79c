-- The keys of a seeded tape.
use Rattle.std.specs.Prelude.{ℕ, zero, suc, ◌*◌, List, [], ◌∷◌, ◌++◌, replicate}
use Rattle.std.specs.Int.{w64, to_be_bytes}
use Rattle.rand_chacha.specs.ChaCha.{key_of}
use Rattle.chacha_words.specs.Words.{words}

-- what contracts see of a seeded tape: its seed, how many keys it drew, and how often it failed
pub record SeedTapeState : Type 0 where
  pub seed : ℕ
  pub draws : ℕ
  pub failed : ℕ

-- the 32 seed bytes of a number: the number, most significant byte first, and zeros
unfoldable pub seed_bytes : ℕ → List ℕ
seed_bytes seed = to_be_bytes w64 seed ++ replicate 24 0

-- key n of a seed, from 0: words 8n to 8n + 7 of stream 1
unfoldable pub key_at : ℕ → ℕ → List ℕ
key_at seed n = words (key_of (seed_bytes seed)) 1 (8 * n) 8

-- the first n keys of a seed
unfoldable pub first_keys : ℕ → ℕ → List (List ℕ)
first_keys seed zero = []
first_keys seed (suc n) = first_keys seed n ++ key_at seed n ∷ []
