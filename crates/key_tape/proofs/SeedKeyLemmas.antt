-- What a seeded tape's generator gives, and the keys of a seed.
use Rattle.std.proofs.Common.{◌≡◌, ℕ, ◌+◌, ◌*◌, List, [], ◌∷◌, ◌++◌, ap, ◌∙◌, add-one}
use Rattle.rand_chacha.specs.ChaCha.{key_of}
use Rattle.sdbt_base.specs.Bytes.{IsBytes}
use Rattle.chacha_words.specs.Words.{words}
use Rattle.chacha_words.proofs.WordLaws.{length-words, All-words}
use Rattle.key_tape.specs.SeedKeys.{seed_bytes, key_at, first_keys}

-- the eight words at the place of a key are that key
pub key_of_words : (seed n : ℕ) (key : List ℕ) (stream place : ℕ)
    → key ≡ key_of (seed_bytes seed) → stream ≡ 1 → place ≡ 8 * n → words key stream place 8 ≡ key_at seed n
unfolding key_at
key_of_words seed n key stream place same_key same_stream same_place =
    ap (λ (k : List ℕ). words k stream place 8) same_key
    ∙ ap (λ (s : ℕ). words (key_of (seed_bytes seed)) s place 8) same_stream
    ∙ ap (λ (p : ℕ). words (key_of (seed_bytes seed)) 1 p 8) same_place

-- one key more
pub first_keys-more : (seed n : ℕ) → first_keys seed (n + 1) ≡ first_keys seed n ++ key_at seed n ∷ []
unfolding first_keys
first_keys-more seed n = ap (first_keys seed) (add-one n)

pub ruleset seed_keys = (key_of_words, first_keys-more)

-- a key of a seed is 32 bytes
pub IsBytes-key_at : (seed n : ℕ) → IsBytes 32 (key_at seed n)
unfolding key_at
IsBytes-key_at seed n = (length-words (key_of (seed_bytes seed)) 1 (8 * n) 8, All-words (key_of (seed_bytes seed)) 1 (8 * n) 8)
