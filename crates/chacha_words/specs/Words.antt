-- The words of ChaCha20, each written least byte first.
use Rattle.std.specs.Prelude.{◌≡◌, ℕ, zero, suc, ◌+◌, ◌*◌, List, [], ◌++◌, take}
use Rattle.std.specs.Int.{w32, to_le_bytes}
use Rattle.rand_core.specs.Steps.{word_bytes}
use Rattle.rand_chacha.specs.ChaCha.{ChaCha, word_at, next_word}

-- the bytes of n words of a stream from a place on, under a key of eight words
unfoldable pub words : List ℕ → ℕ → ℕ → ℕ → List ℕ
words key number place zero = []
words key number place (suc n) = words key number place n ++ to_le_bytes w32 (word_at 10 key number (place + n))

-- a buffer begins with the first n words of a generator, which stands behind them now
abbrev pub HasWords : ChaCha → ℕ → List ℕ → ChaCha → Type 0
HasWords first n out now = (take (4 * n) out, now) ≡ word_bytes (to_le_bytes w32) (next_word 10) n first

-- behind the words that a buffer has, it gets the next so many
abbrev pub AddsWords : ℕ → ℕ → List ℕ → ChaCha → List ℕ → ChaCha → Type 0
AddsWords more at out now out' now' = (first : ChaCha) (n : ℕ) → n ≡ at + more → HasWords first at out now → HasWords first n out' now'
