-- The keystream of a key.
use Rattle.std.specs.Prelude.{ℕ, List}
use Rattle.rand_chacha.specs.ChaCha.{key_of}
use Rattle.sdbt_base.specs.Keys.{bare}
use Rattle.chacha_words.specs.Words.{words}

-- the bytes that seal one record: 1,032 words of stream 0 from its start, under the 32 bytes of a key, without its digest
unfoldable pub stream : List ℕ → List ℕ
stream key = words (key_of (bare key)) 0 0 1032
