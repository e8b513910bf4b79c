-- The words of a key's generator are the keystream.
use Rattle.std.proofs.Common.{◌≡◌, ℕ, ◌+◌, ◌/◌, ◌%◌, ◌≤◌, ◌-◌, List, take, sym, ap, ◌∙◌, arith}
use Rattle.std.proofs.lemmas.List.{take_at}
use Rattle.rand_chacha.specs.ChaCha.{ChaCha, key_of, of_seed}
use Rattle.sdbt_base.specs.Keys.{bare}
use Rattle.chacha_words.specs.Words.{words}
use Rattle.chacha_words.proofs.WordLaws.{length-words, words-append}
use Rattle.seal_record.specs.Keystream.{stream}

-- the words from the start of stream 0 are the front of the keystream
pub filled_front : (key : List ℕ) (len : ℕ) (out : List ℕ) (rng : ChaCha) → out ≡ words rng.key rng.stream rng.word_pos (len / 4)
    → rng ≡ of_seed (bare key) → len % 4 ≡ 0 → len ≤ 4128 → out ≡ take len (stream key)
unfolding stream
filled_front key len out rng written start whole short =
    let n : ℕ = len / 4 in
    let front : List ℕ = words (key_of (bare key)) 0 0 n in
    let rest : List ℕ = words (key_of (bare key)) 0 (0 + n) (1032 - n) in
    let parts : n + (1032 - n) ≡ 1032 = omega arith in
    written ∙ ap (λ (g : ChaCha). words g.key g.stream g.word_pos n) start
    ∙ sym (take_at front rest len (omega (arith, length-words (key_of (bare key)) 0 0 n)))
    ∙ ap (take len) (sym (words-append (key_of (bare key)) 0 0 n (1032 - n)))
    ∙ ap (λ (k : ℕ). take len (words (key_of (bare key)) 0 0 k)) parts
