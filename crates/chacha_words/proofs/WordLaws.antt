-- The length of keystream words, their parts, and that the generator of `rand_chacha` writes them.
use Rattle.std.proofs.Common.{◌≡◌, ℕ, zero, suc, ◌+◌, ◌*◌, ◌%◌, ◌^◌, ◌<◌, ◌≤◌, List, [], ◌∷◌, ◌++◌, length, take, set, refl, sym, ap, ◌-◌, ◌∙◌, add-zero, add-suc, add_assoc, append_assoc, append-nil, length-append, arith, rules}
use Rattle.std.proofs.Math.Seq.{take-append_seam}
use Rattle.std.proofs.lemmas.Grind.{take-set_at}
use Rattle.std.proofs.lemmas.List.{take_all}
use Rattle.std.proofs.lemmas.Slice.{take-put_mid, overwrites}
use borrow.Rule.Slice.PartMut.{put_mid}
use Rattle.std.specs.Int.{w32, to_le_bytes}
use Rattle.std.specs.List.{All}
use Rattle.std.proofs.lemmas.List.Elements.{All-append}
use Rattle.rand_core.specs.Steps.{word_bytes}
use Rattle.rand_chacha.specs.ChaCha.{ChaCha, word_at, next_word}
use Rattle.chacha_words.specs.Words.{words}

pub length-words : (key : List ℕ) (number place n : ℕ) → length (words key number place n) ≡ 4 * n
unfolding words
length-words key number place zero = refl
length-words key number place (suc n) =
    omega (arith, length-append (words key number place n) (to_le_bytes w32 (word_at 10 key number (place + n))), length-words key number place n)

-- the words of a longer stream begin with those of a shorter one
pub words-append : (key : List ℕ) (number place n more : ℕ)
    → words key number place (n + more) ≡ words key number place n ++ words key number (place + n) more
unfolding words
words-append key number place n zero = rw (add-zero, append-nil) refl
words-append key number place n (suc more) =
    let word : ℕ → List ℕ = λ at. to_le_bytes w32 (word_at 10 key number at) in
    ap (λ (k : ℕ). words key number place k) (add-suc n more)
    ∙ ap (λ (front : List ℕ). front ++ word (place + (n + more))) (words-append key number place n more)
    ∙ ap (λ (at : ℕ). (words key number place n ++ words key number (place + n) more) ++ word at) (sym (add_assoc place n more))
    ∙ append_assoc (words key number place n) (words key number (place + n) more) (word (place + n + more))

-- the four bytes of a word
All-word : (n : ℕ) → All (λ b. b < 256) (to_le_bytes w32 n)
All-word n = search rules

-- each is a byte
pub All-words : (key : List ℕ) (number place n : ℕ) → All (λ b. b < 256) (words key number place n)
unfolding words
All-words key number place zero = λ k d h. absurd (omega arith)
All-words key number place (suc n) = All-append (λ b. b < 256) _ _ (All-words key number place n) (All-word (word_at 10 key number (place + n)))

-- a generator of 20 rounds gives these words, and stands behind them
pub word_bytes-words : (g : ChaCha) (n : ℕ) → g.word_pos + n < 2 ^ 68
    → word_bytes (to_le_bytes w32) (next_word 10) n g
    ≡ (words g.key g.stream g.word_pos n, record g { word_pos = g.word_pos + n })
unfolding words word_bytes
word_bytes-words g zero below = rw add-zero refl
word_bytes-words g (suc n) below =
    let place : (g.word_pos + n + 1) % 2 ^ 68 ≡ g.word_pos + suc n = omega arith in
    ap (λ (before : List ℕ × ChaCha). (before.0 ++ to_le_bytes w32 (next_word 10 before.1).0, (next_word 10 before.1).1))
    (word_bytes-words g n (omega arith))
    ∙ ap (λ (p : ℕ). (words g.key g.stream g.word_pos (suc n), record g { word_pos = p })) place

-- four bytes written one behind the other
pub four_bytes_put : (xs : List ℕ) (i a b c d : ℕ) → i + 4 ≤ length xs
    → take (i + 4) (set (set (set (set xs i a) (i + 1) b) (i + 2) c) (i + 3) d) ≡ take i xs ++ a ∷ b ∷ c ∷ d ∷ []
four_bytes_put xs i a b c d fits =
    let front = take i xs in
    take-set_at (set (set (set xs i a) (i + 1) b) (i + 2) c) (i + 3) (i + 4) d (omega arith) (search (rules, arith))
    ∙ ap (λ (t : List ℕ). t ++ d ∷ [])
    (take-set_at (set (set xs i a) (i + 1) b) (i + 2) (i + 3) c (omega arith) (search (rules, arith))
    ∙ ap (λ (t : List ℕ). t ++ c ∷ [])
    (take-set_at (set xs i a) (i + 1) (i + 2) b (omega arith) (search (rules, arith))
    ∙ ap (λ (t : List ℕ). t ++ b ∷ []) (take-set_at xs i (i + 1) a refl (omega arith))
    ∙ append_assoc front (a ∷ []) (b ∷ []))
    ∙ append_assoc front (a ∷ b ∷ []) (c ∷ []))
    ∙ append_assoc front (a ∷ b ∷ c ∷ []) (d ∷ [])

-- as many bytes written over all that lie behind the front
pub put_behind : (front back more : List ℕ) (w k : ℕ) → w ≡ length front → k ≡ length (front ++ back) - w → length more ≡ length back
    → put_mid w k (front ++ back) more ≡ front ++ more
put_behind front back more w k at rest same =
    let all = length-append front back in
    let ends : w + k ≡ length (front ++ back) = omega (arith, all) in
    let within : w ≤ length (front ++ back) = omega (arith, all) in
    let size : length (put_mid w k (front ++ back) more) ≤ w + length more = search (rules, overwrites) in
    sym (take_all (w + length more) (put_mid w k (front ++ back) more) size)
    ∙ take-put_mid w k (front ++ back) more (w + length more) refl within
    ∙ ap (λ (n : ℕ). take n (front ++ back) ++ more) at
    ∙ ap (λ (begin : List ℕ). begin ++ more) (take-append_seam front back)
