use Rattle.std.proofs.Common.{◌≡◌, ◌+◌, ◌*◌, ℕ, List, ◌++◌, take, set, get_or, ◌∙◌, ap, arith}
use Rattle.std.specs.Int.{w32, to_le_bytes}
use Rattle.rand_core.proofs.StepsLemmas.{word_bytes_more}
use Rattle.rand_chacha.specs.ChaCha.{next_word}
use Rattle.chacha_words.proofs.WordLaws.{four_bytes_put}
use Rattle.chacha_words.proofs.pieces.put_word.Goals as goal

pub returns : goal.returns
returns c = λ first n sum has.
    let i = 4 * c.args.at in
    let out = c.args.out.now in
    let bytes = c.to_le_bytes.result in
    let word = c.next_word.result in
    let put : List ℕ → List ℕ = λ of. set (set (set (set out i (get_or of 0 0)) (i + 1) (get_or of 1 0)) (i + 2) (get_or of 2 0)) (i + 3) (get_or of 3 0) in
    let place : 4 * n ≡ i + 4 = omega arith in
    let written : take (4 * n) (put bytes) ≡ take i out ++ to_le_bytes w32 word =
    ap (λ (k : ℕ). take k (put bytes)) place
    ∙ ap (λ (of : List ℕ). take (i + 4) (put of)) c.to_le_bytes.ensures
    ∙ four_bytes_put out i _ _ _ _ (omega arith) in
    rw (written, sum) (word_bytes_more (to_le_bytes w32) (next_word 10) c.args.at first c.args.rng.now c.next_word.new.self (take i out) word has c.next_word.ensures)
