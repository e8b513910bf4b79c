use Rattle.std.proofs.Common.{◌≡◌, ◌+◌, ◌-◌, ◌*◌, ◌/◌, ℕ, List, ◌++◌, length, length-append, take, drop, refl, sym, ◌∙◌, ap, arith}
use Rattle.std.proofs.lemmas.List.{length-take-le, length-drop}
use Rattle.rand_chacha.specs.ChaCha.{ChaCha}
use Rattle.chacha_words.specs.Words.{words}
use Rattle.chacha_words.proofs.WordLaws.{words-append, put_behind}
use Rattle.chacha_words.proofs.fill_words.Goals as goal

pub returns-then-stands_at_block-clause-written : goal.returns-then-stands_at_block-clause-written
returns-then-stands_at_block-clause-written c =
    let g = c.args.rng.now in
    let out = c.args.out.now in
    let whole = length out / 256 * 256 in
    let front = length-take-le whole out (omega arith) in
    let back = length-drop whole out in
    let first : length (take whole out) / 4 ≡ length out / 256 * 64 = omega (arith, front) in
    let all = c.fill_pieces.new.out ++ drop whole out in
    let joined = length-append c.fill_pieces.new.out (drop whole out) in
    let after = length-drop whole all in
    let later = take (length all - whole) (drop whole all) in
    let same = length-take-le (length all - whole) (drop whole all) (omega (arith, after)) in
    let rest : length later / 4 ≡ length out / 4 - length out / 256 * 64 = omega (arith, front, back, joined, after, same, c.requires.whole) in
    let sum : length out / 256 * 64 + (length out / 4 - length out / 256 * 64) ≡ length out / 4 = omega arith in
    put_behind c.fill_pieces.new.out (drop whole out) c.fill_each.new.out whole _ (omega (arith, front)) refl (omega arith)
    ∙ ap (λ (begin : List ℕ). begin ++ c.fill_each.new.out) (c.fill_pieces.ensures.written ∙ ap (λ (n : ℕ). words g.key g.stream g.word_pos n) first)
    ∙ ap (λ (end : List ℕ). words g.key g.stream g.word_pos (length out / 256 * 64) ++ end)
    (c.fill_each.ensures.written
    ∙ ap (λ (r : ChaCha). words r.key r.stream r.word_pos (length later / 4)) (c.fill_pieces.ensures.place ∙ ap (λ (n : ℕ). record g { word_pos = g.word_pos + n }) first)
    ∙ ap (λ (n : ℕ). words g.key g.stream (g.word_pos + length out / 256 * 64) n) rest)
    ∙ sym (words-append g.key g.stream g.word_pos (length out / 256 * 64) (length out / 4 - length out / 256 * 64))
    ∙ ap (λ (n : ℕ). words g.key g.stream g.word_pos n) sum
