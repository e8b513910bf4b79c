use Rattle.std.proofs.Common.{◌≡◌, ◌*◌, ◌/◌, ◌%◌, ◌^◌, ℕ, List, [], refl, sym, ◌∙◌, ap, arith}
use Rattle.std.proofs.lemmas.List.{take_all}
use Rattle.rand_core.specs.Steps.{word_bytes}
use Rattle.rand_chacha.specs.ChaCha.{ChaCha}
use Rattle.chacha_words.proofs.WordLaws.{word_bytes-words}
use Rattle.chacha_words.proofs.pieces.four_blocks.Goals as goal

pub returns-clause-written : goal.returns-clause-written
unfolding word_bytes
returns-clause-written c =
    let g = c.args.rng.now in
    let place : c.get_word_pos-block.result / 16 * 16 % 2 ^ 68 ≡ g.word_pos = omega (arith, c.get_word_pos-block.ensures.value, c.requires.start, c.requires.within) in
    let same : c.set_word_pos.new.self ≡ g = c.set_word_pos.ensures ∙ ap (λ (p : ℕ). record g { word_pos = p }) place in
    let one = c.put_block.ensures g 16 refl (ap (λ (now : ChaCha). ([], now)) same) in
    let two = c.put_block-2.ensures g 32 refl one in
    let three = c.put_block-3.ensures g 48 refl two in
    let all = c.put_block-4.ensures g 64 refl three ∙ word_bytes-words g 64 c.requires.within in
    sym (take_all 256 c.put_block-4.new.out (omega arith)) ∙ ap (λ (made : List ℕ × ChaCha). made.0) all

pub returns-clause-place : goal.returns-clause-place
unfolding word_bytes
returns-clause-place c =
    let g = c.args.rng.now in
    let place : c.get_word_pos-block.result / 16 * 16 % 2 ^ 68 ≡ g.word_pos = omega (arith, c.get_word_pos-block.ensures.value, c.requires.start, c.requires.within) in
    let same : c.set_word_pos.new.self ≡ g = c.set_word_pos.ensures ∙ ap (λ (p : ℕ). record g { word_pos = p }) place in
    let one = c.put_block.ensures g 16 refl (ap (λ (now : ChaCha). ([], now)) same) in
    let two = c.put_block-2.ensures g 32 refl one in
    let three = c.put_block-3.ensures g 48 refl two in
    let all = c.put_block-4.ensures g 64 refl three ∙ word_bytes-words g 64 c.requires.within in
    ap (λ (made : List ℕ × ChaCha). made.1) all
