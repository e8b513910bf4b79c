use Rattle.std.proofs.Common.{◌≡◌, ◌+◌, ◌*◌, ℕ, List, ◌++◌, length, refl, sym, ◌∙◌, ap, arith}
use Rattle.std.proofs.lemmas.Slice.{take-put_mid}
use Rattle.rand_chacha.specs.ChaCha.{ChaCha}
use Rattle.chacha_words.specs.Words.{words}
use Rattle.chacha_words.proofs.WordLaws.{length-words, words-append}
use Rattle.chacha_words.proofs.pieces.fill_pieces.Goals as goal

pub pieces-init : goal.pieces-init
unfolding words
pieces-init c =
    let g = c.args.rng.now in
    let still : g.word_pos ≡ g.word_pos + 0 = omega arith in
    record { written = refl; place = ap (λ (p : ℕ). record g { word_pos = p }) still }

pub pieces-preserved : goal.pieces-preserved
pieces-preserved c =
    let g = c.args.rng.now in
    let i = c.pieces.i in
    let now = c.pieces.invariant.place in
    let wrote = c.copy_from_slice.ensures.after ∙ c.four_blocks-piece.ensures.written
    ∙ ap (λ (r : ChaCha). words r.key r.stream r.word_pos 64) now in
    let size : length c.copy_from_slice.new.self ≡ 256 = ap length wrote ∙ length-words g.key g.stream (g.word_pos + 64 * i) 64 in
    let more : 64 * i + 64 ≡ 64 * (i + 1) = omega arith in
    let next : g.word_pos + 64 * i + 64 ≡ g.word_pos + 64 * (i + 1) = omega arith in
    record {
      written = take-put_mid (256 * i) _ c.pieces.out c.copy_from_slice.new.self (256 * (i + 1)) (omega arith) (omega arith)
          ∙ ap (λ (front : List ℕ). front ++ c.copy_from_slice.new.self) c.pieces.invariant.written
          ∙ ap (λ (back : List ℕ). words g.key g.stream g.word_pos (64 * i) ++ back) wrote
          ∙ sym (words-append g.key g.stream g.word_pos (64 * i) 64)
          ∙ ap (λ (n : ℕ). words g.key g.stream g.word_pos n) more;
      place = c.four_blocks-piece.ensures.place
          ∙ ap (λ (r : ChaCha). record r { word_pos = r.word_pos + 64 }) now
          ∙ ap (λ (p : ℕ). record g { word_pos = p }) next;
    }
