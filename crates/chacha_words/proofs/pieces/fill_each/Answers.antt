use Rattle.std.proofs.Common.{◌≡◌, ◌+◌, ◌*◌, ◌/◌, ℕ, List, length, refl, sym, ◌∙◌, ap, arith}
use Rattle.std.proofs.lemmas.List.{take_all}
use Rattle.rand_core.specs.Steps.{word_bytes}
use Rattle.rand_chacha.specs.ChaCha.{ChaCha}
use Rattle.chacha_words.proofs.WordLaws.{word_bytes-words}
use Rattle.chacha_words.proofs.pieces.fill_each.Goals as goal

pub words-init : goal.words-init
unfolding word_bytes
words-init c = refl

pub words-preserved : goal.words-preserved
words-preserved c = c.put_word.ensures c.args.rng.now (c.words.i + 1) refl c.words.invariant

pub returns-clause-written : goal.returns-clause-written
returns-clause-written c =
    let done : c.words.i ≡ length c.args.out.now / 4 = omega arith in
    let all = rw done at c.words.invariant ∙ word_bytes-words c.args.rng.now (length c.args.out.now / 4) c.requires.within in
    sym (take_all (4 * (length c.args.out.now / 4)) c.words.out (omega arith)) ∙ ap (λ (made : List ℕ × ChaCha). made.0) all

pub returns-clause-place : goal.returns-clause-place
returns-clause-place c =
    let done : c.words.i ≡ length c.args.out.now / 4 = omega arith in
    let all = rw done at c.words.invariant ∙ word_bytes-words c.args.rng.now (length c.args.out.now / 4) c.requires.within in
    ap (λ (made : List ℕ × ChaCha). made.1) all
