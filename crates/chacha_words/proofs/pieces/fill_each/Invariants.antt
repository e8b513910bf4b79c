use Rattle.chacha_words.specs.Words.{HasWords}
use Rattle.chacha_words.proofs.pieces.fill_each.Given as goal

abbrev pub invariant-words : goal.invariant-words
invariant-words l = HasWords l.fn.rng l.i l.out l.rng
