use Rattle.std.proofs.Common.{◌≡◌, ◌+◌, ◌*◌, take}
use Rattle.chacha_words.specs.Words.{words}
use Rattle.chacha_words.proofs.pieces.fill_pieces.Given as goal

abbrev pub invariant-pieces : goal.invariant-pieces
invariant-pieces l = record {
  written : take (256 * l.i) l.out ≡ words l.fn.rng.key l.fn.rng.stream l.fn.rng.word_pos (64 * l.i);
  place : l.rng ≡ record l.fn.rng { word_pos = l.fn.rng.word_pos + 64 * l.i };
}
