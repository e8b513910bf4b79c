use Rattle.std.proofs.Common.{length, ap, ◌∙◌}
use Rattle.chacha_words.proofs.WordLaws.{length-words}
use Rattle.key_tape.proofs.seed_tape.SeedTapeTape.draw.Goals as goal

pub returns-clause-slot : goal.returns-clause-slot
returns-clause-slot c = ap length c.next_key.ensures.key ∙ length-words c.self.inside.rng.key c.self.inside.rng.stream c.self.inside.rng.word_pos 8
