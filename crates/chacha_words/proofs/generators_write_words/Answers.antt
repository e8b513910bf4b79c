use Rattle.chacha_words.proofs.WordLaws.{word_bytes-words}
use Rattle.chacha_words.proofs.generators_write_words.Goals as goal

pub returns : goal.returns
returns c = word_bytes-words
