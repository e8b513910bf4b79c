use Rattle.chacha_words.proofs.WordLaws.{length-words, All-words, words-append}
use Rattle.chacha_words.proofs.words_are_bytes.Goals as goal

pub returns-clause-len : goal.returns-clause-len
returns-clause-len c = length-words

pub returns-clause-bytes : goal.returns-clause-bytes
returns-clause-bytes c = All-words

pub returns-clause-parts : goal.returns-clause-parts
returns-clause-parts c = words-append
