use Rattle.std.specs.Prelude.{string_bytes}
use Rattle.root_words.proofs.SpelledLaws.{first_is}
use Rattle.root_words.proofs.spelling.is_seizure.Goals as goal

pub returns-in-len1-up : goal.returns-in-len1-up
returns-in-len1-up c =
    first_is string_bytes c.args.words.now c.word-item.result c.is_seize.result c.in-len1-up.len_at_least c.word-item.is c.is_seize.ensures.0 c.is_seize.ensures.1
