use Rattle.std.proofs.Common.{arith}
use Rattle.std.proofs.lemmas.Str.Pattern.{strip_prefix_char}
use Rattle.root_words.proofs.SpelledLaws.{names_none}
use Rattle.root_words.proofs.spelling.file_named.Goals as goal

pub returns-clause-none : goal.returns-clause-none
returns-clause-none c =
    names_none c.args.word.now c.strip_prefix.result (strip_prefix_char 64 c.args.word.now c.strip_prefix.result c.strip_prefix.ensures.cases (omega arith))
