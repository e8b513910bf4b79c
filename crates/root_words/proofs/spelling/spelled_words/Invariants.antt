use Rattle.std.proofs.Common.{take}
use Rattle.std.specs.Prelude.{map, string_bytes}
use Rattle.std.specs.List.{AllZip}
use Rattle.root_words.specs.Spelled.{IsSpelled}
use Rattle.root_words.proofs.spelling.spelled_words.Given as goal

abbrev pub invariant-loop-word : goal.invariant-loop-word
invariant-loop-word g l = AllZip IsSpelled (take l.word-index (map string_bytes l.words)) (map string_bytes l.spelled.items)
