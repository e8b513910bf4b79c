use Rattle.std.proofs.Common.{take}
use Rattle.std.specs.Prelude.{All, map, string_bytes}
use Rattle.device_cli.specs.Given.{IsRecordWord}
use Rattle.device_cli.proofs.given.are_record_words.Given as goal

abbrev pub invariant-loop-word : goal.invariant-loop-word
invariant-loop-word l = All IsRecordWord (take l.word-index (map string_bytes l.words))
