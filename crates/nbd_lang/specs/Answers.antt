-- What a server answers to options. All numbers have their highest byte first.
use Rattle.std.specs.Prelude.{ℕ, List, [], ◌++◌, Bool, replicate, if◌then◌else◌}
use Rattle.std.specs.Int.{w16, w32, w64, to_be_bytes}
use Rattle.nbd_lang.specs.declared.answers.Answer.{Answer}
use Rattle.nbd_lang.specs.declared.answers.Answer.TheVariants.{Acknowledged, Unsupported}
use Rattle.nbd_lang.specs.declared.options.OptionKind.{OptionKind}
use Rattle.nbd_lang.specs.Options.{option_number}

-- the number of an answer
abbrev pub answer_number : Answer → ℕ
answer_number Acknowledged = 1
answer_number Unsupported = 2147483649

-- the reply to an option, with no data
abbrev pub option_reply : OptionKind → Answer → List ℕ
option_reply kind answer =
    to_be_bytes w64 0x0003e889045565a9 ++ (to_be_bytes w32 (option_number kind) ++ (to_be_bytes w32 (answer_number answer) ++ to_be_bytes w32 0))

-- the answer after which requests are served: the size in bytes, and the flags `has flags` (bit 0),
-- `flush` (bit 2) and `trim` (bit 5); and zeros, unless none were wanted
abbrev pub export_answer : ℕ → Bool → List ℕ
export_answer size no_zeroes = to_be_bytes w64 size ++ (to_be_bytes w16 37 ++ (if no_zeroes then [] else replicate 124 0))
