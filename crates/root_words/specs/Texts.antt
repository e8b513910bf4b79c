-- What the refusal of a file is printed as.
use Rattle.std.specs.Prelude.{ℕ, List, Option, Some, None, codes}
use Rattle.root_words.specs.declared.refusals.NoRecord.{NoRecord}
use Rattle.root_words.specs.declared.refusals.NoRecord.TheVariants.{Io, Length}

-- the text of a refusal; nothing is said of that of an error of the system
abbrev pub no_record_text : NoRecord → Option (List ℕ)
no_record_text (Io _) = None
no_record_text Length = Some (codes "a root record has 128 bytes, and this file hasn't")
