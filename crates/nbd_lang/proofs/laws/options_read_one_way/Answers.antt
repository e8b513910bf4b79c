use Rattle.nbd_lang.specs.Options.{FitsOption, option_bytes}
use Rattle.nbd_lang.proofs.ReadingLaws.{words_read_one_way, option_reads}
use Rattle.nbd_lang.proofs.laws.options_read_one_way.Goals as goal

pub returns-clause-one : goal.returns-clause-one
returns-clause-one c = option_reads

pub returns-clause-many : goal.returns-clause-many
returns-clause-many c = words_read_one_way FitsOption option_bytes option_reads
