use Rattle.page_store.proofs.AscendLaws.{mapped_len}
use Rattle.seizure.proofs.MappedLaws.{mapped_counted}
use Rattle.seizure.proofs.laws.a_seizure_counts_mapped_blocks.Goals as goal

pub returns-clause-entries : goal.returns-clause-entries
returns-clause-entries c = mapped_counted

pub returns-clause-blocks : goal.returns-clause-blocks
returns-clause-blocks c = mapped_len
