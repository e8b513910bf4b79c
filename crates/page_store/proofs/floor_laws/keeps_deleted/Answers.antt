use Rattle.page_store.proofs.FloorLaws.{deleted_start, deleted_more, deleted_then}
use Rattle.page_store.proofs.floor_laws.keeps_deleted.Goals as goal

pub returns-clause-start : goal.returns-clause-start
returns-clause-start c = deleted_start

pub returns-clause-more : goal.returns-clause-more
returns-clause-more c = deleted_more

pub returns-clause-then : goal.returns-clause-then
returns-clause-then c = deleted_then
