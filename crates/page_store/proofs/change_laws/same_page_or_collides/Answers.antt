use Rattle.page_store.proofs.ChangeLaws.{same_page, same_value}
use Rattle.page_store.proofs.change_laws.same_page_or_collides.Goals as goal

pub returns-clause-page : goal.returns-clause-page
returns-clause-page c = same_page

pub returns-clause-value : goal.returns-clause-value
returns-clause-value c = same_value
