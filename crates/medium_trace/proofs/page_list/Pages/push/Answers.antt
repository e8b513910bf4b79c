use Rattle.std.proofs.lemmas.List.Elements.{All-push}
use Rattle.medium_trace.specs.Page.{IsPage}
use Rattle.medium_trace.proofs.page_list.Pages.push.Goals as goal

pub invariant_of-self-2 : goal.invariant_of-self-2
invariant_of-self-2 c = rw c.in_ok-push.ensures.items (All-push IsPage _ _ c.self.invariant c.is_page.ensures)
