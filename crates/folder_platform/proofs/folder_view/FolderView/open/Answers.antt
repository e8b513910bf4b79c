use Rattle.std.proofs.Common.{◌≡◌, ◌∷◌, [], arith, rules}
use Rattle.folder_platform.specs.Events.{pages_counted}
use Rattle.folder_platform.proofs.Viewing.{views, views_image}
use Rattle.folder_platform.proofs.folder_view.FolderView.open.Goals as goal

pub invariant_of-result : goal.invariant_of-result
invariant_of-result g c =
    let is : g.C.LookCalls.events c.look_for_pages.new.self ≡ pages_counted c.in_ok-pages.pages ∷ [] = search rules in
    let all = views _ _ c.in_ok-pages.pages (g.met.C.LookCalls.are_files c.look_for_pages.new.self) is in
    record { told = all.told; readable = all.readable; recorded = all.recorded; room = omega (arith, c.in_ok-pages.ensures.within); looks = all.looks; done = all.done }

pub returns-clause-image : goal.returns-clause-image
returns-clause-image g c told =
    let now = c.look_for_pages.new.self in
    let is : g.C.LookCalls.events now ≡ pages_counted c.in_ok-pages.pages ∷ [] = search rules in
    let same : g.C.LookCalls.start now ≡ g.C.LookCalls.start c.args.calls = search rules in
    let honest = told (g.C.LookCalls.start now) (g.C.LookCalls.events now) (g.met.C.LookCalls.occurred now) in
    views_image _ _ _ c.in_ok-pages.pages (g.met.C.LookCalls.are_files now) same is honest
