use Rattle.std.proofs.Common.{◌≡◌, arith, rules}
use Rattle.folder_platform.specs.Sequences.{opening}
use Rattle.folder_platform.proofs.Once.{once_opening}
use Rattle.folder_platform.proofs.Opening.{opens, opens_image}
use Rattle.folder_platform.proofs.folder_platform.FolderPlatform.open.Goals as goal

pub invariant_of-result : goal.invariant_of-result
invariant_of-result g c =
    let is : g.C.PageCalls.events c.settle_all.new.calls ≡ opening c.in_ok-pages.pages = search rules in
    let all = opens _ _ c.in_ok-pages.pages (g.met.C.PageCalls.are_files c.settle_all.new.calls) is in
    record { told = all.told; readable = all.readable; recorded = all.recorded; room = omega (arith, c.in_ok-pages.ensures.within); sound = λ calm. all.sound; stuck = λ yes. cc; settled = λ calm. all.settled; safe = all.safe; once = once_opening c.in_ok-pages.pages _ is }

pub returns-clause-image : goal.returns-clause-image
returns-clause-image g c told =
    let now = c.settle_all.new.calls in
    let is : g.C.PageCalls.events now ≡ opening c.in_ok-pages.pages = search rules in
    let same : g.C.PageCalls.start now ≡ g.C.PageCalls.start c.args.calls = search rules in
    let honest = told (g.C.PageCalls.start now) (g.C.PageCalls.events now) (g.met.C.PageCalls.occurred now) in
    opens_image _ _ _ c.in_ok-pages.pages (g.met.C.PageCalls.are_files now) same is honest
