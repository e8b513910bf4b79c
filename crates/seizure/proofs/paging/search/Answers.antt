use Rattle.std.proofs.Common.{◌≡◌, ◌<◌, ◌≤◌, List, length, get_or, sym, subst, arith}
use Rattle.std.proofs.lemmas.Option.{get_or_from_slice_get}
use Rattle.seizure.specs.declared.opened.Opened.{Opened}
use Rattle.seizure.proofs.SearchLaws.{IsSearched, searched_none, searched_more, searched_all}
use Rattle.seizure.proofs.paging.search.Goals as goal

pub loop-next-init : goal.loop-next-init
loop-next-init c = record {
  known = c.requires.known;
  searched = λ roots gains.
      subst (λ (l : List Opened). IsSearched roots c.args.pages.now c.args.work.now.keys l 0) (sym c.requires.fresh) (searched_none roots c.args.pages.now c.args.work.now.keys gains);
}

pub loop-next-preserved : goal.loop-next-preserved
loop-next-preserved c =
    let pages = c.args.pages.now in let key = c.at.result.now in
    let work = c.loop-next.work in let after = c.open_each.new.work in
    let within : c.loop-next.next < length work.keys = omega (arith, c.len.ensures) in
    let here : key ≡ get_or work.keys c.loop-next.next key = sym (get_or_from_slice_get work.keys c.loop-next.next key key c.at.ensures) in
    let tried = c.in_ok-open_each.ensures in
    record {
      known = tried.known;
      searched = λ roots gains.
          searched_more roots pages work.keys after.keys work.opened after.opened c.loop-next.next key c.in_ok-addrs.addrs (c.loop-next.invariant.searched roots gains) within here
          (c.in_ok-addrs.ensures.opened pages c.in_ok-index.ensures.marks) tried.opened tried.keys;
    }

pub returns : goal.returns
returns c = λ roots gains.
    (let work = c.loop-next.work in
    let all : length work.keys ≤ c.loop-next.next = omega (arith, c.len.ensures) in
    searched_all roots c.args.pages.now work.keys work.opened c.loop-next.next (c.loop-next.invariant.searched roots gains) all)
