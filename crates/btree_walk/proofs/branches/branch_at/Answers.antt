use Rattle.std.proofs.Common.{◌≡◌, ◌+◌, ◌-◌, Some, suc, ap, sym, ◌∙◌, arith, drop}
use Rattle.page_store.specs.declared.wants.Want.{Want}
use Rattle.page_store.specs.Places.{child_want}
use Rattle.page_store.specs.Tree.{bound_of}
use Rattle.btree_walk.proofs.NodeLaws.{branch_get}
use Rattle.btree_walk.proofs.branches.branch_at.Goals as goal

pub returns : goal.returns
returns c =
    let entry = c.index-entries-place.result in
    let one : c.args.place + 1 ≡ suc c.args.place = omega arith in
    let get = branch_get c.args.want.now.most (c.args.want.now.level - 1) c.args.want.now.high c.args.place c.args.entries.now entry c.requires.within c.index-entries-place.is in
    let want = c.of_child.ensures ∙ ap (λ n. child_want c.args.want.now.most (c.args.want.now.level - 1) entry n) c.end_of-high.ensures ∙ ap (λ n. child_want c.args.want.now.most (c.args.want.now.level - 1) entry (bound_of (drop n c.args.entries.now) c.args.want.now.high)) one in
    get ∙ ap (λ (w : Want). Some (record { want = w; key = entry.key })) (sym want)
