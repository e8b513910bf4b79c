-- Behind a whole body there is nothing that has to be zero.
use Rattle.std.proofs.Common.{◌≡◌, ◌∙◌, ap, drop, length, arith}
use Rattle.std.proofs.lemmas.List.{drop_all, with_items_is}
use Rattle.page_store.proofs.buffers.Buffers.load.Goals as goal

pub invariant_of-self-2 : goal.invariant_of-self-2
invariant_of-self-2 g c =
    let page_whole : length c.read.new.into ≡ 4128 = omega (arith, c.self.invariant.0) in
    let body_whole : length c.unseal.new.out ≡ 4128 = omega (arith, c.self.invariant.1) in
    let page = with_items_is c.self.inside.page c.read.new.into (omega (arith, page_whole, c.self.invariant.0)) in
    let body = with_items_is c.self.inside.body c.unseal.new.out (omega (arith, body_whole, c.self.invariant.1)) in
    (ap length page ∙ page_whole, ap length body ∙ body_whole, ap (drop 4128) body ∙ drop_all 4128 c.unseal.new.out (omega (arith, body_whole)), c.self.invariant.3)
