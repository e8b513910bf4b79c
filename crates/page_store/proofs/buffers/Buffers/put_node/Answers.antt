-- Behind a whole body there is nothing that has to be zero.
use Rattle.std.proofs.Common.{◌≡◌, ◌∙◌, ap, drop, length, arith}
use Rattle.std.proofs.lemmas.List.{drop_all, with_items_is}
use Rattle.page_store.proofs.buffers.Buffers.put_node.Goals as goal

pub invariant_of-self : goal.invariant_of-self
invariant_of-self c =
    let whole : length c.encode_node.new.out ≡ 4128 = omega (arith, c.deref_mut.ensures, c.self.invariant.1) in
    let is = with_items_is c.self.inside.body c.encode_node.new.out (omega (arith, whole, c.deref_mut.ensures.len, ap length c.deref_mut.ensures.value, c.self.invariant.1)) in
    (c.self.invariant.0, ap length is ∙ whole, ap (drop 4128) is ∙ drop_all 4128 c.encode_node.new.out (omega (arith, whole)), c.self.invariant.3)
