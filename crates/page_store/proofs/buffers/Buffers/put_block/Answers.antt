-- Behind head and content the body is zeros.
use Rattle.std.proofs.Common.{◌≡◌, ◌+◌, ◌∙◌, ap, drop, length, arith}
use Rattle.std.proofs.lemmas.List.{with_items_is}
use Rattle.page_store.proofs.buffers.Buffers.put_block.Goals as goal

pub invariant_of-self : goal.invariant_of-self
invariant_of-self c =
    let whole : length c.encode_block_over.new.out ≡ 4128 = omega (arith, c.self.invariant.1) in
    let is = with_items_is c.self.inside.body c.encode_block_over.new.out (omega (arith, whole, c.self.invariant.1)) in
    (c.self.invariant.0, ap length is ∙ whole, ap (drop (32 + length c.args.content.now)) is ∙ c.encode_block_over.ensures.zeros, c.self.invariant.3)
