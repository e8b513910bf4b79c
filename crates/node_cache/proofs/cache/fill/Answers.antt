use Rattle.std.proofs.Common.{◌∷◌, ap, arith, length, nat_eq, ◌∙◌}
use Rattle.std.specs.Map.{remove_entry}
use Rattle.lru.specs.LruCache.{lru_cache}
use Rattle.node_cache.proofs.SlotLaws.{written_at_slot}
use Rattle.node_cache.proofs.cache.fill.Goals as goal

pub prove-unreachable-requires : goal.prove-unreachable-requires
prove-unreachable-requires c =
    let some = c.len-count.ensures.len ∙ ap length (written_at_slot c.args.number c.fill.new.self c.args.slots.now.entries c.requires.there) in
    omega (arith, some, c.if-prove.true)

pub returns-clause-written : goal.returns-clause-written
returns-clause-written c =
    let written = written_at_slot c.args.number c.fill.new.self c.args.slots.now.entries c.requires.there in
    ap (λ es. lru_cache es c.args.slots.now.cap) (written ∙ ap (λ content. (c.args.number, content) ∷ remove_entry (nat_eq c.args.number) c.args.slots.now.entries) c.fill.ensures)
