use Rattle.std.proofs.Common.{◌*◌, ℕ, drop, ap, ◌∙◌, arith}
use Rattle.record_versions.specs.Laws.{entries_room}
use Rattle.node_codec.proofs.entries.rest_behind.Goals as goal

pub overflow_mul-used : goal.overflow_mul-used
overflow_mul-used c = omega (arith, entries_room c.args.version c.args.count c.entry_size-size.result c.requires.version c.requires.count c.entry_size-size.ensures)

pub split_at-requires : goal.split_at-requires
split_at-requires c = omega (arith, entries_room c.args.version c.args.count c.entry_size-size.result c.requires.version c.requires.count c.entry_size-size.ensures, c.requires.size)

pub returns : goal.returns
returns c = c.split_at.ensures.back ∙ ap (λ (n : ℕ). drop (n * c.args.count) c.args.payload.now) c.entry_size-size.ensures
