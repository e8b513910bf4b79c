-- The entries stay as they are.
use Rattle.std.proofs.Common.{◌≡◌, ◌-◌, ◌*◌, ℕ, length, take, replicate, ap, ◌∙◌, arith}
use Rattle.std.proofs.lemmas.List.{take_at, drop_at, length-take, length-drop}
use Rattle.sdbt_base.specs.Keys.{entry_size}
use Rattle.record_versions.specs.Laws.{entries_room}
use Rattle.node_codec.proofs.entries.put_zeros_behind.Goals as goal

pub overflow_mul-start : goal.overflow_mul-start
overflow_mul-start c = omega (arith, entries_room c.args.version c.args.count c.entry_size-size.result c.requires.version c.requires.count c.entry_size-size.ensures)

pub split_at_mut-rest-requires : goal.split_at_mut-rest-requires
split_at_mut-rest-requires c = omega (arith, entries_room c.args.version c.args.count c.entry_size-size.result c.requires.version c.requires.count c.entry_size-size.ensures, c.requires.size)

pub returns-clause-front : goal.returns-clause-front
returns-clause-front c =
    let start : ℕ = c.entry_size-size.result * c.args.count in
    let same : start ≡ entry_size c.args.version * c.args.count = ap (λ (n : ℕ). n * c.args.count) c.entry_size-size.ensures in
    let front : c.split_at_mut-rest.result.0.now ≡ take start c.args.out.now = c.split_at_mut-rest.ensures.front in
    let room = entries_room c.args.version c.args.count c.entry_size-size.result c.requires.version c.requires.count c.entry_size-size.ensures in
    let len : length c.split_at_mut-rest.result.0.now ≡ entry_size c.args.version * c.args.count = omega (arith, ap length front, length-take start c.args.out.now, c.requires.size, room, same) in
    take_at c.split_at_mut-rest.result.0.now c.put_zeros.new.out (entry_size c.args.version * c.args.count) len ∙ front ∙ ap (λ (n : ℕ). take n c.args.out.now) same

pub returns-clause-zeros : goal.returns-clause-zeros
returns-clause-zeros c =
    let start : ℕ = c.entry_size-size.result * c.args.count in
    let same : start ≡ entry_size c.args.version * c.args.count = ap (λ (n : ℕ). n * c.args.count) c.entry_size-size.ensures in
    let front : c.split_at_mut-rest.result.0.now ≡ take start c.args.out.now = c.split_at_mut-rest.ensures.front in
    let room = entries_room c.args.version c.args.count c.entry_size-size.result c.requires.version c.requires.count c.entry_size-size.ensures in
    let len : length c.split_at_mut-rest.result.0.now ≡ entry_size c.args.version * c.args.count = omega (arith, ap length front, length-take start c.args.out.now, c.requires.size, room, same) in
    let left : length c.split_at_mut-rest.result.1.now ≡ 4096 - entry_size c.args.version * c.args.count = omega (arith, ap length c.split_at_mut-rest.ensures.back, length-drop start c.args.out.now, c.requires.size, same) in
    drop_at c.split_at_mut-rest.result.0.now c.put_zeros.new.out (entry_size c.args.version * c.args.count) len ∙ c.put_zeros.ensures ∙ ap (λ (n : ℕ). replicate n 0) left
