-- The entries before it stay as they are.
use Rattle.std.proofs.Common.{◌≡◌, ◌*◌, ℕ, length, take, sym, ap, ◌∙◌, arith}
use Rattle.std.proofs.lemmas.List.{take_at, drop_at, length-take, length-drop}
use Rattle.sdbt_base.specs.Keys.{entry_size}
use Rattle.record_versions.specs.Laws.{entry_room}
use Rattle.node_codec.proofs.entries.put_at.Goals as goal

pub overflow_mul-start : goal.overflow_mul-start
overflow_mul-start c = omega (arith, entry_room c.args.version c.args.i c.entry_size-size.result c.requires.version c.requires.count c.entry_size-size.ensures)

pub split_at_mut-rest-requires : goal.split_at_mut-rest-requires
split_at_mut-rest-requires c = omega (arith, entry_room c.args.version c.args.i c.entry_size-size.result c.requires.version c.requires.count c.entry_size-size.ensures, c.requires.size)

pub put_first-requires-clause-size : goal.put_first-requires-clause-size
put_first-requires-clause-size c = omega (arith, c.entry_size-size.ensures, c.requires.sized)

pub put_first-requires-clause-room : goal.put_first-requires-clause-room
put_first-requires-clause-room c =
    let start : ℕ = c.entry_size-size.result * c.args.i in
    omega (arith, entry_room c.args.version c.args.i c.entry_size-size.result c.requires.version c.requires.count c.entry_size-size.ensures, c.requires.size, ap length c.split_at_mut-rest.ensures.back, length-drop start c.args.out.now)

pub returns-clause-front : goal.returns-clause-front
returns-clause-front c =
    let start : ℕ = c.entry_size-size.result * c.args.i in
    let same : start ≡ entry_size c.args.version * c.args.i = ap (λ (n : ℕ). n * c.args.i) c.entry_size-size.ensures in
    let front : c.split_at_mut-rest.result.0.now ≡ take start c.args.out.now = c.split_at_mut-rest.ensures.front in
    let room = entry_room c.args.version c.args.i c.entry_size-size.result c.requires.version c.requires.count c.entry_size-size.ensures in
    let len : length c.split_at_mut-rest.result.0.now ≡ entry_size c.args.version * c.args.i = omega (arith, ap length front, length-take start c.args.out.now, c.requires.size, room, same) in
    take_at c.split_at_mut-rest.result.0.now c.put_first.new.out (entry_size c.args.version * c.args.i) len ∙ front ∙ ap (λ (n : ℕ). take n c.args.out.now) same

pub returns-clause-spelled : goal.returns-clause-spelled
returns-clause-spelled c =
    let start : ℕ = c.entry_size-size.result * c.args.i in
    let same : start ≡ entry_size c.args.version * c.args.i = ap (λ (n : ℕ). n * c.args.i) c.entry_size-size.ensures in
    let front : c.split_at_mut-rest.result.0.now ≡ take start c.args.out.now = c.split_at_mut-rest.ensures.front in
    let room = entry_room c.args.version c.args.i c.entry_size-size.result c.requires.version c.requires.count c.entry_size-size.ensures in
    let len : length c.split_at_mut-rest.result.0.now ≡ entry_size c.args.version * c.args.i = omega (arith, ap length front, length-take start c.args.out.now, c.requires.size, room, same) in
    ap (take (entry_size c.args.version)) (drop_at c.split_at_mut-rest.result.0.now c.put_first.new.out (entry_size c.args.version * c.args.i) len)
    ∙ ap (λ (n : ℕ). take n c.put_first.new.out) (sym c.entry_size-size.ensures) ∙ c.put_first.ensures

pub returns-clause-key : goal.returns-clause-key
returns-clause-key c = (c.requires.sized, c.is_key.ensures.1)
