-- The entry is what the bytes begin with.
use Rattle.std.proofs.Common.{◌≡◌, length, ◌∙◌, arith}
use Rattle.std.proofs.lemmas.List.{take_at}
use Rattle.node_codec.proofs.entries.put_first.Goals as goal

pub returns : goal.returns
returns c =
    let len : length c.put_entry.new.out ≡ c.args.size = omega arith in
    take_at c.put_entry.new.out _ c.args.size len ∙ c.put_entry.ensures
