use Rattle.volume_table.proofs.NameLaws.{filled}
use Rattle.volume_table.proofs.name.Name.new.Goals as goal

pub invariant_of-result : goal.invariant_of-result
invariant_of-result c =
    filled c.copy_from_slice.new.self c.args.text.now c.copy_from_slice.ensures.after (c.is_name.ensures.0 c.if-not-is_name.false).most
