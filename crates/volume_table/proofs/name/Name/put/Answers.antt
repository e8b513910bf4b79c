use Rattle.std.proofs.Common.{sym}
use Rattle.volume_table.proofs.NameLaws.{put_name}
use Rattle.volume_table.proofs.name.Name.put.Goals as goal

pub returns-clause-spelled : goal.returns-clause-spelled
returns-clause-spelled c =
    simp (c.copy_from_slice.ensures.after, c.copy_from_slice-2.ensures.after)
    (put_name c.self.inside.bytes c.args.self.now c.self.inside.len c.self.invariant.0 c.self.invariant.1 c.self.invariant.2 (sym c.self.view_is))
