use Rattle.std.proofs.Common.{sym, subst}
use Rattle.volume_table.specs.Tables.{IsTable}
use Rattle.volume_table.proofs.TableLaws.{removed}
use Rattle.volume_table.proofs.table.Table.remove.Goals as goal

pub returns-clause-table : goal.returns-clause-table
returns-clause-table c blocks is =
    subst (IsTable blocks) (sym c.remove.ensures.items)
    (removed blocks c.self.inside.volumes.items c.args.index (subst (IsTable blocks) (sym c.self.view_is) is) (rw c.self.view_is c.requires))
