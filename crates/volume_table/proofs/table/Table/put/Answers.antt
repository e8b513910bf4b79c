use Rattle.std.proofs.Common.{List, inr, sym, subst, arith}
use Rattle.volume_table.specs.Tables.{IsTable, FitsAt, IsGap}
use Rattle.volume_table.specs.declared.volume.Volume.{Volume}
use Rattle.volume_table.proofs.TableLaws.{placed}
use Rattle.volume_table.proofs.table.Table.put.Goals as goal

pub returns-in_err-gap-clause-none : goal.returns-in_err-gap-clause-none
returns-in_err-gap-clause-none c =
    rw c.from_residual.ensures (inr (λ start fits. c.in_err-gap.ensures.none start
    (subst (λ (table : List Volume). FitsAt c.args.blocks table c.args.count start) (sym c.volumes-2.ensures.value) fits)))

pub returns-clause-table : goal.returns-clause-table
returns-clause-table c =
    let gap = subst (λ (table : List Volume). IsGap c.args.blocks table c.args.count c.in_ok-gap.gap.at c.in_ok-gap.gap.start) c.volumes-2.ensures.value c.in_ok-gap.ensures.found in
    subst (IsTable c.args.blocks) (sym c.insert.ensures)
    (placed c.args.blocks c.args.self.now (record { name = c.args.name; start = c.in_ok-gap.gap.start; count = c.args.count }) c.in_ok-gap.gap.at
    c.requires.table (grind arith) c.requires.name c.requires.new c.requires.count gap)
