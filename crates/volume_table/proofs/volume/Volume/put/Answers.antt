use Rattle.volume_table.specs.Tables.{volume_bytes}
use Rattle.volume_table.proofs.volume.Volume.put.Goals as goal

pub returns-clause-spelled : goal.returns-clause-spelled
unfolding volume_bytes
returns-clause-spelled c = simp (c.put.ensures.spelled, c.copy_from_slice.ensures.after, c.copy_from_slice-2.ensures.after, c.to_be_bytes.ensures, c.to_be_bytes-2.ensures)
