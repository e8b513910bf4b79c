use Rattle.std.proofs.Common.{Some, take}
use Rattle.folder_files.proofs.look_files.LookFilesLookCalls.look_at_cell.Goals as goal

pub returns-in-Ok-Some-clause-noted : goal.returns-in-Ok-Some-clause-noted
returns-in-Ok-Some-clause-noted g c =
    (Some (take c.in-Ok-Some.n c.read_root.new.into), c.note-in-Ok-Some.ensures, c.record_in.ensures.full, c.record_in.ensures.held)
