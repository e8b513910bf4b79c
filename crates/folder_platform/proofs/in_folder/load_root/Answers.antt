use Rattle.std.proofs.Common.{Some, take}
use Rattle.folder_platform.proofs.in_folder.load_root.Goals as goal

pub returns-in-Some-clause-noted : goal.returns-in-Some-clause-noted
returns-in-Some-clause-noted g c =
    let noted = rw c.in-Some.is at c.in_ok-read_root.ensures.noted in
    (Some (take c.in-Some.count c.read_root.new.into), noted, c.record_in.ensures.full, c.record_in.ensures.held)
