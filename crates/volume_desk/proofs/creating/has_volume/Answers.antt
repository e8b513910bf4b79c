use Rattle.volume_desk.proofs.DeskLaws.{named_at}
use Rattle.volume_desk.proofs.creating.has_volume.Goals as goal

pub returns-in-Some-clause-there : goal.returns-in-Some-clause-there
returns-in-Some-clause-there c is = (c.in-Some._volume, named_at c.args.table.now c.args.name.now c.in-Some._at c.in-Some._volume c.in-Some.ensures.found.0 c.in-Some.ensures.found.1)
