use Rattle.device_session.proofs.InsertLaws.{open_later}
use Rattle.device_session.proofs.laws.more_pages_leave_it_open.Goals as goal

pub returns : goal.returns
returns c = open_later
