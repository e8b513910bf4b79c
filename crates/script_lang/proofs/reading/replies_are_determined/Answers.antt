use Rattle.script_lang.proofs.ReplyLaws.{one_list}
use Rattle.script_lang.proofs.reading.replies_are_determined.Goals as goal

pub returns : goal.returns
returns c = one_list
