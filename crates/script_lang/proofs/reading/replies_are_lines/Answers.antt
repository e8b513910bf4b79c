use Rattle.script_lang.proofs.ReplyLaws.{text_has_no_feed}
use Rattle.script_lang.proofs.reading.replies_are_lines.Goals as goal

pub returns : goal.returns
returns c answer = text_has_no_feed answer
