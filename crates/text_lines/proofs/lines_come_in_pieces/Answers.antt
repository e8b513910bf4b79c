use Rattle.text_lines.proofs.LineLaws.{whole_lines_of-append, rest_of-append, lines_of-whole, rest_has_no_feed}
use Rattle.text_lines.proofs.lines_come_in_pieces.Goals as goal

pub returns : goal.returns
returns c = record { whole = whole_lines_of-append; rest = rest_of-append; all = lines_of-whole; feed = rest_has_no_feed }
