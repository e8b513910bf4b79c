use Rattle.text_lines.proofs.LineLaws.{whole_lines_of-line, rest_of-line, whole_lines_of-none, rest_of-none, lines_of-feed, lines_of-none}
use Rattle.text_lines.proofs.a_line_ends_at_its_feed.Goals as goal

pub returns : goal.returns
returns c = record { whole = whole_lines_of-line; rest = rest_of-line; none = whole_lines_of-none; all = rest_of-none; lines = lines_of-feed; one = lines_of-none }
