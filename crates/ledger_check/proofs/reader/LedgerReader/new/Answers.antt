use Rattle.text_lines.specs.Lines.{whole_lines_of, rest_of}
use Rattle.ledger_check.proofs.reader.LedgerReader.new.Goals as goal

pub returns : goal.returns
unfolding whole_lines_of rest_of
returns c = record { certs = c.new.ensures; line = c.new-2.ensures.items }
