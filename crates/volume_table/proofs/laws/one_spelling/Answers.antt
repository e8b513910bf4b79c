use Rattle.volume_table.proofs.TableLaws.{one_table}
use Rattle.volume_table.proofs.laws.one_spelling.Goals as goal

pub returns : goal.returns
returns c = one_table
