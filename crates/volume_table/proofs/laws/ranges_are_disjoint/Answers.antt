use Rattle.volume_table.proofs.TableLaws.{apart, no_first}
use Rattle.volume_table.proofs.laws.ranges_are_disjoint.Goals as goal

pub returns : goal.returns
returns c = record { apart = apart; first = no_first }
