use Rattle.cert_maker.proofs.TreeTraces.{trees_are_traces as lemma}
use Rattle.cert_maker.proofs.laws.trees_are_traces.Goals as goal

pub returns : goal.returns
returns c = lemma
