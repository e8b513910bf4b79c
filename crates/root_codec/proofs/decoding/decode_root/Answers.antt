-- Of no version there is no root.
use Rattle.root_codec.specs.Laws.{version_spelled}
use Rattle.root_codec.proofs.decoding.decode_root.Goals as goal

pub returns-in-None-clause-none : goal.returns-in-None-clause-none
returns-in-None-clause-none c = λ root fits same. c.in-None.ensures.none root.version fits.version (version_spelled c.args.bytes.now root fits same)

pub returns-in-None-clause-again : goal.returns-in-None-clause-again
returns-in-None-clause-again c = λ root fits same. absurd (returns-in-None-clause-none c root fits same)
