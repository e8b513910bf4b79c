-- Each field is the part of the bytes that was read.
use Rattle.std.proofs.Common.{sym, ◌∙◌}
use Rattle.node_codec.specs.Laws.{entry_spelled}
use Rattle.node_codec.proofs.entries.entry_of.Goals as goal

pub returns-clause-spelled : goal.returns-clause-spelled
returns-clause-spelled c = entry_spelled _ _ c.u64_of.ensures.spelled c.u64_of-2.ensures.spelled (sym c.split_at.ensures.back ∙ sym c.key_of.ensures.value)
