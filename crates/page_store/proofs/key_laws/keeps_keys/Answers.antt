use Rattle.page_store.proofs.KeptLaws.{kept_blank, kept_drawn, kept_append, kept_synced, kept_cleared, kept_swapped, kept_left}
use Rattle.page_store.proofs.key_laws.keeps_keys.Goals as goal

pub returns-clause-blank : goal.returns-clause-blank
returns-clause-blank c = kept_blank

pub returns-clause-drawn : goal.returns-clause-drawn
returns-clause-drawn c = kept_drawn

pub returns-clause-appended : goal.returns-clause-appended
returns-clause-appended c = kept_append

pub returns-clause-synced : goal.returns-clause-synced
returns-clause-synced c = kept_synced

pub returns-clause-cleared : goal.returns-clause-cleared
returns-clause-cleared c = kept_cleared

pub returns-clause-swapped : goal.returns-clause-swapped
returns-clause-swapped c = kept_swapped

pub returns-clause-left : goal.returns-clause-left
returns-clause-left c = kept_left
