-- The digest stands behind the bytes.
use Rattle.std.proofs.Common.{◌++◌, ◌∙◌, take-append-drop}
use Rattle.node_codec.proofs.entries.key_in_two.Goals as goal

pub returns-clause-value : goal.returns-clause-value
returns-clause-value c = c.key_with_digest.ensures.value ∙ (λ i. c.split_at.ensures.front i ++ c.split_at.ensures.back i) ∙ take-append-drop 32 c.args.field.now
