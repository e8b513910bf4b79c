-- In version 2 a key has 64 bytes.
use Rattle.std.proofs.Common.{ap, sym, subst, ◌∙◌}
use Rattle.sdbt_base.specs.Keys.{IsKeyOf, key_size}
use Rattle.record_versions.specs.Laws.{plain_size}
use Rattle.node_codec.proofs.entries.key_of.Goals as goal

pub key_in_two-requires : goal.key_in_two-requires
key_in_two-requires c = c.requires ∙ ap key_size c.if-version-eq2.true

pub plain_key-requires : goal.plain_key-requires
plain_key-requires c = c.requires ∙ plain_size c.args.version c.if-version-eq2.false

pub returns-then-version-eq2-clause-key : goal.returns-then-version-eq2-clause-key
returns-then-version-eq2-clause-key c = subst (λ v. IsKeyOf v c.key_in_two.result) (sym c.if-version-eq2.true) c.key_in_two.ensures.bytes

pub returns-else-version-eq2-clause-key : goal.returns-else-version-eq2-clause-key
returns-else-version-eq2-clause-key c = (c.plain_key.ensures.bytes.0 ∙ sym (plain_size c.args.version c.if-version-eq2.false), c.plain_key.ensures.bytes.1)
