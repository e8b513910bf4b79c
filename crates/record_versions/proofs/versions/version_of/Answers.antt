-- A key has a digest exactly where it has 64 bytes.
use Rattle.std.proofs.Common.{sym, inl, inr}
use Rattle.sdbt_base.proofs.KeyLaws.{version_plain, version_with}
use Rattle.record_versions.proofs.versions.version_of.Goals as goal

pub returns-then-is_plain-clause-value : goal.returns-then-is_plain-clause-value
returns-then-is_plain-clause-value c = sym (version_plain c.args.key.now (c.is_plain.ensures.0 c.if-is_plain.true))

pub returns-else-is_plain-clause-size : goal.returns-else-is_plain-clause-size
returns-else-is_plain-clause-size c = elim c.has_size.ensures [ inl n ↦ (let is = c.is_plain.ensures.1 n in absurd cc) | inr n ↦ n ]

pub returns-else-is_plain-clause-value : goal.returns-else-is_plain-clause-value
returns-else-is_plain-clause-value c = sym (version_with c.args.key.now (returns-else-is_plain-clause-size c))
