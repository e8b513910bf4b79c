-- The digest stands behind the bytes.
use Rattle.std.proofs.Common.{◌≡◌, ◌++◌, ◌∙◌, sym, subst, length}
use Rattle.sdbt_base.specs.Bytes.{IsBytes}
use Rattle.sdbt_base.proofs.KeyLaws.{bare_plain}
use Rattle.record_versions.specs.Laws.{bytes_joined}
use Rattle.record_versions.proofs.keys.key_with_digest.Goals as goal

pub returns-clause-value : goal.returns-clause-value
returns-clause-value c =
    let own : length c.plain_key-key.result ≡ 32 = c.plain_key-key.ensures.bytes.0 in
    c.with_digest.ensures ∙ (λ i. (bare_plain c.plain_key-key.result own ∙ c.plain_key-key.ensures.value) i ++ c.copy_from_slice.ensures.after i)

pub returns-clause-bytes : goal.returns-clause-bytes
returns-clause-bytes c =
    subst (IsBytes 64) (sym (returns-clause-value c))
    (bytes_joined c.args.bytes.now c.args.digest.now (subst (IsBytes 32) c.plain_key-key.ensures.value c.plain_key-key.ensures.bytes) (c.requires.digest, c.are_bytes.ensures))
