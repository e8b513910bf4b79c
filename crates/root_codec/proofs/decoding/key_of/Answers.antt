-- In version 2 the digest stands behind the bytes.
use Rattle.std.proofs.Common.{◌≡◌, ◌++◌, ◌∙◌, ℕ, List, length, take, drop, sym, ap, subst}
use Rattle.std.proofs.Math.Seq.{take-append_seam, drop-append_seam}
use Rattle.sdbt_base.specs.Bytes.{IsBytes}
use Rattle.sdbt_base.specs.Keys.{IsKeyOf, bare, digest_in}
use Rattle.sdbt_base.proofs.KeyLaws.{bare_plain}
use Rattle.record_versions.specs.Laws.{plain_size}
use Rattle.root_codec.proofs.decoding.key_of.Goals as goal

-- what is no version 2 has keys of 32 bytes
plain_of : (version : ℕ) (key : List ℕ) → (version ≡ 2 → ⊥) → IsBytes 32 key → IsKeyOf version key
plain_of version key other is = (is.0 ∙ sym (plain_size version other), is.1)

front_of : (field digest key : List ℕ) → length field ≡ 32 → key ≡ field ++ digest → field ≡ bare key
front_of field digest key size is = sym (subst (λ n. take n (field ++ digest) ≡ field) size (take-append_seam field digest)) ∙ ap bare (sym is)

back_of : (field digest key : List ℕ) → length field ≡ 32 → key ≡ field ++ digest → digest ≡ digest_in key
back_of field digest key size is = sym (subst (λ n. drop n (field ++ digest) ≡ digest) size (drop-append_seam field digest)) ∙ ap digest_in (sym is)

pub returns-then-version-eq2-clause-own : goal.returns-then-version-eq2-clause-own
returns-then-version-eq2-clause-own c = front_of c.args.field.now c.args.digest.now c.key_with_digest.result c.requires.field c.key_with_digest.ensures.value

pub returns-then-version-eq2-clause-digest : goal.returns-then-version-eq2-clause-digest
returns-then-version-eq2-clause-digest c = λ e. back_of c.args.field.now c.args.digest.now c.key_with_digest.result c.requires.field c.key_with_digest.ensures.value

pub returns-then-version-eq2-clause-key : goal.returns-then-version-eq2-clause-key
returns-then-version-eq2-clause-key c = subst (λ v. IsKeyOf v c.key_with_digest.result) (sym c.if-version-eq2.true) c.key_with_digest.ensures.bytes

pub returns-else-version-eq2-clause-own : goal.returns-else-version-eq2-clause-own
returns-else-version-eq2-clause-own c = sym (bare_plain c.plain_key.result c.plain_key.ensures.bytes.0 ∙ c.plain_key.ensures.value)

pub returns-else-version-eq2-clause-key : goal.returns-else-version-eq2-clause-key
returns-else-version-eq2-clause-key c = plain_of c.args.version c.plain_key.result c.if-version-eq2.false c.plain_key.ensures.bytes
