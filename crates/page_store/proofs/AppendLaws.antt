-- The key that is answered for a page: in version 2 the digest of the page is put behind it.
use Rattle.std.proofs.Common.{◌≡◌, ℕ, List, ◌++◌, drop, length, sym, ap, subst, ◌∙◌, inl, inr}
use Rattle.std.proofs.Math.Seq.{drop-append_seam}
use Rattle.sdbt_base.specs.Bytes.{IsBytes}
use Rattle.sdbt_base.specs.Keys.{bare, digest_in, IsKeyOf}
use Rattle.sdbt_base.proofs.KeyLaws.{bare_plain, bare_behind}
use Rattle.record_versions.specs.Laws.{plain_size, bytes_joined, no_digest}
use Rattle.page_digest.specs.Digest.{digest, FitsDigest}
use Rattle.seal_record.specs.Sealing.{masked}
use Rattle.page_store.proofs.RecordYields.{masked_bare}

-- ---- with a digest

digest_behind : (key behind : List ℕ) → length key ≡ 32 → digest_in (key ++ behind) ≡ behind
digest_behind key behind plain = subst (λ (n : ℕ). drop n (key ++ behind) ≡ behind) plain (drop-append_seam key behind)

joined : (key behind named : List ℕ) → length key ≡ 32 → named ≡ bare key ++ behind → named ≡ key ++ behind
joined key behind named plain same = same ∙ ap (λ (k : List ℕ). k ++ behind) (bare_plain key plain)

pub with_key : (version : ℕ) (key behind named : List ℕ) → version ≡ 2 → IsBytes 32 key → IsBytes 32 behind → named ≡ bare key ++ behind → IsKeyOf version named
with_key version key behind named two is behind_is same =
    subst (λ (v : ℕ). IsKeyOf v named) (sym two) (subst (IsBytes 64) (sym (joined key behind named is.0 same)) (bytes_joined key behind is behind_is))

pub with_bare : (key behind named : List ℕ) → length key ≡ 32 → length behind ≡ 32 → named ≡ bare key ++ behind → bare named ≡ key
with_bare key behind named plain size same = ap bare (joined key behind named plain same) ∙ bare_behind key behind plain size

pub with_fit : (key behind named page : List ℕ) → length key ≡ 32 → behind ≡ digest page → named ≡ bare key ++ behind → FitsDigest named page
with_fit key behind named page plain is same = inr (ap digest_in (joined key behind named plain same) ∙ digest_behind key behind plain ∙ is)

-- ---- without one

pub plain_key : (version : ℕ) (key : List ℕ) → (version ≡ 2 → ⊥) → IsBytes 32 key → IsKeyOf version key
plain_key version key other is = subst (λ (n : ℕ). IsBytes n key) (sym (plain_size version other)) is

pub plain_fit : (key page : List ℕ) → length key ≡ 32 → FitsDigest key page
plain_fit key page plain = inl (no_digest key plain)

-- ---- the page

-- what was sealed under the key alone was sealed under the key with the digest
pub same_mask : (key named bytes : List ℕ) → bare named ≡ key → masked key bytes ≡ masked named bytes
same_mask key named bytes same = ap (λ (k : List ℕ). masked k bytes) (sym same) ∙ masked_bare named bytes
