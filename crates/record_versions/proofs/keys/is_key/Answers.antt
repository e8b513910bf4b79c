-- The bytes of a key, and those of its digest.
use Rattle.std.proofs.Common.{◌≡◌, ◌<◌, ◌∙◌, sym, subst, length, rules}
use Rattle.std.specs.Prelude.{All}
use Rattle.sdbt_base.specs.Bytes.{IsBytes}
use Rattle.sdbt_base.specs.Keys.{IsKeyOf, bare, digest_in}
use Rattle.sdbt_base.proofs.KeyLaws.{bare_plain, version_plain, version_with}
use Rattle.record_versions.specs.Laws.{digest_is, size_with, size_without, parts_of_key, bytes_joined, length-bare}
use Rattle.record_versions.proofs.keys.is_key.Goals as goal

pub returns-in-Some : goal.returns-in-Some
returns-in-Some c =
    let key = c.args.key.now in
    let said = sym c.digest.ensures ∙ c.in-Some.is in
    let size : length c.in-Some.digest ≡ 32 = search rules in
    let own : IsBytes 32 (bare key) = (length-bare key c.has_size.ensures, subst (λ bs. All (λ b. b < 256) bs) c.bytes-bytes.ensures.value c.are_bytes.ensures) in
    let behind : IsBytes 32 (digest_in key) = subst (IsBytes 32) (sym (digest_is key c.in-Some.digest said)) (size, c.are_bytes-in-Some.ensures) in
    let whole : IsBytes 64 key = subst (IsBytes 64) (parts_of_key key) (bytes_joined (bare key) (digest_in key) own behind) in
    subst (λ v. IsKeyOf v key) (sym (version_with key (size_with key c.in-Some.digest said size))) whole

pub returns-in-None : goal.returns-in-None
returns-in-None c =
    let key = c.args.key.now in
    let size = size_without key (sym c.digest.ensures ∙ c.in-None.is) c.has_size.ensures in
    let own : All (λ b. b < 256) key = subst (λ bs. All (λ b. b < 256) bs) (c.bytes-bytes.ensures.value ∙ bare_plain key size) c.are_bytes.ensures in
    subst (λ v. IsKeyOf v key) (sym (version_plain key size)) (size, own)
