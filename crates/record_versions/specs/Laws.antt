-- The laws of versions: what holds in the one and in the other, and the parts of a key.
use Rattle.std.proofs.Common.{◌≡◌, ◌⊎◌, Bool, if◌then◌else◌, ℕ, ◌+◌, ◌-◌, ◌*◌, ◌<◌, ◌≤◌, List, [], ◌∷◌, ◌++◌, Some, None, length, replicate, refl, sym, ap, subst, ◌∙◌, inl, inr, arith, length-append, append-nil}
use Rattle.std.proofs.lemmas.Bool.{ne_eqb}
use Rattle.std.proofs.lemmas.List.{length-take, length-drop, length-replicate, take-append-drop, drop_all}
use Rattle.std.proofs.lemmas.List.Elements.{All-append}
use Rattle.sdbt_base.specs.Bytes.{IsBytes}
use Rattle.sdbt_base.specs.Keys.{bare, digest_in, digest_of, some_bytes, key_size, entry_size, most_entries}
use Rattle.sdbt_base.proofs.KeyLaws.{bare_plain, one_key}
use Rattle.record_versions.specs.Versions.{IsVersion, digest_field}

-- what holds in both versions holds in each
pub by_version : (P : ℕ → Type 0) (version : ℕ) → IsVersion version → P 1 → P 2 → P version
by_version P version is one two = elim is [ inl e ↦ subst P (sym e) one | inr e ↦ subst P (sym e) two ]

-- so many bytes are the entries of a node, and the zeros behind them fill the payload
pub entries_within : (version count : ℕ) → IsVersion version → count ≤ most_entries version → entry_size version * count ≤ 4096
entries_within version count is = by_version (λ (v : ℕ). count ≤ most_entries v → entry_size v * count ≤ 4096) version is (λ h. omega (arith, h)) (λ h. omega (arith, h))

-- the same of a size that was read, and where an entry stands
pub entries_room : (version count size : ℕ) → IsVersion version → count ≤ most_entries version → size ≡ entry_size version → size * count ≤ 4096
entries_room version count size is few same = subst (λ (n : ℕ). n * count ≤ 4096) (sym same) (entries_within version count is few)

pub entry_room : (version i size : ℕ) → IsVersion version → i < most_entries version → size ≡ entry_size version → size * i + size ≤ 4096
entry_room version i size is below same = omega (arith, entries_room version (i + 1) size is (omega (arith, below)) same)

-- without digests keys have 32 bytes
pub plain_size : (version : ℕ) → (version ≡ 2 → ⊥) → key_size version ≡ 32
plain_size version other = ap (λ (b : Bool). if b then 64 else 32) (ne_eqb version 2 other)

-- ---- the parts of a key

pub parts_of_key : (key : List ℕ) → bare key ++ digest_in key ≡ key
parts_of_key key = take-append-drop 32 key

pub length-bare : (key : List ℕ) → (length key ≡ 32) ⊎ (length key ≡ 64) → length (bare key) ≡ 32
length-bare key size = elim size [ inl h ↦ omega (arith, length-take 32 key, h) | inr h ↦ omega (arith, length-take 32 key, h) ]

pub no_digest : (key : List ℕ) → length key ≡ 32 → digest_in key ≡ []
no_digest key h = drop_all 32 key (omega (arith, h))

-- a key has 32 or 64 bytes, where it is of a version
pub size_of_key : (version : ℕ) (key : List ℕ) → IsVersion version → length key ≡ key_size version → (length key ≡ 32) ⊎ (length key ≡ 64)
size_of_key version key is sized = elim is [ inl e ↦ inl (sized ∙ ap key_size e) | inr e ↦ inr (sized ∙ ap key_size e) ]

-- ---- the digest

pub field_plain : (key : List ℕ) → length key ≡ 32 → digest_field key ≡ replicate 32 0
field_plain key h = ap (λ (d : List ℕ). d ++ replicate (64 - length key) 0) (no_digest key h) ∙ ap (λ (n : ℕ). replicate (64 - n) 0) h

pub field_with : (key : List ℕ) → length key ≡ 64 → digest_field key ≡ digest_in key
field_with key h = ap (λ (n : ℕ). digest_in key ++ replicate (64 - n) 0) h ∙ append-nil (digest_in key)

pub length-field : (key : List ℕ) → (length key ≡ 32) ⊎ (length key ≡ 64) → length (digest_field key) ≡ 32
length-field key size = elim size [
  | inl h ↦ ap length (field_plain key h) ∙ length-replicate {A = ℕ} 32 0
  | inr h ↦ ap length (field_with key h) ∙ omega (arith, length-drop 32 key, h)
]

pub no_bytes : (ds : List ℕ) → some_bytes ds ≡ None → ds ≡ []
no_bytes [] h = refl
no_bytes (d ∷ ds) h = cc

pub these_bytes : (ds want : List ℕ) → some_bytes ds ≡ Some want → ds ≡ want
these_bytes [] want h = cc
these_bytes (d ∷ ds) want h = cc

-- what a key has as its digest says how long it is
pub digest_is : (key digest : List ℕ) → digest_of key ≡ Some digest → digest_in key ≡ digest
digest_is key digest h = these_bytes (digest_in key) digest h

pub size_with : (key digest : List ℕ) → digest_of key ≡ Some digest → length digest ≡ 32 → length key ≡ 64
size_with key digest h size = omega (arith, length-drop 32 key, ap length (digest_is key digest h), size)

pub size_without : (key : List ℕ) → digest_of key ≡ None → (length key ≡ 32) ⊎ (length key ≡ 64) → length key ≡ 32
size_without key h size =
    let none : length (digest_in key) ≡ 0 = ap length (no_bytes (digest_in key) h) in
    elim size [ inl n ↦ n | inr n ↦ absurd (omega (arith, length-drop 32 key, none, n)) ]

pub empty_is : (xs : List ℕ) → length xs ≡ 0 → xs ≡ []
empty_is [] h = refl
empty_is (x ∷ xs) h = absurd (omega (arith, h))

-- two parts of 32 bytes are 64
pub bytes_joined : (a b : List ℕ) → IsBytes 32 a → IsBytes 32 b → IsBytes 64 (a ++ b)
bytes_joined a b is-a is-b = (omega (arith, length-append a b, is-a.0, is-b.0), All-append (λ (n : ℕ). n < 256) a b is-a.1 is-b.1)

-- keys of one version with the same bytes and the same field of a digest are the same
pub key_same : (version : ℕ) (a b : List ℕ) → IsVersion version → length a ≡ key_size version → length b ≡ key_size version → bare a ≡ bare b → (version ≡ 2 → digest_in a ≡ digest_in b) → a ≡ b
key_same version a b is size-a size-b front behind = elim is [
  | inl e ↦
      let plain-a : length a ≡ 32 = size-a ∙ ap key_size e in
      let plain-b : length b ≡ 32 = size-b ∙ ap key_size e in
      sym (bare_plain a plain-a) ∙ front ∙ bare_plain b plain-b
  | inr e ↦ one_key a b front (behind e)
]
