-- The laws of root records: the fields decide the bytes, and the bytes decide the fields.
use Rattle.std.proofs.Common.{◌≡◌, ℕ, ◌<◌, ◌≤◌, ◌^◌, List, [], ◌∷◌, map, length, replicate, refl, sym, ap, ◌∙◌, inl, inr, arith, length-append}
use Rattle.std.specs.Int.{w16, w64, to_be_bytes}
use Rattle.std.specs.List.{concat}
use Rattle.record_fields.specs.Fields.{fields_from, fields_whole, fields_again, number_same_2, number_same_8}
use Rattle.sdbt_base.specs.Keys.{bare, digest_in, key_size, most_entries}
use Rattle.record_versions.specs.Versions.{IsVersion, digest_field}
use Rattle.record_versions.specs.Laws.{by_version, size_of_key, length-bare, length-field, field_plain, field_with, key_same}
use Rattle.root_codec.specs.declared.root.Root.{Root}
use Rattle.root_codec.specs.RootRecord.{root_fields, root_bytes, FitsRoot}
use Rattle.root_codec.specs.Fields.{part, FitsVersion, IsFramed, Spells}

abbrev sizes : List ℕ
sizes = 8 ∷ 2 ∷ 2 ∷ 1 ∷ 3 ∷ 8 ∷ 8 ∷ 8 ∷ 32 ∷ 8 ∷ 8 ∷ 32 ∷ 8 ∷ []

-- ---- the digest

digest_spelled : (version : ℕ) (key field : List ℕ) → IsVersion version → length key ≡ key_size version → FitsVersion version field → (version ≡ 2 → field ≡ digest_in key) → field ≡ digest_field key
digest_spelled version key field is sized zeros digest = elim is [
  | inl e ↦ zeros e ∙ sym (field_plain key (sized ∙ ap key_size e))
  | inr e ↦ digest e ∙ sym (field_with key (sized ∙ ap key_size e))
]

digest_known : (version : ℕ) (key field : List ℕ) → length key ≡ key_size version → field ≡ digest_field key → version ≡ 2 → field ≡ digest_in key
digest_known version key field sized here e = here ∙ field_with key (sized ∙ ap key_size e)

zeros_known : (version : ℕ) (key field : List ℕ) → length key ≡ key_size version → field ≡ digest_field key → FitsVersion version field
zeros_known version key field sized here e = here ∙ field_plain key (sized ∙ ap key_size e)

pub version_below : (version : ℕ) → IsVersion version → version < 2 ^ 16
version_below version is = by_version (λ (v : ℕ). v < 2 ^ 16) version is (omega arith) (omega arith)

order_below : (version order : ℕ) → IsVersion version → order ≤ most_entries version → order < 2 ^ 16
order_below version order is = by_version (λ (v : ℕ). order ≤ most_entries v → order < 2 ^ 16) version is (λ h. omega (arith, h)) (λ h. omega (arith, h))

-- the greatest order is that of version 1
pub order_at_most : (root : Root) → FitsRoot root → root.order ≤ 64
order_at_most root fits = by_version (λ (v : ℕ). root.order ≤ most_entries v → root.order ≤ 64) root.version fits.version (λ h. omega (arith, h)) (λ h. omega (arith, h)) fits.order_most

-- a root whose key has no digest is of version 1
pub plain_version : (root : Root) → FitsRoot root → length root.key ≡ 32 → root.version ≡ 1
plain_version root fits plain = elim fits.version [
  | inl e ↦ e
  | inr e ↦ absurd (let size : length root.key ≡ 64 = fits.sized ∙ ap key_size e in omega (arith, size, plain))
]

-- ---- the bytes

pub spelled : (bytes : List ℕ) (root : Root) → length bytes ≡ 128 → IsFramed root.version bytes → Spells bytes root → bytes ≡ root_bytes root
unfolding root_fields
spelled bytes root len framed spells =
    let behind : part 88 32 bytes ≡ digest_field root.key = digest_spelled root.version root.key (part 88 32 bytes) spells.known spells.key_bytes.0 framed.digest spells.digest in
    let fields : fields_from 0 sizes bytes ≡ root_fields root = cc in
    sym (fields_whole sizes 0 bytes (sym len)) ∙ ap concat fields

-- the lengths of the fields
lengths_are : (root : Root) → FitsRoot root → map length (root_fields root) ≡ sizes
unfolding root_fields
lengths_are root fits =
    let size = size_of_key root.version root.key fits.version fits.sized in
    let own = length-bare root.key size in
    let behind = length-field root.key size in
    cc

pub length-root_bytes : (root : Root) → FitsRoot root → length (root_bytes root) ≡ 128
unfolding root_fields
length-root_bytes root fits =
    let size = size_of_key root.version root.key fits.version fits.sized in
    omega (arith, length-bare root.key size, length-field root.key size, length-append (bare root.key) (concat (to_be_bytes w64 root.mapped ∷ to_be_bytes w64 root.head ∷ digest_field root.key ∷ replicate 8 0 ∷ [])), length-append (digest_field root.key) (replicate 8 0))

fields_are : (bytes : List ℕ) (root : Root) → FitsRoot root → bytes ≡ root_bytes root → fields_from 0 sizes bytes ≡ root_fields root
fields_are bytes root fits same =
    ap (fields_from 0 sizes) same ∙ ap (λ (ns : List ℕ). fields_from 0 ns (root_bytes root)) (sym (lengths_are root fits)) ∙ fields_again (root_fields root) []

root_same : (a b : Root) → a.version ≡ b.version → a.order ≡ b.order → a.level ≡ b.level → a.blocks ≡ b.blocks → a.commit ≡ b.commit → a.addr ≡ b.addr → a.key ≡ b.key → a.mapped ≡ b.mapped → a.head ≡ b.head → a ≡ b
root_same a b version order level blocks commit addr key mapped head = λ i. record { version = version i; order = order i; level = level i; blocks = blocks i; commit = commit i; addr = addr i; key = key i; mapped = mapped i; head = head i }

-- the version stands behind the stamp
pub version_spelled : (bytes : List ℕ) (root : Root) → FitsRoot root → bytes ≡ root_bytes root → part 8 2 bytes ≡ to_be_bytes w16 root.version
unfolding root_fields
version_spelled bytes root fits same = let fields = fields_are bytes root fits same in cc

pub only : (bytes : List ℕ) (root other : Root) → Spells bytes root → FitsRoot other → bytes ≡ root_bytes other → IsFramed root.version bytes × (root ≡ other)
unfolding root_fields
only bytes root other spells fits same =
    let fields = fields_are bytes other fits same in
    let version : root.version ≡ other.version = number_same_2 root.version other.version (version_below root.version spells.known) (version_below other.version fits.version) cc in
    let behind : part 88 32 bytes ≡ digest_field other.key = cc in
    let sized : length other.key ≡ key_size root.version = fits.sized ∙ ap key_size (sym version) in
    let framed : IsFramed root.version bytes = record { stamp = cc; gap = cc; digest = zeros_known root.version other.key (part 88 32 bytes) sized behind; last = cc } in
    let order : root.order ≡ other.order = number_same_2 root.order other.order spells.order_below (order_below other.version other.order fits.version fits.order_most) cc in
    let level : root.level ≡ other.level = cc in
    let blocks : root.blocks ≡ other.blocks = number_same_8 root.blocks other.blocks spells.blocks_below (omega (arith, fits.blocks_most)) cc in
    let commit : root.commit ≡ other.commit = number_same_8 root.commit other.commit spells.commit_below (omega (arith, fits.commit, fits.head)) cc in
    let addr : root.addr ≡ other.addr = number_same_8 root.addr other.addr spells.addr_below (omega (arith, fits.addr, fits.head)) cc in
    let front : bare root.key ≡ bare other.key = cc in
    let digests : (e : root.version ≡ 2) → digest_in root.key ≡ digest_in other.key = λ e. sym (spells.digest e) ∙ digest_known root.version other.key (part 88 32 bytes) sized behind e in
    let key : root.key ≡ other.key = key_same root.version root.key other.key spells.known spells.key_bytes.0 sized front digests in
    let mapped : root.mapped ≡ other.mapped = number_same_8 root.mapped other.mapped spells.mapped_below (omega (arith, fits.mapped, fits.blocks_most)) cc in
    let head : root.head ≡ other.head = number_same_8 root.head other.head spells.head_below (omega (arith, fits.head)) cc in
    (framed, root_same root other version order level blocks commit addr key mapped head)

-- no two roots have the same root record
pub one_root : (a b : Root) → FitsRoot a → FitsRoot b → root_bytes a ≡ root_bytes b → a ≡ b
unfolding root_fields
one_root a b fits-a fits-b same =
    let fields : root_fields a ≡ root_fields b = sym (fields_are (root_bytes a) a fits-a refl) ∙ fields_are (root_bytes a) b fits-b same in
    let version : a.version ≡ b.version = number_same_2 a.version b.version (version_below a.version fits-a.version) (version_below b.version fits-b.version) cc in
    let sized : length b.key ≡ key_size a.version = fits-b.sized ∙ ap key_size (sym version) in
    let order : a.order ≡ b.order = number_same_2 a.order b.order (order_below a.version a.order fits-a.version fits-a.order_most) (order_below b.version b.order fits-b.version fits-b.order_most) cc in
    let level : a.level ≡ b.level = cc in
    let blocks : a.blocks ≡ b.blocks = number_same_8 a.blocks b.blocks (omega (arith, fits-a.blocks_most)) (omega (arith, fits-b.blocks_most)) cc in
    let commit : a.commit ≡ b.commit = number_same_8 a.commit b.commit (omega (arith, fits-a.commit, fits-a.head)) (omega (arith, fits-b.commit, fits-b.head)) cc in
    let addr : a.addr ≡ b.addr = number_same_8 a.addr b.addr (omega (arith, fits-a.addr, fits-a.head)) (omega (arith, fits-b.addr, fits-b.head)) cc in
    let front : bare a.key ≡ bare b.key = cc in
    let behind : digest_field a.key ≡ digest_field b.key = cc in
    let digests : (e : a.version ≡ 2) → digest_in a.key ≡ digest_in b.key = λ e. sym (field_with a.key (fits-a.sized ∙ ap key_size e)) ∙ behind ∙ field_with b.key (sized ∙ ap key_size e) in
    let key : a.key ≡ b.key = key_same a.version a.key b.key fits-a.version fits-a.sized sized front digests in
    let mapped : a.mapped ≡ b.mapped = number_same_8 a.mapped b.mapped (omega (arith, fits-a.mapped, fits-a.blocks_most)) (omega (arith, fits-b.mapped, fits-b.blocks_most)) cc in
    let head : a.head ≡ b.head = number_same_8 a.head b.head (omega (arith, fits-a.head)) (omega (arith, fits-b.head)) cc in
    root_same a b version order level blocks commit addr key mapped head
