-- Where the fields of a root record stand.
use Rattle.std.specs.Prelude.{◌≡◌, ℕ, ◌^◌, ◌<◌, List, [], ◌∷◌, take, drop, replicate, codes}
use Rattle.std.specs.Int.{w16, w64, to_be_bytes}
use Rattle.sdbt_base.specs.Keys.{bare, digest_in, IsKeyOf}
use Rattle.record_versions.specs.Versions.{IsVersion}
use Rattle.root_codec.specs.declared.root.Root.{Root}

-- so many bytes, from a place on
abbrev pub part : ℕ → ℕ → List ℕ → List ℕ
part at size bytes = take size (drop at bytes)

-- where the version has no digests, there are zeros in its place
abbrev pub FitsVersion : ℕ → List ℕ → Type 0
FitsVersion version field = version ≡ 1 → field ≡ replicate 32 0

-- the fields that are the same in each root record of a version
pub record IsFramed (version : ℕ) (bytes : List ℕ) : Type 0 where
  pub stamp : part 0 8 bytes ≡ codes "SDBTROOT"
  pub gap : part 13 3 bytes ≡ replicate 3 0
  pub digest : FitsVersion version (part 88 32 bytes)
  pub last : part 120 8 bytes ≡ replicate 8 0

-- each other field is that of the root
pub record Spells (bytes : List ℕ) (root : Root) : Type 0 where
  pub known : IsVersion root.version
  pub version : part 8 2 bytes ≡ to_be_bytes w16 root.version
  pub order : part 10 2 bytes ≡ to_be_bytes w16 root.order
  pub level : part 12 1 bytes ≡ root.level ∷ []
  pub blocks : part 16 8 bytes ≡ to_be_bytes w64 root.blocks
  pub commit : part 24 8 bytes ≡ to_be_bytes w64 root.commit
  pub addr : part 32 8 bytes ≡ to_be_bytes w64 root.addr
  pub key : part 40 32 bytes ≡ bare root.key
  pub mapped : part 72 8 bytes ≡ to_be_bytes w64 root.mapped
  pub head : part 80 8 bytes ≡ to_be_bytes w64 root.head
  pub digest : root.version ≡ 2 → part 88 32 bytes ≡ digest_in root.key
  pub order_below : root.order < 2 ^ 16
  pub blocks_below : root.blocks < 2 ^ 64
  pub commit_below : root.commit < 2 ^ 64
  pub addr_below : root.addr < 2 ^ 64
  pub mapped_below : root.mapped < 2 ^ 64
  pub head_below : root.head < 2 ^ 64
  pub key_bytes : IsKeyOf root.version root.key
