-- What a root record says, and its one spelling.
use Rattle.std.specs.Prelude.{◌≡◌, ℕ, ◌%◌, ◌^◌, ◌<◌, ◌≤◌, List, [], ◌∷◌, length, replicate, codes}
use Rattle.std.specs.Int.{w16, w64, to_be_bytes}
use Rattle.std.specs.List.{concat}
use Rattle.sdbt_base.specs.Keys.{bare, key_size, most_entries}
use Rattle.record_versions.specs.Versions.{IsVersion, digest_field}
use Rattle.root_codec.specs.declared.root.Root.{Root}

-- the fields are in range, and the key has a digest exactly in version 2
pub record FitsRoot (root : Root) : Type 0 where
  pub version : IsVersion root.version
  pub order_even : root.order % 2 ≡ 0
  pub order_least : 4 ≤ root.order
  pub order_most : root.order ≤ most_entries root.version
  pub level_least : 1 ≤ root.level
  pub level_most : root.level ≤ 20
  pub blocks_least : 1 ≤ root.blocks
  pub blocks_most : root.blocks ≤ 1048576
  pub commit : root.commit < root.head
  pub addr : root.addr < root.head
  pub mapped : root.mapped ≤ root.blocks
  pub head : root.head ≤ 2 ^ 32
  pub sized : length root.key ≡ key_size root.version

-- the fields of a root record, in order
unfoldable pub root_fields : Root → List (List ℕ)
root_fields root =
    codes "SDBTROOT" ∷ to_be_bytes w16 root.version ∷ to_be_bytes w16 root.order ∷ (root.level ∷ []) ∷ replicate 3 0
    ∷ to_be_bytes w64 root.blocks ∷ to_be_bytes w64 root.commit ∷ to_be_bytes w64 root.addr ∷ bare root.key
    ∷ to_be_bytes w64 root.mapped ∷ to_be_bytes w64 root.head ∷ digest_field root.key ∷ replicate 8 0 ∷ []

-- the 128 bytes of a root record
abbrev pub root_bytes : Root → List ℕ
root_bytes root = concat (root_fields root)
