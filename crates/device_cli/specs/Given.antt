-- Root records that are given in words.
use Rattle.std.specs.Prelude.{◌≡◌, ◌≤◌, ℕ, List, Ok, All, Contains, length}
use Rattle.std.specs.List.{AllPass, AllZip}
use Rattle.sdbt_base.specs.Keys.{bare}
use Rattle.hex.specs.Hex.{decode_of, is_hex_digit}
use Rattle.root_codec.specs.declared.root.Root.{Root}
use Rattle.root_codec.specs.RootRecord.{root_bytes}
use Rattle.page_store.specs.Roots.{IsRootWithin}

-- 256 hex digits, of either case
pub record IsRecordWord (word : List ℕ) : Type 0 where
  pub digits : AllPass is_hex_digit word
  pub count : length word ≡ 256

-- at most 64 such words
pub record AreRecordWords (words : List (List ℕ)) : Type 0 where
  pub each : All IsRecordWord words
  pub most : length words ≤ 64

-- the word is the root record of this root in hex, which is in range and speaks of no more pages than there are
pub record IsRecordOf (head : ℕ) (word : List ℕ) (root : Root) : Type 0 where
  pub within : IsRootWithin head root
  pub decoded : decode_of word ≡ Ok (root_bytes root)

-- it is that of a root with this key, without its digest
pub record IsGiven (head : ℕ) (word key : List ℕ) : Type 0 where
  pub root : Root
  pub is_record : IsRecordOf head word root
  pub key_is : key ≡ bare root.key

-- the words are root records of roots with these keys, in turn
abbrev pub AreGiven : ℕ → List (List ℕ) → List (List ℕ) → Type 0
AreGiven head words keys = AllZip (IsGiven head) words keys

-- one of the words is the root record of no such root
pub record HasBadRecord (head : ℕ) (words : List (List ℕ)) : Type 0 where
  pub word : List ℕ
  pub there : Contains words word
  pub bad : (root : Root) → IsRecordOf head word root → ⊥
