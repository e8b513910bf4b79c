-- The word that says where a root record is.
use Rattle.std.specs.Prelude.{◌≡◌, ◌≢◌, ℕ, ◌<◌, ◌≤◌, List, ◌∷◌, ◌++◌, Option, None, Some, length, slice_index, codes}
use Rattle.std.specs.Str.Parse.{IsNumeral, digits_value}
use denote.Ref.{Bor}
use Rattle.tpm_nv.specs.declared.cells.OnTpm.{OnTpm}

-- a folder, or an index of a TPM behind a device file, which may be named
pub data Place : Type 0 where
  Folder : Place
  Tpm : (index : ℕ) (device : Option (List ℕ)) → Place

abbrev pub device_of : Option (Bor (List ℕ)) → Option (List ℕ)
device_of None = None
device_of (Some device) = Some device.now

abbrev pub place_of : Option OnTpm → Place
place_of None = Folder
place_of (Some cell) = Tpm cell.index (device_of cell.device)

-- the byte stands nowhere in a text
abbrev pub Lacks : ℕ → List ℕ → Type 0
Lacks byte text = (i : ℕ) → i < length text → slice_index text i ≢ byte

-- 1 to 8 hex digits of either case, and the number that they write
pub record IsHexNumber (digits : List ℕ) (n : ℕ) : Type 0 where
  pub numeral : IsNumeral 16 digits
  pub short : length digits ≤ 8
  pub value : digits_value 16 digits ≡ n

-- the text of an index of NV memory
pub record IsIndexText (text : List ℕ) (index : ℕ) : Type 0 where
  pub digits : List ℕ
  pub spelled : text ≡ codes "0x" ++ digits
  pub number : IsHexNumber digits index
  pub least : 0x1000000 ≤ index
  pub most : index ≤ 0x1ffffff

-- what stands behind `tpm:` says that it is in this index, and behind which device file
abbrev pub SpellsOnTpm : List ℕ → ℕ → Option (List ℕ) → Type 0
SpellsOnTpm rest index None = IsIndexText rest index
SpellsOnTpm rest index (Some device) = (text : List ℕ) × IsIndexText text index × (1 ≤ length device) × (rest ≡ text ++ 64 ∷ device)

-- the word says that a root record is there
abbrev pub Spells : List ℕ → Place → Type 0
Spells word Folder = (rest : List ℕ) → word ≡ codes "tpm:" ++ rest → ⊥
Spells word (Tpm index device) = (rest : List ℕ) × (word ≡ codes "tpm:" ++ rest) × SpellsOnTpm rest index device
