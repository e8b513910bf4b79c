-- The attributes of an index (part 2, TPMA_NV) that this crate looks at.
use Rattle.std.specs.Prelude.{◌≡◌, ℕ, ◌/◌, ◌%◌, List, [], ◌∷◌, ◌++◌, All}
use Rattle.std.specs.Int.{bit_at}
use Rattle.tpm_nv.specs.declared.attributes.Attribute.{Attribute}
use Rattle.tpm_nv.specs.declared.attributes.Attribute.TheVariants.{AuthWrite, WriteLocked, WriteDefine, WriteStClear, GlobalLock, AuthRead, Orderly, ClearStClear, ReadLocked, ReadStClear}

-- the bit of an attribute
abbrev pub bit_of : Attribute → ℕ
bit_of AuthWrite = 2
bit_of WriteLocked = 11
bit_of WriteDefine = 13
bit_of WriteStClear = 14
bit_of GlobalLock = 15
bit_of AuthRead = 18
bit_of Orderly = 26
bit_of ClearStClear = 27
bit_of ReadLocked = 28
bit_of ReadStClear = 31

abbrev pub IsSet : ℕ → Attribute → Type 0
IsSet attributes attribute = bit_at attributes (bit_of attribute) ≡ 1

abbrev pub IsClear : ℕ → Attribute → Type 0
IsClear attributes attribute = bit_at attributes (bit_of attribute) ≡ 0

-- it stands in the list behind attributes alone that have P
abbrev pub IsFirst : (Attribute → Type 0) → List Attribute → Attribute → Type 0
IsFirst P list attribute = (before : List Attribute) × (behind : List Attribute) × (list ≡ before ++ attribute ∷ behind) × All P before

-- the index's password reads and writes it
abbrev pub needed : List Attribute
needed = AuthWrite ∷ AuthRead ∷ []

-- by these what was written could be lost at a restart, or stay where it is to be replaced
abbrev pub refused : List Attribute
refused = WriteLocked ∷ WriteDefine ∷ WriteStClear ∷ GlobalLock ∷ Orderly ∷ ClearStClear ∷ ReadLocked ∷ ReadStClear ∷ []

-- the type of an index (TPM_NT): 0 for an ordinary one
abbrev pub type_of : ℕ → ℕ
type_of attributes = attributes / 16 % 16

-- a root record can stand in such an index
pub record IsUsable (attributes size : ℕ) : Type 0 where
  pub whole : size ≡ 128
  pub ordinary : type_of attributes ≡ 0
  pub needed : All (IsSet attributes) needed
  pub safe : All (IsClear attributes) refused
