-- What an index is, and the reply that says it.
use Rattle.std.specs.Prelude.{◌≡◌, ◌≢◌, ℕ, ◌^◌, ◌<◌, ◌⊎◌, List, [], ◌∷◌, All, Contains}
use Rattle.std.specs.Int.{w16, w32, to_be_bytes}
use Rattle.std.specs.List.{concat}
use Rattle.tpm_nv.specs.Fields.{sized}
use Rattle.tpm_nv.specs.Messages.{IsReply, IsRefusal}
use Rattle.tpm_nv.specs.Replies.{IsCause}
use Rattle.tpm_nv.specs.Attributes.{IsFirst, IsSet, IsClear, needed, refused, type_of}
use Rattle.tpm_nv.specs.declared.public.Public.{Public}
use Rattle.tpm_nv.specs.declared.public.Fault.{Fault}
use Rattle.tpm_nv.specs.declared.public.Fault.TheVariants.{Size, Kind, Lacks, Has}
use Rattle.tpm_nv.specs.declared.public.Refusal.{Refusal}
use Rattle.tpm_nv.specs.declared.public.Refusal.TheVariants.{Absent, Unusable, Failed}

-- what an index is: the hash of its name, its attributes, its policy, its size in bytes (TPMS_NV_PUBLIC), and its name
pub record Area : Type 0 where
  pub algorithm : ℕ
  pub attributes : ℕ
  pub policy : List ℕ
  pub size : ℕ
  pub name : List ℕ

abbrev pub area_of : Public → Area
area_of public = record { algorithm = public.algorithm; attributes = public.attributes; policy = public.policy.now; size = public.size; name = public.name.now }

-- the bytes of all but the name
unfoldable pub area_bytes : ℕ → Area → List ℕ
area_bytes index area =
    concat (to_be_bytes w32 index ∷ to_be_bytes w16 area.algorithm ∷ to_be_bytes w32 area.attributes ∷ sized area.policy ∷ to_be_bytes w16 area.size ∷ [])

-- what a reply carries that says it
abbrev pub described : ℕ → Area → List ℕ
described index area = concat (sized (area_bytes index area) ∷ sized area.name ∷ [])

pub record FitsArea (area : Area) : Type 0 where
  pub algorithm : area.algorithm < 2 ^ 16
  pub attributes : area.attributes < 2 ^ 32
  pub size : area.size < 2 ^ 16

-- the reply says that this index is so
pub record Describes (index : ℕ) (area : Area) (reply : List ℕ) : Type 0 where
  pub fits : FitsArea area
  pub spelled : IsReply 0x8001 0 (described index area) reply

-- no such index (TPM_RC_HANDLE of the first handle)
abbrev pub IsAbsent : List ℕ → Type 0
IsAbsent reply = IsRefusal 0x18b reply

-- some reply to the command that asks what an index is
abbrev pub IsPublic : ℕ → List ℕ → Type 0
IsPublic index reply = IsAbsent reply ⊎ ((area : Area) × Describes index area reply)

-- an index of these attributes and this size has the fault, and none that is looked for before: its size first, then its type,
-- then what it lacks, and then what it has
abbrev pub IsFault : ℕ → ℕ → Fault → Type 0
IsFault attributes size (Size n) = (size ≡ n) × (n ≢ 128)
IsFault attributes size (Kind kind) = (type_of attributes ≡ kind) × (kind ≢ 0) × (size ≡ 128)
IsFault attributes size (Lacks attribute) =
    Contains needed attribute × IsClear attributes attribute × IsFirst (IsSet attributes) needed attribute × (size ≡ 128) × (type_of attributes ≡ 0)
IsFault attributes size (Has attribute) =
    Contains refused attribute × IsSet attributes attribute × IsFirst (IsClear attributes) refused attribute × (size ≡ 128) × (type_of attributes ≡ 0)
    × All (IsSet attributes) needed

-- why an index is not used
abbrev pub IsRefused : ℕ → List ℕ → Refusal → Type 0
IsRefused index reply Absent = IsAbsent reply
IsRefused index reply (Unusable fault) = (area : Area) × Describes index area reply × IsFault area.attributes area.size fault
IsRefused index reply (Failed failure) = IsCause (IsPublic index reply) reply failure
