-- What replies say.
use Rattle.std.specs.Prelude.{ℕ, ◌^◌, ◌<◌, ◌≤◌, List, Option, None, Some}
use Rattle.tpm_nv.specs.Messages.{head_bytes, IsReply, IsRefusal, IsData}
use Rattle.tpm_nv.specs.declared.heads.Head.{Head}
use Rattle.tpm_nv.specs.declared.heads.Failure.{Failure}
use Rattle.tpm_nv.specs.declared.heads.Failure.TheVariants.{Code, Malformed}
use Rattle.tpm_nv.specs.declared.contents.Content.{Content}
use Rattle.tpm_nv.specs.declared.contents.Content.TheVariants.{Unwritten, Bytes}

-- a head that a reply can have
pub record FitsHead (head : Head) : Type 0 where
  pub tag : head.tag < 2 ^ 16
  pub code : head.code < 2 ^ 32
  pub size_least : 10 ≤ head.size
  pub size_most : head.size ≤ 4096

-- the ten bytes of a head
abbrev pub bytes_of : Head → List ℕ
bytes_of head = head_bytes head.tag head.size head.code

-- why a reply is none of those that were waited for: it has the TPM's code, or it is no reply at all
abbrev pub IsCause : Type 0 → List ℕ → Failure → Type 0
IsCause Awaited reply (Code n) = (0 < n) × (n < 2 ^ 32) × IsRefusal n reply × (Awaited → ⊥)
IsCause Awaited reply Malformed = (Awaited → ⊥) × ((n : ℕ) → 0 < n → n < 2 ^ 32 → IsRefusal n reply → ⊥)

-- a reply with such a tag, that a command was done
abbrev pub IsDone : ℕ → List ℕ → Type 0
IsDone tag reply = (body : List ℕ) × IsReply tag 0 body reply

-- what an index holds: nothing until it is written, then bytes
abbrev pub held_by : Content → Option (List ℕ)
held_by Unwritten = None
held_by (Bytes bytes) = Some bytes.now

-- the reply says that this is held; before it is written an index is refused with TPM_RC_NV_UNINITIALIZED
abbrev pub SaysContent : List ℕ → Option (List ℕ) → Type 0
SaysContent reply None = IsRefusal 0x14a reply
SaysContent reply (Some bytes) = IsData bytes reply

-- some reply to the command that reads an index
abbrev pub IsContent : List ℕ → Type 0
IsContent reply = (held : Option (List ℕ)) × SaysContent reply held
