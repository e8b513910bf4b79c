-- The bytes of commands and replies (part 1 and 3 of the TPM library).
use Rattle.std.specs.Prelude.{◌≡◌, ℕ, ◌+◌, ◌≤◌, List, [], ◌∷◌, ◌++◌, length}
use Rattle.std.specs.Int.{w16, w32, to_be_bytes}
use Rattle.std.specs.List.{concat}
use Rattle.tpm_nv.specs.Fields.{sized}

-- the ten bytes before a command's or a reply's own: its tag, its size with these, and its code
unfoldable pub head_bytes : ℕ → ℕ → ℕ → List ℕ
head_bytes tag size code = concat (to_be_bytes w16 tag ∷ to_be_bytes w32 size ∷ to_be_bytes w32 code ∷ [])

-- a command or a reply: its head, and what it carries
abbrev pub message : ℕ → ℕ → List ℕ → List ℕ
message tag code body = head_bytes tag (10 + length body) code ++ body

-- an index as what is read or written and as what permits it, and the session of an empty password
-- with its size before it: its handle (TPM_RS_PW), no nonce, no attributes, no password
unfoldable pub authorized : ℕ → List ℕ
authorized index =
    concat (to_be_bytes w32 index ∷ to_be_bytes w32 index ∷ to_be_bytes w32 9 ∷ to_be_bytes w32 0x40000009 ∷ to_be_bytes w16 0 ∷ (0 ∷ []) ∷ to_be_bytes w16 0 ∷ [])

-- the commands: what an index is; its 128 bytes from the first on; 128 bytes in their place
abbrev pub read_public_bytes : ℕ → List ℕ
read_public_bytes index = message 0x8001 0x169 (to_be_bytes w32 index)

abbrev pub read_bytes : ℕ → List ℕ
read_bytes index = message 0x8002 0x14e (concat (authorized index ∷ to_be_bytes w16 128 ∷ to_be_bytes w16 0 ∷ []))

abbrev pub write_bytes : ℕ → List ℕ → List ℕ
write_bytes index bytes = message 0x8002 0x137 (concat (authorized index ∷ sized bytes ∷ to_be_bytes w16 0 ∷ []))

-- bytes are a reply of this tag and code that carries this: 4,096 bytes at most
pub record IsReply (tag code : ℕ) (body reply : List ℕ) : Type 0 where
  pub most : length reply ≤ 4096
  pub spelled : reply ≡ message tag code body

-- bytes are the reply that says nothing but why a command was not done
abbrev pub IsRefusal : ℕ → List ℕ → Type 0
IsRefusal code reply = IsReply 0x8001 code [] reply

-- the session that stands behind a reply's parameters: no nonce, it goes on, no password
abbrev pub session : List ℕ
session = concat (to_be_bytes w16 0 ∷ (1 ∷ []) ∷ to_be_bytes w16 0 ∷ [])

-- what a reply carries: its parameters with their size before them, and the session
abbrev pub with_session : List ℕ → List ℕ
with_session parameters = concat (to_be_bytes w32 (length parameters) ∷ parameters ∷ session ∷ [])

-- bytes are the reply that an index holds these 128
pub record IsData (bytes reply : List ℕ) : Type 0 where
  pub whole : length bytes ≡ 128
  pub spelled : IsReply 0x8002 0 (with_session (sized bytes)) reply

-- bytes are the reply that an index was written
abbrev pub IsWritten : List ℕ → Type 0
IsWritten reply = IsReply 0x8002 0 (with_session []) reply
