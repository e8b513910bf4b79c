-- Requests. All numbers have their highest byte first.
use Rattle.std.specs.Prelude.{◌≡◌, ◌<◌, ◌^◌, ℕ, List, [], ◌∷◌, ◌++◌, length}
use Rattle.std.specs.List.{concat}
use Rattle.std.specs.Int.{w16, w32, w64, to_be_bytes}
use Rattle.nbd_lang.specs.declared.requests.Request.{Request}
use Rattle.nbd_lang.specs.declared.requests.RequestKind.{RequestKind}
use Rattle.nbd_lang.specs.declared.requests.RequestKind.TheVariants.{Read, Write, Disconnect, Flush, Trim, Other}

-- the number of a kind of request
abbrev pub request_number : RequestKind → ℕ
request_number Read = 0
request_number Write = 1
request_number Disconnect = 2
request_number Flush = 3
request_number Trim = 4
request_number (Other number) = number

-- one that isn't served has a number of its own
abbrev pub FitsRequestKind : RequestKind → Type 0
FitsRequestKind (Other number) = (4 < number) × (number < 2 ^ 16)
FitsRequestKind _ = Unit {0}

pub record FitsRequest (request : Request) : Type 0 where
  pub flags : request.flags < 2 ^ 16
  pub kind : FitsRequestKind request.kind
  pub cookie : request.cookie < 2 ^ 64
  pub offset : request.offset < 2 ^ 64
  pub length : request.length < 2 ^ 32

-- what stands before a write's bytes, field by field
abbrev pub request_fields : Request → List (List ℕ)
request_fields request =
    to_be_bytes w32 0x25609513 ∷ to_be_bytes w16 request.flags ∷ to_be_bytes w16 (request_number request.kind) ∷ to_be_bytes w64 request.cookie ∷ to_be_bytes w64 request.offset ∷ to_be_bytes w32 request.length ∷ []

abbrev pub request_head : Request → List ℕ
request_head request = concat (request_fields request)

-- how many bytes follow a head
abbrev pub bytes_behind : RequestKind → ℕ → ℕ
bytes_behind Write n = n
bytes_behind _ n = 0

-- a request with a write's bytes
pub record RequestSent : Type 0 where
  pub head : Request
  pub bytes : List ℕ

pub record FitsSent (sent : RequestSent) : Type 0 where
  pub head : FitsRequest sent.head
  pub bytes : length sent.bytes ≡ bytes_behind sent.head.kind sent.head.length

abbrev pub request_bytes : RequestSent → List ℕ
request_bytes sent = request_head sent.head ++ sent.bytes
