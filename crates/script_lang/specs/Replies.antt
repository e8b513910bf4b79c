-- What is answered to a line, and the text of each reply.
use Rattle.std.specs.Prelude.{◌≢◌, Bool, true, false, ℕ, ◌<◌, ◌≤◌, ◌^◌, List, [], ◌∷◌, ◌++◌, length, take, codes}
use Rattle.std.specs.List.{AllByRecursion}
use Rattle.std.specs.Fmt.{decimal}
use Rattle.hex.specs.Hex.{encode_lower}
use Rattle.script_lang.specs.declared.replies.Reply.{Reply as Given}
use Rattle.script_lang.specs.declared.replies.Reply.TheVariants as given

pub data Reply : Type 0 where
  Formatted : Reply
  Mounted : (number : ℕ) → Reply
  Content : (bytes : List ℕ) → Reply
  Done : Reply
  Committed : (number : ℕ) → Reply
  Dropped : Reply
  Erased : Reply
  Upgraded : (number : ℕ) → Reply
  Stat : (mapped number : ℕ) → Reply
  Seized : (pages nodes blocks : ℕ) → Reply
  Bad : Reply
  Unmounted : Reply
  AlreadyMounted : Reply
  NotEmpty : Reply
  NoDevice : Reply
  AlreadyUpgraded : Reply
  Range : Reply
  Full : Reply

-- the reply that was given, whose bytes stand at the front of a buffer
abbrev pub said : Given → List ℕ → Reply
said given.Formatted buffer = Formatted
said (given.Mounted number) buffer = Mounted number
said (given.Content count) buffer = Content (take count buffer)
said given.Done buffer = Done
said (given.Committed number) buffer = Committed number
said given.Dropped buffer = Dropped
said given.Erased buffer = Erased
said (given.Upgraded number) buffer = Upgraded number
said (given.Stat mapped number) buffer = Stat mapped number
said (given.Seized pages nodes blocks) buffer = Seized pages nodes blocks
said given.Bad buffer = Bad
said given.Unmounted buffer = Unmounted
said given.AlreadyMounted buffer = AlreadyMounted
said given.NotEmpty buffer = NotEmpty
said given.NoDevice buffer = NoDevice
said given.AlreadyUpgraded buffer = AlreadyUpgraded
said given.Range buffer = Range
said given.Full buffer = Full

-- its bytes are those of a block at most
abbrev pub FitsBlock : Given → Type 0
FitsBlock (given.Content count) = count ≤ 4096
FitsBlock _ = Unit {0}

-- the bytes of a block's front in hex; a dash where there is none
abbrev pub hex_or_dash : List ℕ → List ℕ
hex_or_dash [] = codes "-"
hex_or_dash (byte ∷ bytes) = encode_lower (byte ∷ bytes)

-- a reply's line, without its line feed
unfoldable pub text_of : Reply → List ℕ
text_of Formatted = codes "formatted"
text_of (Mounted number) = codes "mounted " ++ decimal number
text_of (Content bytes) = codes "data " ++ hex_or_dash bytes
text_of Done = codes "ok"
text_of (Committed number) = codes "committed " ++ decimal number
text_of Dropped = codes "dropped"
text_of Erased = codes "erased"
text_of (Upgraded number) = codes "upgraded " ++ decimal number
text_of (Stat mapped number) = codes "stat mapped " ++ (decimal mapped ++ (codes " commit " ++ decimal number))
text_of (Seized pages nodes blocks) = codes "seized pages " ++ (decimal pages ++ (codes " nodes " ++ (decimal nodes ++ (codes " blocks " ++ decimal blocks))))
text_of Bad = codes "bad"
text_of Unmounted = codes "unmounted"
text_of AlreadyMounted = codes "already mounted"
text_of NotEmpty = codes "not empty"
text_of NoDevice = codes "no device"
text_of AlreadyUpgraded = codes "already upgraded"
text_of Range = codes "range"
text_of Full = codes "full"

-- a reply of words alone, which gives no number and no bytes
abbrev pub IsWords : Reply → Type 0
IsWords (Mounted number) = ⊥
IsWords (Content bytes) = ⊥
IsWords (Committed number) = ⊥
IsWords (Upgraded number) = ⊥
IsWords (Stat mapped number) = ⊥
IsWords (Seized pages nodes blocks) = ⊥
IsWords _ = Unit {0}

-- whether a reply says that its line was refused
abbrev pub is_refusal : Reply → Bool
is_refusal Bad = true
is_refusal Unmounted = true
is_refusal AlreadyMounted = true
is_refusal NotEmpty = true
is_refusal NoDevice = true
is_refusal AlreadyUpgraded = true
is_refusal Range = true
is_refusal Full = true
is_refusal _ = false

-- a reply's line, with its line feed
abbrev pub line_of : Reply → List ℕ
line_of reply = text_of reply ++ 10 ∷ []

-- the bytes don't end in a zero
abbrev pub IsTrimmed : List ℕ → Type 0
IsTrimmed bytes = (front : List ℕ) → bytes ≢ front ++ 0 ∷ []

-- the front of a block, up to its last byte that isn't zero
pub record IsFront (bytes : List ℕ) : Type 0 where
  pub small : AllByRecursion (λ byte. byte < 256) bytes
  pub fits : length bytes ≤ 4096
  pub trimmed : IsTrimmed bytes

-- a reply that can be given: its numbers have 64 bits, and its bytes are a block's front
abbrev pub IsReply : Reply → Type 0
IsReply (Mounted number) = number < 2 ^ 64
IsReply (Content bytes) = IsFront bytes
IsReply (Committed number) = number < 2 ^ 64
IsReply (Upgraded number) = number < 2 ^ 64
IsReply (Stat mapped number) = (mapped < 2 ^ 64) × (number < 2 ^ 64)
IsReply (Seized pages nodes blocks) = (pages < 2 ^ 64) × (nodes < 2 ^ 64) × (blocks < 2 ^ 64)
IsReply Formatted = Unit {0}
IsReply Done = Unit {0}
IsReply Dropped = Unit {0}
IsReply Erased = Unit {0}
IsReply Bad = Unit {0}
IsReply Unmounted = Unit {0}
IsReply AlreadyMounted = Unit {0}
IsReply NotEmpty = Unit {0}
IsReply NoDevice = Unit {0}
IsReply AlreadyUpgraded = Unit {0}
IsReply Range = Unit {0}
IsReply Full = Unit {0}

-- a block's content in a reply is given without its trailing zeros
abbrev pub CanWrite : Reply → Type 0
CanWrite (Content bytes) = IsTrimmed bytes
CanWrite _ = Unit {0}
