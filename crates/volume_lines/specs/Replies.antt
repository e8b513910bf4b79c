-- What is answered to a line, and the text of each reply.
use Rattle.std.specs.Prelude.{ℕ, ◌≤◌, List, [], ◌∷◌, ◌++◌, take, codes}
use Rattle.std.specs.Fmt.{decimal}
use Rattle.script_lang.specs.Replies.{IsTrimmed, hex_or_dash}
use Rattle.volume_lines.specs.declared.replies.Reply.{Reply as Given}
use Rattle.volume_lines.specs.declared.replies.Reply.TheVariants as given

pub data Reply : Type 0 where
  Created : Reply
  Exists : Reply
  NoRoom : Reply
  Unknown : Reply
  Content : (bytes : List ℕ) → Reply
  Done : Reply
  Range : Reply
  Full : Reply
  Destroyed : (number : ℕ) → Reply
  Uncommitted : Reply
  Committed : (number : ℕ) → Reply
  Bad : Reply

-- the reply that was given, whose bytes stand at the front of a buffer
abbrev pub said : Given → List ℕ → Reply
said given.Created buffer = Created
said given.Exists buffer = Exists
said given.NoRoom buffer = NoRoom
said given.Unknown buffer = Unknown
said (given.Content count) buffer = Content (take count buffer)
said given.Done buffer = Done
said given.Range buffer = Range
said given.Full buffer = Full
said (given.Destroyed number) buffer = Destroyed number
said given.Uncommitted buffer = Uncommitted
said (given.Committed number) buffer = Committed number
said given.Bad buffer = Bad

-- its bytes are those of a block at most
abbrev pub FitsBlock : Given → Type 0
FitsBlock (given.Content count) = count ≤ 4096
FitsBlock _ = Unit {0}

-- a block's content in a reply is given without its trailing zeros
abbrev pub CanWrite : Reply → Type 0
CanWrite (Content bytes) = IsTrimmed bytes
CanWrite _ = Unit {0}

-- a reply that gives no content
abbrev pub IsWords : Given → Type 0
IsWords (given.Content count) = ⊥
IsWords _ = Unit {0}

-- a reply's line, without its line feed
unfoldable pub text_of : Reply → List ℕ
text_of Created = codes "created"
text_of Exists = codes "exists"
text_of NoRoom = codes "no room"
text_of Unknown = codes "unknown"
text_of (Content bytes) = codes "data " ++ hex_or_dash bytes
text_of Done = codes "ok"
text_of Range = codes "range"
text_of Full = codes "full"
text_of (Destroyed number) = codes "destroyed " ++ decimal number
text_of Uncommitted = codes "destroyed uncommitted"
text_of (Committed number) = codes "committed " ++ decimal number
text_of Bad = codes "bad"

-- a reply's line, with its line feed
abbrev pub line_of : Reply → List ℕ
line_of reply = text_of reply ++ 10 ∷ []
