-- What the serving of requests goes on with, and replies that are put.
use Rattle.std.specs.Prelude.{◌≤◌, ◌+◌, ◌*◌, ℕ, List, Option, None, Some, Result, Ok, Err, [], take, drop}
use Rattle.device_session.specs.Sessions.{Session}
use Rattle.nbd_lang.specs.Replies.{Reply}
use Rattle.nbd_lang.specs.declared.requests.Request.{Request}
use Rattle.nbd_lang.specs.declared.requests.RequestKind.{RequestKind}
use Rattle.nbd_lang.specs.declared.requests.RequestKind.TheVariants as kinds
use Rattle.nbd_lang.specs.declared.replies.Outcome.{Outcome}
use Rattle.nbd_lang.specs.declared.replies.Outcome.TheVariants as outcomes
use Rattle.nbd_core.specs.declared.halts.Halt.{Halt}
use Rattle.nbd_core.specs.declared.serving.Performed.{Performed}

-- the session with which a run goes on
abbrev pub goes_on : Result Session Halt → Option Session
goes_on (Ok session) = Some session
goes_on (Err halt) = None

abbrev pub performed : Result Performed Halt → Option Session
performed (Ok done) = Some done.session
performed (Err halt) = None

-- the range of a request is one of a device of so many blocks
abbrev pub IsWithin : Request → ℕ → Type 0
IsWithin request blocks = request.offset + request.length ≤ 4096 * blocks

-- the bytes of a reply: a read that was done has those behind the head
abbrev pub bytes_of_reply : RequestKind → ℕ → Outcome → List ℕ → List ℕ
bytes_of_reply kinds.Read count outcomes.Done room = take count (drop 16 room)
bytes_of_reply _ count _ room = []

abbrev pub reply_of : Request → Outcome → List ℕ → Reply
reply_of request outcome room = record { outcome = outcome; cookie = request.cookie; bytes = bytes_of_reply request.kind request.length outcome room }
