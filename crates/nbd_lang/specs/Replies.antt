-- Replies to requests. All numbers have their highest byte first.
use Rattle.std.specs.Prelude.{ℕ, List, ◌++◌}
use Rattle.std.specs.Int.{w32, w64, to_be_bytes}
use Rattle.nbd_lang.specs.declared.replies.Outcome.{Outcome}
use Rattle.nbd_lang.specs.declared.replies.Outcome.TheVariants.{Done, Damaged, NoMemory, Invalid, NoSpace}

-- the number of an outcome: no error, EIO, ENOMEM, EINVAL, ENOSPC
abbrev pub outcome_number : Outcome → ℕ
outcome_number Done = 0
outcome_number Damaged = 5
outcome_number NoMemory = 12
outcome_number Invalid = 22
outcome_number NoSpace = 28

-- a reply, with a read's bytes
pub record Reply : Type 0 where
  pub outcome : Outcome
  pub cookie : ℕ
  pub bytes : List ℕ

abbrev pub reply_bytes : Reply → List ℕ
reply_bytes reply = to_be_bytes w32 0x67446698 ++ (to_be_bytes w32 (outcome_number reply.outcome) ++ (to_be_bytes w64 reply.cookie ++ reply.bytes))
