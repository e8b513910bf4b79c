-- Bytes that are let go.
use Rattle.std.specs.Prelude.{◌≡◌, ◌<◌, ℕ, List, ◌++◌, Option, Bool, true, false, Result, IfOk, OnErr, length}
use Rattle.nbd_core.specs.Room.{Room, Came, IsShorter}
use Rattle.nbd_core.specs.declared.stop.Stop.{Stop}

-- of what came so many bytes are gone; or fewer came, and all of them may be
pub record Passed (left left_now : Option (List ℕ)) (old new : Room) (count : ℕ) (result : Result Bool Stop) : Type 0 where
  pub gone : List ℕ
  pub came : Came left left_now old new.left (IsShorter count) (gone ++ new.ahead)
  pub whole : IfOk result (λ whole. whole ≡ true → length gone ≡ count)
  pub short : IfOk result (λ whole. whole ≡ false → length (gone ++ new.ahead) < count)
  pub stopped : OnErr result (length (gone ++ new.ahead) < count)
