-- What a call does to a platform beside its purpose.
use Rattle.std.specs.Prelude.{◌≡◌, ◌≤◌, ◌+◌}
use Rattle.platform.specs.History.{CellStays}
use Rattle.platform.specs.declared.platforms.Platform.{Ghosts}

-- a call that only looks: at its end the image is as before, and at each moment the cell; no page is added, and nothing is synced or changed
pub record Looks {S : Type 0} (P : Ghosts S) (old new : S) : Type 0 where
  pub image : P.tells → (P.history new).present ≡ (P.history old).present
  pub time : P.tells → CellStays (P.history old) (P.history new)
  pub head : P.head new ≡ P.head old
  pub capacity : P.capacity new ≡ P.capacity old
  pub changes : P.tells → P.changes new ≡ P.changes old
  pub faults : P.faults old ≤ P.faults new

-- a call that may add one page
pub record Grows {S : Type 0} (P : Ghosts S) (old new : S) : Type 0 where
  pub rises : P.head old ≤ P.head new
  pub by_one : P.head new ≤ P.head old + 1
  pub capacity : P.capacity new ≡ P.capacity old
  pub faults : P.faults old ≤ P.faults new
