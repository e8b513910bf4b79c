-- What the replacement of a root record does beside its purpose.
use Rattle.std.specs.Prelude.{◌≡◌, ◌≤◌}
use Rattle.sdbt_base.specs.Rises.{MayRiseByOne}
use Rattle.platform.specs.declared.platforms.Platform.{Ghosts}

-- no page is added and none is read, and the cell changes once at most
pub record Swaps {S : Type 0} (P : Ghosts S) (old new : S) : Type 0 where
  pub head : P.head new ≡ P.head old
  pub capacity : P.capacity new ≡ P.capacity old
  pub reads : P.tells → P.reads new ≡ P.reads old
  pub changes : P.tells → MayRiseByOne (P.changes old) (P.changes new)
  pub faults : P.faults old ≤ P.faults new
