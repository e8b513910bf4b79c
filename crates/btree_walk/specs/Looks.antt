-- What a call that only looks does to a platform.
use Rattle.std.specs.Prelude.{◌≡◌, ◌≤◌, ◌+◌, ℕ}
use Rattle.platform.specs.History.{Steps}
use Rattle.platform.specs.declared.platforms.Platform.{Ghosts}
use Rattle.page_store.specs.Reading.{ReadsOnlyPages}

-- the image stays; so many reads were made, at most, and of pages alone
pub record Looks {S : Type 0} (P : Ghosts S) (most : ℕ) (old new : S) : Type 0 where
  pub image : P.tells → (P.history new).present ≡ (P.history old).present
  pub time : P.tells → Steps (P.history old) (P.history new)
  pub head : P.head new ≡ P.head old
  pub capacity : P.capacity new ≡ P.capacity old
  pub reads_rise : P.tells → P.reads old ≤ P.reads new
  pub reads_most : P.tells → P.reads new ≤ P.reads old + most
  pub changes : P.tells → P.changes new ≡ P.changes old
  pub pages : P.tells → ReadsOnlyPages P old new
  pub faults : P.faults old ≤ P.faults new

-- the image stays, and nothing is handed over; only pages are read
pub record OnlyLooks {S : Type 0} (P : Ghosts S) (old new : S) : Type 0 where
  pub image : P.tells → (P.history new).present ≡ (P.history old).present
  pub time : P.tells → Steps (P.history old) (P.history new)
  pub head : P.head new ≡ P.head old
  pub capacity : P.capacity new ≡ P.capacity old
  pub reads_rise : P.tells → P.reads old ≤ P.reads new
  pub changes : P.tells → P.changes new ≡ P.changes old
  pub pages : P.tells → ReadsOnlyPages P old new
  pub faults : P.faults old ≤ P.faults new
