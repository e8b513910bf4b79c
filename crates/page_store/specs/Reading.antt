-- What a look does to a platform beside its purpose.
use Rattle.std.specs.Prelude.{◌≡◌, ◌≤◌, ◌+◌, ℕ}
use Rattle.sdbt_base.specs.Rises.{MayRiseByOne, MayRiseBy}
use Rattle.platform.specs.History.{Steps}
use Rattle.platform.specs.declared.platforms.Platform.{Ghosts}

-- only pages were read: the reads of pages rose as all reads did
abbrev pub ReadsOnlyPages : {S : Type 0} → Ghosts S → S → S → Type 0
ReadsOnlyPages P old new = P.page_reads new + P.reads old ≡ P.page_reads old + P.reads new

-- a call that reads one page at most: the image stays, no page is added, and nothing is synced
pub record ReadsPage {S : Type 0} (P : Ghosts S) (old new : S) : Type 0 where
  pub image : P.tells → (P.history new).present ≡ (P.history old).present
  pub time : P.tells → Steps (P.history old) (P.history new)
  pub head : P.head new ≡ P.head old
  pub capacity : P.capacity new ≡ P.capacity old
  pub reads_rise : P.tells → P.reads old ≤ P.reads new
  pub reads_by_one : P.tells → P.reads new ≤ P.reads old + 1
  pub changes : P.tells → P.changes new ≡ P.changes old
  pub pages : P.tells → ReadsOnlyPages P old new
  pub faults : P.faults old ≤ P.faults new

-- neither a page was read nor the cell looked at
abbrev pub ReadsNothing : {S : Type 0} → Ghosts S → S → S → Type 0
ReadsNothing P old new = (P.reads new ≡ P.reads old) × (P.page_reads new ≡ P.page_reads old)

-- the cell was looked at once at most, and no page read
abbrev pub MayLook : {S : Type 0} → Ghosts S → S → S → Type 0
MayLook P old new = MayRiseByOne (P.reads old) (P.reads new) × (P.page_reads new ≡ P.page_reads old)

-- the same, and syncs and changes of the cell were so many at most
abbrev pub MayLookAndChange : {S : Type 0} → Ghosts S → ℕ → S → S → Type 0
MayLookAndChange P most old new = MayRiseByOne (P.reads old) (P.reads new) × (P.page_reads new ≡ P.page_reads old) × MayRiseBy most (P.changes old) (P.changes new)

-- a call that looks at the cell alone, and once at most: the image stays, no page is read or added, and nothing is synced
pub record ReadsCell {S : Type 0} (P : Ghosts S) (old new : S) : Type 0 where
  pub image : P.tells → (P.history new).present ≡ (P.history old).present
  pub time : P.tells → Steps (P.history old) (P.history new)
  pub head : P.head new ≡ P.head old
  pub capacity : P.capacity new ≡ P.capacity old
  pub reads : P.tells → MayRiseByOne (P.reads old) (P.reads new)
  pub page_reads : P.tells → P.page_reads new ≡ P.page_reads old
  pub changes : P.tells → P.changes new ≡ P.changes old
  pub faults : P.faults old ≤ P.faults new
