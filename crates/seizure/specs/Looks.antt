-- What a call that only looks does to a platform, and what ends it early.
use Rattle.std.specs.Prelude.{◌≡◌, ◌≤◌, ◌⊎◌, ℕ, Result, Ok, Err}
use Rattle.sdbt_base.specs.Faults.{Rose}
use Rattle.platform.specs.History.{Steps}
use Rattle.platform.specs.declared.platforms.Platform.{Ghosts}
use Rattle.seizure.specs.declared.refusals.SeizeRefusal.{SeizeRefusal}
use Rattle.seizure.specs.declared.refusals.SeizeRefusal.TheVariants.{Memory, PlatformFault}

-- the image stays, and nothing is synced
pub record Looks {S : Type 0} (P : Ghosts S) (old new : S) : Type 0 where
  pub image : P.tells → (P.history new).present ≡ (P.history old).present
  pub time : P.tells → Steps (P.history old) (P.history new)
  pub head : P.head new ≡ P.head old
  pub capacity : P.capacity new ≡ P.capacity old
  pub reads : P.tells → P.reads old ≤ P.reads new
  pub changes : P.tells → P.changes new ≡ P.changes old
  pub faults : P.faults old ≤ P.faults new

-- what an answer tells of the count of faults: it rose at a fault, and is as it was where the call was done, and at want of memory, the one other refusal
abbrev pub Stops : {T : Type 0} → ℕ → ℕ → Result T SeizeRefusal → Type 0
Stops before now (Ok done) = now ≡ before
Stops before now (Err refusal) = ((refusal ≡ Memory) × (now ≡ before)) ⊎ ((refusal ≡ PlatformFault) × Rose before now)
