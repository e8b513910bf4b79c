-- How often a move syncs all pages, or replaces or clears a root record, on either platform.
use Rattle.std.specs.Prelude.{◌≡◌, ◌==◌, ◌||◌, ℕ, if◌then◌else◌, None, Result, Ok, Err}
use Rattle.sdbt_base.specs.Rises.{MayRiseBy}
use Rattle.platform.specs.declared.platforms.Platform.{Ghosts as PlatformGhosts}
use Rattle.root_codec.specs.declared.root.Root.{Root}
use Rattle.page_store.specs.Kept.{IsRootOf}
use Rattle.session_calls.specs.declared.stops.DeviceStop.TheVariants as device
use Rattle.transfer.specs.Refusals.{AreUnlike}
use Rattle.transfer.specs.declared.halts.Halt.{Halt}
use Rattle.transfer.specs.declared.halts.Halt.TheVariants as halts

-- so often the first root record may be cleared: once where the device was moved, and be it that its line could not be put, or where its platform failed; and else not at all
abbrev pub clears_of : {X : Type 0} → Result X Halt → ℕ
clears_of (Ok done) = 1
clears_of (Err halts.Output) = 1
clears_of (Err (halts.From device.Platform)) = 1
clears_of (Err halt) = 0

-- the same by the exit status
abbrev pub clears_at : ℕ → ℕ
clears_at status = if status == 0 || (status == 4 || status == 5) then 1 else 0

-- on the first platform nothing is done but that its root record is cleared, so often at most. On the second one there are a sync and a new root record for a device that is made there, and as
-- many for the commit; so where there is a device already only those of the commit, and none where that was written, or is of another size or order
pub record ChangesFew {S R : Type 0} (P : PlatformGhosts S) (Q : PlatformGhosts R) (clears : ℕ) (first first_now : S) (second second_now : R) : Type 0 where
  pub from : P.tells → MayRiseBy clears (P.changes first) (P.changes first_now)
  pub new : Q.tells → MayRiseBy 4 (Q.changes second) (Q.changes second_now)
  pub found : Q.tells → ((Q.history second).present.cell ≡ None → ⊥) → MayRiseBy 2 (Q.changes second) (Q.changes second_now)
  pub written : Q.tells → (root : Root) → IsRootOf (Q.history second).present root → ((root.commit ≡ 0) × (root.mapped ≡ 0) → ⊥) → Q.changes second_now ≡ Q.changes second
  pub unlike : P.tells → Q.tells → AreUnlike (P.history first).present (Q.history second).present → Q.changes second_now ≡ Q.changes second
