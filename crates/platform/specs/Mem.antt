-- A platform in memory, as contracts see it.
use Rattle.std.specs.Prelude.{◌≡◌, ◌⊎◌, ◌<◌, ◌≤◌, ◌+◌, ◌-◌, ◌^◌, ◌↔◌, ℕ, Bool, true, false, List, Option, Some, IsSome, Result, IsErr, OnOk, OnErr, slice_index}
use Rattle.sdbt_base.specs.Faults.{Rose, Tells, next_count}
use Rattle.platform.specs.declared.failures.CallKind.{CallKind}
use Rattle.platform.specs.declared.failures.CallKind.TheVariants.{Read}
use Rattle.platform.specs.declared.failures.Failure.{Failure}
use Rattle.platform.specs.declared.mem_platform.MemPlatform.{MemPlatform}
use Rattle.platform.specs.Failures.{place_of, listed, counted}
use Rattle.platform.specs.Image.{Image}
use Rattle.platform.specs.History.{History, Steps}
use Rattle.platform.specs.Kept.{store_history}

-- the images of all its moments so far
abbrev pub mem_history : MemPlatform → History
mem_history platform = store_history platform.store

-- what medium and cell hold now
abbrev pub image_of_now : MemPlatform → Image
image_of_now platform = (mem_history platform).present

-- the failures that it was told to have
abbrev pub failures_of : MemPlatform → List Failure
failures_of platform = platform.plan.failures.items

-- how many calls of each kind were made since then
abbrev pub calls_of : MemPlatform → List ℕ
calls_of platform = platform.plan.made

-- how many growths were refused
abbrev pub starved_of : MemPlatform → ℕ
starved_of platform = platform.starved

-- how many reads of pages were answered
abbrev pub reads_of : MemPlatform → ℕ
reads_of platform = platform.reads

-- how many looks at the cell were answered
abbrev pub looks_of : MemPlatform → ℕ
looks_of platform = platform.looks

-- how many reads were answered, of pages and of the cell
abbrev pub answered_of : MemPlatform → ℕ
answered_of platform = reads_of platform + looks_of platform

-- how often the pages were synced, or the cell was replaced or cleared
abbrev pub changes_of : MemPlatform → ℕ
changes_of platform = platform.store.changes

-- how many calls failed
abbrev pub faults_of : MemPlatform → ℕ
faults_of platform = platform.faults

-- how many pages the medium can have
abbrev pub capacity_of : MemPlatform → ℕ
capacity_of platform = platform.capacity

-- what the list says of the next call of a kind
abbrev pub due : MemPlatform → CallKind → Option Bool
due platform call = listed (failures_of platform) call (next_count (slice_index (calls_of platform) (place_of call)))

-- memory was wanting in this call, or has been too often
abbrev pub Starved : MemPlatform → MemPlatform → Type 0
Starved old new = Rose (starved_of old) (starved_of new)

-- a call that fails where the list says so or memory was wanting, and nowhere else
abbrev pub FailsAsListed : {T E : Type 0} → CallKind → MemPlatform → MemPlatform → Result T E → Type 0
FailsAsListed call old new result = IsErr result ↔ (IsSome (due old call) ⊎ Starved old new)

-- one call more was counted, at most one growth more was refused, and the list stays
pub record Counts (call : CallKind) (old new : MemPlatform) : Type 0 where
  pub calls : calls_of new ≡ counted (calls_of old) call
  pub failures : failures_of new ≡ failures_of old
  pub starved : starved_of old ≤ starved_of new
  pub starved_by_one : starved_of new ≤ starved_of old + 1

-- a call that fails has its effect where the list says so, and memory was there
pub record HasEffect (call : CallKind) (old new : MemPlatform) (after : Image) : Type 0 where
  pub with_effect : due old call ≡ Some true → ¬ (Starved old new) → image_of_now new ≡ after
  pub without_effect : due old call ≡ Some false → image_of_now new ≡ image_of_now old
  pub starved : Starved old new → image_of_now new ≡ image_of_now old

-- all that is neither image nor list stays
pub record IsSameRest (old new : MemPlatform) : Type 0 where
  pub capacity : capacity_of new ≡ capacity_of old
  pub reads : reads_of new ≡ reads_of old
  pub looks : looks_of new ≡ looks_of old
  pub faults : faults_of new ≡ faults_of old
  pub starved : starved_of new ≡ starved_of old

-- a call that failed counts one fault, as long as the count has room for it, and another none
pub record TellsFaults {T E : Type 0} (old new : MemPlatform) (result : Result T E) : Type 0 where
  pub rises : faults_of old ≤ faults_of new
  pub cause : Tells result (faults_of old) (faults_of new)
  pub one : OnErr result (faults_of new ≡ next_count (faults_of old))

-- a call that reads neither a page nor the cell is one step of the history
pub record StepsBeside (old new : MemPlatform) : Type 0 where
  pub time : Steps (mem_history old) (mem_history new)
  pub capacity : capacity_of new ≡ capacity_of old
  pub reads : reads_of new ≡ reads_of old
  pub looks : looks_of new ≡ looks_of old

-- a read counts where it is answered, and where it is told to fail with its effect
pub record CountsRead {T E : Type 0} (old new : MemPlatform) (result : Result T E) : Type 0 where
  pub answered : OnOk result (reads_of new ≡ reads_of old + 1)
  pub rises : reads_of old ≤ reads_of new
  pub by_one : reads_of new ≤ reads_of old + 1
  pub with_effect : due old Read ≡ Some true → ¬ (Starved old new) → reads_of old < 2 ^ 64 - 1 → reads_of new ≡ reads_of old + 1
  pub without_effect : due old Read ≡ Some false → reads_of new ≡ reads_of old
  pub looks : looks_of new ≡ looks_of old
  pub changes : changes_of new ≡ changes_of old

-- a look at the cell counts where it is answered, and is one step of the history
pub record CountsLook {T E : Type 0} (old new : MemPlatform) (result : Result T E) : Type 0 where
  pub time : Steps (mem_history old) (mem_history new)
  pub capacity : capacity_of new ≡ capacity_of old
  pub reads : reads_of new ≡ reads_of old
  pub answered : OnOk result (looks_of new ≡ looks_of old + 1)
  pub failed : OnErr result (looks_of new ≡ looks_of old)
  pub changes : changes_of new ≡ changes_of old
