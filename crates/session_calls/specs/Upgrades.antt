-- What an upgrade of the device says, by its answer.
use Rattle.std.specs.Prelude.{◌≡◌, ◌+◌, ◌-◌, ◌<◌, ◌≤◌, ◌*◌, ◌⊎◌, ℕ, List, length, Option, None, Some, Result, Ok, Err, IfOk, IsOk}
use Rattle.sdbt_base.specs.Arrays.{Device, State, closed, upgraded}
use Rattle.sdbt_base.specs.Counts.{counts}
use Rattle.sdbt_base.specs.declared.sinks.Sink.{Ghosts as SinkGhosts}
use Rattle.sdbt_base.specs.declared.tapes.Tape.{Ghosts as TapeGhosts}
use Rattle.platform.specs.declared.platforms.Platform.{Ghosts as PlatformGhosts}
use Rattle.sdbt_base.specs.Rises.{MayRiseBy}
use Rattle.platform.specs.Image.{LeavesOnly}
use Rattle.platform.specs.History.{During, Turns}
use Rattle.root_codec.specs.declared.root.Root.{Root}
use Rattle.root_codec.specs.RootRecord.{root_bytes}
use Rattle.page_store.specs.Roots.{IsBadCell}
use Rattle.btree_walk.specs.Nodes.{Node, NodesOf}
use Rattle.device_core.specs.Publishing.{IsUnmade}
use Rattle.device_core.specs.Upgrading.{Begins, IsOn, IsPartly, IsUpgradedRoot, PutsUpgrade, ReadsFew, SpendsUpgrade, StandsFrom, needed_of_device, needed_of_root}
use Rattle.device_core.specs.declared.refusals.UpgradeRefusal.{UpgradeRefusal}
use Rattle.device_core.specs.declared.refusals.UpgradeRefusal.TheVariants as upgrade
use Rattle.device_course.specs.Keys.{KeepsOn}
use Rattle.device_course.specs.Marks.{Leaves}
use Rattle.device_course.specs.States.{IsAt, IsListed}
use Rattle.session_calls.specs.Commits.{most_stopped}
use Rattle.session_calls.specs.Blame.{IsBlamed}
use Rattle.session_calls.specs.Damage.{IsDamagedAt}
use Rattle.session_calls.specs.declared.stops.DeviceStop.{DeviceStop}
use Rattle.session_calls.specs.declared.stops.DeviceStop.TheVariants as stops
use Rattle.session_calls.specs.declared.upgrading.UpgradeReply.{UpgradeReply}
use Rattle.session_calls.specs.declared.upgrading.UpgradeReply.TheVariants as replies

-- which answer a refused upgrade comes to
abbrev pub answer_of_refusal : UpgradeRefusal → Result UpgradeReply DeviceStop
answer_of_refusal upgrade.NoDevice = Ok replies.NoDevice
answer_of_refusal upgrade.BadRoot = Err stops.BadRoot
answer_of_refusal upgrade.AlreadyUpgraded = Ok replies.AlreadyUpgraded
answer_of_refusal (upgrade.Full needed free) = Ok replies.Full
answer_of_refusal (upgrade.BadRecord addr) = Err (stops.BadRecord addr)
answer_of_refusal upgrade.Memory = Err stops.Memory
answer_of_refusal upgrade.TapeFault = Err stops.Tape
answer_of_refusal upgrade.PlatformFault = Err stops.Platform
answer_of_refusal upgrade.LedgerFault = Err stops.Ledger

-- no page is added, or an upgrade begins on the root record in the cell, and at most as many are as it needs
abbrev pub AddsNeeded : {S : Type 0} → PlatformGhosts S → S → S → Type 0
AddsNeeded P platform platform_now =
    (P.head platform_now ≡ P.head platform)
    ⊎ ((root : Root) × Begins P.tells (P.history platform).present (P.head platform) (P.capacity platform) root × (P.head platform_now ≤ P.head platform + needed_of_root root))

-- the ledger gets something only where the device is upgraded, or the platform or the ledger failed
abbrev pub PutsFor : Option (List ℕ) → Option (List ℕ) → Result UpgradeReply DeviceStop → Type 0
PutsFor written written_now (Ok (replies.Upgraded number)) = Unit {0}
PutsFor written written_now (Ok replies.NoDevice) = written_now ≡ written
PutsFor written written_now (Ok replies.AlreadyUpgraded) = written_now ≡ written
PutsFor written written_now (Ok replies.Full) = written_now ≡ written
PutsFor written written_now (Err stops.Platform) = Unit {0}
PutsFor written written_now (Err stops.Ledger) = Unit {0}
PutsFor written written_now (Err stops.Tape) = written_now ≡ written
PutsFor written written_now (Err stops.Memory) = written_now ≡ written
PutsFor written written_now (Err stops.BadRoot) = written_now ≡ written
PutsFor written written_now (Err (stops.BadRecord addr)) = written_now ≡ written

-- the device was upgraded
abbrev pub IsUpgraded : Result UpgradeReply DeviceStop → Type 0
IsUpgraded (Ok (replies.Upgraded number)) = Unit {0}
IsUpgraded (Ok replies.NoDevice) = ⊥
IsUpgraded (Ok replies.AlreadyUpgraded) = ⊥
IsUpgraded (Ok replies.Full) = ⊥
IsUpgraded (Err stop) = ⊥

-- so often it syncs and replaces the root record, at most: not at all where it is refused before
abbrev pub most_upgraded : Result UpgradeReply DeviceStop → ℕ
most_upgraded (Ok (replies.Upgraded number)) = 2
most_upgraded (Ok replies.NoDevice) = 0
most_upgraded (Ok replies.AlreadyUpgraded) = 0
most_upgraded (Ok replies.Full) = 0
most_upgraded (Err stop) = most_stopped stop

-- what an upgrade does to a run without a session, whatever its answer: it adds at most the pages that it needs; keys are kept, and the ledger gets what belongs to the root record that comes into the
-- cell, and a part of an entry only where it stops; a stop at a fault came where the count of that object rose; and the pages that it needs are added, and all pages synced, before the ledger gets anything; it syncs once and replaces the root record once, at most, and neither where it is refused before; and it
-- reads, looks and draws no more than one upgrade of the device does
pub record UpgradeGoes {S R W : Type 0} (P : PlatformGhosts S) (T : TapeGhosts R) (L : SinkGhosts W) (platform platform_now : S) (tape tape_now : R) (ledger ledger_now : W) (result : Result UpgradeReply DeviceStop) : Type 0 where
  pub capacity : P.capacity platform_now ≡ P.capacity platform
  pub rises : P.head platform ≤ P.head platform_now
  pub adds : AddsNeeded P platform platform_now
  pub keeps : KeepsOn P.tells (T.drawn tape) (T.drawn tape_now) (L.written ledger) (L.written ledger_now) None (P.history platform) (P.history platform_now) (IsOk result)
      (λ keys. IfOk result (λ reply. IsListed None (P.history platform_now).present keys))
  pub blame : IsBlamed (counts (P.faults platform) (T.faults tape) 0 0 (L.faults ledger)) (counts (P.faults platform_now) (T.faults tape_now) 0 0 (L.faults ledger_now)) result
  pub synced : PutsUpgrade P platform platform_now ledger ledger_now
  pub changes : P.tells → MayRiseBy (most_upgraded result) (P.changes platform) (P.changes platform_now)
  pub spends : SpendsUpgrade P T platform platform_now tape tape_now (IsUpgraded result)
  pub puts : PutsFor (L.written ledger) (L.written ledger_now) result

-- an upgrade reads so much: before its first key a look at the cell, once at most, and each node twice at most; and behind it each data record once, too
abbrev pub ReadsUpgrade : {S : Type 0} → PlatformGhosts S → S → S → Type 0
ReadsUpgrade P platform platform_now =
    ReadsFew P platform platform_now
    ⊎ ((root : Root) × Begins P.tells (P.history platform).present (P.head platform) (P.capacity platform) root
    × (nodes : List Node) × NodesOf (P.history platform).present.readable root nodes × (P.reads platform_now ≤ P.reads platform + (1 + 2 * length nodes + root.mapped)))

-- an upgrade of the root record that was in the cell, with the next number: the pages that it needs are added, and the one that came into the cell is of version 2 and speaks of all of them
pub record HasUpgraded {S : Type 0} (P : PlatformGhosts S) (platform platform_now : S) (number : ℕ) : Type 0 where
  pub root : Root
  pub begins : Begins P.tells (P.history platform).present (P.head platform) (P.capacity platform) root
  pub is_number : number ≡ root.commit + 1
  pub adds : P.head platform_now ≡ P.head platform + needed_of_root root
  pub next : P.tells → (next : Root) × IsUpgradedRoot root (P.head platform_now) next × ((P.history platform_now).present.cell ≡ Some (root_bytes next))

-- which reply an upgrade has, on any image: with each but the first nothing is drawn or added, and the cell is as it was at each moment
abbrev pub AnswersReply : {S R : Type 0} → PlatformGhosts S → TapeGhosts R → S → S → R → R → UpgradeReply → Type 0
AnswersReply P T platform platform_now tape tape_now (replies.Upgraded number) = HasUpgraded P platform platform_now number
AnswersReply P T platform platform_now tape tape_now replies.NoDevice =
    (P.tells → (P.history platform).present.cell ≡ None) × IsUnmade P T platform platform_now tape tape_now
AnswersReply P T platform platform_now tape tape_now replies.AlreadyUpgraded =
    ((root : Root) × IsOn P.tells (P.history platform).present (P.head platform) root × (root.version ≡ 2)) × IsUnmade P T platform platform_now tape tape_now
AnswersReply P T platform platform_now tape tape_now replies.Full =
    ((root : Root) × IsOn P.tells (P.history platform).present (P.head platform) root × (root.version ≡ 1) × (P.capacity platform - P.head platform < needed_of_root root))
    × IsUnmade P T platform platform_now tape tape_now

-- the same of a stop. The page that is named is the one at which an upgrade stops, over the image from before, and over the one behind the pages that were added
abbrev pub StopsUpgrade : {S R : Type 0} → PlatformGhosts S → TapeGhosts R → S → S → R → R → DeviceStop → Type 0
StopsUpgrade P T platform platform_now tape tape_now stops.BadRoot =
    (P.tells → IsBadCell (P.head platform) (P.history platform).present.cell) × IsUnmade P T platform platform_now tape tape_now
StopsUpgrade P T platform platform_now tape tape_now (stops.BadRecord addr) =
    ((root : Root) × IsPartly P 0 platform platform_now root)
    × (P.tells → IsDamagedAt (P.history platform).present addr × IsDamagedAt (P.history platform_now).present addr)
StopsUpgrade P T platform platform_now tape tape_now stops.Memory =
    ((root : Root) × Begins P.tells (P.history platform).present (P.head platform) (P.capacity platform) root) × IsUnmade P T platform platform_now tape tape_now
StopsUpgrade P T platform platform_now tape tape_now stops.Tape = (root : Root) × IsPartly P 0 platform platform_now root
StopsUpgrade P T platform platform_now tape tape_now stops.Ledger = (root : Root) × IsPartly P 1 platform platform_now root
StopsUpgrade P T platform platform_now tape tape_now stops.Platform = Unit {0}

abbrev pub AnswersUpgrade : {S R : Type 0} → PlatformGhosts S → TapeGhosts R → S → S → R → R → Result UpgradeReply DeviceStop → Type 0
AnswersUpgrade P T platform platform_now tape tape_now (Ok reply) = AnswersReply P T platform platform_now tape tape_now reply
AnswersUpgrade P T platform platform_now tape tape_now (Err stop) = StopsUpgrade P T platform platform_now tape tape_now stop

-- from some moment on a loss of power leaves the upgraded device in the place of this one, by a tree that has only pages which came since
abbrev pub TurnsUpgraded : {S : Type 0} → PlatformGhosts S → S → S → Device → Type 0
TurnsUpgraded P platform platform_now device =
    Turns (P.history platform) (P.history platform_now) (Leaves (Some device)) (LeavesOnly (StandsFrom (P.head platform) (Some (upgraded device))))

-- the device that there was, of version 1, is upgraded, with the next number and the pages that this needs
pub record LeadsUpgraded {S : Type 0} (P : PlatformGhosts S) (platform platform_now : S) (entry : State) (number : ℕ) : Type 0 where
  pub device : Device
  pub was : entry ≡ closed (Some device)
  pub version : device.version ≡ 1
  pub is_number : number ≡ (upgraded device).number
  pub at : IsAt (P.history platform_now).present None (closed (Some (upgraded device)))
  pub turns : TurnsUpgraded P platform platform_now device
  pub room : needed_of_device device ≤ P.capacity platform - P.head platform
  pub adds : P.head platform_now ≡ P.head platform + needed_of_device device

-- the state stays, at each moment
pub record LeadsNowhere {S : Type 0} (P : PlatformGhosts S) (platform platform_now : S) (entry : State) : Type 0 where
  pub at : IsAt (P.history platform_now).present None entry
  pub during : During (P.history platform) (P.history platform_now) (Leaves entry.device)

-- from a state without a session: the device is upgraded; or there is none, or one of version 2, or one for which too few pages are free, and the state stays
abbrev pub ReplyUpgrades : {S : Type 0} → PlatformGhosts S → S → S → State → UpgradeReply → Type 0
ReplyUpgrades P platform platform_now entry (replies.Upgraded number) = LeadsUpgraded P platform platform_now entry number
ReplyUpgrades P platform platform_now entry replies.NoDevice = (entry ≡ closed None) × LeadsNowhere P platform platform_now entry
ReplyUpgrades P platform platform_now entry replies.AlreadyUpgraded =
    ((device : Device) × (entry ≡ closed (Some device)) × (device.version ≡ 2)) × LeadsNowhere P platform platform_now entry
ReplyUpgrades P platform platform_now entry replies.Full =
    ((device : Device) × (entry ≡ closed (Some device)) × (device.version ≡ 1) × (P.capacity platform - P.head platform < needed_of_device device))
    × LeadsNowhere P platform platform_now entry

-- the device that there was, of version 1, for which as many pages are free as this needs, is perhaps upgraded from some moment on
pub record MayUpgrade {S : Type 0} (P : PlatformGhosts S) (platform platform_now : S) (entry : State) : Type 0 where
  pub device : Device
  pub was : entry ≡ closed (Some device)
  pub version : device.version ≡ 1
  pub room : needed_of_device device ≤ P.capacity platform - P.head platform
  pub turns : TurnsUpgraded P platform platform_now device

-- a stop leaves the state, or, where the platform failed, perhaps the upgraded device, and that only where nothing else would be answered. A record that doesn't fit is met over none
abbrev pub UpgradeLeads : {S : Type 0} → PlatformGhosts S → S → S → State → Result UpgradeReply DeviceStop → Type 0
UpgradeLeads P platform platform_now entry (Ok reply) = ReplyUpgrades P platform platform_now entry reply
UpgradeLeads P platform platform_now entry (Err stops.Platform) =
    During (P.history platform) (P.history platform_now) (Leaves entry.device) ⊎ MayUpgrade P platform platform_now entry
UpgradeLeads P platform platform_now entry (Err stops.Tape) = LeadsNowhere P platform platform_now entry
UpgradeLeads P platform platform_now entry (Err stops.Ledger) = LeadsNowhere P platform platform_now entry
UpgradeLeads P platform platform_now entry (Err stops.Memory) = LeadsNowhere P platform platform_now entry
UpgradeLeads P platform platform_now entry (Err stops.BadRoot) = ⊥
UpgradeLeads P platform platform_now entry (Err (stops.BadRecord addr)) = ⊥
