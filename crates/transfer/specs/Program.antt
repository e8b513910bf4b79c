-- What is promised of a run.
use Rattle.std.specs.Prelude.{◌≡◌, ◌++◌, ◌≢◌, ◌+◌, ◌-◌, ◌*◌, ◌≤◌, length, ◌⊎◌, ◌↔◌, ℕ, All, Contains, List, [], ◌∷◌, Option, None, Some, Result, IfErr, IfOk}
use Rattle.std.specs.FinMap as map
use Rattle.sdbt_base.specs.Arrays.{Device}
use Rattle.sdbt_base.specs.Keys.{bare}
use Rattle.sdbt_base.specs.Told.{Got}
use Rattle.platform.specs.Image.{Image, MayLeave}
use Rattle.platform.specs.History.{During, History, Turns, image_at, moment}
use Rattle.root_codec.specs.declared.root.Root.{Root}
use Rattle.key_graph.specs.Chains.{OneOpener, Reached}
use Rattle.page_store.specs.Kept.{IsRootOf, Kept}
use Rattle.page_store.specs.Stands.{Stands}
use Rattle.device_terms.specs.Served.{IsServedImage}
use Rattle.device_course.specs.Course.{Promised}
use Rattle.device_course.specs.Marks.{Leaves}
use Rattle.device_course.specs.Programs.{KeepsLedger, Stays}
use Rattle.device_course.specs.Reaching.{DisclosesTree}
use Rattle.device_course.specs.States.{Outside}
use Rattle.transfer.specs.Copies.{HasCopy, IsCopy, IsFresh, IsOnWay, IsOther}
use Rattle.transfer.specs.Counts.{Counts, FromRose, LedgerRose, NoneFell, OutputRose, TapeRose, ToRose}
use Rattle.transfer.specs.Halts.{EndsAs, exit_of, last_line_of, moved_line}
use Rattle.transfer.specs.Moving.{IsShort, Refuses}
use Rattle.transfer.specs.Refusals.{AreUnlike, IsRefused}
use Rattle.transfer.specs.Running.{HasMapped, HasNumber, HasSome, Looked, LookedThere, MeetsWrong}
use Rattle.transfer.specs.Whole.{MovesWhole}
use Rattle.transfer.specs.declared.halts.Halt.{Halt}
use Rattle.transfer.specs.declared.halts.Halt.TheVariants as halts
use Rattle.transfer.specs.declared.halts.Moved.{Moved}

-- the statuses that there are
abbrev pub IsStatus : ℕ → Type 0
IsStatus status =
    (status ≡ 0) ⊎ (status ≡ 2) ⊎ (status ≡ 4) ⊎ (status ≡ 5) ⊎ (status ≡ 6) ⊎ (status ≡ 7) ⊎ (status ≡ 8) ⊎ (status ≡ 9) ⊎ (status ≡ 10) ⊎ (status ≡ 11) ⊎ (status ≡ 13)

-- a status that names a fault
abbrev pub NamesFault : ℕ → Type 0
NamesFault status = (status ≡ 4) ⊎ (status ≡ 5) ⊎ (status ≡ 6) ⊎ (status ≡ 7) ⊎ (status ≡ 13)

-- no count fell; and a status that names a fault comes only where the count of that object rose, and that of no other: at each other one all are as they were
pub record IsBlamedAt (status : ℕ) (before now : Counts) : Type 0 where
  pub none_fell : NoneFell before now
  pub output : status ≡ 4 → OutputRose before now
  pub from : status ≡ 5 → FromRose before now
  pub tape : status ≡ 6 → TapeRose before now
  pub ledger : status ≡ 7 → LedgerRose before now
  pub to : status ≡ 13 → ToRose before now
  pub quiet : (NamesFault status → ⊥) → now ≡ before

-- the exit status is one that there is, and 2 exactly where words are given
pub record Exits (words : List (List ℕ)) (status : ℕ) (before now : Counts) : Type 0 where
  pub is : IsStatus status
  pub refused : (status ≡ 2) ↔ (words ≢ [])
  pub blame : IsBlamedAt status before now

-- how a run went that was given no words: it moved a device, or halted; what it said of that, and its status. A record that is named doesn't fit its place, and on the second platform it is
-- one of a block only where a device with mapped blocks was there, whose blocks are compared. That there is no device to be moved, or that its root record can't be served, is said exactly
-- where that was so, but for faults of its platform. On any images it is refused only as the root records in the cells say, and what look-ups below them find; and where these are of other
-- numbers of blocks, or of other orders, nothing is moved. A device is moved, or its root record cleared, only where its tree is whole, and all of it was copied. So many pages were free on
-- the second platform
pub record Ran (from_tells to_tells : Type 0) (first : Image) (first_to : History) (from : Image) (to : History) (free status : ℕ) (written written_now : Option (List ℕ)) : Type 0 where
  pub moved : Result Moved Halt
  pub ending : Result (Unit {0}) Halt
  pub said : EndsAs moved ending written written_now
  pub status_is : status ≡ exit_of ending
  pub wrong : IfErr moved (MeetsWrong from_tells to_tells (HasSome first_to.present) ⊥ from to.present)
  pub looked : Looked from_tells first moved
  pub there : LookedThere to_tells first_to.present moved
  pub mapped : IfOk moved (λ one. from_tells → HasMapped first one.blocks)
  pub number : IfOk moved (λ one. to_tells → HasNumber to.present one.number)
  pub whole : MovesWhole from_tells to_tells first from first_to to moved
  pub refused : IfErr moved (λ halt. from_tells → to_tells → IsRefused first first_to.present free halt)
  pub unlike : from_tells → to_tells → AreUnlike first first_to.present → Refuses moved

-- the device that is moved: it is left, or its root record was cleared, and at status 0 that was done. What is promised of each run over a device is promised of this one
pub record LeavesDevice (old new : Outside) (status : ℕ) (there : Device) : Type 0 where
  pub marks : List (Option Device)
  pub promised : Promised old new (Some there) marks
  pub cleared : (marks ≡ []) ⊎ (marks ≡ None ∷ [])
  pub done : status ≡ 0 → marks ≡ None ∷ []

-- the platform that a device is moved from, whatever the other one does, and on any image: no page is added, the cell is as it was until a moment from which on it is empty, and one that
-- can be served is one at each moment
pub record FromAlone (tells : Type 0) (old new : Outside) (status : ℕ) : Type 0 where
  pub stays : Stays tells old new
  pub pages : new.head ≡ old.head
  pub turns : tells → Turns old.history new.history (λ image. image.cell ≡ old.history.present.cell) (λ image. image.cell ≡ None)
  pub leaves : tells → (there : Device) → Stands old.history.present (Some there) → IsServedImage old.history.present → LeavesDevice old new status there

-- the platform that a device is moved to, whatever the other one does, and on any image: each page that was handed over is sealed under a key that was drawn, the ledger got the
-- certificate of each root record that came into the cell, pages are only added, and a cell that can be served is one at each moment. Over an image that stands for a device, or for none,
-- what is promised of each run over a device is promised of this one
pub record ToAlone (tells : Type 0) (old new : Outside) (status : ℕ) : Type 0 where
  pub discloses : DisclosesTree tells old.drawn new.drawn old.history new.history
  pub ledger : KeepsLedger tells old.written new.written old.history new.history (status ≡ 0)
  pub stays : Stays tells old new
  pub came : tells → (there : Option Device) → Stands old.history.present there → IsServedImage old.history.present → (marks : List (Option Device)) × Promised old new there marks

-- at a moment of this time a loss of power leaves an image with an empty cell
abbrev pub LeavesEmpty : History → History → Type 0
LeavesEmpty old new = (i : ℕ) × (moment old ≤ i) × (i ≤ moment new) × (left : Image) × MayLeave (image_at new i) left × (left.cell ≡ None)

-- no key of the ones is one of the others
abbrev pub AreApart : List (List ℕ) → List (List ℕ) → Type 0
AreApart one other = (key : List ℕ) → Contains one key → Contains other key → ⊥

-- over these pages chains from the key, without its digest, of a root record that is in the cell at a moment of this time
-- end nowhere
abbrev pub ReachesNothing : History → History → List (List ℕ) → Type 0
ReachesNothing old new pages = During old new (λ image. (root : Root) → IsRootOf image root → (addr : ℕ) → Reached (bare root.key ∷ []) pages addr → ⊥)

-- a move from a platform that stands for a device to one that stands for a device, or for none. The first one is left, or its root record was cleared. Of the second, others were made in
-- their order, each never written or a copy; and where at any moment a loss of power leaves an empty cell on the first platform, whatever one leaves on the second at the end is a copy
pub record MovesDevice (from from_now to to_now : Outside) (written written_now : Option (List ℕ)) (status : ℕ) (device : Device) (there : Option Device) : Type 0 where
  pub marks : List (Option Device)
  pub left : Promised from from_now (Some device) marks
  pub cleared : (marks ≡ []) ⊎ (marks ≡ None ∷ [])
  pub made : List (Option Device)
  pub came : Promised to to_now there made
  pub each : All (IsOnWay device) made
  pub safe : LeavesEmpty from.history from_now.history → (copy : Device) × IsCopy device copy × Leaves (Some copy) to_now.history.present
  -- at status 0 the first platform was cleared, the second one has a copy, and what was said is how many blocks were mapped, and the copy's number
  pub done : status ≡ 0 → (marks ≡ None ∷ []) × (copy : Device) × IsCopy device copy × Leaves (Some copy) to_now.history.present × (moved : Moved) × HasMapped from.history.present moved.blocks × (moved.number ≡ copy.number) × Got written (moved_line moved) written_now
  -- no record and no root record is named
  pub sound : (status ≢ 8) × (status ≢ 9)
  -- another device there is refused, and no other refusal comes to it; only a fault does, or that no memory is given. Else a refusal is that too few pages are free
  pub refused : status ≡ 10 → (IsOther device there × Got written (last_line_of halts.NotEmpty) written_now) ⊎ ((IsOther device there → ⊥) × IsShort device 1 (to.capacity - to.head) × (HasCopy device there → ⊥) × Got written (last_line_of halts.Full) written_now)
  pub other : IsOther device there → (status ≡ 10) ⊎ NamesFault status ⊎ (status ≡ 11)
  -- it completes, but for a fault, or where no memory is given, where there is a copy already; and where 42 pages for each mapped block, and one more, are free, and there is no other device
  pub completes : HasCopy device there ⊎ (IsFresh device there × (42 * length (map.keys device.contents) + 1 ≤ to.capacity - to.head)) → (status ≡ 0) ⊎ NamesFault status ⊎ (status ≡ 11)
  -- of keys that each medium keeps, and those that were drawn: where the ones are apart from the others, and one of them at most opens each page of the first platform, no root key of the second one reaches anything there
  pub apart : (one two : List (List ℕ)) → Kept one from.history.present → Kept two to.history.present → AreApart one (two ++ came.grew) → OneOpener (one ++ (two ++ came.grew)) from_now.history.present.recorded
      → ReachesNothing to.history to_now.history from_now.history.present.recorded
