-- What the word `seize` tells and leaves.
use Rattle.std.specs.Prelude.{◌≡◌, ◌⊎◌, ◌==◌, ◌+◌, ◌≤◌, if◌then◌else◌, ℕ, List, [], ◌∷◌, ◌++◌, Option, Ok, Err, codes, flat_map}
use Rattle.std.specs.Fmt.{decimal}
use Rattle.sdbt_base.specs.Told.{Got, GotPart}
use Rattle.sdbt_base.specs.Rises.{MayRiseByOne}
use Rattle.platform.specs.Image.{Image}
use Rattle.platform.specs.History.{During}
use Rattle.page_store.specs.Roots.{IsBadCell}
use Rattle.seizure.specs.declared.opened.Opened.{Opened}
use Rattle.seizure.specs.Opened.{count_of_kind, count_of_nodes, is_node_kind}
use Rattle.seizure.specs.Reads.{ReadsFew}
use Rattle.seizure.specs.Report.{Seized, IsSeizure, Begins, BeginsSome}
use Rattle.device_cli.specs.Given.{AreGiven, HasBadRecord}
use Rattle.line_run.specs.Stops.{Ending, exit_of}
use Rattle.line_run.specs.Puts.{damage_line}
use Rattle.device_cli.specs.Handed.{Handed}
use Rattle.sdbt_base.specs.Counts.{NoneRose}
use Rattle.sdbt_base.specs.Faults.{Rose}
use Rattle.session_calls.specs.declared.stops.DeviceStop.TheVariants as device
use Rattle.line_run.specs.declared.stop.Stop.TheVariants as stops

-- what a line says of a body: a data record has its block, a node nothing more, and any other its kind
abbrev pub what : Opened → List ℕ
what opened =
    if opened.kind == 1 then codes " block " ++ decimal opened.block
    else if is_node_kind opened.kind then codes " node"
    else codes " kind " ++ decimal opened.kind

-- the line of a body that was opened
unfoldable pub opened_line : Opened → List ℕ
opened_line opened = codes "open " ++ (decimal opened.addr ++ (what opened ++ 10 ∷ []))

-- the line with the numbers: how many pages there are, and how many nodes and data records were opened
unfoldable pub counts_line : Seized → List ℕ
counts_line seized =
    codes "seized pages " ++ (decimal seized.pages ++ (codes " nodes " ++ (decimal (count_of_nodes seized.opened)
    ++ (codes " blocks " ++ (decimal (count_of_kind 1 seized.opened) ++ 10 ∷ [])))))

-- a report's text: a line for each body, and then the numbers
abbrev pub report_text : Seized → List ℕ
report_text seized = flat_map opened_line seized.opened ++ counts_line seized

-- the report has what chains from the key of the root record in the cell, and from these keys, open of the image's pages, of which there are so many
abbrev pub IsReport : ℕ → Image → List (List ℕ) → Seized → Type 0
IsReport head image keys seized =
    (roots : List (List ℕ)) × Begins head image.cell keys roots × IsSeizure roots image.readable seized

-- the same with the keys of the root records that these words are
abbrev pub IsReportOf : Type 0 → ℕ → Image → List (List ℕ) → Seized → Type 0
IsReportOf tells head image records seized =
    (keys : List (List ℕ)) × AreGiven head records keys × (tells → IsReport head image keys seized)

-- the cell can't be seized, or one of these words is no root record of a root within the pages that there are
abbrev pub IsRefused : ℕ → Image → List (List ℕ) → Type 0
IsRefused head image records = IsBadCell head image.cell ⊎ HasBadRecord head records

-- chains begin with some key: the cell and these words are not refused, and a root record stands in the cell or in a word
abbrev pub HasKeys : ℕ → Image → List (List ℕ) → Type 0
HasKeys head image records = (keys : List (List ℕ)) × AreGiven head records keys × BeginsSome head image.cell keys

-- one read was made at most; or the seizure isn't refused, and behind one look at the cell it was looked at once more, and each page read once at most, and
-- once more for each key by which a chain ends at it, from the key of the root record in the cell and those of the root records that these words are
abbrev pub ReadsFewFor : ℕ → Image → List (List ℕ) → ℕ → ℕ → Type 0
ReadsFewFor head image records reads reads_now =
    MayRiseByOne reads reads_now ⊎ ((IsRefused head image records → ⊥) × (keys : List (List ℕ)) × AreGiven head records keys
    × ReadsFew head image.cell keys image.readable (reads + 1) reads_now)

-- the text of the report was put; or the seizure is refused, and the line that says so was put; or, where the output failed, a first part of
-- the one or the other; or nothing was, and without memory only where there is a key to begin with
abbrev pub Seizes : Type 0 → ℕ → Image → List (List ℕ) → Option (List ℕ) → Option (List ℕ) → Ending → Type 0
Seizes tells head image records written written_now (Ok done) =
    (seized : Seized) × IsReportOf tells head image records seized × Got written (report_text seized) written_now
Seizes tells head image records written written_now (Err (stops.Device device.BadRoot)) =
    (tells → IsRefused head image records) × Got written (damage_line device.BadRoot) written_now
Seizes tells head image records written written_now (Err stops.Sink) =
    ((seized : Seized) × IsReportOf tells head image records seized × GotPart written (report_text seized) written_now)
    ⊎ ((tells → IsRefused head image records) × GotPart written (damage_line device.BadRoot) written_now)
Seizes tells head image records written written_now (Err (stops.Device device.Platform)) = written_now ≡ written
Seizes tells head image records written written_now (Err (stops.Device device.Memory)) =
    (tells → HasKeys head image records) × (written_now ≡ written)
Seizes tells head image records written written_now (Err _) = ⊥

-- a seizure with the root records that these words are: no key is drawn, nothing taken, no entry put, no page added, few are read, and the image is as
-- it was at each moment; it ends so, with this status: 8 exactly where the cell is full, and not with the root record of a root within the pages, or a
-- word is none, unless that could not be told or not be said; and else 0, unless something failed or no memory was given
pub record Seizing {S R I O L : Type 0} (tells : Type 0) (records : List (List ℕ)) (status : ℕ) (old new : Handed S R I O L) : Type 0 where
  pub undrawn : new.tape ≡ old.tape
  pub untaken : new.input ≡ old.input
  pub unput : new.ledger ≡ old.ledger
  pub pages : new.world.head ≡ old.world.head
  pub image : tells → During old.world.history new.world.history (λ image. image ≡ old.world.history.present)
  pub ending : Ending
  pub status_is : status ≡ exit_of ending
  pub seizes : Seizes tells old.world.head old.world.history.present records old.written new.written ending
  pub bad_root : tells → IsRefused old.world.head old.world.history.present records → (status ≡ 8) ⊎ (status ≡ 4) ⊎ (status ≡ 5)
  -- the cell is looked at, whatever the words are, unless the platform failed
  pub looked : tells → (Rose old.counts.platform new.counts.platform → ⊥) → old.world.reads + 1 ≤ new.world.reads
  pub reads : tells → ReadsFewFor old.world.head old.world.history.present records old.world.reads new.world.reads
  -- no page is read where the cell or a word is refused
  pub unread : tells → IsRefused old.world.head old.world.history.present records → new.page_reads ≡ old.page_reads
  pub complete : tells → (IsRefused old.world.head old.world.history.present records → ⊥) → NoneRose old.counts new.counts → (status ≡ 0) ⊎ (status ≡ 11)
