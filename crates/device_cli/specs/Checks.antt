-- What the word `check` finds, says and leaves.
use Rattle.std.specs.Prelude.{◌≡◌, ◌≢◌, ◌⊎◌, ℕ, ◌<◌, ◌^◌, List, [], ◌∷◌, ◌++◌, Option, None, Some, Result, Ok, Err, length, codes}
use Rattle.std.specs.Fmt.{decimal}
use Rattle.sdbt_base.specs.Told.{Gave, Got, GotPart}
use Rattle.sdbt_base.specs.Rises.{MayRiseByOne}
use Rattle.platform.specs.Image.{Image}
use Rattle.platform.specs.History.{During}
use Rattle.root_codec.specs.declared.root.Root.{Root}
use Rattle.cert_maker.specs.Cert.{Cert}
use Rattle.cert_codec.specs.Ledger.{IsLedger}
use Rattle.cert_checker.specs.Chain.{Accepted, chain_of}
use Rattle.cert_checker.specs.First.{First}
use Rattle.cert_checker.specs.Sound.{IsVerdict}
use Rattle.ledger_check.specs.Judging.{FromInput, IsWanting, IsWhole}
use Rattle.device_terms.specs.Served.{IsServedImage}
use Rattle.line_run.specs.Puts.{damage_line}
use Rattle.device_cli.specs.Handed.{Handed}
use Rattle.session_calls.specs.Cells.{IsInCell}
use Rattle.line_run.specs.Stops.{status_of}
use Rattle.sdbt_base.specs.Counts.{NoneRose}
use Rattle.device_cli.specs.declared.checking.Finding.{Finding}
use Rattle.device_cli.specs.declared.checking.Finding.TheVariants as findings
use Rattle.session_calls.specs.declared.stops.DeviceStop.TheVariants as device
use Rattle.line_run.specs.declared.stop.Stop.{Stop}
use Rattle.line_run.specs.declared.stop.Stop.TheVariants as stops

-- the line that says what was found
unfoldable pub finding_line : Finding → List ℕ
finding_line findings.NoDevice = codes "refused no device" ++ 10 ∷ []
finding_line findings.BadRoot = damage_line device.BadRoot
finding_line (findings.Broken number value) = codes "refused rule " ++ (decimal number ++ (codes " value " ++ (decimal value ++ 10 ∷ [])))
finding_line (findings.Accepted commit live deleted) =
    codes "accepted commit " ++ (decimal commit ++ (codes " live " ++ (decimal live ++ (codes " deleted " ++ (decimal deleted ++ 10 ∷ [])))))

-- its exit status
abbrev pub status_of_finding : Finding → ℕ
status_of_finding findings.NoDevice = 10
status_of_finding findings.BadRoot = 8
status_of_finding (findings.Broken number value) = 10
status_of_finding (findings.Accepted commit live deleted) = 0

-- the ledger that was taken whole breaks this rule first; or it is accepted, with so many live addresses and so many deleted ones
abbrev pub IsJudgedAs : Root → List ℕ → Option (List ℕ) → Finding → Type 0
IsJudgedAs root taken left (findings.Broken number value) =
    (certs : List Cert) × IsWhole taken left certs × First (chain_of certs root.commit) root number value
IsJudgedAs root taken left (findings.Accepted commit live deleted) =
    (certs : List Cert) × IsWhole taken left certs × Accepted (chain_of certs root.commit) root
    × (addrs : List ℕ) × IsVerdict (chain_of certs root.commit) root commit addrs deleted × (length addrs ≡ live)
IsJudgedAs root taken left findings.NoDevice = ⊥
IsJudgedAs root taken left findings.BadRoot = ⊥

-- what was found is so: there is no device, or no root record that can be served, and nothing was taken; or the ledger was judged
-- for the root record in the cell
abbrev pub IsSo : Type 0 → Image → List ℕ → Option (List ℕ) → Finding → Type 0
IsSo tells image taken left findings.NoDevice = (taken ≡ []) × (tells → image.cell ≡ None)
IsSo tells image taken left findings.BadRoot = (taken ≡ []) × (tells → IsServedImage image → ⊥)
IsSo tells image taken left finding = (root : Root) × (tells → IsInCell image (Some root)) × IsJudgedAs root taken left finding

-- the judging of what was taken ended so
abbrev pub IsJudgedBy : Root → List ℕ → Option (List ℕ) → Result Finding Stop → Type 0
IsJudgedBy root taken left (Ok finding) = IsJudgedAs root taken left finding
IsJudgedBy root taken left (Err stops.Source) = length taken < 2 ^ 32
IsJudgedBy root taken left (Err stops.Limit) = length taken ≡ 2 ^ 32
IsJudgedBy root taken left (Err (stops.Device device.Memory)) = IsWanting taken
IsJudgedBy root taken left (Err _) = ⊥

abbrev pub IsJudged : Root → Option (List ℕ) → Option (List ℕ) → Result Finding Stop → Type 0
IsJudged root = FromInput (IsJudgedBy root)

-- the cell holds a root record, which can be served
pub record HoldsRoot (tells : Type 0) (image : Image) : Type 0 where
  pub root : Root
  pub in_cell : tells → IsInCell image (Some root)

-- what was found is so; or the looking stopped, and after the look at the cell only where that holds a root record: at a fault of the input, at its limit, or where memory was wanted for something
-- that was taken before the limit
abbrev pub IsLookedAt : Type 0 → Image → List ℕ → Option (List ℕ) → Result Finding Stop → Type 0
IsLookedAt tells image taken left (Ok finding) = IsSo tells image taken left finding
IsLookedAt tells image taken left (Err stops.Source) = (length taken < 2 ^ 32) × HoldsRoot tells image
IsLookedAt tells image taken left (Err stops.Limit) = (length taken ≡ 2 ^ 32) × HoldsRoot tells image
IsLookedAt tells image taken left (Err (stops.Device device.Memory)) = IsWanting taken × HoldsRoot tells image
IsLookedAt tells image taken left (Err (stops.Device device.Platform)) = taken ≡ []
IsLookedAt tells image taken left (Err _) = ⊥

abbrev pub Looked : Type 0 → Image → Option (List ℕ) → Option (List ℕ) → Result Finding Stop → Type 0
Looked tells image = FromInput (IsLookedAt tells image)

-- the line that says what was found was put; or, where the output failed, a first part of it; or nothing
abbrev pub IsSaid : Type 0 → Image → Option (List ℕ) → Option (List ℕ) → List ℕ → Option (List ℕ) → Result Finding Stop → Type 0
IsSaid tells image written written_now taken left (Ok finding) = IsSo tells image taken left finding × Got written (finding_line finding) written_now
IsSaid tells image written written_now taken left (Err stops.Sink) =
    (finding : Finding) × IsSo tells image taken left finding × GotPart written (finding_line finding) written_now
IsSaid tells image written written_now taken left (Err stop) = IsLookedAt tells image taken left (Err stop) × (written_now ≡ written)

abbrev pub Checks : Type 0 → Image → Option (List ℕ) → Option (List ℕ) → Option (List ℕ) → Option (List ℕ) → Result Finding Stop → Type 0
Checks tells image left left_now written written_now = FromInput (IsSaid tells image written written_now) left left_now

-- its exit status
abbrev pub status_at : Result Finding Stop → ℕ
status_at (Ok finding) = status_of_finding finding
status_at (Err stop) = status_of stop

-- the input is a text of less than 2^32 bytes, a ledger of these certificates, and the cell holds this root record
pub record IsJudgeable (image : Image) (left : Option (List ℕ)) (root : Root) (text : List ℕ) (certs : List Cert) : Type 0 where
  pub cell : IsInCell image (Some root)
  pub text_is : left ≡ Some text
  pub short : length text < 2 ^ 32
  pub ledger : IsLedger text certs

-- what was found is so, and the line that says it was put whole
abbrev pub Finds : Type 0 → Image → List ℕ → Option (List ℕ) → Option (List ℕ) → Option (List ℕ) → Finding → Type 0
Finds tells image taken left written written_now finding = IsSo tells image taken left finding × Got written (finding_line finding) written_now

-- nothing was found, with this status: the platform failed at the look at the cell, and nothing was taken; or the cell holds a root record, and the input failed, or was at its limit, or memory was
-- wanted for something that was taken before the limit
abbrev pub IsSilent : Type 0 → Image → List ℕ → ℕ → Type 0
IsSilent tells image taken status =
    ((status ≡ 5) × (taken ≡ []))
    ⊎ (HoldsRoot tells image × (((status ≡ 3) × (length taken < 2 ^ 32)) ⊎ ((status ≡ 12) × (length taken ≡ 2 ^ 32)) ⊎ ((status ≡ 11) × IsWanting taken)))

-- a check: no key is drawn, no entry put, no page added or read, the cell is looked at once at most, and the image is as it was at each moment. By its status: the ledger is accepted; it is refused, by a rule or since there is no device;
-- the cell can't be served; the line that says so was cut; or nothing was put. 10 comes where the cell is empty, unless that could not be told or not be said. A ledger that is accepted, and one
-- that breaks a rule, are told so, unless something failed or no memory was given
pub record Checked {S R I O L : Type 0} (tells : Type 0) (status : ℕ) (old new : Handed S R I O L) : Type 0 where
  pub undrawn : new.tape ≡ old.tape
  pub unput : new.ledger ≡ old.ledger
  pub pages : new.world.head ≡ old.world.head
  pub image : tells → During old.world.history new.world.history (λ image. image ≡ old.world.history.present)
  pub reads : tells → MayRiseByOne old.world.reads new.world.reads × (new.page_reads ≡ old.page_reads)
  pub taken : List ℕ
  pub gave : Gave old.left taken new.left
  pub accepted : status ≡ 0 → (commit live deleted : ℕ) × Finds tells old.world.history.present taken new.left old.written new.written (findings.Accepted commit live deleted)
  pub refused : status ≡ 10 → Finds tells old.world.history.present taken new.left old.written new.written findings.NoDevice
      ⊎ ((number value : ℕ) × Finds tells old.world.history.present taken new.left old.written new.written (findings.Broken number value))
  pub unserved : status ≡ 8 → Finds tells old.world.history.present taken new.left old.written new.written findings.BadRoot
  pub cut : status ≡ 4 → (finding : Finding) × IsSo tells old.world.history.present taken new.left finding × GotPart old.written (finding_line finding) new.written
  pub silent : status ≢ 0 → status ≢ 4 → status ≢ 8 → status ≢ 10 → (new.written ≡ old.written) × IsSilent tells old.world.history.present taken status
  pub empty : tells → old.world.history.present.cell ≡ None → (status ≡ 10) ⊎ (status ≡ 4) ⊎ (status ≡ 5)
  pub complete : tells → (root : Root) (text : List ℕ) (certs : List Cert) → IsJudgeable old.world.history.present old.left root text certs → NoneRose old.counts new.counts
      → (Accepted (chain_of certs root.commit) root → (status ≡ 0) ⊎ (status ≡ 11))
      × ((number value : ℕ) → First (chain_of certs root.commit) root number value → (status ≡ 10) ⊎ (status ≡ 11))
