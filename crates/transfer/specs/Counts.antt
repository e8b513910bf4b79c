-- The counts of faults of all that a run is handed.
use Rattle.std.specs.Prelude.{◌≡◌, ◌≤◌, ℕ}
use Rattle.sdbt_base.specs.Counts as device
use Rattle.sdbt_base.specs.Faults.{Rose}

-- of the platform that a device is moved from, of the one that it is moved to, of the tape, the output and the ledger
pub record Counts : Type 0 where
  pub from : ℕ
  pub to : ℕ
  pub tape : ℕ
  pub output : ℕ
  pub ledger : ℕ

abbrev pub counts : ℕ → ℕ → ℕ → ℕ → ℕ → Counts
counts from to tape output ledger = record { from = from; to = to; tape = tape; output = output; ledger = ledger }

-- those of a run over the one platform alone, and over the other
abbrev pub with_from : Counts → device.Counts
with_from all = device.counts all.from all.tape 0 all.output all.ledger

abbrev pub with_to : Counts → device.Counts
with_to all = device.counts all.to all.tape 0 all.output all.ledger

-- the count of this object rose, and that of no other
abbrev pub FromRose : Counts → Counts → Type 0
FromRose before now = Rose before.from now.from × (now ≡ record before { from = now.from })

abbrev pub ToRose : Counts → Counts → Type 0
ToRose before now = Rose before.to now.to × (now ≡ record before { to = now.to })

abbrev pub TapeRose : Counts → Counts → Type 0
TapeRose before now = Rose before.tape now.tape × (now ≡ record before { tape = now.tape })

abbrev pub OutputRose : Counts → Counts → Type 0
OutputRose before now = Rose before.output now.output × (now ≡ record before { output = now.output })

abbrev pub LedgerRose : Counts → Counts → Type 0
LedgerRose before now = Rose before.ledger now.ledger × (now ≡ record before { ledger = now.ledger })

-- no count fell
pub record NoneFell (before now : Counts) : Type 0 where
  pub from : before.from ≤ now.from
  pub to : before.to ≤ now.to
  pub tape : before.tape ≤ now.tape
  pub output : before.output ≤ now.output
  pub ledger : before.ledger ≤ now.ledger
