-- The counts of faults of all that a call is handed, and whom an answer blames.
use Rattle.std.specs.Prelude.{◌≡◌, ℕ, ◌≤◌}
use Rattle.sdbt_base.specs.Faults.{Rose}

-- of a platform, a tape, an input, an output and a ledger; a call that isn't handed one of them has zeros there
pub record Counts : Type 0 where
  pub platform : ℕ
  pub tape : ℕ
  pub input : ℕ
  pub output : ℕ
  pub ledger : ℕ

abbrev pub counts : ℕ → ℕ → ℕ → ℕ → ℕ → Counts
counts platform tape input output ledger = record { platform = platform; tape = tape; input = input; output = output; ledger = ledger }

-- the count of this object rose, and that of no other
abbrev pub PlatformRose : Counts → Counts → Type 0
PlatformRose before now = Rose before.platform now.platform × (now ≡ record before { platform = now.platform })

abbrev pub TapeRose : Counts → Counts → Type 0
TapeRose before now = Rose before.tape now.tape × (now ≡ record before { tape = now.tape })

abbrev pub InputRose : Counts → Counts → Type 0
InputRose before now = Rose before.input now.input × (now ≡ record before { input = now.input })

abbrev pub OutputRose : Counts → Counts → Type 0
OutputRose before now = Rose before.output now.output × (now ≡ record before { output = now.output })

abbrev pub LedgerRose : Counts → Counts → Type 0
LedgerRose before now = Rose before.ledger now.ledger × (now ≡ record before { ledger = now.ledger })

-- no count fell
pub record NoneFell (before now : Counts) : Type 0 where
  pub platform : before.platform ≤ now.platform
  pub tape : before.tape ≤ now.tape
  pub input : before.input ≤ now.input
  pub output : before.output ≤ now.output
  pub ledger : before.ledger ≤ now.ledger

-- no count rose
pub record NoneRose (before now : Counts) : Type 0 where
  pub platform : Rose before.platform now.platform → ⊥
  pub tape : Rose before.tape now.tape → ⊥
  pub input : Rose before.input now.input → ⊥
  pub output : Rose before.output now.output → ⊥
  pub ledger : Rose before.ledger now.ledger → ⊥
