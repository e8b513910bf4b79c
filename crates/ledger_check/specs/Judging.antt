-- What a ledger that is read from an input is judged to be.
use Rattle.std.specs.Prelude.{◌≡◌, ◌≢◌, [], ℕ, ◌<◌, ◌≤◌, ◌^◌, List, length, Option, Result, Ok, Err}
use Rattle.sdbt_base.specs.Told.{Gave, IsAtEnd}
use Rattle.root_codec.specs.declared.root.Root.{Root}
use Rattle.cert_maker.specs.Cert.{Cert}
use Rattle.cert_codec.specs.Ledger.{IsLedger}
use Rattle.cert_checker.specs.Chain.{Accepted, chain_of}
use Rattle.cert_checker.specs.Concluding.{IsVerdictOn}
use Rattle.cert_checker.specs.First.{First}
use Rattle.cert_checker.specs.declared.verdict.Verdict.{Verdict}
use Rattle.ledger_check.specs.declared.refusals.JudgeRefusal.{JudgeRefusal}
use Rattle.ledger_check.specs.declared.refusals.JudgeRefusal.TheVariants as judges

-- an input was read to its end, before the limit, and its bytes are a ledger of these certificates
pub record IsWhole (taken : List ℕ) (left : Option (List ℕ)) (certs : List Cert) : Type 0 where
  pub short : length taken < 2 ^ 32
  pub end : IsAtEnd left
  pub ledger : IsLedger taken certs

-- memory was wanted for something that was taken, before the limit
abbrev pub IsWanting : List ℕ → Type 0
IsWanting taken = (taken ≢ []) × (length taken < 2 ^ 32)

-- why no ledger was read whole
abbrev pub IsUnread : List ℕ → JudgeRefusal → Type 0
IsUnread taken (judges.Rule number value) = ⊥
IsUnread taken judges.Source = length taken < 2 ^ 32
IsUnread taken judges.Limit = length taken ≡ 2 ^ 32
IsUnread taken judges.Memory = IsWanting taken

-- the ledger whole, or why it isn't
abbrev pub IsRead : List ℕ → Option (List ℕ) → Result (List Cert) JudgeRefusal → Type 0
IsRead taken left (Ok certs) = IsWhole taken left certs
IsRead taken left (Err refusal) = IsUnread taken refusal

-- the chain of the whole ledger is accepted for the root record, with this verdict; or this rule is the first that it breaks; or
-- the ledger was not read whole
abbrev pub IsFound : Root → List ℕ → Option (List ℕ) → Result Verdict JudgeRefusal → Type 0
IsFound root taken left (Ok verdict) =
    (certs : List Cert) × IsWhole taken left certs × Accepted (chain_of certs root.commit) root × IsVerdictOn (chain_of certs root.commit) root verdict
IsFound root taken left (Err (judges.Rule number value)) =
    (certs : List Cert) × IsWhole taken left certs × First (chain_of certs root.commit) root number value
IsFound root taken left (Err judges.Source) = length taken < 2 ^ 32
IsFound root taken left (Err judges.Limit) = length taken ≡ 2 ^ 32
IsFound root taken left (Err judges.Memory) = IsWanting taken

-- what was taken from an input, with what came of it
pub record FromInput {R : Type 0} (Is : List ℕ → Option (List ℕ) → R → Type 0) (left left_now : Option (List ℕ)) (result : R) : Type 0 where
  pub taken : List ℕ
  pub gave : Gave left taken left_now
  pub most : length taken ≤ 2 ^ 32
  pub is : Is taken left_now result

-- a ledger was judged for a root record
abbrev pub Judged : Root → Option (List ℕ) → Option (List ℕ) → Result Verdict JudgeRefusal → Type 0
Judged root = FromInput (IsFound root)
