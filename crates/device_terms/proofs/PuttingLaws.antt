-- What the publishing of a root record puts to the ledger, and what a call puts that ends with it.
use Rattle.std.proofs.Common.{◌≡◌, ◌+◌, inl, inr, ℕ, List, Some, subst, arith}
use Rattle.std.specs.Prelude.{◌⊎◌, Option}
use Rattle.sdbt_base.specs.Told.{Got, GotPart}
use Rattle.platform.specs.History.{History, CellStays}
use Rattle.platform.specs.declared.platforms.Platform.{Ghosts}
use Rattle.root_codec.specs.declared.root.Root.{Root}
use Rattle.root_codec.specs.RootRecord.{root_bytes}
use Rattle.cert_maker.specs.Cert.{Cert}
use Rattle.cert_codec.specs.Text.{entry}
use Rattle.device_terms.specs.Certifying.{PutsSynced}
use Rattle.device_terms.proofs.MomentLaws.{stays_then}

-- what the publishing of a root record put to the ledger
abbrev pub Published : Type 0 → Option (List ℕ) → Option (List ℕ) → History → History → List ℕ → Root → Type 0 → Type 0
Published tells written written_now mid new line root Done =
    (Got written line written_now × (tells → (new.present.cell ≡ Some (root_bytes root)) ⊎ (CellStays mid new × (Done → ⊥))))
    ⊎ (GotPart written line written_now × (tells → CellStays mid new) × (Done → ⊥))

-- of an entry, after other calls at which the cell stayed
pub puts_entry : (tells : Type 0) (written written_now : Option (List ℕ)) (old mid new : History) (line : List ℕ) (cert : Cert) (root : Root) (Done : Type 0) → line ≡ entry cert → (tells → CellStays old mid)
    → Published tells written written_now mid new line root Done
    → (Got written (entry cert) written_now × (tells → (new.present.cell ≡ Some (root_bytes root)) ⊎ (CellStays old new × (Done → ⊥))))
    ⊎ (GotPart written (entry cert) written_now × (tells → CellStays old new) × (Done → ⊥))
puts_entry tells written written_now old mid new line cert root Done is before put = elim put [
  | inl whole ↦ inl (
    subst (λ (bytes : List ℕ). Got written bytes written_now) is whole.0,
    λ told. elim (whole.1 told) [
      | inl came ↦ inl came
      | inr stays ↦ inr (stays_then old mid new (before told) stays.0, stays.1)
    ],
  )
  | inr part ↦ inr (subst (λ (bytes : List ℕ). GotPart written bytes written_now) is part.0, λ told. stays_then old mid new (before told) (part.1 told), part.2)
]

-- the same of what was done otherwise, where that never is done but where the former is
pub published_done : (tells : Type 0) (written written_now : Option (List ℕ)) (mid new : History) (line : List ℕ) (root : Root) (Was Done : Type 0) → ((Was → ⊥) → Done → ⊥) → Published tells written written_now mid new line root Was → Published tells written written_now mid new line root Done
published_done tells written written_now mid new line root Was Done never put = elim put [
  | inl whole ↦ inl (whole.0, λ told. elim (whole.1 told) [ inl came ↦ inl came | inr stays ↦ inr (stays.0, never stays.1) ])
  | inr part ↦ inr (part.0, part.1, never part.2)
]

-- pages that were added before the call count, too
pub puts_behind : {S W : Type 0} (P : Ghosts S) (more all : ℕ) (platform mid new : S) (ledger ledger_now : W) → P.head mid + more ≡ P.head platform + all → PutsSynced P more mid new ledger ledger_now → PutsSynced P all platform new ledger ledger_now
puts_behind P more all platform mid new ledger ledger_now head put = elim put [
  | inl same ↦ inl same
  | inr got ↦ inr (omega (arith, head, got.0), got.1)
]
