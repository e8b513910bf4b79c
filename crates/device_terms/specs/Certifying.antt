-- What is put to the ledger before a root record is replaced.
use Rattle.std.specs.Prelude.{◌≡◌, ◌⊎◌, ◌+◌, ℕ, List, Option, Some, length}
use Rattle.sdbt_base.specs.Told.{Got, GotPart}
use Rattle.sdbt_base.specs.declared.lists.Unkept.{Unkept}
use Rattle.platform.specs.History.{History, CellStays}
use Rattle.platform.specs.declared.platforms.Platform.{Ghosts}
use Rattle.root_codec.specs.declared.root.Root.{Root}
use Rattle.root_codec.specs.RootRecord.{FitsRoot, root_bytes}
use Rattle.page_store.specs.Tree.{Place, Parts, Tree}
use Rattle.cert_maker.specs.Cert.{Cert}
use Rattle.cert_maker.specs.CertOf.{CertOf}
use Rattle.cert_maker.specs.Trace.{entries_of}
use Rattle.cert_codec.specs.Text.{entry, Fits as FitsText}

-- the certificate speaks of this root record, before which there were so many pages
pub record SpeaksOf (cert : Cert) (base : ℕ) (root : Root) : Type 0 where
  pub commit : cert.commit ≡ root.commit
  pub begins : cert.base ≡ base
  pub node : cert.root ≡ root.addr
  pub head : cert.head ≡ root.head

-- the certificate is that of these places, of the tree of the root record over the pages, and of these data pages
pub record IsOfTrees (before : List Place) (base : ℕ) (pages : List (List ℕ)) (root : Root) (written : List Unkept) (cert : Cert) : Type 0 where
  pub after : Parts
  pub tree : Tree pages root after
  pub is : CertOf (entries_of before) (entries_of after.places) root.commit root.addr base root.head written cert

-- an entry was put, whose certificate speaks of the root record that is to follow: all of it where the call was done or that root record came into the
-- cell; and else, with the cell as it was at each moment, all or a first part
pub record PutsEntry (tells : Type 0) (written written_now : Option (List ℕ)) (old new : History) (base commit : ℕ) (Is : Root → Cert → Type 0) (Done : Type 0) : Type 0 where
  pub cert : Cert
  pub in_text : FitsText cert
  pub root : Root
  pub in_range : FitsRoot root
  pub number : root.commit ≡ commit
  pub speaks : SpeaksOf cert base root
  pub is : tells → Is root cert
  pub put : (Got written (entry cert) written_now × (tells → (new.present.cell ≡ Some (root_bytes root)) ⊎ (CellStays old new × (Done → ⊥))))
      ⊎ (GotPart written (entry cert) written_now × (tells → CellStays old new) × (Done → ⊥))

-- what a call put that may replace the root record: nothing, with the cell as it was at each moment, or an entry
abbrev pub Certifies : Type 0 → Option (List ℕ) → Option (List ℕ) → History → History → ℕ → ℕ → (Root → Cert → Type 0) → Type 0 → Type 0
Certifies tells written written_now old new base commit Is Done =
    ((written_now ≡ written) × (tells → CellStays old new)) ⊎ PutsEntry tells written written_now old new base commit Is Done

-- so many pages were added, and all pages are synced
abbrev pub AddsSynced : {S : Type 0} → Ghosts S → ℕ → S → S → Type 0
AddsSynced P added platform platform_now =
    (P.head platform_now ≡ P.head platform + added) × (P.tells → (P.history platform_now).present.synced ≡ length (P.history platform_now).present.recorded)

-- the ledger is as it was; or it got something, and before that so many pages were added and all pages were synced
abbrev pub PutsSynced : {S W : Type 0} → Ghosts S → ℕ → S → S → W → W → Type 0
PutsSynced P added platform platform_now ledger ledger_now = (ledger_now ≡ ledger) ⊎ AddsSynced P added platform platform_now
