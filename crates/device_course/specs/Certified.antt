-- What a part of a run put to the ledger.
use Rattle.std.specs.Prelude.{◌≡◌, ◌≢◌, ◌+◌, ◌⊎◌, ℕ, zero, suc, List, [], ◌∷◌, ◌++◌, Option, None, Some, take, flat_map}
use Rattle.std.specs.List.{AllZip}
use Rattle.sdbt_base.specs.Told.{Got}
use Rattle.platform.specs.History.{History, image_at, moment}
use Rattle.root_codec.specs.declared.root.Root.{Root}
use Rattle.root_codec.specs.RootRecord.{FitsRoot, root_bytes}
use Rattle.cert_maker.specs.Cert.{Cert}
use Rattle.cert_codec.specs.Text.{entry}
use Rattle.device_terms.specs.Certifying.{SpeaksOf}

-- these root records came into the cell in the k moments after one, in their order: with each moment the cell stayed, or was emptied, or got the next of them
abbrev pub Came : History → ℕ → ℕ → List (List ℕ) → Type 0
Came history from zero records = records ≡ []
Came history from (suc k) records =
    (Came history from k records
    × (((image_at history (from + suc k)).cell ≡ (image_at history (from + k)).cell) ⊎ ((image_at history (from + suc k)).cell ≡ None)))
    ⊎ ((earlier : List (List ℕ)) × (last : List ℕ) × (records ≡ earlier ++ last ∷ []) × Came history from k earlier
    × ((image_at history (from + suc k)).cell ≡ Some last) × ((image_at history (from + k)).cell ≢ Some last))

-- these root records came into the cell from one time to another
pub record CameBetween (old new : History) (records : List (List ℕ)) : Type 0 where
  pub count : ℕ
  pub until : moment new ≡ moment old + count
  pub came : Came new (moment old) count records

-- the certificate speaks of the root record in these bytes
pub record Certificate (cert : Cert) (bytes : List ℕ) : Type 0 where
  pub base : ℕ
  pub root : Root
  pub in_range : FitsRoot root
  pub spelled : bytes ≡ root_bytes root
  pub speaks : SpeaksOf cert base root

-- each root record that came into the cell has its certificate, whose entry was put whole: these, or these and one more of which all was put
pub record AreOfRecords (old new : History) (certs : List Cert) (more : Cert) (rest : List ℕ) : Type 0 where
  pub records : List (List ℕ)
  pub came : CameBetween old new records
  pub each : AllZip Certificate certs records ⊎ ((rest ≡ entry more) × AllZip Certificate (certs ++ more ∷ []) records)

-- a part of a run put the entries of these certificates, and a first part of one more: none where the run goes on. There is one for each root record that
-- came into the cell, in their order
pub record Certified (tells : Type 0) (written written_now : Option (List ℕ)) (old new : History) (Going : Type 0) : Type 0 where
  pub certs : List Cert
  pub more : Cert
  pub count : ℕ
  pub got : Got written (flat_map entry certs ++ take count (entry more)) written_now
  pub of : tells → AreOfRecords old new certs more (take count (entry more))
  pub whole : Going → count ≡ 0
