-- That a ledger fits an image: the checker accepts it there.
use Rattle.std.specs.Prelude.{◌≡◌, ◌≤◌, ◌⊎◌, ◌++◌, ℕ, List, Option, None, IsSome}
use Rattle.sdbt_base.specs.Told.{Got}
use Rattle.platform.specs.Image.{Image, LeavesOnly}
use Rattle.platform.specs.History.{History, image_at, moment}
use Rattle.root_codec.specs.declared.root.Root.{Root}
use Rattle.page_store.specs.Tree.{Parts, Tree}
use Rattle.page_store.specs.Kept.{IsRootOf}
use Rattle.cert_maker.specs.Cert.{Cert}
use Rattle.cert_codec.specs.Ledger.{IsLedger}
use Rattle.cert_checker.specs.Chain.{Fits}

-- the chain of these certificates is accepted for the root record in the cell, and what is live after it is what its tree says
pub record FitsCell (certs : List Cert) (image : Image) : Type 0 where
  pub root : Root
  pub is : IsRootOf image root
  pub parts : Parts
  pub tree : Tree image.readable root parts
  pub fits : Fits certs root parts.places

-- a ledger's bytes fit an image: with its certificates; or its cell is empty
pub record FitsImage (text : List ℕ) (image : Image) : Type 0 where
  pub certs : List Cert
  pub ledger : IsLedger text certs
  pub fits : (image.cell ≡ None) ⊎ FitsCell certs image

-- the image at the end has P; and so has, where that is told, the image of each moment since when no page was handed over
pub record SinceLastPage (tells : Type 0) (old new : History) (P : Image → Type 0) : Type 0 where
  pub now : P new.present
  pub each : tells → (i : ℕ) → moment old ≤ i → i ≤ moment new → (image_at new i).recorded ≡ new.present.recorded → P (image_at new i)

-- where no page was handed over the ledger is as it was
abbrev pub PutsBehindPages : Option (List ℕ) → Option (List ℕ) → History → History → Type 0
PutsBehindPages written written_now old new = new.present.recorded ≡ old.present.recorded → written_now ≡ written

-- what was put to the ledger goes on from each one that fitted the image before: with it, it fits the image after, and, of a ledger that tells what it
-- got, the image of each moment since when no page was handed over
pub record KeepsFitting (written written_now : Option (List ℕ)) (old new : History) : Type 0 where
  pub put : List ℕ
  pub got : Got written put written_now
  pub fits : (text : List ℕ) → FitsImage text old.present → SinceLastPage (IsSome written) old new (FitsImage (text ++ put))
  pub behind : PutsBehindPages written written_now old new

-- with what was put, each ledger that fitted an image fits whatever a loss of power leaves of the one at the end of a run, and, of a ledger that tells what
-- it got, of the image of each moment of it since when no page was handed over: so it is whichever root record is found
pub record LeavesFitting (written written_now : Option (List ℕ)) (before : Image) (old new : History) : Type 0 where
  pub put : List ℕ
  pub got : Got written put written_now
  pub fits : (text : List ℕ) → FitsImage text before → SinceLastPage (IsSome written) old new (LeavesOnly (FitsImage (text ++ put)))
