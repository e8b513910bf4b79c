-- What is found in a cell before anything is served, and a run that touches nothing.
use Rattle.std.specs.Prelude.{◌≡◌, ℕ, Option, None, Some, length}
use Rattle.platform.specs.Image.{Image}
use Rattle.platform.specs.History.{History, During}
use Rattle.root_codec.specs.declared.root.Root.{Root}
use Rattle.root_codec.specs.RootRecord.{root_bytes}
use Rattle.page_store.specs.Roots.{IsRootWithin}

-- the cell is empty, or holds this root record, which can be served
abbrev pub IsInCell : Image → Option Root → Type 0
IsInCell image None = image.cell ≡ None
IsInCell image (Some root) = IsRootWithin (length image.recorded) root × (image.cell ≡ Some (root_bytes root))

-- all that a run is handed is as it was, at each moment, but for what its output got
pub record IsUntouched {T I L : Type 0} (tape tape_now : T) (input input_now : I) (ledger ledger_now : L) (head head_now : ℕ) (old new : History) : Type 0 where
  pub undrawn : tape_now ≡ tape
  pub untaken : input_now ≡ input
  pub unput : ledger_now ≡ ledger
  pub pages : head_now ≡ head
  pub image : During old new (λ image. image ≡ old.present)
