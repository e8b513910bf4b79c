-- What the root cell may hold.
use Rattle.std.specs.Prelude.{◌≢◌, ◌≤◌, ℕ, List, Option, None, Some}
use Rattle.sdbt_base.specs.Keys.{IsKeyOf}
use Rattle.root_codec.specs.declared.root.Root.{Root}
use Rattle.root_codec.specs.RootRecord.{FitsRoot, root_bytes}

-- a root in range that speaks of no more pages than there are
pub record IsRootWithin (head : ℕ) (root : Root) : Type 0 where
  pub in_range : FitsRoot root
  pub key : IsKeyOf root.version root.key
  pub within : root.head ≤ head

-- the cell is full, and not with the root record of such a root
pub record IsBadCell (head : ℕ) (cell : Option (List ℕ)) : Type 0 where
  pub full : cell ≢ None
  pub bad : (root : Root) → IsRootWithin head root → cell ≢ Some (root_bytes root)
