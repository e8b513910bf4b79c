-- What a seizure reports.
use Rattle.std.specs.Prelude.{◌≡◌, ◌≢◌, ◌↔◌, ◌∷◌, ◌++◌, [], ℕ, List, Option, None, Some, AllPairs, Contains, length, map}
use Rattle.sdbt_base.specs.Keys.{bare}
use Rattle.root_codec.specs.declared.root.Root.{Root}
use Rattle.root_codec.specs.RootRecord.{root_bytes}
use Rattle.page_store.specs.Roots.{IsRootWithin}
use Rattle.key_graph.specs.Chains.{ReachedBody}
use Rattle.seizure.specs.declared.opened.Opened.{Opened}
use Rattle.seizure.specs.Opened.{IsBefore}

-- how many pages there are, and what was opened of them
pub record Seized : Type 0 where
  pub pages : ℕ
  pub opened : List Opened

-- exactly the bodies at which a chain from these keys over these pages ends, each once, in order
pub record IsSeizure (keys readable : List (List ℕ)) (seized : Seized) : Type 0 where
  pub pages : seized.pages ≡ length readable
  pub exact : (o : Opened) → Contains seized.opened o ↔ ReachedBody keys readable o.addr o.kind o.block
  pub ascends : AllPairs IsBefore seized.opened

-- chains begin with these keys, and with that of the root record, if there is one; their digests are left out
abbrev pub roots_of : List (List ℕ) → Option Root → List (List ℕ)
roots_of keys None = map bare keys
roots_of keys (Some root) = map bare keys ++ bare root.key ∷ []

-- the cell is empty, or holds the root record of a root within its range
abbrev pub Holds : ℕ → Option (List ℕ) → Option Root → Type 0
Holds head cell None = cell ≡ None
Holds head cell (Some root) = IsRootWithin head root × (cell ≡ Some (root_bytes root))

-- these are the keys that chains begin with: those that were given, and that of the root record which the cell holds
abbrev pub Begins : ℕ → Option (List ℕ) → List (List ℕ) → List (List ℕ) → Type 0
Begins head cell keys roots = (root : Option Root) × Holds head cell root × (roots ≡ roots_of keys root)

-- there are such keys: the cell is good, and a key was given or stands in its root record
abbrev pub BeginsSome : ℕ → Option (List ℕ) → List (List ℕ) → Type 0
BeginsSome head cell keys = (roots : List (List ℕ)) × Begins head cell keys roots × (roots ≢ [])
