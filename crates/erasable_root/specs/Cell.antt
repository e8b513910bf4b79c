-- A cell for one root record.
use Rattle.std.specs.Prelude.{◌≡◌, ◌<◌, ℕ, List, Option, Some, All, length}
use Rattle.erasable_root.specs.declared.TheConstants.{ROOT}

-- what the cell holds, if it holds something, is as many bytes as a root record has
abbrev pub IsCell : Option (List ℕ) → Type 0
IsCell cell = (bytes : List ℕ) → cell ≡ Some bytes → (length bytes ≡ ROOT) × All (λ byte. byte < 256) bytes
