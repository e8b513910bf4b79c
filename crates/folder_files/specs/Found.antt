-- What is supposed of files of which nothing is known.
use Rattle.std.proofs.Common.{◌≡◌, ℕ, List, [], Option, Some, None, length, refl, arith}
use Rattle.sdbt_base.specs.declared.limits.TheConstants.{ROOT}
use Rattle.folder_platform.specs.Files.{Files, AreFiles}

-- no file
abbrev pub nothing : Files
nothing = record { pages = []; handed = []; root = None; new_root = None }

pub nothing-files : AreFiles nothing
nothing-files = record { pages = λ k d within. absurd (omega arith); handed = λ k d within. absurd (omega arith); as_many = refl; root = λ bytes no. cc }

-- a root record, if there is one
abbrev pub IsRootOrNone : Option (List ℕ) → Type 0
IsRootOrNone held = (bytes : List ℕ) → held ≡ Some bytes → length bytes ≡ ROOT
