-- What a cell holds, by how many bytes `root` has.
use Rattle.std.proofs.Common.{◌≡◌, ◌≢◌, ℕ, List, Some, length, arith}
use Rattle.std.proofs.lemmas.Grind.{common_steps}
use Rattle.sdbt_base.specs.declared.limits.TheConstants.{ROOT}
use Rattle.folder_platform.specs.Told.{record_of, zero_root}

-- `root` has bytes, but not as many as a root record
pub not_root : (bytes : List ℕ) (n : ℕ) → length bytes ≡ n → n ≢ 0 → n ≢ ROOT → record_of bytes ≡ Some zero_root
not_root bytes n size some other = rw size (grind (arith, common_steps))
