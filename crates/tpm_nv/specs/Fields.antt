-- Fields of which bytes are made, one behind the other.
use Rattle.std.specs.Prelude.{ℕ, List, ◌++◌, length}
use Rattle.std.specs.Int.{w16, to_be_bytes}

-- bytes with their number before them (TPM2B)
unfoldable pub sized : List ℕ → List ℕ
sized bytes = to_be_bytes w16 (length bytes) ++ bytes
