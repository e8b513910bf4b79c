-- Lists of bytes.
use Rattle.std.specs.Prelude.{◌≡◌, ℕ, ◌<◌, List, length, All}

-- so many bytes
abbrev pub IsBytes : ℕ → List ℕ → Type 0
IsBytes n bytes = (length bytes ≡ n) × All (λ b. b < 256) bytes
