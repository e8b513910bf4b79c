-- An array of bytes: a function from places to bytes, so that nothing has to be said of its length.
use Rattle.std.specs.Prelude.{◌+◌, ◌-◌, ◌/◌, ◌%◌, ℕ, zero, suc, nat_lt, if◌then◌else◌, List, [], ◌∷◌, get_or}

-- so many bytes of an array, from a place on
abbrev pub bytes_at : (ℕ → ℕ) → ℕ → ℕ → List ℕ
bytes_at array place zero = []
bytes_at array place (suc n) = array place ∷ bytes_at array (place + 1) n

-- the array that blocks of 4,096 bytes make, one behind the other
abbrev pub byte_of : (ℕ → List ℕ) → ℕ → ℕ
byte_of content place = get_or (content (place / 4096)) (place % 4096) 0

-- an array with bytes in the place of those from an offset on
abbrev pub with_bytes : (ℕ → ℕ) → ℕ → List ℕ → ℕ → ℕ
with_bytes array offset bytes place = if nat_lt place offset then array place else get_or bytes (place - offset) (array place)
