-- What sealing a record means, and when a key opens a page.
use Rattle.std.specs.Prelude.{◌≡◌, ℕ, List, [], ◌∷◌, ◌++◌, take, bit_xor}
use Rattle.std.specs.Int.{w64, to_be_bytes}
use Rattle.std.specs.Simd.Lanes.{zip2}
use Rattle.seal_record.specs.Keystream.{stream}

-- each byte, with the keystream's byte at its place mixed in
abbrev pub masked : List ℕ → List ℕ → List ℕ
masked key bytes = zip2 bit_xor bytes (stream key)

-- how the body of a record begins: the letters SDBTREC1 and the record's own address
unfoldable pub stamp_of : ℕ → List ℕ
stamp_of addr = (83 ∷ 68 ∷ 66 ∷ 84 ∷ 82 ∷ 69 ∷ 67 ∷ 49 ∷ []) ++ to_be_bytes w64 addr

-- a key opens a page at an address where what it unmasks begins with the stamp of that address
abbrev pub Opens : List ℕ → ℕ → List ℕ → Type 0
Opens key addr page = take 16 (masked key page) ≡ stamp_of addr
