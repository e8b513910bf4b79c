-- What is left of the keys of entries that are let go.
use Rattle.std.specs.Prelude.{◌≡◌, ℕ, List, replicate, slice_index_or}
use Rattle.node_codec.specs.declared.body.Entry.{Entry}

-- an entry of zeros
abbrev pub blank_entry : Entry
blank_entry = record { low = 0; addr = 0; key = replicate 32 0 }

-- the key in each place is zeros
abbrev pub HaveNoKey : List Entry → Type 0
HaveNoKey entries = (place : ℕ) → (slice_index_or entries place blank_entry).key ≡ replicate 32 0
