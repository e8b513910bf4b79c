-- What both sides say first. All numbers have their highest byte first.
use Rattle.std.specs.Prelude.{◌+◌, ℕ, List, ◌++◌, codes, if◌then◌else◌}
use Rattle.std.specs.Int.{w16, w32, to_be_bytes}
use Rattle.nbd_lang.specs.declared.greeting.ClientFlags.{ClientFlags}

-- the server's: bit 0 is the fixed newstyle, and bit 1 that zeros may be left away
abbrev pub greeting : List ℕ
greeting = codes "NBDMAGIC" ++ (codes "IHAVEOPT" ++ to_be_bytes w16 3)

-- the client's: the same two bits
abbrev pub flags_bytes : ClientFlags → List ℕ
flags_bytes flags = to_be_bytes w32 ((if flags.fixed_newstyle then 1 else 0) + (if flags.no_zeroes then 2 else 0))
