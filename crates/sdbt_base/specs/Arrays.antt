-- Devices as those who use them see them: arrays of blocks, with sessions on them.
use Rattle.std.specs.Prelude.{ℕ, ◌+◌, ◌-◌, min, Bool, true, false, ◌||◌, List, ◌++◌, length, replicate, Option, None, Some, unwrap_or}
use Rattle.std.specs.Ordering.{nat_cmp}
use Rattle.std.specs.FinMap as map

-- what blocks hold: 4,096 bytes for each mapped block
abbrev pub Blocks : Type 0
Blocks = map.FinMap nat_cmp (List ℕ)

-- the version of its records, so many blocks, the order of the tree, the number of the last commit, and what the blocks hold
pub record Device : Type 0 where
  pub version : ℕ
  pub blocks : ℕ
  pub order : ℕ
  pub number : ℕ
  pub contents : Blocks

-- a device's blocks, with changes that aren't committed, and whether there are any
pub record Session : Type 0 where
  pub contents : Blocks
  pub touched : Bool

-- the device, and the session that is open on it
pub record State : Type 0 where
  pub device : Option Device
  pub session : Option Session

-- a block that isn't mapped holds zeros
abbrev pub content_of : Blocks → ℕ → List ℕ
content_of blocks block = unwrap_or (map.get blocks block) (replicate 4096 0)

-- bytes with zeros up to the end of the block
abbrev pub padded : List ℕ → List ℕ
padded bytes = bytes ++ replicate (4096 - length bytes) 0

-- a device of so many blocks, none of which is mapped
abbrev pub new_device : ℕ → ℕ → Device
new_device blocks order = record { version = 1; blocks = blocks; order = order; number = 0; contents = map.empty }

-- a session without a change
abbrev pub session_on : Device → Session
session_on device = record { contents = device.contents; touched = false }

-- the device with these blocks and the next number
abbrev pub committed_with : Device → Blocks → Device
committed_with device contents = record device { number = device.number + 1; contents = contents }

-- the device with records of version 2, whose nodes have at most 48 entries, and the next number: its blocks stay
abbrev pub upgraded : Device → Device
upgraded device = record device { version = 2; order = min device.order 48; number = device.number + 1 }

-- the session's blocks become the device's
abbrev pub committed : Device → Session → Device
committed device session = committed_with device session.contents

-- the same, where the session has changes that aren't committed
abbrev pub committed_if : Bool → Device → Session → Device
committed_if true device session = committed device session
committed_if false device session = device

-- the session after a write, and after a trim
abbrev pub written : Session → ℕ → List ℕ → Session
written session block bytes = record { contents = map.insert session.contents block (padded bytes); touched = true }

abbrev pub unmapped : Session → ℕ → Session
unmapped session block = record { contents = map.remove session.contents block; touched = session.touched || map.contains_key session.contents block }

-- the device, without a session on it
abbrev pub closed : Option Device → State
closed device = record { device = device; session = None }

-- the device, with a session on it
abbrev pub mounted : Device → Session → State
mounted device session = record { device = Some device; session = Some session }
