-- What is left in the room of a node in memory that goes.
use Rattle.std.specs.Prelude.{◌≡◌, ℕ, List, length, replicate, slice_index_or, vec_capacity}
use Rattle.std.specs.declared.vec.Vec.{Vec}
use Rattle.std.specs.declared.alloc.Global.{Global}
use Rattle.btree_twigs.specs.declared.twigs.Child.{Child}
use Rattle.btree_twigs.specs.declared.twigs.Child.TheVariants as made

-- a child of zeros
abbrev pub blank : Child
blank = made.Kept 0 0 (replicate 32 0)

-- each place has a child of zeros
abbrev pub AreBlank : List Child → Type 0
AreBlank children = (place : ℕ) → slice_index_or children place blank ≡ blank

-- so have all places of a room, which is one for so many still
pub record IsBlankRoom (room : ℕ) (children : Vec Child Global) : Type 0 where
  pub room_is : vec_capacity children ≡ room
  pub whole : length children.items ≡ room
  pub zeros : AreBlank children.items
