use Rattle.std.proofs.Common.{◌≡◌, ◌≤◌, ◌-◌, ℕ, get_or, vec_len, vec_capacity}
use Rattle.btree_twigs.specs.Wiped.{blank}
use Rattle.btree_twigs.proofs.wiping.wipe_room.Given as goal

abbrev pub decreases-places : goal.decreases-places
decreases-places l = l.room - vec_len l.children

abbrev pub invariant-places : goal.invariant-places
invariant-places l = record {
  zeros : (k : ℕ) → get_or l.children.items k blank ≡ blank;
  room : vec_capacity l.children ≡ l.room;
  within : vec_len l.children ≤ l.room;
}
