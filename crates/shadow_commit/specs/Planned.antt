-- What a commit adds, told before it is begun.
use Rattle.std.specs.Prelude.{◌==◌, ◌&&◌, nat_le, ℕ, Bool, List, ◌++◌, map}
use Rattle.std.specs.List.{filter}
use Rattle.std.specs.List.Sorted.{IsPermutation}
use Rattle.sdbt_base.specs.Traces.{Traced, DataOf, NodeOver}
use Rattle.node_codec.specs.declared.body.Entry.{Entry}
use Rattle.btree_twigs.specs.Stubs.{Stub}
use Rattle.shadow_commit.specs.Sealed.{Sealed}

-- what is said of a sealed node
abbrev pub traced_of : Sealed → Traced
traced_of n = record { addr = n.addr; trace = NodeOver (map (λ (e : Entry). e.addr) n.entries) }

-- a place is a data record at an address from this one on
abbrev pub is_new_record : ℕ → Stub → Bool
is_new_record base s = (s.level == 0) && nat_le base s.addr

-- what is said of a data record
abbrev pub traced_record : Stub → Traced
traced_record s = record { addr = s.addr; trace = DataOf s.low }

-- what is said of the data records among these places that came after a root record with this head field
abbrev pub new_records : ℕ → List Stub → List Traced
new_records base places = map traced_record (filter (is_new_record base) places)

-- what a commit adds: the nodes that are sealed, and the data records below them that are new
abbrev pub added_by : ℕ → List Stub → List Sealed → List Traced
added_by base places ns = map traced_of ns ++ new_records base places

-- in some order the list has what it had, and what these nodes over these places add
abbrev pub AddsOf : ℕ → List Stub → List Sealed → List Traced → List Traced → Type 0
AddsOf base places ns old new = IsPermutation (old ++ added_by base places ns) new
