-- The parents that the checker keeps beside what is live.
use Rattle.std.specs.Prelude.{◌≡◌, if◌then◌else◌, ℕ, List, [], ◌∷◌, ◌++◌, Option, None, Some}
use Rattle.std.specs.Ordering.{nat_cmp}
use Rattle.std.specs.BTreeMap.{BTreeMap, get}
use Rattle.key_graph.specs.Trace.{Entries, IsChild}
use Rattle.sdbt_base.specs.Traces.{TraceEntry, DataOf, NodeOver, Traced}
use Rattle.cert_maker.specs.Cert.{Cert}
use Rattle.cert_checker.specs.Rules.{is_listed}

-- each live child's parent is the one kept; what is kept of other addresses doesn't matter
abbrev pub KeepsParents : Entries → BTreeMap ℕ ℕ → Type 0
KeepsParents entries parents = (parent child : ℕ) → IsChild entries parent child → get nat_cmp parents child ≡ Some parent

-- the children that a trace gives an address
abbrev pub children_of : TraceEntry → List ℕ
children_of (DataOf block) = []
children_of (NodeOver children) = children

-- one that is there, or else the other
abbrev pub parent_or : Option ℕ → Option ℕ → Option ℕ
parent_or (Some parent) other = Some parent
parent_or None other = other

-- the last node of the list that has this child
abbrev pub taker : List Traced → ℕ → Option ℕ
taker [] child = None
taker (traced ∷ others) child = parent_or (taker others child) (if is_listed (children_of traced.trace) child then Some traced.addr else None)

-- the children of all nodes of the list
abbrev pub all_children : List Traced → List ℕ
all_children [] = []
all_children (traced ∷ others) = children_of traced.trace ++ all_children others

-- gone addresses have no parent any more, and the added nodes are those of their children
abbrev pub HasAdopted : Cert → BTreeMap ℕ ℕ → BTreeMap ℕ ℕ → Type 0
HasAdopted cert old new = (addr : ℕ) → get nat_cmp new addr ≡ parent_or (taker cert.added addr) (if is_listed cert.gone addr then None else get nat_cmp old addr)
