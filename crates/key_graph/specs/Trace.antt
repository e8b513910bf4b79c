-- Traces: what is said of each address, and which addresses are reached from a root.
use Rattle.std.specs.Prelude.{◌≡◌, ◌≢◌, ◌≤◌, ◌<◌, ◌==◌, if◌then◌else◌, ℕ, List, [], ◌∷◌, Option, None, Some, Contains, AllPairs}
use Rattle.sdbt_base.specs.Traces.{TraceEntry, NodeOver, Traced}

-- what is said of each address; of most of them nothing
abbrev pub Entries : Type 0
Entries = ℕ → Option TraceEntry

-- what a list says of each address
abbrev pub entry_in : List Traced → Entries
entry_in [] addr = None
entry_in (traced ∷ others) addr = if traced.addr == addr then Some traced.trace else entry_in others addr

-- something is said of an address
pub record Has (entries : Entries) (addr : ℕ) : Type 0 where
  pub trace : TraceEntry
  pub is : entries addr ≡ Some trace

-- an address is a child of a node
pub record IsChild (entries : Entries) (parent child : ℕ) : Type 0 where
  pub children : List ℕ
  pub node : entries parent ≡ Some (NodeOver children)
  pub inside : Contains children child

-- a list of addresses leads from one to another: each next one is a child of the one before
abbrev pub Leads : Entries → ℕ → List ℕ → ℕ → Type 0
Leads entries from [] to = from ≡ to
Leads entries from (next ∷ path) to = IsChild entries from next × Leads entries next path to

-- a list of addresses leads from the root to this one
pub record TraceReached (entries : Entries) (root addr : ℕ) : Type 0 where
  pub path : List ℕ
  pub leads : Leads entries root path addr

-- the entries are those of a tree: its root is the greatest address; each child of a node has an entry and a lower address;
-- and every address but the root is once the child of exactly one node
pub record IsTraceTree (entries : Entries) (root : ℕ) : Type 0 where
  pub rooted : Has entries root
  pub highest : (addr : ℕ) → Has entries addr → addr ≤ root
  pub closed : (parent child : ℕ) → IsChild entries parent child → Has entries child
  pub below : (parent child : ℕ) → IsChild entries parent child → child < parent
  pub parent : (addr : ℕ) → Has entries addr → addr ≢ root → (parent : ℕ) × IsChild entries parent addr
  pub one_parent : (one other child : ℕ) → IsChild entries one child → IsChild entries other child → one ≡ other
  pub once : (addr : ℕ) (children : List ℕ) → entries addr ≡ Some (NodeOver children) → AllPairs (λ a b. a ≢ b) children
