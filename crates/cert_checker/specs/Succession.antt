-- A tree that comes after another one by a commit.
use Rattle.std.specs.Prelude.{◌≡◌, ◌<◌, ◌≤◌, ◌+◌, ℕ, List, [], ◌∷◌, Option, None, Some, IfSome, Contains}
use Rattle.sdbt_base.specs.declared.lists.Unkept.{Unkept}
use Rattle.key_graph.specs.Trace.{Entries, Has, IsTraceTree}
use Rattle.sdbt_base.specs.Traces.{TraceEntry, NodeOver}
use Rattle.cert_maker.specs.Cert.{Cert}

-- the entries of a tree with this root, or of none
abbrev pub IsTreeOrNone : Entries → Option ℕ → Type 0
IsTreeOrNone entries None = (addr : ℕ) → entries addr ≡ None
IsTreeOrNone entries (Some root) = IsTraceTree entries root

-- both are trees, the old one below the base, the new one below the head; of the addresses below the base the new tree says what
-- the old one said; its root is at or above the base; the old root, if there is one, isn't in it; and the data pages were
-- written in between
pub record Succeeds (base head : ℕ) (old new : Entries) (old_root : Option ℕ) (new_root : ℕ) (pages : List Unkept) : Type 0 where
  pub ordered : base ≤ head
  pub old_tree : IsTreeOrNone old old_root
  pub new_tree : IsTraceTree new new_root
  pub old_below : (addr : ℕ) → Has old addr → addr < base
  pub new_below : (addr : ℕ) → Has new addr → addr < head
  pub same : (addr : ℕ) (trace : TraceEntry) → new addr ≡ Some trace → addr < base → old addr ≡ Some trace
  pub new_top : base ≤ new_root
  pub old_top : IfSome old_root (λ root. new root ≡ None)
  pub between : (page : Unkept) → Contains pages page → (base ≤ page.addr) × (page.addr < head)

-- the root of a certificate, if there is one
abbrev pub root_of : Option Cert → Option ℕ
root_of None = None
root_of (Some cert) = Some cert.root

-- the certificate of a new device: one empty leaf at the base
abbrev pub format_cert : ℕ → Cert
format_cert base = record {
  commit = 0;
  base = base;
  head = base + 1;
  root = base;
  added = record { addr = base; trace = NodeOver [] } ∷ [];
  gone = [];
  never = [];
}
