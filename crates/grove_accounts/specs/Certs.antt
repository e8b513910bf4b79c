-- What a certificate is to say of a tree with changes, once its nodes in memory have pages.
use Rattle.std.specs.Prelude.{◌≡◌, ◌≢◌, ◌≤◌, ◌⊎◌, ◌++◌, ℕ, List, All, AllPairs, Contains, length}
use Rattle.std.specs.List.Sorted.{IsPermutation}
use Rattle.sdbt_base.specs.Traces.{Traced, DataOf}
use Rattle.sdbt_base.specs.declared.lists.Unkept.{Unkept}
use Rattle.platform.specs.Image.{Image}
use Rattle.page_store.specs.Tree.{Parts, Place, joined}
use Rattle.btree_twigs.specs.Stubs.{Stub}

-- what a certificate says of a place
abbrev pub told : Place → Traced
told p = record { addr = p.addr; trace = p.trace }

-- a data record that came after a root record with this head: its place on the medium
pub record IsOwnStub (head : ℕ) (s : Stub) : Type 0 where
  pub level : s.level ≡ 0
  pub after : head ≤ s.addr

-- what a certificate says of it
abbrev pub told_stub : Stub → Traced
told_stub s = record { addr = s.addr; trace = DataOf s.low }

-- its page
abbrev pub page_at : Stub → Unkept
page_at s = record { block = s.low; addr = s.addr }

-- these are the pages of the data records that were written since the root record, whether they are there still or not
pub record AreWritten (head : ℕ) (stubs : List Stub) (never pages : List Unkept) : Type 0 where
  pub named : (s : Stub) → Contains stubs s → IsOwnStub head s → Contains pages (page_at s)
  pub unnamed : All (Contains pages) never
  pub only : All (λ page. Contains never page ⊎ ((s : Stub) × Contains stubs s × IsOwnStub head s × (page ≡ page_at s))) pages

-- a list has what is to be said of these new nodes, and of the data records that came after the root record
pub record AddsNodes (head : ℕ) (nodes : List Place) (stubs : List Stub) (added : List Traced) : Type 0 where
  pub nodes_are : All (λ p. Contains added (told p)) nodes
  pub own : (s : Stub) → Contains stubs s → IsOwnStub head s → Contains added (told_stub s)
  pub only : All (λ t. ((p : Place) × Contains nodes p × (t ≡ told p)) ⊎ ((s : Stub) × Contains stubs s × IsOwnStub head s × (t ≡ told_stub s))) added

-- the nodes of a tree with changes were put on new pages, and the new tree has these places
pub record IsSealedTree (image : Image) (each : List Parts) (nodes after : List Place) : Type 0 where
  pub new : All (λ p. length image.recorded ≤ p.addr) nodes
  pub apart : AllPairs (λ p q. p.addr ≢ q.addr) after
  pub same : IsPermutation (nodes ++ (joined each).places) after
