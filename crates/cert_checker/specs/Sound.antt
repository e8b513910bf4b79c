-- What a chain says of addresses, and what holds after each certificate that keeps the rules, whoever made it.
use Rattle.std.specs.Prelude.{◌≡◌, ◌<◌, ◌⊎◌, ◌↔◌, ℕ, List, [], ◌∷◌, ◌++◌, length, Option, None, Some, Contains, AllPairs}
use Rattle.sdbt_base.specs.declared.lists.Unkept.{Unkept}
use Rattle.root_codec.specs.declared.root.Root.{Root}
use Rattle.cert_maker.specs.Cert.{Cert}
use Rattle.key_graph.specs.Trace.{Entries, Has, IsTraceTree, TraceReached}
use Rattle.cert_checker.specs.Rules.{or_else, added_by}
use Rattle.cert_checker.specs.Chain.{live_after}
use Rattle.cert_checker.specs.First.{never_addrs}

-- the trace of a chain: what its added lists say
abbrev pub trace_of : List Cert → Entries
trace_of [] addr = None
trace_of (cert ∷ others) addr = or_else (added_by cert addr) (trace_of others addr)

-- the certificate says that an address is gone, or was never kept
pub data Deletes (cert : Cert) (addr : ℕ) : Type 0 where
  Gone : Contains cert.gone addr → Deletes cert addr
  Never : (page : Unkept) → Contains cert.never page → page.addr ≡ addr → Deletes cert addr

-- one of the certificates says so
abbrev pub Deleted : List Cert → ℕ → Type 0
Deleted [] addr = ⊥
Deleted (cert ∷ others) addr = Deletes cert addr ⊎ Deleted others addr

-- what is live is a tree under the last root, as the trace says it; no deleted address is live; all that was said lies below
-- the last head
pub record FiveFacts (chain : List Cert) (live : Entries) (last : Cert) : Type 0 where
  pub tree : IsTraceTree live last.root
  pub traced : (addr : ℕ) → Has live addr → trace_of chain addr ≡ live addr
  pub no_deleted : (addr : ℕ) → Deleted chain addr → live addr ≡ None
  pub traced_below : (addr : ℕ) → Has (trace_of chain) addr → addr < last.head
  pub deleted_below : (addr : ℕ) → Deleted chain addr → addr < last.head

-- the same, or before the first certificate nothing at all
abbrev pub Stay : List Cert → Entries → Option Cert → Type 0
Stay chain live None = (chain ≡ []) × ((addr : ℕ) → live addr ≡ None)
Stay chain live (Some last) = FiveFacts chain live last

-- what is live after a chain is exactly what its trace reaches from the root, as the trace says it, and no address that the chain
-- says is gone or was never kept is among it
pub record IsSound (chain : List Cert) (root : ℕ) : Type 0 where
  pub reached : (addr : ℕ) → Has (live_after chain) addr ↔ TraceReached (trace_of chain) root addr
  pub traced : (addr : ℕ) → Has (live_after chain) addr → trace_of chain addr ≡ live_after chain addr
  pub none_deleted : (addr : ℕ) → Deleted chain addr → TraceReached (trace_of chain) root addr → ⊥

-- the addresses that the chain says are gone or were never kept
abbrev pub deleted_addrs : List Cert → List ℕ
deleted_addrs [] = []
deleted_addrs (cert ∷ others) = cert.gone ++ never_addrs cert ++ deleted_addrs others

-- what is said of an accepted chain: the root record's number, the live addresses in order, which are those that the trace reaches
-- from the root record's node and none that the chain says is gone or was never kept, and how many it says that of
pub record IsVerdict (chain : List Cert) (root : Root) (commit : ℕ) (addrs : List ℕ) (deleted : ℕ) : Type 0 where
  pub number : commit ≡ root.commit
  pub ascends : AllPairs (λ one next. one < next) addrs
  pub live : (addr : ℕ) → Contains addrs addr ↔ Has (live_after chain) addr
  pub reached : (addr : ℕ) → Contains addrs addr ↔ TraceReached (trace_of chain) root.addr addr
  pub none_deleted : (addr : ℕ) → Deleted chain addr → Contains addrs addr → ⊥
  pub counted : deleted ≡ length (deleted_addrs chain)
