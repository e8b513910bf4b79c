-- The certificate of a commit, from the tree before it and the tree after it.
use Rattle.std.specs.Prelude.{◌≡◌, ◌↔◌, ◌<◌, ℕ, List, None, Some, Contains, AllPairs}
use Rattle.sdbt_base.specs.declared.lists.Unkept.{Unkept}
use Rattle.key_graph.specs.Trace.{Entries, Has, entry_in}
use Rattle.sdbt_base.specs.Traces.{TraceEntry}
use Rattle.cert_maker.specs.Cert.{Cert}

-- the certificate has these numbers; it adds the entries of the new tree whose addresses aren't in the old one, lets go the
-- addresses of the old tree that aren't in the new one, and says of the data pages in neither tree that they were never kept
pub record CertOf (old new : Entries) (commit root base head : ℕ) (pages : List Unkept) (cert : Cert) : Type 0 where
  pub numbered : cert.commit ≡ commit
  pub rooted : cert.root ≡ root
  pub begins : cert.base ≡ base
  pub ends : cert.head ≡ head
  pub added : (addr : ℕ) (trace : TraceEntry) → (entry_in cert.added addr ≡ Some trace) ↔ ((new addr ≡ Some trace) × (old addr ≡ None))
  pub gone : (addr : ℕ) → Contains cert.gone addr ↔ (Has old addr × (new addr ≡ None))
  pub never : (page : Unkept) → Contains cert.never page ↔ (Contains pages page × (old page.addr ≡ None) × (new page.addr ≡ None))
  pub added_ascend : AllPairs (λ one next. one.addr < next.addr) cert.added
  pub gone_ascend : AllPairs (λ one next. one < next) cert.gone
  pub never_ascend : AllPairs (λ one next. one.addr < next.addr) cert.never
