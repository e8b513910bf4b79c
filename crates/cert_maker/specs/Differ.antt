-- What two trees say for a certificate, as lists in any order.
use Rattle.std.specs.Prelude.{◌≡◌, ◌↔◌, ℕ, List, None, Some, Contains}
use Rattle.sdbt_base.specs.declared.lists.Unkept.{Unkept}
use Rattle.key_graph.specs.Trace.{Entries, Has}
use Rattle.sdbt_base.specs.Traces.{Traced}

-- the lists have what is in the new tree alone, what is in the old tree alone, and the data pages in neither
pub record Differ (old new : Entries) (pages : List Unkept) (added : List Traced) (gone : List ℕ) (never : List Unkept) : Type 0 where
  pub in_new : (traced : Traced) → Contains added traced ↔ ((new traced.addr ≡ Some traced.trace) × (old traced.addr ≡ None))
  pub in_old : (addr : ℕ) → Contains gone addr ↔ (Has old addr × (new addr ≡ None))
  pub in_neither : (page : Unkept) → Contains never page ↔ (Contains pages page × (old page.addr ≡ None) × (new page.addr ≡ None))
