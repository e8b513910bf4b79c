-- What a certificate says.
use Rattle.std.specs.Prelude.{ℕ, List}
use Rattle.sdbt_base.specs.declared.lists.Unkept.{Unkept}
use Rattle.sdbt_base.specs.Traces.{Traced}

-- a certificate: the commit's number, the head before it and after it, its root node, the addresses that it added with what
-- each of them is, those that it let go, and the data pages that were written before it and are in no tree
pub record Cert : Type 0 where
  pub commit : ℕ
  pub base : ℕ
  pub head : ℕ
  pub root : ℕ
  pub added : List Traced
  pub gone : List ℕ
  pub never : List Unkept
