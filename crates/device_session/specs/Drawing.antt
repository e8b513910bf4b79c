-- Which page and key a session's tree names for a block.
use Rattle.std.specs.Prelude.{ℕ, List, Option, Contains}
use Rattle.sdbt_base.specs.Keys.{bare}
use Rattle.sdbt_base.specs.Told.{Drew}
use Rattle.btree_twigs.specs.Stubs.{Stub, datum}

-- one key was drawn, and among these places the block's data record is at this page, under the key, perhaps with a
-- digest
pub record NamesPage (drawn drawn_now : Option (List (List ℕ))) (places : List Stub) (block addr : ℕ) : Type 0 where
  pub key : List ℕ
  pub drew : Drew drawn (bare key) drawn_now
  pub place : Contains places (datum block addr key)
