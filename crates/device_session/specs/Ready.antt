-- What is at hand for an update of a session's tree.
use Rattle.std.specs.Prelude.{ℕ, ◌+◌, Bool, List, Result, IfOk, IsErrOf, IsTrue, cond}
use Rattle.std.specs.Bool.{OnTrue, OnFalse}
use Rattle.page_store.specs.Tree.{Mapped}
use Rattle.btree_walk.specs.Sights.{StandsOver}
use Rattle.btree_update.specs.declared.groves.Grove.{Grove}
use Rattle.btree_update.specs.declared.refusals.ReadyRefusal.{ReadyRefusal}
use Rattle.btree_update.specs.declared.refusals.ReadyRefusal.TheVariants as refusals
use Rattle.btree_update.specs.Maps.{HasBlock, LacksBlock}
use Rattle.btree_update.specs.Groves.{IsReadFrom, IsReadBeside, IsWrongOnWay, GroveMaps}
use Rattle.device_session.specs.Damage.{IsFound}
use Rattle.device_session.specs.Sessions.{Session}

-- over these pages all that an update of the block opens is at hand, and this says whether the tree maps the block
pub record IsReadyFor (pages : List (List ℕ)) (block : ℕ) (grove : Grove) (is_mapped : Bool) : Type 0 where
  pub way : IsReadFrom pages block grove
  pub beside : IsTrue is_mapped → IsReadBeside pages block grove
  pub mapped : (mapped : List Mapped) → GroveMaps pages grove mapped → OnTrue is_mapped (HasBlock block mapped) × OnFalse is_mapped (LacksBlock block mapped)

-- what a look-up brought into memory and answered, over pages that the cache keeps as they are
pub record Readies (pages after : List (List ℕ)) (block : ℕ) (session now : Session) (result : Result Bool ReadyRefusal) : Type 0 where
  pub cached : StandsOver after now.cache
  pub ready : IfOk result (IsReadyFor after block now.grove)
  -- the answer is what a look-up finds
  pub found : IfOk result (λ mapped. IsFound mapped pages session block)
  pub bad : (addr : ℕ) → IsErrOf result (refusals.BadRecord addr) → IsWrongOnWay pages block session.grove addr

-- how many blocks are mapped with one that was mapped, or wasn't
abbrev pub counted_with : Bool → ℕ → ℕ
counted_with is_mapped mapped = cond is_mapped mapped (mapped + 1)
