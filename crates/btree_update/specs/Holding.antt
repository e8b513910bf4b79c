-- What is read for an update.
use Rattle.std.specs.Prelude.{◌≡◌, ℕ, ◌+◌, ◌-◌, ◌<◌, ◌≤◌, List, [], ◌++◌, Option, is_some, length, max, vec_capacity}
use Rattle.std.specs.List.{AllByRecursion, count_by}
use Rattle.std.specs.declared.vec.Vec.{Vec}
use Rattle.std.specs.declared.alloc.Global.{Global}
use Rattle.sdbt_base.specs.Keys.{key_size, version_of}
use Rattle.platform.specs.declared.platforms.Platform.{Ghosts}
use Rattle.node_codec.specs.declared.body.Entry.{Entry}
use Rattle.node_codec.specs.Record.{NodeRecord, FitsNode}
use Rattle.page_store.specs.declared.wants.Want.{Want}
use Rattle.page_store.specs.Places.{IsRecordAt, IsNodeWanted}
use Rattle.btree_twigs.specs.declared.twigs.Child.{Child, out-Child}
use Rattle.btree_twigs.specs.declared.twigs.Twig.{Twig, out-Twig}
use Rattle.btree_twigs.specs.Stubs.{low_of, level_of, children_of, stubs, stubs_below}
use Rattle.btree_twigs.specs.Shape.{IsTwig}
use Rattle.btree_update.specs.Reading.{all_kept}
use Rattle.btree_update.specs.Held.{bound, AreBelow, HasLeast}
use Rattle.btree_update.specs.Roots.{IsRoot}

-- a node in memory, of the version that the key says, that is in range and wanted at a place, with room for one child more than a node may have
pub record IsNodeFor (want : Want) (key : List ℕ) (twig : Twig) : Type 0 where
  pub entries : List Entry
  pub sized : length key ≡ key_size (version_of key)
  pub in_range : FitsNode (version_of key) want.addr want.level entries
  pub wanted : IsNodeWanted want want.level entries
  pub level_is : level_of twig ≡ want.level
  pub children : children_of twig ≡ all_kept entries
  pub room : vec_capacity (out-Twig twig).children ≡ 65

-- its children are what the page at the place says
pub record IsNodeOf (pages : List (List ℕ)) (want : Want) (key : List ℕ) (twig : Twig) : Type 0 where
  pub entries : List Entry
  pub here : IsRecordAt pages want.addr key (NodeRecord want.level entries)
  pub children : children_of twig ≡ all_kept entries

-- a child at a level, on the way to a block, whose node has so many children at least
pub record CanHold (order least level block high head : ℕ) (child : Child) : Type 0 where
  pub one : 1 ≤ level
  pub two : 2 ≤ level → 2 ≤ least
  pub four : 4 ≤ order
  pub most : order ≤ 64
  pub shaped : HasLeast order least (level - 1) high (out-Child child)
  pub from : low_of child ≤ block
  pub to : block < high
  pub size : ℕ
  pub within : AreBelow (bound head size) (stubs level high child)

-- a node over children of a level, on the way to a block
pub record CanHoldBelow (order level block high head : ℕ) (twig : Twig) : Type 0 where
  pub least : ℕ
  pub low : ℕ
  pub two : 1 ≤ level → 2 ≤ least
  pub four : 4 ≤ order
  pub most : order ≤ 64
  pub shaped : IsTwig order level least order low high twig
  pub from : low ≤ block
  pub to : block < high
  pub size : ℕ
  pub within : AreBelow (bound head size) (stubs_below level high twig)

-- a root on the way to a block
pub record CanHoldRoot (order level block high head : ℕ) (top : Child) : Type 0 where
  pub one : 1 ≤ level
  pub four : 4 ≤ order
  pub most : order ≤ 64
  pub shaped : IsRoot order (level - 1) high top
  pub to : block < high
  pub size : ℕ
  pub within : AreBelow (bound head size) (stubs level high top)

-- how many neighbours are held: at a place beside the way there may be none
abbrev pub neighbours_in : List (Option Twig) → ℕ
neighbours_in helpers = count_by is_some helpers

-- so many nodes on the way at most, and so many places beside it, were added to those that were held; no more was read than nodes were added; and where the block
-- isn't mapped, nothing is held beside the way for it
pub record HoldsFew {S : Type 0} (P : Ghosts S) (way beside : ℕ) (platform after : S) (held held_now : List Twig) (helpers helpers_now : List (Option Twig)) (Unmapped : Type 0) : Type 0 where
  pub on_way : length held_now ≤ length held + way
  pub neighbours : length helpers_now ≤ length helpers + beside
  pub reads : P.tells → P.reads after + (length held + neighbours_in helpers) ≤ P.reads platform + (length held_now + neighbours_in helpers_now)
  pub unmapped : Unmapped → helpers_now ≡ helpers

-- so many lists in all at most, or as many as there were: those that are new stand behind the others, each with room for 65 children
pub record AddsSpares (count : ℕ) (old new : List (Vec Child Global)) : Type 0 where
  pub more : List (Vec Child Global)
  pub is : new ≡ old ++ more
  pub few : length more + length old ≤ max count (length old)
  pub rooms : AllByRecursion (λ v. (v.items ≡ []) × (vec_capacity v ≡ 65)) more
