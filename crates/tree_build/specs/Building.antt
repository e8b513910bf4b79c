-- What a build does: the pages of its nodes come behind what there is, in their order.
use Rattle.std.specs.Prelude.{◌≡◌, ◌≤◌, ◌+◌, ℕ, List, ◌++◌, Option, All, Contains, length}
use Rattle.sdbt_base.specs.Arrays.{Device}
use Rattle.sdbt_base.specs.Keys.{bare, IsKeyOf}
use Rattle.sdbt_base.specs.declared.tapes.Tape.{Ghosts as TapeGhosts}
use Rattle.platform.specs.Image.{Image, with_page}
use Rattle.platform.specs.History.{CellStays}
use Rattle.platform.specs.declared.platforms.Platform.{Ghosts as PlatformGhosts}
use Rattle.node_codec.specs.declared.body.Entry.{Entry}
use Rattle.node_codec.specs.Record.{NodeRecord}
use Rattle.page_store.specs.Keeping.{DrewAll}
use Rattle.page_store.specs.Places.{IsRecordAt}
use Rattle.page_store.specs.Stands.{Stands}
use Rattle.tree_build.specs.declared.shapes.Span.{Span}
use Rattle.tree_build.specs.Shape.{IsShaped, built}
use Rattle.tree_build.specs.Nodes.{AreFrom, AreInOrder, AreNodes, children_in, low_of}

-- the image with these pages more
abbrev pub with_pages : Image → List (List ℕ) → Image
with_pages image pages = record image { recorded = image.recorded ++ pages; readable = image.readable ++ pages }

-- data records of a device's blocks, whose pages are the last that there are; and there is room for the nodes over them
pub record CanBuild (order blocks head capacity : ℕ) (records : List Entry) : Type 0 where
  pub shaped : IsShaped order (length records)
  pub most : blocks ≤ 1048576
  pub in_order : AreInOrder blocks records
  pub first : ℕ
  pub from : AreFrom first records
  pub up_to : first + length records ≡ head
  pub room : head + built order (length records) ≤ capacity

-- the nodes over the data records were made: one page for each, and the items name them behind the data records
pub record Builds (tells : Type 0) (order head head_now : ℕ) (old new : Image) (records items : List Entry) : Type 0 where
  pub nodes : List Entry
  pub items_are : items ≡ records ++ nodes
  pub from : AreFrom head nodes
  pub keys : All (λ (e : Entry). IsKeyOf 2 e.key) nodes
  pub many : length nodes ≡ built order (length records)
  pub head_is : head_now ≡ head + built order (length records)
  pub pages : List (List ℕ)
  pub image : tells → new ≡ with_pages old pages
  pub made : tells → AreNodes new.readable order records nodes

-- a node over the items of a span was made, with one page more, and the entry names it
pub record BuildsNode {S : Type 0} (P : PlatformGhosts S) (platform platform_now : S) (s : Span) (items : List Entry) (entry : Entry) : Type 0 where
  pub low : entry.low ≡ low_of items s
  pub addr : entry.addr ≡ P.head platform
  pub key : IsKeyOf 2 entry.key
  pub head : P.head platform_now ≡ P.head platform + 1
  pub page : List ℕ
  pub image : P.tells → (P.history platform_now).present ≡ with_page (P.history platform).present page page
  pub node : P.tells → IsRecordAt (P.history platform_now).present.readable entry.addr entry.key (NodeRecord s.level (children_in items s))

-- the image stands, and the key of each item is listed, without its digest
pub record KnowsItems (image : Image) (items : List Entry) (keys : List (List ℕ)) : Type 0 where
  pub device : Option Device
  pub stands : Stands image device
  pub listed : All (λ (e : Entry). Contains keys (bare e.key)) items

-- so many keys were drawn at most
abbrev pub DrewFew : ℕ → Option (List (List ℕ)) → Option (List (List ℕ)) → Type 0
DrewFew most drawn drawn_now = (keys : List (List ℕ)) × DrewAll drawn keys drawn_now × (length keys ≤ most)

-- beside its purpose a call adds at most so many pages, draws no more keys than that, and reads at most so many pages: at each moment the cell is the one from
-- before, nothing is synced, and counts of reads and of faults don't fall
pub record OnlyAdds {S R : Type 0} (P : PlatformGhosts S) (T : TapeGhosts R) (most reads : ℕ) (platform platform_now : S) (tape tape_now : R) : Type 0 where
  pub cell : P.tells → CellStays (P.history platform) (P.history platform_now)
  pub rises : P.head platform ≤ P.head platform_now
  pub at_most : P.head platform_now ≤ P.head platform + most
  pub capacity : P.capacity platform_now ≡ P.capacity platform
  pub draws : DrewFew most (T.drawn tape) (T.drawn tape_now)
  pub reads_rise : P.tells → P.reads platform ≤ P.reads platform_now
  pub reads_most : P.tells → P.reads platform_now ≤ P.reads platform + reads
  pub changes : P.tells → P.changes platform_now ≡ P.changes platform
  pub platform_faults : P.faults platform ≤ P.faults platform_now
  pub tape_faults : T.faults tape ≤ T.faults tape_now
