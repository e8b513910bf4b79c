-- The blocks that a tree maps ascend.
use Rattle.std.proofs.Common.{ℕ, List, refl}
use Rattle.page_store.specs.Tree.{Parts, joined}
use Rattle.btree_twigs.specs.Stubs.{Stub, Tiles}
use Rattle.btree_update.proofs.AscendLaws as trees
use Rattle.btree_update.proofs.AscendLaws.{Ascends}
use Rattle.btree_update.specs.GroveTree.{want_in}
use Rattle.grove_accounts.specs.Below.{HaveParts}

-- below places that ascend they do
pub places_up : (pages : List (List ℕ)) (order top low high : ℕ) (ss : List Stub) (ps : List Parts) → Tiles low high ss → HaveParts pages order top ss ps → Ascends low (joined ps).mapped
places_up pages order top low high ss ps tiles h = trees.places_up pages order (want_in order top) (λ s. (refl, refl)) low high ss ps tiles h
