-- Which keys an image keeps, and that chains of opening reach exactly the tree.
use Rattle.std.specs.Prelude.{◌≡◌, ℕ, List, [], ◌∷◌, Some, All, Contains, map}
use Rattle.sdbt_base.specs.Keys.{bare, IsKeyOf}
use Rattle.platform.specs.Image.{Image}
use Rattle.root_codec.specs.declared.root.Root.{Root}
use Rattle.root_codec.specs.RootRecord.{FitsRoot, root_bytes}
use Rattle.page_store.specs.Tree.{Place, Parts, Tree}
use Rattle.key_graph.specs.Chains.{Link, link}
use Rattle.key_graph.specs.OwnKeys.{HaveOwnKeys}
use Rattle.key_graph.specs.Maps.{ReachesExactly}

-- the addresses of places, each with its key, without the digest
abbrev pub links_of : List Place → List Link
links_of places = map (λ p. link p.addr (bare p.key)) places

-- the cell is this root record
pub record IsRootOf (image : Image) (root : Root) : Type 0 where
  pub cell : image.cell ≡ Some (root_bytes root)
  pub in_range : FitsRoot root
  pub key : IsKeyOf root.version root.key

-- the key of a root record and every key in its tree are listed
pub record KnowsTree (keys : List (List ℕ)) (pages : List (List ℕ)) (root : Root) : Type 0 where
  pub own : Contains keys (bare root.key)
  pub places : (parts : Parts) → Tree pages root parts → All (λ p. Contains keys (bare p.key)) parts.places

-- each recorded page has a key of its own in the list, and what that yields is listed; and where the cell is a root record,
-- its key and every key in its tree are listed
pub record Kept (keys : List (List ℕ)) (image : Image) : Type 0 where
  pub pages : HaveOwnKeys keys image.recorded
  pub cell : (root : Root) → IsRootOf image root → KnowsTree keys image.readable root

-- where the cell is a root record, it has a tree, and chains of opening from its key reach exactly the addresses of that
abbrev pub ReachesTree : Image → Type 0
ReachesTree image =
    (root : Root) → IsRootOf image root
    → (parts : Parts) × Tree image.readable root parts × ReachesExactly (bare root.key ∷ []) image.recorded (links_of parts.places)
