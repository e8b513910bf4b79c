-- Which addresses are deleted, and stay so.
use Rattle.std.specs.Prelude.{◌≡◌, ◌≤◌, ◌<◌, ◌-◌, ◌↔◌, ◌⊎◌, ℕ, List, [], ◌∷◌, Contains, length, take, drop}
use Rattle.std.specs.Option.{option_map_or}
use Rattle.std.specs.Int.{w64, from_be_bytes}
use Rattle.sdbt_base.specs.Keys.{bare}
use Rattle.platform.specs.Image.{Image}
use Rattle.platform.specs.History.{History, During, Turns, image_at, moment}
use Rattle.platform.specs.Runs.{floor_at, StaysDeleted}
use Rattle.root_codec.specs.declared.root.Root.{Root}
use Rattle.key_graph.specs.Chains.{Reached}
use Rattle.key_graph.specs.Maps.{addresses_of}
use Rattle.page_store.specs.Tree.{Place, Parts, Tree}
use Rattle.page_store.specs.Kept.{links_of, IsRootOf}
use Rattle.page_store.specs.Stands.{IsSound}

-- an address of the tree of the root record in the cell
pub record IsInTree (image : Image) (addr : ℕ) : Type 0 where
  pub root : Root
  pub parts : Parts
  pub is : IsRootOf image root
  pub tree : Tree image.readable root parts
  pub has : Contains (addresses_of (links_of parts.places)) addr

-- an address at which a chain of opening from the key in the cell ends
pub record IsReached (image : Image) (addr : ℕ) : Type 0 where
  pub root : Root
  pub is : IsRootOf image root
  pub reached : Reached (bare root.key ∷ []) image.recorded addr

-- the head field of a root record's bytes
abbrev pub head_in : List ℕ → ℕ
head_in bytes = from_be_bytes w64 (take 8 (drop 80 bytes))

-- the floor of a moment of a run: see `floor_at`
abbrev pub floor_of : History → History → ℕ → ℕ
floor_of old new i = floor_at head_in new (moment old) (i - moment old)

-- the head field of the root record, or, with an empty cell, how many pages there are
abbrev pub low_of : Image → ℕ
low_of image = option_map_or head_in image.cell (length image.recorded)

-- a place of the tree of the root record in the cell
pub record HasPlace (image : Image) (place : Place) : Type 0 where
  pub root : Root
  pub parts : Parts
  pub is : IsRootOf image root
  pub tree : Tree image.readable root parts
  pub has : Contains parts.places place

-- a root record that replaced what was in the cell: its node is a page from behind the old root record, its head field is the number of
-- pages, and no place of its tree is where the old root node is
pub record IsNewRoot (old new : Image) (root : Root) : Type 0 where
  pub node : low_of old ≤ root.addr
  pub head : root.head ≡ length new.recorded
  pub gone : (former : Root) → IsRootOf old former → IsInTree new former.addr → ⊥

-- one image comes after another by a call: what its tree has below the old head it has from the old tree, with its key and with what a trace says of
-- it; and its root record is the old one, or a new one
pub record Succeeds (old new : Image) : Type 0 where
  pub rises : low_of old ≤ low_of new
  pub kept : (place : Place) → HasPlace new place → place.addr < low_of old → HasPlace old place
  pub root : (root : Root) → IsRootOf new root → IsRootOf old root ⊎ IsNewRoot old new root

-- at each moment the image stands, the cell changes at most once, and the image at the end succeeds the one from before
pub record Forgets (old new : History) : Type 0 where
  pub sound : During old new IsSound
  pub turns : Turns old new (λ image. image.cell ≡ old.present.cell) (λ image. image.cell ≡ new.present.cell)
  pub succeeds : Succeeds old.present new.present

-- over a run floors never fall, and the tree of a later moment has, below an earlier floor, only addresses of the earlier tree
abbrev pub KeepsDeleted : History → History → Type 0
KeepsDeleted old new = StaysDeleted old new (floor_of old new) IsInTree IsInTree

-- the same of all that is reached
abbrev pub NeverReached : History → History → Type 0
NeverReached old new = StaysDeleted old new (floor_of old new) IsReached IsInTree

-- chains of opening from the key that was in the cell at a moment end, over the pages of each later one, at exactly the addresses of
-- the tree of that moment
abbrev pub ReachesStill : History → History → Type 0
ReachesStill old new =
    (i j : ℕ) → moment old ≤ i → i ≤ j → j ≤ moment new → (root : Root) → IsRootOf (image_at new i) root
    → (addr : ℕ) → Reached (bare root.key ∷ []) (image_at new j).recorded addr ↔ IsInTree (image_at new i) addr
