-- What an update makes of the blocks that a tree maps.
use Rattle.std.specs.Prelude.{◌≡◌, ◌≢◌, ℕ, Contains, ◌<◌, List, ◌∷◌, ◌++◌}
use Rattle.std.specs.List.{AllByRecursion}
use Rattle.page_store.specs.Tree.{Mapped}

-- the blocks are those before, with one in its place, and without what was there for it
pub record MapPuts (m : Mapped) (old new : List Mapped) : Type 0 where
  pub front : List Mapped
  pub mid : List Mapped
  pub back : List Mapped
  pub was : old ≡ front ++ (mid ++ back)
  pub now : new ≡ front ++ (m ∷ back)
  pub before : AllByRecursion (λ k. k.block < m.block) front
  pub here : AllByRecursion (λ k. k.block ≡ m.block) mid
  pub after : AllByRecursion (λ k. m.block < k.block) back

-- the blocks are those before, without the one, if it was there
pub record MapTakes (block : ℕ) (old new : List Mapped) : Type 0 where
  pub front : List Mapped
  pub mid : List Mapped
  pub back : List Mapped
  pub was : old ≡ front ++ (mid ++ back)
  pub now : new ≡ front ++ back
  pub before : AllByRecursion (λ k. k.block < block) front
  pub here : AllByRecursion (λ k. k.block ≡ block) mid
  pub after : AllByRecursion (λ k. block < k.block) back

-- the block is among these, or it isn't
abbrev pub HasBlock : ℕ → List Mapped → Type 0
HasBlock block mapped = (m : Mapped) × Contains mapped m × (m.block ≡ block)

abbrev pub LacksBlock : ℕ → List Mapped → Type 0
LacksBlock block mapped = AllByRecursion (λ m. m.block ≢ block) mapped
