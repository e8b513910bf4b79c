-- What a removal asks of nodes in memory, and what it makes of them.
use Rattle.std.specs.Prelude.{◌≡◌, ◌⊎◌, ℕ, zero, suc, ◌+◌, ◌-◌, ◌/◌, List, [], ◌∷◌, ◌++◌, ◌≤◌, ◌<◌, length}
use Rattle.btree_twigs.specs.declared.twigs.Child.{Child, Child-F, out-Child}
use Rattle.btree_twigs.specs.declared.twigs.Child.TheOpen.{Kept, Grown}
use Rattle.btree_twigs.specs.declared.twigs.Twig.{Twig}
use Rattle.btree_twigs.specs.Stubs.{Takes, start_by, low_of, children_of, stubs, stubs_below, nodes, nodes_below, sum_by}
use Rattle.btree_twigs.specs.Shape.{IsChild, IsTwig}
use Rattle.btree_twigs.specs.Levels.{IsEvenedBy}
use Rattle.btree_twigs.specs.Updates.{IsNode, IsOpen, IsGrown, CanMend, IsMended, stubs_under, width_of, rooms, rooms_below}

-- a leaf without the block's record: it may have one child fewer than it must
pub record IsTaken (order level least low high block : ℕ) (old new : List Child) : Type 0 where
  pub node : IsNode order level (least - 1) order low high new
  pub takes : Takes low high block (stubs_under level high old) (stubs_under level high new)
  pub few : sum_by (nodes level) new ≤ sum_by (nodes level) old
  pub no_more_room : sum_by (rooms level) new ≤ sum_by (rooms level) old

-- a node is in memory
abbrev pub IsHeldIn : {C T : Type 0} → Child-F C T → Type 0
IsHeldIn (Kept low addr key) = ⊥
IsHeldIn (Grown low twig) = Unit {0}

-- the children of a child that is in memory
abbrev pub below_in : Child-F Child Twig → List Child
below_in (Kept low addr key) = []
below_in (Grown low twig) = children_of twig

-- a neighbour is in memory, and has a child to spare, or the node above loses one
abbrev pub Lends : ℕ → ℕ → Child → Type 0
Lends order loses c = IsHeldIn (out-Child c) × ((order / 2 < width_of c) ⊎ (1 ≤ loses))

-- so is the neighbour that follows, or with none the one before
abbrev pub IsHelped : ℕ → ℕ → List Child → List Child → Type 0
IsHelped order loses front (next ∷ back) = Lends order loses next
IsHelped order loses front [] = (others : List Child) (last : Child) → front ≡ others ++ last ∷ [] → Lends order loses last

-- a child keeps enough children, or a neighbour helps out
pub record HelpsOne (Below : List Child → ℕ → Type 0) (order loses : ℕ) (front back : List Child) (c : Child) : Type 0 where
  pub fewer : ℕ
  pub below : Below (below_in (out-Child c)) fewer
  pub helped : (order / 2 + fewer ≤ width_of c) ⊎ IsHelped order loses front back

-- where the record of a block is taken out below these children, their node loses so many of them at most, and each neighbour that is to help out on the way is in memory
unfoldable pub Helps : ℕ → ℕ → ℕ → List Child → ℕ → Type 0
Helps order block zero cs loses = 1 ≤ loses
Helps order block (suc level) cs loses = (front back : List Child) (c : Child) → cs ≡ front ++ c ∷ back → low_of c ≤ block → block < start_by low_of back (suc block) →
    HelpsOne (Helps order block level) order loses front back c

-- two neighbours at a place of a list can be mended
pub record MendsAt (order : ℕ) (cs : List Child) (left : ℕ) : Type 0 where
  pub front : List Child
  pub one : Child
  pub other : Child
  pub back : List Child
  pub is : cs ≡ front ++ one ∷ other ∷ back
  pub at : length front ≡ left
  pub can : CanMend order one other

-- others stand in their place
pub record AreMended (order : ℕ) (cs : List Child) (left : ℕ) (m : MendsAt order cs left) (new : List Child) : Type 0 where
  pub news : List Child
  pub now : new ≡ m.front ++ (news ++ m.back)
  pub some : 1 ≤ length news
  pub few : length news ≤ 2
  pub mended : IsMended order (suc m.can.level) m.can.high m.one m.other news
  pub two : ((order / 2 < width_of m.one) ⊎ (order / 2 < width_of m.other)) → 2 ≤ length news
  pub evened : IsEvenedBy order (out-Child m.one) (out-Child m.other) news

-- a node over children of some level, over bounds that have the block, out of which it can be taken: the way is in memory, and so are the neighbours that are to help out
pub record CanTake (order block : ℕ) (twig : Twig) : Type 0 where
  pub level : ℕ
  pub least : ℕ
  pub low : ℕ
  pub high : ℕ
  pub shaped : IsTwig order level least order low high twig
  pub two : 1 ≤ level → 2 ≤ least
  pub from : low ≤ block
  pub to : block < high
  pub is_open : IsOpen block (stubs_below level high twig)
  pub loses : ℕ
  pub helps : Helps order block level (children_of twig) loses

-- the same of a child that is such a node
pub record CanTakeBelow (order block : ℕ) (child : Child) : Type 0 where
  pub level : ℕ
  pub high : ℕ
  pub shaped : IsChild order (suc level) high child
  pub from : low_of child ≤ block
  pub to : block < high
  pub is_open : IsOpen block (stubs (suc level) high child)
  pub loses : ℕ
  pub helps : Helps order block level (below_in (out-Child child)) loses

-- the node is without the place, and may have one child fewer than it must
pub record IsTwigTaken (order level least low high block loses : ℕ) (old new : Twig) : Type 0 where
  pub shaped : IsTwig order level (least - 1) order low high new
  pub takes : Takes low high block (stubs_below level high old) (stubs_below level high new)
  pub wide : length (children_of old) ≤ length (children_of new) + loses
  pub few : nodes_below level new ≤ nodes_below level old
  pub no_more_room : rooms_below level new ≤ rooms_below level old

-- the child is a node without the place, which may have one child fewer than it must
pub record IsChildTaken (order level high block loses : ℕ) (old new : Child) : Type 0 where
  pub low_is : low_of new ≡ low_of old
  pub grown : IsGrown order level (order / 2 - 1) high new
  pub takes : Takes (low_of old) high block (stubs (suc level) high old) (stubs (suc level) high new)
  pub wide : width_of old ≤ width_of new + loses
  pub few : nodes (suc level) new ≤ nodes (suc level) old
  pub no_more_room : rooms (suc level) new ≤ rooms (suc level) old

-- a list in which the child at a place may be mended with its neighbour
abbrev pub CanMendBeside : ℕ → List Child → ℕ → Type 0
CanMendBeside order cs at =
    (at < length cs) × (2 ≤ length cs) × (suc at < length cs → MendsAt order cs at) × (suc at ≡ length cs → MendsAt order cs (at - 1))
