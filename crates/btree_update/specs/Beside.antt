-- What a removal may need beside the way to its block: the nodes of neighbours that are to lend a child or to merge.
use Rattle.std.specs.Prelude.{◌≡◌, ◌⊎◌, ℕ, Contains, zero, suc, ◌+◌, ◌/◌, ◌<◌, ◌≤◌, List, [], ◌∷◌, ◌++◌, Option, None, Some, Bool, true, false, IsTrue, length}
use Rattle.btree_twigs.specs.declared.twigs.Child.{Child, Child-F, out-Child}
use Rattle.btree_twigs.specs.declared.twigs.Child.TheOpen.{Kept, Grown}
use Rattle.btree_twigs.specs.declared.twigs.Twig.{Twig}
use Rattle.btree_twigs.specs.Stubs.{Stub, start_by, low_of, children_of, stubs, stubs_below, nodes_below}
use Rattle.btree_twigs.specs.Levels.{lows_of}
use Rattle.btree_twigs.specs.Shape.{IsChild, IsTwig}
use Rattle.btree_update.specs.declared.siblings.Left.{Left}
use Rattle.btree_update.specs.declared.siblings.Left.TheVariants.{Unmapped, Enough, Short}
use Rattle.page_store.specs.Tree.{Mapped}
use Rattle.btree_update.specs.Maps.{HasBlock, LacksBlock}
use Rattle.btree_update.specs.Held.{stub_at, bound, AreBelow, AnyRead, IsReadAs}

-- a node that was read for a place
pub record IsNodeAt (Reads : ℕ → Stub → Twig → Type 0) (order below low high addr : ℕ) (key : List ℕ) (twig : Twig) : Type 0 where
  pub reads : Reads below (stub_at (suc below) low high addr key) twig
  pub shaped : IsTwig order below (order / 2) order low high twig
  pub bare : nodes_below below twig ≡ 0
  pub lower : AreBelow (bound addr (length key)) (stubs_below below high twig)

-- how many children a node loses of which a child is short, where a neighbour lends it one, or else the two merge
abbrev pub loses_for : Bool → ℕ
loses_for true = 0
loses_for false = 1

-- a node with so many children has one to spare, and the node above loses none; or it has none, and the node above loses one
abbrev pub Spares : ℕ → ℕ → ℕ → Type 0
Spares order loses width = ((order / 2 < width) × (loses ≡ 0)) ⊎ ((width ≤ order / 2) × (loses ≡ 1))

-- a neighbour helps out: it is in memory, or else its node is held
abbrev pub LendsFrom : (ℕ → Stub → Twig → Type 0) → ℕ → ℕ → ℕ → ℕ → Child-F Child Twig → Option Twig → Type 0
LendsFrom Reads order below loses high (Kept low addr key) None = ⊥
LendsFrom Reads order below loses high (Kept low addr key) (Some node) = IsNodeAt Reads order below low high addr key node × Spares order loses (length (children_of node))
LendsFrom Reads order below loses high (Grown low twig) None = Spares order loses (length (children_of twig))
LendsFrom Reads order below loses high (Grown low twig) (Some node) = ⊥

-- so does the neighbour that follows, or with none the one before
abbrev pub HasHelp : (ℕ → Stub → Twig → Type 0) → ℕ → ℕ → ℕ → ℕ → List Child → Child → List Child → Option Twig → Type 0
HasHelp Reads order below loses high front c (next ∷ back) one = LendsFrom Reads order below loses (start_by low_of back high) (out-Child next) one
HasHelp Reads order below loses high front c [] one = (others : List Child) (last : Child) → front ≡ others ++ last ∷ [] → LendsFrom Reads order below loses (low_of c) (out-Child last) one

-- a child with so many children that loses some keeps enough, and nothing is held for it; or it is short, and a neighbour helps out
abbrev pub KeepsOrHasHelp : (ℕ → Stub → Twig → Type 0) → ℕ → ℕ → ℕ → ℕ → ℕ → ℕ → List Child → Child → List Child → Option Twig → Type 0
KeepsOrHasHelp Reads order below fewer width loses high front c back one =
    ((one ≡ None) × (order / 2 + fewer ≤ width) × (loses ≡ 0)) ⊎ ((width < order / 2 + fewer) × HasHelp Reads order below loses high front c back one)

-- a neighbour is held last just where the child on the way falls short and it isn't in memory; what is held for the nodes below stands before it
pub record HelpsBeside (Reads : ℕ → Stub → Twig → Type 0) (order below width high : ℕ) (front : List Child) (c : Child) (back : List Child) (Below : List (Option Twig) → ℕ → Type 0) (beside : List (Option Twig)) (loses : ℕ) : Type 0 where
  pub rest : List (Option Twig)
  pub one : Option Twig
  pub is : beside ≡ rest ++ one ∷ []
  pub fewer : ℕ
  pub lower : Below rest fewer
  pub helped : KeepsOrHasHelp Reads order below fewer width loses high front c back one

-- the node of a child: the one that is held last, where it isn't in memory
abbrev pub IsNodeHeld : Child-F Child Twig → Twig → List Twig → List Twig → Type 0
IsNodeHeld (Kept low addr key) node held left = held ≡ left ++ node ∷ []
IsNodeHeld (Grown low twig) node held left = (node ≡ twig) × (left ≡ held)

-- for the child on the way
pub record HelpsOnWay (Reads : ℕ → Stub → Twig → Type 0) (order below high : ℕ) (front : List Child) (c : Child) (back : List Child) (Below : ℕ → Twig → List Twig → List (Option Twig) → ℕ → Type 0) (held : List Twig) (beside : List (Option Twig)) (loses : ℕ) : Type 0 where
  pub node : Twig
  pub left : List Twig
  pub is_node : IsNodeHeld (out-Child c) node held left
  pub helps : HelpsBeside Reads order below (length (children_of node)) high front c back (Below (start_by low_of back high) node left) beside loses

-- a leaf has the data record of a block
abbrev pub HasRecord : ℕ → Twig → Type 0
HasRecord block twig = Contains (lows_of twig) block

-- below a node over children of this level a leaf has the block's record; without it the node loses so many children, and each neighbour that is to help out below it is in memory or held, the topmost last
unfoldable pub HelpsBelow : (ℕ → Stub → Twig → Type 0) → ℕ → ℕ → ℕ → ℕ → Twig → List Twig → List (Option Twig) → ℕ → Type 0
HelpsBelow Reads order block zero high twig held beside loses = (loses ≡ 1) × HasRecord block twig
HelpsBelow Reads order block (suc level) high twig held beside loses = (front back : List Child) (c : Child) → children_of twig ≡ front ++ c ∷ back → low_of c ≤ block → block < start_by low_of back high →
    HelpsOnWay Reads order level high front c back (HelpsBelow Reads order block level) held beside loses

-- the same of a child over children of this level
pub record HelpsFrom (Reads : ℕ → Stub → Twig → Type 0) (order block below high : ℕ) (c : Child) (held : List Twig) (beside : List (Option Twig)) (loses : ℕ) : Type 0 where
  pub node : Twig
  pub left : List Twig
  pub is_node : IsNodeHeld (out-Child c) node held left
  pub helps : HelpsBelow Reads order block below high node left beside loses

-- and of a node with so many children
pub record HelpsWide (Reads : ℕ → Stub → Twig → Type 0) (order block below high width : ℕ) (c : Child) (held : List Twig) (beside : List (Option Twig)) (loses : ℕ) : Type 0 where
  pub from : HelpsFrom Reads order block below high c held beside loses
  pub wide : length (children_of from.node) ≡ width

-- what these pages say, at such a place
abbrev pub IsReadWhere : List (List ℕ) → (Stub → Bool) → ℕ → ℕ → Stub → Twig → Type 0
IsReadWhere pages may order below stub twig = IsReadAs pages order below stub twig × IsTrue (may stub)

-- where nodes are read from
pub data Source : Type 0 where
  Anywhere : Source
  Over : (pages : List (List ℕ)) (may : Stub → Bool) → Source

abbrev pub ReadOver : Source → ℕ → ℕ → Stub → Twig → Type 0
ReadOver Anywhere order = AnyRead
ReadOver (Over pages may) order = IsReadWhere pages may order

-- what a removal leaves of a node with so many children: nothing is said where the block isn't mapped; else it keeps enough, or is short
abbrev pub IsLeft : (ℕ → Type 0) → ℕ → ℕ → Left → Type 0
IsLeft Helps order width Unmapped = Unit {0}
IsLeft Helps order width Enough = (loses : ℕ) × Helps loses × (order / 2 + loses ≤ width)
IsLeft Helps order width Short = (loses : ℕ) × Helps loses × (width < order / 2 + loses)

-- the same of the node of a child over children of this level
pub record LeftOf (Reads : ℕ → Stub → Twig → Type 0) (order block below high : ℕ) (c : Child) (held : List Twig) (beside : List (Option Twig)) (after : Left) : Type 0 where
  pub node : Twig
  pub rest : List Twig
  pub is_node : IsNodeHeld (out-Child c) node held rest
  pub left : IsLeft (λ loses. HelpsBelow Reads order block below high node rest beside loses) order (length (children_of node)) after

-- what is left of a node with so many children, which loses so many of them
abbrev pub IsAfter : ℕ → ℕ → ℕ → Left → Type 0
IsAfter order width loses Unmapped = ⊥
IsAfter order width loses Enough = order / 2 + loses ≤ width
IsAfter order width loses Short = width < order / 2 + loses

-- help for a child that is short is in memory or held, and this is left of its node
pub record HoldsHelp (Reads : ℕ → Stub → Twig → Type 0) (order below width high : ℕ) (front : List Child) (c : Child) (back : List Child) (old new : List (Option Twig)) (after : Left) : Type 0 where
  pub one : Option Twig
  pub is : new ≡ old ++ one ∷ []
  pub loses : ℕ
  pub few : loses ≤ 1
  pub helped : HasHelp Reads order below loses high front c back one
  pub left : IsAfter order width loses after

-- what is held beside a child of a node, by what is left of the child, and what is left of the node
abbrev pub HoldsBeside : (ℕ → Stub → Twig → Type 0) → ℕ → ℕ → ℕ → ℕ → List Child → Child → List Child → List (Option Twig) → List (Option Twig) → Left → Left → Type 0
HoldsBeside Reads order below width high front c back old new Unmapped after = after ≡ Unmapped
HoldsBeside Reads order below width high front c back old new Enough after = (new ≡ old ++ None ∷ []) × IsAfter order width 0 after
HoldsBeside Reads order below width high front c back old new Short after = HoldsHelp Reads order below width high front c back old new after

-- a neighbour over children of some level, whose node can be read
pub record CanRead (order level high head : ℕ) (child : Child) : Type 0 where
  pub below : ℕ
  pub level_is : level ≡ suc below
  pub four : 4 ≤ order
  pub most : order ≤ 64
  pub shaped : IsChild order level high child
  pub starts : low_of child < high
  pub size : ℕ
  pub within : AreBelow (bound head size) (stubs level high child)

-- a removal leaves all where the block isn't mapped, and there alone
abbrev pub IsMappedBy : ℕ → List Mapped → Left → Type 0
IsMappedBy block mapped Unmapped = LacksBlock block mapped
IsMappedBy block mapped Enough = HasBlock block mapped
IsMappedBy block mapped Short = HasBlock block mapped
