-- The levels of a tree, and what an update makes of them: a reshape of flat rows.
use Rattle.std.specs.Prelude.{◌≡◌, ◌⊎◌, ◌==◌, if◌then◌else◌, ℕ, zero, suc, ◌+◌, ◌/◌, ◌<◌, ◌≤◌, List, [], ◌∷◌, ◌++◌, Option, None, Some, length, map}
use Rattle.std.specs.List.{AllByRecursion}
use Rattle.btree_twigs.specs.declared.twigs.Child.{Child, Child-F, out-Child}
use Rattle.btree_twigs.specs.declared.twigs.Child.TheOpen.{Kept, Grown}
use Rattle.btree_twigs.specs.declared.twigs.Child.TheVariants as made
use Rattle.btree_twigs.specs.declared.twigs.Twig.{Twig}
use Rattle.btree_twigs.specs.Stubs.{Stub, start_by, low_of, children_of}

-- a node on its level: its lower bound, and the lows of its entries
pub record Node : Type 0 where
  pub low : ℕ
  pub lows : List ℕ

-- the nodes at each level below a place on the medium; they lie within its bounds
abbrev pub IsMedium : (Stub → ℕ → List Node) → Type 0
IsMedium medium = (s : Stub) (j : ℕ) → AllByRecursion (λ n. (s.low ≤ n.low) × (n.low < s.high)) (medium s j)

-- what each child has, in order
abbrev pub rows_by : (ℕ → Child → List Node) → ℕ → List Child → List Node
rows_by below high [] = []
rows_by below high (c ∷ cs) = below (start_by low_of cs high) c ++ rows_by below high cs

-- the lows of a node's children
abbrev pub lows_of : Twig → List ℕ
lows_of twig = map low_of (children_of twig)

abbrev pub row_in : (Stub → ℕ → List Node) → ℕ → (ℕ → Child → List Node) → ℕ → ℕ → Child-F Child Twig → List Node
row_in medium j below level high (Kept low addr key) = medium (record { level = suc level; low = low; high = high; addr = addr; key = key }) j
row_in medium j below level high (Grown low twig) = if j == suc level then record { low = low; lows = lows_of twig } ∷ [] else rows_by below high (children_of twig)

-- the nodes at level j of a child of a level, up to its bound, from left to right
unfoldable pub row : (Stub → ℕ → List Node) → ℕ → ℕ → ℕ → Child → List Node
row medium j zero high child = []
row medium j (suc level) high child = row_in medium j (row medium j level) level high (out-Child child)

-- those below a node over children of a level
abbrev pub row_below : (Stub → ℕ → List Node) → ℕ → ℕ → ℕ → Twig → List Node
row_below medium j level high twig = rows_by (row medium j level) high (children_of twig)

-- on a row the node on the way to a block is replaced by others
pub record Replaces (block : ℕ) (old new : List Node) (node : Node) (news : List Node) : Type 0 where
  pub front : List Node
  pub back : List Node
  pub was : old ≡ front ++ (node ∷ back)
  pub now : new ≡ front ++ (news ++ back)
  pub before : AllByRecursion (λ n. n.low ≤ block) front
  pub here : node.low ≤ block
  pub after : AllByRecursion (λ n. block < n.low) back

-- a low comes among others, unless it is there
pub record TakesLow (low : ℕ) (old new : List ℕ) : Type 0 where
  pub front : List ℕ
  pub back : List ℕ
  pub now : new ≡ front ++ (low ∷ back)
  pub was : (old ≡ front ++ back) ⊎ (old ≡ new)

-- the node on the way takes the low
pub record FitsAt (order block : ℕ) (old new : List Node) (low : ℕ) : Type 0 where
  pub node : Node
  pub lows : List ℕ
  pub replaces : Replaces block old new node (record { low = node.low; lows = lows } ∷ [])
  pub takes : TakesLow low node.lows lows
  pub few : length lows ≤ order

-- it takes the low and is cut behind the first half of the order
pub record CutAt (order block : ℕ) (old new : List Node) (low part : ℕ) : Type 0 where
  pub node : Node
  pub left : List ℕ
  pub right : List ℕ
  pub replaces : Replaces block old new node (record { low = node.low; lows = left } ∷ record { low = part; lows = part ∷ right } ∷ [])
  pub takes : TakesLow low node.lows (left ++ (part ∷ right))
  pub half : length left ≡ order / 2
  pub rest : length left + suc (length right) ≡ order + 1

-- on so many levels from one on: the node on the way takes the low, and the levels above stay;
-- or it is cut, and the low of the right part goes to the level above.
-- What goes to the level above the last, if anything
unfoldable pub Rises : ℕ → ℕ → (ℕ → List Node) → (ℕ → List Node) → ℕ → ℕ → ℕ → Option ℕ → Type 0
Rises order block old new zero j low out = out ≡ Some low
Rises order block old new (suc n) j low out =
    (FitsAt order block (old j) (new j) low × ((k : ℕ) → j < k → k ≤ j + n → new k ≡ old k) × (out ≡ None))
    ⊎ ((part : ℕ) × CutAt order block (old j) (new j) low part × Rises order block old new n (suc j) part out)

-- what comes to a node from the level below
abbrev pub TakesOut : Option ℕ → List ℕ → List ℕ → Type 0
TakesOut None old new = new ≡ old
TakesOut (Some low) old new = TakesLow low old new

-- the levels below a node rise by a block, and this comes to the node itself
pub record IsRowPut (medium : Stub → ℕ → List Node) (order block level high : ℕ) (old new : Twig) : Type 0 where
  pub out : Option ℕ
  pub rises : Rises order block (λ j. row_below medium j level high old) (λ j. row_below medium j level high new) level 1 block out
  pub takes : TakesOut out (lows_of old) (lows_of new)

-- a node is cut behind the first half of the order: its children are those of both parts, in order
pub record IsCut (order : ℕ) (old new : Twig) (part : Child) : Type 0 where
  pub right : Twig
  pub first : Child
  pub rest : List Child
  pub is : part ≡ made.Grown (low_of part) right
  pub all : children_of old ≡ children_of new ++ children_of right
  pub half : length (children_of new) ≡ order / 2
  pub list : children_of right ≡ first ∷ rest
  pub begins : low_of first ≡ low_of part

-- the levels of a child rise by a block: alone, or with what was cut off it
abbrev pub IsRowPutBelow : (Stub → ℕ → List Node) → ℕ → ℕ → ℕ → ℕ → Child → Child → Option Child → Type 0
IsRowPutBelow medium order block level high old new None = Rises order block (λ j. row medium j level high old) (λ j. row medium j level high new) level 1 block None
IsRowPutBelow medium order block level high old new (Some part) =
    Rises order block (λ j. row medium j level high old) (λ j. row medium j level (low_of part) new ++ row medium j level high part) level 1 block (Some (low_of part))

-- the nodes at each level of a child of a level
abbrev pub rows_at : (Stub → ℕ → List Node) → ℕ → ℕ → Child → ℕ → List Node
rows_at medium level high child j = row medium j level high child

-- the levels of a tree after an insertion are a reshape of those before: they rise up to the root, at its level;
-- where the root is cut there is a new one over the two parts, one level up
abbrev pub Reshape : ℕ → ℕ → ℕ → ℕ → (ℕ → List Node) → (ℕ → List Node) → Type 0
Reshape order block level new_level old new =
    ((new_level ≡ level) × Rises order block old new level 1 block None)
    ⊎ ((new_level ≡ suc level) × ((part : ℕ) × Rises order block old new level 1 block (Some part) × (new (suc level) ≡ record { low = 0; lows = 0 ∷ part ∷ [] } ∷ [])))

-- what a removal makes of the lows of a node: nothing; one is taken out, if it is there; one is lost, or becomes another; so the last one
pub data Change : Type 0 where
  Stays : Change
  Drops : (low : ℕ) → Change
  Loses : (low : ℕ) → Change
  Moves : (low to : ℕ) → Change
  LosesLast : (low : ℕ) → Change
  MovesLast : (low to : ℕ) → Change

abbrev pub Changes : Change → List ℕ → List ℕ → Type 0
Changes Stays old new = new ≡ old
Changes (Drops low) old new = (new ≡ old) ⊎ ((front : List ℕ) × (back : List ℕ) × (old ≡ front ++ (low ∷ back)) × (new ≡ front ++ back))
Changes (Loses low) old new = (front : List ℕ) × (back : List ℕ) × (old ≡ front ++ (low ∷ back)) × (new ≡ front ++ back)
Changes (Moves low to) old new = (front : List ℕ) × (back : List ℕ) × (old ≡ front ++ (low ∷ back)) × (new ≡ front ++ (to ∷ back))
Changes (LosesLast low) old new = old ≡ new ++ (low ∷ [])
Changes (MovesLast low to) old new = (front : List ℕ) × (old ≡ front ++ (low ∷ [])) × (new ≡ front ++ (to ∷ []))

-- the node on the way has enough after the change
pub record KeepsAt (order block : ℕ) (old new : List Node) (change : Change) : Type 0 where
  pub node : Node
  pub lows : List ℕ
  pub replaces : Replaces block old new node (record { low = node.low; lows = lows } ∷ [])
  pub changes : Changes change node.lows lows
  pub enough : order / 2 ≤ length lows

-- a node that is short takes the node that follows: that lends its first entry, where it has one to spare, or the two merge
abbrev pub EvensNext : ℕ → ℕ → List ℕ → Node → List Node → Change → Type 0
EvensNext order low lows other news next =
    ((first : ℕ) × (second : ℕ) × (rest : List ℕ) × (order / 2 < length other.lows) × (other.lows ≡ first ∷ second ∷ rest)
    × (news ≡ record { low = low; lows = lows ++ (first ∷ []) } ∷ record { low = second; lows = second ∷ rest } ∷ []) × (next ≡ Moves other.low second))
    ⊎ ((length other.lows ≤ order / 2) × (news ≡ record { low = low; lows = lows ++ other.lows } ∷ []) × (next ≡ Loses other.low))

-- or, the last of its parent, the one before: that lends its last entry, or the two merge
abbrev pub EvensLast : ℕ → ℕ → List ℕ → Node → List Node → Change → Type 0
EvensLast order low lows other news next =
    ((rest : List ℕ) × (last : ℕ) × (order / 2 < length other.lows) × (other.lows ≡ rest ++ (last ∷ []))
    × (news ≡ record { low = other.low; lows = rest } ∷ record { low = last; lows = last ∷ lows } ∷ []) × (next ≡ MovesLast low last))
    ⊎ ((length other.lows ≤ order / 2) × (news ≡ record { low = other.low; lows = other.lows ++ lows } ∷ []) × (next ≡ LosesLast low))

-- the node on the way is short after the change, and is evened out with a neighbour; the node above changes too
pub record MendedAt (order block : ℕ) (old new : List Node) (change next : Change) : Type 0 where
  pub node : Node
  pub other : Node
  pub lows : List ℕ
  pub news : List Node
  pub front : List Node
  pub back : List Node
  pub changes : Changes change node.lows lows
  pub short : length lows < order / 2
  pub how : ((old ≡ front ++ (node ∷ other ∷ back)) × (block < other.low) × EvensNext order node.low lows other news next)
      ⊎ ((old ≡ front ++ (other ∷ node ∷ back)) × (other.low ≤ block) × EvensLast order node.low lows other news next)
  pub now : new ≡ front ++ (news ++ back)
  pub before : AllByRecursion (λ n. n.low ≤ block) front
  pub here : node.low ≤ block
  pub after : AllByRecursion (λ n. block < n.low) back

-- on so many levels from one on, a change comes to the node on the way: it keeps enough, and the levels above stay;
-- or it is evened out, and the node above changes.
-- What comes to the level above the last
unfoldable pub Sinks : ℕ → ℕ → (ℕ → List Node) → (ℕ → List Node) → ℕ → ℕ → Change → Change → Type 0
Sinks order block old new zero j change out = out ≡ change
Sinks order block old new (suc n) j change out =
    (KeepsAt order block (old j) (new j) change × ((k : ℕ) → j < k → k ≤ j + n → new k ≡ old k) × (out ≡ Stays))
    ⊎ ((next : Change) × MendedAt order block (old j) (new j) change next × Sinks order block old new n (suc j) next out)

-- the levels below a node sink by a block, and this comes to the node itself
pub record IsRowTaken (medium : Stub → ℕ → List Node) (order block level high : ℕ) (old new : Twig) : Type 0 where
  pub out : Change
  pub sinks : Sinks order block (λ j. row_below medium j level high old) (λ j. row_below medium j level high new) level 1 (Drops block) out
  pub changes : Changes out (lows_of old) (lows_of new)

-- below a child in memory
abbrev pub IsRowTakenBy : (Stub → ℕ → List Node) → ℕ → ℕ → ℕ → ℕ → Child-F Child Twig → Child-F Child Twig → Type 0
IsRowTakenBy medium order block level high (Grown low old) (Grown low' new) = (low' ≡ low) × IsRowTaken medium order block level high old new
IsRowTakenBy medium order block level high (Grown low old) (Kept low' addr key) = ⊥
IsRowTakenBy medium order block level high (Kept low addr key) new = ⊥

-- the levels of a tree after a removal are a reshape of those before: they sink up to the root, whose lows change;
-- an inner root that is left with one child gives way to it
pub record ReshapeDown (order block level new_level : ℕ) (old new : ℕ → List Node) : Type 0 where
  pub below : ℕ
  pub level_is : level ≡ suc below
  pub lows : List ℕ
  pub left : List ℕ
  pub out : Change
  pub was : old level ≡ record { low = 0; lows = lows } ∷ []
  pub sinks : Sinks order block old new below 1 (Drops block) out
  pub changes : Changes out lows left
  pub now : ((new_level ≡ level) × (new level ≡ record { low = 0; lows = left } ∷ []) × (1 ≤ below → 2 ≤ length left)) ⊎ ((new_level ≡ below) × (1 ≤ below) × (length left ≡ 1))

-- of two neighbours the right one lends its first child
pub record LendsFirst (order low : ℕ) (xs ys news : List Child) : Type 0 where
  pub first : Child
  pub second : Child
  pub rest : List Child
  pub from : Twig
  pub to : Twig
  pub spare : order / 2 < length ys
  pub list : ys ≡ first ∷ second ∷ rest
  pub is : news ≡ made.Grown low from ∷ made.Grown (low_of second) to ∷ []
  pub left : children_of from ≡ xs ++ (first ∷ [])
  pub right : children_of to ≡ second ∷ rest

-- or the left one its last
pub record LendsLast (order low : ℕ) (xs ys news : List Child) : Type 0 where
  pub rest : List Child
  pub last : Child
  pub from : Twig
  pub to : Twig
  pub none : length ys ≤ order / 2
  pub spare : order / 2 < length xs
  pub list : xs ≡ rest ++ (last ∷ [])
  pub is : news ≡ made.Grown low from ∷ made.Grown (low_of last) to ∷ []
  pub left : children_of from ≡ rest
  pub right : children_of to ≡ last ∷ ys

-- or they merge
pub record Merges (order low : ℕ) (xs ys news : List Child) : Type 0 where
  pub all : Twig
  pub few : length xs ≤ order / 2
  pub none : length ys ≤ order / 2
  pub is : news ≡ made.Grown low all ∷ []
  pub list : children_of all ≡ xs ++ ys

abbrev pub IsEvened : ℕ → ℕ → List Child → List Child → List Child → Type 0
IsEvened order low xs ys news = LendsFirst order low xs ys news ⊎ (LendsLast order low xs ys news ⊎ Merges order low xs ys news)

abbrev pub IsEvenedBy : ℕ → Child-F Child Twig → Child-F Child Twig → List Child → Type 0
IsEvenedBy order (Grown low left) (Grown mid right) news = IsEvened order low (children_of left) (children_of right) news
IsEvenedBy order (Grown low left) (Kept mid addr key) news = ⊥
IsEvenedBy order (Kept low addr key) right news = ⊥
