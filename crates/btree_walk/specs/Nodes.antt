-- The nodes of a tree, above its data records: what a walk over them meets, in order, and where it stops.
use Rattle.std.specs.Prelude.{◌≡◌, ◌≤◌, ◌⊎◌, ◌==◌, ◌+◌, ℕ, zero, suc, List, [], ◌∷◌, ◌++◌, length, if◌then◌else◌}
use Rattle.std.specs.List.{flat_map}
use Rattle.node_codec.specs.declared.body.Entry.{Entry}
use Rattle.node_codec.specs.Record.{NodeRecord}
use Rattle.root_codec.specs.declared.root.Root.{Root}
use Rattle.page_store.specs.declared.wants.Want.{Want}
use Rattle.page_store.specs.Places.{FitsAt, root_want, child_want}
use Rattle.page_store.specs.Tree.{bound_of, IsMisfit}
use Rattle.btree_walk.specs.declared.branches.Branch.{Branch}

-- a node of a tree: the address of its page, its level and its entries
pub record Node : Type 0 where
  pub addr : ℕ
  pub level : ℕ
  pub entries : List Entry

abbrev pub node_at : ℕ → ℕ → List Entry → Node
node_at addr level entries = record { addr = addr; level = level; entries = entries }

-- what is wanted below the entries of a node, at this level, each with its key
abbrev pub branches : ℕ → ℕ → ℕ → List Entry → List Branch
branches order level high [] = []
branches order level high (entry ∷ entries) =
    record { want = child_want order level entry (bound_of entries high); key = entry.key } ∷ branches order level high entries

-- a list whose first part is of the one, and whose rest is of the others
pub record IsJoined (First Rest : List Node → Type 0) (nodes : List Node) : Type 0 where
  pub first : List Node
  pub rest : List Node
  pub one : First first
  pub others : Rest rest
  pub is : nodes ≡ first ++ rest

-- what neighbours have, one after the other
abbrev pub Joined : (Branch → List Node → Type 0) → List Branch → List Node → Type 0
Joined Below [] nodes = nodes ≡ []
Joined Below (branch ∷ others) nodes = IsJoined (Below branch) (Joined Below others) nodes

-- a node that fits, and then the nodes below its entries
pub record IsNodeOver (pages : List (List ℕ)) (Below : Branch → List Node → Type 0) (order level : ℕ) (want : Want) (key : List ℕ) (nodes : List Node) : Type 0 where
  pub entries : List Entry
  pub fits : FitsAt pages want key (NodeRecord (suc level) entries)
  pub below : List Node
  pub each : Joined Below (branches order level want.high entries) below
  pub is : nodes ≡ node_at want.addr (suc level) entries ∷ below

-- from a place of a level on, each node fits, and these are they, each before those below it; a data record has none
unfoldable pub Nodes : List (List ℕ) → ℕ → ℕ → Want → List ℕ → List Node → Type 0
Nodes pages order zero want key nodes = nodes ≡ []
Nodes pages order (suc level) want key nodes = IsNodeOver pages (λ b. Nodes pages order level b.want b.key) order level want key nodes

-- each node of the tree of a root record fits, and these are they, each before those below it
abbrev pub NodesOf : List (List ℕ) → Root → List Node → Type 0
NodesOf pages root nodes = Nodes pages root.order root.level (root_want root) root.key nodes

-- the entries of the leaves, in order
abbrev pub listed : List Node → List Entry
listed nodes = flat_map (λ n. if n.level == 1 then n.entries else []) nodes

-- a node that fits, below whose first entries each node fits, and where it is so below the next one
pub record StopsLater (pages : List (List ℕ)) (Stops : Branch → Type 0) (order level : ℕ) (want : Want) (key : List ℕ) : Type 0 where
  pub entries : List Entry
  pub fits : FitsAt pages want key (NodeRecord (suc level) entries)
  pub before : List Branch
  pub branch : Branch
  pub after : List Branch
  pub split : branches order level want.high entries ≡ before ++ branch ∷ after
  pub met : List Node
  pub each : Joined (λ b. Nodes pages order level b.want b.key) before met
  pub stops : Stops branch

-- from a place of a level on, the first node that doesn't fit has this address
unfoldable pub FirstWrong : List (List ℕ) → ℕ → ℕ → ℕ → Want → List ℕ → Type 0
FirstWrong pages addr order zero want key = ⊥
FirstWrong pages addr order (suc level) want key =
    IsMisfit pages addr want key ⊎ StopsLater pages (λ b. FirstWrong pages addr order level b.want b.key) order level want key

-- a node that fits, below whose first entries all nodes were met, and below the next one these
pub record CutBelow (pages : List (List ℕ)) (Cut : Branch → List Node → Type 0) (order level : ℕ) (want : Want) (key : List ℕ) (met : List Node) : Type 0 where
  pub entries : List Entry
  pub fits : FitsAt pages want key (NodeRecord (suc level) entries)
  pub before : List Branch
  pub branch : Branch
  pub after : List Branch
  pub split : branches order level want.high entries ≡ before ++ branch ∷ after
  pub whole : List Node
  pub each : Joined (λ b. Nodes pages order level b.want b.key) before whole
  pub last : List Node
  pub cut : Cut branch last
  pub is : met ≡ node_at want.addr (suc level) entries ∷ (whole ++ last)

-- from a place of a level on these nodes fit, and are the first ones, each before those below it
unfoldable pub FirstNodes : List (List ℕ) → ℕ → ℕ → Want → List ℕ → List Node → Type 0
FirstNodes pages order zero want key met = met ≡ []
FirstNodes pages order (suc level) want key met = (met ≡ []) ⊎ CutBelow pages (λ b. FirstNodes pages order level b.want b.key) order level want key met

-- of the nodes of the tree of a root record, in their order, the first one that doesn't fit has this address
abbrev pub FirstWrongOf : List (List ℕ) → Root → ℕ → Type 0
FirstWrongOf pages root addr = FirstWrong pages addr root.order root.level (root_want root) root.key

-- whatever nodes the one had gathered of, the other has gathered of these behind them
abbrev pub Adds : {S : Type 0} → (S → List Node → Type 0) → S → S → List Node → Type 0
Adds holds old new nodes = (before : List Node) → holds old before → holds new (before ++ nodes)

-- the nodes from a place on were met, by one read each, and this is so of them
pub record Meets (pages : List (List ℕ)) (want : Want) (key : List ℕ) (Of : List Node → Type 0) (reads_old reads_new : ℕ) : Type 0 where
  pub nodes : List Node
  pub are : Nodes pages want.most want.level want key nodes
  pub of : Of nodes
  pub reads : reads_new ≡ reads_old + length nodes

-- what is listed is what the nodes of a tree have, in their order, by one read each
pub record Lists {A : Type 0} (pages : List (List ℕ)) (root : Root) (has : List Node → List A) (reads_old reads_new : ℕ) (list : List A) : Type 0 where
  pub nodes : List Node
  pub are : NodesOf pages root nodes
  pub is : list ≡ has nodes
  pub reads : reads_new ≡ reads_old + length nodes

-- a walk from a place on was cut short: it met some nodes, the first ones, by one read each, and made one read more at most
pub record CutShort (pages : List (List ℕ)) (want : Want) (key : List ℕ) (reads_old reads_new : ℕ) : Type 0 where
  pub nodes : List Node
  pub are : FirstNodes pages want.most want.level want key nodes
  pub reads : reads_new ≤ reads_old + length nodes + 1
