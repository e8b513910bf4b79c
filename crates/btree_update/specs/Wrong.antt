-- Where the way to a block comes to a wrong place.
use Rattle.std.specs.Prelude.{◌≡◌, ◌⊎◌, ℕ, zero, suc, ◌/◌, ◌<◌, ◌≤◌, List, [], ◌∷◌, ◌++◌}
use Rattle.node_codec.specs.declared.body.Entry.{Entry}
use Rattle.node_codec.specs.Record.{NodeRecord}
use Rattle.page_store.specs.declared.wants.Want.{Want}
use Rattle.page_store.specs.Places.{FitsAt, NothingFits, child_want}
use Rattle.btree_twigs.specs.declared.twigs.Child.{Child, Child-F, out-Child}
use Rattle.btree_twigs.specs.declared.twigs.Child.TheOpen.{Kept, Grown}
use Rattle.btree_twigs.specs.declared.twigs.Twig.{Twig}
use Rattle.btree_twigs.specs.Stubs.{start_by, low_of, children_of}
use Rattle.btree_update.specs.GroveTree.{want_of, want_at}
use Rattle.btree_update.specs.Held.{stub_at}

-- nothing fits at a place, which has this address
abbrev pub IsWrongAt : List (List ℕ) → ℕ → Want → List ℕ → Type 0
IsWrongAt pages addr want key = (addr ≡ want.addr) × NothingFits pages want key

-- the neighbour of a child of a node is wrong: the one that follows, or where there is none the one before
abbrev pub IsWrongBeside : {C : Type 0} → (C → ℕ) → (ℕ → C → Type 0) → ℕ → List C → C → List C → Type 0
IsWrongBeside {C} low Wrong high front c (next ∷ back) = Wrong (start_by low back high) next
IsWrongBeside {C} low Wrong high front c [] = (others : List C) × (last : C) × (front ≡ others ++ last ∷ []) × Wrong (low c) last

abbrev pub entry_low : Entry → ℕ
entry_low e = e.low

-- nothing fits at the place of an entry, which is a node at this level
abbrev pub IsWrongEntry : List (List ℕ) → ℕ → ℕ → ℕ → ℕ → Entry → Type 0
IsWrongEntry pages order addr level high e = (1 ≤ level) × IsWrongAt pages addr (child_want order level e high) e.key

-- from a place on, the way of the block goes through nodes that fit to a place at this address, or to the neighbour of one, where nothing fits
pub data ComesToWrong (pages : List (List ℕ)) (order block addr : ℕ) : Want → List ℕ → Type 0 where
  Here : {want : Want} {key : List ℕ} → IsWrongAt pages addr want key → ComesToWrong pages order block addr want key
  Below : {want : Want} {key : List ℕ} (level : ℕ) (front : List Entry) (e : Entry) (back : List Entry) → FitsAt pages want key (NodeRecord (suc level) (front ++ e ∷ back)) → 1 ≤ level →
      e.low ≤ block → block < start_by entry_low back want.high → ComesToWrong pages order block addr (child_want order level e (start_by entry_low back want.high)) e.key → ComesToWrong pages order block addr want key
  Beside : {want : Want} {key : List ℕ} (level : ℕ) (front : List Entry) (e : Entry) (back : List Entry) → FitsAt pages want key (NodeRecord (suc level) (front ++ e ∷ back)) →
      e.low ≤ block → block < start_by entry_low back want.high → IsWrongBeside entry_low (IsWrongEntry pages order addr level) want.high front e back → ComesToWrong pages order block addr want key

-- nothing fits at the place of a child on the medium, which is a node at this level
abbrev pub IsWrongIn : List (List ℕ) → ℕ → ℕ → ℕ → ℕ → Child-F Child Twig → Type 0
IsWrongIn pages order addr level high (Kept low at key) = (1 ≤ level) × IsWrongAt pages addr (want_of order (stub_at level low high at key)) key
IsWrongIn pages order addr level high (Grown low twig) = ⊥

abbrev pub IsWrongChild : List (List ℕ) → ℕ → ℕ → ℕ → ℕ → Child → Type 0
IsWrongChild pages order addr level high child = IsWrongIn pages order addr level high (out-Child child)

-- below a node in memory the way goes on so from the child on the way, or the neighbour of that child is wrong
pub record WrongBelow (pages : List (List ℕ)) (order block addr : ℕ) (Rest : ℕ → Child → Type 0) (level high : ℕ) (twig : Twig) : Type 0 where
  pub front : List Child
  pub child : Child
  pub back : List Child
  pub is : children_of twig ≡ front ++ child ∷ back
  pub from : low_of child ≤ block
  pub to : block < start_by low_of back high
  pub comes : Rest (start_by low_of back high) child ⊎ IsWrongBeside low_of (IsWrongChild pages order addr level) high front child back

abbrev pub WrongChildBy : List (List ℕ) → ℕ → ℕ → ℕ → ℕ → (ℕ → Child → Type 0) → ℕ → ℕ → Child-F Child Twig → Type 0
WrongChildBy pages order least block addr Rest level high (Kept low at key) = ComesToWrong pages order block addr (want_at order (suc level) low high at least) key
WrongChildBy pages order least block addr Rest level high (Grown low twig) = WrongBelow pages order block addr Rest level high twig

-- it does so from a child of this level on, up to a bound
unfoldable pub WrongOnWay : List (List ℕ) → ℕ → ℕ → ℕ → ℕ → ℕ → Child → Type 0
WrongOnWay pages order block addr zero high child = ⊥
WrongOnWay pages order block addr (suc level) high child = WrongChildBy pages order (order / 2) block addr (WrongOnWay pages order block addr level) level high (out-Child child)

-- from a node over children of this level on
abbrev pub WrongUnder : List (List ℕ) → ℕ → ℕ → ℕ → ℕ → ℕ → Twig → Type 0
WrongUnder pages order block addr level high twig = WrongBelow pages order block addr (WrongOnWay pages order block addr level) level high twig

-- and from a child over children of this level on, whose node has so many at least
abbrev pub WrongFrom : List (List ℕ) → ℕ → ℕ → ℕ → ℕ → ℕ → ℕ → Child → Type 0
WrongFrom pages order least block addr below high child = WrongChildBy pages order least block addr (WrongOnWay pages order block addr below) below high (out-Child child)
