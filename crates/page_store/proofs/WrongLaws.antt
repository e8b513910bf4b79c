-- How a wrong place is found: at a place itself, or below a node that fits.
use Rattle.std.proofs.Common.{◌≡◌, inl, inr, ℕ, zero, suc, List, [], ◌∷◌, refl, sym, subst, arith, drop}
use Rattle.std.specs.Prelude.{Some, slice_get}
use Rattle.node_codec.specs.declared.body.Entry.{Entry}
use Rattle.node_codec.specs.Record.{DataRecord, NodeRecord}
use Rattle.root_codec.specs.declared.root.Root.{Root}
use Rattle.page_store.specs.declared.wants.Want.{Want}
use Rattle.page_store.specs.Places.{FitsAt, NothingFits, root_want, child_want, block_want}
use Rattle.page_store.specs.Tree.{bound_of, SomeChild, WrongBelow, Wrong}

-- a place where nothing fits is wrong
pub wrong_here : (pages : List (List ℕ)) (order level : ℕ) (want : Want) (key : List ℕ) → NothingFits pages want key → WrongBelow pages want.addr order level want key
unfolding WrongBelow
wrong_here pages order zero want key nothing = record { here = refl; nothing = nothing }
wrong_here pages order (suc level) want key nothing = inl record { here = refl; nothing = nothing }

pub wrong_root : (pages : List (List ℕ)) (root : Root) → NothingFits pages (root_want root) root.key → Wrong pages root root.addr
wrong_root pages root nothing = wrong_here pages root.order root.level (root_want root) root.key nothing

some_child : (Below : Want → List ℕ → Type 0) (order level high i : ℕ) (entries : List Entry) (entry : Entry) → slice_get entries i ≡ Some entry → Below (child_want order level entry (bound_of (drop (suc i) entries) high)) entry.key → SomeChild Below order level high entries
some_child Below order level high i [] entry at below = absurd cc
some_child Below order level high zero (first ∷ entries) entry at below =
    let same : entry ≡ first = cc in
    inl (subst (λ (e : Entry). Below (child_want order level e (bound_of entries high)) e.key) same below)
some_child Below order level high (suc i) (first ∷ entries) entry at below = inr (some_child Below order level high i entries entry at below)

-- what is wrong below an entry of a node that fits is wrong below the node
pub wrong_child : (pages : List (List ℕ)) (addr order level i : ℕ) (want : Want) (key : List ℕ) (entries : List Entry) (entry : Entry) → FitsAt pages want key (NodeRecord (suc level) entries) → slice_get entries i ≡ Some entry → WrongBelow pages addr order level (child_want order level entry (bound_of (drop (suc i) entries) want.high)) entry.key → WrongBelow pages addr order (suc level) want key
unfolding WrongBelow
wrong_child pages addr order level i want key entries entry fits at below = inr record {
  entries = entries;
  fits = fits;
  some = some_child (WrongBelow pages addr order level) order level want.high i entries entry at below;
}

-- what is wanted below an entry of a leaf is the data record of its block, whatever the bounds
block_wanted : (pages : List (List ℕ)) (order high : ℕ) (entry : Entry) → NothingFits pages (block_want entry.addr entry.low) entry.key → NothingFits pages (child_want order zero entry high) entry.key
block_wanted pages order high entry nothing (DataRecord block content) fits = nothing (DataRecord block content) fits
block_wanted pages order high entry nothing (NodeRecord level entries) fits = omega (arith, fits.0.in_range.0.level_least, fits.1.same_level)

-- an entry of the leaf at the root whose data record is not there is wrong
pub wrong_block : (pages : List (List ℕ)) (root : Root) (i : ℕ) (entries : List Entry) (entry : Entry) → root.level ≡ 1 → FitsAt pages (root_want root) root.key (NodeRecord 1 entries) → slice_get entries i ≡ Some entry → NothingFits pages (block_want entry.addr entry.low) entry.key → Wrong pages root entry.addr
wrong_block pages root i entries entry level fits at nothing =
    let want = root_want root in
    let below = wrong_here pages root.order zero (child_want root.order zero entry (bound_of (drop (suc i) entries) root.blocks)) entry.key (block_wanted pages root.order (bound_of (drop (suc i) entries) root.blocks) entry nothing) in
    subst (λ (n : ℕ). WrongBelow pages entry.addr root.order n want root.key) (sym level) (wrong_child pages entry.addr root.order zero i want root.key entries entry fits at below)
