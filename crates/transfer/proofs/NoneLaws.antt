-- A device that has no block: no change of a block stops at a page of it.
use Rattle.std.proofs.Common.{◌≡◌, ◌<◌, ◌^◌, ◌-◌, ◌∙◌, ℕ, zero, suc, List, [], ◌∷◌, ◌++◌, Some, append-nil, length, map, refl, sym, ap, subst, inl, inr, arith}
use Rattle.std.specs.Prelude.{All}
use Rattle.std.proofs.lemmas.List.Elements.{All-head, All-tail}
use Rattle.platform.specs.History.{History, CellStays}
use Rattle.platform.proofs.Moments.{During-now, Extends-earlier}
use Rattle.node_codec.specs.declared.body.Entry.{Entry}
use Rattle.node_codec.specs.Record.{NodeRecord}
use Rattle.root_codec.specs.declared.root.Root.{Root}
use Rattle.root_codec.specs.RootRecord.{FitsRoot, root_bytes}
use Rattle.root_codec.specs.Laws.{one_root}
use Rattle.page_store.specs.declared.wants.Want.{Want}
use Rattle.page_store.specs.Places.{FitsAt, root_want, child_want}
use Rattle.page_store.specs.Tree.{Parts, EachChild, SomeChild, Subtree, Tree, bound_of, joined, node_parts}
use Rattle.page_store.proofs.RecordLaws.{one_record}
use Rattle.btree_walk.specs.Nodes.{Joined, Node, Nodes, NodesOf, branches, listed}
use Rattle.btree_walk.proofs.LevelLaws.{above_leaves}
use Rattle.btree_walk.proofs.ListLaws.{none_below}
use Rattle.btree_walk.proofs.OneWalkLaws.{small_entries}
use Rattle.btree_walk.proofs.ShowsLaws.{listed-append, listed-inner}
use Rattle.device_core.proofs.WiderLaws.{nodes_later}
use Rattle.device_session.specs.Damage.{IsMiscounted}
use Rattle.device_session.specs.Open.{IsOpen}
use Rattle.device_session.specs.Sessions.{Session}
use Rattle.session_calls.specs.Damage.{IsWrongStep, WrongNode, WrongNodeBelow}
use Rattle.transfer.specs.Running.{IsWrongThere}
use Rattle.transfer.specs.Whole.{HasBlocks, HasNone}
use Rattle.transfer.proofs.RefusalLaws.{root_there}

-- ---- nodes that all fit: none is wrong

some_none : (pages : List (List ℕ)) (Wrong : Want → List ℕ → Type 0) (order level high : ℕ) (entries : List Entry) (nodes : List Node) → ((want : Want) (key : List ℕ) (ns : List Node) → want.addr < 2 ^ 64 → Nodes pages order level want key ns → Wrong want key → ⊥)
    → All (λ e. e.addr < 2 ^ 64) entries → Joined (λ b. Nodes pages order level b.want b.key) (branches order level high entries) nodes → SomeChild Wrong order level high entries → ⊥
some_none pages Wrong order level high [] nodes never small are some = some
some_none pages Wrong order level high (entry ∷ entries) nodes never small are (inl here) =
    never (child_want order level entry (bound_of entries high)) entry.key are.first (All-head (λ (e : Entry). e.addr < 2 ^ 64) entry entries small) are.one here
some_none pages Wrong order level high (entry ∷ entries) nodes never small are (inr there) =
    some_none pages Wrong order level high entries are.rest never (All-tail (λ (e : Entry). e.addr < 2 ^ 64) entry entries small) are.others there

one_node : (pages : List (List ℕ)) (want : Want) (key : List ℕ) (level : ℕ) (one other : List Entry) → want.addr < 2 ^ 64 → FitsAt pages want key (NodeRecord level one) → FitsAt pages want key (NodeRecord level other) → one ≡ other
one_node pages want key level one other small fits fits' =
    let value : NodeRecord level one ≡ NodeRecord level other = one_record pages want.addr key _ _ small fits.0 fits'.0 in
    cc

none_wrong : (pages : List (List ℕ)) (addr order level : ℕ) (want : Want) (key : List ℕ) (ns : List Node) → want.addr < 2 ^ 64 → Nodes pages order level want key ns → WrongNodeBelow pages addr order level want key → ⊥
unfolding Nodes WrongNodeBelow
none_wrong pages addr order zero want key ns small are wrong = wrong
none_wrong pages addr order (suc level) want key ns small are (inl misfit) = misfit.nothing _ are.fits
none_wrong pages addr order (suc level) want key ns small are (inr above) =
    let same : are.entries ≡ above.entries = one_node pages want key (suc level) are.entries above.entries small are.fits above.fits in
    some_none pages (WrongNodeBelow pages addr order level) order level want.high are.entries are.below (none_wrong pages addr order level) (small_entries pages want key (suc level) are.entries small are.fits) are.each
    (subst (SomeChild (WrongNodeBelow pages addr order level) order level want.high) (sym same) above.some)

nodes_never_wrong : (pages : List (List ℕ)) (root : Root) (nodes : List Node) (addr : ℕ) → FitsRoot root → NodesOf pages root nodes → WrongNode pages root addr → ⊥
nodes_never_wrong pages root nodes addr fits are wrong = none_wrong pages addr root.order root.level (root_want root) root.key nodes (omega (arith, fits.addr, fits.head)) are wrong

-- ---- nodes that list nothing are a tree of no block

record EmptyTree (pages : List (List ℕ)) (order level : ℕ) (want : Want) (key : List ℕ) : Type 0 where
  parts : Parts
  is : Subtree pages order level want key parts
  none : parts.mapped ≡ []

record EmptyBelow (pages : List (List ℕ)) (order level high : ℕ) (entries : List Entry) : Type 0 where
  children : List Parts
  each : EachChild (Subtree pages order level) order level high entries children
  none : (joined children).mapped ≡ []

both_none : {X : Type 0} (xs ys : List X) → xs ++ ys ≡ [] → (xs ≡ []) × (ys ≡ [])
both_none [] ys is = (refl, is)
both_none (x ∷ xs) ys is = absurd cc

empty_below : (pages : List (List ℕ)) (order level high : ℕ) (entries : List Entry) (nodes : List Node) → ((want : Want) (key : List ℕ) (ns : List Node) → Nodes pages order level want key ns → listed ns ≡ [] → EmptyTree pages order level want key)
    → Joined (λ b. Nodes pages order level b.want b.key) (branches order level high entries) nodes → listed nodes ≡ [] → EmptyBelow pages order level high entries
empty_below pages order level high [] nodes empty are none = record { children = []; each = tt; none = refl }
empty_below pages order level high (entry ∷ entries) nodes empty are none =
    let split = both_none (listed are.first) (listed are.rest) (sym (ap listed are.is ∙ listed-append are.first are.rest) ∙ none) in
    let first = empty (child_want order level entry (bound_of entries high)) entry.key are.first are.one split.0 in
    let rest = empty_below pages order level high entries are.rest empty are.others split.1 in
    record { children = first.parts ∷ rest.children; each = (first.is, rest.each); none = λ i. first.none i ++ rest.none i }

empty_tree : (pages : List (List ℕ)) (order level : ℕ) (want : Want) (key : List ℕ) (nodes : List Node) → Nodes pages order (suc level) want key nodes → listed nodes ≡ [] → EmptyTree pages order (suc level) want key
unfolding Nodes Subtree
empty_tree pages order zero want key nodes are nothing =
    let below : are.below ≡ [] = none_below pages order (branches order zero want.high are.entries) are.below are.each in
    let whole : listed nodes ≡ are.entries ++ [] = ap listed are.is ∙ ap (λ (ns : List Node). are.entries ++ listed ns) below in
    let empty : are.entries ≡ [] = sym (append-nil are.entries) ∙ sym whole ∙ nothing in
    record {
      parts = node_parts want.addr key are.entries (joined []);
      is = record { entries = are.entries; children = []; fits = are.fits; each = subst (λ (es : List Entry). EachChild (Subtree pages order zero) order zero want.high es []) (sym empty) tt; has = refl };
      none = refl;
    }
empty_tree pages order (suc level) want key nodes are nothing =
    let whole : listed nodes ≡ listed are.below = ap listed are.is ∙ listed-inner want.addr level are.entries are.below in
    let below = empty_below pages order (suc level) want.high are.entries are.below (empty_tree pages order level) are.each (sym whole ∙ nothing) in
    record {
      parts = node_parts want.addr key are.entries (joined below.children);
      is = record { entries = are.entries; children = below.children; fits = are.fits; each = below.each; has = refl };
      none = below.none;
    }

tree_of_none : (pages : List (List ℕ)) (root : Root) (nodes : List Node) → FitsRoot root → NodesOf pages root nodes → listed nodes ≡ [] → (parts : Parts) × Tree pages root parts × (length parts.mapped ≡ 0)
tree_of_none pages root nodes fits are nothing =
    let up = above_leaves root.level fits.level_least in
    let empty = empty_tree pages root.order (root.level - 1) (root_want root) root.key nodes (subst (λ (n : ℕ). Nodes pages root.order n (root_want root) root.key nodes) (sym up) are) nothing in
    (empty.parts, subst (λ (n : ℕ). Subtree pages root.order n (root_want root) root.key empty.parts) up empty.is, ap length empty.none)

-- ---- what is named behind a change of a device that has none

no_entries : (entries : List Entry) → [] ≡ map (λ (e : Entry). e.low) entries → entries ≡ []
no_entries [] is = refl
no_entries (entry ∷ entries) is = absurd cc

-- the same root record is in both cells
same_root : (cell other_cell : List ℕ) (root other : Root) → FitsRoot root → FitsRoot other → Some other_cell ≡ Some cell → cell ≡ root_bytes root → other_cell ≡ root_bytes other → other ≡ root
same_root cell other_cell root other fits fits' same is is' =
    let bytes : other_cell ≡ cell = cc in
    one_root other root fits' fits (sym is' ∙ bytes ∙ is)

never_written : (old new : History) (session : Session) (pages addr : ℕ) → IsOpen session pages → length old.present.recorded ≡ pages → old.present.cell ≡ Some (root_bytes session.root) → CellStays old new → HasNone old.present → IsWrongStep new.present addr → ⊥
never_written old new session pages addr is_open size mounted stays has step =
    let root = has.root in
    let fits : FitsRoot root = has.is_root.in_range in
    let cell : new.present.cell ≡ Some (root_bytes root) = During-now old new (λ image. image.cell ≡ old.present.cell) stays ∙ has.is_root.cell in
    let same : session.root ≡ root = same_root (root_bytes root) (root_bytes session.root) root session.root fits is_open.served.in_range (sym mounted ∙ has.is_root.cell) refl refl in
    let within : session.root.addr < length old.present.recorded = omega (arith, size, is_open.served.in_range.addr, is_open.served.within) in
    let less : root.addr < length old.present.recorded = subst (λ (r : Root). r.addr < length old.present.recorded) same within in
    let nodes = has.blocks.nodes in
    let are : NodesOf new.present.readable root nodes = nodes_later old.present new.present root nodes (Extends-earlier old new stays.extends) less has.blocks.are in
    elim step [
      | inl node ↦
          let is : node.root ≡ root = same_root (root_bytes root) (root_bytes node.root) root node.root fits node.in_range (sym node.cell ∙ cell) refl refl in
          nodes_never_wrong new.present.readable root nodes addr fits are (subst (λ (r : Root). WrongNode new.present.readable r addr) is node.wrong)
      | inr other ↦
          let is : other.root ≡ root = same_root (root_bytes root) (root_bytes other.root) root other.root fits other.in_range (sym other.cell ∙ cell) refl refl in
          let tree = tree_of_none new.present.readable root nodes fits are (no_entries (listed nodes) has.blocks.is) in
          subst (λ (r : Root). IsMiscounted new.present.readable r) is other.miscounted tree.0 tree.1 (tree.2 ∙ sym has.count)
    ]

pub unwritten_there : (old new : History) (session : Session) (pages addr : ℕ) → IsOpen session pages → length old.present.recorded ≡ pages → old.present.cell ≡ Some (root_bytes session.root) → CellStays old new
    → IsWrongThere ⊥ (Unit {0}) new.present addr → IsWrongThere ⊥ (HasNone old.present → ⊥) new.present addr
unwritten_there old new session pages addr is_open size mounted stays (inl listing) = inl listing
unwritten_there old new session pages addr is_open size mounted stays (inr (inl step)) = inr (inl (step.0, λ has. never_written old new session pages addr is_open size mounted stays has step.0))
unwritten_there old new session pages addr is_open size mounted stays (inr (inr place)) = absurd place.1

-- a listing found none
pub none_listed : (old new : History) (session : Session) (pages : ℕ) (blocks : List ℕ) → IsOpen session pages → old.present.cell ≡ Some (root_bytes session.root) → CellStays old new → new.present.readable ≡ old.present.readable → HasBlocks old.present session.root blocks
    → length blocks ≡ 0 → session.root.mapped ≡ 0 → HasNone new.present
none_listed old new session pages blocks is_open mounted stays same has none count =
    let is = root_there old.present session pages is_open mounted in
    record {
      root = session.root;
      is_root = record { cell = During-now old new (λ image. image.cell ≡ old.present.cell) stays ∙ is.cell; in_range = is.in_range; key = is.key };
      blocks = record {
        nodes = has.nodes;
        are = subst (λ (pages : List (List ℕ)). NodesOf pages session.root has.nodes) (sym same) has.are;
        is = sym (by blocks none) ∙ has.is;
      };
      count = count;
    }
  where
    by : (bs : List ℕ) → length bs ≡ 0 → bs ≡ []
    by [] is = refl
    by (b ∷ bs) is = absurd (omega (arith, is))
