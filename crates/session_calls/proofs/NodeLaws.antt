-- Where the way of an update comes to a place that doesn't fit, that is a node's place of the root record's tree.
use Rattle.std.proofs.Common.{◌≡◌, ◌⊎◌, inl, inr, ℕ, zero, suc, ◌-◌, ◌/◌, ◌<◌, ◌≤◌, List, [], ◌∷◌, ◌++◌, refl, sym, ap, subst, ◌∙◌, arith, append_assoc}
use Rattle.std.specs.List.{AllByRecursion}
use Rattle.platform.specs.Image.{Image}
use Rattle.node_codec.specs.declared.body.Entry.{Entry}
use Rattle.node_codec.specs.Record.{NodeRecord}
use Rattle.root_codec.specs.declared.root.Root.{Root}
use Rattle.page_store.specs.declared.wants.Want.{Want}
use Rattle.page_store.specs.Places.{FitsAt, NothingFits, root_want, child_want}
use Rattle.page_store.specs.Tree.{bound_of, SomeChild, WrongBelow, Wrong}
use Rattle.btree_twigs.specs.declared.twigs.Child.{Child, Child-F, out-Child}
use Rattle.btree_twigs.specs.declared.twigs.Child.TheOpen.{Kept, Grown}
use Rattle.btree_twigs.specs.declared.twigs.Twig.{Twig}
use Rattle.btree_twigs.specs.Stubs.{Stub, start_by, low_of, stubs, stubs_in}
use Rattle.btree_twigs.specs.Top.{top_least}
use Rattle.btree_twigs.specs.Updates.{stubs_under}
use Rattle.btree_twigs.proofs.ListLaws.{stubs_append}
use Rattle.btree_update.specs.declared.groves.Grove.{Grove}
use Rattle.btree_update.specs.GroveTree.{want_of, want_at, least_at}
use Rattle.btree_update.specs.Held.{stub_at}
use Rattle.btree_update.specs.Wrong.{IsWrongBeside, entry_low, IsWrongEntry, IsWrongIn, IsWrongChild, ComesToWrong, Here, Below, Beside, WrongChildBy, WrongOnWay, WrongFrom}
use Rattle.btree_update.specs.Groves.{IsSound, IsWrongOnWay}
use Rattle.btree_update.proofs.GroveLaws.{above_it}
use Rattle.btree_update.proofs.ThereLaws.{least_root, least_below}
use Rattle.grove_accounts.specs.Followed.{IsReached, AtRoot, AtEntry, Follows, FollowsTree}
use Rattle.grove_accounts.proofs.ListLaws.{each_left, each_right}
use Rattle.grove_accounts.proofs.ReachLaws.{reached_child}
use Rattle.grove_accounts.proofs.FollowLaws.{follows_reached}
use Rattle.session_calls.specs.Damage.{IsWrongNode, IsWrongPlace, WrongNode, WrongNodeBelow}

-- ---- a wrong node is a wrong place

some_too : (P Q : Want → List ℕ → Type 0) → ((want : Want) (key : List ℕ) → P want key → Q want key) → (order level high : ℕ) (entries : List Entry) → SomeChild P order level high entries → SomeChild Q order level high entries
some_too P Q too order level high [] some = absurd some
some_too P Q too order level high (entry ∷ entries) (inl here) = inl (too (child_want order level entry (bound_of entries high)) entry.key here)
some_too P Q too order level high (entry ∷ entries) (inr there) = inr (some_too P Q too order level high entries there)

node_below : (pages : List (List ℕ)) (addr order level : ℕ) (want : Want) (key : List ℕ) → WrongNodeBelow pages addr order level want key → WrongBelow pages addr order level want key
unfolding WrongBelow WrongNodeBelow
node_below pages addr order zero want key wrong = absurd wrong
node_below pages addr order (suc level) want key (inl misfit) = inl misfit
node_below pages addr order (suc level) want key (inr above) = inr record {
  entries = above.entries;
  fits = above.fits;
  some = some_too (WrongNodeBelow pages addr order level) (WrongBelow pages addr order level) (node_below pages addr order level) order level want.high above.entries above.some;
}

pub node_is_place : (image : Image) (addr : ℕ) → IsWrongNode image addr → IsWrongPlace image addr
node_is_place image addr node = record {
  root = node.root;
  in_range = node.in_range;
  cell = node.cell;
  wrong = node_below image.readable addr node.root.order node.root.level (root_want node.root) node.root.key node.wrong;
}

-- with what else may be named
pub node_or : {Other : Type 0} (image : Image) (addr : ℕ) → IsWrongNode image addr ⊎ Other → IsWrongPlace image addr ⊎ Other
node_or image addr (inl node) = inl (node_is_place image addr node)
node_or image addr (inr other) = inr other

-- ---- below a place of the tree

some_at : (P : Want → List ℕ → Type 0) (order level high : ℕ) (front back : List Entry) (e : Entry) → P (child_want order level e (bound_of back high)) e.key → SomeChild P order level high (front ++ e ∷ back)
some_at P order level high [] back e wrong = inl wrong
some_at P order level high (f ∷ front) back e wrong = inr (some_at P order level high front back e wrong)

node_here : (pages : List (List ℕ)) (order level : ℕ) (want : Want) (key : List ℕ) → 1 ≤ level → NothingFits pages want key → WrongNodeBelow pages want.addr order level want key
unfolding WrongNodeBelow
node_here pages order zero want key one nothing = absurd (omega (arith, one))
node_here pages order (suc level) want key one nothing = inl record { here = refl; nothing = nothing }

ends_as : (back : List Entry) (high : ℕ) → start_by entry_low back high ≡ bound_of back high
ends_as [] high = refl
ends_as (e ∷ back) high = refl

module _ (pages : List (List ℕ)) (root : Root) where
  -- a node that is wrong below a place of the tree is wrong in the tree
  reached_node : (addr level : ℕ) (want : Want) (key : List ℕ) → IsReached pages root want key → level ≡ want.level → WrongNodeBelow pages addr root.order level want key → WrongNode pages root addr
  unfolding WrongNodeBelow
  reached_node addr level want key AtRoot is wrong = subst (λ n. WrongNodeBelow pages addr root.order n (root_want root) root.key) is wrong
  reached_node addr level want key (AtEntry {want = above} {key = over} l front e back r fits) is wrong =
      let here = subst (λ n. WrongNodeBelow pages addr root.order n (child_want root.order l e (bound_of back above.high)) e.key) is wrong in
      reached_node addr (suc l) above over r fits.1.same_level
      (inr record { entries = front ++ e ∷ back; fits = fits; some = some_at (WrongNodeBelow pages addr root.order l) root.order l above.high front back e here })

  -- so is a node's place of the tree where nothing fits
  node_at : (addr : ℕ) (want : Want) (key : List ℕ) → 1 ≤ want.level → IsReached pages root want key → addr ≡ want.addr → NothingFits pages want key → WrongNode pages root addr
  node_at addr want key one r is nothing = subst (WrongNode pages root) (sym is) (reached_node want.addr want.level want key r refl (node_here pages root.order want.level want key one nothing))

  module _ (order : ℕ) (order_is : order ≡ root.order) where
    node_beside : (addr level : ℕ) (want : Want) (key : List ℕ) (front : List Entry) (e : Entry) (back : List Entry) → IsReached pages root want key → FitsAt pages want key (NodeRecord (suc level) (front ++ e ∷ back)) →
        IsWrongBeside entry_low (IsWrongEntry pages order addr level) want.high front e back → WrongNode pages root addr
    node_beside addr level want key front e (next ∷ back) r fits h =
        node_at addr (child_want order level next (start_by entry_low back want.high)) next.key h.0
        (reached_child pages root order order_is level (start_by entry_low back want.high) want key (front ++ e ∷ next ∷ back) (front ++ e ∷ []) next back r fits (sym (append_assoc front (e ∷ []) (next ∷ back))) (ends_as back want.high)) h.1.0 h.1.1
    node_beside addr level want key front e [] r fits (others, last, is, h) =
        node_at addr (child_want order level last e.low) last.key h.0
        (reached_child pages root order order_is level e.low want key (front ++ e ∷ []) others last (e ∷ []) r fits (ap (λ fs. fs ++ e ∷ []) is ∙ append_assoc others (last ∷ []) (e ∷ [])) refl) h.1.0 h.1.1

    comes_node : (block addr : ℕ) (want : Want) (key : List ℕ) → 1 ≤ want.level → IsReached pages root want key → ComesToWrong pages order block addr want key → WrongNode pages root addr
    comes_node block addr want key one r (Here is) = node_at addr want key one r is.0 is.1
    comes_node block addr want key one r (Below level front e back fits least from to rest) =
        comes_node block addr (child_want order level e (start_by entry_low back want.high)) e.key least
        (reached_child pages root order order_is level (start_by entry_low back want.high) want key (front ++ e ∷ back) front e back r fits refl (ends_as back want.high)) rest
    comes_node block addr want key one r (Beside level front e back fits from to near) = node_beside addr level want key front e back r fits near

-- ---- below the nodes in memory

-- what holds of all places below a node holds below each child
child_each : (P : Stub → Type 0) (level high : ℕ) (fs : List Child) (c : Child) (bs : List Child) → AllByRecursion P (stubs_under level high (fs ++ c ∷ bs)) → AllByRecursion P (stubs level (start_by low_of bs high) c)
child_each P level high fs c bs h =
    let all = subst (AllByRecursion P) (stubs_append low_of (stubs level) high fs (c ∷ bs)) h in
    each_left P (stubs level (start_by low_of bs high) c) (stubs_under level high bs) (each_right P (stubs_under level (low_of c) fs) _ all)

module _ (pages : List (List ℕ)) (root : Root) (order top : ℕ) (order_is : order ≡ root.order) where
  node_in : (wrong level high : ℕ) (c : Child) → level < top → AllByRecursion (Follows pages root top) (stubs level high c) → IsWrongChild pages order wrong level high c → WrongNode pages root wrong
  unfolding stubs
  node_in wrong zero high c less each h = absurd (none (out-Child c) h)
    where
      none : (x : Child-F Child Twig) → IsWrongIn pages order wrong 0 high x → ⊥
      none (Kept low addr key) h = omega (arith, h.0)
      none (Grown low twig) h = h
  node_in wrong (suc level) high c less each h = here (out-Child c) each h
    where
      here : (x : Child-F Child Twig) → AllByRecursion (Follows pages root top) (stubs_in (stubs level) (suc level) high x) → IsWrongIn pages order wrong (suc level) high x → WrongNode pages root wrong
      here (Grown low twig) each h = absurd h
      here (Kept low addr key) each h =
          node_at pages root wrong (want_of order (stub_at (suc level) low high addr key)) key h.0
          (follows_reached pages root order top order_is (suc level) low high addr (order / 2) key h.0 (least_below order top (suc level) less) each.0) h.1.0 h.1.1

  node_near : (wrong level high : ℕ) (fs : List Child) (c : Child) (bs : List Child) → level < top → AllByRecursion (Follows pages root top) (stubs_under level high (fs ++ c ∷ bs)) →
      IsWrongBeside low_of (IsWrongChild pages order wrong level) high fs c bs → WrongNode pages root wrong
  node_near wrong level high fs c (next ∷ bs) less each h =
      node_in wrong level (start_by low_of bs high) next less
      (child_each (Follows pages root top) level high (fs ++ c ∷ []) next bs (subst (λ xs. AllByRecursion (Follows pages root top) (stubs_under level high xs)) (sym (append_assoc fs (c ∷ []) (next ∷ bs))) each)) h
  node_near wrong level high fs c [] less each (others, last, is, h) =
      node_in wrong level (low_of c) last less
      (child_each (Follows pages root top) level high others last (c ∷ [])
      (subst (λ xs. AllByRecursion (Follows pages root top) (stubs_under level high xs)) (ap (λ xs. xs ++ c ∷ []) is ∙ append_assoc others (last ∷ []) (c ∷ [])) each)) h

  node_by : (least block wrong level high : ℕ) (Rest : ℕ → Child → Type 0) (x : Child-F Child Twig) → level < top → least_at order top (suc level) ≡ least → ((high : ℕ) (c : Child) → AllByRecursion (Follows pages root top) (stubs level high c) → Rest high c → WrongNode pages root wrong) →
      AllByRecursion (Follows pages root top) (stubs_in (stubs level) (suc level) high x) → WrongChildBy pages order least block wrong Rest level high x → WrongNode pages root wrong
  node_by least block wrong level high Rest (Kept low addr key) less least_is rest each h =
      comes_node pages root order order_is block wrong (want_at order (suc level) low high addr least) key (omega arith) (follows_reached pages root order top order_is (suc level) low high addr least key (omega arith) least_is each.0) h
  node_by least block wrong level high Rest (Grown low twig) less least_is rest each h = by h.comes
    where
      all : AllByRecursion (Follows pages root top) (stubs_under level high (h.front ++ h.child ∷ h.back))
      all = subst (λ xs. AllByRecursion (Follows pages root top) (stubs_under level high xs)) h.is each

      by : Rest (start_by low_of h.back high) h.child ⊎ IsWrongBeside low_of (IsWrongChild pages order wrong level) high h.front h.child h.back → WrongNode pages root wrong
      by (inl on) = rest (start_by low_of h.back high) h.child (child_each (Follows pages root top) level high h.front h.child h.back all) on
      by (inr near) = node_near wrong level high h.front h.child h.back less all near

  node_way : (block wrong level high : ℕ) (c : Child) → level < top → AllByRecursion (Follows pages root top) (stubs level high c) → WrongOnWay pages order block wrong level high c → WrongNode pages root wrong
  unfolding stubs WrongOnWay
  node_way block wrong zero high c less each h = absurd h
  node_way block wrong (suc level) high c less each h =
      node_by (order / 2) block wrong level high (WrongOnWay pages order block wrong level) (out-Child c) (omega (arith, less)) (least_below order top (suc level) less) (λ end d each on. node_way block wrong level end d (omega (arith, less)) each on) each h

-- ---- the tree

node_from : (pages : List (List ℕ)) (root : Root) (order below high : ℕ) (order_is : order ≡ root.order) (block wrong : ℕ) (c : Child) → AllByRecursion (Follows pages root (suc below)) (stubs (suc below) high c) → WrongFrom pages order (top_least below) block wrong below high c → WrongNode pages root wrong
unfolding stubs
node_from pages root order below high order_is block wrong c each h =
    node_by pages root order (suc below) order_is (top_least below) block wrong below high (WrongOnWay pages order block wrong below) (out-Child c) (omega arith) (least_root order below)
    (λ end d each on. node_way pages root order (suc below) order_is block wrong below end d (omega arith) each on) each h

-- what the way of an update comes to is a node's place of the root record's tree
pub way_node : (pages : List (List ℕ)) (root : Root) (grove : Grove) (block addr : ℕ) → IsSound grove → FollowsTree pages root grove → IsWrongOnWay pages block grove addr → WrongNode pages root addr
way_node pages root grove block addr sound f h =
    node_from pages root grove.order (grove.level - 1) grove.blocks f.order block addr grove.top
    (subst (λ n. AllByRecursion (Follows pages root n) (stubs n grove.blocks grove.top)) (above_it grove.level sound.one) f.each) h

-- a wrong place, or the root node of a tree that is miscounted with more said of it
pub wrong_page : {Place Counted More : Type 0} → Place ⊎ (Counted × More) → Place ⊎ Counted
wrong_page (inl place) = inl place
wrong_page (inr counted) = inr counted.0
