-- What a refusal of a tree means whose places are those of a root record's tree.
use Rattle.std.proofs.Common.{◌≡◌, ◌⊎◌, inl, inr, ℕ, zero, suc, ◌-◌, ◌/◌, ◌==◌, if◌then◌else◌, ◌<◌, ◌≤◌, List, [], ◌∷◌, ◌++◌, refl, sym, ap, subst, ◌∙◌, arith, append_assoc}
use Rattle.std.specs.Prelude.{Some}
use Rattle.std.specs.List.{AllByRecursion}
use Rattle.std.proofs.lemmas.Bool.{eq-eqb}
use Rattle.node_codec.specs.declared.body.Entry.{Entry}
use Rattle.node_codec.specs.Record.{DataRecord}
use Rattle.root_codec.specs.declared.root.Root.{Root}
use Rattle.page_store.specs.Places.{FitsAt, NothingFits, block_want}
use Rattle.page_store.specs.Tree.{Wrong}
use Rattle.btree_twigs.specs.declared.twigs.Child.{Child, Child-F, out-Child}
use Rattle.btree_twigs.specs.declared.twigs.Child.TheOpen.{Kept, Grown}
use Rattle.btree_twigs.specs.declared.twigs.Twig.{Twig}
use Rattle.btree_twigs.specs.declared.twigs.Spot.{Spot}
use Rattle.btree_twigs.specs.declared.twigs.Spot.TheVariants as spots
use Rattle.btree_twigs.specs.Stubs.{Stub, datum, start_by, low_of, stubs, stubs_in, stubs_below}
use Rattle.btree_twigs.specs.Search.{IsAt, IsSpot}
use Rattle.btree_twigs.specs.Top.{top_least}
use Rattle.btree_twigs.specs.Updates.{stubs_under}
use Rattle.btree_twigs.proofs.ListLaws.{stubs_append}
use Rattle.btree_update.specs.declared.groves.Grove.{Grove}
use Rattle.btree_update.specs.GroveTree.{want_of, want_at, top_want, least_at}
use Rattle.btree_update.specs.Held.{stub_at}
use Rattle.btree_update.specs.Roots.{IsRootBy}
use Rattle.btree_update.specs.Wrong.{IsWrongBeside, IsWrongIn, IsWrongChild, WrongChildBy, WrongOnWay, WrongFrom}
use Rattle.btree_update.specs.Finding.{FindsFrom, StopsFrom, RootFindsBy, RootStopsBy, GroveFinds, GroveStops}
use Rattle.btree_update.specs.Groves.{IsSound, KeepsTree, IsWrongOnWay, places_of}
use Rattle.btree_update.proofs.FoundLaws.{up_twig, root_want as top_wanted}
use Rattle.btree_update.proofs.GroveLaws.{above_it}
use Rattle.btree_update.proofs.ThereLaws.{least_root, least_below}
use Rattle.grove_accounts.specs.Holding.{IsTreeOf, root_stub}
use Rattle.grove_accounts.specs.Followed.{IsReached, AtRoot, ComesFrom, Follows, FollowsTree}
use Rattle.grove_accounts.proofs.ListLaws.{each_left, each_right}
use Rattle.grove_accounts.proofs.HoldingLaws.{tree_place}
use Rattle.grove_accounts.proofs.ReachLaws.{reached_misfit, comes_wrong, stops_wrong, finds_wrong, block_misfits}

-- what holds of all places below a node holds below each child
child_each : (P : Stub → Type 0) (level high : ℕ) (fs : List Child) (c : Child) (bs : List Child) → AllByRecursion P (stubs_under level high (fs ++ c ∷ bs)) → AllByRecursion P (stubs level (start_by low_of bs high) c)
child_each P level high fs c bs h =
    let all = subst (AllByRecursion P) (stubs_append low_of (stubs level) high fs (c ∷ bs)) h in
    each_left P (stubs level (start_by low_of bs high) c) (stubs_under level high bs) (each_right P (stubs_under level (low_of c) fs) _ all)

-- and of the place at a block
spot_each : (P : Stub → Type 0) (block : ℕ) (ss : List Stub) (s : Stub) → IsAt block ss (s ∷ []) → AllByRecursion P ss → P s
spot_each P block ss s at h = (each_right P at.front (s ∷ at.back) (subst (AllByRecursion P) at.all h)).0

module _ (pages : List (List ℕ)) (root : Root) (order top : ℕ) (order_is : order ≡ root.order) where
  -- the place of a node is one of the root record's tree
  pub follows_reached : (level low high addr least : ℕ) (key : List ℕ) → 1 ≤ level → least_at order top level ≡ least → Follows pages root top (stub_at level low high addr key) → IsReached pages root (want_at order level low high addr least) key
  follows_reached level low high addr least key one least_is (inr own) = absurd (let level_is = own.own.level in omega (arith, one, level_is))
  follows_reached level low high addr least key one least_is (inl from) =
      subst (λ n. IsReached pages root (want_at order level low high addr n) key) least_is
      (subst (λ n. IsReached pages root (want_at order level low n addr (least_at order top level)) key) (from.ends one)
      (subst (λ n. IsReached pages root (want_at n level low from.high addr (least_at n top level)) key) (sym order_is) from.reached))

  -- ---- an update

  wrong_in : (wrong level high : ℕ) (c : Child) → level < top → AllByRecursion (Follows pages root top) (stubs level high c) → IsWrongChild pages order wrong level high c → Wrong pages root wrong
  unfolding stubs
  wrong_in wrong zero high c less each h = absurd (none (out-Child c) h)
    where
      none : (x : Child-F Child Twig) → IsWrongIn pages order wrong 0 high x → ⊥
      none (Kept low addr key) h = omega (arith, h.0)
      none (Grown low twig) h = h
  wrong_in wrong (suc level) high c less each h = here (out-Child c) each h
    where
      here : (x : Child-F Child Twig) → AllByRecursion (Follows pages root top) (stubs_in (stubs level) (suc level) high x) → IsWrongIn pages order wrong (suc level) high x → Wrong pages root wrong
      here (Grown low twig) each h = absurd h
      here (Kept low addr key) each h =
          subst (Wrong pages root) (sym h.1.0)
          (reached_misfit pages root (want_of order (stub_at (suc level) low high addr key)) key
          (follows_reached (suc level) low high addr (order / 2) key h.0 (least_below order top (suc level) less) each.0) h.1.1)

  wrong_near : (wrong level high : ℕ) (fs : List Child) (c : Child) (bs : List Child) → level < top → AllByRecursion (Follows pages root top) (stubs_under level high (fs ++ c ∷ bs)) →
      IsWrongBeside low_of (IsWrongChild pages order wrong level) high fs c bs → Wrong pages root wrong
  wrong_near wrong level high fs c (next ∷ bs) less each h =
      wrong_in wrong level (start_by low_of bs high) next less
      (child_each (Follows pages root top) level high (fs ++ c ∷ []) next bs (subst (λ xs. AllByRecursion (Follows pages root top) (stubs_under level high xs)) (sym (append_assoc fs (c ∷ []) (next ∷ bs))) each)) h
  wrong_near wrong level high fs c [] less each (others, last, is, h) =
      wrong_in wrong level (low_of c) last less
      (child_each (Follows pages root top) level high others last (c ∷ [])
      (subst (λ xs. AllByRecursion (Follows pages root top) (stubs_under level high xs)) (ap (λ xs. xs ++ c ∷ []) is ∙ append_assoc others (last ∷ []) (c ∷ [])) each)) h

  wrong_by : (least block wrong level high : ℕ) (Rest : ℕ → Child → Type 0) (x : Child-F Child Twig) → level < top → least_at order top (suc level) ≡ least → ((high : ℕ) (c : Child) → AllByRecursion (Follows pages root top) (stubs level high c) → Rest high c → Wrong pages root wrong) →
      AllByRecursion (Follows pages root top) (stubs_in (stubs level) (suc level) high x) → WrongChildBy pages order least block wrong Rest level high x → Wrong pages root wrong
  wrong_by least block wrong level high Rest (Kept low addr key) less least_is rest each h =
      comes_wrong pages root order order_is block wrong (want_at order (suc level) low high addr least) key (follows_reached (suc level) low high addr least key (omega arith) least_is each.0) h
  wrong_by least block wrong level high Rest (Grown low twig) less least_is rest each h = by h.comes
    where
      all : AllByRecursion (Follows pages root top) (stubs_under level high (h.front ++ h.child ∷ h.back))
      all = subst (λ xs. AllByRecursion (Follows pages root top) (stubs_under level high xs)) h.is each

      by : Rest (start_by low_of h.back high) h.child ⊎ IsWrongBeside low_of (IsWrongChild pages order wrong level) high h.front h.child h.back → Wrong pages root wrong
      by (inl on) = rest (start_by low_of h.back high) h.child (child_each (Follows pages root top) level high h.front h.child h.back all) on
      by (inr near) = wrong_near wrong level high h.front h.child h.back less all near

  wrong_way : (block wrong level high : ℕ) (c : Child) → level < top → AllByRecursion (Follows pages root top) (stubs level high c) → WrongOnWay pages order block wrong level high c → Wrong pages root wrong
  unfolding stubs WrongOnWay
  wrong_way block wrong zero high c less each h = absurd h
  wrong_way block wrong (suc level) high c less each h =
      wrong_by (order / 2) block wrong level high (WrongOnWay pages order block wrong level) (out-Child c) (omega (arith, less)) (least_below order top (suc level) less) (λ end d each on. wrong_way block wrong level end d (omega (arith, less)) each on) each h

-- ---- the tree

module _ (pages : List (List ℕ)) (root : Root) (order below high : ℕ) (order_is : order ≡ root.order) where
  top_wrong : (block wrong : ℕ) (c : Child) → AllByRecursion (Follows pages root (suc below)) (stubs (suc below) high c) → WrongFrom pages order (top_least below) block wrong below high c → Wrong pages root wrong
  unfolding stubs
  top_wrong block wrong c each h =
      wrong_by pages root order (suc below) order_is (top_least below) block wrong below high (WrongOnWay pages order block wrong below) (out-Child c) (omega arith) (least_root order below)
      (λ end d each on. wrong_way pages root order (suc below) order_is block wrong below end d (omega arith) each on) each h

  -- the root of a tree that isn't in memory is the root record's
  root_reached : (low addr : ℕ) (key : List ℕ) → low ≡ 0 → Follows pages root (suc below) (stub_at (suc below) low high addr key) → IsReached pages root (top_want order high (suc below) addr) key
  root_reached low addr key zero_is f =
      subst (λ w. IsReached pages root w key) (top_wanted order below low high addr zero_is) (follows_reached pages root order (suc below) order_is (suc below) low high addr (top_least below) key (omega arith) (least_root order below) f)

  -- a place below a node in memory is one of its tree
  inner_reached : (level low end addr : ℕ) (key : List ℕ) → 1 ≤ level → level ≤ below → Follows pages root (suc below) (stub_at level low end addr key) → IsReached pages root (want_of order (stub_at level low end addr key)) key
  inner_reached level low end addr key one le f = follows_reached pages root order (suc below) order_is level low end addr (order / 2) key one (least_below order (suc below) level (omega (arith, le))) f

  top_stops : (block wrong : ℕ) (x : Child-F Child Twig) → IsRootBy order below high x → AllByRecursion (Follows pages root (suc below)) (stubs_in (stubs below) (suc below) high x) → RootStopsBy pages order block wrong below high x → Wrong pages root wrong
  top_stops block wrong (Kept low addr key) shaped each h = stops_wrong pages root order order_is block wrong (suc below - 1) (top_want order high (suc below) addr) key (root_reached low addr key shaped each.0) h
  top_stops block wrong (Grown low twig) shaped each h = at h.spot h.is h.stops
    where
      at : (spot : Spot) → IsSpot block (stubs_below below high twig) spot → StopsFrom pages order block wrong spot → Wrong pages root wrong
      at (spots.Found addr key) is h = absurd h
      at spots.Absent is h = absurd h
      at (spots.Below level low end addr key) is h =
          let s = stub_at level low end addr key in
          let le = spot_each (λ (s : Stub). s.level ≤ below) block (stubs_below below high twig) s is.3 (up_twig below high twig) in
          let f = spot_each (Follows pages root (suc below)) block (stubs_below below high twig) s is.3 each in
          stops_wrong pages root order order_is block wrong (level - 1) (want_of order s) key (inner_reached level low end addr key is.0 le f) h

  top_finds : (block : ℕ) (e : Entry) (x : Child-F Child Twig) → IsRootBy order below high x → AllByRecursion (Follows pages root (suc below)) (stubs_in (stubs below) (suc below) high x) → RootFindsBy (FitsAt pages) order block below high x (Some e) →
      NothingFits pages (block_want e.addr block) e.key → Wrong pages root e.addr
  top_finds block e (Kept low addr key) shaped each h nothing = finds_wrong pages root order order_is block (suc below - 1) (top_want order high (suc below) addr) key h.0 e (root_reached low addr key shaped each.0) h.1 nothing
  top_finds block e (Grown low twig) shaped each h nothing = at h.spot h.is h.finds
    where
      data_wrong : (addr : ℕ) (key : List ℕ) → Follows pages root (suc below) (datum block addr key) → NothingFits pages (block_want addr block) key → Wrong pages root addr
      data_wrong addr key (inl from) nothing =
          reached_misfit pages root (want_at root.order 0 block from.high addr (least_at root.order (suc below) 0)) key from.reached (block_misfits pages root order order_is addr block (least_at root.order (suc below) 0) root.order from.high key nothing)
      data_wrong addr key (inr own) nothing = absurd (nothing (DataRecord block own.content) (own.there, (refl, refl)))

      at : (spot : Spot) → IsSpot block (stubs_below below high twig) spot → FindsFrom (FitsAt pages) order block spot (Some e) → Wrong pages root e.addr
      at (spots.Found addr key) is h =
          let same : e ≡ record { low = block; addr = addr; key = key } = cc in
          let here = data_wrong addr key (spot_each (Follows pages root (suc below)) block (stubs_below below high twig) (datum block addr key) is each) in
          subst (Wrong pages root) (sym (ap (λ (f : Entry). f.addr) same)) (here (subst (λ (f : Entry). NothingFits pages (block_want f.addr block) f.key) same nothing))
      at spots.Absent is h = absurd cc
      at (spots.Below level low end addr key) is h =
          let s = stub_at level low end addr key in
          let le = spot_each (λ (s : Stub). s.level ≤ below) block (stubs_below below high twig) s is.3 (up_twig below high twig) in
          let f = spot_each (Follows pages root (suc below)) block (stubs_below below high twig) s is.3 each in
          finds_wrong pages root order order_is block (level - 1) (want_of order s) key h.0 e (inner_reached level low end addr key is.0 le f) h.1 nothing

-- what stands of a tree's places, by the level of its children
each_below : (pages : List (List ℕ)) (root : Root) (grove : Grove) → IsSound grove → FollowsTree pages root grove → AllByRecursion (Follows pages root (suc (grove.level - 1))) (stubs (suc (grove.level - 1)) grove.blocks grove.top)
each_below pages root grove sound f = subst (λ n. AllByRecursion (Follows pages root n) (stubs n grove.blocks grove.top)) (above_it grove.level sound.one) f.each

pub update_wrong : (pages : List (List ℕ)) (root : Root) (grove : Grove) (block addr : ℕ) → IsSound grove → FollowsTree pages root grove → IsWrongOnWay pages block grove addr → Wrong pages root addr
update_wrong pages root grove block addr sound f h = top_wrong pages root grove.order (grove.level - 1) grove.blocks f.order block addr grove.top (each_below pages root grove sound f) h

pub look_up_wrong : (pages : List (List ℕ)) (root : Root) (grove : Grove) (block addr : ℕ) → IsSound grove → FollowsTree pages root grove → GroveStops pages block addr grove → Wrong pages root addr
unfolding stubs
look_up_wrong pages root grove block addr sound f h = top_stops pages root grove.order (grove.level - 1) grove.blocks f.order block addr (out-Child grove.top) sound.shaped (each_below pages root grove sound f) h

pub record_wrong : (pages : List (List ℕ)) (root : Root) (grove : Grove) (block : ℕ) (e : Entry) → IsSound grove → FollowsTree pages root grove → GroveFinds pages block grove (Some e) → NothingFits pages (block_want e.addr block) e.key → Wrong pages root e.addr
unfolding stubs
record_wrong pages root grove block e sound f h nothing = top_finds pages root grove.order (grove.level - 1) grove.blocks f.order block e (out-Child grove.top) sound.shaped (each_below pages root grove sound f) h nothing

-- ---- where a tree comes from

-- of a root record
pub root_follows : (pages : List (List ℕ)) (root : Root) (grove : Grove) → IsTreeOf root grove → FollowsTree pages root grove
root_follows pages root grove of = record {
  order = of.order;
  blocks = of.blocks;
  head = of.head;
  each = subst (AllByRecursion (Follows pages root grove.level)) (sym (tree_place root grove of)) (inl here, tt);
}
  where
    least : least_at root.order grove.level root.level ≡ (if root.level == 1 then 0 else 2)
    least = subst (λ n. least_at root.order n root.level ≡ (if n == 1 then 0 else 2)) (sym of.level) (rw (eq-eqb root.level root.level refl) refl) ∙ ap (λ n. if n == 1 then 0 else 2) of.level

    here : ComesFrom pages root grove.level (root_stub root)
    here = record {
      high = root.blocks;
      ends = λ one. refl;
      reached = subst (λ n. IsReached pages root (want_at root.order root.level 0 root.blocks root.addr n) root.key) (sym least) AtRoot;
    }

-- of the tree as it was, with more in memory beside it
pub ready_follows : (pages : List (List ℕ)) (root : Root) (old new : Grove) → KeepsTree old new → FollowsTree pages root old → FollowsTree pages root new
ready_follows pages root old new keeps f = record {
  order = keeps.order ∙ f.order;
  blocks = keeps.blocks ∙ f.blocks;
  head = keeps.head ∙ f.head;
  each = subst (λ n. AllByRecursion (Follows pages root n) (places_of new)) (sym keeps.level) (subst (AllByRecursion (Follows pages root old.level)) (sym places) f.each);
}
  where
    places : places_of new ≡ places_of old
    places = let level = keeps.level in let blocks = keeps.blocks in let top = keeps.top in (λ i. stubs (level i) (blocks i) (top i))
