-- What is found of a block is what the tree maps.
use Rattle.std.proofs.Common.{◌≡◌, ◌≢◌, ◌⊎◌, ℕ, zero, suc, ◌-◌, ◌<◌, ◌≤◌, ◌^◌, List, [], ◌∷◌, ◌++◌, Option, None, Some, All, refl, sym, ap, subst, inl, inr, ◌∙◌, arith}
use Rattle.std.specs.List.{AllByRecursion}
use Rattle.std.proofs.lemmas.List.Elements.{All-nil, All-append, All-weaker, All-from_recursion, Contains-append_left, Contains-append_right}
use Rattle.node_codec.specs.declared.body.Entry.{Entry}
use Rattle.node_codec.specs.Record.{NodeRecord}
use Rattle.page_store.specs.declared.wants.Want.{Want}
use Rattle.page_store.specs.Places.{FitsAt, NothingFits, child_want}
use Rattle.page_store.specs.Tree.{Mapped, Parts, joined, bound_of, EachChild, Subtree}
use Rattle.page_store.proofs.RecordLaws.{one_record}
use Rattle.btree_walk.specs.Finds.{Finds, Stops}
use Rattle.btree_walk.specs.Mapped.{mapped_as, IsMappedAs}
use Rattle.btree_walk.proofs.Elements.{Contains-head}
use Rattle.btree_walk.proofs.WayLaws.{way_entry}
use Rattle.btree_walk.proofs.MappedLaws.{found_is_mapped}
use Rattle.btree_twigs.specs.declared.twigs.Child.{Child, Child-F, out-Child}
use Rattle.btree_twigs.specs.declared.twigs.Child.TheOpen.{Kept, Grown}
use Rattle.btree_twigs.specs.declared.twigs.Twig.{Twig}
use Rattle.btree_twigs.specs.declared.twigs.Spot.{Spot}
use Rattle.btree_twigs.specs.declared.twigs.Spot.TheVariants.{Found, Absent, Below}
use Rattle.btree_twigs.specs.Stubs.{Stub, Tiles, datum, low_of, start_by, children_of, stubs, stubs_in, stubs_below}
use Rattle.btree_twigs.specs.Shape.{IsChild, IsTwig}
use Rattle.btree_twigs.specs.Search.{IsAt, IsSpot}
use Rattle.btree_twigs.specs.Top.{top_least}
use Rattle.btree_twigs.proofs.ListLaws.{tiles_by, tiles_from}
use Rattle.btree_twigs.proofs.Children.{tiles_child}
use Rattle.btree_update.specs.GroveTree.{want_of, top_want, HasEach, Maps, MapsIn}
use Rattle.btree_update.specs.Held.{stub_at}
use Rattle.btree_update.specs.Roots.{IsRootBy, RootMaps}
use Rattle.btree_update.specs.Finding.{FindsFrom, StopsFrom, RootFindsBy, RootStopsBy}
use Rattle.btree_update.proofs.FitsLaws.{AreSmall, small_right}
use Rattle.btree_update.proofs.FoundLaws.{root_want}
use Rattle.btree_update.proofs.Places.{IsIn, maps_split, in_maps, one_place}
use Rattle.btree_update.proofs.GroveLaws.{above_it}

-- ---- where a tree is, no place on the way is wrong

child_at : (Under : Want → List ℕ → Parts → Type 0) (order level high : ℕ) (before after : List Entry) (entry : Entry) (children : List Parts) → EachChild Under order level high (before ++ entry ∷ after) children →
    (parts : Parts) × Under (child_want order level entry (bound_of after high)) entry.key parts
child_at Under order level high [] after entry [] each = absurd each
child_at Under order level high [] after entry (parts ∷ children) each = (parts, each.0)
child_at Under order level high (e ∷ before) after entry [] each = absurd each
child_at Under order level high (e ∷ before) after entry (parts ∷ children) each = child_at Under order level high before after entry children each.1

never_stops : (pages : List (List ℕ)) (order level block addr : ℕ) (want : Want) (key : List ℕ) (parts : Parts) → want.addr < 2 ^ 64 → Subtree pages order (suc level) want key parts →
    Stops (FitsAt pages) order block (NothingFits pages) addr level want key → ⊥
unfolding Subtree Stops
never_stops pages order zero block addr want key parts small tree stop = stop.misfits _ tree.fits
never_stops pages order (suc level) block addr want key parts small tree (inl stop) = stop.misfits _ tree.fits
never_stops pages order (suc level) block addr want key parts small tree (inr stop) =
    let value : NodeRecord (suc (suc level)) stop.entries ≡ NodeRecord (suc (suc level)) tree.entries = one_record pages want.addr key _ _ small stop.fits.0 tree.fits.0 in
    let entries : stop.entries ≡ tree.entries = cc in
    let split : tree.entries ≡ stop.way.before ++ stop.entry ∷ stop.way.after = sym entries ∙ stop.way.split in
    let each = subst (λ (es : List Entry). EachChild (Subtree pages order (suc level)) order (suc level) want.high es tree.children) split tree.each in
    let child = child_at (Subtree pages order (suc level)) order (suc level) want.high stop.way.before stop.way.after stop.entry tree.children each in
    let less = way_entry (λ (e : Entry). e.addr < want.addr) stop.entries want.high block stop.bound stop.entry stop.fits.0.in_range.0.below stop.way in
    never_stops pages order level block addr (child_want order (suc level) stop.entry stop.bound) stop.entry.key child.0 (omega (arith, less, small))
    (subst (λ n. Subtree pages order (suc level) (child_want order (suc level) stop.entry n) stop.entry.key child.0) (sym stop.way.ends) child.1) stop.stops

-- ---- among places

no_place_maps : (pages : List (List ℕ)) (order : ℕ) (m : List Mapped) → Maps pages order [] m → m ≡ []
no_place_maps pages order m h = go h.each h.has h.is
  where
    go : (ps : List Parts) → HasEach pages order [] ps → m ≡ (joined ps).mapped → m ≡ []
    go [] has is = is
    go (p ∷ ps) has is = absurd has

tiles_to : (low high block : ℕ) (xs ys : List Stub) → low ≤ block → Tiles low high (xs ++ ys) → AllByRecursion (λ s. s.high ≤ block) xs → Tiles low block xs
tiles_to low high block [] ys le t h = le
tiles_to low high block (x ∷ xs) ys le t h = (t.0, t.1, tiles_to x.high high block xs ys h.0 t.2 h.1)

tiles_past : (low high block : ℕ) (xs ys : List Stub) → Tiles low high (xs ++ ys) → AllByRecursion (λ s. block < s.low) ys → block < high → Tiles (suc block) high ys
tiles_past low high block [] [] t h lt = omega (arith, lt)
tiles_past low high block [] (y ∷ ys) t h lt = (omega (arith, h.0), t.1, t.2)
tiles_past low high block (x ∷ xs) ys t h lt = tiles_past x.high high block xs ys t.2 h lt

tiles_rest : (low high : ℕ) (xs ys : List Stub) → Tiles low high (xs ++ ys) → (mid : ℕ) × Tiles mid high ys
tiles_rest low high [] ys t = (low, t)
tiles_rest low high (x ∷ xs) ys t = tiles_rest x.high high xs ys t.2

-- what some blocks map to, others don't matter
among : (block : ℕ) (found : Option Entry) (xs ys zs : List Mapped) → All (λ m. m.block ≢ block) xs → IsMappedAs ys block found → All (λ m. m.block ≢ block) zs → IsMappedAs (xs ++ (ys ++ zs)) block found
among block None xs ys zs before is after = All-append (λ (m : Mapped). m.block ≢ block) xs (ys ++ zs) before (All-append (λ (m : Mapped). m.block ≢ block) ys zs is after)
among block (Some e) xs ys zs before is after =
    (is.0, (is.1.0, Contains-append_right xs (ys ++ zs) (mapped_as e is.1.0) (Contains-append_left ys zs (mapped_as e is.1.0) is.1.1)))

elsewhere : (low high block : ℕ) (xs : List Mapped) → (block < low) ⊎ (high ≤ block) → AllByRecursion (IsIn low high) xs → All (λ m. m.block ≢ block) xs
elsewhere low high block xs apart h = All-weaker (IsIn low high) (λ (m : Mapped). m.block ≢ block) (λ m in'. by apart m in') xs (All-from_recursion (IsIn low high) xs h)
  where
    by : (block < low) ⊎ (high ≤ block) → (m : Mapped) → IsIn low high m → m.block ≢ block
    by (inl lt) m in' same = omega (arith, lt, in'.0, same)
    by (inr le) m in' same = omega (arith, le, in'.1, same)

-- what the places at the block map decides
pub at_maps : (pages : List (List ℕ)) (order block high : ℕ) (ss here : List Stub) (mapped : List Mapped) (found : Option Entry) → Tiles 0 high ss → block < high → IsAt block ss here → Maps pages order ss mapped →
    ((m : List Mapped) → Maps pages order here m → IsMappedAs m block found) → IsMappedAs mapped block found
at_maps pages order block high ss here mapped found tiles lt at maps is =
    let all = subst (Tiles 0 high) at.all tiles in
    let one = maps_split pages order at.front (here ++ at.back) mapped (subst (λ xs. Maps pages order xs mapped) at.all maps) in
    let two = maps_split pages order here at.back one.right one.on_right in
    let rest = tiles_rest 0 high at.front (here ++ at.back) all in
    let before = elsewhere 0 block block one.left (inr (omega arith)) (in_maps pages order 0 block at.front one.left (tiles_to 0 high block at.front (here ++ at.back) (omega arith) all at.before) one.on_left) in
    let after = elsewhere (suc block) high block two.right (inl (omega arith)) (in_maps pages order (suc block) high at.back two.right (tiles_past rest.0 high block here at.back rest.1 at.after lt) two.on_right) in
    subst (λ m. IsMappedAs m block found) (sym (one.is ∙ ap (λ m. one.left ++ m) two.is)) (among block found one.left two.left two.right before (is two.left two.on_left) after)

one_less : (level : ℕ) → suc level - 1 ≡ level
one_less level = omega arith

-- what is found from where a search in memory ended
module _ (pages : List (List ℕ)) (order block : ℕ) where
  datum_maps : (addr : ℕ) (key : List ℕ) (m : List Mapped) → Maps pages order (datum block addr key ∷ []) m → IsMappedAs m block (Some (record { low = block; addr = addr; key = key }))
  unfolding Subtree
  datum_maps addr key m h =
      let one = one_place pages order (datum block addr key) m h in
      let e : Entry = record { low = block; addr = addr; key = key } in
      let content = one.1.content in
      subst (λ xs. IsMappedAs xs block (Some e)) (sym (one.2 ∙ ap (λ (p : Parts). p.mapped) one.1.has)) (refl, (content, Contains-head (mapped_as e content) []))

  pub spot_maps : (high : ℕ) (ss : List Stub) (mapped : List Mapped) (spot : Spot) (found : Option Entry) → Tiles 0 high ss → block < high → AreSmall ss → IsSpot block ss spot → Maps pages order ss mapped →
      FindsFrom (FitsAt pages) order block spot found → IsMappedAs mapped block found
  spot_maps high ss mapped (Found addr key) found tiles lt small is maps f =
      subst (IsMappedAs mapped block) (sym f) (at_maps pages order block high ss (datum block addr key ∷ []) mapped (Some (record { low = block; addr = addr; key = key })) tiles lt is maps (datum_maps addr key))
  spot_maps high ss mapped Absent found tiles lt small is maps f =
      subst (IsMappedAs mapped block) (sym f) (at_maps pages order block high ss [] mapped None tiles lt is maps
      (λ m h. subst (λ xs. IsMappedAs xs block None) (sym (no_place_maps pages order m h)) (All-nil (λ (m : Mapped). m.block ≢ block))))
  spot_maps high ss mapped (Below level low end addr key) found tiles lt small is maps f =
      let s = stub_at level low end addr key in
      let at = is.3 in
      let lt' = (small_right at.front (s ∷ at.back) (subst AreSmall at.all small)).0 in
      at_maps pages order block high ss (s ∷ []) mapped found tiles lt at maps
      (λ m h. (let one = one_place pages order s m h in
      let tree = subst (λ n. Subtree pages order n (want_of order s) key one.0) (above_it level is.0) one.1 in
      subst (λ xs. IsMappedAs xs block found) (sym one.2) (found_is_mapped pages order (level - 1) block (want_of order s) key f.0 one.0 found lt' tree f.1)))

  pub spot_fits : (addr : ℕ) (ss : List Stub) (mapped : List Mapped) (spot : Spot) → AreSmall ss → IsSpot block ss spot → Maps pages order ss mapped → StopsFrom pages order block addr spot → ⊥
  spot_fits addr ss mapped (Found at key) small is maps stops = stops
  spot_fits addr ss mapped Absent small is maps stops = stops
  spot_fits addr ss mapped (Below level low end at key) small is maps stops =
      let s = stub_at level low end at key in
      let spot = is.3 in
      let lt = (small_right spot.front (s ∷ spot.back) (subst AreSmall spot.all small)).0 in
      let one = maps_split pages order spot.front ((s ∷ []) ++ spot.back) mapped (subst (λ xs. Maps pages order xs mapped) spot.all maps) in
      let two = maps_split pages order (s ∷ []) spot.back one.right one.on_right in
      let here = one_place pages order s two.left two.on_left in
      never_stops pages order (level - 1) block addr (want_of order s) key here.0 lt (subst (λ n. Subtree pages order n (want_of order s) key here.0) (above_it level is.0) here.1) stops

-- ---- below a root

pub twig_tiles : (order level least most high : ℕ) (twig : Twig) → IsTwig order level least most 0 high twig → Tiles 0 high (stubs_below level high twig)
twig_tiles order level least most high twig h =
    tiles_from (start_by low_of (children_of twig) high) 0 high (stubs_below level high twig) (omega arith)
    (tiles_by low_of (IsChild order level) (stubs level) (λ high c. tiles_child order level high c) high (children_of twig) h.node.each)

module _ (pages : List (List ℕ)) (order block level high : ℕ) where
  root_maps_by : (x : Child-F Child Twig) (mapped : List Mapped) (found : Option Entry) → IsRootBy order level high x → block < high → AreSmall (stubs_in (stubs level) (suc level) high x) →
      MapsIn pages order (top_least level) level high x mapped → RootFindsBy (FitsAt pages) order block level high x found → IsMappedAs mapped block found
  root_maps_by (Kept low addr key) mapped found root lt small maps f =
      subst (λ m. IsMappedAs m block found) (sym maps.2) (found_is_mapped pages order level block (top_want order high (suc level) addr) key f.0 maps.0 found small.0 (subst (λ w. Subtree pages order (suc level) w key maps.0) (root_want order level low high addr root) maps.1)
      (subst (λ n. Finds (FitsAt pages) order block found n (top_want order high (suc level) addr) key f.0) (one_less level) f.1))
  root_maps_by (Grown low twig) mapped found root lt small maps f =
      spot_maps pages order block high (stubs_below level high twig) mapped f.spot found (twig_tiles order level (top_least level) order high twig root.1) lt small f.is maps f.finds

  root_fits_by : (x : Child-F Child Twig) (mapped : List Mapped) (addr : ℕ) → IsRootBy order level high x → AreSmall (stubs_in (stubs level) (suc level) high x) →
      MapsIn pages order (top_least level) level high x mapped → RootStopsBy pages order block addr level high x → ⊥
  root_fits_by (Kept low at key) mapped addr root small maps stops = never_stops pages order level block addr (top_want order high (suc level) at) key maps.0 small.0 (subst (λ w. Subtree pages order (suc level) w key maps.0) (root_want order level low high at root) maps.1)
      (subst (λ n. Stops (FitsAt pages) order block (NothingFits pages) addr n (top_want order high (suc level) at) key) (one_less level) stops)
  root_fits_by (Grown low twig) mapped addr root small maps stops = spot_fits pages order block addr (stubs_below level high twig) mapped stops.spot small stops.is maps stops.stops

  -- what is found below a root is what it maps
  pub root_found : (top : Child) (mapped : List Mapped) (found : Option Entry) → IsRootBy order level high (out-Child top) → block < high → AreSmall (stubs (suc level) high top) →
      RootMaps pages order level high top mapped → RootFindsBy (FitsAt pages) order block level high (out-Child top) found → IsMappedAs mapped block found
  unfolding stubs
  root_found top mapped found root lt small maps f = root_maps_by (out-Child top) mapped found root lt small maps f

  -- and where it maps anything, no place on the way is wrong
  pub root_fits : (top : Child) (mapped : List Mapped) (addr : ℕ) → IsRootBy order level high (out-Child top) → AreSmall (stubs (suc level) high top) →
      RootMaps pages order level high top mapped → RootStopsBy pages order block addr level high (out-Child top) → ⊥
  unfolding stubs
  root_fits top mapped addr root small maps stops = root_fits_by (out-Child top) mapped addr root small maps stops
