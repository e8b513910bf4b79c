-- What is found is what the tree maps.
use Rattle.std.proofs.Common.{◌≡◌, ◌≢◌, ◌⊎◌, ℕ, zero, suc, ◌<◌, ◌≤◌, ◌^◌, List, [], ◌∷◌, ◌++◌, Option, None, Some, All, Contains, sym, subst, inl, inr, ◌∙◌, arith}
use Rattle.std.specs.List.Sorted.{IsStrictlyIncreasing}
use Rattle.std.proofs.lemmas.List.Elements.{All-nil, All-cons, All-head, All-tail, All-append, All-weaker, All-contains}
use Rattle.node_codec.specs.declared.body.Entry.{Entry}
use Rattle.node_codec.specs.Record.{Record, NodeRecord}
use Rattle.page_store.specs.declared.wants.Want.{Want}
use Rattle.page_store.specs.Places.{FitsAt, NothingFits, child_want}
use Rattle.page_store.specs.Tree.{Mapped, Parts, joined, data_parts, bound_of, EachChild, Subtree, SomeChild, IsMisfit, WrongBelow}
use Rattle.page_store.proofs.RecordLaws.{one_record}
use Rattle.node_cache.specs.declared.slots.CachedNode.{CachedNode}
use Rattle.node_cache.specs.Cached.{Cached, cached_node}
use Rattle.btree_walk.specs.Ways.{IsEntryOf}
use Rattle.btree_walk.specs.Sights.{Sees, Misses, IsOfPage, StandsOver, KeepsOnly}
use Rattle.btree_walk.specs.Finds.{StopsHere, Finds, Stops}
use Rattle.btree_walk.specs.Mapped.{mapped_as, IsMappedAs}
use Rattle.btree_walk.proofs.Elements.{Contains-head, Contains-tail, Contains-cons, Contains-nil}
use Rattle.btree_walk.proofs.TurnLaws.{lows}
use Rattle.btree_walk.proofs.WayLaws.{way_entry, up_tail, up_head, begins_below}
use Rattle.btree_walk.proofs.SightLaws.{sees_range}
use Rattle.btree_walk.proofs.FindLaws.{finds_map, stops_map}

-- ---- where a look-up stops

some_at : (Below : Want → List ℕ → Type 0) (order level high : ℕ) (before after : List Entry) (entry : Entry) → Below (child_want order level entry (bound_of after high)) entry.key → SomeChild Below order level high (before ++ entry ∷ after)
some_at Below order level high [] after entry below = inl below
some_at Below order level high (e ∷ before) after entry below = inr (some_at Below order level high before after entry below)

misfit : (pages : List (List ℕ)) (addr : ℕ) (want : Want) (key : List ℕ) → StopsHere (NothingFits pages) addr want key → IsMisfit pages addr want key
misfit pages addr want key is = record { here = is.here; nothing = is.misfits }

pub stopped_is_wrong : (pages : List (List ℕ)) (order level block addr : ℕ) (want : Want) (key : List ℕ) → Stops (FitsAt pages) order block (NothingFits pages) addr level want key → WrongBelow pages addr order (suc level) want key
unfolding Stops WrongBelow
stopped_is_wrong pages order zero block addr want key is = inl (misfit pages addr want key is)
stopped_is_wrong pages order (suc level) block addr want key (inl is) = inl (misfit pages addr want key is)
stopped_is_wrong pages order (suc level) block addr want key (inr is) =
    let wrong = stopped_is_wrong pages order level block addr (child_want order (suc level) is.entry is.bound) is.entry.key is.stops in
    let wrong' = subst (λ (n : ℕ). WrongBelow pages addr order (suc level) (child_want order (suc level) is.entry n) is.entry.key) is.way.ends wrong in
    let some = some_at (WrongBelow pages addr order (suc level)) order (suc level) want.high is.way.before is.way.after is.entry wrong' in
    inr record { entries = is.entries; fits = is.fits; some = subst (SomeChild (WrongBelow pages addr order (suc level)) order (suc level) want.high) (sym is.way.split) some }

-- ---- behind a cache that stands over the pages

pub sees_page : (pages : List (List ℕ)) (cache : Cached) (want : Want) (key : List ℕ) (value : Record) → StandsOver pages cache → Sees cache.nodes pages want key value → FitsAt pages want key value
sees_page pages cache want key value over (inr page) = page
sees_page pages cache want key value over (inl is) =
    subst (FitsAt pages want key) (sym is.is) ((All-contains (IsOfPage pages) cache.nodes (cached_node want.addr key is.node) over is.here).is, is.fits.wanted)

pub misses_page : (pages : List (List ℕ)) (cache : Cached) (want : Want) (key : List ℕ) → want.addr < 2 ^ 64 → StandsOver pages cache → Misses cache.nodes pages want key → NothingFits pages want key
misses_page pages cache want key small over (inr nothing) = nothing
misses_page pages cache want key small over (inl is) = λ value fits.
    (let page = All-contains (IsOfPage pages) cache.nodes (cached_node want.addr key is.node) over is.here in
    let same : value ≡ NodeRecord is.node.level is.node.entries.items = one_record pages want.addr key value (NodeRecord is.node.level is.node.entries.items) small fits.0 page.is in
    let fits' = subst (FitsAt pages want key) same fits in
    is.misfit record { version = page.version; in_range = fits'.0.in_range.0; wanted = fits'.1 })

pub finds_page : (pages : List (List ℕ)) (cache : Cached) (order level block : ℕ) (want : Want) (key path : List ℕ) (found : Option Entry) → StandsOver pages cache → Finds (Sees cache.nodes pages) order block found level want key path → Finds (FitsAt pages) order block found level want key path
finds_page pages cache order level block want key path found over is =
    finds_map (Sees cache.nodes pages) (FitsAt pages) order block (suc want.addr)
    (λ w k l es s. (sees_range cache.nodes pages w k l es s).below)
    (λ w k value below s. sees_page pages cache w k value over s)
    found level want key path (omega arith) is

pub stops_page : (pages : List (List ℕ)) (cache : Cached) (order level block addr : ℕ) (want : Want) (key : List ℕ) → want.addr < 2 ^ 64 → StandsOver pages cache → Stops (Sees cache.nodes pages) order block (Misses cache.nodes pages) addr level want key → Stops (FitsAt pages) order block (NothingFits pages) addr level want key
stops_page pages cache order level block addr want key small over is =
    stops_map (Sees cache.nodes pages) (FitsAt pages) order block (2 ^ 64)
    (λ w k l es s. (sees_range cache.nodes pages w k l es s).below)
    (λ w k value below s. sees_page pages cache w k value over s)
    (Misses cache.nodes pages) (NothingFits pages) addr
    (λ w k below m. misses_page pages cache w k below over m)
    level want key small is

pub stands_over_still : (pages : List (List ℕ)) (old new : Cached) → StandsOver pages old → KeepsOnly pages old new → StandsOver pages new
stands_over_still pages old new over keeps = All-weaker (λ (k : CachedNode). Contains old.nodes k ⊎ IsOfPage pages k) (IsOfPage pages) from new.nodes keeps.nodes
  where
    from : (k : CachedNode) → Contains old.nodes k ⊎ IsOfPage pages k → IsOfPage pages k
    from k (inl in') = All-contains (IsOfPage pages) old.nodes k over in'
    from k (inr page) = page

-- ---- what lies below an entry

Contains-left : {X : Type 0} (xs ys : List X) (x : X) → Contains xs x → Contains (xs ++ ys) x
Contains-left [] ys x in' = absurd (Contains-nil x in')
Contains-left (y ∷ xs) ys x in' = elim (Contains-cons y xs x in') [
  | inl here ↦ subst (Contains (y ∷ (xs ++ ys))) here (Contains-head y (xs ++ ys))
  | inr later ↦ Contains-tail y (xs ++ ys) x (Contains-left xs ys x later)
]

Contains-right : {X : Type 0} (xs ys : List X) (x : X) → Contains ys x → Contains (xs ++ ys) x
Contains-right [] ys x in' = in'
Contains-right (y ∷ xs) ys x in' = Contains-tail y (xs ++ ys) x (Contains-right xs ys x in')

-- blocks from a low on, below a high
abbrev Between : ℕ → ℕ → Mapped → Type 0
Between low high m = (low ≤ m.block) × (m.block < high)

abbrev pub Bounded : (Want → List ℕ → Parts → Type 0) → Type 0
Bounded Below = (want : Want) (key : List ℕ) (parts : Parts) → Below want key parts → All (Between want.low want.high) parts.mapped

-- of children whose blocks lie within their bounds, all lie from the first low on
each_bounded : (Below : Want → List ℕ → Parts → Type 0) (order level low high : ℕ) (entries : List Entry) (children : List Parts) → Bounded Below → IsStrictlyIncreasing (lows entries) → All (λ e. low ≤ e.low) entries → All (λ e. e.low < high) entries → EachChild Below order level high entries children → All (Between low high) (joined children).mapped
each_bounded Below order level low high [] [] bounded up from to each = All-nil (Between low high)
each_bounded Below order level low high [] (parts ∷ children) bounded up from to each = absurd each
each_bounded Below order level low high (entry ∷ entries) [] bounded up from to each = absurd each
each_bounded Below order level low high (entry ∷ []) (parts ∷ children) bounded up from to each =
    let first : All (Between entry.low high) parts.mapped = bounded (child_want order level entry high) entry.key parts each.0 in
    let least = All-head (λ (e : Entry). low ≤ e.low) entry [] from in
    All-append (Between low high) parts.mapped (joined children).mapped
    (All-weaker (Between entry.low high) (Between low high) (λ m h. ((let a = h.0 in omega arith), h.1)) parts.mapped first)
    (each_bounded Below order level low high [] children bounded (up_tail entry [] up) (All-tail (λ (e : Entry). low ≤ e.low) entry [] from) (All-tail (λ (e : Entry). e.low < high) entry [] to) each.1)
each_bounded Below order level low high (entry ∷ next ∷ entries) (parts ∷ children) bounded up from to each =
    let first : All (Between entry.low next.low) parts.mapped = bounded (child_want order level entry next.low) entry.key parts each.0 in
    let least = All-head (λ (e : Entry). low ≤ e.low) entry (next ∷ entries) from in
    let to' = All-tail (λ (e : Entry). e.low < high) entry (next ∷ entries) to in
    let most = All-head (λ (e : Entry). e.low < high) next entries to' in
    All-append (Between low high) parts.mapped (joined children).mapped
    (All-weaker (Between entry.low next.low) (Between low high) (λ m h. ((let a = h.0 in omega arith), (let b = h.1 in omega arith))) parts.mapped first)
    (each_bounded Below order level low high (next ∷ entries) children bounded (up_tail entry (next ∷ entries) up) (All-tail (λ (e : Entry). low ≤ e.low) entry (next ∷ entries) from) to' each.1)

module _ (pages : List (List ℕ)) (order : ℕ) where
  -- the blocks of a leaf's data records are the lows of its entries
  leaf_all : (P : ℕ → Type 0) (high : ℕ) (entries : List Entry) (children : List Parts) → All (λ e. P e.low) entries → EachChild (Subtree pages order zero) order zero high entries children → All (λ m. P m.block) (joined children).mapped
  unfolding Subtree
  leaf_all P high [] [] all each = All-nil (λ (m : Mapped). P m.block)
  leaf_all P high [] (parts ∷ children) all each = absurd each
  leaf_all P high (entry ∷ entries) [] all each = absurd each
  leaf_all P high (entry ∷ entries) (parts ∷ children) all each =
      let here : All (λ (m : Mapped). P m.block) (data_parts entry.addr entry.key entry.low each.0.content).mapped = All-cons (λ (m : Mapped). P m.block) (mapped_as entry each.0.content) [] (All-head (λ (e : Entry). P e.low) entry entries all) (All-nil (λ (m : Mapped). P m.block)) in
      All-append (λ (m : Mapped). P m.block) parts.mapped (joined children).mapped
      (subst (λ (p : Parts). All (λ (m : Mapped). P m.block) p.mapped) (sym each.0.has) here)
      (leaf_all P high entries children (All-tail (λ (e : Entry). P e.low) entry entries all) each.1)

  leaf_some : (high : ℕ) (e : Entry) (entries : List Entry) (children : List Parts) → Contains entries e → EachChild (Subtree pages order zero) order zero high entries children → (content : List ℕ) × Contains (joined children).mapped (mapped_as e content)
  unfolding Subtree
  leaf_some high e [] children in' each = absurd (Contains-nil e in')
  leaf_some high e (entry ∷ entries) [] in' each = absurd each
  leaf_some high e (entry ∷ entries) (parts ∷ children) in' each = elim (Contains-cons entry entries e in') [
    | inl here ↦
        let first : Contains (data_parts entry.addr entry.key entry.low each.0.content).mapped (mapped_as entry each.0.content) = Contains-head (mapped_as entry each.0.content) [] in
        let first' = subst (λ (p : Parts). Contains p.mapped (mapped_as entry each.0.content)) (sym each.0.has) first in
        (each.0.content, subst (λ (x : Entry). Contains (parts.mapped ++ (joined children).mapped) (mapped_as x each.0.content)) here (Contains-left parts.mapped (joined children).mapped (mapped_as entry each.0.content) first'))
    | inr later ↦ let rest = leaf_some high e entries children later each.1 in (rest.0, Contains-right parts.mapped (joined children).mapped (mapped_as e rest.0) rest.1)
  ]

  leaf_found : (high block : ℕ) (found : Option Entry) (entries : List Entry) (children : List Parts) → IsEntryOf entries block found → EachChild (Subtree pages order zero) order zero high entries children → IsMappedAs (joined children).mapped block found
  leaf_found high block None entries children is each = leaf_all (λ b. b ≢ block) high entries children is each
  leaf_found high block (Some e) entries children is each = (is.1, leaf_some high e entries children is.0 each)

  subtree_bounded : (level : ℕ) → Bounded (Subtree pages order (suc level))
  unfolding Subtree
  subtree_bounded zero want key parts is =
      let both : All (λ e. (want.low ≤ e.low) × (e.low < want.high)) is.entries = (λ k d h. (is.fits.1.from_low k d h, is.fits.1.below_high k d h)) in
      subst (λ (p : Parts). All (Between want.low want.high) p.mapped) (sym is.has) (leaf_all (λ b. (want.low ≤ b) × (b < want.high)) want.high is.entries is.children both is.each)
  subtree_bounded (suc level) want key parts is =
      subst (λ (p : Parts). All (Between want.low want.high) p.mapped) (sym is.has)
      (each_bounded (Subtree pages order (suc level)) order (suc level) want.low want.high is.entries is.children (subtree_bounded level) is.fits.0.in_range.0.ascend is.fits.1.from_low is.fits.1.below_high is.each)

-- ---- among the children of a node

abbrev IsElsewhere : ℕ → List Mapped → Type 0
IsElsewhere block mapped = All (λ m. m.block ≢ block) mapped

mapped_left : (block : ℕ) (found : Option Entry) (xs ys : List Mapped) → IsMappedAs xs block found → IsElsewhere block ys → IsMappedAs (xs ++ ys) block found
mapped_left block None xs ys is others = All-append (λ (m : Mapped). m.block ≢ block) xs ys is others
mapped_left block (Some e) xs ys is others = (is.0, (is.1.0, Contains-left xs ys (mapped_as e is.1.0) is.1.1))

mapped_right : (block : ℕ) (found : Option Entry) (xs ys : List Mapped) → IsElsewhere block xs → IsMappedAs ys block found → IsMappedAs (xs ++ ys) block found
mapped_right block None xs ys others is = All-append (λ (m : Mapped). m.block ≢ block) xs ys others is
mapped_right block (Some e) xs ys others is = (is.0, (is.1.0, Contains-right xs ys (mapped_as e is.1.0) is.1.1))

pub lows_from : (low : ℕ) (es : List Entry) → IsStrictlyIncreasing (lows es) → low ≤ bound_of es low → All (λ e. low ≤ e.low) es
lows_from low [] up le = All-nil (λ (e : Entry). low ≤ e.low)
lows_from low (e ∷ []) up le = All-cons (λ (x : Entry). low ≤ x.low) e [] le (All-nil (λ (x : Entry). low ≤ x.low))
lows_from low (e ∷ f ∷ es) up le =
    let less = up_head e f es up in
    All-cons (λ (x : Entry). low ≤ x.low) e (f ∷ es) le (lows_from low (f ∷ es) (up_tail e (f ∷ es) up) (omega arith))

-- what lies behind an entry lies above where it ends
elsewhere_after : (Below : Want → List ℕ → Parts → Type 0) (order level high block : ℕ) (after : List Entry) (children : List Parts) → Bounded Below → IsStrictlyIncreasing (lows after) → All (λ e. e.low < high) after → EachChild Below order level high after children → block < bound_of after high → IsElsewhere block (joined children).mapped
elsewhere_after Below order level high block [] [] bounded up to each below = All-nil (λ (m : Mapped). m.block ≢ block)
elsewhere_after Below order level high block [] (parts ∷ children) bounded up to each below = absurd each
elsewhere_after Below order level high block (e ∷ after) children bounded up to each below =
    let from = lows_from e.low (e ∷ after) up (omega arith) in
    All-weaker (Between e.low high) (λ (m : Mapped). m.block ≢ block) (λ m h same. (let a = h.0 in omega arith)) (joined children).mapped
    (each_bounded Below order level e.low high (e ∷ after) children bounded up from to each)

inner_mapped : (Below : Want → List ℕ → Parts → Type 0) (order level high block : ℕ) (found : Option Entry) (before after : List Entry) (entry : Entry) (children : List Parts) → Bounded Below → IsStrictlyIncreasing (lows (before ++ entry ∷ after)) → All (λ e. e.low < high) (before ++ entry ∷ after) → EachChild Below order level high (before ++ entry ∷ after) children
    → entry.low ≤ block → block < bound_of after high → ((parts : Parts) → Below (child_want order level entry (bound_of after high)) entry.key parts → IsMappedAs parts.mapped block found)
    → IsMappedAs (joined children).mapped block found
inner_mapped Below order level high block found [] after entry [] bounded up to each from below is = absurd each
inner_mapped Below order level high block found [] after entry (parts ∷ children) bounded up to each from below is =
    mapped_left block found parts.mapped (joined children).mapped (is parts each.0)
    (elsewhere_after Below order level high block after children bounded (up_tail entry after up) (All-tail (λ (e : Entry). e.low < high) entry after to) each.1 below)
inner_mapped Below order level high block found (b ∷ before) after entry [] bounded up to each from below is = absurd each
inner_mapped Below order level high block found (b ∷ before) after entry (parts ∷ children) bounded up to each from below is =
    let up' = up_tail b (before ++ entry ∷ after) up in
    let begin = begins_below before after entry high up' in
    let bound = bound_of (before ++ entry ∷ after) high in
    let first : All (Between b.low bound) parts.mapped = bounded (child_want order level b bound) b.key parts each.0 in
    mapped_right block found parts.mapped (joined children).mapped
    (All-weaker (Between b.low bound) (λ (m : Mapped). m.block ≢ block) (λ m h same. (let a : m.block < bound = h.1 in omega arith)) parts.mapped first)
    (inner_mapped Below order level high block found before after entry children bounded up' (All-tail (λ (e : Entry). e.low < high) b (before ++ entry ∷ after) to) each.1 from below is)

pub found_is_mapped : (pages : List (List ℕ)) (order level block : ℕ) (want : Want) (key path : List ℕ) (parts : Parts) (found : Option Entry) → want.addr < 2 ^ 64 → Subtree pages order (suc level) want key parts → Finds (FitsAt pages) order block found level want key path → IsMappedAs parts.mapped block found
unfolding Subtree Finds
found_is_mapped pages order zero block want key path parts found small tree is =
    let value : NodeRecord 1 is.entries ≡ NodeRecord 1 tree.entries = one_record pages want.addr key _ _ small is.fits.0 tree.fits.0 in
    let entries : is.entries ≡ tree.entries = cc in
    let here = subst (λ (es : List Entry). IsEntryOf es block found) entries is.is in
    subst (λ (p : Parts). IsMappedAs p.mapped block found) (sym tree.has) (leaf_found pages order want.high block found tree.entries tree.children here tree.each)
found_is_mapped pages order (suc level) block want key path parts found small tree is =
    let value : NodeRecord (suc (suc level)) is.entries ≡ NodeRecord (suc (suc level)) tree.entries = one_record pages want.addr key _ _ small is.fits.0 tree.fits.0 in
    let entries : is.entries ≡ tree.entries = cc in
    let split : tree.entries ≡ is.way.before ++ is.entry ∷ is.way.after = sym entries ∙ is.way.split in
    let up = subst (λ (es : List Entry). IsStrictlyIncreasing (lows es)) split tree.fits.0.in_range.0.ascend in
    let to = subst (λ (es : List Entry). All (λ e. e.low < want.high) es) split tree.fits.1.below_high in
    let each = subst (λ (es : List Entry). EachChild (Subtree pages order (suc level)) order (suc level) want.high es tree.children) split tree.each in
    let less = way_entry (λ (e : Entry). e.addr < want.addr) is.entries want.high block is.bound is.entry is.fits.0.in_range.0.below is.way in
    let goes = subst (λ (n : ℕ). Finds (FitsAt pages) order block found level (child_want order (suc level) is.entry n) is.entry.key is.rest) is.way.ends is.goes in
    subst (λ (p : Parts). IsMappedAs p.mapped block found) (sym tree.has)
    (inner_mapped (Subtree pages order (suc level)) order (suc level) want.high block found is.way.before is.way.after is.entry tree.children (subtree_bounded pages order level) up to each is.way.from
    (subst (λ n. block < n) is.way.ends is.way.below)
    (λ below sub. found_is_mapped pages order level block (child_want order (suc level) is.entry (bound_of is.way.after want.high)) is.entry.key is.rest below found (omega arith) sub goes))
