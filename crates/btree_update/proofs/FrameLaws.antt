-- What is found of a block among places: the same once some are opened, and of each other block once one is put there or taken away.
use Rattle.std.proofs.Common.{◌≡◌, ◌≢◌, ◌⊎◌, ◌↔◌, ℕ, zero, suc, ◌-◌, ◌<◌, ◌≤◌, ◌/◌, ◌^◌, List, [], ◌∷◌, ◌++◌, Option, None, Some, refl, sym, ap, subst, inl, inr, ◌∙◌, arith}
use Rattle.std.specs.Prelude.{map}
use Rattle.std.specs.List.{AllByRecursion}
use Rattle.std.specs.List.Sorted.{IsStrictlyIncreasing}
use Rattle.std.proofs.lemmas.Bool.{cases_lt, cases_eq, ne_eqb}
use Rattle.std.proofs.lemmas.List.Elements.{All-nil, All-cons, recursion_from_All}
use Rattle.node_codec.specs.declared.body.Entry.{Entry}
use Rattle.node_codec.specs.Record.{NodeRecord}
use Rattle.page_store.specs.declared.wants.Want.{Want}
use Rattle.page_store.specs.Places.{FitsAt, child_want}
use Rattle.page_store.specs.Tree.{bound_of}
use Rattle.page_store.proofs.RecordLaws.{one_record}
use Rattle.btree_walk.specs.Ways.{IsEntryOf}
use Rattle.btree_walk.specs.Finds.{Finds}
use Rattle.btree_walk.proofs.Elements.{Contains-head, Contains-tail}
use Rattle.btree_walk.proofs.LevelLaws.{above_leaves}
use Rattle.btree_walk.proofs.WayLaws.{begins_below, entry_is_one}
use Rattle.btree_twigs.specs.declared.twigs.Spot.{Spot}
use Rattle.btree_twigs.specs.declared.twigs.Spot.TheVariants.{Found, Absent, Below}
use Rattle.btree_twigs.specs.declared.twigs.Child.{Child, Child-F, out-Child}
use Rattle.btree_twigs.specs.declared.twigs.Child.TheOpen.{Kept, Grown}
use Rattle.btree_twigs.specs.declared.twigs.Twig.{Twig}
use Rattle.btree_twigs.specs.Shape.{IsTwig}
use Rattle.btree_twigs.specs.Updates.{IsOpen}
use Rattle.btree_twigs.specs.Top.{IsTopBy, top_least}
use Rattle.btree_twigs.specs.Stubs.{Stub, Tiles, Puts, Takes, datum, datum_in, low_of, start_by, children_of, stubs, stubs_by, stubs_in, stubs_below}
use Rattle.btree_twigs.specs.Search.{IsSpot}
use Rattle.btree_twigs.proofs.ListLaws.{tiles_append, tiles_from}
use Rattle.btree_twigs.proofs.Finds.{tiles_before, tiles_after}
use Rattle.btree_update.specs.GroveTree.{want_of, want_at, want_in, least_at, top_want, stubs_at}
use Rattle.btree_update.specs.Held.{stub_at, IsReadAs}
use Rattle.btree_update.specs.Roots.{IsRootBy}
use Rattle.btree_update.specs.Opens.{Opens, Same, Here, Within, Then, HasWay, IsThere}
use Rattle.btree_update.specs.Finding.{FindsBelow, FindsFrom, FindsAmong, RootFindsBy}
use Rattle.btree_update.proofs.Readings.{read_same, tail_ascends, bound_above}
use Rattle.btree_update.proofs.RowLaws.{all_front, all_back, all_append}
use Rattle.btree_update.proofs.FoundLaws.{root_want, up_twig}
use Rattle.btree_update.proofs.FoundMaps.{twig_tiles}
use Rattle.btree_update.proofs.Places.{bound_le}
use Rattle.btree_update.proofs.ThereLaws.{least_root, least_below, opens_up}
use Rattle.btree_update.proofs.WrongLaws.{entry_is}
use Rattle.btree_update.proofs.NodeFinds.{node_finds}

-- ---- what is found at the first place that has the block

-- a data record is there for it; or it is looked for from the node on
abbrev pub AtPlace : List (List ℕ) → ℕ → ℕ → ℕ → Stub → Option Entry → Type 0
AtPlace pages order top block s found =
    ((s.level ≡ 0) × (found ≡ Some (record { low = block; addr = s.addr; key = s.key }))) ⊎ ((1 ≤ s.level) × FindsBelow (FitsAt pages) block (want_in order top s) s.key found)

-- among places of a tree whose root is at a level
abbrev pub FindsIn : List (List ℕ) → ℕ → ℕ → ℕ → List Stub → Option Entry → Type 0
FindsIn pages order top block [] found = found ≡ None
FindsIn pages order top block (s ∷ ss) found =
    (HasWay block s × AtPlace pages order top block s found) ⊎ ((HasWay block s → ⊥) × FindsIn pages order top block ss found)

-- a place is below the root; and at level 0 it is that of one block
abbrev pub IsPlain : ℕ → Stub → Type 0
IsPlain top s = (s.level < top) × (s.level ≡ 0 → s.high ≡ suc s.low)

module _ (pages : List (List ℕ)) (order top block : ℕ) where
  abbrev In : List Stub → Option Entry → Type 0
  In ss found = FindsIn pages order top block ss found

  -- places that end before the block don't matter
  skip : (xs ys : List Stub) (found : Option Entry) → AllByRecursion (λ s. s.high ≤ block) xs → In (xs ++ ys) found ↔ In ys found
  skip [] ys found h = (λ f. f, λ f. f)
  skip (x ∷ xs) ys found h =
      let rest = skip xs ys found h.1 in
      let no : HasWay block x → ⊥ = λ has. omega (arith, has.1, h.0) in
      (λ f. elim f [ inl at ↦ absurd (no at.0) | inr more ↦ rest.0 more.1 ], λ f. inr (no, rest.1 f))

  -- nor do those that begin after it
  none : (ys : List Stub) (found : Option Entry) → AllByRecursion (λ s. block < s.low) ys → In ys found ↔ (found ≡ None)
  none [] found h = (λ f. f, λ f. f)
  none (y ∷ ys) found h =
      let rest = none ys found h.1 in
      let no : HasWay block y → ⊥ = λ has. omega (arith, has.0, h.0) in
      (λ f. elim f [ inl at ↦ absurd (no at.0) | inr more ↦ rest.0 more.1 ], λ f. inr (no, rest.1 f))

  only : (xs ys : List Stub) (found : Option Entry) → AllByRecursion (λ s. block < s.low) ys → In (xs ++ ys) found ↔ In xs found
  only [] ys found h = none ys found h
  only (x ∷ xs) ys found h =
      let rest = only xs ys found h in
      (λ f. elim f [ inl at ↦ inl at | inr more ↦ inr (more.0, rest.0 more.1) ], λ f. elim f [ inl at ↦ inl at | inr more ↦ inr (more.0, rest.1 more.1) ])

  -- where all of them end before the block
  lacks : (xs : List Stub) (found : Option Entry) → AllByRecursion (λ s. s.high ≤ block) xs → In xs found ↔ (found ≡ None)
  lacks [] found h = (λ f. f, λ f. f)
  lacks (x ∷ xs) found h =
      let rest = lacks xs found h.1 in
      let no : HasWay block x → ⊥ = λ has. omega (arith, has.1, h.0) in
      (λ f. elim f [ inl at ↦ absurd (no at.0) | inr more ↦ rest.0 more.1 ], λ f. inr (no, rest.1 f))

  -- ---- the same as where a search ends

  in_level : (s : Stub) → s.level < top → want_in order top s ≡ want_of order s
  in_level s less = ap (λ n. want_at order s.level s.low s.high s.addr n) (least_below order top s.level less)

  at_spot : (here back : List Stub) (found : Option Entry) → AllByRecursion (λ s. block < s.low) back → In here found → In (here ++ back) found
  at_spot here back found after f = (only here back found after).1 f

  -- what is found from where a search ends
  pub among_in : (ss : List Stub) (spot : Spot) (found : Option Entry) → AllByRecursion (IsPlain top) ss → IsSpot block ss spot → FindsFrom (FitsAt pages) order block spot found → In ss found
  among_in ss (Found addr key) found plain is f =
      let here : In (datum block addr key ∷ []) found = inl ((omega arith, omega arith), inl (refl, f)) in
      subst (λ xs. In xs found) (sym is.all) ((skip is.front (datum block addr key ∷ is.back) found is.before).1 (at_spot (datum block addr key ∷ []) is.back found is.after here))
  among_in ss Absent found plain is f =
      subst (λ xs. In xs found) (sym is.all) ((skip is.front is.back found is.before).1 ((none is.back found is.after).1 f))
  among_in ss (Below level low high addr key) found plain is f =
      let at = is.3 in
      let s = stub_at level low high addr key in
      let less = (all_back (IsPlain top) at.front (s ∷ at.back) (subst (AllByRecursion (IsPlain top)) at.all plain)).0.0 in
      let goes = subst (λ (w : Want). FindsBelow (FitsAt pages) block w key found) (sym (in_level s less)) f in
      let here : In (s ∷ []) found = inl ((is.1, is.2), inr (is.0, goes)) in
      subst (λ xs. In xs found) (sym at.all) ((skip at.front (s ∷ at.back) found at.before).1 (at_spot (s ∷ []) at.back found at.after here))

  same_stub : (s t : Stub) → s.level ≡ t.level → s.low ≡ t.low → s.high ≡ t.high → s.addr ≡ t.addr → s.key ≡ t.key → s ≡ t
  same_stub s t a b c d e = rw (a, b, c, d, e) refl

  spot_behind : (s : Stub) (ss : List Stub) (spot : Spot) → s.high ≤ block → IsSpot block ss spot → IsSpot block (s ∷ ss) spot
  spot_behind s ss (Found addr key) le is = record { front = s ∷ is.front; back = is.back; all = ap (λ xs. s ∷ xs) is.all; before = (le, is.before); after = is.after }
  spot_behind s ss Absent le is = record { front = s ∷ is.front; back = is.back; all = ap (λ xs. s ∷ xs) is.all; before = (le, is.before); after = is.after }
  spot_behind s ss (Below level low high addr key) le is =
      (is.0, is.1, is.2, record { front = s ∷ is.3.front; back = is.3.back; all = ap (λ xs. s ∷ xs) is.3.all; before = (le, is.3.before); after = is.3.after })

  pub in_among : (low high : ℕ) (ss : List Stub) (found : Option Entry) → Tiles low high ss → AllByRecursion (IsPlain top) ss → In ss found → FindsAmong (FitsAt pages) order block ss found
  in_among low high [] found tiles plain f = record { spot = Absent; is = record { front = []; back = []; all = refl; before = tt; after = tt }; finds = f }
  in_among low high (s ∷ ss) found tiles plain (inl (has, inl (level_is, is))) =
      let high_is = plain.0.1 level_is in
      let one : s ≡ datum block s.addr s.key = same_stub s (datum block s.addr s.key) level_is (omega (arith, has.0, has.1, high_is)) (omega (arith, has.0, has.1, high_is)) refl refl in
      record {
        spot = Found s.addr s.key;
        is = record { front = []; back = ss; all = ap (λ t. t ∷ ss) one; before = tt; after = tiles_after s.high high block ss tiles.2 has.1 };
        finds = is;
      }
  in_among low high (s ∷ ss) found tiles plain (inl (has, inr (level_from, goes))) = record {
    spot = Below s.level s.low s.high s.addr s.key;
    is = (level_from, has.0, has.1, record { front = []; back = ss; all = refl; before = tt; after = tiles_after s.high high block ss tiles.2 has.1 });
    finds = subst (λ (w : Want). FindsBelow (FitsAt pages) block w s.key found) (in_level s plain.0.0) goes;
  }
  in_among low high (s ∷ ss) found tiles plain (inr (apart, f)) = elim (cases_lt block s.low) [
    | inl less ↦ record {
      spot = Absent;
      is = record { front = []; back = s ∷ ss; all = refl; before = tt; after = (less, tiles_after s.high high block ss tiles.2 (omega (arith, less, tiles.1))) };
      finds = (none ss found (tiles_after s.high high block ss tiles.2 (omega (arith, less, tiles.1)))).0 f;
    }
    | inr from ↦ elim (cases_lt block s.high) [
      | inl to ↦ absurd (apart (from, to))
      | inr past ↦
          let rest = in_among s.high high ss found tiles.2 plain.1 f in
          record { spot = rest.spot; is = spot_behind s ss rest.spot (omega (arith, past)) rest.is; finds = rest.finds }
    ]
  ]

  -- ---- below a node that is there

  -- a leaf has an entry of the block, or none
  record LeafHas (high : ℕ) (es : List Entry) : Type 0 where
    found : Option Entry
    is : IsEntryOf es block found
    among : In (stubs_at 0 high es) found

  leaf_has : (high : ℕ) (es : List Entry) → LeafHas high es
  leaf_has high [] = record { found = None; is = All-nil (λ (e : Entry). e.low ≢ block); among = refl }
  leaf_has high (e ∷ es) = elim (cases_eq e.low block) [
    | inl same ↦ record {
      found = Some e;
      is = (Contains-head e es, same);
      among = inl ((omega (arith, same), omega (arith, same)), inl (refl, ap Some (entry_is e (record { low = block; addr = e.addr; key = e.key }) same refl refl)));
    }
    | inr other ↦
        let rest = leaf_has high es in
        let no : HasWay block (datum e.low e.addr e.key) → ⊥ = λ has. other (omega (arith, has.0, has.1)) in
        record { found = rest.found; is = behind e es rest.found other rest.is; among = inr (no, rest.among) }
  ]
    where
      behind : (e : Entry) (es : List Entry) (found : Option Entry) → e.low ≢ block → IsEntryOf es block found → IsEntryOf (e ∷ es) block found
      behind e es None other is = All-cons (λ (e : Entry). e.low ≢ block) e es other is
      behind e es (Some f) other is = (Contains-tail e es f is.0, is.1)

  -- below an inner node it is looked for from the entry on the way
  way_in : (level high bound : ℕ) (before after : List Entry) (entry : Entry) (found : Option Entry) → suc level < top → IsStrictlyIncreasing (map (λ (e : Entry). e.low) (before ++ entry ∷ after)) →
      entry.low ≤ block → block < bound_of after high → FindsBelow (FitsAt pages) block (child_want order (suc level) entry (bound_of after high)) entry.key found → In (stubs_at (suc level) high (before ++ entry ∷ after)) found
  way_in level high bound [] after entry found less up from to f =
      let s = stub_at (suc level) entry.low (bound_of after high) entry.addr entry.key in
      inl ((from, to), inr (omega arith, subst (λ (w : Want). FindsBelow (FitsAt pages) block w entry.key found) (sym (in_level s less)) f))
  way_in level high bound (e ∷ before) after entry found less up from to f =
      let le = begins_below before after entry high (tail_ascends e.low (map (λ (e : Entry). e.low) (before ++ entry ∷ after)) up) in
      inr ((λ has. omega (arith, has.1, le, from)), way_in level high bound before after entry found less (tail_ascends e.low (map (λ (e : Entry). e.low) (before ++ entry ∷ after)) up) from to f)

  -- the places below a node's entries ascend
  after_entry : (level high : ℕ) (e : Entry) (es : List Entry) → e.low < high → IsStrictlyIncreasing (map (λ (e : Entry). e.low) (e ∷ es)) → suc e.low ≤ bound_of es high
  after_entry level high e es less up = let t = bound_above e es high less up in omega (arith, t)

  from_next : (low high : ℕ) (es : List Entry) → low ≤ bound_of es high → IsStrictlyIncreasing (map (λ (e : Entry). e.low) es) → AllByRecursion (λ (e : Entry). low ≤ e.low) es
  from_next low high [] le up = tt
  from_next low high (e ∷ []) le up = (le, tt)
  from_next low high (e ∷ f ∷ es) le up =
      let less = up 0 (omega arith) in
      (le, from_next low high (f ∷ es) (omega (arith, le, less)) (tail_ascends e.low (map (λ (e : Entry). e.low) (f ∷ es)) up))

  pub tiles_at : (level low high : ℕ) (es : List Entry) → low ≤ high → AllByRecursion (λ (e : Entry). low ≤ e.low) es → AllByRecursion (λ (e : Entry). e.low < high) es → IsStrictlyIncreasing (map (λ (e : Entry). e.low) es) →
      Tiles low high (stubs_at level high es)
  tiles_at zero low high [] le h k up = le
  tiles_at (suc level) low high [] le h k up = le
  tiles_at zero low high (e ∷ es) le h k up =
      let next = after_entry 0 high e es k.0 up in
      let rest = tail_ascends e.low (map (λ (e : Entry). e.low) es) up in
      (h.0, omega arith, tiles_at zero (suc e.low) high es (omega (arith, k.0)) (from_next (suc e.low) high es next rest) k.1 rest)
  tiles_at (suc level) low high (e ∷ es) le h k up =
      let next = after_entry (suc level) high e es k.0 up in
      let rest = tail_ascends e.low (map (λ (e : Entry). e.low) es) up in
      (h.0, omega (arith, next), tiles_at (suc level) (bound_of es high) high es (bound_le high es k.1) (from_next (bound_of es high) high es (omega arith) rest) k.1 rest)

  plain_at : (level high : ℕ) (es : List Entry) → level < top → AllByRecursion (IsPlain top) (stubs_at level high es)
  plain_at zero high [] less = tt
  plain_at (suc level) high [] less = tt
  plain_at zero high (e ∷ es) less = ((less, λ is. refl), plain_at zero high es less)
  plain_at (suc level) high (e ∷ es) less = ((less, λ is. absurd (omega (arith, is))), plain_at (suc level) high es less)

  -- ---- a node that is there, and what is found below its place and among the places of its entries

  same_entries : (below low high addr : ℕ) (key : List ℕ) (es other : List Entry) → addr < 2 ^ 64 → FitsAt pages (want_in order top (stub_at (suc below) low high addr key)) key (NodeRecord (suc below) es) →
      FitsAt pages (want_in order top (stub_at (suc below) low high addr key)) key (NodeRecord (suc below) other) → other ≡ es
  same_entries below low high addr key es other small fits f =
      let value : NodeRecord (suc below) other ≡ NodeRecord (suc below) es = one_record pages addr key _ _ small f.0 fits.0 in
      cc

  entries_find : (below low high addr : ℕ) (key : List ℕ) (es : List Entry) (found : Option Entry) (path : List ℕ) → addr < 2 ^ 64 → suc below ≤ top → FitsAt pages (want_in order top (stub_at (suc below) low high addr key)) key (NodeRecord (suc below) es) →
      Finds (FitsAt pages) order block found below (want_in order top (stub_at (suc below) low high addr key)) key path → In (stubs_at below high es) found
  unfolding Finds
  entries_find zero low high addr key es found path small within fits f =
      let same = same_entries 0 low high addr key es f.entries small fits f.fits in
      let has = leaf_has high es in
      let one = entry_is_one es block has.found found fits.0.in_range.0.ascend has.is (subst (λ (xs : List Entry). IsEntryOf xs block found) same f.is) in
      subst (In (stubs_at 0 high es)) one has.among
  entries_find (suc below) low high addr key es found path small within fits f =
      let same = same_entries (suc below) low high addr key es f.entries small fits f.fits in
      let split : es ≡ f.way.before ++ f.entry ∷ f.way.after = sym same ∙ f.way.split in
      let one : suc below - 1 ≡ below = omega arith in
      let goes : FindsBelow (FitsAt pages) block (child_want order (suc below) f.entry f.bound) f.entry.key found = (f.rest, subst (λ n. Finds (FitsAt pages) order block found n (child_want order (suc below) f.entry f.bound) f.entry.key f.rest) (sym one) f.goes) in
      subst (λ (xs : List Entry). In (stubs_at (suc below) high xs) found) (sym split)
      (way_in below high f.bound f.way.before f.way.after f.entry found (omega (arith, within)) (subst (λ (xs : List Entry). IsStrictlyIncreasing (map (λ (e : Entry). e.low) xs)) split fits.0.in_range.0.ascend) f.way.from
      (subst (λ n. block < n) f.way.ends f.way.below) (subst (λ n. FindsBelow (FitsAt pages) block (child_want order (suc below) f.entry n) f.entry.key found) f.way.ends goes))

  least_some : (level : ℕ) → 4 ≤ order → 2 ≤ level → 1 ≤ least_at order top level
  least_some level four two = elim (cases_eq level top) [
    | inl same ↦ is_top level two same
    | inr other ↦ let e : least_at order top level ≡ order / 2 = rw (ne_eqb level top other) refl in omega (arith, e, four)
  ]
    where
      is_top : (level : ℕ) → 2 ≤ level → level ≡ top → 1 ≤ least_at order top level
      is_top zero two same = absurd (omega (arith, two))
      is_top (suc zero) two same = absurd (omega (arith, two))
      is_top (suc (suc level)) two same = subst (λ n. 1 ≤ least_at order n (suc (suc level))) same (let e = least_root order (suc level) in omega (arith, e))

  begins_at : (below low high addr : ℕ) (key : List ℕ) (es : List Entry) → 4 ≤ order → low ≤ block → FitsAt pages (want_in order top (stub_at (suc below) low high addr key)) key (NodeRecord (suc below) es) → 1 ≤ below → bound_of es high ≤ block
  begins_at below low high addr key [] four from fits one = let least = least_some (suc below) four (omega (arith, one)) in absurd (omega (arith, least, fits.1.least))
  begins_at below low high addr key (e ∷ es) four from fits one = omega (arith, from, fits.1.first (omega (arith, one)))

  pub node_same : (below low high addr : ℕ) (key : List ℕ) (es : List Entry) (found : Option Entry) → 4 ≤ order → addr < 2 ^ 64 → suc below ≤ top → low < high → FitsAt pages (want_in order top (stub_at (suc below) low high addr key)) key (NodeRecord (suc below) es) →
      Tiles low high (stubs_at below high es) × (In (stub_at (suc below) low high addr key ∷ []) found ↔ In (stubs_at below high es) found)
  node_same below low high addr key es found four small within less fits = (tiles, (to, from))
    where
      place : Stub
      place = stub_at (suc below) low high addr key

      want : Want
      want = want_in order top (stub_at (suc below) low high addr key)

      tiles : Tiles low high (stubs_at below high es)
      tiles = tiles_at below low high es (omega (arith, less)) (recursion_from_All (λ (e : Entry). low ≤ e.low) es fits.1.from_low) (recursion_from_All (λ (e : Entry). e.low < high) es fits.1.below_high) fits.0.in_range.0.ascend

      one : suc below - 1 ≡ below
      one = omega arith

      outside : (HasWay block (stub_at (suc below) low high addr key) → ⊥) → In (stubs_at below high es) found ↔ (found ≡ None)
      outside apart = elim (cases_lt block low) [
        | inl before ↦ none (stubs_at below high es) found (tiles_after low high block (stubs_at below high es) tiles before)
        | inr past ↦ lacks (stubs_at below high es) found (tiles_before low high block (stubs_at below high es) tiles (not_below past apart))
      ]
        where
          not_below : low ≤ block → (HasWay block (stub_at (suc below) low high addr key) → ⊥) → high ≤ block
          not_below past apart = elim (cases_lt block high) [ inl to ↦ absurd (apart (past, to)) | inr beyond ↦ beyond ]

      to : In (stub_at (suc below) low high addr key ∷ []) found → In (stubs_at below high es) found
      to (inl (has, inl (level_is, is))) = absurd (omega (arith, level_is))
      to (inl (has, inr (level_from, f))) =
          entries_find below low high addr key es found f.0 small within fits (subst (λ n. Finds (FitsAt pages) order block found n (want_in order top (stub_at (suc below) low high addr key)) key f.0) one f.1)
      to (inr (apart, is)) = (outside apart).1 is

      from : In (stubs_at below high es) found → In (stub_at (suc below) low high addr key ∷ []) found
      from f = elim (cases_lt block low) [
        | inl before ↦ inr ((λ has. omega (arith, has.0, before)), (outside (λ has. omega (arith, has.0, before))).0 f)
        | inr past ↦ elim (cases_lt block high) [
          | inr beyond ↦ inr ((λ has. omega (arith, has.1, beyond)), (outside (λ has. omega (arith, has.1, beyond))).0 f)
          | inl within_it ↦
              let plain = plain_at below high es (omega (arith, within)) in
              let among = in_among low high (stubs_at below high es) found tiles plain f in
              let goes = node_finds (FitsAt pages) order block below (want_in order top (stub_at (suc below) low high addr key)) key es found fits (begins_at below low high addr key es four (omega (arith, past)) fits) within_it among in
              inl ((omega (arith, past), within_it), inr (omega arith, (goes.0, subst (λ n. Finds (FitsAt pages) order block found n (want_in order top (stub_at (suc below) low high addr key)) key goes.0) (sym one) goes.1)))
        ]
      ]

  -- ---- places that are opened

  -- places lie within bounds, and at each of them what is found is found among others too
  pub record IsSame (low high : ℕ) (old new : List Stub) : Type 0 where
    pub tiles : Tiles low high new
    pub same : (found : Option Entry) → In old found ↔ In new found

  tiles_split : (low high : ℕ) (xs ys : List Stub) → Tiles low high (xs ++ ys) → (mid : ℕ) × Tiles low mid xs × Tiles mid high ys
  tiles_split low high [] ys t = (low, omega arith, t)
  tiles_split low high (x ∷ xs) ys t = let rest = tiles_split x.high high xs ys t.2 in (rest.0, (t.0, t.1, rest.1), rest.2)

  tiles_wider : (low less high : ℕ) (xs : List Stub) → less ≤ high → Tiles low less xs → Tiles low high xs
  tiles_wider low less high [] le t = omega (arith, t, le)
  tiles_wider low less high (x ∷ xs) le t = (t.0, t.1, tiles_wider x.high less high xs le t.2)

  opened_here : (low high below from to addr : ℕ) (key : List ℕ) (twig : Twig) → 4 ≤ order → suc below ≤ top → IsReadAs pages order below (stub_at (suc below) from to addr key) twig → IsThere pages (want_in order top (stub_at (suc below) from to addr key)) key →
      Tiles low high (stub_at (suc below) from to addr key ∷ []) → IsSame low high (stub_at (suc below) from to addr key ∷ []) (stubs_below below to twig)
  opened_here low high below from to addr key twig four within r there t =
      let value : NodeRecord (suc below) there.entries ≡ NodeRecord (suc below) r.entries = one_record pages addr key _ _ r.small there.fits.0 r.here in
      let entries : there.entries ≡ r.entries = cc in
      let fits = subst (λ (xs : List Entry). FitsAt pages (want_in order top (stub_at (suc below) from to addr key)) key (NodeRecord (suc below) xs)) entries there.fits in
      let is = read_same pages order below (stub_at (suc below) from to addr key) twig r in
      let same : (found : Option Entry) → Tiles from to (stubs_at below to r.entries) × (In (stub_at (suc below) from to addr key ∷ []) found ↔ In (stubs_at below to r.entries) found) = λ found. node_same below from to addr key r.entries found four r.small within t.1 fits in
      record {
        tiles = subst (Tiles low high) (sym is) (tiles_from from low high (stubs_at below to r.entries) t.0 (tiles_wider from to high (stubs_at below to r.entries) t.2 (same None).0));
        same = λ found. subst (λ xs. In (stub_at (suc below) from to addr key ∷ []) found ↔ In xs found) (sym is) (same found).1;
      }

  within_same : (low high : ℕ) (fs bs old new : List Stub) → ((low high : ℕ) → Tiles low high old → IsSame low high old new) → Tiles low high (fs ++ (old ++ bs)) → IsSame low high (fs ++ (old ++ bs)) (fs ++ (new ++ bs))
  within_same low high fs bs old new one t = record {
    tiles = tiles_append low first.0 high fs (new ++ bs) first.1 (tiles_append first.0 second.0 high new bs here.tiles second.2);
    same = λ found. elim (cases_lt block first.0) [
      | inl before ↦
          let old_after = only fs (old ++ bs) found (tiles_after first.0 high block (old ++ bs) first.2 before) in
          let new_after = only fs (new ++ bs) found (tiles_after first.0 high block (new ++ bs) (tiles_append first.0 second.0 high new bs here.tiles second.2) before) in
          (λ f. new_after.1 (old_after.0 f), λ f. old_after.1 (new_after.0 f))
      | inr past ↦
          let old_from = skip fs (old ++ bs) found (tiles_before low first.0 block fs first.1 (omega (arith, past))) in
          let new_from = skip fs (new ++ bs) found (tiles_before low first.0 block fs first.1 (omega (arith, past))) in
          let rest = middle found past in
          (λ f. new_from.1 (rest.0 (old_from.0 f)), λ f. old_from.1 (rest.1 (new_from.0 f)))
    ];
  }
    where
      first : (mid : ℕ) × Tiles low mid fs × Tiles mid high (old ++ bs)
      first = tiles_split low high fs (old ++ bs) t

      second : (mid : ℕ) × Tiles (tiles_split low high fs (old ++ bs) t).0 mid old × Tiles mid high bs
      second = tiles_split first.0 high old bs first.2

      here : IsSame first.0 second.0 old new
      here = one first.0 second.0 second.1

      middle : (found : Option Entry) → first.0 ≤ block → In (old ++ bs) found ↔ In (new ++ bs) found
      middle found past = elim (cases_lt block second.0) [
        | inl before ↦
            let old_after = only old bs found (tiles_after second.0 high block bs second.2 before) in
            let new_after = only new bs found (tiles_after second.0 high block bs second.2 before) in
            (λ f. new_after.1 ((here.same found).0 (old_after.0 f)), λ f. old_after.1 ((here.same found).1 (new_after.0 f)))
        | inr behind ↦
            let old_from = skip old bs found (tiles_before first.0 second.0 block old second.1 (omega (arith, behind))) in
            let new_from = skip new bs found (tiles_before first.0 second.0 block new here.tiles (omega (arith, behind))) in
            (λ f. new_from.1 (old_from.0 f), λ f. old_from.1 (new_from.0 f))
      ]

  abbrev AreThere : List Stub → Type 0
  AreThere places = AllByRecursion (λ s. IsThere pages (want_in order top s) s.key) places

  abbrev AreUpTo : List Stub → Type 0
  AreUpTo ss = AllByRecursion (λ s. s.level ≤ top) ss

  pub opened_same : (places old new : List Stub) → 4 ≤ order → Opens pages order places old new → AreThere places → AreUpTo old → (low high : ℕ) → Tiles low high old → IsSame low high old new
  opened_same places old new four Same there up low high t = record { tiles = t; same = λ found. (λ f. f, λ f. f) }
  opened_same places old new four (Here {below = below} {low = from} {high = to} {addr = addr} {key = key} {twig = twig} r) there up low high t =
      opened_here low high below from to addr key twig four up.0 r there.0 t
  opened_same places old new four (Within {places = first} {old = xs} {new = ys} fs bs o) there up low high t =
      within_same low high fs bs xs ys (λ low high t. opened_same first xs ys four o there (all_front (λ s. s.level ≤ top) xs bs (all_back (λ s. s.level ≤ top) fs (xs ++ bs) up)) low high t) t
  opened_same places old new four (Then {first = first} {second = second} {old = xs} {mid = mid} {new = ys} o p) there up low high t =
      let one = opened_same first xs mid four o (all_front (λ s. IsThere pages (want_in order top s) s.key) first second there) up low high t in
      let two = opened_same second mid ys four p (all_back (λ s. IsThere pages (want_in order top s) s.key) first second there) (opens_up top pages order first xs mid o up).1 low high one.tiles in
      record { tiles = two.tiles; same = λ found. (λ f. (two.same found).0 ((one.same found).0 f), λ f. (one.same found).1 ((two.same found).1 f)) }

  -- ---- a place that is put there, or taken away

  pub takes_same : (taken high : ℕ) (old new : List Stub) (found : Option Entry) → taken ≢ block → Takes 0 high taken old new → In old found ↔ In new found
  takes_same taken high old new found other t = subst (λ xs. In xs found ↔ In new found) (sym t.was) (subst (λ ys. In (t.front ++ (t.mid ++ t.back)) found ↔ In ys found) (sym t.now) (elim (cases_lt block taken) [
    | inl before ↦
        let one = only t.front (t.mid ++ t.back) found (tiles_after taken high block (t.mid ++ t.back) (tiles_append taken (suc taken) high t.mid t.back t.here t.after) before) in
        let two = only t.front t.back found (tiles_after (suc taken) high block t.back t.after (omega (arith, before))) in
        (λ f. two.1 (one.0 f), λ f. one.1 (two.0 f))
    | inr past ↦
        let front = tiles_before 0 taken block t.front t.before (omega (arith, past)) in
        let one = skip t.front (t.mid ++ t.back) found front in
        let mid = skip t.mid t.back found (tiles_before taken (suc taken) block t.mid t.here (omega (arith, past, other))) in
        let two = skip t.front t.back found front in
        (λ f. two.1 (mid.0 (one.0 f)), λ f. one.1 (mid.1 (two.0 f)))
  ]))

  pub takes_gone : (high : ℕ) (old new : List Stub) → Takes 0 high block old new → In new None
  takes_gone high old new t =
      subst (λ ys. In ys None) (sym t.now) ((skip t.front t.back None (tiles_before 0 block block t.front t.before (omega arith))).1 ((none t.back None (tiles_after (suc block) high block t.back t.after (omega arith))).1 refl))

  pub puts_same : (put high addr : ℕ) (key : List ℕ) (old new : List Stub) (found : Option Entry) → put ≢ block → Puts 0 high (datum put addr key) old new → In old found ↔ In new found
  puts_same put high addr key old new found other t = subst (λ xs. In xs found ↔ In new found) (sym t.was) (subst (λ ys. In (t.front ++ (t.mid ++ t.back)) found ↔ In ys found) (sym t.now) (elim (cases_lt block put) [
    | inl before ↦
        let back = tiles_after (suc put) high block t.back t.after (omega (arith, before)) in
        let one = only t.front (t.mid ++ t.back) found (tiles_after put high block (t.mid ++ t.back) (tiles_append put (suc put) high t.mid t.back t.here t.after) before) in
        let two = only t.front (datum put addr key ∷ t.back) found (before, back) in
        (λ f. two.1 (one.0 f), λ f. one.1 (two.0 f))
    | inr past ↦
        let front = tiles_before 0 put block t.front t.before (omega (arith, past)) in
        let one = skip t.front (t.mid ++ t.back) found front in
        let mid = skip t.mid t.back found (tiles_before put (suc put) block t.mid t.here (omega (arith, past, other))) in
        let two = skip t.front (datum put addr key ∷ t.back) found front in
        let here = skip (datum put addr key ∷ []) t.back found (omega (arith, past, other), tt) in
        (λ f. two.1 (here.1 (mid.0 (one.0 f))), λ f. one.1 (mid.1 (here.0 (two.0 f))))
  ]))

  pub puts_here : (high addr : ℕ) (key : List ℕ) (old new : List Stub) → Puts 0 high (datum block addr key) old new → In new (Some (record { low = block; addr = addr; key = key }))
  puts_here high addr key old new t =
      subst (λ ys. In ys (Some (record { low = block; addr = addr; key = key }))) (sym t.now) ((skip t.front (datum block addr key ∷ t.back) _ (tiles_before 0 block block t.front t.before (omega arith))).1 (inl ((omega arith, omega arith), inl (refl, refl))))

-- ---- below a root

-- a place below the root, or the root's own
abbrev pub IsLower : ℕ → ℕ → Stub → Type 0
IsLower top blocks s = (s.level ≤ top) × ((s.level < top) ⊎ ((s.low ≡ 0) × (s.high ≡ blocks)))

lower_at : (top blocks level high : ℕ) (es : List Entry) → level < top → AllByRecursion (IsLower top blocks) (stubs_at level high es)
lower_at top blocks zero high [] less = tt
lower_at top blocks (suc level) high [] less = tt
lower_at top blocks zero high (e ∷ es) less = ((omega arith, inl less), lower_at top blocks zero high es less)
lower_at top blocks (suc level) high (e ∷ es) less = ((omega (arith, less), inl less), lower_at top blocks (suc level) high es less)

pub opened_lower : (pages : List (List ℕ)) (order top blocks : ℕ) (places old new : List Stub) → Opens pages order places old new → AllByRecursion (IsLower top blocks) old → AllByRecursion (IsLower top blocks) new
opened_lower pages order top blocks places old new Same h = h
opened_lower pages order top blocks places old new (Here {below = below} {low = low} {high = high} {addr = addr} {key = key} {twig = twig} r) h =
    subst (AllByRecursion (IsLower top blocks)) (sym (read_same pages order below (stub_at (suc below) low high addr key) twig r)) (lower_at top blocks below high r.entries (omega (arith, h.0.0)))
opened_lower pages order top blocks places old new (Within {places = first} {old = xs} {new = ys} fs bs o) h =
    let rest = all_back (IsLower top blocks) fs (xs ++ bs) h in
    all_append (IsLower top blocks) fs (ys ++ bs) (all_front (IsLower top blocks) fs (xs ++ bs) h)
    (all_append (IsLower top blocks) ys bs (opened_lower pages order top blocks first xs ys o (all_front (IsLower top blocks) xs bs rest)) (all_back (IsLower top blocks) xs bs rest))
opened_lower pages order top blocks places old new (Then {first = first} {second = second} {old = xs} {mid = mid} {new = ys} o p) h = opened_lower pages order top blocks second mid ys p (opened_lower pages order top blocks first xs mid o h)

-- where the way to a block is open the root is
pub lower_open : (top blocks block : ℕ) (ss : List Stub) → 1 ≤ top → block < blocks → IsOpen block ss → AllByRecursion (IsLower top blocks) ss → AllByRecursion (λ s. s.level < top) ss
lower_open top blocks block [] one to o h = tt
lower_open top blocks block (s ∷ ss) one to o h = (by h.0.1, lower_open top blocks block ss one to o.1 h.1)
  where
    by : (s.level < top) ⊎ ((s.low ≡ 0) × (s.high ≡ blocks)) → s.level < top
    by (inl less) = less
    by (inr all) = let level = o.0 (omega (arith, all.0)) (omega (arith, all.1, to)) in omega (arith, level, one)

-- a place at level 0 is that of one block
abbrev IsOne : Stub → Type 0
IsOne s = s.level ≡ 0 → s.high ≡ suc s.low

one_each : (high : ℕ) (below : ℕ → Child → List Stub) (cs : List Child) → ((high : ℕ) (c : Child) → AllByRecursion IsOne (below high c)) → AllByRecursion IsOne (stubs_by low_of below high cs)
one_each high below [] one = tt
one_each high below (c ∷ cs) one = all_append IsOne (below (start_by low_of cs high) c) (stubs_by low_of below high cs) (one (start_by low_of cs high) c) (one_each high below cs one)

one_datum : (x : Child-F Child Twig) → AllByRecursion IsOne (datum_in x)
one_datum (Kept low addr key) = ((λ is. refl), tt)
one_datum (Grown low twig) = tt

one_in : (level high : ℕ) (below : ℕ → Child → List Stub) (x : Child-F Child Twig) → ((high : ℕ) (c : Child) → AllByRecursion IsOne (below high c)) → AllByRecursion IsOne (stubs_in below (suc level) high x)
one_in level high below (Kept low addr key) one = ((λ is. absurd (omega (arith, is))), tt)
one_in level high below (Grown low twig) one = one_each high below (children_of twig) one

one_child : (level high : ℕ) (c : Child) → AllByRecursion IsOne (stubs level high c)
unfolding stubs
one_child zero high c = one_datum (out-Child c)
one_child (suc level) high c = one_in level high (stubs level) (out-Child c) (one_child level)

both : (top : ℕ) (ss : List Stub) → AllByRecursion (λ s. s.level < top) ss → AllByRecursion IsOne ss → AllByRecursion (IsPlain top) ss
both top [] h k = tt
both top (s ∷ ss) h k = ((h.0, k.0), both top ss h.1 k.1)

less_up : (level top : ℕ) (ss : List Stub) → level < top → AllByRecursion (λ s. s.level ≤ level) ss → AllByRecursion (λ s. s.level < top) ss
less_up level top [] less h = tt
less_up level top (s ∷ ss) less h = (omega (arith, less, h.0), less_up level top ss less h.1)

module _ (pages : List (List ℕ)) (order top block level high : ℕ) where
  grown_in_it : (twig : Twig) (found : Option Entry) → IsTwig order level (top_least level) order 0 high twig → AllByRecursion (λ s. s.level < top) (stubs_below level high twig) →
      FindsAmong (FitsAt pages) order block (stubs_below level high twig) found ↔ FindsIn pages order top block (stubs_below level high twig) found
  grown_in_it twig found h less =
      let ones = one_each high (stubs level) (children_of twig) (one_child level) in
      let plain = both top (stubs_below level high twig) less ones in
      (λ f. among_in pages order top block (stubs_below level high twig) f.spot found plain f.is f.finds, in_among pages order top block 0 high (stubs_below level high twig) found (twig_tiles order level (top_least level) order high twig h) plain)

  -- below a root in memory
  pub top_in : (x : Child-F Child Twig) (found : Option Entry) → IsTopBy order level high x → AllByRecursion (λ s. s.level < top) (stubs_in (stubs level) (suc level) high x) →
      RootFindsBy (FitsAt pages) order block level high x found ↔ FindsIn pages order top block (stubs_in (stubs level) (suc level) high x) found
  top_in (Kept low addr key) found h less = absurd h
  top_in (Grown low twig) found h less = grown_in_it twig found h.1 less

-- below a root that may be on the medium
root_in_by : (pages : List (List ℕ)) (order block level high : ℕ) (x : Child-F Child Twig) (found : Option Entry) → IsRootBy order level high x → block < high →
    RootFindsBy (FitsAt pages) order block level high x found ↔ FindsIn pages order (suc level) block (stubs_in (stubs level) (suc level) high x) found
root_in_by pages order block level high (Kept low addr key) found h to = (into, out)
  where
    want_same : want_in order (suc level) (stub_at (suc level) low high addr key) ≡ top_want order high (suc level) addr
    want_same = ap (λ n. want_at order (suc level) low high addr n) (least_root order level) ∙ root_want order level low high addr h

    into : FindsBelow (FitsAt pages) block (top_want order high (suc level) addr) key found → FindsIn pages order (suc level) block (stub_at (suc level) low high addr key ∷ []) found
    into f = inl ((omega (arith, h), to), inr (omega arith, subst (λ (w : Want). FindsBelow (FitsAt pages) block w key found) (sym want_same) f))

    out : FindsIn pages order (suc level) block (stub_at (suc level) low high addr key ∷ []) found → FindsBelow (FitsAt pages) block (top_want order high (suc level) addr) key found
    out (inl (has, inl (level_is, is))) = absurd (omega (arith, level_is))
    out (inl (has, inr (one, f))) = subst (λ (w : Want). FindsBelow (FitsAt pages) block w key found) want_same f
    out (inr (apart, is)) = absurd (apart (omega (arith, h), to))
root_in_by pages order block level high (Grown low twig) found h to =
    grown_in_it pages order (suc level) block level high twig found h.1 (less_up level (suc level) (stubs_below level high twig) (omega arith) (up_twig level high twig))

lower_child : (order level high : ℕ) (x : Child-F Child Twig) → IsRootBy order level high x → AllByRecursion (IsLower (suc level) high) (stubs_in (stubs level) (suc level) high x)
lower_child order level high (Kept low addr key) h = ((omega arith, inr (h, refl)), tt)
lower_child order level high (Grown low twig) h = go (stubs_below level high twig) (up_twig level high twig)
  where
    go : (ss : List Stub) → AllByRecursion (λ s. s.level ≤ level) ss → AllByRecursion (IsLower (suc level) high) ss
    go [] k = tt
    go (s ∷ ss) k = ((omega (arith, k.0), inl (omega (arith, k.0))), go ss k.1)

root_tiles : (order level high : ℕ) (x : Child-F Child Twig) → IsRootBy order level high x → 0 < high → Tiles 0 high (stubs_in (stubs level) (suc level) high x)
root_tiles order level high (Kept low addr key) h to = (omega arith, omega (arith, h, to), omega arith)
root_tiles order level high (Grown low twig) h to = twig_tiles order level (top_least level) order high twig h.1

-- what is found in a tree is found among its places
pub root_in : (pages : List (List ℕ)) (order block level high : ℕ) (top : Child) (found : Option Entry) → 1 ≤ level → IsRootBy order (level - 1) high (out-Child top) → block < high →
    RootFindsBy (FitsAt pages) order block (level - 1) high (out-Child top) found ↔ FindsIn pages order level block (stubs level high top) found
unfolding stubs
root_in pages order block level high top found one h to =
    subst (λ n. RootFindsBy (FitsAt pages) order block (level - 1) high (out-Child top) found ↔ FindsIn pages order n block (stubs n high top) found) (above_leaves level one) (root_in_by pages order block (level - 1) high (out-Child top) found h to)

pub new_in : (pages : List (List ℕ)) (order top block level high : ℕ) (child : Child) (found : Option Entry) → 1 ≤ level → IsTopBy order (level - 1) high (out-Child child) → AllByRecursion (λ s. s.level < top) (stubs level high child) →
    RootFindsBy (FitsAt pages) order block (level - 1) high (out-Child child) found ↔ FindsIn pages order top block (stubs level high child) found
unfolding stubs
new_in pages order top block level high child found one h less =
    subst (λ n. RootFindsBy (FitsAt pages) order block (level - 1) high (out-Child child) found ↔ FindsIn pages order top block (stubs n high child) found) (above_leaves level one)
    (top_in pages order top block (level - 1) high (out-Child child) found h (subst (λ n. AllByRecursion (λ s. s.level < top) (stubs n high child)) (sym (above_leaves level one)) less))

pub places_lower : (order level high : ℕ) (child : Child) → 1 ≤ level → IsRootBy order (level - 1) high (out-Child child) → AllByRecursion (IsLower level high) (stubs level high child)
unfolding stubs
places_lower order level high child one h = subst (λ n. AllByRecursion (IsLower n high) (stubs n high child)) (above_leaves level one) (lower_child order (level - 1) high (out-Child child) h)

pub places_tile : (order level high : ℕ) (child : Child) → 1 ≤ level → IsRootBy order (level - 1) high (out-Child child) → 0 < high → Tiles 0 high (stubs level high child)
unfolding stubs
places_tile order level high child one h to = subst (λ n. Tiles 0 high (stubs n high child)) (above_leaves level one) (root_tiles order (level - 1) high (out-Child child) h to)
