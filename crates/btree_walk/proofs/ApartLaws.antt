-- No page stands, under one key, at two places of a tree.
use Rattle.std.proofs.Common.{◌≡◌, ℕ, zero, suc, ◌<◌, ◌≤◌, ◌^◌, List, [], ◌∷◌, ◌++◌, length, map, sym, subst, arith}
use Rattle.std.specs.Prelude.{All, AllPairs}
use Rattle.std.specs.List.Sorted.{IsStrictlyIncreasing}
use Rattle.std.proofs.lemmas.List.Elements.{All-nil, All-cons, All-head, All-tail, All-weaker, All-append}
use Rattle.std.proofs.lemmas.List.Kept.{AllPairs-cons}
use Rattle.sdbt_base.specs.Traces.{DataOf, NodeOver}
use Rattle.node_codec.specs.declared.body.Entry.{Entry}
use Rattle.node_codec.specs.Record.{Record, DataRecord, NodeRecord}
use Rattle.root_codec.specs.declared.root.Root.{Root}
use Rattle.root_codec.specs.RootRecord.{FitsRoot}
use Rattle.page_store.specs.declared.wants.Want.{Want}
use Rattle.page_store.specs.Places.{IsRecordAt, root_want, child_want}
use Rattle.page_store.specs.Tree.{Place, Parts, joined, bound_of, EachChild, Subtree, Tree}
use Rattle.page_store.proofs.RecordLaws.{one_record}
use Rattle.btree_walk.specs.Mapped.{ApartByKey}
use Rattle.btree_walk.proofs.TurnLaws.{lows}
use Rattle.btree_walk.proofs.WayLaws.{up_tail}
use Rattle.btree_walk.proofs.MappedLaws.{lows_from}
use Rattle.btree_walk.proofs.ListLaws.{below_bound}
use Rattle.btree_walk.proofs.OneWalkLaws.{small_entries}

-- a record begins within bounds, and is at most so high above the data records
abbrev Begins : ℕ → ℕ → ℕ → Record → Type 0
Begins low high level (DataRecord block content) = (low ≤ block) × (block < high)
Begins low high level (NodeRecord l []) = ⊥
Begins low high level (NodeRecord l (e ∷ es)) = (l ≤ level) × ((low ≤ e.low) × (e.low < high))

-- the record of a place begins within bounds
record Lies (pages : List (List ℕ)) (low high level : ℕ) (place : Place) : Type 0 where
  pub value : Record
  pub reads : IsRecordAt pages place.addr place.key value
  pub begins : Begins low high level value

begins_wider : (low high level low' high' level' : ℕ) (value : Record) → low ≤ low' → high' ≤ high → level' ≤ level → Begins low' high' level' value → Begins low high level value
begins_wider low high level low' high' level' (DataRecord block content) l h n (from, to) = (omega arith, omega arith)
begins_wider low high level low' high' level' (NodeRecord m []) l h n is = is
begins_wider low high level low' high' level' (NodeRecord m (e ∷ es)) l h n (most, (from, to)) = (omega arith, (omega arith, omega arith))

lies_wider : (pages : List (List ℕ)) (low high level low' high' level' : ℕ) (places : List Place) → low ≤ low' → high' ≤ high → level' ≤ level → All (Lies pages low' high' level') places → All (Lies pages low high level) places
lies_wider pages low high level low' high' level' places l h n all =
    All-weaker (Lies pages low' high' level') (Lies pages low high level)
    (λ place is. record { value = is.value; reads = is.reads; begins = begins_wider low high level low' high' level' is.value l h n is.begins }) places all

begins_apart : (low mid high level level' : ℕ) (value : Record) → Begins low mid level value → Begins mid high level' value → ⊥
begins_apart low mid high level level' (DataRecord block content) (from, to) (from', to') = omega arith
begins_apart low mid high level level' (NodeRecord l []) one two = one
begins_apart low mid high level level' (NodeRecord l (e ∷ es)) (most, (from, to)) (most', (from', to')) = omega arith

begins_higher : (low high level : ℕ) (entries : List Entry) → Begins low high level (NodeRecord (suc level) entries) → ⊥
begins_higher low high level [] is = is
begins_higher low high level (e ∷ es) (most, rest) = omega arith

-- two places with one address and key have one record
same_record : (pages : List (List ℕ)) (p q : Place) (one other : Record) → p.addr < 2 ^ 64 → p.addr ≡ q.addr → p.key ≡ q.key → IsRecordAt pages p.addr p.key one → IsRecordAt pages q.addr q.key other → one ≡ other
same_record pages p q one other small addr key is is' =
    let moved = subst (λ (a : ℕ). IsRecordAt pages a p.key other) (sym addr) (subst (λ (k : List ℕ). IsRecordAt pages q.addr k other) (sym key) is') in
    one_record pages p.addr p.key one other small is moved

abbrev IsSmallPlace : Place → Type 0
IsSmallPlace place = place.addr < 2 ^ 64

pub from_bound : (high : ℕ) (xs : List Entry) → IsStrictlyIncreasing (lows xs) → All (λ x. bound_of xs high ≤ x.low) xs
from_bound high [] up = All-nil (λ (x : Entry). bound_of [] high ≤ x.low)
from_bound high (x ∷ xs) up = lows_from x.low (x ∷ xs) up (omega arith)

pub bound_most : (high : ℕ) (es : List Entry) → All (λ e. e.low < high) es → bound_of es high ≤ high
bound_most high [] below = omega arith
bound_most high (e ∷ es) below = let less = All-head (λ (x : Entry). x.low < high) e es below in omega arith

abbrev LieWithin : List (List ℕ) → ℕ → (Want → List ℕ → Parts → Type 0) → Type 0
LieWithin pages level Below = (want : Want) (key : List ℕ) (parts : Parts) → want.low < want.high → (1 ≤ level → 1 ≤ want.least) → Below want key parts → All (Lies pages want.low want.high level) parts.places

each_lies : (pages : List (List ℕ)) (Below : Want → List ℕ → Parts → Type 0) (order level low high : ℕ) (entries : List Entry) (children : List Parts) → 2 ≤ order → LieWithin pages level Below
    → IsStrictlyIncreasing (lows entries) → All (λ e. low ≤ e.low) entries → All (λ e. e.low < high) entries → EachChild Below order level high entries children → All (Lies pages low high level) (joined children).places
each_lies pages Below order level low high [] [] two lie up from to each = All-nil (Lies pages low high level)
each_lies pages Below order level low high [] (parts ∷ children) two lie up from to each = absurd each
each_lies pages Below order level low high (e ∷ es) [] two lie up from to each = absurd each
each_lies pages Below order level low high (e ∷ es) (parts ∷ children) two lie up from to each =
    let to' = All-tail (λ (x : Entry). x.low < high) e es to in
    let first = lie (child_want order level e (bound_of es high)) e.key parts (below_bound e es high up to) (λ some. omega arith) each.0 in
    All-append (Lies pages low high level) parts.places (joined children).places
    (lies_wider pages low high level e.low (bound_of es high) level parts.places (All-head (λ (x : Entry). low ≤ x.low) e es from) (bound_most high es to') (omega arith) first)
    (each_lies pages Below order level low high es children two lie (up_tail e es up) (All-tail (λ (x : Entry). low ≤ x.low) e es from) to' each.1)

module _ (pages : List (List ℕ)) (order : ℕ) (two : 2 ≤ order) where
  subtree_lies : (level : ℕ) → LieWithin pages level (Subtree pages order level)
  unfolding Subtree
  subtree_lies zero want key parts less some is =
      let here : Place = record { addr = want.addr; key = key; trace = DataOf want.low } in
      subst (λ (p : Parts). All (Lies pages want.low want.high zero) p.places) (sym is.has)
      (All-cons (Lies pages want.low want.high zero) here [] (record { value = DataRecord want.low is.content; reads = is.fits.0; begins = (omega arith, less) }) (All-nil (Lies pages want.low want.high zero)))
  subtree_lies (suc level) want key parts less some is =
      let here : Place = record { addr = want.addr; key = key; trace = NodeOver (map (λ (e : Entry). e.addr) is.entries) } in
      let below = each_lies pages (Subtree pages order level) order level want.low want.high is.entries is.children two (subtree_lies level) is.fits.0.in_range.0.ascend is.fits.1.from_low is.fits.1.below_high is.each in
      let least = is.fits.1.least in
      let one = some (omega arith) in
      let begins = first is.entries (omega arith) is.fits.1.from_low is.fits.1.below_high in
      subst (λ (p : Parts). All (Lies pages want.low want.high (suc level)) p.places) (sym is.has)
      (All-cons (Lies pages want.low want.high (suc level)) here (joined is.children).places (record { value = NodeRecord (suc level) is.entries; reads = is.fits.0; begins = begins })
      (lies_wider pages want.low want.high (suc level) want.low want.high level (joined is.children).places (omega arith) (omega arith) (omega arith) below))
    where
      first : (es : List Entry) → 1 ≤ length es → All (λ e. want.low ≤ e.low) es → All (λ e. e.low < want.high) es → Begins want.low want.high (suc level) (NodeRecord (suc level) es)
      first [] n from to = absurd (omega arith)
      first (e ∷ es) n from to = (omega arith, (All-head (λ (x : Entry). want.low ≤ x.low) e es from, All-head (λ (x : Entry). x.low < want.high) e es to))

-- ---- apart

pub AllPairs-none : {X : Type 0} (R : X → X → Type 0) → AllPairs R []
AllPairs-none R i j d less within = absurd (omega arith)

pub AllPairs-append : {X : Type 0} (R : X → X → Type 0) (xs ys : List X) → AllPairs R xs → AllPairs R ys → All (λ x. All (R x) ys) xs → AllPairs R (xs ++ ys)
AllPairs-append R [] ys one two cross = two
AllPairs-append R (x ∷ xs) ys one two cross =
    AllPairs-cons R x (xs ++ ys)
    (All-append (R x) xs ys (λ k d within. one 0 (suc k) d (omega arith) (omega arith)) (All-head (λ z. All (R z) ys) x xs cross))
    (AllPairs-append R xs ys (λ i j d less within. one (suc i) (suc j) d (omega arith) (omega arith)) two (All-tail (λ z. All (R z) ys) x xs cross))

-- what lies below a bound is apart from what lies from it on
cross_apart : (pages : List (List ℕ)) (low mid high level : ℕ) (ps qs : List Place) → All IsSmallPlace ps → All (Lies pages low mid level) ps → All (Lies pages mid high level) qs → All (λ p. All (ApartByKey p) qs) ps
cross_apart pages low mid high level [] qs small one two = All-nil (λ p. All (ApartByKey p) qs)
cross_apart pages low mid high level (p ∷ ps) qs small one two =
    let here = All-head (Lies pages low mid level) p ps one in
    All-cons (λ p. All (ApartByKey p) qs) p ps
    (All-weaker (Lies pages mid high level) (ApartByKey p)
    (λ q there same.
    (let value : here.value ≡ there.value = same_record pages p q here.value there.value (All-head IsSmallPlace p ps small) same.0 same.1 here.reads there.reads in
    begins_apart low mid high level level there.value (subst (Begins low mid level) value here.begins) there.begins)) qs two)
    (cross_apart pages low mid high level ps qs (All-tail IsSmallPlace p ps small) (All-tail (Lies pages low mid level) p ps one) two)

each_small : (Below : Want → List ℕ → Parts → Type 0) (order level high : ℕ) (entries : List Entry) (children : List Parts) → ((want : Want) (key : List ℕ) (parts : Parts) → want.addr < 2 ^ 64 → Below want key parts → All IsSmallPlace parts.places)
    → All (λ e. e.addr < 2 ^ 64) entries → EachChild Below order level high entries children → All IsSmallPlace (joined children).places
each_small Below order level high [] [] small all each = All-nil IsSmallPlace
each_small Below order level high [] (parts ∷ children) small all each = absurd each
each_small Below order level high (e ∷ es) [] small all each = absurd each
each_small Below order level high (e ∷ es) (parts ∷ children) small all each =
    All-append IsSmallPlace parts.places (joined children).places
    (small (child_want order level e (bound_of es high)) e.key parts (All-head (λ (x : Entry). x.addr < 2 ^ 64) e es all) each.0)
    (each_small Below order level high es children small (All-tail (λ (x : Entry). x.addr < 2 ^ 64) e es all) each.1)

subtree_small : (pages : List (List ℕ)) (order level : ℕ) (want : Want) (key : List ℕ) (parts : Parts) → want.addr < 2 ^ 64 → Subtree pages order level want key parts → All IsSmallPlace parts.places
unfolding Subtree
subtree_small pages order zero want key parts small is =
    let here : Place = record { addr = want.addr; key = key; trace = DataOf want.low } in
    subst (λ (p : Parts). All IsSmallPlace p.places) (sym is.has) (All-cons IsSmallPlace here [] small (All-nil IsSmallPlace))
subtree_small pages order (suc level) want key parts small is =
    let here : Place = record { addr = want.addr; key = key; trace = NodeOver (map (λ (e : Entry). e.addr) is.entries) } in
    let below = each_small (Subtree pages order level) order level want.high is.entries is.children (subtree_small pages order level) (small_entries pages want key (suc level) is.entries small is.fits) is.each in
    subst (λ (p : Parts). All IsSmallPlace p.places) (sym is.has) (All-cons IsSmallPlace here (joined is.children).places small below)

abbrev AreApart : (Want → List ℕ → Parts → Type 0) → Type 0
AreApart Below = (want : Want) (key : List ℕ) (parts : Parts) → want.addr < 2 ^ 64 → Below want key parts → AllPairs ApartByKey parts.places

module _ (pages : List (List ℕ)) (order : ℕ) (two : 2 ≤ order) where
  each_apart : (level high : ℕ) (entries : List Entry) (children : List Parts) → AreApart (Subtree pages order level) → IsStrictlyIncreasing (lows entries) → All (λ e. e.low < high) entries → All (λ e. e.addr < 2 ^ 64) entries
      → EachChild (Subtree pages order level) order level high entries children → AllPairs ApartByKey (joined children).places
  each_apart level high [] [] apart up to small each = AllPairs-none ApartByKey
  each_apart level high [] (parts ∷ children) apart up to small each = absurd each
  each_apart level high (e ∷ es) [] apart up to small each = absurd each
  each_apart level high (e ∷ es) (parts ∷ children) apart up to small each =
      let want = child_want order level e (bound_of es high) in
      let small' = All-head (λ (x : Entry). x.addr < 2 ^ 64) e es small in
      let to' = All-tail (λ (x : Entry). x.low < high) e es to in
      let up' = up_tail e es up in
      let first = subtree_lies pages order two level want e.key parts (below_bound e es high up to) (λ some. omega arith) each.0 in
      let rest = each_lies pages (Subtree pages order level) order level (bound_of es high) high es children two (subtree_lies pages order two level) up' (from_bound high es up') to' each.1 in
      AllPairs-append ApartByKey parts.places (joined children).places
      (apart want e.key parts small' each.0)
      (each_apart level high es children apart up' to' (All-tail (λ (x : Entry). x.addr < 2 ^ 64) e es small) each.1)
      (cross_apart pages e.low (bound_of es high) high level parts.places (joined children).places (subtree_small pages order level want e.key parts small' each.0) first rest)

  subtree_apart : (level : ℕ) → AreApart (Subtree pages order level)
  unfolding Subtree
  subtree_apart zero want key parts small is =
      let here : Place = record { addr = want.addr; key = key; trace = DataOf want.low } in
      subst (λ (p : Parts). AllPairs ApartByKey p.places) (sym is.has) (AllPairs-cons ApartByKey here [] (All-nil (ApartByKey here)) (AllPairs-none ApartByKey))
  subtree_apart (suc level) want key parts small is =
      let here : Place = record { addr = want.addr; key = key; trace = NodeOver (map (λ (e : Entry). e.addr) is.entries) } in
      let below = each_lies pages (Subtree pages order level) order level want.low want.high is.entries is.children two (subtree_lies pages order two level) is.fits.0.in_range.0.ascend is.fits.1.from_low is.fits.1.below_high is.each in
      let each = each_apart level want.high is.entries is.children (subtree_apart level) is.fits.0.in_range.0.ascend is.fits.1.below_high (small_entries pages want key (suc level) is.entries small is.fits) is.each in
      subst (λ (p : Parts). AllPairs ApartByKey p.places) (sym is.has)
      (AllPairs-cons ApartByKey here (joined is.children).places
      (All-weaker (Lies pages want.low want.high level) (ApartByKey here)
      (λ place there same.
      (let value : NodeRecord (suc level) is.entries ≡ there.value = same_record pages here place (NodeRecord (suc level) is.entries) there.value small same.0 same.1 is.fits.0 there.reads in
      begins_higher want.low want.high level is.entries (subst (Begins want.low want.high level) (sym value) there.begins)))
      (joined is.children).places below)
      each)

pub tree_apart : (pages : List (List ℕ)) (root : Root) (parts : Parts) → FitsRoot root → Tree pages root parts → AllPairs ApartByKey parts.places
tree_apart pages root parts fits is = subtree_apart pages root.order (omega (arith, fits.order_least)) root.level (root_want root) root.key parts (omega (arith, fits.addr, fits.head)) is
