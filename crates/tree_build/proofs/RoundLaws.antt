-- The rounds of a build, one after the other.
use Rattle.std.proofs.Common.{◌≡◌, inl, inr, ℕ, zero, suc, ◌+◌, ◌<◌, ◌≤◌, List, [], ◌∷◌, ◌++◌, length, drop, refl, sym, ap, subst, ◌∙◌, arith, append-nil, append_assoc, length-append, drop_at}
use Rattle.std.specs.Prelude.{All, Contains, Some, Result, Ok, Err, IfOk, IsErrAnd, slice_get}
use Rattle.std.proofs.lemmas.List.Elements.{All-nil, All-cons, All-take, All-drop, All-push, All-same, All-weaker, Contains-append_left}
use Rattle.std.proofs.lemmas.Option.{slice_get_within}
use Rattle.sdbt_base.specs.Keys.{bare, IsKeyOf}
use Rattle.sdbt_base.specs.declared.tapes.Tape.{Ghosts as TapeGhosts}
use Rattle.platform.specs.Image.{Image, with_page}
use Rattle.platform.proofs.Moments.{During-start, Extends-refl}
use Rattle.platform.specs.declared.platforms.Platform.{Ghosts as PlatformGhosts}
use Rattle.node_codec.specs.declared.body.Entry.{Entry}
use Rattle.node_codec.specs.Record.{NodeRecord, FitsNode}
use Rattle.page_store.specs.Keeping.{KeepsKeys, IsNextRecord}
use Rattle.page_store.specs.Kept.{Kept}
use Rattle.page_store.specs.Places.{IsRecordAt}
use Rattle.page_store.specs.Stands.{Stands}
use Rattle.page_store.proofs.KeepingLaws.{keeps_from, keeps_still, keeps_then}
use Rattle.page_store.proofs.RecordLaws.{record_stays}
use Rattle.page_store.proofs.StandsLaws.{stands_with_page}
use Rattle.tree_build.specs.declared.shapes.Span.{Span}
use Rattle.tree_build.specs.Shape.{IsShaped, shape_of, built}
use Rattle.tree_build.specs.Nodes.{AreFrom, IsNodeOver, children_in, low_of}
use Rattle.tree_build.specs.Building.{Builds, BuildsNode, CanBuild, KnowsItems, OnlyAdds, with_pages}
use Rattle.tree_build.proofs.AddingLaws.{adds_none, adds_then}
use Rattle.tree_build.proofs.ShapeLaws.{shape_many}
use Rattle.tree_build.proofs.ItemLaws.{children_stay, low_stays}
use Rattle.tree_build.proofs.MadeLaws.{HaveLows, get_apart, zip_each, next_span, next_fits}

-- ---- what was made after so many rounds

-- the record of each node so far is there
abbrev pub AreThere : List (List ℕ) → List Span → List Entry → List Entry → Type 0
AreThere pages spans nodes items = (j : ℕ) (s : Span) (e : Entry) → slice_get spans j ≡ Some s → slice_get nodes j ≡ Some e → IsRecordAt pages e.addr e.key (NodeRecord s.level (children_in items s))

pub record IsMade {S R : Type 0} (P : PlatformGhosts S) (T : TapeGhosts R) (order round : ℕ) (records items : List Entry) (x x' : S) (y y' : R) : Type 0 where
  pub nodes : List Entry
  pub items_are : items ≡ records ++ nodes
  pub many : length nodes ≡ round
  pub from : AreFrom (P.head x) nodes
  pub head_is : P.head x' ≡ P.head x + round
  pub lows : HaveLows (shape_of order (length records)) nodes items
  pub below : All (λ (e : Entry). e.addr < P.head x') items
  pub keys : All (λ (e : Entry). IsKeyOf 2 e.key) items
  pub pages : List (List ℕ)
  pub image : P.tells → (P.history x').present ≡ with_pages (P.history x).present pages
  pub there : P.tells → AreThere (P.history x').present.readable (shape_of order (length records)) nodes items
  pub keeps : KeepsKeys P.tells (T.drawn y) (T.drawn y') (P.history x) (P.history x') (KnowsItems (P.history x).present records) (KnowsItems (P.history x').present items)
  pub beside : OnlyAdds P T round 0 x x' y y'
  pub platform_faults : P.faults x' ≡ P.faults x
  pub tape_faults : T.faults y' ≡ T.faults y

-- ---- before the first round

no_pages : (image : Image) → image ≡ with_pages image []
no_pages image = λ i. record image { recorded = sym (append-nil image.recorded) i; readable = sym (append-nil image.readable) i }

-- data records whose pages are the last ones are below the head
below_end : (first head : ℕ) (records : List Entry) → AreFrom first records → first + length records ≤ head → All (λ (e : Entry). e.addr < head) records
below_end first head [] from end = All-nil (λ (e : Entry). e.addr < head)
below_end first head (e ∷ records) from end = let at = from.0 in All-cons (λ (e : Entry). e.addr < head) e records (omega (arith, at, end)) (below_end (suc first) head records from.1 (omega (arith, end)))

pub made_none : {S R : Type 0} (P : PlatformGhosts S) (T : TapeGhosts R) (order blocks : ℕ) (records : List Entry) (x : S) (y : R) → CanBuild order blocks (P.head x) (P.capacity x) records → IsMade P T order 0 records records x x y y
made_none P T order blocks records x y can =
    let up_to = can.up_to in
    record {
      nodes = [];
      items_are = sym (append-nil records);
      many = refl;
      from = tt;
      head_is = omega arith;
      lows = λ j s e there none. absurd cc;
      below = below_end can.first (P.head x) records can.from (omega (arith, up_to));
      keys = can.in_order.keys;
      pages = [];
      image = λ told. no_pages (P.history x).present;
      there = λ told j s e there none. absurd cc;
      keeps = keeps_still P.tells (T.drawn y) (T.drawn y) (P.history x) (P.history x) (KnowsItems (P.history x).present records) (KnowsItems (P.history x).present records) refl
          (λ told. Extends-refl (P.history x)) (λ told. refl) (λ told keys kept ready. During-start (P.history x) (Kept keys) kept) (λ told keys ready. ready);
      beside = adds_none P T x y;
      platform_faults = refl;
      tape_faults = refl;
    }

-- ---- one round more

from_push : (first : ℕ) (nodes : List Entry) (e : Entry) → AreFrom first nodes → e.addr ≡ first + length nodes → AreFrom first (nodes ++ e ∷ [])
from_push first [] e from at = (omega (arith, at), tt)
from_push first (n ∷ nodes) e from at = (from.0, from_push (suc first) nodes e from.1 (omega (arith, at)))

one_more : (old mid new : Image) (pages : List (List ℕ)) (page : List ℕ) → mid ≡ with_pages old pages → new ≡ with_page mid page page → new ≡ with_pages old (pages ++ page ∷ [])
one_more old mid new pages page is next =
    next ∙ ap (λ (i : Image). with_page i page page) is
    ∙ (λ i. record old { recorded = append_assoc old.recorded pages (page ∷ []) i; readable = append_assoc old.readable pages (page ∷ []) i })

-- what is said of each node so far, and of the next one
each_more : (Q : Span → Entry → Type 0) (spans : List Span) (nodes : List Entry) (s : Span) (entry : Entry) → slice_get spans (length nodes) ≡ Some s
    → ((j : ℕ) (t : Span) (e : Entry) → j < length nodes → slice_get spans j ≡ Some t → slice_get nodes j ≡ Some e → Q t e) → Q s entry
    → (j : ℕ) (t : Span) (e : Entry) → slice_get spans j ≡ Some t → slice_get (nodes ++ entry ∷ []) j ≡ Some e → Q t e
each_more Q spans nodes s entry next before here j t e there at = elim (get_apart nodes (entry ∷ []) j e at) as (λ c. Q t e) [
  | inl in_front ↦ before j t e (slice_get_within nodes j e in_front) there in_front
  | inr behind ↦
      let i = behind.0 in
      let zero_is : i ≡ 0 = one_place entry i e behind.2 in
      let place : j ≡ length nodes = let at' = behind.1 in omega (arith, at', zero_is) in
      let entry_is : entry ≡ e = same_some entry e (sym (ap (slice_get (entry ∷ [])) zero_is) ∙ behind.2) in
      let span_is : s ≡ t = same_some s t (sym next ∙ sym (ap (slice_get spans) place) ∙ there) in
      subst (λ (v : Span). Q v e) span_is (subst (Q s) entry_is here)
]
  where
    same_some : {A : Type 0} (a b : A) → Some a ≡ Some b → a ≡ b
    same_some a b same = cc

    one_place : (a : Entry) (i : ℕ) (b : Entry) → slice_get (a ∷ []) i ≡ Some b → i ≡ 0
    one_place a zero b is = refl
    one_place a (suc i) b is = absurd cc

knows_more : (image image_now : Image) (page : List ℕ) (items : List Entry) (entry : Entry) (keys more : List (List ℕ)) → image_now ≡ with_page image page page
    → KnowsItems image items keys → Contains (keys ++ more) (bare entry.key) → KnowsItems image_now (items ++ entry ∷ []) (keys ++ more)
knows_more image image_now page items entry keys more is knows own = record {
  device = knows.device;
  stands = subst (λ i. Stands i knows.device) (sym is) (stands_with_page image page page knows.device knows.stands);
  listed = All-push (λ (e : Entry). Contains (keys ++ more) (bare e.key)) items entry
      (All-weaker (λ (e : Entry). Contains keys (bare e.key)) (λ (e : Entry). Contains (keys ++ more) (bare e.key)) (λ e there. Contains-append_left keys more (bare e.key) there) items knows.listed) own;
}

-- the keys of the children are listed
children_known : (image : Image) (items : List Entry) (s : Span) (keys : List (List ℕ)) → KnowsItems image items keys → IsNextRecord image (NodeRecord s.level (children_in items s)) keys
children_known image items s keys knows = record {
  device = knows.device;
  stands = knows.stands;
  listed = All-take (λ (e : Entry). Contains keys (bare e.key)) s.count (drop s.first items) (All-drop (λ (e : Entry). Contains keys (bare e.key)) s.first items knows.listed);
}

pub round_fits : {S R : Type 0} (P : PlatformGhosts S) (T : TapeGhosts R) (order blocks round : ℕ) (records items : List Entry) (x x' : S) (y y' : R) (s : Span) → CanBuild order blocks (P.head x) (P.capacity x) records
    → IsMade P T order round records items x x' y y' → slice_get (shape_of order (length records)) round ≡ Some s → FitsNode 2 (P.head x') s.level (children_in items s)
round_fits P T order blocks round records items x x' y y' s can made there =
    let is = made.items_are in
    let nodes = made.nodes in
    subst (λ (es : List Entry). FitsNode 2 (P.head x') s.level (children_in es s)) (sym is)
    (next_fits order blocks (P.head x') records nodes s can.shaped can.most can.in_order
    (subst (HaveLows (shape_of order (length records)) nodes) is made.lows)
    (All-same (λ (e : Entry). e.addr < P.head x') (records ++ nodes) items (sym is) made.below)
    (All-same (λ (e : Entry). IsKeyOf 2 e.key) (records ++ nodes) items (sym is) made.keys)
    (ap (slice_get (shape_of order (length records))) made.many ∙ there))

pub round_within : {S R : Type 0} (P : PlatformGhosts S) (T : TapeGhosts R) (order round : ℕ) (records items : List Entry) (x x' : S) (y y' : R) (s : Span) → IsShaped order (length records)
    → IsMade P T order round records items x x' y y' → slice_get (shape_of order (length records)) round ≡ Some s → s.first + s.count ≤ length items
round_within P T order round records items x x' y y' s shaped made there =
    let within = (next_span order records round s shaped there).before in
    let many = made.many in
    let all : length items ≡ length records + length made.nodes = ap length made.items_are ∙ length-append records made.nodes in
    omega (arith, within, many, all)

pub made_next : {S R : Type 0} (P : PlatformGhosts S) (T : TapeGhosts R) (order blocks round : ℕ) (records items : List Entry) (x x' x'' : S) (y y' y'' : R) (s : Span) (entry : Entry)
    → CanBuild order blocks (P.head x) (P.capacity x) records → IsMade P T order round records items x x' y y' → slice_get (shape_of order (length records)) round ≡ Some s
    → BuildsNode P x' x'' s items entry
    → KeepsKeys P.tells (T.drawn y') (T.drawn y'') (P.history x') (P.history x'') (IsNextRecord (P.history x').present (NodeRecord s.level (children_in items s))) (λ keys. Contains keys (bare entry.key))
    → OnlyAdds P T 1 0 x' x'' y' y'' → P.faults x'' ≡ P.faults x' → T.faults y'' ≡ T.faults y'
    → IsMade P T order (round + 1) records (items ++ entry ∷ []) x x'' y y''
made_next P T order blocks round records items x x' x'' y y' y'' s entry can made there built keeps adds faults tape =
    let nodes = made.nodes in
    let spans = shape_of order (length records) in
    let many = made.many in
    let begin = made.head_is in
    let addr = built.addr in
    let up = built.head in
    let next : slice_get spans (length nodes) ≡ Some s = ap (slice_get spans) many ∙ there in
    let all : length items ≡ length records + length nodes = ap length made.items_are ∙ length-append records nodes in
    let span_is = λ (j : ℕ) (t : Span) (at : slice_get spans j ≡ Some t). next_span order records j t can.shaped at in
    let low_is : (j : ℕ) (t : Span) → j ≤ length nodes → slice_get spans j ≡ Some t → low_of (items ++ entry ∷ []) t ≡ low_of items t
    = λ j t before at. low_stays items (entry ∷ []) t (λ later. let is = span_is j t at in let end = is.before in let some = is.filled later in omega (arith, all, before, end, some)) in
    let same : (j : ℕ) (t : Span) → j ≤ length nodes → slice_get spans j ≡ Some t → children_in (items ++ entry ∷ []) t ≡ children_in items t
    = λ j t before at. let end = (span_is j t at).before in children_stay items (entry ∷ []) t (omega (arith, all, before, end)) in
    record {
      nodes = nodes ++ entry ∷ [];
      items_are = ap (λ (es : List Entry). es ++ entry ∷ []) made.items_are ∙ append_assoc records nodes (entry ∷ []);
      many = let longer = length-append nodes (entry ∷ []) in omega (arith, longer, many);
      from = from_push (P.head x) nodes entry made.from (omega (arith, addr, begin, many));
      head_is = omega (arith, up, begin);
      lows = each_more (λ t e. e.low ≡ low_of (items ++ entry ∷ []) t) spans nodes s entry next
          (λ j t e before at at'. made.lows j t e at at' ∙ sym (low_is j t (omega (arith, before)) at))
          (built.low ∙ sym (low_is (length nodes) s (omega arith) next));
      below = All-push (λ (e : Entry). e.addr < P.head x'') items entry
          (All-weaker (λ (e : Entry). e.addr < P.head x') (λ (e : Entry). e.addr < P.head x'') (λ e is. omega (arith, is, up)) items made.below) (omega (arith, addr, up));
      keys = All-push (λ (e : Entry). IsKeyOf 2 e.key) items entry made.keys built.key;
      pages = made.pages ++ built.page ∷ [];
      image = λ told. one_more (P.history x).present (P.history x').present (P.history x'').present made.pages built.page (made.image told) (built.image told);
      there = λ told.
          let readable = (P.history x').present.readable in
          let readable_now = (P.history x'').present.readable in
          let appended : readable_now ≡ readable ++ built.page ∷ [] = ap (λ (i : Image). i.readable) (built.image told) in
          each_more (λ t e. IsRecordAt readable_now e.addr e.key (NodeRecord t.level (children_in (items ++ entry ∷ []) t))) spans nodes s entry next
          (λ j t e before at at'.
          subst (λ (es : List Entry). IsRecordAt readable_now e.addr e.key (NodeRecord t.level es)) (sym (same j t (omega (arith, before)) at))
          (subst (λ (ps : List (List ℕ)). IsRecordAt ps e.addr e.key (NodeRecord t.level (children_in items t))) (sym appended)
          (record_stays readable (built.page ∷ []) e.addr e.key (NodeRecord t.level (children_in items t)) (made.there told j t e at at'))))
          (subst (λ (es : List Entry). IsRecordAt readable_now entry.addr entry.key (NodeRecord s.level es)) (sym (same (length nodes) s (omega arith) next)) (built.node told));
      keeps = keeps_then P.tells (T.drawn y) (T.drawn y') (T.drawn y'') (P.history x) (P.history x') (P.history x'') (KnowsItems (P.history x).present records)
          (KnowsItems (P.history x').present items) (IsNextRecord (P.history x').present (NodeRecord s.level (children_in items s))) (λ keys. Contains keys (bare entry.key)) (KnowsItems (P.history x'').present (items ++ entry ∷ []))
          made.keeps keeps (λ told keys kept knows. children_known (P.history x').present items s keys knows)
          (λ told keys more knows own. knows_more (P.history x').present (P.history x'').present built.page items entry keys more (built.image told) knows own);
      beside = adds_then P T round 1 (round + 1) 0 0 0 x x' x'' y y' y'' (omega arith) (omega arith) made.beside adds;
      platform_faults = faults ∙ made.platform_faults;
      tape_faults = tape ∙ made.tape_faults;
    }

-- ---- the end

pub all_made : {S R : Type 0} (P : PlatformGhosts S) (T : TapeGhosts R) (order blocks round : ℕ) (records items : List Entry) (x x' : S) (y y' : R)
    → CanBuild order blocks (P.head x) (P.capacity x) records → IsMade P T order round records items x x' y y' → round ≡ length (shape_of order (length records))
    → Builds P.tells order (P.head x) (P.head x') (P.history x).present (P.history x').present records items
all_made P T order blocks round records items x x' y y' can made end =
    let nodes = made.nodes in
    let spans = shape_of order (length records) in
    let many = made.many in
    let begin = made.head_is in
    let count = shape_many order (length records) can.shaped in
    let is = made.items_are in
    record {
      nodes = nodes;
      items_are = is;
      from = made.from;
      keys = All-same (λ (e : Entry). IsKeyOf 2 e.key) nodes (drop (length records) items) (sym (ap (drop (length records)) is ∙ drop_at records nodes (length records) refl))
          (All-drop (λ (e : Entry). IsKeyOf 2 e.key) (length records) items made.keys);
      many = omega (arith, many, end, count);
      head_is = omega (arith, begin, end, count);
      pages = made.pages;
      image = made.image;
      made = λ told. zip_each (IsNodeOver (P.history x').present.readable (records ++ nodes)) spans nodes (omega (arith, many, end))
          (λ j s e at at'. record {
            low = subst (λ (es : List Entry). e.low ≡ low_of es s) is (made.lows j s e at at');
            node = subst (λ (es : List Entry). IsRecordAt (P.history x').present.readable e.addr e.key (NodeRecord s.level (children_in es s))) is (made.there told j s e at at');
          });
    }

pub all_keep : {S R : Type 0} (P : PlatformGhosts S) (T : TapeGhosts R) (order round : ℕ) (records items : List Entry) (x x' : S) (y y' : R) → IsMade P T order round records items x x' y y'
    → KeepsKeys P.tells (T.drawn y) (T.drawn y') (P.history x) (P.history x') (KnowsItems (P.history x).present records) (λ keys. All (λ (e : Entry). Contains keys (bare e.key)) items)
all_keep P T order round records items x x' y y' made =
    keeps_from P.tells (T.drawn y) (T.drawn y') (P.history x) (P.history x') (KnowsItems (P.history x).present records) (KnowsItems (P.history x).present records)
    (KnowsItems (P.history x').present items) (λ keys. All (λ (e : Entry). Contains keys (bare e.key)) items) made.keeps (λ told keys ready. ready) (λ told keys more ready knows. knows.listed)

-- a fault in a round
pub none_ok : {A E : Type 0} (result : Result A E) (Fault : E → Type 0) (Done : A → Type 0) → IsErrAnd result Fault → IfOk result Done
none_ok (Ok done) Fault Done failed = absurd failed
none_ok (Err fault) Fault Done failed = tt

pub fault_keeps : {S R : Type 0} (P : PlatformGhosts S) (T : TapeGhosts R) (order round : ℕ) (records items : List Entry) (x x' x'' : S) (y y' y'' : R) (s : Span) (Done End : List (List ℕ) → Type 0) → IsMade P T order round records items x x' y y'
    → KeepsKeys P.tells (T.drawn y') (T.drawn y'') (P.history x') (P.history x'') (IsNextRecord (P.history x').present (NodeRecord s.level (children_in items s))) Done
    → ((keys : List (List ℕ)) → End keys)
    → KeepsKeys P.tells (T.drawn y) (T.drawn y'') (P.history x) (P.history x'') (KnowsItems (P.history x).present records) End
fault_keeps P T order round records items x x' x'' y y' y'' s Done End made keeps end =
    keeps_then P.tells (T.drawn y) (T.drawn y') (T.drawn y'') (P.history x) (P.history x') (P.history x'') (KnowsItems (P.history x).present records)
    (KnowsItems (P.history x').present items) (IsNextRecord (P.history x').present (NodeRecord s.level (children_in items s))) Done End
    made.keeps keeps (λ told keys kept knows. children_known (P.history x').present items s keys knows) (λ told keys more knows done. end (keys ++ more))

-- ---- room

pub made_size : {S R : Type 0} (P : PlatformGhosts S) (T : TapeGhosts R) (order round : ℕ) (records items : List Entry) (x x' : S) (y y' : R) → IsMade P T order round records items x x' y y' → length items ≡ length records + round
made_size P T order round records items x x' y y' made =
    let many = made.many in
    let all = ap length made.items_are ∙ length-append records made.nodes in
    omega (arith, many, all)

pub made_room : {S R : Type 0} (P : PlatformGhosts S) (T : TapeGhosts R) (order blocks round : ℕ) (records items : List Entry) (x x' : S) (y y' : R) → CanBuild order blocks (P.head x) (P.capacity x) records
    → IsMade P T order round records items x x' y y' → round < length (shape_of order (length records)) → P.head x' < P.capacity x'
made_room P T order blocks round records items x x' y y' can made before =
    let count = shape_many order (length records) can.shaped in
    let room = can.room in
    let begin = made.head_is in
    let same = made.beside.capacity in
    omega (arith, count, room, begin, same, before)
