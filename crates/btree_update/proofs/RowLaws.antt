-- What the pages tell of the levels of a tree stays so where nodes are opened.
use Rattle.std.proofs.Common.{◌≡◌, ◌==◌, if◌then◌else◌, ℕ, zero, suc, List, [], ◌∷◌, ◌++◌, map, sym, ap, subst, ◌∙◌}
use Rattle.std.specs.List.{AllByRecursion}
use Rattle.std.proofs.lemmas.List.{map-append}
use Rattle.node_codec.specs.declared.body.Entry.{Entry}
use Rattle.node_codec.specs.Record.{NodeRecord}
use Rattle.page_store.proofs.RecordLaws.{one_record}
use Rattle.btree_twigs.specs.declared.twigs.Child.{Child}
use Rattle.btree_twigs.specs.declared.twigs.Child.TheVariants as made
use Rattle.btree_twigs.specs.declared.twigs.Twig.{Twig}
use Rattle.btree_twigs.specs.Stubs.{Stub, Puts, Takes, datum, start_by, low_of, children_of, stubs, stubs_below}
use Rattle.btree_twigs.specs.Updates.{stubs_under}
use Rattle.btree_twigs.specs.Levels.{Node, rows_by, row_in, row}
use Rattle.btree_twigs.proofs.ListLaws.{stubs_append}
use Rattle.btree_twigs.proofs.LevelLaws.{rows_append}
use Rattle.btree_update.specs.GroveTree.{stubs_at}
use Rattle.btree_update.specs.Reading.{all_kept}
use Rattle.btree_update.specs.Held.{stub_at, IsReadAs}
use Rattle.btree_update.specs.Tells.{node_row, IsTold, Tells}
use Rattle.btree_update.specs.Opens.{Opens, Same, Here, Within, Then}
use Rattle.btree_update.proofs.Readings.{read_same}

pub all_front : (P : Stub → Type 0) (xs ys : List Stub) → AllByRecursion P (xs ++ ys) → AllByRecursion P xs
all_front P [] ys h = tt
all_front P (x ∷ xs) ys h = (h.0, all_front P xs ys h.1)

pub all_back : (P : Stub → Type 0) (xs ys : List Stub) → AllByRecursion P (xs ++ ys) → AllByRecursion P ys
all_back P [] ys h = h
all_back P (x ∷ xs) ys h = all_back P xs ys h.1

pub all_append : (P : Stub → Type 0) (xs ys : List Stub) → AllByRecursion P xs → AllByRecursion P ys → AllByRecursion P (xs ++ ys)
all_append P [] ys h k = k
all_append P (x ∷ xs) ys h k = (h.0, all_append P xs ys h.1 k)

pub all_weaker : (P Q : Stub → Type 0) → ((s : Stub) → P s → Q s) → (xs : List Stub) → AllByRecursion P xs → AllByRecursion Q xs
all_weaker P Q f [] h = tt
all_weaker P Q f (x ∷ xs) h = (f x h.0, all_weaker P Q f xs h.1)

module _ (pages : List (List ℕ)) (medium : Stub → ℕ → List Node) where
  abbrev told_here : Stub → Type 0
  told_here s = IsTold pages medium s.level s

  told_at : (level high : ℕ) (es : List Entry) → AllByRecursion (IsTold pages medium level) (stubs_at level high es) → Tells pages medium (stubs_at level high es)
  told_at zero high [] h = tt
  told_at (suc level) high [] h = tt
  told_at zero high (e ∷ es) h = (h.0, told_at zero high es h.1)
  told_at (suc level) high (e ∷ es) h = (h.0, told_at (suc level) high es h.1)

  told_entries : (order l low high addr : ℕ) (key : List ℕ) (twig : Twig) → IsReadAs pages order l (stub_at (suc l) low high addr key) twig → IsTold pages medium (suc l) (stub_at (suc l) low high addr key) →
      (es : List Entry) × (children_of twig ≡ all_kept es) × (stubs_below l high twig ≡ stubs_at l high es) × AllByRecursion (IsTold pages medium l) (stubs_at l high es)
      × ((j : ℕ) → medium (stub_at (suc l) low high addr key) j ≡ node_row (row medium j l) j l low high (all_kept es))
  unfolding IsTold
  told_entries order l low high addr key twig r t =
      let value : NodeRecord (suc l) r.entries ≡ NodeRecord (suc l) t.entries = one_record pages addr key _ _ r.small r.here t.here in
      let same : r.entries ≡ t.entries = cc in
      (t.entries, r.children ∙ ap all_kept same, read_same pages order l (stub_at (suc l) low high addr key) twig r ∙ ap (stubs_at l high) same, t.below, t.rows)

  -- a node that was read has the levels that its place has
  pub kept_row : (order l low high addr : ℕ) (key : List ℕ) (twig : Twig) → IsReadAs pages order l (stub_at (suc l) low high addr key) twig → IsTold pages medium (suc l) (stub_at (suc l) low high addr key) → (j : ℕ) →
      node_row (row medium j l) j l low high (children_of twig) ≡ medium (stub_at (suc l) low high addr key) j
  kept_row order l low high addr key twig r t j =
      let e = told_entries order l low high addr key twig r t in
      ap (node_row (row medium j l) j l low high) e.1 ∙ sym (e.4 j)

  pub tells_opened : (order : ℕ) (places old new : List Stub) → Opens pages order places old new → Tells pages medium old → Tells pages medium new
  tells_opened order places old new Same h = h
  tells_opened order places old new (Here {below = below} {low = low} {high = high} {addr = addr} {key = key} {twig = twig} r) h =
      let e = told_entries order below low high addr key twig r h.0 in
      subst (Tells pages medium) (sym e.2) (told_at below high e.0 e.3)
  tells_opened order places old new (Within {places = some} {old = xs} {new = ys} fs bs o) h =
      let rest = all_back told_here fs (xs ++ bs) h in
      all_append told_here fs (ys ++ bs) (all_front told_here fs (xs ++ bs) h)
      (all_append told_here ys bs (tells_opened order some xs ys o (all_front told_here xs bs rest)) (all_back told_here xs bs rest))
  tells_opened order places old new (Then {first = first} {second = second} {old = xs} {mid = mid} {new = ys} o p) h = tells_opened order second mid ys p (tells_opened order first xs mid o h)

  pub tells_child : (level high : ℕ) (fs : List Child) (c : Child) (bs : List Child) → Tells pages medium (stubs_under level high (fs ++ c ∷ bs)) → Tells pages medium (stubs level (start_by low_of bs high) c)
  tells_child level high fs c bs h =
      let all = subst (Tells pages medium) (stubs_append low_of (stubs level) high fs (c ∷ bs)) h in
      all_front told_here (stubs level (start_by low_of bs high) c) (stubs_under level high bs) (all_back told_here (stubs_under level (low_of c) fs) _ all)

-- the levels of a node of which a child has the same levels in another form
pub still_rows : (medium : Stub → ℕ → List Node) (j level low high : ℕ) (fs : List Child) (c d : Child) (bs : List Child) → low_of d ≡ low_of c → row medium j level (start_by low_of bs high) d ≡ row medium j level (start_by low_of bs high) c →
    node_row (row medium j level) j level low high (fs ++ d ∷ bs) ≡ node_row (row medium j level) j level low high (fs ++ c ∷ bs)
still_rows medium j level low high fs c d bs low_is same =
    let lows : map low_of (fs ++ d ∷ bs) ≡ map low_of (fs ++ c ∷ bs) = map-append low_of fs (d ∷ bs) ∙ ap (λ l. map low_of fs ++ l ∷ map low_of bs) low_is ∙ sym (map-append low_of fs (c ∷ bs)) in
    let rows : rows_by (row medium j level) high (fs ++ d ∷ bs) ≡ rows_by (row medium j level) high (fs ++ c ∷ bs)
    = rows_append (row medium j level) high fs (d ∷ bs) ∙ ap (λ m. rows_by (row medium j level) m fs ++ (row medium j level (start_by low_of bs high) d ++ rows_by (row medium j level) high bs)) low_is
    ∙ ap (λ r. rows_by (row medium j level) (low_of c) fs ++ (r ++ rows_by (row medium j level) high bs)) same ∙ sym (rows_append (row medium j level) high fs (c ∷ bs)) in
    ap (λ (ls : List ℕ). if j == suc level then record { low = low; lows = ls } ∷ [] else rows_by (row medium j level) high (fs ++ d ∷ bs)) lows
    ∙ ap (λ (rs : List Node). if j == suc level then record { low = low; lows = map low_of (fs ++ c ∷ bs) } ∷ [] else rs) rows

pub row_of_grown : (medium : Stub → ℕ → List Node) (j l high low : ℕ) (twig : Twig) → row medium j (suc l) high (made.Grown low twig) ≡ node_row (row medium j l) j l low high (children_of twig)
unfolding row
row_of_grown medium j l high low twig = ap (row_in medium j (row medium j l) l high) (made.outs-Grown low twig)

-- an update of the places tells nothing else of the others
pub tells_puts : (pages : List (List ℕ)) (medium : Stub → ℕ → List Node) (low high block addr : ℕ) (key : List ℕ) (old new : List Stub) → Puts low high (datum block addr key) old new → Tells pages medium old → Tells pages medium new
unfolding IsTold
tells_puts pages medium low high block addr key old new p h =
    let P : Stub → Type 0 = λ s. IsTold pages medium s.level s in
    let all = subst (Tells pages medium) p.was h in
    subst (Tells pages medium) (sym p.now) (all_append P p.front (datum block addr key ∷ p.back) (all_front P p.front (p.mid ++ p.back) all) (tt, all_back P p.mid p.back (all_back P p.front (p.mid ++ p.back) all)))

pub tells_takes : (pages : List (List ℕ)) (medium : Stub → ℕ → List Node) (low high block : ℕ) (old new : List Stub) → Takes low high block old new → Tells pages medium old → Tells pages medium new
tells_takes pages medium low high block old new p h =
    let P : Stub → Type 0 = λ s. IsTold pages medium s.level s in
    let all = subst (Tells pages medium) p.was h in
    subst (Tells pages medium) (sym p.now) (all_append P p.front p.back (all_front P p.front (p.mid ++ p.back) all) (all_back P p.mid p.back (all_back P p.front (p.mid ++ p.back) all)))
