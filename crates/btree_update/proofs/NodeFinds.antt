-- What is found below a node on the medium is what is found among the places of its entries.
use Rattle.std.proofs.Common.{◌≡◌, ◌≢◌, ℕ, zero, suc, ◌-◌, ◌<◌, ◌≤◌, List, [], ◌∷◌, ◌++◌, Option, refl, sym, ap, subst, arith}
use Rattle.std.specs.List.{AllByRecursion}
use Rattle.std.specs.Prelude.{Contains}
use Rattle.std.proofs.lemmas.List.Elements.{All-from_recursion, Contains-append_right}
use Rattle.node_codec.specs.declared.body.Entry.{Entry}
use Rattle.node_codec.specs.Record.{Record, NodeRecord}
use Rattle.page_store.specs.declared.wants.Want.{Want}
use Rattle.page_store.specs.Places.{child_want}
use Rattle.page_store.specs.Tree.{bound_of}
use Rattle.btree_walk.specs.Ways.{IsWay, IsEntryOf}
use Rattle.btree_walk.specs.Finds.{Finds}
use Rattle.btree_walk.proofs.Elements.{Contains-head}
use Rattle.btree_twigs.specs.declared.twigs.Spot.{Spot}
use Rattle.btree_twigs.specs.declared.twigs.Spot.TheVariants.{Found, Absent, Below}
use Rattle.btree_twigs.specs.Stubs.{Stub, datum}
use Rattle.btree_twigs.specs.Search.{IsSpot}
use Rattle.btree_update.specs.GroveTree.{want_of, stubs_at}
use Rattle.btree_update.specs.Held.{stub_at}
use Rattle.btree_update.specs.Finding.{FindsBelow, FindsFrom, FindsAmong}
use Rattle.btree_update.proofs.WrongLaws.{entry_is}

-- the place of an entry of a node over children of a level
abbrev place_at : ℕ → ℕ → Entry → Stub
place_at zero high e = datum e.low e.addr e.key
place_at (suc level) high e = stub_at (suc level) e.low high e.addr e.key

-- a place is that of one of these entries
record IsPlaceOf (level high : ℕ) (es : List Entry) (s : Stub) : Type 0 where
  before : List Entry
  entry : Entry
  after : List Entry
  split : es ≡ before ++ entry ∷ after
  is : s ≡ place_at level (bound_of after high) entry

later : (level high : ℕ) (e : Entry) (es : List Entry) (s : Stub) → IsPlaceOf level high es s → IsPlaceOf level high (e ∷ es) s
later level high e es s p = record { before = e ∷ p.before; entry = p.entry; after = p.after; split = ap (λ xs. e ∷ xs) p.split; is = p.is }

-- each place below the entries is that of one of them
place_of : (level high : ℕ) (es : List Entry) (front back : List Stub) (s : Stub) → stubs_at level high es ≡ front ++ s ∷ back → IsPlaceOf level high es s
place_of zero high [] [] back s is = absurd cc
place_of zero high [] (f ∷ fs) back s is = absurd cc
place_of zero high (e ∷ es) [] back s is =
    let here : datum e.low e.addr e.key ≡ s = cc in
    record { before = []; entry = e; after = es; split = refl; is = sym here }
place_of zero high (e ∷ es) (f ∷ fs) back s is =
    let rest : stubs_at 0 high es ≡ fs ++ s ∷ back = cc in
    later zero high e es s (place_of zero high es fs back s rest)
place_of (suc level) high [] [] back s is = absurd cc
place_of (suc level) high [] (f ∷ fs) back s is = absurd cc
place_of (suc level) high (e ∷ es) [] back s is =
    let here : stub_at (suc level) e.low (bound_of es high) e.addr e.key ≡ s = cc in
    record { before = []; entry = e; after = es; split = refl; is = sym here }
place_of (suc level) high (e ∷ es) (f ∷ fs) back s is =
    let rest : stubs_at (suc level) high es ≡ fs ++ s ∷ back = cc in
    later (suc level) high e es s (place_of (suc level) high es fs back s rest)

-- where none of a leaf's places is at the block, none of its entries is for it
lacks_entry : (high block : ℕ) (es : List Entry) (front back : List Stub) → stubs_at 0 high es ≡ front ++ back → AllByRecursion (λ s. s.high ≤ block) front → AllByRecursion (λ s. block < s.low) back →
    AllByRecursion (λ (e : Entry). e.low ≢ block) es
lacks_entry high block [] front back is before after = tt
lacks_entry high block (e ∷ es) [] back is before after =
    let all = subst (AllByRecursion (λ s. block < s.low)) (sym is) after in
    ((λ same. omega (arith, all.0, same)), lacks_entry high block es [] (stubs_at 0 high es) refl tt all.1)
lacks_entry high block (e ∷ es) (f ∷ fs) back is before after =
    let here : f ≡ datum e.low e.addr e.key = cc in
    let rest : stubs_at 0 high es ≡ fs ++ back = cc in
    let le = subst (λ (s : Stub). s.high ≤ block) here before.0 in
    ((λ same. omega (arith, le, same)), lacks_entry high block es fs back rest before.1 after)

-- an inner node has a place at each block from its first entry on
has_place : (level high block : ℕ) (es : List Entry) (front back : List Stub) → bound_of es high ≤ block → block < high → stubs_at (suc level) high es ≡ front ++ back → AllByRecursion (λ s. s.high ≤ block) front →
    AllByRecursion (λ s. block < s.low) back → ⊥
has_place level high block [] front back from to is before after = omega (arith, from, to)
has_place level high block (e ∷ es) [] back from to is before after =
    let all = subst (AllByRecursion (λ s. block < s.low)) (sym is) after in
    omega (arith, all.0, from)
has_place level high block (e ∷ es) (f ∷ fs) back from to is before after =
    let here : f ≡ stub_at (suc level) e.low (bound_of es high) e.addr e.key = cc in
    let rest : stubs_at (suc level) high es ≡ fs ++ back = cc in
    has_place level high block es fs back (subst (λ (s : Stub). s.high ≤ block) here before.0) to rest before.1 after

module _ (Fits : Want → List ℕ → Record → Type 0) (order block : ℕ) where
  leaf_entry : (high : ℕ) (es : List Entry) (spot : Spot) (found : Option Entry) → IsSpot block (stubs_at 0 high es) spot → FindsFrom Fits order block spot found → IsEntryOf es block found
  leaf_entry high es (Found addr key) found is f =
      let p = place_of 0 high es is.front is.back (datum block addr key) is.all in
      let entry : Entry = record { low = block; addr = addr; key = key } in
      let same = entry_is p.entry entry (sym (ap (λ (s : Stub). s.low) p.is)) (sym (ap (λ (s : Stub). s.addr) p.is)) (sym (ap (λ (s : Stub). s.key) p.is)) in
      subst (IsEntryOf es block) (sym f)
      (subst (λ xs. Contains xs entry) (sym p.split) (Contains-append_right p.before (p.entry ∷ p.after) entry (subst (λ e. Contains (p.entry ∷ p.after) e) same (Contains-head p.entry p.after))), refl)
  leaf_entry high es Absent found is f =
      subst (IsEntryOf es block) (sym f) (All-from_recursion (λ (e : Entry). e.low ≢ block) es (lacks_entry high block es is.front is.back is.all is.before is.after))
  leaf_entry high es (Below level low end addr key) found is f =
      let at = is.3 in
      let p = place_of 0 high es at.front at.back (stub_at level low end addr key) at.all in
      let zero_is : level ≡ 0 = ap (λ (s : Stub). s.level) p.is in
      absurd (omega (arith, is.0, zero_is))

  -- what is found from the place of an entry on is found from the entry on
  from_place : (level high : ℕ) (e : Entry) (s : Stub) (found : Option Entry) → s ≡ place_at (suc level) high e → FindsBelow Fits block (want_of order s) s.key found →
      (path : List ℕ) × Finds Fits order block found level (child_want order (suc level) e high) e.key path
  from_place level high e s found is f =
      let here = subst (λ (s : Stub). FindsBelow Fits block (want_of order s) s.key found) is f in
      let one : suc level - 1 ≡ level = omega arith in
      (here.0, subst (λ n. Finds Fits order block found n (child_want order (suc level) e high) e.key here.0) one here.1)

  -- a node that fits, and what is found among its places
  pub node_finds : (level : ℕ) (want : Want) (key : List ℕ) (es : List Entry) (found : Option Entry) → Fits want key (NodeRecord (suc level) es) → (1 ≤ level → bound_of es want.high ≤ block) → block < want.high →
      FindsAmong Fits order block (stubs_at level want.high es) found → (path : List ℕ) × Finds Fits order block found level want key path
  unfolding Finds
  node_finds zero want key es found fits from to f =
      (want.addr ∷ [], record { entries = es; fits = fits; is = leaf_entry want.high es f.spot found f.is f.finds; path_is = refl })
  node_finds (suc level) want key es found fits from to f = by f.spot f.is f.finds
    where
      by : (spot : Spot) → IsSpot block (stubs_at (suc level) want.high es) spot → FindsFrom Fits order block spot found → (path : List ℕ) × Finds Fits order block found (suc level) want key path
      by (Found addr key') is f =
          let p = place_of (suc level) want.high es is.front is.back (datum block addr key') is.all in
          let level_is : 0 ≡ suc level = ap (λ (s : Stub). s.level) p.is in
          absurd (omega (arith, level_is))
      by Absent is f = absurd (has_place level want.high block es is.front is.back (from (omega arith)) to is.all is.before is.after)
      by (Below lev low end addr key') is f =
          let at = is.3 in
          let s = stub_at lev low end addr key' in
          let p = place_of (suc level) want.high es at.front at.back s at.all in
          let bound = bound_of p.after want.high in
          let goes = from_place level bound p.entry s found p.is f in
          let low_is : low ≡ p.entry.low = ap (λ (s : Stub). s.low) p.is in
          let end_is : end ≡ bound = ap (λ (s : Stub). s.high) p.is in
          let way : IsWay es want.high block p.entry bound = record { before = p.before; after = p.after; split = p.split; ends = refl; from = omega (arith, is.1, low_is); below = omega (arith, is.2, end_is) } in
          (goes.0 ++ want.addr ∷ [], record { entries = es; fits = fits; entry = p.entry; bound = bound; way = way; rest = goes.0; goes = goes.1; path_is = refl })
