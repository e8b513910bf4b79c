-- How a look-up goes on from node to node.
use Rattle.std.proofs.Common.{◌≡◌, ℕ, zero, suc, ◌-◌, ◌<◌, List, [], ◌∷◌, ◌++◌, Option, All, refl, sym, ap, subst, inl, inr, ◌∙◌, arith}
use Rattle.node_codec.specs.declared.body.Entry.{Entry}
use Rattle.node_codec.specs.Record.{Record, NodeRecord}
use Rattle.page_store.specs.declared.wants.Want.{Want}
use Rattle.page_store.specs.Places.{child_want}
use Rattle.btree_walk.specs.Ways.{IsEntryOf, GoesBelow}
use Rattle.btree_walk.specs.Finds.{StopsHere, EndsInLeaf, GoesOn, StopsBelow, Finds, Stops}
use Rattle.btree_walk.proofs.WayLaws.{way_entry}

-- nodes that fit name lower addresses
abbrev pub NamesBelow : (Want → List ℕ → Record → Type 0) → Type 0
NamesBelow Fits = (want : Want) (key : List ℕ) (level : ℕ) (es : List Entry) → Fits want key (NodeRecord level es) → All (λ e. e.addr < want.addr) es

module _ (Fits Fits' : Want → List ℕ → Record → Type 0) (order block top : ℕ) (below : NamesBelow Fits)
    (fits : (want : Want) (key : List ℕ) (value : Record) → want.addr < top → Fits want key value → Fits' want key value) where
  pub finds_map : (found : Option Entry) (level : ℕ) (want : Want) (key path : List ℕ) → want.addr < top → Finds Fits order block found level want key path → Finds Fits' order block found level want key path
  unfolding Finds
  finds_map found zero want key path small is = record { entries = is.entries; fits = fits want key (NodeRecord 1 is.entries) small is.fits; is = is.is; path_is = is.path_is }
  finds_map found (suc level) want key path small is =
      let less = way_entry (λ (e : Entry). e.addr < want.addr) is.entries want.high block is.bound is.entry (below want key (suc (suc level)) is.entries is.fits) is.way in
      record {
        entries = is.entries;
        fits = fits want key (NodeRecord (suc (suc level)) is.entries) small is.fits;
        entry = is.entry;
        bound = is.bound;
        way = is.way;
        rest = is.rest;
        goes = finds_map found level (child_want order (suc level) is.entry is.bound) is.entry.key is.rest (omega arith) is.goes;
        path_is = is.path_is;
      }

  module _ (Misfits Misfits' : Want → List ℕ → Type 0) (addr : ℕ) (misfits : (want : Want) (key : List ℕ) → want.addr < top → Misfits want key → Misfits' want key) where
    stops_here_map : (want : Want) (key : List ℕ) → want.addr < top → StopsHere Misfits addr want key → StopsHere Misfits' addr want key
    stops_here_map want key small is = record { here = is.here; misfits = misfits want key small is.misfits }

    pub stops_map : (level : ℕ) (want : Want) (key : List ℕ) → want.addr < top → Stops Fits order block Misfits addr level want key → Stops Fits' order block Misfits' addr level want key
    unfolding Stops
    stops_map zero want key small is = stops_here_map want key small is
    stops_map (suc level) want key small (inl is) = inl (stops_here_map want key small is)
    stops_map (suc level) want key small (inr is) =
        let less = way_entry (λ (e : Entry). e.addr < want.addr) is.entries want.high block is.bound is.entry (below want key (suc (suc level)) is.entries is.fits) is.way in
        inr record {
          entries = is.entries;
          fits = fits want key (NodeRecord (suc (suc level)) is.entries) small is.fits;
          entry = is.entry;
          bound = is.bound;
          way = is.way;
          stops = stops_map level (child_want order (suc level) is.entry is.bound) is.entry.key (omega arith) is.stops;
        }

module _ (Fits : Want → List ℕ → Record → Type 0) (block : ℕ) (want : Want) (key : List ℕ) (entries : List Entry) (fits : Fits want key (NodeRecord want.level entries)) where
  -- a leaf that fits ends it
  pub finds_leaf : (found : Option Entry) → want.level ≡ 1 → IsEntryOf entries block found → Finds Fits want.most block found (want.level - 1) want key (want.addr ∷ [])
  unfolding Finds
  finds_leaf found leaf is =
      let none : want.level - 1 ≡ zero = omega arith in
      let here : EndsInLeaf Fits want.most block found want key (want.addr ∷ []) = record { entries = entries; fits = subst (λ (n : ℕ). Fits want key (NodeRecord n entries)) leaf fits; is = is; path_is = refl } in
      subst (λ (n : ℕ). Finds Fits want.most block found n want key (want.addr ∷ [])) (sym none) here

  module _ (next : Want) (next_key : List ℕ) (goes : GoesBelow want entries block next next_key) where
    deep : want.level ≡ suc (suc (want.level - 2))
    deep = let inner = goes.inner in omega arith

    one_less : want.level - 1 ≡ suc (want.level - 2)
    one_less = let inner = goes.inner in omega arith

    next_level : next.level - 1 ≡ want.level - 2
    next_level = let inner = goes.inner in ap (λ (w : Want). w.level - 1) goes.next_is ∙ (let e : want.level - 1 - 1 ≡ want.level - 2 = omega arith in e)

    child_is : next ≡ child_want want.most (suc (want.level - 2)) goes.entry goes.bound
    child_is = goes.next_is ∙ ap (λ n. child_want want.most n goes.entry goes.bound) one_less

    -- what is found below an inner node that fits is found from there
    pub finds_on : (found : Option Entry) (rest : List ℕ) → Finds Fits next.most block found (next.level - 1) next next_key rest → Finds Fits want.most block found (want.level - 1) want key (rest ++ want.addr ∷ [])
    unfolding Finds
    finds_on found rest is =
        let order : next.most ≡ want.most = ap (λ (w : Want). w.most) goes.next_is in
        let moved = subst (λ (n : ℕ). Finds Fits n block found (next.level - 1) next next_key rest) order is in
        let moved' = subst (λ (n : ℕ). Finds Fits want.most block found n next next_key rest) next_level moved in
        let moved'' = subst (λ (w : Want). Finds Fits want.most block found (want.level - 2) w next_key rest) child_is moved' in
        let moved3 = subst (λ (k : List ℕ). Finds Fits want.most block found (want.level - 2) (child_want want.most (suc (want.level - 2)) goes.entry goes.bound) k rest) goes.key_is moved'' in
        let here : GoesOn Fits want.most block (Finds Fits want.most block found (want.level - 2)) (want.level - 2) want key (rest ++ want.addr ∷ []) = record {
          entries = entries;
          fits = subst (λ (n : ℕ). Fits want key (NodeRecord n entries)) deep fits;
          entry = goes.entry;
          bound = goes.bound;
          way = goes.way;
          rest = rest;
          goes = moved3;
          path_is = refl;
        } in
        subst (λ (n : ℕ). Finds Fits want.most block found n want key (rest ++ want.addr ∷ [])) (sym one_less) here

    -- and where it stops below, it stops from there
    pub stops_on : (Misfits : Want → List ℕ → Type 0) (addr : ℕ) → Stops Fits next.most block Misfits addr (next.level - 1) next next_key → Stops Fits want.most block Misfits addr (want.level - 1) want key
    unfolding Stops
    stops_on Misfits addr is =
        let order : next.most ≡ want.most = ap (λ (w : Want). w.most) goes.next_is in
        let moved = subst (λ (n : ℕ). Stops Fits n block Misfits addr (next.level - 1) next next_key) order is in
        let moved' = subst (λ (n : ℕ). Stops Fits want.most block Misfits addr n next next_key) next_level moved in
        let moved'' = subst (λ (w : Want). Stops Fits want.most block Misfits addr (want.level - 2) w next_key) child_is moved' in
        let moved3 = subst (λ (k : List ℕ). Stops Fits want.most block Misfits addr (want.level - 2) (child_want want.most (suc (want.level - 2)) goes.entry goes.bound) k) goes.key_is moved'' in
        let here : StopsBelow Fits want.most block Misfits addr (Stops Fits want.most block Misfits addr (want.level - 2)) (want.level - 2) want key = record {
          entries = entries;
          fits = subst (λ (n : ℕ). Fits want key (NodeRecord n entries)) deep fits;
          entry = goes.entry;
          bound = goes.bound;
          way = goes.way;
          stops = moved3;
        } in
        subst (λ (n : ℕ). Stops Fits want.most block Misfits addr n want key) (sym one_less) (inr here)

-- where the first place does not fit, it stops there
pub stops_first : (Fits : Want → List ℕ → Record → Type 0) (order block : ℕ) (Misfits : Want → List ℕ → Type 0) (addr level : ℕ) (want : Want) (key : List ℕ) → StopsHere Misfits addr want key → Stops Fits order block Misfits addr level want key
unfolding Stops
stops_first Fits order block Misfits addr zero want key is = is
stops_first Fits order block Misfits addr (suc level) want key is = inl is

-- where a block is found, the first place fits
pub first_fits : (Fits : Want → List ℕ → Record → Type 0) (order block : ℕ) (found : Option Entry) (level : ℕ) (want : Want) (key path : List ℕ) → Finds Fits order block found level want key path → (entries : List Entry) × Fits want key (NodeRecord (suc level) entries)
unfolding Finds
first_fits Fits order block found zero want key path is = (is.entries, is.fits)
first_fits Fits order block found (suc level) want key path is = (is.entries, is.fits)

-- no level above the leaves, and some
pub leaf_inverse : (Fits : Want → List ℕ → Record → Type 0) (order block : ℕ) (found : Option Entry) (n : ℕ) (want : Want) (key path : List ℕ) → n ≡ zero → Finds Fits order block found n want key path → EndsInLeaf Fits order block found want key path
unfolding Finds
leaf_inverse Fits order block found zero want key path none is = is
leaf_inverse Fits order block found (suc n) want key path none is = absurd (omega arith)

pub inner_inverse : (Fits : Want → List ℕ → Record → Type 0) (order block : ℕ) (found : Option Entry) (n level : ℕ) (want : Want) (key path : List ℕ) → n ≡ suc level → Finds Fits order block found n want key path → GoesOn Fits order block (Finds Fits order block found level) level want key path
unfolding Finds
inner_inverse Fits order block found zero level want key path some is = absurd (omega arith)
inner_inverse Fits order block found (suc n) level want key path some is =
    let same : n ≡ level = omega arith in
    subst (λ (m : ℕ). GoesOn Fits order block (Finds Fits order block found m) m want key path) same is
