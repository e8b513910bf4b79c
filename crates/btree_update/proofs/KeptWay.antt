-- What the cache keeps of the way to a block.
use Rattle.std.proofs.Common.{◌≡◌, ℕ, ◌<◌, ◌≤◌, List, [], ◌∷◌, ◌++◌, ◌∙◌, Option, Result, Ok, Err, IfOk, refl, sym, ap, subst, arith}
use Rattle.std.specs.Prelude.{OnOk}
use Rattle.std.specs.List.{AllByRecursion}
use Rattle.node_codec.specs.declared.body.Entry.{Entry}
use Rattle.node_codec.specs.Record.{Record}
use Rattle.page_store.specs.declared.wants.Want.{Want}
use Rattle.btree_twigs.specs.declared.twigs.Spot.{Spot}
use Rattle.btree_twigs.specs.declared.twigs.Spot.TheVariants.{Found, Absent, Below}
use Rattle.btree_twigs.specs.Stubs.{Stub, datum}
use Rattle.btree_twigs.specs.Search.{IsAt, IsSpot}
use Rattle.btree_update.specs.Held.{stub_at}
use Rattle.btree_update.specs.Finding.{FindsFrom, FindsAmong}

-- ---- one search ends at one place

-- these places have the block
abbrev HaveBlock : ℕ → List Stub → Type 0
HaveBlock block = AllByRecursion (λ s. (s.low ≤ block) × (block < s.high))

abbrev EndBefore : ℕ → List Stub → Type 0
EndBefore block = AllByRecursion (λ s. s.high ≤ block)

abbrev BeginBehind : ℕ → List Stub → Type 0
BeginBehind block = AllByRecursion (λ s. block < s.low)

behind_back : (block : ℕ) (xs ys : List Stub) → BeginBehind block (xs ++ ys) → BeginBehind block ys
behind_back block [] ys h = h
behind_back block (x ∷ xs) ys h = behind_back block xs ys h.1

behind_front : (block : ℕ) (xs ys : List Stub) → BeginBehind block (xs ++ ys) → BeginBehind block xs
behind_front block [] ys h = tt
behind_front block (x ∷ xs) ys h = (h.0, behind_front block xs ys h.1)

none_behind : (block : ℕ) (here : List Stub) → HaveBlock block here → BeginBehind block here → here ≡ []
none_behind block [] has behind = refl
none_behind block (h ∷ here) has behind = absurd (omega (arith, has.0.0, behind.0))

no_front : (block : ℕ) (here here' back back' : List Stub) → HaveBlock block here → HaveBlock block here' → BeginBehind block back → BeginBehind block back' → here ++ back ≡ here' ++ back' → here ≡ here'
no_front block [] here' back back' has has' behind behind' same = sym (none_behind block here' has' (behind_front block here' back' (subst (BeginBehind block) same behind)))
no_front block (h ∷ here) [] back back' has has' behind behind' same = none_behind block (h ∷ here) has (behind_front block (h ∷ here) back (subst (BeginBehind block) (sym same) behind'))
no_front block (h ∷ here) (h' ∷ here') back back' has has' behind behind' same =
    let head : h ≡ h' = cc in
    let tail : here ++ back ≡ here' ++ back' = cc in
    let rest = no_front block here here' back back' has.1 has'.1 behind behind' tail in
    ap (λ x. x ∷ here) head ∙ ap (λ xs. h' ∷ xs) rest

-- where the one front has a place, the other has it too, or none has the block
front_only : (block : ℕ) (x : Stub) (front here back here' back' : List Stub) → x.high ≤ block → HaveBlock block here → HaveBlock block here' → BeginBehind block back → here ++ back ≡ x ∷ (front ++ (here' ++ back')) → here ≡ here'
front_only block x front [] back here' back' ends has has' behind same =
    let all : BeginBehind block (front ++ (here' ++ back')) = (subst (BeginBehind block) same behind).1 in
    sym (none_behind block here' has' (behind_front block here' back' (behind_back block front (here' ++ back') all)))
front_only block x front (h ∷ here) back here' back' ends has has' behind same =
    let head : h ≡ x = cc in
    let to = subst (λ (s : Stub). block < s.high) head has.0.1 in
    absurd (omega (arith, ends, to))

one_here : (block : ℕ) (front front' here here' back back' : List Stub) → EndBefore block front → EndBefore block front' → HaveBlock block here → HaveBlock block here' → BeginBehind block back → BeginBehind block back' →
    front ++ (here ++ back) ≡ front' ++ (here' ++ back') → here ≡ here'
one_here block [] [] here here' back back' before before' has has' behind behind' same = no_front block here here' back back' has has' behind behind' same
one_here block [] (x ∷ front') here here' back back' before before' has has' behind behind' same = front_only block x front' here back here' back' before'.0 has has' behind same
one_here block (x ∷ front) [] here here' back back' before before' has has' behind behind' same = sym (front_only block x front here' back' here back before.0 has' has behind' (sym same))
one_here block (x ∷ front) (x' ∷ front') here here' back back' before before' has has' behind behind' same =
    let tail : front ++ (here ++ back) ≡ front' ++ (here' ++ back') = cc in
    one_here block front front' here here' back back' before.1 before'.1 has has' behind behind' tail

-- the places at the block where a search ends
abbrev here_of : ℕ → Spot → List Stub
here_of block (Found addr key) = datum block addr key ∷ []
here_of block Absent = []
here_of block (Below level low high addr key) = stub_at level low high addr key ∷ []

record IsHere (block : ℕ) (ss here : List Stub) : Type 0 where
  at : IsAt block ss here
  has : HaveBlock block here

at_here : (block : ℕ) (ss : List Stub) (spot : Spot) → IsSpot block ss spot → IsHere block ss (here_of block spot)
at_here block ss (Found addr key) is = record { at = is; has = ((omega arith, omega arith), tt) }
at_here block ss Absent is = record { at = is; has = tt }
at_here block ss (Below level low high addr key) is = record { at = is.3; has = ((is.1, is.2), tt) }

same_here : (block : ℕ) (ss here here' : List Stub) → IsHere block ss here → IsHere block ss here' → here ≡ here'
same_here block ss here here' is is' =
    one_here block is.at.front is'.at.front here here' is.at.back is'.at.back is.at.before is'.at.before is.has is'.has is.at.after is'.at.after (sym is.at.all ∙ is'.at.all)

spot_of : (block : ℕ) (ss ss' : List Stub) (spot other : Spot) → IsSpot block ss spot → IsSpot block ss' other → here_of block spot ≡ here_of block other → spot ≡ other
spot_of block ss ss' (Found addr key) (Found addr' key') is is' same =
    let s : datum block addr key ≡ datum block addr' key' = cc in
    (λ i. Found (s i).addr (s i).key)
spot_of block ss ss' (Found addr key) Absent is is' same = absurd (cc)
spot_of block ss ss' (Found addr key) (Below level low high addr' key') is is' same =
    let s : datum block addr key ≡ stub_at level low high addr' key' = cc in
    let none : 0 ≡ level = ap (λ (s : Stub). s.level) s in absurd (omega (arith, none, is'.0))
spot_of block ss ss' Absent (Found addr key) is is' same = absurd (cc)
spot_of block ss ss' Absent Absent is is' same = refl
spot_of block ss ss' Absent (Below level low high addr key) is is' same = absurd (cc)
spot_of block ss ss' (Below level low high addr key) (Found addr' key') is is' same =
    let s : stub_at level low high addr key ≡ datum block addr' key' = cc in
    let none : level ≡ 0 = ap (λ (s : Stub). s.level) s in absurd (omega (arith, none, is.0))
spot_of block ss ss' (Below level low high addr key) Absent is is' same = absurd (cc)
spot_of block ss ss' (Below level low high addr key) (Below level' low' high' addr' key') is is' same =
    let s : stub_at level low high addr key ≡ stub_at level' low' high' addr' key' = cc in
    (λ i. Below (s i).level (s i).low (s i).high (s i).addr (s i).key)

-- what is found among the places is found from where the search ends
pub finds_there : (Fits : Want → List ℕ → Record → Type 0) (order block : ℕ) (ss : List Stub) (spot : Spot) (found : Option Entry) → IsSpot block ss spot → FindsAmong Fits order block ss found → FindsFrom Fits order block spot found
finds_there Fits order block ss spot found is f =
    let same = spot_of block ss ss f.spot spot f.is is (same_here block ss (here_of block f.spot) (here_of block spot) (at_here block ss f.spot f.is) (at_here block ss spot is)) in
    subst (λ s. FindsFrom Fits order block s found) same f.finds

-- ---- among fewer places

-- these places come first, and all behind them begin after the block
record ComeFirst (block : ℕ) (ss here : List Stub) : Type 0 where
  rest : List Stub
  is : ss ≡ here ++ rest
  after : BeginBehind block rest

come_first : (block : ℕ) (old bs here back : List Stub) → BeginBehind block bs → HaveBlock block here → BeginBehind block back → old ++ bs ≡ here ++ back → ComeFirst block old here
come_first block old bs [] back behind has after same = record { rest = old; is = refl; after = behind_front block old bs (subst (BeginBehind block) (sym same) after) }
come_first block [] bs (h ∷ here) back behind has after same =
    let all = subst (BeginBehind block) same behind in
    absurd (omega (arith, has.0.0, all.0))
come_first block (o ∷ old) bs (h ∷ here) back behind has after same =
    let head : o ≡ h = cc in
    let tail : old ++ bs ≡ here ++ back = cc in
    let r = come_first block old bs here back behind has.1 after tail in
    record { rest = r.rest; is = ap (λ xs. o ∷ xs) r.is ∙ ap (λ x. x ∷ (here ++ r.rest)) head; after = r.after }

at_front : (block : ℕ) (old bs front here back : List Stub) → BeginBehind block bs → EndBefore block front → HaveBlock block here → BeginBehind block back → old ++ bs ≡ front ++ (here ++ back) → IsAt block old here
at_front block old bs [] here back behind before has after same =
    let r = come_first block old bs here back behind has after same in
    record { front = []; back = r.rest; all = r.is; before = tt; after = r.after }
at_front block [] bs (f ∷ front) here back behind before has after same =
    let all = behind_back block (f ∷ front) (here ++ back) (subst (BeginBehind block) same behind) in
    let none = none_behind block here has (behind_front block here back all) in
    subst (IsAt block []) (sym none) (record { front = []; back = []; all = refl; before = tt; after = tt })
at_front block (o ∷ old) bs (f ∷ front) here back behind before has after same =
    let head : o ≡ f = cc in
    let tail : old ++ bs ≡ front ++ (here ++ back) = cc in
    let r = at_front block old bs front here back behind before.1 has after tail in
    record { front = f ∷ r.front; back = r.back; all = ap (λ xs. o ∷ xs) r.all ∙ ap (λ x. x ∷ (r.front ++ (here ++ r.back))) head; before = (before.0, r.before); after = r.after }

-- places before the block and behind it are no hindrance
at_narrow : (block : ℕ) (xs old bs front here back : List Stub) → EndBefore block xs → BeginBehind block bs → EndBefore block front → HaveBlock block here → BeginBehind block back → xs ++ (old ++ bs) ≡ front ++ (here ++ back) → IsAt block old here
at_narrow block [] old bs front here back ends behind before has after same = at_front block old bs front here back behind before has after same
at_narrow block (x ∷ xs) old bs [] [] back ends behind before has after same =
    let all = subst (BeginBehind block) (sym same) after in
    record { front = []; back = old; all = refl; before = tt; after = behind_front block old bs (behind_back block (x ∷ xs) (old ++ bs) all) }
at_narrow block (x ∷ xs) old bs [] (h ∷ here) back ends behind before has after same =
    let head : x ≡ h = cc in
    let end = subst (λ (s : Stub). s.high ≤ block) head ends.0 in
    absurd (omega (arith, has.0.1, end))
at_narrow block (x ∷ xs) old bs (f ∷ front) here back ends behind before has after same =
    let tail : xs ++ (old ++ bs) ≡ front ++ (here ++ back) = cc in
    at_narrow block xs old bs front here back ends.1 behind before.1 has after tail

spot_there : (block : ℕ) (xs old bs : List Stub) (spot : Spot) → EndBefore block xs → BeginBehind block bs → (is : IsHere block (xs ++ (old ++ bs)) (here_of block spot)) → IsAt block old (here_of block spot)
spot_there block xs old bs spot ends behind is = at_narrow block xs old bs is.at.front (here_of block spot) is.at.back ends behind is.at.before is.has is.at.after is.at.all

pub spot_narrow : (block : ℕ) (xs old bs : List Stub) (spot : Spot) → EndBefore block xs → BeginBehind block bs → IsSpot block (xs ++ (old ++ bs)) spot → IsSpot block old spot
spot_narrow block xs old bs (Found addr key) ends behind is = spot_there block xs old bs (Found addr key) ends behind (at_here block (xs ++ (old ++ bs)) (Found addr key) is)
spot_narrow block xs old bs Absent ends behind is = spot_there block xs old bs Absent ends behind (at_here block (xs ++ (old ++ bs)) Absent is)
spot_narrow block xs old bs (Below level low high addr key) ends behind is =
    (is.0, is.1, is.2, spot_there block xs old bs (Below level low high addr key) ends behind (at_here block (xs ++ (old ++ bs)) (Below level low high addr key) is))

-- ---- in an answer

pub OnOk_from : {T E : Type 0} (P : T → Type 0) (Q : Type 0) (r : Result T E) → ((x : T) → P x → Q) → IfOk r P → OnOk r Q
OnOk_from P Q (Ok x) map is = map x is
OnOk_from P Q (Err e) map is = tt

pub OnOk_map : {T E : Type 0} (P Q : Type 0) (r : Result T E) → (P → Q) → OnOk r P → OnOk r Q
OnOk_map P Q (Ok x) map is = map is
OnOk_map P Q (Err e) map is = tt
