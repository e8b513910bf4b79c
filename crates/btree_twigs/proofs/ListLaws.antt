-- Laws of lists of children, whatever a child is.
use Rattle.std.proofs.Common.{◌≡◌, ℕ, zero, suc, ◌+◌, ◌<◌, ◌≤◌, List, [], ◌∷◌, ◌++◌, length, take, drop, get_or, refl, sym, ap, subst, ◌∙◌, append_assoc, add-one, arith, length-append}
use Rattle.std.specs.List.{AllByRecursion, insert, remove}
use Rattle.std.proofs.lemmas.List.{take-append-drop, drop_more, take_more, take_at, drop_at, get_or_at}
use Rattle.btree_twigs.specs.Stubs.{Stub, Tiles, Puts, start_by, stubs_by}
use Rattle.btree_twigs.specs.Shape.{EachBy, Begins, IsNodeBy}

pub tiles_le : (low high : ℕ) (xs : List Stub) → Tiles low high xs → low ≤ high
tiles_le low high [] h = h
tiles_le low high (x ∷ xs) h = let t = tiles_le x.high high xs h.2 in omega (arith, h.0, h.1, t)

pub tiles_append : (low mid high : ℕ) (xs ys : List Stub) → Tiles low mid xs → Tiles mid high ys → Tiles low high (xs ++ ys)
tiles_append low mid high [] [] h k = omega (arith, h, k)
tiles_append low mid high [] (y ∷ ys) h k = (omega (arith, h, k.0), k.1, k.2)
tiles_append low mid high (x ∷ xs) ys h k = (h.0, h.1, tiles_append x.high mid high xs ys h.2 k)

pub tiles_from : (low low' high : ℕ) (xs : List Stub) → low' ≤ low → Tiles low high xs → Tiles low' high xs
tiles_from low low' high [] le h = omega (arith, h, le)
tiles_from low low' high (x ∷ xs) le h = (omega (arith, h.0, le), h.1, h.2)

module _ {C : Type 0} (low : C → ℕ) where
  pub start_append : (xs ys : List C) (high : ℕ) → start_by low (xs ++ ys) high ≡ start_by low xs (start_by low ys high)
  start_append [] ys high = refl
  start_append (x ∷ xs) ys high = refl

  pub stubs_append : (below : ℕ → C → List Stub) (high : ℕ) (xs ys : List C) →
      stubs_by low below high (xs ++ ys) ≡ stubs_by low below (start_by low ys high) xs ++ stubs_by low below high ys
  stubs_append below high [] ys = refl
  stubs_append below high (x ∷ xs) ys = rw (start_append xs ys high, stubs_append below high xs ys, append_assoc) refl

  pub each_append : (Below : ℕ → C → Type 0) (high : ℕ) (xs ys : List C) →
      EachBy low Below (start_by low ys high) xs → EachBy low Below high ys → EachBy low Below high (xs ++ ys)
  each_append Below high [] ys h k = k
  each_append Below high (x ∷ xs) ys h k =
      rw (start_append xs ys high) (h.0, h.1, each_append Below high xs ys h.2 k)

  pub each_front : (Below : ℕ → C → Type 0) (high : ℕ) (xs ys : List C) →
      EachBy low Below high (xs ++ ys) → EachBy low Below (start_by low ys high) xs
  each_front Below high [] ys h = tt
  each_front Below high (x ∷ xs) ys h =
      let k = rw (start_append xs ys high) at h in (k.0, k.1, each_front Below high xs ys h.2)

  pub each_back : (Below : ℕ → C → Type 0) (high : ℕ) (xs ys : List C) →
      EachBy low Below high (xs ++ ys) → EachBy low Below high ys
  each_back Below high [] ys h = h
  each_back Below high (x ∷ xs) ys h = each_back Below high xs ys h.2

  pub each_le : (Below : ℕ → C → Type 0) (high : ℕ) (xs : List C) → EachBy low Below high xs → start_by low xs high ≤ high
  each_le Below high [] h = omega arith
  each_le Below high (x ∷ xs) h = let t = each_le Below high xs h.2 in omega (arith, h.0, t)

  pub tiles_by : (Below : ℕ → C → Type 0) (below : ℕ → C → List Stub) →
      ((high : ℕ) (c : C) → low c < high → Below high c → Tiles (low c) high (below high c)) →
      (high : ℕ) (cs : List C) → EachBy low Below high cs → Tiles (start_by low cs high) high (stubs_by low below high cs)
  tiles_by Below below one high [] h = omega arith
  tiles_by Below below one high (c ∷ cs) h =
      tiles_append (low c) (start_by low cs high) high (below (start_by low cs high) c) (stubs_by low below high cs)
      (one (start_by low cs high) c h.0 h.1) (tiles_by Below below one high cs h.2)

pub start_least : {C : Type 0} (low : C → ℕ) (Below : ℕ → C → Type 0) (high : ℕ) (c : C) (cs : List C) → EachBy low Below high (c ∷ cs) → low c < high
start_least low Below high c cs h = let t = each_le low Below high cs h.2 in omega (arith, h.0, t)

-- what is put below is put into the whole
pub puts_lift : (low from to high : ℕ) (stub : Stub) (xs old new bs : List Stub) → Tiles low from xs → Puts from to stub old new → Tiles to high bs →
    Puts low high stub (xs ++ (old ++ bs)) (xs ++ (new ++ bs))
puts_lift low from to high stub xs old new bs h p k = record {
  front = xs ++ p.front;
  mid = p.mid;
  back = p.back ++ bs;
  was = rw (p.was, append_assoc, append_assoc, append_assoc) refl;
  now = rw (p.now, append_assoc, append_assoc) refl;
  before = tiles_append low from stub.low xs p.front h p.before;
  here = p.here;
  after = tiles_append (suc stub.low) to high p.back bs p.after k;
}

module _ {C : Type 0} (low : C → ℕ) (Below : ℕ → C → Type 0) where
  -- one child for another that begins where it did
  pub each_with : (high : ℕ) (fs : List C) (c d : C) (bs : List C) → EachBy low Below high (fs ++ c ∷ bs) → low d ≡ low c → Below (start_by low bs high) d →
      EachBy low Below high (fs ++ d ∷ bs)
  each_with high fs c d bs h e k =
      let back = each_back low Below high fs (c ∷ bs) h in
      let front = each_front low Below high fs (c ∷ bs) h in
      each_append low Below high fs (d ∷ bs) (subst (λ s. EachBy low Below s fs) (sym e) front) (omega (arith, e, back.0), k, back.2)

  -- two children for one
  pub each_with_two : (high : ℕ) (fs : List C) (c d p : C) (bs : List C) → EachBy low Below high (fs ++ c ∷ bs) → low d ≡ low c →
      low d < low p → low p < start_by low bs high → Below (low p) d → Below (start_by low bs high) p →
      EachBy low Below high (fs ++ d ∷ p ∷ bs)
  each_with_two high fs c d p bs h e lt lt' k k' =
      let back = each_back low Below high fs (c ∷ bs) h in
      let front = each_front low Below high fs (c ∷ bs) h in
      each_append low Below high fs (d ∷ p ∷ bs) (subst (λ s. EachBy low Below s fs) (sym e) front) (lt, k, (lt', k', back.2))

  pub begins_with : (level least high : ℕ) (fs : List C) (c d : C) (bs cs : List C) → Begins level least (start_by low (fs ++ c ∷ bs) high) → low d ≡ low c →
      Begins level least (start_by low (fs ++ d ∷ cs) high)
  begins_with level least high [] c d bs cs h e = subst (Begins level least) (sym e) h
  begins_with level least high (f ∷ fs) c d bs cs h e = h

  pub node_with : (level least most from high : ℕ) (fs : List C) (c d : C) (bs : List C) → IsNodeBy low Below level least most from high (fs ++ c ∷ bs) →
      low d ≡ low c → Below (start_by low bs high) d → IsNodeBy low Below level least most from high (fs ++ d ∷ bs)
  node_with level least most from high fs c d bs h e k = record {
    enough = omega (arith, h.enough, length-append fs (c ∷ bs), length-append fs (d ∷ bs));
    within = omega (arith, h.within, length-append fs (c ∷ bs), length-append fs (d ∷ bs));
    begins = begins_with level from high fs c d bs bs h.begins e;
    each = each_with high fs c d bs h.each e k;
  }

  pub node_with_two : (level least most from high : ℕ) (fs : List C) (c d p : C) (bs : List C) → IsNodeBy low Below level least most from high (fs ++ c ∷ bs) →
      low d ≡ low c → low d < low p → low p < start_by low bs high → Below (low p) d → Below (start_by low bs high) p →
      IsNodeBy low Below level least (most + 1) from high (fs ++ d ∷ p ∷ bs)
  node_with_two level least most from high fs c d p bs h e lt lt' k k' = record {
    enough = omega (arith, h.enough, length-append fs (c ∷ bs), length-append fs (d ∷ p ∷ bs));
    within = omega (arith, h.within, length-append fs (c ∷ bs), length-append fs (d ∷ p ∷ bs));
    begins = begins_with level from high fs c d bs (p ∷ bs) h.begins e;
    each = each_with_two high fs c d p bs h.each e lt lt' k k';
  }

  -- what is put below a child is put into the node
  pub node_puts : (below : ℕ → C → List Stub) →
      ((high : ℕ) (c : C) → low c < high → Below high c → Tiles (low c) high (below high c)) →
      (from high : ℕ) (stub : Stub) (fs : List C) (c : C) (bs : List C) (news : List Stub) →
      from ≤ start_by low (fs ++ c ∷ bs) high → EachBy low Below high (fs ++ c ∷ bs) →
      Puts (low c) (start_by low bs high) stub (below (start_by low bs high) c) news →
      Puts from high stub (stubs_by low below high (fs ++ c ∷ bs)) (stubs_by low below (low c) fs ++ (news ++ stubs_by low below high bs))
  node_puts below one from high stub fs c bs news le h p =
      let back = each_back low Below high fs (c ∷ bs) h in
      let front = each_front low Below high fs (c ∷ bs) h in
      let tiles = tiles_by low Below below one (low c) fs front in
      let start : start_by low (fs ++ c ∷ bs) high ≡ start_by low fs (low c) = start_append low fs (c ∷ bs) high in
      subst (λ olds. Puts from high stub olds (stubs_by low below (low c) fs ++ (news ++ stubs_by low below high bs)))
      (sym (stubs_append low below high fs (c ∷ bs)))
      (puts_lift from (low c) (start_by low bs high) high stub (stubs_by low below (low c) fs) (below (start_by low bs high) c) news (stubs_by low below high bs)
      (tiles_from (start_by low fs (low c)) from (low c) (stubs_by low below (low c) fs) (omega (arith, le, start)) tiles)
      p (tiles_by low Below below one high bs back.2))

-- a list round one of its elements
pub split_here : {X : Type 0} (xs : List X) (i : ℕ) (x : X) → i < length xs → x ≡ get_or xs i x → xs ≡ take i xs ++ x ∷ drop (suc i) xs
split_here xs i x lt e = sym (take-append-drop i xs) ∙ ap (λ ys. take i xs ++ ys) (drop_more xs i x lt ∙ rw (← e, add-one) refl)

pub insert_here : {X : Type 0} (xs : List X) (i : ℕ) (x y : X) → i < length xs → x ≡ get_or xs i x → insert xs (i + 1) y ≡ take i xs ++ x ∷ y ∷ drop (suc i) xs
insert_here xs i x y lt e = rw (take_more xs i x lt, ← e, append_assoc, add-one) refl

at_last_suc : {X : Type 0} (P : X → Type 0) (xs : List X) (i : ℕ) (d : X) → i < length xs → AllByRecursion P (take (suc i) xs) → P (get_or xs i d)
at_last_suc P [] i d lt h = absurd (omega (arith, lt))
at_last_suc P (x ∷ xs) zero d lt h = h.0
at_last_suc P (x ∷ xs) (suc i) d lt h = at_last_suc P xs i d (omega (arith, lt)) h.1

pub at_last : {X : Type 0} (P : X → Type 0) (xs : List X) (i : ℕ) (d : X) → i < length xs → AllByRecursion P (take (i + 1) xs) → P (get_or xs i d)
at_last P xs i d lt h = at_last_suc P xs i d lt (rw add-one at h)

pub at_end : {X : Type 0} (P : X → Type 0) (xs : List X) (i n : ℕ) (x : X) → suc i ≡ n → i < length xs → x ≡ get_or xs i x → AllByRecursion P (take n xs) → P x
at_end P xs i n x is lt e h = subst P (sym e) (at_last_suc P xs i x lt (subst (λ m. AllByRecursion P (take m xs)) (sym is) h))

-- a list round two neighbours
module _ {X : Type 0} (fs : List X) (a b : X) (bs : List X) (n : ℕ) (at : length fs ≡ n) where
  front_is : length (fs ++ a ∷ []) ≡ n + 1
  front_is = omega (arith, at, length-append fs (a ∷ []))

  pub without_other : remove (fs ++ a ∷ b ∷ bs) (n + 1) ≡ fs ++ a ∷ bs
  without_other =
      let xs = fs ++ a ∷ [] in
      let e : fs ++ a ∷ b ∷ bs ≡ xs ++ b ∷ bs = sym (append_assoc fs (a ∷ []) (b ∷ bs)) in
      ap (λ ys. remove ys (n + 1)) e
      ∙ ap (λ ys. ys ++ drop (suc (n + 1)) (xs ++ b ∷ bs)) (take_at xs (b ∷ bs) (n + 1) front_is)
      ∙ ap (λ ys. xs ++ ys) (ap (drop (suc (n + 1))) (sym (append_assoc xs (b ∷ []) bs)) ∙ drop_at (xs ++ b ∷ []) bs (suc (n + 1)) (omega (arith, front_is, length-append xs (b ∷ []))))
      ∙ append_assoc fs (a ∷ []) bs

  pub other_is : (d : X) → get_or (fs ++ a ∷ b ∷ bs) (n + 1) d ≡ b
  other_is d = ap (λ ys. get_or ys (n + 1) d) (sym (append_assoc fs (a ∷ []) (b ∷ bs))) ∙ get_or_at (fs ++ a ∷ []) b bs d (n + 1) front_is

  pub with_behind : insert (fs ++ a ∷ bs) (n + 1) b ≡ fs ++ a ∷ b ∷ bs
  with_behind =
      let xs = fs ++ a ∷ [] in
      let e : fs ++ a ∷ bs ≡ xs ++ bs = sym (append_assoc fs (a ∷ []) bs) in
      ap (λ ys. insert ys (n + 1) b) e
      ∙ ap (λ ys. ys ++ b ∷ drop (n + 1) (xs ++ bs)) (take_at xs bs (n + 1) front_is)
      ∙ ap (λ ys. xs ++ b ∷ ys) (drop_at xs bs (n + 1) front_is)
      ∙ append_assoc fs (a ∷ []) (b ∷ bs)
