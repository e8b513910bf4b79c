-- Marks of pages: one more, in another order, and those that begin with a number.
use Rattle.std.proofs.Common.{◌≡◌, ◌↔◌, ◌<◌, ◌≤◌, ◌+◌, ◌-◌, inl, inr, ℕ, List, [], ◌∷◌, ◌++◌, map, take, drop, length, get_or, refl, sym, ap, subst, ◌∙◌, arith, below_more}
use Rattle.std.specs.Prelude.{◌≢◌, All, Contains, Some, slice_get}
use Rattle.std.specs.List.Sorted.{IsPermutation}
use Rattle.std.specs.List.{take-map, drop-map}
use Rattle.std.proofs.Math.Dec.{eqb}
use Rattle.std.proofs.lemmas.Bool.{cases_lt}
use Rattle.std.proofs.lemmas.Bool.Decides.{Decides-eqb}
use Rattle.std.proofs.lemmas.List.{map-append, get_or-map, get_or-take, get_or-drop, length-map, length-take, length-drop, take_more}
use Rattle.std.proofs.lemmas.List.Quantifiers.{all_pairs_push}
use Rattle.std.proofs.lemmas.List.Elements.{All-push, All-weaker, All-take, All-drop, All-contains, All-contains_itself, All-get_or, All-map, Contains-append_left, Contains-push}
use Rattle.std.proofs.lemmas.List.Sorted.{All-permutation, Contains-permutation, IsPermutation-map}
use Rattle.std.proofs.lemmas.Map.Keys.{IsDistinct-IsPermutation}
use Rattle.std.proofs.lemmas.Map.Made.{AllPairs-from_IsDistinct, IsDistinct-from_AllPairs}
use Rattle.std.proofs.lemmas.Option.{slice_get_within}
use Rattle.seal_record.specs.Keystream.{stream}
use Rattle.seal_record.specs.Sealing.{Opens}
use Rattle.key_graph.specs.Chains.{OpensAt, link}
use Rattle.key_graph.proofs.ChainLaws.{contains_map}
use Rattle.seizure.specs.declared.index.Marked.{Marked}
use Rattle.seizure.specs.Index.{IsMark, AreMarks, AreBelow, AreApart, IsOnce, IsHit}

-- the addresses that marks are of
abbrev pub addrs_of : List Marked → List ℕ
addrs_of marks = map (λ (m : Marked). m.addr) marks

some_one : {A : Type 0} (x y : A) → Some x ≡ Some y → x ≡ y
some_one x y same = cc

-- one more page
pub mark_more : (pages : List (List ℕ)) (page : List ℕ) (marks : List Marked) (mark : Marked) → slice_get pages mark.addr ≡ Some page
    → ((key : List ℕ) → (mark.front ≡ take 16 (stream key)) ↔ Opens key mark.addr page) → AreMarks pages mark.addr marks → AreMarks pages (mark.addr + 1) (marks ++ mark ∷ [])
mark_more pages page marks mark there opens are =
    let more : List ℕ = map (λ (m : Marked). m.addr) marks in
    let moved : map (λ (m : Marked). m.addr) (marks ++ mark ∷ []) ≡ more ++ mark.addr ∷ [] = map-append (λ (m : Marked). m.addr) marks (mark ∷ []) in
    record {
      each = All-push (IsMark pages) marks mark are.each (record { page = page; there = there; opens = opens });
      whole = below_more _ mark.addr
          (λ addr below. subst (λ (l : List ℕ). Contains l addr) (sym moved) (Contains-append_left more (mark.addr ∷ []) addr (are.whole addr below)))
          (subst (λ (l : List ℕ). Contains l mark.addr) (sym moved) (Contains-push more mark.addr));
    }

-- the marks in another order
pub marks_moved : (pages : List (List ℕ)) (below : ℕ) (marks sorted : List Marked) → IsPermutation marks sorted → AreMarks pages below marks → AreMarks pages below sorted
marks_moved pages below marks sorted moved are = record {
  each = All-permutation (IsMark pages) marks sorted moved are.each;
  whole = λ addr inside. Contains-permutation (map (λ (m : Marked). m.addr) marks) (map (λ (m : Marked). m.addr) sorted) addr (IsPermutation-map (λ (m : Marked). m.addr) marks sorted moved) (are.whole addr inside);
}

-- a part of a list has items of the list
pub part_some : {X : Type 0} (xs : List X) (start count : ℕ) → All (Contains xs) (take count (drop start xs))
part_some xs start count = All-take (Contains xs) count (drop start xs) (All-drop (Contains xs) start xs (All-contains_itself xs))

-- the part that begins where numbers are no longer below one, and ends where they are above it, has each item of that number
pub part_all : {X : Type 0} (number : X → ℕ) (xs : List X) (n start count : ℕ)
    → ((k : ℕ) (d : X) → k < start → number (get_or xs k d) < n)
    → ((k : ℕ) (d : X) → count ≤ k → k < length (drop start xs) → n < number (get_or (drop start xs) k d))
    → (x : X) → Contains xs x → number x ≡ n → Contains (take count (drop start xs)) x
part_all number xs n start count below above x has is =
    let from : start ≤ has.0 = elim (cases_lt has.0 start) [ inl low ↦ absurd (omega (arith, below has.0 x low, ap number has.2, is)) | inr most ↦ most ] in
    let place : start + (has.0 - start) ≡ has.0 = omega arith in
    let here : get_or (drop start xs) (has.0 - start) x ≡ x = get_or-drop start xs (has.0 - start) x ∙ ap (λ (i : ℕ). get_or xs i x) place ∙ has.2 in
    let inside : has.0 - start < length (drop start xs) = omega (arith, length-drop start xs, has.1) in
    let to : has.0 - start < count = elim (cases_lt (has.0 - start) count) [ inl low ↦ low | inr most ↦ absurd (omega (arith, above (has.0 - start) x most inside, ap number here, is)) ] in
    (has.0 - start, omega (arith, length-take count (drop start xs), inside, to), get_or-take count (drop start xs) (has.0 - start) x to ∙ here)

-- the marks that begin like a keystream, of those that begin with its number, are the pages that its key opens
pub hits_open : (pages : List (List ℕ)) (marks near : List Marked) (number : List ℕ → ℕ) (key : List ℕ) → AreMarks pages (length pages) marks → All (Contains marks) near
    → ((mark : Marked) → Contains marks mark → number mark.front ≡ number (take 16 (stream key)) → Contains near mark)
    → (addr : ℕ) → IsHit near (take 16 (stream key)) addr ↔ OpensAt pages (link addr key)
hits_open pages marks near number key are some all addr =
    let front = take 16 (stream key) in (
      λ hit.
          let mark : IsMark pages hit.mark = All-contains (IsMark pages) marks hit.mark are.each (All-contains (Contains marks) near hit.mark some hit.inside) in
          subst (λ (a : ℕ). OpensAt pages (link a key)) hit.here (record { page = mark.page; there = mark.there; opens = (mark.opens key).0 hit.same }),
      λ opens.
          let found = contains_map (λ (m : Marked). m.addr) marks addr (are.whole addr (slice_get_within pages addr opens.page opens.there)) in
          let mark : IsMark pages found.0 = All-contains (IsMark pages) marks found.0 are.each found.1 in
          let same_page : opens.page ≡ mark.page = some_one _ _ (sym opens.there ∙ ap (slice_get pages) (sym found.2) ∙ mark.there) in
          let opened : Opens key found.0.addr mark.page = subst (λ (p : List ℕ). Opens key found.0.addr p) same_page (subst (λ (a : ℕ). Opens key a opens.page) (sym found.2) opens.opens) in
          let same : found.0.front ≡ front = (mark.opens key).1 opened in
          record { mark = found.0; inside = all found.0 found.1 (ap number same); same = same; here = found.2 },
    )

-- one more of a list
taken_more : (xs : List ℕ) (i x : ℕ) → Contains (take i xs) x → Contains (take (i + 1) xs) x
taken_more xs i x has =
    let low : has.0 < i = omega (arith, length-take i xs, has.1) in
    let within : has.0 < length xs = omega (arith, length-take i xs, has.1) in
    (has.0, omega (arith, length-take (i + 1) xs, low, within), get_or-take (i + 1) xs has.0 x (omega (arith, low)) ∙ sym (get_or-take i xs has.0 x low) ∙ has.2)

-- where no number stands twice, the next one wasn't taken
not_taken : (xs : List ℕ) (i x : ℕ) → IsOnce xs → i < length xs → get_or xs i x ≡ x → Contains (take i xs) x → ⊥
not_taken xs i x once within here has =
    let low : has.0 < i = omega (arith, length-take i xs, has.1) in
    once has.0 i x low within (sym (get_or-take i xs has.0 x low) ∙ has.2 ∙ sym here)

addr_at : (marks : List Marked) (i : ℕ) (mark : Marked) → i < length marks → ((d : Marked) → get_or marks i d ≡ mark) → get_or (addrs_of marks) i mark.addr ≡ mark.addr
addr_at marks i mark below here = get_or-map (λ (m : Marked). m.addr) marks i mark mark.addr below ∙ ap (λ (m : Marked). m.addr) (here mark)

taken_next : (marks : List Marked) (i : ℕ) (mark : Marked) → i < length marks → ((d : Marked) → get_or marks i d ≡ mark) → take (i + 1) (addrs_of marks) ≡ take i (addrs_of marks) ++ mark.addr ∷ []
taken_next marks i mark below here =
    take_more (addrs_of marks) i mark.addr (omega (arith, length-map marks (λ (m : Marked). m.addr), below)) ∙ ap (λ (a : ℕ). take i (addrs_of marks) ++ a ∷ []) (addr_at marks i mark below here)

-- what a loop over marks has found
pub record HasHits (marks : List Marked) (front : List ℕ) (looked : ℕ) (addrs : List ℕ) : Type 0 where
  pub found : All (IsHit marks front) addrs
  pub all : (k : ℕ) (d : Marked) → k < looked → (get_or marks k d).front ≡ front → Contains addrs (get_or marks k d).addr
  pub looked_at : All (Contains (take looked (addrs_of marks))) addrs
  pub once : AreApart marks → IsOnce addrs

-- one that begins like this
pub hit_more : (marks : List Marked) (front : List ℕ) (i : ℕ) (addrs new : List ℕ) (mark : Marked) → HasHits marks front i addrs → i < length marks
    → ((d : Marked) → get_or marks i d ≡ mark) → mark.front ≡ front → new ≡ addrs ++ mark.addr ∷ [] → HasHits marks front (i + 1) new
hit_more marks front i addrs new mark has below here same is = record {
  found = subst (All (IsHit marks front)) (sym is) (All-push (IsHit marks front) addrs mark.addr has.found
      (record { mark = mark; inside = (i, below, here mark); same = same; here = refl }));
  all = λ k d within front_is. subst (λ (l : List ℕ). Contains l (get_or marks k d).addr) (sym is)
      (elim (cases_lt k i) [
        | inl before ↦ Contains-append_left addrs (mark.addr ∷ []) (get_or marks k d).addr (has.all k d before front_is)
        | inr most ↦ let at : k ≡ i = omega arith in
            subst (λ (m : Marked). Contains (addrs ++ mark.addr ∷ []) m.addr) (sym (ap (λ (j : ℕ). get_or marks j d) at ∙ here d)) (Contains-push addrs mark.addr)
      ]);
  looked_at = subst (All (Contains (take (i + 1) (addrs_of marks)))) (sym is)
      (All-push (Contains (take (i + 1) (addrs_of marks))) addrs mark.addr
      (All-weaker (Contains (take i (addrs_of marks))) (Contains (take (i + 1) (addrs_of marks))) (λ addr inside. taken_more (addrs_of marks) i addr inside) addrs has.looked_at)
      (subst (λ (l : List ℕ). Contains l mark.addr) (sym (taken_next marks i mark below here)) (Contains-push (take i (addrs_of marks)) mark.addr)));
  once = λ apart. subst IsOnce (sym is)
      (all_pairs_push (λ one other. one ≢ other) addrs mark.addr (has.once apart)
      (λ k d within same_addr.
      not_taken (addrs_of marks) i mark.addr apart (omega (arith, length-map marks (λ (m : Marked). m.addr), below)) (addr_at marks i mark below here)
      (subst (Contains (take i (addrs_of marks))) same_addr (All-get_or (Contains (take i (addrs_of marks))) addrs k d within has.looked_at))));
}

-- one that doesn't
pub hit_other : (marks : List Marked) (front : List ℕ) (i : ℕ) (addrs : List ℕ) (mark : Marked) → HasHits marks front i addrs
    → ((d : Marked) → get_or marks i d ≡ mark) → (mark.front ≡ front → ⊥) → HasHits marks front (i + 1) addrs
hit_other marks front i addrs mark has here other = record {
  found = has.found;
  all = λ k d within front_is. elim (cases_lt k i) [
    | inl before ↦ has.all k d before front_is
    | inr most ↦ let at : k ≡ i = omega arith in absurd (other (sym (ap (λ (m : Marked). m.front) (ap (λ (j : ℕ). get_or marks j d) at ∙ here d)) ∙ front_is))
  ];
  looked_at = All-weaker (Contains (take i (addrs_of marks))) (Contains (take (i + 1) (addrs_of marks))) (λ addr inside. taken_more (addrs_of marks) i addr inside) addrs has.looked_at;
  once = has.once;
}

-- at the end that is all
pub hits_all : (marks : List Marked) (front addrs : List ℕ) (looked : ℕ) → HasHits marks front looked addrs → length marks ≤ looked
    → (addr : ℕ) → Contains addrs addr ↔ IsHit marks front addr
hits_all marks front addrs looked has most addr = (
  λ inside. All-contains (IsHit marks front) addrs addr has.found inside,
  λ hit.
      let same : get_or marks hit.inside.0 hit.mark ≡ hit.mark = hit.inside.2 in
      let there = has.all hit.inside.0 hit.mark (omega (arith, hit.inside.1)) (ap (λ (m : Marked). m.front) same ∙ hit.same) in
      subst (Contains addrs) (ap (λ (m : Marked). m.addr) same ∙ hit.here) there,
)

-- ---- marks below an address

pub below_push : (below : ℕ) (marks : List Marked) (mark : Marked) → mark.addr ≡ below → AreBelow below marks → AreBelow (below + 1) (marks ++ mark ∷ [])
below_push below marks mark is are =
    All-push (λ (m : Marked). m.addr < below + 1) marks mark (All-weaker (λ (m : Marked). m.addr < below) (λ (m : Marked). m.addr < below + 1) (λ m low. omega arith) marks are) (omega (arith, is))

pub below_moved : (below : ℕ) (marks sorted : List Marked) → IsPermutation marks sorted → AreBelow below marks → AreBelow below sorted
below_moved below marks sorted moved are = All-permutation (λ (m : Marked). m.addr < below) marks sorted moved are

pub hits_below : (below : ℕ) (marks near : List Marked) (front addrs : List ℕ) → All (Contains marks) near → ((addr : ℕ) → Contains addrs addr ↔ IsHit near front addr) → AreBelow below marks
    → All (λ addr. addr < below) addrs
hits_below below marks near front addrs some hits are =
    All-weaker (Contains addrs) (λ (addr : ℕ). addr < below)
    (λ addr has.
    let hit = (hits addr).0 has in
    subst (λ (a : ℕ). a < below) hit.here (All-contains (λ (m : Marked). m.addr < below) marks hit.mark are (All-contains (Contains marks) near hit.mark some hit.inside)))
    addrs (All-contains_itself addrs)

-- ---- marks of different pages

pub apart_push : (below : ℕ) (marks : List Marked) (mark : Marked) → mark.addr ≡ below → AreBelow below marks → AreApart marks → AreApart (marks ++ mark ∷ [])
apart_push below marks mark is are apart =
    subst IsOnce (sym (map-append (λ (m : Marked). m.addr) marks (mark ∷ [])))
    (all_pairs_push (λ one other. one ≢ other) (addrs_of marks) mark.addr apart
    (λ k d within same.
    let low : get_or (addrs_of marks) k d < below = All-get_or (λ (addr : ℕ). addr < below) (addrs_of marks) k d within (All-map (λ (addr : ℕ). addr < below) (λ (m : Marked). m.addr) marks are) in
    omega (arith, low, same, is)))

flips : (x y : ℕ) → eqb x y ≡ eqb y x
flips x y = grind arith

pub apart_moved : (marks sorted : List Marked) → IsPermutation marks sorted → AreApart marks → AreApart sorted
apart_moved marks sorted moved apart =
    AllPairs-from_IsDistinct Decides-eqb (addrs_of sorted)
    (IsDistinct-IsPermutation eqb flips (addrs_of marks) (addrs_of sorted) (IsPermutation-map (λ (m : Marked). m.addr) marks sorted moved)
    (IsDistinct-from_AllPairs Decides-eqb (addrs_of marks) apart))

-- of a part of a list too
pub apart_part : (marks : List Marked) (start count : ℕ) → AreApart marks → AreApart (take count (drop start marks))
apart_part marks start count apart =
    let rest : List ℕ = drop start (addrs_of marks) in
    let part : take count rest ≡ addrs_of (take count (drop start marks)) = ap (take count) (drop-map (λ (m : Marked). m.addr) start marks) ∙ take-map (λ (m : Marked). m.addr) count (drop start marks) in
    subst IsOnce part
    (λ i j d before within.
    let below : j < count = omega (arith, length-take count rest, within) in
    let inside : start + j < length (addrs_of marks) = omega (arith, length-take count rest, length-drop start (addrs_of marks), within) in
    rw (get_or-take count rest i d (omega (arith, before, below)), get_or-take count rest j d below, get_or-drop start (addrs_of marks) i d, get_or-drop start (addrs_of marks) j d)
    (apart (start + i) (start + j) d (omega (arith, before)) inside))
