-- How many bodies of a kind a seizure has.
use Rattle.std.proofs.Common.{◌≡◌, ◌==◌, ◌↔◌, inl, inr, true, false, Bool, cond, ℕ, zero, suc, List, [], ◌∷◌, map, length, get_or, refl, sym, subst, ◌∙◌, arith}
use Rattle.std.specs.Prelude.{AllPairs, Contains, ◌≢◌}
use Rattle.std.specs.List.{filter}
use Rattle.std.specs.Cmp.{nat_eq_equiv}
use Rattle.std.proofs.lemmas.Bool.{eqb-true, eq-eqb}
use Rattle.std.proofs.lemmas.Bool.Decides.{Decides-eqb}
use Rattle.std.proofs.lemmas.List.{get_or-map, length-map}
use Rattle.std.proofs.lemmas.List.Elements.{All-contains, All-filter, All-contains_itself, filter_passes, Contains-get_or}
use Rattle.std.proofs.lemmas.List.Kept.{AllPairs-filter}
use Rattle.std.proofs.lemmas.Map.Made.{IsDistinct-from_AllPairs, length-from_same_keys}
use Rattle.std.proofs.lemmas.Map.Views.{Contains-from_any, list_any-from_Contains, exact_unsigned_eq}
use Rattle.key_graph.specs.Chains.{ReachedBody}
use Rattle.key_graph.proofs.ChainLaws.{contains_map, map_contains}
use Rattle.seizure.specs.declared.opened.Opened.{Opened}
use Rattle.seizure.specs.Opened.{IsBefore, count_of_kind}
use Rattle.seizure.specs.Report.{Seized, IsSeizure}

-- nothing stands before itself
same_place : (one next : Opened) → one.addr ≡ next.addr → one.kind ≡ next.kind → one.block ≡ next.block → IsBefore one next → ⊥
same_place one next addr kind block before = elim before [
  | inl low ↦ omega (arith, addr)
  | inr rest ↦ elim rest.1 [ inl low ↦ omega (arith, kind) | inr last ↦ omega (arith, block, last.1) ]
]

-- what a filter keeps was there, and what passes is kept
pub kept_inside : {A : Type 0} (p : A → Bool) (xs : List A) (x : A) → Contains (filter p xs) x → Contains xs x
kept_inside p xs x has = All-contains (Contains xs) (filter p xs) x (All-filter p (Contains xs) xs (All-contains_itself xs)) has

keep_here : {A : Type 0} (b : Bool) (x : A) (kept : List A) → b ≡ true → Contains (cond b (x ∷ kept) kept) x
keep_here true x kept is = (0, omega arith, refl)
keep_here false x kept is = absurd (cc)

keep_there : {A : Type 0} (b : Bool) (x : A) (kept : List A) (o : A) → Contains kept o → Contains (cond b (x ∷ kept) kept) o
keep_there true x kept o has = (suc has.0, omega (arith, has.1), has.2)
keep_there false x kept o has = has

pub inside_kept : {A : Type 0} (p : A → Bool) (xs : List A) (o : A) → Contains xs o → p o ≡ true → Contains (filter p xs) o
inside_kept p [] o has passes = absurd (omega (arith, has.1))
inside_kept p (x ∷ xs) o (zero, within, is) passes = subst (Contains (filter p (x ∷ xs))) is (keep_here (p x) x (filter p xs) (subst (λ y. p y ≡ true) (sym is) passes))
inside_kept p (x ∷ xs) o (suc k, within, is) passes = keep_there (p x) x (filter p xs) o (inside_kept p xs o (k, omega (arith, within), is) passes)

same_bool : (a b : Bool) → (a ≡ true → b ≡ true) → (b ≡ true → a ≡ true) → a ≡ b
same_bool true b to from = sym (to refl)
same_bool false true to from = from refl
same_bool false false to from = refl

-- as many as there are addresses, where there is one at an address at most
pub counted : (roots pages : List (List ℕ)) (seized : Seized) (kind : ℕ) (addrs : List ℕ) → IsSeizure roots pages seized → AllPairs (λ one other. one ≢ other) addrs
    → ((addr : ℕ) → Contains addrs addr ↔ ((block : ℕ) × ReachedBody roots pages addr kind block))
    → ((addr one other : ℕ) → ReachedBody roots pages addr kind one → ReachedBody roots pages addr kind other → one ≡ other)
    → count_of_kind kind seized.opened ≡ length addrs
counted roots pages seized kind addrs is apart same one =
    let p : Opened → Bool = λ o. o.kind == kind in
    let f : Opened → ℕ = λ o. o.addr in
    let kept : List Opened = filter p seized.opened in
    let of_kind : (o : Opened) → Contains kept o → o.kind ≡ kind = λ o has. eqb-true o.kind kind (All-contains (λ (x : Opened). p x ≡ true) kept o (filter_passes p seized.opened) has) in
    let reached : (o : Opened) → Contains kept o → ReachedBody roots pages o.addr kind o.block = λ o has.
    subst (λ (k : ℕ). ReachedBody roots pages o.addr k o.block) (of_kind o has) ((is.exact o).0 (kept_inside p seized.opened o has)) in
    let ascends : AllPairs IsBefore kept = AllPairs-filter IsBefore p seized.opened is.ascends in
    let long : length (map f kept) ≡ length kept = length-map kept f in
    let own : AllPairs (λ a b. a ≢ b) (map f kept) = λ i j d before within at_one.
    (let e : Opened = record { addr = d; kind = kind; block = 0 } in
    let low = get_or kept i e in let high = get_or kept j e in
    let in_low : Contains kept low = Contains-get_or kept i e (omega (arith, long)) in
    let in_high : Contains kept high = Contains-get_or kept j e (omega (arith, long)) in
    let addr : low.addr ≡ high.addr = sym (get_or-map f kept i e d (omega (arith, long))) ∙ at_one ∙ get_or-map f kept j e d (omega (arith, long)) in
    let block : low.block ≡ high.block = one high.addr low.block high.block (subst (λ (a : ℕ). ReachedBody roots pages a kind low.block) addr (reached low in_low)) (reached high in_high) in
    same_place low high addr (of_kind low in_low ∙ sym (of_kind high in_high)) block (ascends i j e before (omega (arith, long)))) in
    let there : (q : ℕ) → Contains (map f kept) q → Contains addrs q = λ q has.
    (let found = contains_map f kept q has in
    (same q).1 (subst (λ (a : ℕ). (block : ℕ) × ReachedBody roots pages a kind block) found.2 (found.0.block, reached found.0 found.1))) in
    let back : (q : ℕ) → Contains addrs q → Contains (map f kept) q = λ q has.
    (let body = (same q).0 has in
    let o : Opened = record { addr = q; kind = kind; block = body.0 } in
    map_contains f kept o (inside_kept p seized.opened o ((is.exact o).1 body.1) (eq-eqb kind kind refl))) in
    sym long ∙ length-from_same_keys nat_eq_equiv (map f kept) addrs (IsDistinct-from_AllPairs Decides-eqb (map f kept) own) (IsDistinct-from_AllPairs Decides-eqb addrs apart)
    (λ q. same_bool _ _
    (λ has. list_any-from_Contains nat_eq_equiv q addrs (there q (Contains-from_any exact_unsigned_eq q (map f kept) has)))
    (λ has. list_any-from_Contains nat_eq_equiv q (map f kept) (back q (Contains-from_any exact_unsigned_eq q addrs has))))
