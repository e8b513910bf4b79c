-- Chains with one certificate more.
use Rattle.std.proofs.Common.{◌≡◌, inl, inr, ℕ, ◌+◌, ◌||◌, Bool, true, false, List, [], ◌∷◌, ◌++◌, refl, sym, ap, subst, ◌∙◌, arith}
use Rattle.std.specs.Prelude.{Option, Some, ◌==◌}
use Rattle.std.proofs.lemmas.Bool.{cases_eq, cases_Bool, eq-eqb, ne_eqb}
use Rattle.cert_maker.specs.Cert.{Cert}
use Rattle.key_graph.specs.Trace.{Entries}
use Rattle.cert_checker.specs.Rules.{Keeps, after}
use Rattle.cert_checker.specs.Chain.{has_first, from_last_first, last_of_each, without_last, chain_of, last_or, after_all, EachKeeps}

differ : (a b : ℕ) → (a ≡ b → ⊥) → (b ≡ a → ⊥)
differ a b ne same = ne (sym same)

has_first_more : (xs : List Cert) (c : Cert) → (c.commit ≡ 0 → ⊥) → has_first (xs ++ c ∷ []) ≡ has_first xs
has_first_more [] c ne = rw (ne_eqb c.commit 0 ne) refl
has_first_more (x ∷ xs) c ne = ap (λ (b : Bool). (x.commit == 0) || b) (has_first_more xs c ne)

or_true : (a : Bool) → (a || true) ≡ true
or_true true = refl
or_true false = refl

has_first_end : (xs : List Cert) (c : Cert) → c.commit ≡ 0 → has_first (xs ++ c ∷ []) ≡ true
has_first_end [] c is = rw (eq-eqb c.commit 0 is) refl
has_first_end (x ∷ xs) c is = ap (λ (b : Bool). (x.commit == 0) || b) (has_first_end xs c is) ∙ or_true (x.commit == 0)

from_later : (x : Cert) (xs : List Cert) → has_first xs ≡ true → from_last_first (x ∷ xs) ≡ from_last_first xs
unfolding from_last_first
from_later x xs is = rw is refl

pub from_here : (x : Cert) (xs : List Cert) → has_first xs ≡ false → from_last_first (x ∷ xs) ≡ x ∷ xs
unfolding from_last_first
from_here x xs is = rw is refl

pub from_more : (x : Cert) (xs : List Cert) (c : Cert) → (c.commit ≡ 0 → ⊥) → from_last_first (x ∷ xs ++ c ∷ []) ≡ from_last_first (x ∷ xs) ++ c ∷ []
from_more x [] c ne = from_here x (c ∷ []) (has_first_more [] c ne) ∙ ap (λ (l : List Cert). l ++ c ∷ []) (sym (from_here x [] refl))
from_more x (y ∷ ys) c ne =
    let same : has_first (y ∷ ys ++ c ∷ []) ≡ has_first (y ∷ ys) = has_first_more (y ∷ ys) c ne in
    elim (cases_Bool (has_first (y ∷ ys))) [
      | inl there ↦ from_later x (y ∷ ys ++ c ∷ []) (same ∙ there) ∙ from_more y ys c ne ∙ ap (λ (l : List Cert). l ++ c ∷ []) (sym (from_later x (y ∷ ys) there))
      | inr not_there ↦ from_here x (y ∷ ys ++ c ∷ []) (same ∙ not_there) ∙ ap (λ (l : List Cert). l ++ c ∷ []) (sym (from_here x (y ∷ ys) not_there))
    ]

pub from_first : (xs : List Cert) (c : Cert) → c.commit ≡ 0 → from_last_first (xs ++ c ∷ []) ≡ c ∷ []
unfolding from_last_first
from_first [] c is = refl
from_first (x ∷ xs) c is = rw (has_first_end xs c is) (from_first xs c is)

pub last_skips : (x y : Cert) (ys : List Cert) → (y.commit == x.commit) ≡ true → last_of_each (x ∷ y ∷ ys) ≡ last_of_each (y ∷ ys)
unfolding last_of_each
last_skips x y ys is = rw is refl

pub last_keeps : (x y : Cert) (ys : List Cert) → (y.commit == x.commit) ≡ false → last_of_each (x ∷ y ∷ ys) ≡ x ∷ last_of_each (y ∷ ys)
unfolding last_of_each
last_keeps x y ys is = rw is refl

-- of a list that isn't empty something stays
pub each_some : (y : Cert) (ys : List Cert) → (l : Cert) × (ls : List Cert) × (last_of_each (y ∷ ys) ≡ l ∷ ls)
unfolding last_of_each
each_some y [] = (y, [], refl)
each_some y (z ∷ zs) = elim (cases_Bool (z.commit == y.commit)) [
  | inl same ↦ (let rest = each_some z zs in (rest.0, rest.1, last_skips y z zs same ∙ rest.2))
  | inr other ↦ (y, last_of_each (z ∷ zs), last_keeps y z zs other)
]

pub without_skips : (n : ℕ) (x : Cert) (l : Cert) (ls : List Cert) (L : List Cert) → L ≡ l ∷ ls → without_last n (x ∷ L) ≡ x ∷ without_last n L
unfolding without_last
without_skips n x l ls L is = subst (λ (M : List Cert). without_last n (x ∷ M) ≡ x ∷ without_last n M) (sym is) refl

each_two : (x c : Cert) → last_of_each (x ∷ c ∷ []) ≡ without_last c.commit (last_of_each (x ∷ [])) ++ c ∷ []
unfolding last_of_each without_last
each_two x c = elim (cases_eq x.commit c.commit) [
  | inl same ↦ rw (eq-eqb x.commit c.commit same, eq-eqb c.commit x.commit (sym same)) refl
  | inr other ↦ rw (ne_eqb x.commit c.commit other, ne_eqb c.commit x.commit (differ x.commit c.commit other)) refl
]

each_one : (c : Cert) → last_of_each (c ∷ []) ≡ without_last c.commit (last_of_each []) ++ c ∷ []
unfolding last_of_each without_last
each_one c = refl

each_more : (xs : List Cert) (c : Cert) → last_of_each (xs ++ c ∷ []) ≡ without_last c.commit (last_of_each xs) ++ c ∷ []
each_more [] c = each_one c
each_more (x ∷ []) c = each_two x c
each_more (x ∷ y ∷ ys) c =
    let rest = each_more (y ∷ ys) c in
    let some = each_some y ys in
    elim (cases_Bool (y.commit == x.commit)) [
      | inl same ↦ last_skips x y (ys ++ c ∷ []) same ∙ rest ∙ ap (λ (l : List Cert). without_last c.commit l ++ c ∷ []) (sym (last_skips x y ys same))
      | inr other ↦ last_keeps x y (ys ++ c ∷ []) other ∙ ap (λ (l : List Cert). x ∷ l) rest
          ∙ ap (λ (l : List Cert). l ++ c ∷ []) (sym (without_skips c.commit x some.0 some.1 (last_of_each (y ∷ ys)) some.2))
          ∙ ap (λ (l : List Cert). without_last c.commit l ++ c ∷ []) (sym (last_keeps x y ys other))
    ]

without_same : (n : ℕ) (xs : List Cert) (c : Cert) → c.commit ≡ n → without_last n (xs ++ c ∷ []) ≡ xs
unfolding without_last
without_same n [] c is = rw (eq-eqb c.commit n is) refl
without_same n (x ∷ []) c is = rw (eq-eqb c.commit n is) refl
without_same n (x ∷ y ∷ ys) c is = ap (λ (l : List Cert). x ∷ l) (without_same n (y ∷ ys) c is)

without_other : (n : ℕ) (xs : List Cert) (c : Cert) → (c.commit ≡ n → ⊥) → without_last n (xs ++ c ∷ []) ≡ xs ++ c ∷ []
unfolding without_last
without_other n [] c ne = rw (ne_eqb c.commit n ne) refl
without_other n (x ∷ []) c ne = rw (ne_eqb c.commit n ne) refl
without_other n (x ∷ y ∷ ys) c ne = ap (λ (l : List Cert). x ∷ l) (without_other n (y ∷ ys) c ne)

-- one certificate more than the root record has
pub chain_waits : (x : Cert) (xs : List Cert) (c : Cert) (n : ℕ) → c.commit ≡ n + 1 → chain_of (x ∷ xs ++ c ∷ []) n ≡ chain_of (x ∷ xs) n
chain_waits x xs c n is =
    ap (λ (l : List Cert). without_last (n + 1) (last_of_each l)) (from_more x xs c (λ zero. absurd (omega arith)))
    ∙ ap (without_last (n + 1)) (each_more (from_last_first (x ∷ xs)) c)
    ∙ without_same (n + 1) (without_last c.commit (last_of_each (from_last_first (x ∷ xs)))) c is
    ∙ ap (λ (m : ℕ). without_last m (last_of_each (from_last_first (x ∷ xs)))) is

-- the root record of that certificate
pub chain_next : (x : Cert) (xs : List Cert) (c : Cert) (n m : ℕ) → c.commit ≡ n + 1 → m ≡ c.commit → chain_of (x ∷ xs ++ c ∷ []) m ≡ chain_of (x ∷ xs) n ++ c ∷ []
chain_next x xs c n m is now =
    ap (λ (l : List Cert). without_last (m + 1) (last_of_each l)) (from_more x xs c (λ zero. absurd (omega arith)))
    ∙ ap (without_last (m + 1)) (each_more (from_last_first (x ∷ xs)) c)
    ∙ without_other (m + 1) (without_last c.commit (last_of_each (from_last_first (x ∷ xs)))) c (λ same. absurd (omega arith))
    ∙ ap (λ (k : ℕ). without_last k (last_of_each (from_last_first (x ∷ xs))) ++ c ∷ []) is

pub chain_first : (xs : List Cert) (c : Cert) → c.commit ≡ 0 → chain_of (xs ++ c ∷ []) 0 ≡ c ∷ []
unfolding last_of_each without_last
chain_first xs c is =
    ap (λ (l : List Cert). without_last (0 + 1) (last_of_each l)) (from_first xs c is)
    ∙ without_other (0 + 1) [] c (λ same. absurd (omega arith))

pub chain_none : (n : ℕ) → chain_of [] n ≡ []
unfolding last_of_each without_last from_last_first
chain_none n = refl

pub last_more : (former : Option Cert) (xs : List Cert) (c : Cert) → last_or former (xs ++ c ∷ []) ≡ Some c
last_more former [] c = refl
last_more former (x ∷ xs) c = last_more (Some x) xs c

pub after_more : (live : Entries) (xs : List Cert) (c : Cert) → after_all live (xs ++ c ∷ []) ≡ after (after_all live xs) c
after_more live [] c = refl
after_more live (x ∷ xs) c = after_more (after live x) xs c

pub keeps_more : (live : Entries) (former : Option Cert) (xs : List Cert) (c : Cert) → EachKeeps live former xs → Keeps (after_all live xs) (last_or former xs) c → EachKeeps live former (xs ++ c ∷ [])
keeps_more live former [] c each keeps = (keeps, tt)
keeps_more live former (x ∷ xs) c each keeps = (each.0, keeps_more (after live x) (Some x) xs c each.1 keeps)
