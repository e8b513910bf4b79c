-- The least so far, and keys that get a value.
use Rattle.std.proofs.Common.{◌≡◌, ◌⊎◌, inl, inr, ◌==◌, ◌||◌, if◌then◌else◌, Bool, true, false, ℕ, ◌+◌, ◌<◌, ◌≤◌, Option, None, Some, List, [], ◌∷◌, ◌++◌, length, get_or, take, refl, sym, subst, ◌∙◌, arith, take_all}
use Rattle.std.specs.Prelude.{Contains}
use Rattle.std.specs.List.{list_any}
use Rattle.std.specs.Ordering.{nat_cmp}
use Rattle.std.specs.BTreeMap.{BTreeMap, get, Updates}
use Rattle.std.specs.BTreeSet.{BTreeSet}
use Rattle.std.proofs.lemmas.Bool.{cases_eq, eq-eqb, ne_eqb}
use Rattle.std.proofs.lemmas.Option.{none-some, same_Some}
use Rattle.std.proofs.lemmas.List.{take_more}
use Rattle.std.proofs.lemmas.List.Folds.{list_any_more}
use Rattle.std.proofs.lemmas.List.Elements.{Contains-push, Contains-push_cases, Contains-append_left}
use Rattle.cert_checker.specs.Looks.{LeastOf, IsFoundOr, IsUntaken, IsUntakenChild}
use Rattle.cert_checker.proofs.HeldLaws.{apart_key}

pub least_same : (P Q : ℕ → Type 0) (o : Option ℕ) → ((n : ℕ) → P n → Q n) → ((n : ℕ) → Q n → P n) → LeastOf P o → LeastOf Q o
least_same P Q None to back none = λ n q. none n (back n q)
least_same P Q (Some v) to back least = (to v least.0, λ n q. least.1 n (back n q))

pub least_both : (A B : ℕ → Type 0) (o new : Option ℕ) → LeastOf A o → LeastOf (IsFoundOr o B) new → LeastOf (λ n. A n ⊎ B n) new
least_both A B None None a b = λ n e. elim e [ inl x ↦ a n x | inr y ↦ b n (inr y) ]
least_both A B None (Some v) a b = (elim b.0 [ inl x ↦ absurd (none-some v x) | inr y ↦ inr y ], λ n e. elim e [ inl x ↦ absurd (a n x) | inr y ↦ b.1 n (inr y) ])
least_both A B (Some u) None a b = absurd (b u (inl refl))
least_both A B (Some u) (Some v) a b = (
  elim b.0 [ inl x ↦ inl (subst A (same_Some u v x) a.0) | inr y ↦ inr y ],
  λ n e. elim e [ inl x ↦ (let low = b.1 u (inl refl) in let low' = a.1 n x in omega arith) | inr y ↦ b.1 n (inr y) ],
)

pub least_more : (found least new : Option ℕ) (gone : List ℕ) (taken : BTreeSet ℕ) (children : List ℕ) (i : ℕ) → i < length children
    → LeastOf (IsFoundOr found (IsUntakenChild gone taken (take i children))) least → IsUntaken gone taken (get_or children i 0) → LeastOf (IsFoundOr least (λ n. n ≡ get_or children i 0)) new
    → LeastOf (IsFoundOr found (IsUntakenChild gone taken (take (i + 1) children))) new
least_more found least new gone taken children i inside before dropped now =
    let x = get_or children i 0 in
    let both = least_both (IsFoundOr found (IsUntakenChild gone taken (take i children))) (λ (n : ℕ). n ≡ x) least new before now in
    subst (λ (l : List ℕ). LeastOf (IsFoundOr found (IsUntakenChild gone taken l)) new) (sym (take_more children i 0 inside))
    (least_same (λ (n : ℕ). IsFoundOr found (IsUntakenChild gone taken (take i children)) n ⊎ (n ≡ x)) (IsFoundOr found (IsUntakenChild gone taken (take i children ++ x ∷ []))) new
    (λ n e. elim e [
      | inl old ↦ elim old [ inl f ↦ inl f | inr d ↦ inr (Contains-append_left (take i children) (x ∷ []) n d.0, d.1) ]
      | inr same ↦ inr (subst (λ (m : ℕ). Contains (take i children ++ x ∷ []) m) (sym same) (Contains-push (take i children) x), subst (λ (m : ℕ). IsUntaken gone taken m) (sym same) dropped)
    ])
    (λ n e. elim e [
      | inl f ↦ inl (inl f)
      | inr d ↦ elim (Contains-push_cases (take i children) x n d.0) [ inl old ↦ inl (inr (old, d.1)) | inr same ↦ inr (sym same) ]
    ])
    both)

pub least_kept : (found least : Option ℕ) (gone : List ℕ) (taken : BTreeSet ℕ) (children : List ℕ) (i : ℕ) → i < length children
    → LeastOf (IsFoundOr found (IsUntakenChild gone taken (take i children))) least → (IsUntaken gone taken (get_or children i 0) → ⊥)
    → LeastOf (IsFoundOr found (IsUntakenChild gone taken (take (i + 1) children))) least
least_kept found least gone taken children i inside before not_dropped =
    let x = get_or children i 0 in
    subst (λ (l : List ℕ). LeastOf (IsFoundOr found (IsUntakenChild gone taken l)) least) (sym (take_more children i 0 inside))
    (least_same (IsFoundOr found (IsUntakenChild gone taken (take i children))) (IsFoundOr found (IsUntakenChild gone taken (take i children ++ x ∷ []))) least
    (λ n e. elim e [ inl f ↦ inl f | inr d ↦ inr (Contains-append_left (take i children) (x ∷ []) n d.0, d.1) ])
    (λ n e. elim e [
      | inl f ↦ inl f
      | inr d ↦ elim (Contains-push_cases (take i children) x n d.0) [ inl old ↦ inr (old, d.1) | inr same ↦ absurd (not_dropped (subst (λ (m : ℕ). IsUntaken gone taken m) (sym same) d.1)) ]
    ])
    before)

pub least_all : (found least : Option ℕ) (gone : List ℕ) (taken : BTreeSet ℕ) (children : List ℕ) (i : ℕ) → length children ≤ i
    → LeastOf (IsFoundOr found (IsUntakenChild gone taken (take i children))) least → LeastOf (IsFoundOr found (IsUntakenChild gone taken children)) least
least_all found least gone taken children i most before = subst (λ (l : List ℕ). LeastOf (IsFoundOr found (IsUntakenChild gone taken l)) least) (take_all i children most) before

or_true : (b : Bool) → (b || true) ≡ true
or_true true = refl
or_true false = refl

or_false : (b : Bool) → (b || false) ≡ b
or_false true = refl
or_false false = refl

pub gets_value : {X : Type 0} (keys : List ℕ) (i q : ℕ) (w old : Option X) (live new : BTreeMap ℕ X) → i < length keys → get nat_cmp live q ≡ (if list_any (λ x. x == q) (take i keys) then w else old) → Updates nat_cmp live new (get_or keys i 0) w → get nat_cmp new q ≡ (if list_any (λ x. x == q) (take (i + 1) keys) then w else old)
gets_value {X} keys i q w old live new inside before u = elim (cases_eq (get_or keys i 0) q) [
  | inl same ↦ rw (list_any_more (λ (x : ℕ). x == q) keys i 0 inside, eq-eqb (get_or keys i 0) q same, or_true (list_any (λ (x : ℕ). x == q) (take i keys))) (subst (λ (x : ℕ). get nat_cmp new x ≡ w) same u.1)
  | inr other ↦ rw (list_any_more (λ (x : ℕ). x == q) keys i 0 inside, ne_eqb (get_or keys i 0) q other, or_false (list_any (λ (x : ℕ). x == q) (take i keys))) (u.2 q (apart_key (get_or keys i 0) q other) ∙ before)
]
