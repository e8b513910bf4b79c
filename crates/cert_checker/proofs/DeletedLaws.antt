-- The addresses that a chain says are gone or were never kept are distinct, so they are no more than there are pages.
use Rattle.std.proofs.Common.{◌≡◌, inl, inr, ℕ, suc, ◌+◌, ◌<◌, ◌≤◌, eqb, true, false, List, [], ◌∷◌, ◌++◌, length, get_or, refl, sym, ap, subst, ◌∙◌, arith, append_assoc, append-nil, length-append}
use Rattle.std.specs.Prelude.{Option, None, Some, Contains, AllPairs}
use Rattle.std.specs.List.{IsDistinct, list_any}
use Rattle.std.proofs.lemmas.Bool.{ne_eqb, eqb-true, or_cases, false≢true}
use Rattle.std.proofs.lemmas.List.{get_or_default}
use Rattle.std.proofs.lemmas.List.Elements.{All-append, All-from_recursion, recursion_from_All, Contains-append_cases}
use Rattle.std.proofs.lemmas.Map.Keys.{IsDistinct-head, IsDistinct-tail, IsDistinct-cons, IsDistinct-from_apart}
use Rattle.std.proofs.lemmas.Map.Steps.{length-le_from_distinct_below}
use Rattle.sdbt_base.specs.declared.lists.Unkept.{Unkept}
use Rattle.key_graph.specs.Trace.{Entries}
use Rattle.cert_maker.specs.Cert.{Cert}
use Rattle.cert_checker.specs.Rules.{after, Keeps}
use Rattle.cert_checker.specs.Chain.{EachKeeps, nothing}
use Rattle.cert_checker.specs.First.{never_addrs}
use Rattle.cert_checker.specs.Sound.{Deletes, Gone, Never, Deleted, Stay, deleted_addrs}
use Rattle.cert_checker.proofs.AfterLaws.{has_not}
use Rattle.cert_checker.proofs.FirstLaws.{in_never, mapped}
use Rattle.cert_checker.proofs.StepLaws.{before, live_below, facts_stay}

-- ---- distinct lists

ascending_distinct : (xs : List ℕ) → AllPairs (λ a b. a < b) xs → IsDistinct eqb xs
ascending_distinct xs asc = IsDistinct-from_apart eqb xs (λ i j d low inside. ne_eqb (get_or xs i d) (get_or xs j d) (λ same. let up = asc i j d low inside in absurd (omega arith)))

distinct_append : (xs ys : List ℕ) → IsDistinct eqb xs → IsDistinct eqb ys → ((a : ℕ) → Contains xs a → Contains ys a → ⊥) → IsDistinct eqb (xs ++ ys)
distinct_append [] ys dx dy apart = dy
distinct_append (x ∷ xs) ys dx dy apart =
    IsDistinct-cons eqb x (xs ++ ys)
    (recursion_from_All (λ (y : ℕ). eqb x y ≡ false) (xs ++ ys)
    (All-append (λ (y : ℕ). eqb x y ≡ false) xs ys (All-from_recursion (λ (y : ℕ). eqb x y ≡ false) xs (IsDistinct-head eqb x xs dx))
    (λ k d inside. ne_eqb x (get_or ys k d) (λ same. apart x (0, omega arith, refl) (k, inside, get_or_default ys k x d inside ∙ sym same)))))
    (distinct_append xs ys (IsDistinct-tail eqb x xs dx) dy (λ a here there. apart a (suc here.0, omega (arith, here.1), here.2) there))

-- ---- the addresses of a chain

deleted_last : (done : List Cert) (cert : Cert) → deleted_addrs (done ++ cert ∷ []) ≡ deleted_addrs done ++ (cert.gone ++ never_addrs cert)
deleted_last [] cert = append-nil (cert.gone ++ never_addrs cert)
deleted_last (c ∷ cs) cert =
    ap (λ (l : List ℕ). c.gone ++ never_addrs c ++ l) (deleted_last cs cert)
    ∙ sym (append_assoc (c.gone ++ never_addrs c) (deleted_addrs cs) (cert.gone ++ never_addrs cert))

said_so : (cert : Cert) (a : ℕ) → Contains (cert.gone ++ never_addrs cert) a → Deletes cert a
said_so cert a inside = elim (Contains-append_cases cert.gone (never_addrs cert) a inside) [
  | inl gone ↦ Gone gone
  | inr never ↦ (let page = in_never cert.never a never in Never page.0 page.1 page.2)
]

deleted_in : (chain : List Cert) (a : ℕ) → Contains (deleted_addrs chain) a → Deleted chain a
deleted_in [] a inside = absurd (omega (arith, inside.1))
deleted_in (c ∷ cs) a inside = elim (Contains-append_cases (c.gone ++ never_addrs c) (deleted_addrs cs) a inside) [
  | inl here ↦ inl (said_so c a here)
  | inr later ↦ inr (deleted_in cs a later)
]

pub deleted_count : (done : List Cert) (cert : Cert) → length (deleted_addrs (done ++ cert ∷ [])) ≡ length (deleted_addrs done) + (length cert.gone + length (never_addrs cert))
deleted_count done cert =
    ap length (deleted_last done cert) ∙ length-append (deleted_addrs done) (cert.gone ++ never_addrs cert)
    ∙ ap (λ (n : ℕ). length (deleted_addrs done) + n) (length-append cert.gone (never_addrs cert))

distinct_more : (done : List Cert) (live : Entries) (former : Option Cert) (cert : Cert) → Stay done live former → Keeps live former cert → IsDistinct eqb (deleted_addrs done) → IsDistinct eqb (deleted_addrs (done ++ cert ∷ []))
distinct_more done live former cert stay keeps distinct =
    let b = before done live former cert stay keeps.rule2 in
    subst (λ (l : List ℕ). IsDistinct eqb l) (sym (deleted_last done cert))
    (distinct_append (deleted_addrs done) (cert.gone ++ never_addrs cert) distinct
    (distinct_append cert.gone (never_addrs cert) (ascending_distinct cert.gone keeps.rule4.gone_ascend) (ascending_distinct (never_addrs cert) (mapped (λ (p : Unkept). p.addr) cert.never keeps.rule3.never_ascend))
    (λ a gone never.
    let page = in_never cert.never a never in
    let low = live_below done live former cert b keeps a (keeps.rule4.live_before a gone) in
    let high = (keeps.rule3.never page.0 page.1).0 in
    let e = page.2 in
    absurd (omega arith)))
    (λ a old new. elim (Contains-append_cases cert.gone (never_addrs cert) a new) [
      | inl gone ↦ has_not live a (keeps.rule4.live_before a gone) (b.no_deleted a (deleted_in done a old))
      | inr never ↦
          (let page = in_never cert.never a never in
          let low = b.deleted_below a (deleted_in done a old) in
          let high = (keeps.rule3.never page.0 page.1).0 in
          let e = page.2 in
          absurd (omega arith))
    ]))

distinct_all : (done chain : List Cert) (live : Entries) (former : Option Cert) → Stay done live former → IsDistinct eqb (deleted_addrs done) → EachKeeps live former chain → IsDistinct eqb (deleted_addrs (done ++ chain))
distinct_all done [] live former stay distinct each = subst (λ (cs : List Cert). IsDistinct eqb (deleted_addrs cs)) (sym (append-nil done)) distinct
distinct_all done (cert ∷ others) live former stay distinct each =
    subst (λ (cs : List Cert). IsDistinct eqb (deleted_addrs cs)) (append_assoc done (cert ∷ []) others)
    (distinct_all (done ++ cert ∷ []) others (after live cert) (Some cert) (facts_stay done live former cert stay each.0) (distinct_more done live former cert stay each.0 distinct) each.1)

none_distinct : IsDistinct eqb (deleted_addrs [])
none_distinct = IsDistinct-from_apart eqb (deleted_addrs []) (λ i j d low inside. absurd (omega arith))

listed_in : (xs : List ℕ) (q : ℕ) → list_any (eqb q) xs ≡ true → Contains xs q
listed_in [] q is = absurd (false≢true is)
listed_in (x ∷ xs) q is = elim (or_cases (eqb q x) (list_any (eqb q) xs) is) [
  | inl here ↦ (0, omega arith, sym (eqb-true q x here))
  | inr later ↦ (let rest = listed_in xs q later in (suc rest.0, omega (arith, rest.1), rest.2))
]

-- after a chain that keeps the rules no more are gone or never kept than its last head
pub deleted_bound : (chain : List Cert) (head : ℕ) → EachKeeps nothing None chain → ((a : ℕ) → Deleted chain a → a < head) → length (deleted_addrs chain) ≤ head
deleted_bound chain head each low =
    length-le_from_distinct_below (deleted_addrs chain) head (distinct_all [] chain nothing None (refl, λ a. refl) none_distinct each)
    (λ q is. low q (deleted_in chain q (listed_in (deleted_addrs chain) q is)))
