-- Which certificates of a ledger are its chain, place by place.
use Rattle.std.proofs.Common.{◌≡◌, inl, inr, if◌then◌else◌, ℕ, zero, suc, ◌+◌, ◌-◌, ◌<◌, ◌≤◌, eqb, not, Bool, true, false, List, [], ◌∷◌, ◌++◌, length, get_or, take, drop, refl, sym, ap, subst, ◌∙◌, arith, append-nil}
use Rattle.std.specs.Prelude.{◌≢◌, None, Some, Result, Ok, Err, slice_get}
use Rattle.std.proofs.lemmas.Bool.{cases_eq, eq-eqb, ne_eqb}
use Rattle.std.proofs.lemmas.List.{take_more, drop_more, drop_at, drop-append-le, drop_all, length-take-le}
use Rattle.std.proofs.lemmas.Option.{slice_get_within, get_or_from_slice_get}
use Rattle.cert_maker.specs.Cert.{Cert}
use Rattle.cert_checker.specs.declared.run.Run.{Run}
use Rattle.cert_checker.specs.declared.verdict.CheckRefusal.{CheckRefusal}
use Rattle.cert_checker.specs.declared.verdict.CheckRefusal.TheVariants.{Rule, Memory}
use Rattle.cert_checker.specs.Chain.{from_last_first, last_of_each, without_last, picks, last_or, live_after, nothing}
use Rattle.cert_checker.specs.First.{Breaks, FirstBroken}
use Rattle.cert_checker.specs.Settles.{Settles}
use Rattle.cert_checker.specs.Running.{IsAfter}
use Rattle.cert_checker.specs.Stepping.{WentOn, RunsAll}
use Rattle.cert_checker.proofs.ChainLaws.{from_here, from_first, from_more, last_skips, last_keeps, each_some, without_skips}
use Rattle.cert_checker.proofs.RunLaws.{broken_after}

-- ---- the last certificate with number 0

pub from_none : from_last_first [] ≡ []
unfolding from_last_first
from_none = refl

from_push : (xs : List Cert) (c : Cert) → (c.commit ≡ 0 → ⊥) → from_last_first (xs ++ c ∷ []) ≡ from_last_first xs ++ c ∷ []
from_push [] c ne = from_here c [] refl ∙ ap (λ (l : List Cert). l ++ c ∷ []) (sym from_none)
from_push (x ∷ xs) c ne = from_more x xs c ne

pushed : (certs : List Cert) (i : ℕ) (c : Cert) → i < length certs → c ≡ get_or certs i c → take (i + 1) certs ≡ take i certs ++ c ∷ []
pushed certs i c inside is = take_more certs i c inside ∙ ap (λ (x : Cert). take i certs ++ x ∷ []) (sym is)

pub starts_here : (certs : List Cert) (i : ℕ) (c : Cert) → i < length certs → c ≡ get_or certs i c → c.commit ≡ 0 → from_last_first (take (i + 1) certs) ≡ drop i (take (i + 1) certs)
starts_here certs i c inside is zero' =
    subst (λ (l : List Cert). from_last_first l ≡ drop i l) (sym (pushed certs i c inside is))
    (from_first (take i certs) c zero' ∙ sym (drop_at (take i certs) (c ∷ []) i (length-take-le i certs (omega arith))))

pub starts_before : (certs : List Cert) (i start : ℕ) (c : Cert) → i < length certs → c ≡ get_or certs i c → (c.commit ≡ 0 → ⊥) → start ≤ i → from_last_first (take i certs) ≡ drop start (take i certs)
    → from_last_first (take (i + 1) certs) ≡ drop start (take (i + 1) certs)
starts_before certs i start c inside is other low before =
    let long = length-take-le i certs (omega arith) in
    subst (λ (l : List Cert). from_last_first l ≡ drop start l) (sym (pushed certs i c inside is))
    (from_push (take i certs) c other ∙ ap (λ (l : List Cert). l ++ c ∷ []) before ∙ sym (drop-append-le start (take i certs) (c ∷ []) (omega arith)))

-- ---- of neighbours with the same number the last, and not the one after the root record's

pub picks_none : (n : ℕ) → picks n [] ≡ []
unfolding last_of_each without_last
picks_none n = refl

picks_skip : (x y : Cert) (ys : List Cert) (n : ℕ) → y.commit ≡ x.commit → picks n (x ∷ y ∷ ys) ≡ picks n (y ∷ ys)
picks_skip x y ys n same = ap (without_last (n + 1)) (last_skips x y ys (eq-eqb y.commit x.commit same))

picks_keep : (x y : Cert) (ys : List Cert) (n : ℕ) → (y.commit ≡ x.commit → ⊥) → picks n (x ∷ y ∷ ys) ≡ x ∷ picks n (y ∷ ys)
picks_keep x y ys n other =
    let some = each_some y ys in
    ap (without_last (n + 1)) (last_keeps x y ys (ne_eqb y.commit x.commit other))
    ∙ without_skips (n + 1) x some.0 some.1 (last_of_each (y ∷ ys)) some.2

picks_off : (x : Cert) (n : ℕ) → x.commit ≡ n + 1 → picks n (x ∷ []) ≡ []
unfolding last_of_each without_last
picks_off x n same = rw (eq-eqb x.commit (n + 1) same) refl

picks_end : (x : Cert) (n : ℕ) → (x.commit ≡ n + 1 → ⊥) → picks n (x ∷ []) ≡ x ∷ []
unfolding last_of_each without_last
picks_end x n other = rw (ne_eqb x.commit (n + 1) other) refl

pub there_is : {X : Type 0} (xs : List X) (i : ℕ) → i < length xs → (x : X) × (slice_get xs i ≡ Some x)
there_is [] i inside = absurd (omega arith)
there_is (x ∷ xs) zero inside = (x, refl)
there_is (x ∷ xs) (suc i) inside = there_is xs i (omega arith)

dropped : (certs : List Cert) (i : ℕ) (c : Cert) → slice_get certs i ≡ Some c → drop i certs ≡ c ∷ drop (i + 1) certs
dropped certs i c at =
    drop_more certs i c (slice_get_within certs i c at) ∙ ap (λ (x : Cert). x ∷ drop (i + 1) certs) (get_or_from_slice_get certs i c c at)

if_true : (b : Bool) (x y : List Cert) → b ≡ true → (if b then x else y) ≡ x
if_true b x y is = rw is refl

if_false : (b : Bool) (x y : List Cert) → b ≡ false → (if b then x else y) ≡ y
if_false b x y is = rw is refl

-- the item that was read is the one at that place
read : (certs : List Cert) (i : ℕ) (c x : Cert) → slice_get certs i ≡ Some c → x ≡ get_or certs i x → x ≡ c
read certs i c x at is = is ∙ get_or_from_slice_get certs i c x at

pub stays_inside : (certs : List Cert) (i n commit next : ℕ) (x y c : Cert) → i + 1 < length certs → x ≡ get_or certs i x → commit ≡ x.commit → y ≡ get_or certs (i + 1) y → next ≡ y.commit → slice_get certs i ≡ Some c
    → picks n (drop i certs) ≡ (if not (eqb next commit) then c ∷ picks n (drop (i + 1) certs) else picks n (drop (i + 1) certs))
stays_inside certs i n commit next x y c inside is number is' number' at =
    let d = there_is certs (i + 1) inside in
    let mine : commit ≡ c.commit = number ∙ ap (λ (z : Cert). z.commit) (read certs i c x at is) in
    let its : next ≡ d.0.commit = number' ∙ ap (λ (z : Cert). z.commit) (read certs (i + 1) d.0 y d.1 is') in
    let rest : drop (i + 1) certs ≡ d.0 ∷ drop (i + 1 + 1) certs = dropped certs (i + 1) d.0 d.1 in
    let list : drop i certs ≡ c ∷ d.0 ∷ drop (i + 1 + 1) certs = dropped certs i c at ∙ ap (λ (l : List Cert). c ∷ l) rest in
    ap (picks n) list ∙ elim (cases_eq next commit) [
      | inl same ↦ picks_skip c d.0 (drop (i + 1 + 1) certs) n (sym its ∙ same ∙ mine) ∙ ap (picks n) (sym rest)
          ∙ sym (if_false (not (eqb next commit)) (c ∷ picks n (drop (i + 1) certs)) (picks n (drop (i + 1) certs)) (ap not (eq-eqb next commit same)))
      | inr other ↦ picks_keep c d.0 (drop (i + 1 + 1) certs) n (λ same. other (its ∙ same ∙ sym mine)) ∙ ap (λ (l : List Cert). c ∷ picks n l) (sym rest)
          ∙ sym (if_true (not (eqb next commit)) (c ∷ picks n (drop (i + 1) certs)) (picks n (drop (i + 1) certs)) (ap not (ne_eqb next commit other)))
    ]

module _ (certs : List Cert) (i n commit : ℕ) (x c : Cert) (last : length certs ≤ i + 1) (is : x ≡ get_or certs i x) (number : commit ≡ x.commit) (at : slice_get certs i ≡ Some c) where
  mine : commit ≡ c.commit
  mine = number ∙ ap (λ (z : Cert). z.commit) (read certs i c x at is)

  rest : drop (i + 1) certs ≡ []
  rest = drop_all (i + 1) certs last

  alone : drop i certs ≡ c ∷ []
  alone = dropped certs i c at ∙ ap (λ (l : List Cert). c ∷ l) rest

  kept : (c.commit ≡ n + 1 → ⊥) → picks n (drop i certs) ≡ c ∷ picks n (drop (i + 1) certs)
  kept other = ap (picks n) alone ∙ picks_end c n other ∙ ap (λ (l : List Cert). c ∷ l) (sym (picks_none n) ∙ ap (picks n) (sym rest))

  pub stays_first : commit ≡ 0 → picks n (drop i certs) ≡ (if eqb commit 0 then c ∷ picks n (drop (i + 1) certs) else picks n (drop (i + 1) certs))
  stays_first first =
      let e = mine in
      kept (λ same. absurd (omega arith)) ∙ sym (if_true (eqb commit 0) (c ∷ picks n (drop (i + 1) certs)) (picks n (drop (i + 1) certs)) (eq-eqb commit 0 first))

  pub stays_last : (commit ≡ 0 → ⊥) → picks n (drop i certs) ≡ (if not (eqb (commit - 1) n) then c ∷ picks n (drop (i + 1) certs) else picks n (drop (i + 1) certs))
  stays_last later =
      let e = mine in
      elim (cases_eq (commit - 1) n) [
        | inl same ↦ ap (picks n) alone ∙ picks_off c n (omega arith) ∙ sym (picks_none n) ∙ ap (picks n) (sym rest)
            ∙ sym (if_false (not (eqb (commit - 1) n)) (c ∷ picks n (drop (i + 1) certs)) (picks n (drop (i + 1) certs)) (ap not (eq-eqb (commit - 1) n same)))
        | inr other ↦ kept (λ same. other (omega arith))
            ∙ sym (if_true (not (eqb (commit - 1) n)) (c ∷ picks n (drop (i + 1) certs)) (picks n (drop (i + 1) certs)) (ap not (ne_eqb (commit - 1) n other)))
      ]

-- ---- the run of a ledger

pub went_nowhere : (run : Run) (done before left : List Cert) → IsAfter run done → before ≡ left → WentOn run done before left
went_nowhere run done before left is same = record { more = []; after = subst (λ (cs : List Cert). IsAfter run cs) (sym (append-nil done)) is; rest = same }

pub went_on : (run : Run) (done before left : List Cert) (cert : Cert) (result : Result (Unit {0}) CheckRefusal) → before ≡ cert ∷ left
    → Settles (IsAfter run (done ++ cert ∷ [])) (Breaks (live_after done) (last_or None done) cert) result
    → Settles (WentOn run done before left) (FirstBroken (live_after done) (last_or None done) before) result
went_on run done before left cert (Ok x) same after = record { more = cert ∷ []; after = after; rest = same }
went_on run done before left cert (Err (Rule number value)) same breaks = subst (λ (cs : List Cert). FirstBroken (live_after done) (last_or None done) cs number value) (sym same) (inl breaks)
went_on run done before left cert (Err Memory) same none = tt

-- a certificate that stays is one of those that are left
pub there_are : (cert : Cert) (left here : List Cert) → here ≡ cert ∷ left → here ≢ []
there_are cert left here is = λ none. absurd (let no : cert ∷ left ≡ [] = sym is ∙ none in cc)

-- and of the chain
some_then : (done rest chain : List Cert) → done ++ rest ≡ chain → rest ≢ [] → chain ≢ []
some_then [] rest chain same some = λ none. some (same ∙ none)
some_then (cert ∷ done) rest chain same some = λ none. absurd (let no : cert ∷ (done ++ rest) ≡ [] = same ∙ none in cc)

pub refused_at : (W : Type 0) (run : Run) (done rest chain : List Cert) (e : CheckRefusal) → IsAfter run done → done ++ rest ≡ chain → rest ≢ []
    → Settles {A = Unit {0}} W (FirstBroken (live_after done) (last_or None done) rest) (Err e) → RunsAll chain (Err e)
refused_at W run done left chain (Rule number value) is same some broken = subst (λ (cs : List Cert). FirstBroken nothing None cs number value) same (broken_after nothing None done left number value is.keeps broken)
refused_at W run done left chain Memory is same some none = some_then done left chain same some

pub went_all : (run : Run) (done chain : List Cert) (certs : List Cert) (i n : ℕ) → length certs ≤ i → IsAfter run done → done ++ picks n (drop i certs) ≡ chain → IsAfter run chain
went_all run done chain certs i n most is same =
    subst (λ (cs : List Cert). IsAfter run cs)
    (sym (append-nil done) ∙ ap (λ (l : List Cert). done ++ l) (sym (picks_none n) ∙ ap (picks n) (sym (drop_all i certs most))) ∙ same) is
