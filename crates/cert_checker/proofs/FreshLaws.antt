-- Rule 3, from what the looks at the two lists answer.
use Rattle.std.proofs.Common.{◌≡◌, ◌⊎◌, inl, inr, ℕ, ◌+◌, ◌-◌, ◌<◌, ◌≤◌, true, false, is_some, Option, None, Some, List, length, get_or, sym, subst, arith}
use Rattle.std.specs.Prelude.{Contains, slice_get, slice_index}
use Rattle.std.proofs.lemmas.Bool.{cases_lt, false≢true}
use Rattle.std.proofs.lemmas.List.Kept.{AllPairs-from_increasing}
use Rattle.std.proofs.lemmas.Option.{slice_get-get_or, slice_get_within, get_or_from_slice_get}
use Rattle.key_graph.specs.Trace.{Has}
use Rattle.sdbt_base.specs.Traces.{Traced}
use Rattle.sdbt_base.specs.declared.lists.Unkept.{Unkept}
use Rattle.cert_maker.specs.Cert.{Cert}
use Rattle.cert_checker.specs.Rules.{added_by, IsBetween, IsFresh}
use Rattle.cert_checker.specs.First.{added_addrs, never_addrs, IsFirst, IsMisplaced, BreaksFresh}
use Rattle.cert_checker.specs.Looks.{Ascends, FirstOf, IsInPlace, IsApart}
use Rattle.cert_checker.specs.Settles.{Tells}
use Rattle.cert_checker.proofs.AfterLaws.{has_or_not, has_not}
use Rattle.cert_checker.proofs.FirstLaws.{in_added}
use Rattle.cert_checker.proofs.ListLaws.{get_contained, first_is, none_is, added_in, never_in, unmapped}

module _ (cert : Cert) (addrs : List ℕ) where
  -- an address in place isn't misplaced, and one of the two it is
  not_both : (k a : ℕ) → slice_get addrs k ≡ Some a → IsInPlace addrs cert.base cert.head k → IsMisplaced cert addrs k a → ⊥
  not_both k a at place (inl low) =
      let e = get_or_from_slice_get addrs k a 0 at in
      let e' = get_or_from_slice_get addrs (k - 1) low.former 0 low.at in
      let up : get_or addrs (k - 1) 0 < get_or addrs k 0 = place.above low.later in
      let not = low.not_above in
      omega arith
  not_both k a at place (inr out) =
      let e = get_or_from_slice_get addrs k a 0 at in
      let low : cert.base ≤ get_or addrs k 0 = place.from_base in
      let high : get_or addrs k 0 < cert.head = place.below_head in
      out (omega arith, omega arith)

  follows : (k a : ℕ) → slice_get addrs k ≡ Some a → cert.base ≤ a → a < cert.head → IsInPlace addrs cert.base cert.head k ⊎ IsMisplaced cert addrs k a
  follows k a at low high =
      let e : get_or addrs k 0 ≡ a = get_or_from_slice_get addrs k a 0 at in
      let inside = slice_get_within addrs k a at in
      elim (cases_lt 0 k) [
        | inr none ↦ inl (record { above = λ later. absurd (omega arith); from_base = omega arith; below_head = omega arith })
        | inl later ↦ elim (cases_lt (get_or addrs (k - 1) 0) a) [
          | inl up ↦ inl (record { above = λ _. omega arith; from_base = omega arith; below_head = omega arith })
          | inr not ↦ inr (inl (record { later = omega arith; former = get_or addrs (k - 1) 0; at = slice_get-get_or addrs (k - 1) 0 (omega arith); not_above = not }))
        ]
      ]

  in_place_or : (k a : ℕ) → slice_get addrs k ≡ Some a → IsInPlace addrs cert.base cert.head k ⊎ IsMisplaced cert addrs k a
  in_place_or k a at = elim (cases_lt a cert.base) [
    | inl low ↦ inr (inr (λ between. absurd (omega (arith, between.0))))
    | inr from ↦ elim (cases_lt a cert.head) [
      | inl below ↦ follows k a at from below
      | inr high ↦ inr (inr (λ between. absurd (omega (arith, between.1))))
    ]
  ]

  bad_is : (k a : ℕ) → slice_get addrs k ≡ Some a → (IsInPlace addrs cert.base cert.head k → ⊥) → IsMisplaced cert addrs k a
  bad_is k a at bad = elim (in_place_or k a at) [ inl place ↦ absurd (bad place) | inr misplaced ↦ misplaced ]

  -- where all are in place, they ascend and lie between
  module _ (fine : (k a : ℕ) → slice_get addrs k ≡ Some a → IsMisplaced cert addrs k a → ⊥) where
    place : (k a : ℕ) → slice_get addrs k ≡ Some a → IsInPlace addrs cert.base cert.head k
    place k a at = elim (in_place_or k a at) [ inl is ↦ is | inr misplaced ↦ absurd (fine k a at misplaced) ]

    ascends : Ascends addrs
    ascends = AllPairs-from_increasing addrs (λ k inside.
        let up : get_or addrs (k + 1 - 1) 0 < get_or addrs (k + 1) 0 = (place (k + 1) (get_or addrs (k + 1) 0) (slice_get-get_or addrs (k + 1) 0 inside)).above (omega arith) in
        subst (λ (j : ℕ). get_or addrs j 0 < get_or addrs (k + 1) 0) (let e : k + 1 - 1 ≡ k = omega arith in e) up)

    between : (a : ℕ) → Contains addrs a → IsBetween cert a
    between a inside =
        let at = get_contained addrs a inside in
        let here = place at.0 a at.1 in
        let e = get_or_from_slice_get addrs at.0 a 0 at.1 in
        let low : cert.base ≤ get_or addrs at.0 0 = here.from_base in
        let high : get_or addrs at.0 0 < cert.head = here.below_head in
        (omega arith, omega arith)

places_none : (cert : Cert) (addrs : List ℕ) → FirstOf (λ k. IsInPlace addrs cert.base cert.head k → ⊥) (length addrs) (slice_index addrs) None → (k a : ℕ) → slice_get addrs k ≡ Some a → IsMisplaced cert addrs k a → ⊥
places_none cert addrs none = none_is (λ k. IsInPlace addrs cert.base cert.head k → ⊥) (IsMisplaced cert addrs) addrs (λ k a at bad place. not_both cert addrs k a at place bad) none

pub places_ascend : (cert : Cert) (addrs : List ℕ) → FirstOf (λ k. IsInPlace addrs cert.base cert.head k → ⊥) (length addrs) (slice_index addrs) None → Ascends addrs
places_ascend cert addrs none = ascends cert addrs (places_none cert addrs none)

breaks_added : (cert : Cert) (addrs : List ℕ) (v : ℕ) → addrs ≡ added_addrs cert → FirstOf (λ k. IsInPlace addrs cert.base cert.head k → ⊥) (length addrs) (slice_index addrs) (Some v) → BreaksFresh cert v
breaks_added cert addrs v same first =
    inl (subst (λ (xs : List ℕ). IsFirst (IsMisplaced cert xs) xs v) same
    (first_is (λ k. IsInPlace addrs cert.base cert.head k → ⊥) (IsMisplaced cert addrs) addrs v (bad_is cert addrs) (λ k a at bad place. not_both cert addrs k a at place bad) first))

-- ---- the addresses that were never kept

abbrev IsBadNever : Cert → List ℕ → ℕ → ℕ → Type 0
IsBadNever cert never k a = IsMisplaced cert never k a ⊎ Has (added_by cert) a

module _ (cert : Cert) (addrs never : List ℕ) (same : addrs ≡ added_addrs cert) where
  in_addrs : (a : ℕ) → Has (added_by cert) a → Contains addrs a
  in_addrs a has = subst (λ (xs : List ℕ). Contains xs a) (sym same) (added_in cert.added a has)

  apart_bad : (k a : ℕ) → slice_get never k ≡ Some a → (IsApart never addrs cert.base cert.head k → ⊥) → IsBadNever cert never k a
  apart_bad k a at bad = elim (in_place_or cert never k a at) [
    | inr misplaced ↦ inl misplaced
    | inl place ↦ elim (has_or_not (added_by cert) a) [
      | inr has ↦ inr has
      | inl none ↦ absurd (bad (record {
        place = place;
        apart = λ inside. has_not (added_by cert) a
            (in_added cert.added a (subst (λ (xs : List ℕ). Contains xs a) same (subst (λ (x : ℕ). Contains addrs x) (get_or_from_slice_get never k a 0 at) inside))) none;
      }))
    ]
  ]

  bad_apart : (k a : ℕ) → slice_get never k ≡ Some a → IsBadNever cert never k a → IsApart never addrs cert.base cert.head k → ⊥
  bad_apart k a at (inl misplaced) apart = not_both cert never k a at apart.place misplaced
  bad_apart k a at (inr has) apart = apart.apart (subst (λ (x : ℕ). Contains addrs x) (sym (get_or_from_slice_get never k a 0 at)) (in_addrs a has))

  nevers_none : FirstOf (λ k. IsApart never addrs cert.base cert.head k → ⊥) (length never) (slice_index never) None → (k a : ℕ) → slice_get never k ≡ Some a → IsBadNever cert never k a → ⊥
  nevers_none none = none_is (λ k. IsApart never addrs cert.base cert.head k → ⊥) (IsBadNever cert never) never bad_apart none

breaks_never : (cert : Cert) (addrs never : List ℕ) (v : ℕ) → addrs ≡ added_addrs cert → never ≡ never_addrs cert
    → FirstOf (λ k. IsInPlace addrs cert.base cert.head k → ⊥) (length addrs) (slice_index addrs) None
    → FirstOf (λ k. IsApart never addrs cert.base cert.head k → ⊥) (length never) (slice_index never) (Some v) → BreaksFresh cert v
breaks_never cert addrs never v same same' none first = inr (
  subst (λ (xs : List ℕ). (k a : ℕ) → slice_get xs k ≡ Some a → IsMisplaced cert xs k a → ⊥) same (places_none cert addrs none),
  subst (λ (xs : List ℕ). IsFirst (IsBadNever cert xs) xs v) same'
      (first_is (λ k. IsApart never addrs cert.base cert.head k → ⊥) (IsBadNever cert never) never v (apart_bad cert addrs never same) (bad_apart cert addrs never same) first),
)

is_fresh : (cert : Cert) (addrs never : List ℕ) → addrs ≡ added_addrs cert → never ≡ never_addrs cert
    → FirstOf (λ k. IsInPlace addrs cert.base cert.head k → ⊥) (length addrs) (slice_index addrs) None
    → FirstOf (λ k. IsApart never addrs cert.base cert.head k → ⊥) (length never) (slice_index never) None → IsFresh cert
is_fresh cert addrs never same same' none none' =
    let added_fine = subst (λ (xs : List ℕ). (k a : ℕ) → slice_get xs k ≡ Some a → IsMisplaced cert xs k a → ⊥) same (places_none cert addrs none) in
    let bad_none = subst (λ (xs : List ℕ). (k a : ℕ) → slice_get xs k ≡ Some a → IsBadNever cert xs k a → ⊥) same' (nevers_none cert addrs never same none') in
    let never_fine : (k a : ℕ) → slice_get (never_addrs cert) k ≡ Some a → IsMisplaced cert (never_addrs cert) k a → ⊥ = λ k a at bad. bad_none k a at (inl bad) in
    record {
      added_ascend = unmapped (λ (t : Traced). t.addr) cert.added (ascends cert (added_addrs cert) added_fine);
      never_ascend = unmapped (λ (p : Unkept). p.addr) cert.never (ascends cert (never_addrs cert) never_fine);
      added = λ addr has. between cert (added_addrs cert) added_fine addr (added_in cert.added addr has);
      never = λ page inside. between cert (never_addrs cert) never_fine page.addr (never_in cert.never page inside);
      apart = λ page inside. elim (has_or_not (added_by cert) page.addr) [
        | inl not ↦ not
        | inr has ↦ (let at = get_contained (never_addrs cert) page.addr (never_in cert.never page inside) in absurd (bad_none at.0 page.addr at.1 (inr has)))
      ];
    }

-- ---- what the two looks tell

based : (base base' head head' : ℕ) (addrs : List ℕ) (answer : Option ℕ) → base ≡ base' → head ≡ head'
    → FirstOf (λ k. IsInPlace addrs base head k → ⊥) (length addrs) (slice_index addrs) answer
    → FirstOf (λ k. IsInPlace addrs base' head' k → ⊥) (length addrs) (slice_index addrs) answer
based base base' head head' addrs answer same same' first =
    subst (λ (b : ℕ). FirstOf (λ k. IsInPlace addrs b head' k → ⊥) (length addrs) (slice_index addrs) answer) same
    (subst (λ (h : ℕ). FirstOf (λ k. IsInPlace addrs base h k → ⊥) (length addrs) (slice_index addrs) answer) same' first)

based_apart : (base base' head head' : ℕ) (never addrs : List ℕ) (answer : Option ℕ) → base ≡ base' → head ≡ head'
    → FirstOf (λ k. IsApart never addrs base head k → ⊥) (length never) (slice_index never) answer
    → FirstOf (λ k. IsApart never addrs base' head' k → ⊥) (length never) (slice_index never) answer
based_apart base base' head head' never addrs answer same same' first =
    subst (λ (b : ℕ). FirstOf (λ k. IsApart never addrs b head' k → ⊥) (length never) (slice_index never) answer) same
    (subst (λ (h : ℕ). FirstOf (λ k. IsApart never addrs base h k → ⊥) (length never) (slice_index never) answer) same' first)

none_here : (P : Option ℕ → Type 0) (answer : Option ℕ) → is_some answer ≡ false → P answer → P None
none_here P None is p = p
none_here P (Some v) is p = absurd (false≢true (sym is))

pub added_ascend : (cert : Cert) (addrs : List ℕ) (base head : ℕ) (answer : Option ℕ) → base ≡ cert.base → head ≡ cert.head → is_some answer ≡ false
    → FirstOf (λ k. IsInPlace addrs base head k → ⊥) (length addrs) (slice_index addrs) answer → Ascends addrs
added_ascend cert addrs base head answer same same' is first =
    places_ascend cert addrs (none_here (λ (o : Option ℕ). FirstOf (λ k. IsInPlace addrs cert.base cert.head k → ⊥) (length addrs) (slice_index addrs) o) answer is (based base cert.base head cert.head addrs answer same same' first))

pub tells_added : (cert : Cert) (addrs : List ℕ) (base head : ℕ) (answer : Option ℕ) → addrs ≡ added_addrs cert → base ≡ cert.base → head ≡ cert.head → is_some answer ≡ true
    → FirstOf (λ k. IsInPlace addrs base head k → ⊥) (length addrs) (slice_index addrs) answer → Tells (IsFresh cert) (BreaksFresh cert) answer
tells_added cert addrs base head None is same same' some first = absurd (false≢true some)
tells_added cert addrs base head (Some v) is same same' some first = breaks_added cert addrs v is (based base cert.base head cert.head addrs (Some v) same same' first)

tells_fresh : (cert : Cert) (addrs never : List ℕ) (answer : Option ℕ) → addrs ≡ added_addrs cert → never ≡ never_addrs cert
    → FirstOf (λ k. IsInPlace addrs cert.base cert.head k → ⊥) (length addrs) (slice_index addrs) None
    → FirstOf (λ k. IsApart never addrs cert.base cert.head k → ⊥) (length never) (slice_index never) answer → Tells (IsFresh cert) (BreaksFresh cert) answer
tells_fresh cert addrs never None is is' none first = is_fresh cert addrs never is is' none first
tells_fresh cert addrs never (Some v) is is' none first = breaks_never cert addrs never v is is' none first

pub tells_never : (cert : Cert) (addrs addrs' never : List ℕ) (base head : ℕ) (former answer : Option ℕ) → addrs ≡ added_addrs cert → addrs' ≡ addrs → never ≡ never_addrs cert → base ≡ cert.base → head ≡ cert.head → is_some former ≡ false
    → FirstOf (λ k. IsInPlace addrs base head k → ⊥) (length addrs) (slice_index addrs) former
    → FirstOf (λ k. IsApart never addrs' base head k → ⊥) (length never) (slice_index never) answer → Tells (IsFresh cert) (BreaksFresh cert) answer
tells_never cert addrs addrs' never base head former answer is same' is' b h none first second =
    tells_fresh cert addrs never answer is is'
    (none_here (λ (o : Option ℕ). FirstOf (λ k. IsInPlace addrs cert.base cert.head k → ⊥) (length addrs) (slice_index addrs) o) former none (based base cert.base head cert.head addrs former b h first))
    (subst (λ (xs : List ℕ). FirstOf (λ k. IsApart never xs cert.base cert.head k → ⊥) (length never) (slice_index never) answer) same'
    (based_apart base cert.base head cert.head never addrs' answer b h second))
