-- What becomes of the buckets of a cache where the address of a slot changes.
use Rattle.std.specs.Prelude.{IfNone}
use Rattle.std.proofs.Common.{◌≡◌, ◌≢◌, ℕ, ◌<◌, ◌%◌, List, ◌++◌, Option, None, Some, length, take, drop, append-nil, refl, sym, ap, subst, inl, inr, ◌∙◌, arith, slice_get}
use Rattle.std.proofs.lemmas.Bool.Decides.{eqb_tells}
use Rattle.std.proofs.lemmas.List.{length-set, take_all}
use Rattle.std.proofs.Math.Seq.{drop-length}
use Rattle.std.proofs.lemmas.Option.{slice_get_within}
use Rattle.std.proofs.Math.ListN.{set}
use Rattle.node_cache.specs.declared.buckets.Bucket.{Bucket}
use Rattle.node_cache.specs.Slots.{IsUnlisted}
use Rattle.node_cache.specs.Buckets.{MayHave, Covers}
use Rattle.node_cache.proofs.SlotLaws.{set_here, set_there}

-- a slot lets its node go
pub covers_without : (buckets : List Bucket) (addrs : List (Option ℕ)) (number : ℕ) → number < length addrs → Covers buckets addrs → Covers buckets (set addrs number None)
covers_without buckets addrs number within covers slot addr listed = elim (eqb_tells slot number) [
  | inl same ↦ absurd (let none = subst (λ s. slice_get (set addrs number None) s ≡ Some None) (sym same.1) (set_here addrs number None within) in
      let no : Some (Some addr) ≡ Some None = sym listed ∙ none in cc)
  | inr other ↦ covers slot addr (sym (set_there addrs number None slot other.1) ∙ listed)
]

-- no slot has an address where none that may have it has
pub unlisted_where : (buckets : List Bucket) (addrs : List (Option ℕ)) (addr : ℕ) (bucket : Option Bucket) → slice_get buckets (addr % length buckets) ≡ bucket → ((slot : ℕ) → MayHave bucket slot → slice_get addrs slot ≢ Some (Some addr))
    → Covers buckets addrs → IsUnlisted addrs addr
unlisted_where buckets addrs addr bucket is none covers slot listed = none slot (subst (λ b. MayHave b slot) is (covers slot addr listed)) listed

pub if_none : (P Q : Type 0) (found : Option ℕ) → (P → Q) → IfNone found P → IfNone found Q
if_none P Q None f h = f h
if_none P Q (Some n) f h = h

-- a bucket is written, so that it rules out neither this slot nor one that it didn't and that has an address of it
pub covers_with : (buckets : List Bucket) (addrs : List (Option ℕ)) (number addr place : ℕ) (bucket : Bucket) → place ≡ addr % length buckets → place < length buckets → Covers buckets addrs → MayHave (Some bucket) number
    → ((slot other : ℕ) → slot ≢ number → slice_get addrs slot ≡ Some (Some other) → other % length buckets ≡ place → MayHave (slice_get buckets place) slot → MayHave (Some bucket) slot)
    → Covers (set buckets place bucket) (set addrs number (Some addr))
covers_with buckets addrs number addr place bucket place_is within covers here others slot other listed =
    let count = length-set buckets place bucket in
    let at : slice_get (set buckets place bucket) place ≡ Some bucket = set_here buckets place bucket within in
    let into : (p : ℕ) → p ≡ other % length buckets → MayHave (slice_get (set buckets place bucket) p) slot → MayHave (slice_get (set buckets place bucket) (other % length (set buckets place bucket))) slot
    = λ p is h. subst (λ q. MayHave (slice_get (set buckets place bucket) q) slot) (is ∙ ap (λ n. other % n) (sym count)) h in
    elim (eqb_tells slot number) [
      | inl same ↦
          let own = subst (λ s. slice_get (set addrs number (Some addr)) s ≡ Some (Some addr)) (sym same.1) (set_here addrs number (Some addr) (subst (λ s. s < length addrs) same.1 (let w = slice_get_within (set addrs number (Some addr)) slot (Some other) listed in let l = length-set addrs number (Some addr) in omega arith))) in
          let is : other ≡ addr = (let e : Some (Some other) ≡ Some (Some addr) = sym listed ∙ own in cc) in
          into place (place_is ∙ ap (λ a. a % length buckets) (sym is)) (subst (λ b. MayHave b slot) (sym at) (subst (MayHave (Some bucket)) (sym same.1) here))
      | inr differs ↦
          let was = sym (set_there addrs number (Some addr) slot differs.1) ∙ listed in
          let may = covers slot other was in
          elim (eqb_tells (other % length buckets) place) [
            | inl at_place ↦ into place (sym at_place.1) (subst (λ b. MayHave b slot) (sym at) (others slot other differs.1 was at_place.1 (subst (λ q. MayHave (slice_get buckets q) slot) at_place.1 may)))
            | inr beside ↦ into (other % length buckets) refl (subst (λ b. MayHave b slot) (sym (set_there buckets place bucket (other % length buckets) beside.1)) may)
          ]
    ]

-- no slot has an address yet
pub covers_blank : (buckets : List Bucket) (addrs : List (Option ℕ)) → ((slot : ℕ) → slot < length addrs → slice_get addrs slot ≡ Some None) → Covers buckets addrs
covers_blank buckets addrs blank slot addr listed =
    absurd (let none = blank slot (slice_get_within addrs slot (Some addr) listed) in let no : Some (Some addr) ≡ Some None = sym listed ∙ none in cc)

-- buckets that were written through a slice of all of them
pub refilled : (new old : List Bucket) (count : ℕ) → count ≡ length old → length new ≡ length old → take count (new ++ drop (length new) old) ≡ new
refilled new old count all same =
    ap (λ rest. take count (new ++ rest)) (ap (λ n. drop n old) same ∙ drop-length old) ∙ ap (take count) (append-nil new) ∙ take_all count new (omega (arith, all, same))
