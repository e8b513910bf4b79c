-- The taken addresses are the children of the added nodes.
use Rattle.std.proofs.Common.{◌≡◌, inl, inr, ℕ, zero, suc, ◌==◌, Bool, true, false, Option, None, Some, List, [], ◌∷◌, refl, sym, ap, ◌∙◌}
use Rattle.std.specs.Prelude.{Contains, slice_get}
use Rattle.std.specs.Ordering.{nat_cmp}
use Rattle.std.specs.BTreeSet.{BTreeSet, contains}
use Rattle.std.proofs.lemmas.Bool.{or_cases, or_left, or_right, false≢true}
use Rattle.std.proofs.lemmas.List.Folds.{list_any-append}
use Rattle.std.proofs.lemmas.Option.{none-some}
use Rattle.key_graph.specs.Trace.{entry_in}
use Rattle.sdbt_base.specs.Traces.{Traced}
use Rattle.cert_maker.specs.Cert.{Cert}
use Rattle.cert_checker.specs.Rules.{is_listed, IsTaken}
use Rattle.cert_checker.specs.Kept.{all_children, children_of}
use Rattle.cert_checker.specs.Looks.{HasTaken}
use Rattle.cert_checker.proofs.AfterLaws.{listed, listed_contains}
use Rattle.cert_checker.proofs.FirstLaws.{contains_at, is_child}
use Rattle.cert_checker.proofs.ListLaws.{Climbs, get_contained, child_at, found_child}

-- a child of an item of the list
record IsChildIn (ts : List Traced) (c : ℕ) : Type 0 where
  pub place : ℕ
  pub item : Traced
  pub here : slice_get ts place ≡ Some item
  pub child : Contains (children_of item.trace) c

pub all_of : (ts : List Traced) (i : ℕ) (t : Traced) (c : ℕ) → slice_get ts i ≡ Some t → is_listed (children_of t.trace) c ≡ true → is_listed (all_children ts) c ≡ true
all_of [] i t c at is = absurd (none-some t at)
all_of (x ∷ ts) zero t c at is =
    list_any-append (λ y. y == c) (children_of x.trace) (all_children ts)
    ∙ or_left (is_listed (children_of x.trace) c) (is_listed (all_children ts) c) (ap (λ (o : Option Traced). listed_in o c) at ∙ is)
  where
    listed_in : Option Traced → ℕ → Bool
    listed_in None c = false
    listed_in (Some t) c = is_listed (children_of t.trace) c
all_of (x ∷ ts) (suc i) t c at is =
    list_any-append (λ y. y == c) (children_of x.trace) (all_children ts)
    ∙ or_right (is_listed (children_of x.trace) c) (is_listed (all_children ts) c) (all_of ts i t c at is)

pub one_of : (ts : List Traced) (c : ℕ) → is_listed (all_children ts) c ≡ true → (i : ℕ) × (t : Traced) × (slice_get ts i ≡ Some t) × Contains (children_of t.trace) c
one_of [] c is = absurd (false≢true is)
one_of (x ∷ ts) c is = elim (or_cases (is_listed (children_of x.trace) c) (is_listed (all_children ts) c) (sym (list_any-append (λ y. y == c) (children_of x.trace) (all_children ts)) ∙ is)) [
  | inl here ↦ (0, x, refl, listed_contains (children_of x.trace) c here)
  | inr later ↦ (let rest = one_of ts c later in (suc rest.0, rest.1, rest.2, rest.3))
]

pub taken_is : (cert : Cert) (taken : BTreeSet ℕ) → Climbs cert.added → HasTaken cert.added taken → (a : ℕ) → contains nat_cmp taken a ≡ true → IsTaken cert a
taken_is cert taken asc has a is =
    let at = one_of cert.added a (sym (has a) ∙ is) in
    let k = get_contained (children_of at.1.trace) a at.3 in
    record { parent = at.1.addr; child = is_child (entry_in cert.added) at.1.addr k.0 a (child_at cert.added at.0 at.1 k.0 a asc at.2 k.1) }

pub taken_back : (cert : Cert) (taken : BTreeSet ℕ) → HasTaken cert.added taken → (a : ℕ) → IsTaken cert a → contains nat_cmp taken a ≡ true
taken_back cert taken has a is =
    let k = get_contained is.child.children a is.child.inside in
    let at = found_child cert.added is.parent k.0 a (record { children = is.child.children; node = is.child.node; at = k.1 }) in
    has a ∙ all_of cert.added at.0 at.1 a at.2 (listed (children_of at.1.trace) a (contains_at (children_of at.1.trace) k.0 a at.4))
