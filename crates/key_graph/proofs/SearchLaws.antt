-- The search for what a trace reaches: each step keeps what is found reached, and at the end nothing is left out.
use Rattle.std.proofs.Common.{◌≡◌, inl, inr, ◌==◌, ◌||◌, ◌<◌, ◌≤◌, ◌+◌, ◌↔◌, not, true, false, Bool, ℕ, Option, None, Some, List, [], ◌∷◌, ◌++◌, take, length, get_or, refl, sym, ap, subst, ◌∙◌, arith, append-nil, append_assoc, length-append, below_more}
use Rattle.std.specs.Prelude.{All, AllPairs, Contains}
use Rattle.std.specs.List.{list_any}
use Rattle.std.specs.List.Sorted.{IsStrictlySortedBy}
use Rattle.std.specs.Cmp.{nat_cmp_total, nat_eq_equiv}
use Rattle.std.specs.Ordering.{nat_cmp}
use Rattle.std.specs.BTreeMap.{is_at}
use Rattle.std.specs.BTreeSet.{BTreeSet, contains, Updates}
use Rattle.std.proofs.lemmas.Bool.{cases_eq, eq-eqb, ne_eqb}
use Rattle.std.proofs.lemmas.List.{take_more, get_or_default}
use Rattle.std.proofs.Math.ListN.{get_or-append}
use Rattle.std.proofs.lemmas.List.Kept.{AllPairs-from_increasing}
use Rattle.std.proofs.lemmas.List.Folds.{list_any-append}
use Rattle.std.proofs.lemmas.List.Elements.{All-nil, All-cons, All-weaker, All-append, All-contains, All-get_or, Contains-push, Contains-append_left, Contains-append_right, All-contains_itself}
use Rattle.std.proofs.lemmas.Map.Keys.{IsStrictlyIncreasing-from_sorted}
use Rattle.std.proofs.lemmas.Map.Lookups.{exact_unsigned}
use Rattle.std.proofs.lemmas.Map.Views.{btree_set_contains_iff, list_any-from_Contains, Contains-from_any, exact_unsigned_eq}
use Rattle.key_graph.specs.Trace.{Entries, IsChild, Leads, TraceReached}
use Rattle.sdbt_base.specs.Traces.{TraceEntry, DataOf, NodeOver}
use Rattle.key_graph.specs.Search.{children_of, IsSetOf, Gains}
use Rattle.key_graph.proofs.TraceLaws.{apart_key}

-- ---- the set beside the queue

or_true : (b : Bool) → (b || true) ≡ true
or_true true = refl
or_true false = refl

or_false : (b : Bool) → (b || false) ≡ b
or_false true = refl
or_false false = refl

pub set_more : (old new : BTreeSet ℕ) (xs : List ℕ) (x : ℕ) → IsSetOf old xs → Updates nat_cmp old new x true → IsSetOf new (xs ++ x ∷ [])
set_more old new xs x is updates q = elim (cases_eq x q) [
  | inl same ↦ subst (λ (y : ℕ). contains nat_cmp new y ≡ true) same updates.1
      ∙ sym (list_any-append (λ (a : ℕ). q == a) xs (x ∷ []) ∙ rw (eq-eqb q x (sym same)) (or_true (list_any (λ (a : ℕ). q == a) xs)))
  | inr other ↦ updates.2 q (apart_key q x (λ e. other (sym e))) ∙ is q
      ∙ sym (list_any-append (λ (a : ℕ). q == a) xs (x ∷ []) ∙ rw (ne_eqb q x (λ e. other (sym e))) (or_false (list_any (λ (a : ℕ). q == a) xs)))
]

pub set_same : (old new : BTreeSet ℕ) (xs : List ℕ) → new.keys ≡ old.keys → IsSetOf old xs → IsSetOf new xs
set_same old new xs same is q = ap (λ (ks : List ℕ). list_any (is_at (nat_cmp q)) ks) same ∙ is q

pub set_one : (old new : BTreeSet ℕ) (x : ℕ) → old.keys ≡ [] → Updates nat_cmp old new x true → IsSetOf new (x ∷ [])
set_one old new x empty updates = set_more old new [] x (λ q. ap (λ (ks : List ℕ). list_any (is_at (nat_cmp q)) ks) empty) updates

pub set_has : (set : BTreeSet ℕ) (xs : List ℕ) (x : ℕ) → IsSetOf set xs → contains nat_cmp set x ≡ true → Contains xs x
set_has set xs x is has = Contains-from_any exact_unsigned_eq x xs (sym (is x) ∙ has)

pub keys_are : (set : BTreeSet ℕ) (xs : List ℕ) → IsSetOf set xs → (x : ℕ) → Contains set.keys x ↔ Contains xs x
keys_are set xs is x =
    let iff = btree_set_contains_iff nat_cmp_total exact_unsigned set x in
    (λ has. set_has set xs x is (iff.1 has), λ has. iff.0 (is x ∙ list_any-from_Contains nat_eq_equiv x xs has))

pub was_there : (there added : Bool) → added ≡ not there → added ≡ false → there ≡ true
was_there true added is old = refl
was_there false added is old = sym old ∙ is

-- ---- what a queue gains

pub gains_none : (q : List ℕ) → Gains q q []
gains_none q = record { more = []; gained = sym (append-nil q); some = All-nil (Contains []); each = All-nil (Contains q) }

pub gains_new : (q : List ℕ) (x : ℕ) → Gains q (q ++ x ∷ []) (x ∷ [])
gains_new q x = record {
  more = x ∷ [];
  gained = refl;
  some = All-contains_itself (x ∷ []);
  each = All-cons (Contains (q ++ x ∷ [])) x [] (Contains-push q x) (All-nil (Contains (q ++ x ∷ [])));
}

pub gains_old : (q : List ℕ) (x : ℕ) → Contains q x → Gains q q (x ∷ [])
gains_old q x has = record { more = []; gained = sym (append-nil q); some = All-nil (Contains (x ∷ [])); each = All-cons (Contains q) x [] has (All-nil (Contains q)) }

still_has : (old new more : List ℕ) (x : ℕ) → new ≡ old ++ more → Contains old x → Contains new x
still_has old new more x is has = subst (λ (l : List ℕ). Contains l x) (sym is) (Contains-append_left old more x has)

pub gains_then : (a b c xs ys : List ℕ) → Gains a b xs → Gains b c ys → Gains a c (xs ++ ys)
gains_then a b c xs ys one other = record {
  more = one.more ++ other.more;
  gained = other.gained ∙ ap (λ (l : List ℕ). l ++ other.more) one.gained ∙ append_assoc a one.more other.more;
  some = All-append (Contains (xs ++ ys)) one.more other.more
      (All-weaker (Contains xs) (Contains (xs ++ ys)) (Contains-append_left xs ys) one.more one.some)
      (All-weaker (Contains ys) (Contains (xs ++ ys)) (Contains-append_right xs ys) other.more other.some);
  each = All-append (Contains c) xs ys (All-weaker (Contains b) (Contains c) (λ x. still_has b c other.more x other.gained) xs one.each) other.each;
}

pub gains_more : (a b c xs : List ℕ) (i : ℕ) (x : ℕ) → i < length xs → x ≡ get_or xs i 0 → Gains a b (take i xs) → Gains b c (x ∷ []) → Gains a c (take (i + 1) xs)
gains_more a b c xs i x within is one other =
    subst (λ (l : List ℕ). Gains a c l) (ap (λ (y : ℕ). take i xs ++ y ∷ []) is ∙ sym (take_more xs i 0 within)) (gains_then a b c (take i xs) (x ∷ []) one other)

-- ---- the search

pub record IsSearched (entries : Entries) (root : ℕ) (queue : List ℕ) (next : ℕ) : Type 0 where
  pub within : next ≤ length queue
  pub rooted : Contains queue root
  pub reached : All (TraceReached entries root) queue
  pub closed : (i : ℕ) → i < next → All (Contains queue) (children_of (entries (get_or queue i 0)))

leads_more : (entries : Entries) (from : ℕ) (path : List ℕ) (to next : ℕ) → Leads entries from path to → IsChild entries to next → Leads entries from (path ++ next ∷ []) next
leads_more entries from [] to next is child = (subst (λ (a : ℕ). IsChild entries a next) (sym is) child, refl)
leads_more entries from (step ∷ path) to next leads child = (leads.0, leads_more entries step path to next leads.1 child)

child_said : (entries : Entries) (addr child : ℕ) (said : Option TraceEntry) → entries addr ≡ said → Contains (children_of said) child → IsChild entries addr child
child_said entries addr child None is has = absurd (omega (arith, has.1))
child_said entries addr child (Some (DataOf block)) is has = absurd (omega (arith, has.1))
child_said entries addr child (Some (NodeOver children)) is has = record { children = children; node = is; inside = has }

reached_more : (entries : Entries) (root addr child : ℕ) → TraceReached entries root addr → Contains (children_of (entries addr)) child → TraceReached entries root child
reached_more entries root addr child reached has =
    record { path = reached.path ++ child ∷ []; leads = leads_more entries root reached.path addr child reached.leads (child_said entries addr child (entries addr) refl has) }

pub searched_root : (entries : Entries) (root : ℕ) → IsSearched entries root (root ∷ []) 0
searched_root entries root = record {
  within = omega arith;
  rooted = (0, omega arith, refl);
  reached = All-cons (TraceReached entries root) root [] (record { path = []; leads = refl }) (All-nil (TraceReached entries root));
  closed = λ i below. absurd (omega arith);
}

pub searched_more : (entries : Entries) (root : ℕ) (queue new : List ℕ) (next : ℕ) → IsSearched entries root queue next → next < length queue
    → Gains queue new (children_of (entries (get_or queue next 0))) → IsSearched entries root new (next + 1)
searched_more entries root queue new next is within gains =
    let here = get_or queue next 0 in
    let long : length new ≡ length queue + length gains.more = ap length gains.gained ∙ length-append queue gains.more in
    let same : (i : ℕ) → i < length queue → get_or new i 0 ≡ get_or queue i 0 = λ i below. ap (λ (l : List ℕ). get_or l i 0) gains.gained ∙ get_or-append queue gains.more 0 i below in
    let at : (i : ℕ) → i < length queue → All (Contains new) (children_of (entries (get_or queue i 0))) → All (Contains new) (children_of (entries (get_or new i 0))) =
    λ i below all. subst (λ (a : ℕ). All (Contains new) (children_of (entries a))) (sym (same i below)) all in
    record {
      within = omega (arith, long);
      rooted = still_has queue new gains.more root gains.gained is.rooted;
      reached = subst (λ (l : List ℕ). All (TraceReached entries root) l) (sym gains.gained)
          (All-append (TraceReached entries root) queue gains.more is.reached
          (All-weaker (Contains (children_of (entries here))) (TraceReached entries root)
          (λ child has. reached_more entries root here child (All-get_or (TraceReached entries root) queue next 0 within is.reached) has) gains.more gains.some));
      closed = below_more _ next
          (λ i below. at i (omega arith) (All-weaker (Contains queue) (Contains new) (λ a. still_has queue new gains.more a gains.gained) (children_of (entries (get_or queue i 0))) (is.closed i below)))
          (at next within gains.each);
    }

led_to : (entries : Entries) (root : ℕ) (queue : List ℕ) (next : ℕ) → IsSearched entries root queue next → length queue ≤ next
    → (from : ℕ) (path : List ℕ) (to : ℕ) → Contains queue from → Leads entries from path to → Contains queue to
led_to entries root queue next is all from [] to has leads = subst (λ (a : ℕ). Contains queue a) leads has
led_to entries root queue next is all from (step ∷ path) to has leads =
    let closed : All (Contains queue) (children_of (entries from)) = subst (λ (a : ℕ). All (Contains queue) (children_of (entries a))) (get_or_default queue has.0 0 from has.1 ∙ has.2) (is.closed has.0 (omega (arith, has.1))) in
    let inside : Contains (children_of (entries from)) step = subst (λ (said : Option TraceEntry). Contains (children_of said) step) (sym leads.0.node) leads.0.inside in
    led_to entries root queue next is all step path to (All-contains (Contains queue) (children_of (entries from)) step closed inside) leads.1

pub searched_all : (entries : Entries) (root : ℕ) (queue : List ℕ) (next : ℕ) → IsSearched entries root queue next → length queue ≤ next
    → (addr : ℕ) → Contains queue addr ↔ TraceReached entries root addr
searched_all entries root queue next is all addr = (
  λ has. All-contains (TraceReached entries root) queue addr is.reached has,
  λ reached. led_to entries root queue next is all root reached.path addr is.rooted reached.leads,
)

pub found_all : (entries : Entries) (root : ℕ) (set : BTreeSet ℕ) (queue : List ℕ) (next : ℕ) → IsSetOf set queue → IsSearched entries root queue next → length queue ≤ next
    → (addr : ℕ) → Contains set.keys addr ↔ TraceReached entries root addr
found_all entries root set queue next of is all addr =
    let keys = keys_are set queue of addr in
    let reached = searched_all entries root queue next is all addr in
    (λ has. reached.0 (keys.0 has), λ is. keys.1 (reached.1 is))

pub keys_ascend : (keys : List ℕ) → IsStrictlySortedBy nat_cmp keys → AllPairs (λ one next. one < next) keys
keys_ascend keys sorted = AllPairs-from_increasing keys (IsStrictlyIncreasing-from_sorted keys sorted)
