-- What is kept, and what isn't.
use Rattle.std.proofs.Common.{◌≡◌, inl, inr, ◌||◌, ◌==◌, ◌<◌, ◌+◌, if◌then◌else◌, Bool, true, false, ℕ, Option, None, Some, is_some, List, [], ◌∷◌, ◌++◌, ◌≤◌, length, get_or, refl, sym, ap, subst, ◌∙◌, arith}
use Rattle.std.specs.Prelude.{option_map, slice_index, slice_get}
use Rattle.std.proofs.lemmas.Bool.{false≢true, cases_eq, eq-eqb, ne_eqb}
use Rattle.std.proofs.lemmas.Option.{none-some, same_Some, slice_get_within, slice_get_read}
use Rattle.key_graph.specs.Trace.{Has, entry_in}
use Rattle.sdbt_base.specs.Traces.{TraceEntry}
use Rattle.cert_checker.specs.declared.held.Held.{Held}
use Rattle.cert_checker.specs.declared.held.Placed.{Placed}
use Rattle.std.specs.Ordering.{nat_cmp}
use Rattle.std.specs.BTreeMap.{BTreeMap, get, is_at, Updates}
use Rattle.cert_checker.specs.Rules.{or_else}
use Rattle.cert_checker.specs.Held.{trace_of_held, live_of, children_held, traced_all}
use Rattle.cert_checker.specs.Looks.{FirstAmong, FirstOf, IsFit, FirstUnfit}

pub missing : (o : Option Held) → is_some o ≡ false → option_map trace_of_held o ≡ None
missing None is = refl
missing (Some held) is = absurd (false≢true (sym is))

pub present : (o : Option Held) → is_some o ≡ true → option_map trace_of_held o ≡ None → ⊥
present None is none = absurd (false≢true is)
present (Some held) is none = none-some (trace_of_held held) (sym none)

some_held : (o : Option Held) → is_some o ≡ true → (t : TraceEntry) × (option_map trace_of_held o ≡ Some t)
some_held None is = absurd (false≢true is)
some_held (Some held) is = (trace_of_held held, refl)

pub held_has : (m : BTreeMap ℕ Held) (a : ℕ) → is_some (get nat_cmp m a) ≡ true → Has (live_of m) a
held_has m a is = let h = some_held (get nat_cmp m a) is in record { trace = h.0; is = h.1 }

-- ---- added nodes

pub unfit_node : (live : BTreeMap ℕ Held) (parents : BTreeMap ℕ ℕ) (addrs gone : List ℕ) (i : ℕ) (item : Placed) (xs : List ℕ) (answer : Option ℕ) → xs ≡ children_held item.held → FirstOf (λ k. IsFit live parents addrs gone item.addr (slice_index xs k) → ⊥) (length xs) (slice_index xs) answer → FirstUnfit live parents addrs gone i item answer
unfit_node live parents addrs gone i item xs answer same first =
    subst (λ (ys : List ℕ). FirstOf (λ k. IsFit live parents addrs gone item.addr (slice_index ys k) → ⊥) (length ys) (slice_index ys) answer) same first

pub answered_none : (P : Option ℕ → Type 0) (answer : Option ℕ) → is_some answer ≡ false → P answer → P None
answered_none P None is p = p
answered_none P (Some v) is p = absurd (false≢true (sym is))

-- ---- one address taken out, or put in

or_true : (b : Bool) → (b || true) ≡ true
or_true true = refl
or_true false = refl

or_false : (b : Bool) → (b || false) ≡ b
or_false true = refl
or_false false = refl

pub apart_key : (k q : ℕ) → (k ≡ q → ⊥) → is_at (nat_cmp k) q ≡ false
apart_key k q ne = grind arith

entry_more : (ys : List Placed) (item : Placed) (q : ℕ) → entry_in (traced_all (ys ++ item ∷ [])) q ≡ or_else (entry_in (traced_all ys) q) (if item.addr == q then Some (trace_of_held item.held) else None)
entry_more [] item q = refl
entry_more (y ∷ ys) item q = elim (cases_eq y.addr q) [
  | inl same ↦ rw (eq-eqb y.addr q same) refl
  | inr other ↦ rw (ne_eqb y.addr q other) (entry_more ys item q)
]

or_else_assoc : (a b c : Option TraceEntry) → or_else a (or_else b c) ≡ or_else (or_else a b) c
or_else_assoc None b c = refl
or_else_assoc (Some t) b c = refl

inserted_here : (item : Placed) (q : ℕ) (live new : Option TraceEntry) → (item.addr ≡ q → new ≡ Some (trace_of_held item.held)) → ((item.addr ≡ q → ⊥) → new ≡ live) → new ≡ or_else (if item.addr == q then Some (trace_of_held item.held) else None) live
inserted_here item q live new at apart = elim (cases_eq item.addr q) [
  | inl same ↦ rw (eq-eqb item.addr q same) (at same)
  | inr other ↦ rw (ne_eqb item.addr q other) (apart other)
]

pub inserted : (xs ys : List Placed) (item : Placed) (q : ℕ) (old new : BTreeMap ℕ Held) → xs ≡ ys ++ item ∷ [] → Updates nat_cmp old new item.addr (Some item.held) → or_else (entry_in (traced_all ys) q) (live_of new q) ≡ or_else (entry_in (traced_all xs) q) (live_of old q)
inserted xs ys item q old new is u =
    let at : item.addr ≡ q → live_of new q ≡ Some (trace_of_held item.held) = λ same. ap (option_map trace_of_held) (subst (λ (x : ℕ). get nat_cmp new x ≡ Some item.held) same u.1) in
    let apart : (item.addr ≡ q → ⊥) → live_of new q ≡ live_of old q = λ ne. ap (option_map trace_of_held) (u.2 q (apart_key item.addr q ne)) in
    ap (or_else (entry_in (traced_all ys) q)) (inserted_here item q (live_of old q) (live_of new q) at apart)
    ∙ or_else_assoc (entry_in (traced_all ys) q) (if item.addr == q then Some (trace_of_held item.held) else None) (live_of old q)
    ∙ ap (λ (o : Option TraceEntry). or_else o (live_of old q)) (sym (entry_more ys item q))
    ∙ ap (λ (l : List Placed). or_else (entry_in (traced_all l) q) (live_of old q)) (sym is)

-- ---- items at their places

pub items_here : (items : List Placed) (i : ℕ) (item : Placed) → i < length items → item ≡ get_or items i item → slice_get items i ≡ Some item
items_here items i item inside is = slice_get_read items (length items) i item refl inside is

pub items_within : (items : List Placed) (i : ℕ) (item : Placed) (n : ℕ) → slice_get items i ≡ Some item → length items ≤ n → i < n
items_within items i item n at most = let inside = slice_get_within items i item at in omega arith

pub items_more : (P : ℕ → Placed → Type 0) (items : List Placed) (i : ℕ) (item : Placed) → i < length items → item ≡ get_or items i item
    → ((j : ℕ) (other : Placed) → j < i → slice_get items j ≡ Some other → P j other) → P i item
    → (j : ℕ) (other : Placed) → j < i + 1 → slice_get items j ≡ Some other → P j other
items_more P items i item inside is before here j other low at = elim (cases_eq j i) [
  | inl same ↦
      (let one : item ≡ other = same_Some item other (sym (items_here items i item inside is) ∙ ap (slice_get items) (sym same) ∙ at) in
      subst (λ (k : ℕ). P k other) (sym same) (subst (λ (x : Placed). P i x) one here))
  | inr apart ↦ before j other (omega arith) at
]

pub found_some : (Answers : ℕ → Placed → Option ℕ → Type 0) (items : List Placed) (i : ℕ) (item : Placed) (answer : Option ℕ) → is_some answer ≡ true → slice_get items i ≡ Some item → Answers i item answer
    → ((j : ℕ) (other : Placed) → j < i → slice_get items j ≡ Some other → Answers j other None) → FirstAmong Answers items answer
found_some Answers items i item None is at here before = absurd (false≢true is)
found_some Answers items i item (Some v) is at here before = (i, item, at, here, before)
