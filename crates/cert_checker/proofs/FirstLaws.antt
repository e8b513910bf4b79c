-- There is one first broken rule at most, and none where all are kept.
use Rattle.std.proofs.Common.{◌≡◌, ◌≢◌, ◌⊎◌, inl, inr, ℕ, zero, suc, ◌-◌, ◌<◌, List, [], ◌∷◌, map, refl, sym, ap, subst, ◌∙◌, arith, le_antisymm}
use Rattle.std.specs.Prelude.{Option, None, Some, Contains, AllPairs, slice_get}
use Rattle.std.proofs.lemmas.Bool.{cases_eq, cases_order, eq-eqb, ne_eqb}
use Rattle.std.proofs.lemmas.List.Elements.{All-map}
use Rattle.std.proofs.lemmas.List.Kept.{AllPairs-cons}
use Rattle.std.proofs.lemmas.Option.{same_Some, slice_get_within, get_or_from_slice_get}
use Rattle.sdbt_base.specs.declared.lists.Unkept.{Unkept}
use Rattle.key_graph.specs.Trace.{Entries, Has, IsChild, entry_in}
use Rattle.sdbt_base.specs.Traces.{TraceEntry, NodeOver, Traced}
use Rattle.root_codec.specs.declared.root.Root.{Root}
use Rattle.cert_maker.specs.Cert.{Cert}
use Rattle.cert_checker.specs.Rules.{after, added_by, IsBetween, IsFresh, WasLive, GoesFromTheTop, TakesOver, TakesOnce, HangsTogether, LeavesNone, Keeps}
use Rattle.cert_checker.specs.Chain.{EachKeeps, nothing, Accepted}
use Rattle.cert_checker.specs.First.{IsFirst, IsLeast, IsChildAt, IsFirstChild, IsNotAbove, added_addrs, never_addrs, IsMisplaced, BreaksFresh, BreaksLive, IsTorn, BreaksTop, BreaksTakeover, BreaksOnce, IsLoose, BreaksTogether, IsDropped, OrLater, Breaks, FirstBroken, First}
use Rattle.cert_checker.proofs.AfterLaws.{has_not}

-- ---- one first, one least

abbrev IsOneValue : (ℕ → Type 0) → Type 0
IsOneValue P = (v w : ℕ) → P v → P w → v ≡ w

one_item : (Bad : ℕ → ℕ → Type 0) (items : List ℕ) → IsOneValue (IsFirst Bad items)
one_item Bad items v w a b = elim (cases_order a.place b.place) [
  | inl same ↦ same_Some v w (sym a.here ∙ ap (slice_get items) same ∙ b.here)
  | inr apart ↦ elim apart [
    | inl low ↦ absurd (b.before a.place v low a.here a.bad)
    | inr high ↦ absurd (a.before b.place w high b.here b.bad)
  ]
]

one_least : (Bad : ℕ → Type 0) → IsOneValue (IsLeast Bad)
one_least Bad v w a b = le_antisymm (a.least w b.bad) (b.least v a.bad)

over : TraceEntry → List ℕ → List ℕ
over (NodeOver children) others = children
over t others = others

same_children : (xs ys : List ℕ) → Some (NodeOver xs) ≡ Some (NodeOver ys) → xs ≡ ys
same_children xs ys same = cc

same_child : (entries : Entries) (p q i j c d : ℕ) → p ≡ q → i ≡ j → IsChildAt entries p i c → IsChildAt entries q j d → c ≡ d
same_child entries p q i j c d same same' a b =
    let lists : a.children ≡ b.children = same_children a.children b.children (sym a.node ∙ ap entries same ∙ b.node) in
    same_Some c d (sym a.at ∙ (λ n. slice_get (lists n) (same' n)) ∙ b.at)

one_child : (entries : Entries) (Bad : ℕ → ℕ → ℕ → Type 0) → IsOneValue (IsFirstChild entries Bad)
one_child entries Bad v w a b = elim (cases_order a.parent b.parent) [
  | inl same ↦ elim (cases_order a.place b.place) [
    | inl same' ↦ same_child entries a.parent b.parent a.place b.place v w same same' a.here b.here
    | inr apart ↦ elim apart [
      | inl low ↦ absurd (b.before a.parent a.place v (inr (same, low)) a.here a.bad)
      | inr high ↦ absurd (a.before b.parent b.place w (inr (sym same, high)) b.here b.bad)
    ]
  ]
  | inr apart ↦ elim apart [
    | inl low ↦ absurd (b.before a.parent a.place v (inl low) a.here a.bad)
    | inr high ↦ absurd (a.before b.parent b.place w (inl high) b.here b.bad)
  ]
]

one_fresh : (cert : Cert) → IsOneValue (BreaksFresh cert)
one_fresh cert v w (inl a) (inl b) = one_item (IsMisplaced cert (added_addrs cert)) (added_addrs cert) v w a b
one_fresh cert v w (inl a) (inr b) = absurd (b.0 a.place v a.here a.bad)
one_fresh cert v w (inr a) (inl b) = absurd (a.0 b.place w b.here b.bad)
one_fresh cert v w (inr a) (inr b) = one_item (λ place addr. IsMisplaced cert (never_addrs cert) place addr ⊎ Has (added_by cert) addr) (never_addrs cert) v w a.1 b.1

one_top : (live : Entries) (former : Option Cert) (cert : Cert) → IsOneValue (BreaksTop live former cert)
one_top live None cert v w a b = one_least (IsTorn live cert) v w a b
one_top live (Some former) cert v w (inl a) (inl b) = a.0 ∙ sym b.0
one_top live (Some former) cert v w (inl a) (inr b) = absurd (a.1 b.0)
one_top live (Some former) cert v w (inr a) (inl b) = absurd (b.1 a.0)
one_top live (Some former) cert v w (inr a) (inr b) = one_least (IsTorn live cert) v w a.1 b.1

one_together : (cert : Cert) → IsOneValue (BreaksTogether cert)
one_together cert v w (inl a) (inl b) = a.0 ∙ sym b.0
one_together cert v w (inl a) (inr b) = absurd (a.1 b.0)
one_together cert v w (inr a) (inl b) = absurd (b.1 a.0)
one_together cert v w (inr a) (inr b) = one_least (IsLoose cert) v w a.1 b.1

-- ---- what is broken isn't kept

pub contains_at : (xs : List ℕ) (k x : ℕ) → slice_get xs k ≡ Some x → Contains xs x
contains_at xs k x at = (k, slice_get_within xs k x at, get_or_from_slice_get xs k x x at)

above : (xs : List ℕ) (k x : ℕ) → AllPairs (λ a b. a < b) xs → slice_get xs k ≡ Some x → IsNotAbove xs k x → ⊥
above xs k x asc at bad =
    let up = asc (k - 1) k 0 (omega (arith, bad.later)) (slice_get_within xs k x at) in
    let e = get_or_from_slice_get xs k x 0 at in
    let e' = get_or_from_slice_get xs (k - 1) bad.former 0 bad.at in
    let n = bad.not_above in
    omega arith

-- the addresses of a list that ascends by them ascend
pub mapped : {A : Type 0} (f : A → ℕ) (xs : List A) → AllPairs (λ a b. f a < f b) xs → AllPairs (λ a b. a < b) (map f xs)
mapped f [] asc = λ i j d below inside. absurd (omega arith)
mapped f (x ∷ xs) asc = AllPairs-cons (λ (a b : ℕ). a < b) (f x) (map f xs)
    (All-map (λ (b : ℕ). f x < b) f xs (λ k d inside. asc 0 (suc k) d (omega arith) (omega arith)))
    (mapped f xs (λ i j d below inside. asc (suc i) (suc j) d (omega arith) (omega arith)))

pub in_added : (ts : List Traced) (a : ℕ) → Contains (map (λ t. t.addr) ts) a → Has (entry_in ts) a
in_added [] a inside = absurd (omega (arith, inside.1))
in_added (t ∷ ts) a (zero, inside, same) = record { trace = t.trace; is = rw (eq-eqb t.addr a same) refl }
in_added (t ∷ ts) a (suc k, inside, same) = elim (cases_eq t.addr a) [
  | inl here ↦ record { trace = t.trace; is = rw (eq-eqb t.addr a here) refl }
  | inr other ↦ (let h = in_added ts a (k, omega arith, same) in record { trace = h.trace; is = rw (ne_eqb t.addr a other) h.is })
]

pub in_never : (pages : List Unkept) (a : ℕ) → Contains (map (λ p. p.addr) pages) a → (page : Unkept) × Contains pages page × (page.addr ≡ a)
in_never [] a inside = absurd (omega (arith, inside.1))
in_never (p ∷ ps) a (zero, inside, same) = (p, (0, omega arith, refl), same)
in_never (p ∷ ps) a (suc k, inside, same) = let h = in_never ps a (k, omega arith, same) in (h.0, (suc h.1.0, omega (arith, h.1.1), h.1.2), h.2)

not_fresh : (cert : Cert) (v : ℕ) → IsFresh cert → BreaksFresh cert v → ⊥
not_fresh cert v fresh (inl first) = elim first.bad [
  | inl low ↦ above (added_addrs cert) first.place v (mapped (λ (t : Traced). t.addr) cert.added fresh.added_ascend) first.here low
  | inr out ↦ out (fresh.added v (in_added cert.added v (contains_at (added_addrs cert) first.place v first.here)))
]
not_fresh cert v fresh (inr both) =
    let first = both.1 in
    let page = in_never cert.never v (contains_at (never_addrs cert) first.place v first.here) in
    elim first.bad [
      | inl misplaced ↦ elim misplaced [
        | inl low ↦ above (never_addrs cert) first.place v (mapped (λ (p : Unkept). p.addr) cert.never fresh.never_ascend) first.here low
        | inr out ↦ out (subst (λ (a : ℕ). IsBetween cert a) page.2 (fresh.never page.0 page.1))
      ]
      | inr shared ↦ has_not (added_by cert) v shared (subst (λ (a : ℕ). added_by cert a ≡ None) page.2 (fresh.apart page.0 page.1))
    ]

not_live : (live : Entries) (cert : Cert) (v : ℕ) → WasLive live cert → BreaksLive live cert v → ⊥
not_live live cert v kept first = elim first.bad [
  | inl low ↦ above cert.gone first.place v kept.gone_ascend first.here low
  | inr none ↦ has_not live v (kept.live_before v (contains_at cert.gone first.place v first.here)) none
]

not_torn : (live : Entries) (former : Option Cert) (cert : Cert) (v : ℕ) → GoesFromTheTop live former cert → IsLeast (IsTorn live cert) v → ⊥
not_torn live former cert v kept least = least.bad.stays (kept.parents least.bad.parent v least.bad.child least.bad.gone)

not_top : (live : Entries) (former : Option Cert) (cert : Cert) (v : ℕ) → GoesFromTheTop live former cert → BreaksTop live former cert v → ⊥
not_top live None cert v kept least = not_torn live None cert v kept least
not_top live (Some former) cert v kept (inl root) = root.1 kept.root
not_top live (Some former) cert v kept (inr torn) = not_torn live (Some former) cert v kept torn.1

pub is_child : (entries : Entries) (p i c : ℕ) → IsChildAt entries p i c → IsChild entries p c
is_child entries p i c at = record { children = at.children; node = at.node; inside = contains_at at.children i c at.at }

not_takeover : (live : Entries) (cert : Cert) (v : ℕ) → TakesOver live cert → BreaksTakeover live cert v → ⊥
not_takeover live cert v kept first = first.bad (kept first.parent v (is_child (added_by cert) first.parent first.place v first.here))

not_twice : (xs : List ℕ) (i j x : ℕ) → AllPairs (λ a b. a ≢ b) xs → i < j → slice_get xs i ≡ Some x → slice_get xs j ≡ Some x → ⊥
not_twice xs i j x apart low at at' =
    apart i j 0 low (slice_get_within xs j x at') (get_or_from_slice_get xs i x 0 at ∙ sym (get_or_from_slice_get xs j x 0 at'))

not_once : (cert : Cert) (v : ℕ) → TakesOnce cert → BreaksOnce cert v → ⊥
not_once cert v kept first =
    let again = first.bad in
    let same = kept.by_one again.other first.parent v (is_child (added_by cert) again.other again.other_place v again.same) (is_child (added_by cert) first.parent first.place v first.here) in
    elim again.before [
      | inl low ↦ omega arith
      | inr low ↦
          (let lists : again.same.children ≡ first.here.children = same_children again.same.children first.here.children (sym again.same.node ∙ ap (added_by cert) same ∙ first.here.node) in
          not_twice first.here.children again.other_place first.place v (kept.once first.parent first.here.children first.here.node) low.1
          (subst (λ (l : List ℕ). slice_get l again.other_place ≡ Some v) lists again.same.at) first.here.at)
    ]

not_together : (cert : Cert) (v : ℕ) → HangsTogether cert → BreaksTogether cert v → ⊥
not_together cert v kept (inl root) = root.1 kept.root
not_together cert v kept (inr loose) = loose.1.bad.loose (kept.others v loose.1.bad.added loose.1.bad.other)

not_dropped : (live : Entries) (cert : Cert) (v : ℕ) → LeavesNone live cert → IsLeast (IsDropped live cert) v → ⊥
not_dropped live cert v kept least = elim (kept least.bad.parent v least.bad.gone least.bad.child) [
  | inl gone ↦ least.bad.stays gone
  | inr taken ↦ least.bad.loose taken
]

-- ---- rule after rule

abbrev IsOneRule : (ℕ → ℕ → Type 0) → Type 0
IsOneRule P = (n m v w : ℕ) → P n v → P m w → (n ≡ m) × (v ≡ w)

one_or_later : (rule : ℕ) (Kept : Type 0) (Broken : ℕ → Type 0) (Later : ℕ → ℕ → Type 0) → ((v : ℕ) → Kept → Broken v → ⊥) → IsOneValue Broken → IsOneRule Later → IsOneRule (OrLater rule Kept Broken Later)
one_or_later rule Kept Broken Later never one later n m v w (inl a) (inl b) = (a.0 ∙ sym b.0, one v w a.1 b.1)
one_or_later rule Kept Broken Later never one later n m v w (inl a) (inr b) = absurd (never v b.0 a.1)
one_or_later rule Kept Broken Later never one later n m v w (inr a) (inl b) = absurd (never w a.0 b.1)
one_or_later rule Kept Broken Later never one later n m v w (inr a) (inr b) = later n m v w a.1 b.1

one_breaks : (live : Entries) (former : Option Cert) (cert : Cert) → IsOneRule (Breaks live former cert)
one_breaks live former cert =
    one_or_later 1 _ _ _ (λ v kept b. b.1 kept) (λ v w a b. a.0 ∙ sym b.0)
    (one_or_later 2 _ _ _ (λ v kept b. b.1 kept) (λ v w a b. a.0 ∙ sym b.0)
    (one_or_later 3 _ _ _ (not_fresh cert) (one_fresh cert)
    (one_or_later 4 _ _ _ (not_live live cert) (one_item _ cert.gone)
    (one_or_later 5 _ _ _ (not_top live former cert) (one_top live former cert)
    (one_or_later 6 _ _ _ (not_takeover live cert) (one_child (added_by cert) _)
    (one_or_later 7 _ _ _ (not_once cert) (one_child (added_by cert) _)
    (one_or_later 8 _ _ _ (not_together cert) (one_together cert)
    (one_or_later 9 _ _ _ (not_dropped live cert) (one_least _) (λ n m v w a b. absurd a)))))))))

none_or_later : (rule : ℕ) (Kept : Type 0) (Broken : ℕ → Type 0) (Later : ℕ → ℕ → Type 0) → ((v : ℕ) → Kept → Broken v → ⊥) → Kept → ((n v : ℕ) → Later n v → ⊥) → (n v : ℕ) → OrLater rule Kept Broken Later n v → ⊥
none_or_later rule Kept Broken Later never kept later n v (inl a) = never v kept a.1
none_or_later rule Kept Broken Later never kept later n v (inr a) = later n v a.1

none_breaks : (live : Entries) (former : Option Cert) (cert : Cert) → Keeps live former cert → (n v : ℕ) → Breaks live former cert n v → ⊥
none_breaks live former cert k =
    none_or_later 1 _ _ _ (λ v kept b. b.1 kept) k.rule1
    (none_or_later 2 _ _ _ (λ v kept b. b.1 kept) k.rule2
    (none_or_later 3 _ _ _ (not_fresh cert) k.rule3
    (none_or_later 4 _ _ _ (not_live live cert) k.rule4
    (none_or_later 5 _ _ _ (not_top live former cert) k.rule5
    (none_or_later 6 _ _ _ (not_takeover live cert) k.rule6
    (none_or_later 7 _ _ _ (not_once cert) k.rule7
    (none_or_later 8 _ _ _ (not_together cert) k.rule8
    (none_or_later 9 _ _ _ (not_dropped live cert) k.rule9 (λ n v b. b)))))))))

one_broken : (live : Entries) (former : Option Cert) (chain : List Cert) → IsOneRule (FirstBroken live former chain)
one_broken live former [] n m v w a b = absurd a
one_broken live former (cert ∷ others) n m v w (inl a) (inl b) = one_breaks live former cert n m v w a b
one_broken live former (cert ∷ others) n m v w (inl a) (inr b) = absurd (none_breaks live former cert b.0 n v a)
one_broken live former (cert ∷ others) n m v w (inr a) (inl b) = absurd (none_breaks live former cert a.0 m w b)
one_broken live former (cert ∷ others) n m v w (inr a) (inr b) = one_broken (after live cert) (Some cert) others n m v w a.1 b.1

none_broken : (live : Entries) (former : Option Cert) (chain : List Cert) (n v : ℕ) → EachKeeps live former chain → FirstBroken live former chain n v → ⊥
none_broken live former [] n v each broken = broken
none_broken live former (cert ∷ others) n v each (inl here) = none_breaks live former cert each.0 n v here
none_broken live former (cert ∷ others) n v each (inr later) = none_broken (after live cert) (Some cert) others n v each.1 later.1

pub one_first : (chain : List Cert) (root : Root) (rule other value other_value : ℕ) → First chain root rule value → First chain root other other_value → (rule ≡ other) × (value ≡ other_value)
one_first chain root n m v w (inl a) (inl b) = one_broken nothing None chain n m v w a b
one_first chain root n m v w (inl a) (inr b) = absurd (none_broken nothing None chain n v b.0 a)
one_first chain root n m v w (inr a) (inl b) = absurd (none_broken nothing None chain m w a.0 b)
one_first chain root n m v w (inr a) (inr b) = (a.2 ∙ sym b.2, a.3 ∙ sym b.3)

pub none_first : (chain : List Cert) (root : Root) (rule value : ℕ) → Accepted chain root → First chain root rule value → ⊥
none_first chain root n v accepted (inl broken) = none_broken nothing None chain n v accepted.each broken
none_first chain root n v accepted (inr end) = end.1 accepted.ends
