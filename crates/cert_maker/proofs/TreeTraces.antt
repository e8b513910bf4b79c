-- What the places of a tree say of their addresses, by counting: each address stands as often among the places as it is the root
-- or a child.
use Rattle.std.proofs.Common.{◌≡◌, ◌≢◌, inl, inr, ℕ, zero, suc, ◌+◌, ◌<◌, ◌≤◌, cond, List, [], ◌∷◌, ◌++◌, map, length, get_or, refl, sym, ap, subst, ◌∙◌, arith}
use Rattle.std.specs.Prelude.{Some, All, AllPairs, Contains, ◌==◌}
use Rattle.std.proofs.lemmas.Bool.{cases_eq, eq-eqb, ne_eqb}
use Rattle.std.proofs.lemmas.Option.{none-some, same_Some}
use Rattle.std.proofs.lemmas.List.Elements.{All-nil, All-cons, All-head, All-tail, All-weaker, All-append, All-map, All-contains}
use Rattle.std.proofs.lemmas.List.Kept.{AllPairs-cons}
use Rattle.node_codec.specs.declared.body.Entry.{Entry}
use Rattle.root_codec.specs.declared.root.Root.{Root}
use Rattle.page_store.specs.declared.wants.Want.{Want}
use Rattle.page_store.specs.Places.{root_want, child_want}
use Rattle.key_graph.specs.Trace.{Has, IsChild, IsTraceTree}
use Rattle.sdbt_base.specs.Traces.{TraceEntry, DataOf, NodeOver}
use Rattle.page_store.specs.Tree.{Place, Parts, joined, bound_of, EachChild, Subtree, Tree}
use Rattle.cert_maker.specs.Trace.{entries_of}

-- ---- counts

abbrev one : ℕ → ℕ → ℕ
one x a = cond (x == a) 1 0

one_same : (x a : ℕ) → x ≡ a → one x a ≡ 1
one_same x a is = rw (eq-eqb x a is) refl

one_other : (x a : ℕ) → (x ≡ a → ⊥) → one x a ≡ 0
one_other x a ne = rw (ne_eqb x a ne) refl

count : List ℕ → ℕ → ℕ
count [] a = 0
count (x ∷ xs) a = one x a + count xs a

children_of : TraceEntry → List ℕ
children_of (DataOf block) = []
children_of (NodeOver children) = children

-- how often an address is a child of a place, and how often it is a place
kids : List Place → ℕ → ℕ
kids [] a = 0
kids (p ∷ ps) a = count (children_of p.trace) a + kids ps a

spots : List Place → ℕ → ℕ
spots [] a = 0
spots (p ∷ ps) a = one p.addr a + spots ps a

kids-append : (ps qs : List Place) (a : ℕ) → kids (ps ++ qs) a ≡ kids ps a + kids qs a
unfolding kids
kids-append [] qs a = omega arith
kids-append (p ∷ ps) qs a = let rest = kids-append ps qs a in omega arith

spots-append : (ps qs : List Place) (a : ℕ) → spots (ps ++ qs) a ≡ spots ps a + spots qs a
unfolding spots
spots-append [] qs a = omega arith
spots-append (p ∷ ps) qs a = let rest = spots-append ps qs a in omega arith

-- ---- the balance of a tree

IsBalanced : ℕ → List Place → Type 0
IsBalanced root ps = (a : ℕ) → one root a + kids ps a ≡ spots ps a

each_balanced : (Below : Want → List ℕ → Parts → Type 0) (order level high : ℕ) (entries : List Entry) (children : List Parts) → ((want : Want) (key : List ℕ) (parts : Parts) → Below want key parts → IsBalanced want.addr parts.places) → EachChild Below order level high entries children → (a : ℕ) → count (map (λ e. e.addr) entries) a + kids (joined children).places a ≡ spots (joined children).places a
unfolding count kids spots IsBalanced
each_balanced Below order level high [] [] balanced each a = omega arith
each_balanced Below order level high [] (parts ∷ children) balanced each a = absurd each
each_balanced Below order level high (entry ∷ entries) [] balanced each a = absurd each
each_balanced Below order level high (entry ∷ entries) (parts ∷ children) balanced each a =
    let first = balanced (child_want order level entry (bound_of entries high)) entry.key parts each.0 a in
    let rest = each_balanced Below order level high entries children balanced each.1 a in
    let k = kids-append parts.places (joined children).places a in
    let s = spots-append parts.places (joined children).places a in
    omega arith

balanced : (pages : List (List ℕ)) (order level : ℕ) (want : Want) (key : List ℕ) (parts : Parts) → Subtree pages order level want key parts → IsBalanced want.addr parts.places
unfolding Subtree count kids spots IsBalanced children_of
balanced pages order zero want key parts is = subst (λ (p : Parts). IsBalanced want.addr p.places) (sym is.has) (λ a. omega arith)
balanced pages order (suc level) want key parts is =
    subst (λ (p : Parts). IsBalanced want.addr p.places) (sym is.has)
    (λ a. let rest = each_balanced (Subtree pages order level) order level want.high is.entries is.children (balanced pages order level) is.each a in
    omega arith)

-- ---- addresses fall on the way down

abbrev IsUnder : ℕ → Place → Type 0
IsUnder most p = (p.addr ≤ most) × All (λ c. c < p.addr) (children_of p.trace)

each_under : (Below : Want → List ℕ → Parts → Type 0) (order level high most : ℕ) (entries : List Entry) (children : List Parts) → ((want : Want) (key : List ℕ) (parts : Parts) → Below want key parts → All (IsUnder want.addr) parts.places) → All (λ e. e.addr < most) entries → EachChild Below order level high entries children → All (IsUnder most) (joined children).places
each_under Below order level high most [] [] under small each = All-nil (IsUnder most)
each_under Below order level high most [] (parts ∷ children) under small each = absurd each
each_under Below order level high most (entry ∷ entries) [] under small each = absurd each
each_under Below order level high most (entry ∷ entries) (parts ∷ children) under small each =
    let low : entry.addr < most = All-head (λ (e : Entry). e.addr < most) entry entries small in
    All-append (IsUnder most) parts.places (joined children).places
    (All-weaker (IsUnder entry.addr) (IsUnder most) (λ p u. (omega (arith, u.0), u.1)) parts.places (under (child_want order level entry (bound_of entries high)) entry.key parts each.0))
    (each_under Below order level high most entries children under (All-tail (λ (e : Entry). e.addr < most) entry entries small) each.1)

under : (pages : List (List ℕ)) (order level : ℕ) (want : Want) (key : List ℕ) (parts : Parts) → Subtree pages order level want key parts → All (IsUnder want.addr) parts.places
unfolding Subtree children_of
under pages order zero want key parts is =
    let here : Place = record { addr = want.addr; key = key; trace = DataOf want.low } in
    subst (λ (p : Parts). All (IsUnder want.addr) p.places) (sym is.has) (All-cons (IsUnder want.addr) here [] (omega arith, All-nil (λ (c : ℕ). c < want.addr)) (All-nil (IsUnder want.addr)))
under pages order (suc level) want key parts is =
    let here : Place = record { addr = want.addr; key = key; trace = NodeOver (map (λ (e : Entry). e.addr) is.entries) } in
    let small : All (λ (e : Entry). e.addr < want.addr) is.entries = is.fits.0.in_range.0.below in
    subst (λ (p : Parts). All (IsUnder want.addr) p.places) (sym is.has)
    (All-cons (IsUnder want.addr) here (joined is.children).places
    (omega arith, All-map (λ (c : ℕ). c < want.addr) (λ (e : Entry). e.addr) is.entries small)
    (each_under (Subtree pages order level) order level want.high want.addr is.entries is.children (under pages order level) small is.each))

-- ---- look-ups

looked_here : (p : Place) (ps : List Place) (a : ℕ) → p.addr ≡ a → entries_of (p ∷ ps) a ≡ Some p.trace
looked_here p ps a is = rw (eq-eqb p.addr a is) refl

looked_later : (p : Place) (ps : List Place) (a : ℕ) → (p.addr ≡ a → ⊥) → entries_of (p ∷ ps) a ≡ entries_of ps a
looked_later p ps a ne = rw (ne_eqb p.addr a ne) refl

all_at : (Q : ℕ → TraceEntry → Type 0) (ps : List Place) (a : ℕ) (t : TraceEntry) → All (λ p. Q p.addr p.trace) ps → entries_of ps a ≡ Some t → Q a t
all_at Q [] a t all is = absurd (none-some t is)
all_at Q (p ∷ ps) a t all is = elim (cases_eq p.addr a) [
  | inl same ↦
      (let trace : p.trace ≡ t = same_Some p.trace t (sym (looked_here p ps a same) ∙ is) in
      subst (λ (x : ℕ). Q x t) same (subst (λ (u : TraceEntry). Q p.addr u) trace (All-head (λ (q : Place). Q q.addr q.trace) p ps all)))
  | inr other ↦ all_at Q ps a t (All-tail (λ (q : Place). Q q.addr q.trace) p ps all) (sym (looked_later p ps a other) ∙ is)
]

spot_has : (ps : List Place) (a : ℕ) → 1 ≤ spots ps a → Has (entries_of ps) a
unfolding spots
spot_has [] a some = absurd (omega arith)
spot_has (p ∷ ps) a some = elim (cases_eq p.addr a) [
  | inl same ↦ record { trace = p.trace; is = looked_here p ps a same }
  | inr other ↦
      (let none = one_other p.addr a other in
      let rest = spot_has ps a (omega arith) in
      record { trace = rest.trace; is = looked_later p ps a other ∙ rest.is })
]

has_spot : (ps : List Place) (a : ℕ) → Has (entries_of ps) a → 1 ≤ spots ps a
unfolding spots
has_spot [] a has = absurd (none-some has.trace has.is)
has_spot (p ∷ ps) a has = elim (cases_eq p.addr a) [
  | inl same ↦ (let here = one_same p.addr a same in omega arith)
  | inr other ↦ (let rest = has_spot ps a (record { trace = has.trace; is = sym (looked_later p ps a other) ∙ has.is }) in omega arith)
]

-- a place's children are counted
counted : (ps : List Place) (p : ℕ) (t : TraceEntry) (c : ℕ) → entries_of ps p ≡ Some t → count (children_of t) c ≤ kids ps c
unfolding kids
counted [] p t c is = absurd (none-some t is)
counted (r ∷ rs) p t c is = elim (cases_eq r.addr p) [
  | inl same ↦
      (let trace : r.trace ≡ t = same_Some r.trace t (sym (looked_here r rs p same) ∙ is) in
      let here : count (children_of r.trace) c ≡ count (children_of t) c = ap (λ (u : TraceEntry). count (children_of u) c) trace in
      omega arith)
  | inr other ↦ (let rest = counted rs p t c (sym (looked_later r rs p other) ∙ is) in omega arith)
]

-- the children of two places are both counted
counted_both : (ps : List Place) (p q : ℕ) (t u : TraceEntry) (c : ℕ) → (p ≡ q → ⊥) → entries_of ps p ≡ Some t → entries_of ps q ≡ Some u → count (children_of t) c + count (children_of u) c ≤ kids ps c
unfolding kids
counted_both [] p q t u c ne is is' = absurd (none-some t is)
counted_both (r ∷ rs) p q t u c ne is is' = elim (cases_eq r.addr p) [
  | inl same ↦
      (let trace : r.trace ≡ t = same_Some r.trace t (sym (looked_here r rs p same) ∙ is) in
      let here : count (children_of r.trace) c ≡ count (children_of t) c = ap (λ (u : TraceEntry). count (children_of u) c) trace in
      let rest = counted rs q u c (sym (looked_later r rs q (λ other. ne (sym same ∙ other))) ∙ is') in
      omega arith)
  | inr other ↦ elim (cases_eq r.addr q) [
    | inl same ↦
        (let trace : r.trace ≡ u = same_Some r.trace u (sym (looked_here r rs q same) ∙ is') in
        let here : count (children_of r.trace) c ≡ count (children_of u) c = ap (λ (u : TraceEntry). count (children_of u) c) trace in
        let rest = counted rs p t c (sym (looked_later r rs p other) ∙ is) in
        omega arith)
    | inr other' ↦
        (let rest = counted_both rs p q t u c ne (sym (looked_later r rs p other) ∙ is) (sym (looked_later r rs q other') ∙ is') in
        omega arith)
  ]
]

contains_count : (xs : List ℕ) (k a : ℕ) → k < length xs → get_or xs k a ≡ a → 1 ≤ count xs a
unfolding count
contains_count [] k a inside same = absurd (omega arith)
contains_count (x ∷ xs) zero a inside same = let here = one_same x a same in omega arith
contains_count (x ∷ xs) (suc k) a inside same = let rest = contains_count xs k a (omega arith) same in omega arith

count_contains : (xs : List ℕ) (a : ℕ) → 1 ≤ count xs a → Contains xs a
unfolding count
count_contains [] a some = absurd (omega arith)
count_contains (x ∷ xs) a some = elim (cases_eq x a) [
  | inl same ↦ (0, omega arith, same)
  | inr other ↦
      (let none = one_other x a other in
      let rest = count_contains xs a (omega arith) in
      (suc rest.0, omega arith, rest.2))
]

is_node : (t : TraceEntry) (a : ℕ) → 1 ≤ count (children_of t) a → (children : List ℕ) × (t ≡ NodeOver children) × Contains children a
unfolding count children_of
is_node (DataOf block) a some = absurd (omega arith)
is_node (NodeOver children) a some = (children, refl, count_contains children a some)

abbrev IsApart : List Place → Type 0
IsApart ps = (a : ℕ) → spots ps a ≤ 1

-- a child has a parent
kid_child : (ps : List Place) (a : ℕ) → IsApart ps → 1 ≤ kids ps a → (p : ℕ) × IsChild (entries_of ps) p a
unfolding kids spots
kid_child [] a apart some = absurd (omega arith)
kid_child (q ∷ qs) a apart some = elim (cases_eq (count (children_of q.trace) a) 0) [
  | inl none ↦
      (let rest = kid_child qs a (λ x. omega (arith, apart x)) (omega arith) in
      let there = has_spot qs rest.0 (record { trace = NodeOver rest.1.children; is = rest.1.node }) in
      let most = apart rest.0 in
      let later = looked_later q qs rest.0 (λ same. let here = one_same q.addr rest.0 same in absurd (omega arith)) in
      (rest.0, record { children = rest.1.children; node = later ∙ rest.1.node; inside = rest.1.inside }))
  | inr some_here ↦
      (let node = is_node q.trace a (omega arith) in
      (q.addr, record { children = node.0; node = looked_here q qs q.addr refl ∙ ap (λ (t : TraceEntry). Some t) node.1; inside = node.2 }))
]

-- ---- no two alike

none_spots : (ps : List Place) (a : ℕ) → All (λ q. a ≢ q.addr) ps → spots ps a ≡ 0
unfolding spots
none_spots [] a all = refl
none_spots (p ∷ ps) a all =
    let here = one_other p.addr a (λ same. All-head (λ (q : Place). a ≢ q.addr) p ps all (sym same)) in
    let rest = none_spots ps a (All-tail (λ (q : Place). a ≢ q.addr) p ps all) in
    omega arith

apart_spots : (ps : List Place) → AllPairs (λ p q. p.addr ≢ q.addr) ps → IsApart ps
unfolding spots
apart_spots [] pairs a = omega arith
apart_spots (p ∷ ps) pairs a = elim (cases_eq p.addr a) [
  | inl same ↦
      (let here = one_same p.addr a same in
      let others : All (λ (q : Place). a ≢ q.addr) ps = λ k d inside at. pairs 0 (suc k) d (omega arith) (omega arith) (same ∙ at) in
      let none = none_spots ps a others in
      omega arith)
  | inr other ↦
      (let here = one_other p.addr a other in
      let rest = apart_spots ps (λ i j d below inside. pairs (suc i) (suc j) d (omega arith) (omega arith)) a in
      omega arith)
]

not_counted : (xs : List ℕ) (a : ℕ) → count xs a ≡ 0 → All (λ y. a ≢ y) xs
unfolding count
not_counted [] a none = All-nil (λ (y : ℕ). a ≢ y)
not_counted (x ∷ xs) a none =
    All-cons (λ (y : ℕ). a ≢ y) x xs (λ same. let here = one_same x a (sym same) in absurd (omega arith)) (not_counted xs a (omega arith))

all_apart : (xs : List ℕ) → ((a : ℕ) → count xs a ≤ 1) → AllPairs (λ a b. a ≢ b) xs
unfolding count
all_apart [] most = λ i j d below inside. absurd (omega arith)
all_apart (x ∷ xs) most =
    let here = one_same x x refl in
    let first = most x in
    AllPairs-cons (λ (a b : ℕ). a ≢ b) x xs (not_counted xs x (omega arith)) (all_apart xs (λ a. omega (arith, most a)))

-- ---- the whole

module _ (ps : List Place) (root : ℕ) (b : IsBalanced root ps) (apart : IsApart ps) (low : All (IsUnder root) ps) where
  few : (a : ℕ) → kids ps a ≤ 1
  unfolding IsBalanced
  few a = let e = b a in let m = apart a in omega arith

  child_kid : (p c : ℕ) → IsChild (entries_of ps) p c → 1 ≤ kids ps c
  unfolding children_of
  child_kid p c child =
      let here = contains_count child.children child.inside.0 c child.inside.1 child.inside.2 in
      let there = counted ps p (NodeOver child.children) c child.node in
      omega arith

  whole : IsTraceTree (entries_of ps) root
  unfolding IsBalanced children_of
  whole = record {
    rooted = spot_has ps root (let e = b root in let here = one_same root root refl in omega arith);
    highest = λ a has. (all_at (λ (x : ℕ) (t : TraceEntry). (x ≤ root) × All (λ c. c < x) (children_of t)) ps a has.trace low has.is).0;
    closed = λ p c child. spot_has ps c (let e = b c in let k = child_kid p c child in omega arith);
    below = λ p c child.
        All-contains (λ (x : ℕ). x < p) child.children c (all_at (λ (x : ℕ) (t : TraceEntry). (x ≤ root) × All (λ c. c < x) (children_of t)) ps p (NodeOver child.children) low child.node).1 child.inside;
    parent = λ a has other. kid_child ps a apart (let e = b a in let s = has_spot ps a has in let none = one_other root a (λ same. other (sym same)) in omega arith);
    one_parent = λ p q c child other. elim (cases_eq p q) [
      | inl same ↦ same
      | inr ne ↦
          (let most = few c in
          let two = counted_both ps p q (NodeOver child.children) (NodeOver other.children) c ne child.node other.node in
          let here = contains_count child.children child.inside.0 c child.inside.1 child.inside.2 in
          let there = contains_count other.children other.inside.0 c other.inside.1 other.inside.2 in
          absurd (omega arith))
    ];
    once = λ a children node. all_apart children (λ c. let most = few c in let k = counted ps a (NodeOver children) c node in omega arith);
  }

pub trees_are_traces : (pages : List (List ℕ)) (root : Root) (parts : Parts) → Tree pages root parts → AllPairs (λ p q. p.addr ≢ q.addr) parts.places → IsTraceTree (entries_of parts.places) root.addr
trees_are_traces pages root parts tree apart =
    whole parts.places root.addr
    (balanced pages root.order root.level (root_want root) root.key parts tree)
    (apart_spots parts.places apart)
    (under pages root.order root.level (root_want root) root.key parts tree)
