-- Where a tree maps anything at all, the way to a block comes to no wrong place, nor to a neighbour that is wrong.
use Rattle.std.proofs.Common.{◌≡◌, inl, inr, ℕ, zero, suc, ◌/◌, ◌<◌, ◌≤◌, ◌^◌, List, [], ◌∷◌, ◌++◌, All, refl, sym, ap, subst, ◌∙◌, arith, append_assoc}
use Rattle.std.specs.List.{AllByRecursion}
use Rattle.std.proofs.lemmas.List.Elements.{All-head, All-tail}
use Rattle.node_codec.specs.declared.body.Entry.{Entry}
use Rattle.node_codec.specs.Record.{Record, DataRecord, NodeRecord}
use Rattle.page_store.specs.declared.wants.Want.{Want}
use Rattle.page_store.specs.Places.{FitsAt, child_want}
use Rattle.page_store.specs.Tree.{Parts, Mapped, Subtree, EachChild, bound_of}
use Rattle.page_store.proofs.RecordLaws.{one_record}
use Rattle.btree_twigs.specs.declared.twigs.Child.{Child, Child-F, out-Child}
use Rattle.btree_twigs.specs.declared.twigs.Child.TheOpen.{Kept, Grown}
use Rattle.btree_twigs.specs.declared.twigs.Twig.{Twig}
use Rattle.btree_twigs.specs.Stubs.{Stub, start_by, low_of, children_of, stubs, stubs_in, stubs_below}
use Rattle.btree_twigs.specs.Updates.{stubs_under}
use Rattle.btree_twigs.proofs.ListLaws.{stubs_append}
use Rattle.btree_update.specs.GroveTree.{Maps, MapsIn, MapsFrom, want_of, want_at}
use Rattle.btree_update.specs.Held.{stub_at, Bound, AreBelow}
use Rattle.btree_update.specs.Wrong.{IsWrongAt, IsWrongBeside, IsWrongEntry, IsWrongIn, IsWrongChild, entry_low, ComesToWrong, Here, Below, Beside, WrongBelow as WrongTwig, WrongChildBy, WrongOnWay, WrongFrom}
use Rattle.btree_update.proofs.Places.{maps_split, one_place}

-- ---- below a node on the medium

bound_same : (es : List Entry) (high : ℕ) → start_by entry_low es high ≡ bound_of es high
bound_same [] high = refl
bound_same (e ∷ es) high = refl

child_at : (Fitting : Want → List ℕ → Parts → Type 0) (order level high : ℕ) (front : List Entry) (e : Entry) (back : List Entry) (children : List Parts) → EachChild Fitting order level high (front ++ e ∷ back) children →
    (ps : Parts) × Fitting (child_want order level e (start_by entry_low back high)) e.key ps
child_at Fitting order level high [] e back [] each = absurd each
child_at Fitting order level high [] e back (p ∷ ps) each = (p, subst (λ n. Fitting (child_want order level e n) e.key p) (sym (bound_same back high)) each.0)
child_at Fitting order level high (x ∷ front) e back [] each = absurd each
child_at Fitting order level high (x ∷ front) e back (p ∷ ps) each = child_at Fitting order level high front e back ps each.1

subtree_fits : (pages : List (List ℕ)) (order level : ℕ) (want : Want) (key : List ℕ) (parts : Parts) → Subtree pages order level want key parts → (value : Record) × FitsAt pages want key value
unfolding Subtree
subtree_fits pages order zero want key parts is = (DataRecord want.low is.content, is.fits)
subtree_fits pages order (suc level) want key parts is = (NodeRecord (suc level) is.entries, is.fits)

never_at : (pages : List (List ℕ)) (order level addr : ℕ) (want : Want) (key : List ℕ) (parts : Parts) → Subtree pages order level want key parts → IsWrongAt pages addr want key → ⊥
never_at pages order level addr want key parts is wrong = let fits = subtree_fits pages order level want key parts is in wrong.1 fits.0 fits.1

small_at : (bound : ℕ) (front : List Entry) (e : Entry) (back : List Entry) → All (λ e. e.addr < bound) (front ++ e ∷ back) → e.addr < bound
small_at bound [] e back all = All-head (λ (e : Entry). e.addr < bound) e back all
small_at bound (x ∷ front) e back all = small_at bound front e back (All-tail (λ (e : Entry). e.addr < bound) x (front ++ e ∷ back) all)

beside_never : (pages : List (List ℕ)) (order level addr high : ℕ) (front : List Entry) (e : Entry) (back : List Entry) (children : List Parts) → EachChild (Subtree pages order level) order level high (front ++ e ∷ back) children →
    IsWrongBeside entry_low (IsWrongEntry pages order addr level) high front e back → ⊥
beside_never pages order level addr high front e (next ∷ back) children each wrong =
    let moved = subst (λ es. EachChild (Subtree pages order level) order level high es children) (sym (append_assoc front (e ∷ []) (next ∷ back))) each in
    let one = child_at (Subtree pages order level) order level high (front ++ e ∷ []) next back children moved in
    never_at pages order level addr (child_want order level next (start_by entry_low back high)) next.key one.0 one.1 wrong.1
beside_never pages order level addr high front e [] children each (others, last, is, wrong) =
    let moved = subst (λ es. EachChild (Subtree pages order level) order level high es children) (ap (λ fs. fs ++ e ∷ []) is ∙ append_assoc others (last ∷ []) (e ∷ [])) each in
    let one = child_at (Subtree pages order level) order level high others last (e ∷ []) children moved in
    never_at pages order level addr (child_want order level last e.low) last.key one.0 one.1 wrong.1

comes_never : (pages : List (List ℕ)) (order block addr level : ℕ) (want : Want) (key : List ℕ) (parts : Parts) → want.level ≡ level → want.addr < 2 ^ 64 → Subtree pages order level want key parts → ComesToWrong pages order block addr want key → ⊥
unfolding Subtree
comes_never pages order block addr zero want key parts lev small is (Here w) = w.1 _ is.fits
comes_never pages order block addr (suc level) want key parts lev small is (Here w) = w.1 _ is.fits
comes_never pages order block addr zero want key parts lev small is (Below l front e back fits one from to rest) = omega (arith, fits.1.same_level, lev)
comes_never pages order block addr zero want key parts lev small is (Beside l front e back fits from to wrong) = omega (arith, fits.1.same_level, lev)
comes_never pages order block addr (suc level) want key parts lev small is (Below l front e back fits one from to rest) =
    let value : NodeRecord (suc level) is.entries ≡ NodeRecord (suc l) (front ++ e ∷ back) = one_record pages want.addr key _ _ small is.fits.0 fits.0 in
    let same : is.entries ≡ front ++ e ∷ back = cc in
    let levels : level ≡ l = omega (arith, fits.1.same_level, lev) in
    let each = subst (λ (xs : List Entry). EachChild (Subtree pages order level) order level want.high xs is.children) same is.each in
    let child = child_at (Subtree pages order level) order level want.high front e back is.children each in
    let less = small_at want.addr front e back fits.0.in_range.0.below in
    comes_never pages order block addr level (child_want order level e (start_by entry_low back want.high)) e.key child.0 refl (omega (arith, less, small)) child.1
    (subst (λ n. ComesToWrong pages order block addr (child_want order n e (start_by entry_low back want.high)) e.key) (sym levels) rest)
comes_never pages order block addr (suc level) want key parts lev small is (Beside l front e back fits from to wrong) =
    let value : NodeRecord (suc level) is.entries ≡ NodeRecord (suc l) (front ++ e ∷ back) = one_record pages want.addr key _ _ small is.fits.0 fits.0 in
    let same : is.entries ≡ front ++ e ∷ back = cc in
    let levels : level ≡ l = omega (arith, fits.1.same_level, lev) in
    let each = subst (λ (xs : List Entry). EachChild (Subtree pages order level) order level want.high xs is.children) same is.each in
    beside_never pages order level addr want.high front e back is.children each (subst (λ n. IsWrongBeside entry_low (IsWrongEntry pages order addr n) want.high front e back) (sym levels) wrong)

-- ---- below a node in memory

-- these places have addresses that fit into a record
abbrev pub AreSmall : List Stub → Type 0
AreSmall = AllByRecursion (λ s. s.addr < 2 ^ 64)

pub are_small : (most : Bound) (ss : List Stub) → most.head ≤ 2 ^ 64 → AreBelow most ss → AreSmall ss
are_small most [] le h = tt
are_small most (s ∷ ss) le h = (omega (arith, h.0.0, le), are_small most ss le h.1)

small_left : (xs ys : List Stub) → AreSmall (xs ++ ys) → AreSmall xs
small_left [] ys h = tt
small_left (x ∷ xs) ys h = (h.0, small_left xs ys h.1)

pub small_right : (xs ys : List Stub) → AreSmall (xs ++ ys) → AreSmall ys
small_right [] ys h = h
small_right (x ∷ xs) ys h = small_right xs ys h.1

-- what a child among others maps
record MapsChild (pages : List (List ℕ)) (order level high : ℕ) (c : Child) : Type 0 where
  mapped : List Mapped
  is : Maps pages order (stubs level high c) mapped
  small : AreSmall (stubs level high c)

some_child : (pages : List (List ℕ)) (order level high : ℕ) (fs : List Child) (c : Child) (bs cs : List Child) (mapped : List Mapped) → cs ≡ fs ++ c ∷ bs → Maps pages order (stubs_under level high cs) mapped → AreSmall (stubs_under level high cs) →
    MapsChild pages order level (start_by low_of bs high) c
some_child pages order level high fs c bs cs mapped is m small =
    let end = start_by low_of bs high in
    let split : stubs_under level high cs ≡ stubs_under level (low_of c) fs ++ (stubs level end c ++ stubs_under level high bs) = ap (stubs_under level high) is ∙ stubs_append low_of (stubs level) high fs (c ∷ bs) in
    let a = maps_split pages order (stubs_under level (low_of c) fs) (stubs level end c ++ stubs_under level high bs) mapped (subst (λ ss. Maps pages order ss mapped) split m) in
    let b = maps_split pages order (stubs level end c) (stubs_under level high bs) a.right a.on_right in
    record {
      mapped = b.left;
      is = b.on_left;
      small = small_left (stubs level end c) (stubs_under level high bs) (small_right (stubs_under level (low_of c) fs) (stubs level end c ++ stubs_under level high bs) (subst AreSmall split small));
    }

child_never : (pages : List (List ℕ)) (order addr level high : ℕ) (c : Child) (mapped : List Mapped) → Maps pages order (stubs level high c) mapped → IsWrongChild pages order addr level high c → ⊥
unfolding stubs
child_never pages order addr zero high c mapped m wrong = here (out-Child c) wrong
  where
    here : (x : Child-F Child Twig) → IsWrongIn pages order addr zero high x → ⊥
    here (Kept low at key) w = omega (arith, w.0)
    here (Grown low twig) w = w
child_never pages order addr (suc level) high c mapped m wrong = here (out-Child c) m wrong
  where
    here : (x : Child-F Child Twig) → Maps pages order (stubs_in (stubs level) (suc level) high x) mapped → IsWrongIn pages order addr (suc level) high x → ⊥
    here (Kept low at key) m w =
        let one = one_place pages order (stub_at (suc level) low high at key) mapped m in
        never_at pages order (suc level) addr (want_of order (stub_at (suc level) low high at key)) key one.0 one.1 w.1
    here (Grown low twig) m w = w

near_never : (pages : List (List ℕ)) (order addr level high : ℕ) (fs : List Child) (c : Child) (bs cs : List Child) (mapped : List Mapped) → cs ≡ fs ++ c ∷ bs → Maps pages order (stubs_under level high cs) mapped → AreSmall (stubs_under level high cs) →
    IsWrongBeside low_of (IsWrongChild pages order addr level) high fs c bs → ⊥
near_never pages order addr level high fs c (next ∷ bs) cs mapped is m small wrong =
    let one = some_child pages order level high (fs ++ c ∷ []) next bs cs mapped (is ∙ sym (append_assoc fs (c ∷ []) (next ∷ bs))) m small in
    child_never pages order addr level (start_by low_of bs high) next one.mapped one.is wrong
near_never pages order addr level high fs c [] cs mapped is m small (others, last, list, wrong) =
    let one = some_child pages order level high others last (c ∷ []) cs mapped (is ∙ ap (λ xs. xs ++ c ∷ []) list ∙ append_assoc others (last ∷ []) (c ∷ [])) m small in
    child_never pages order addr level (low_of c) last one.mapped one.is wrong

twig_never : (pages : List (List ℕ)) (order block addr level high : ℕ) (twig : Twig) (mapped : List Mapped) → ((high : ℕ) (c : Child) (m : List Mapped) → AreSmall (stubs level high c) → Maps pages order (stubs level high c) m → WrongOnWay pages order block addr level high c → ⊥) →
    AreSmall (stubs_below level high twig) → Maps pages order (stubs_below level high twig) mapped → WrongTwig pages order block addr (WrongOnWay pages order block addr level) level high twig → ⊥
twig_never pages order block addr level high twig mapped rest small m w = elim w.comes [
  | inl on ↦ (let one = some_child pages order level high w.front w.child w.back (children_of twig) mapped w.is m small in rest (start_by low_of w.back high) w.child one.mapped one.small one.is on)
  | inr near ↦ near_never pages order addr level high w.front w.child w.back (children_of twig) mapped w.is m small near
]

way_never : (pages : List (List ℕ)) (order block addr level high : ℕ) (c : Child) (mapped : List Mapped) → AreSmall (stubs level high c) → Maps pages order (stubs level high c) mapped → WrongOnWay pages order block addr level high c → ⊥
unfolding stubs WrongOnWay
way_never pages order block addr zero high c mapped small m wrong = wrong
way_never pages order block addr (suc level) high c mapped small m wrong = here (out-Child c) (way_never pages order block addr level) small m wrong
  where
    here : (x : Child-F Child Twig) → ((high : ℕ) (c : Child) (m : List Mapped) → AreSmall (stubs level high c) → Maps pages order (stubs level high c) m → WrongOnWay pages order block addr level high c → ⊥) →
        AreSmall (stubs_in (stubs level) (suc level) high x) → Maps pages order (stubs_in (stubs level) (suc level) high x) mapped → WrongChildBy pages order (order / 2) block addr (WrongOnWay pages order block addr level) level high x → ⊥
    here (Kept low at key) rest small m w =
        let one = one_place pages order (stub_at (suc level) low high at key) mapped m in
        comes_never pages order block addr (suc level) (want_of order (stub_at (suc level) low high at key)) key one.0 refl small.0 one.1 w
    here (Grown low twig) rest small m w = twig_never pages order block addr level high twig mapped rest small m w

-- from a child over children of a level on, whose node has so many at least
pub from_never : (pages : List (List ℕ)) (order least block addr below high : ℕ) (c : Child) (mapped : List Mapped) → AreSmall (stubs (suc below) high c) → MapsFrom pages order least below high c mapped → WrongFrom pages order least block addr below high c → ⊥
unfolding stubs
from_never pages order least block addr below high c mapped small m wrong = here (out-Child c) small m wrong
  where
    here : (x : Child-F Child Twig) → AreSmall (stubs_in (stubs below) (suc below) high x) → MapsIn pages order least below high x mapped → WrongChildBy pages order least block addr (WrongOnWay pages order block addr below) below high x → ⊥
    here (Kept low at key) small m w = comes_never pages order block addr (suc below) (want_at order (suc below) low high at least) key m.0 refl small.0 m.1 w
    here (Grown low twig) small m w = twig_never pages order block addr below high twig mapped (way_never pages order block addr below) small m w
