-- Where a removal has all that it needs, the block's data record is below the nodes in memory.
use Rattle.std.proofs.Common.{◌≡◌, ℕ, zero, suc, ◌/◌, ◌<◌, ◌≤◌, List, [], ◌∷◌, ◌++◌, Option, map, inl, inr, refl, sym, ap, subst, ◌∙◌, arith}
use Rattle.std.specs.Prelude.{Contains}
use Rattle.std.proofs.lemmas.Bool.{cases_lt}
use Rattle.std.proofs.lemmas.List.Elements.{All-from_recursion, All-contains, Contains-append_left, Contains-append_right, Contains-append_cases}
use Rattle.btree_twigs.specs.declared.twigs.Child.{Child, Child-F, out-Child}
use Rattle.btree_twigs.specs.declared.twigs.Child.TheOpen.{Kept, Grown}
use Rattle.btree_twigs.specs.declared.twigs.Twig.{Twig}
use Rattle.btree_twigs.specs.Stubs.{Stub, datum, start_by, low_in, low_of, children_of, stubs, stubs_in, stubs_below}
use Rattle.btree_twigs.specs.Shape.{EachBy, IsChildBy, IsChild, IsTwig}
use Rattle.btree_twigs.specs.Updates.{IsOpen, stubs_under}
use Rattle.btree_twigs.specs.Search.{HasDatum}
use Rattle.btree_twigs.specs.Top.{IsTop, IsTopBy, top_least}
use Rattle.btree_twigs.proofs.ListLaws.{stubs_append, each_back}
use Rattle.btree_twigs.proofs.Children.{one_datum}
use Rattle.btree_twigs.proofs.Ways.{open_front, open_back}
use Rattle.btree_update.specs.Beside.{IsNodeHeld, HelpsBelow, HelpsFrom}

has_left : (block : ℕ) (xs ys : List Stub) → HasDatum block xs → HasDatum block (xs ++ ys)
has_left block xs ys has = (has.0, has.1, Contains-append_left xs ys (datum block has.0 has.1) has.2)

has_right : (block : ℕ) (xs ys : List Stub) → HasDatum block ys → HasDatum block (xs ++ ys)
has_right block xs ys has = (has.0, has.1, Contains-append_right xs ys (datum block has.0 has.1) has.2)

-- a child of a leaf is the record of the block at which it begins
one_low : (order high block : ℕ) (c : Child) → IsChild order 0 high c → Contains (low_of c ∷ []) block → HasDatum block (stubs 0 high c)
one_low order high block c h has =
    let one = one_datum order high c h in
    let same : block ≡ low_of c = All-contains (λ l. l ≡ low_of c) (low_of c ∷ []) block (All-from_recursion (λ l. l ≡ low_of c) (low_of c ∷ []) (refl, tt)) has in
    subst (λ b. HasDatum b (stubs 0 high c)) (sym same)
    (subst (HasDatum (low_of c)) (sym (one.stubs_are high)) (one.addr, one.key, (0, omega arith, refl)))

leaf_has : (order block high : ℕ) (cs : List Child) → EachBy low_of (IsChild order 0) high cs → Contains (map low_of cs) block → HasDatum block (stubs_under 0 high cs)
leaf_has order block high [] each has = absurd (omega (arith, has.1))
leaf_has order block high (c ∷ cs) each has =
    let end = start_by low_of cs high in
    elim (Contains-append_cases (low_of c ∷ []) (map low_of cs) block has) [
      | inl h ↦ has_left block (stubs 0 end c) (stubs_under 0 high cs) (one_low order end block c each.1 h)
      | inr h ↦ has_right block (stubs 0 end c) (stubs_under 0 high cs) (leaf_has order block high cs each.2 h)
    ]

-- the child of a node that a block's way goes to
record HasChild (block high : ℕ) (cs : List Child) : Type 0 where
  front : List Child
  child : Child
  back : List Child
  is : cs ≡ front ++ child ∷ back
  from : low_of child ≤ block
  to : block < start_by low_of back high

child_of : (block high : ℕ) (cs : List Child) → start_by low_of cs high ≤ block → block < high → HasChild block high cs
child_of block high [] from to = absurd (omega (arith, from, to))
child_of block high (c ∷ cs) from to =
    elim (cases_lt block (start_by low_of cs high)) [
      | inl lt ↦ record { front = []; child = c; back = cs; is = refl; from = from; to = lt }
      | inr le ↦ let r = child_of block high cs le to in
          record { front = c ∷ r.front; child = r.child; back = r.back; is = ap (λ xs. c ∷ xs) r.is; from = r.from; to = r.to }
    ]

-- on an open way a child is a node in memory
way_has : (Reads : ℕ → Stub → Twig → Type 0) (order block l high : ℕ) (x : Child-F Child Twig) (node : Twig) (held left : List Twig) (beside : List (Option Twig)) (loses : ℕ) →
    ((low : ℕ) (twig : Twig) → IsTwig order l (order / 2) order low high twig → low ≤ block → IsOpen block (stubs_below l high twig) → HelpsBelow Reads order block l high twig left beside loses → HasDatum block (stubs_below l high twig)) →
    IsChildBy (IsChild order l) order l high x → low_in x ≤ block → block < high → IsOpen block (stubs_in (stubs l) (suc l) high x) → IsNodeHeld x node held left → HelpsBelow Reads order block l high node left beside loses →
    HasDatum block (stubs_in (stubs l) (suc l) high x)
way_has Reads order block l high (Kept low addr key) node held left beside loses below h from to is_open is helps = let z : suc l ≡ 0 = is_open.0 from to in absurd (omega (arith, z))
way_has Reads order block l high (Grown low twig) node held left beside loses below h from to is_open is helps = below low twig h from is_open (subst (λ w. HelpsBelow Reads order block l high w left beside loses) is.0 helps)

pub below_has : (Reads : ℕ → Stub → Twig → Type 0) (order block level least low high : ℕ) (twig : Twig) (held : List Twig) (beside : List (Option Twig)) (loses : ℕ) → IsTwig order level least order low high twig → low ≤ block → block < high →
    IsOpen block (stubs_below level high twig) → HelpsBelow Reads order block level high twig held beside loses → HasDatum block (stubs_below level high twig)
unfolding HelpsBelow stubs IsChild
below_has Reads order block zero least low high twig held beside loses h from to is_open helps = leaf_has order block high (children_of twig) h.node.each helps.1
below_has Reads order block (suc l) least low high twig held beside loses h from to is_open helps =
    let w = child_of block high (children_of twig) (omega (arith, h.node.begins, from)) to in
    let end = start_by low_of w.back high in
    let o = helps w.front w.back w.child w.is w.from w.to in
    let each = each_back low_of (IsChild order (suc l)) high w.front (w.child ∷ w.back) (subst (EachBy low_of (IsChild order (suc l)) high) w.is h.node.each) in
    let split = ap (stubs_under (suc l) high) w.is ∙ stubs_append low_of (stubs (suc l)) high w.front (w.child ∷ w.back) in
    let opened = open_front block _ _ (open_back block (stubs_under (suc l) (low_of w.child) w.front) _ (subst (IsOpen block) split is_open)) in
    let one : HasDatum block (stubs (suc l) end w.child) = way_has Reads order block l end (out-Child w.child) o.node held o.left o.helps.rest o.helps.fewer
    (λ low twig shaped le opened helps. below_has Reads order block l (order / 2) low end twig o.left o.helps.rest o.helps.fewer shaped le w.to opened helps)
    each.1 w.from w.to opened o.is_node o.helps.lower in
    subst (HasDatum block) (sym split)
    (has_right block (stubs_under (suc l) (low_of w.child) w.front) _ (has_left block (stubs (suc l) end w.child) (stubs_under (suc l) high w.back) one))

root_has_by : (Reads : ℕ → Stub → Twig → Type 0) (order block below high : ℕ) (x : Child-F Child Twig) (node : Twig) (held left : List Twig) (beside : List (Option Twig)) (loses : ℕ) → IsTopBy order below high x → block < high → IsOpen block (stubs_in (stubs below) (suc below) high x) →
    IsNodeHeld x node held left → HelpsBelow Reads order block below high node left beside loses → HasDatum block (stubs_in (stubs below) (suc below) high x)
root_has_by Reads order block below high (Kept low addr key) node held left beside loses h to is_open is helps = absurd h
root_has_by Reads order block below high (Grown low twig) node held left beside loses h to is_open is helps =
    below_has Reads order block below (top_least below) 0 high twig left beside loses h.1 (omega arith) to is_open (subst (λ w. HelpsBelow Reads order block below high w left beside loses) is.0 helps)

-- below a root in memory
pub root_has : (Reads : ℕ → Stub → Twig → Type 0) (order block below high : ℕ) (top : Child) (held : List Twig) (beside : List (Option Twig)) (loses : ℕ) → IsTop order below high top → block < high → IsOpen block (stubs (suc below) high top) →
    HelpsFrom Reads order block below high top held beside loses → HasDatum block (stubs (suc below) high top)
unfolding stubs
root_has Reads order block below high top held beside loses h to is_open helps = root_has_by Reads order block below high (out-Child top) helps.node held helps.left beside loses h to is_open helps.is_node helps.helps
