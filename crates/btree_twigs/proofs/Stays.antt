-- Where the data record of the block is there already.
use Rattle.std.proofs.Common.{◌≡◌, ℕ, suc, ◌<◌, ◌≤◌, List, [], ◌∷◌, ◌++◌, inl, inr, length, take, drop, get_or, refl, sym, ap, subst, ◌∙◌, arith}
use Rattle.std.specs.Prelude.{Contains}
use Rattle.std.specs.List.{AllByRecursion}
use Rattle.std.proofs.lemmas.List.Elements.{All-from_recursion, All-contains, Contains-append_cases}
use Rattle.btree_twigs.specs.declared.twigs.Child.{Child}
use Rattle.btree_twigs.specs.Stubs.{Stub, datum, start_by, low_of, stubs}
use Rattle.btree_twigs.specs.Shape.{EachBy, IsChild}
use Rattle.btree_twigs.specs.Updates.{IsNode, stubs_under}
use Rattle.btree_twigs.specs.Search.{HasDatum}
use Rattle.btree_twigs.proofs.ListLaws.{stubs_append, each_front, each_back, tiles_by, split_here}
use Rattle.btree_twigs.proofs.Children.{tiles_child, one_datum}
use Rattle.btree_twigs.proofs.Finds.{tiles_before, tiles_after}

-- what holds of each of these places holds of the record
has_one : (P : Stub → Type 0) (block addr : ℕ) (key : List ℕ) (ss : List Stub) → AllByRecursion P ss → Contains ss (datum block addr key) → P (datum block addr key)
has_one P block addr key ss all has = All-contains P ss (datum block addr key) (All-from_recursion P ss all) has

-- places that end before a block, or begin after it, don't have its record
none_behind : (block : ℕ) (ss : List Stub) → AllByRecursion (λ s. s.high ≤ block) ss → HasDatum block ss → ⊥
none_behind block ss all has =
    let le : suc block ≤ block = has_one (λ s. s.high ≤ block) block has.0 has.1 ss all has.2 in
    omega (arith, le)

none_ahead : (block : ℕ) (ss : List Stub) → AllByRecursion (λ s. block < s.low) ss → HasDatum block ss → ⊥
none_ahead block ss all has =
    let lt : block < block = has_one (λ s. block < s.low) block has.0 has.1 ss all has.2 in
    omega (arith, lt)

-- so it is among those between them
between : (block : ℕ) (xs mid ys : List Stub) → AllByRecursion (λ s. s.high ≤ block) xs → AllByRecursion (λ s. block < s.low) ys → HasDatum block (xs ++ (mid ++ ys)) → HasDatum block mid
between block xs mid ys before after has =
    elim (Contains-append_cases xs (mid ++ ys) (datum block has.0 has.1) has.2) [
      | inl h ↦ absurd (none_behind block xs before (has.0, has.1, h))
      | inr h ↦ elim (Contains-append_cases mid ys (datum block has.0 has.1) h) [
        | inl k ↦ (has.0, has.1, k)
        | inr k ↦ absurd (none_ahead block ys after (has.0, has.1, k))
      ]
    ]

module _ (order level least most low high block : ℕ) (cs : List Child) (h : IsNode order level least most low high cs) where
  -- before all children there is none
  pub none_before_all : block < start_by low_of cs high → HasDatum block (stubs_under level high cs) → ⊥
  none_before_all lt has = none_ahead block (stubs_under level high cs)
      (tiles_after (start_by low_of cs high) high block _ (tiles_by low_of (IsChild order level) (stubs level) (λ high c. tiles_child order level high c) high cs h.each) lt) has

  -- the record is below the child on the way
  pub datum_below : (i n : ℕ) (c : Child) → suc i ≡ n → i < length cs → c ≡ get_or cs i c → low_of c ≤ block → block < start_by low_of (drop n cs) high →
      HasDatum block (stubs_under level high cs) → HasDatum block (stubs level (start_by low_of (drop n cs) high) c)
  datum_below i n c at_is lt here from to has =
      let fs = take i cs in
      let bs = drop (suc i) cs in
      let same : start_by low_of bs high ≡ start_by low_of (drop n cs) high = ap (λ m. start_by low_of (drop m cs) high) at_is in
      let split = split_here cs i c lt here in
      let each = subst (EachBy low_of (IsChild order level) high) split h.each in
      let back = each_back low_of (IsChild order level) high fs (c ∷ bs) each in
      let front = each_front low_of (IsChild order level) high fs (c ∷ bs) each in
      let one_tiles = λ (high : ℕ) (c : Child). tiles_child order level high c in
      let ts = tiles_by low_of (IsChild order level) (stubs level) one_tiles (low_of c) fs front in
      let us = tiles_by low_of (IsChild order level) (stubs level) one_tiles high bs back.2 in
      subst (λ m. HasDatum block (stubs level m c)) same
      (between block (stubs_under level (low_of c) fs) (stubs level (start_by low_of bs high) c) (stubs_under level high bs)
      (tiles_before (start_by low_of fs (low_of c)) (low_of c) block _ ts from)
      (tiles_after (start_by low_of bs high) high block _ us (omega (arith, to, same)))
      (subst (HasDatum block) (ap (stubs_under level high) split ∙ stubs_append low_of (stubs level) high fs (c ∷ bs)) has))

-- a child of a leaf that has the record is it
pub datum_low : (order high block : ℕ) (c : Child) → IsChild order 0 high c → HasDatum block (stubs 0 high c) → low_of c ≡ block
datum_low order high block c h has =
    let one = one_datum order high c h in
    sym (has_one (λ s. s.low ≡ low_of c) block has.0 has.1 (datum (low_of c) one.addr one.key ∷ []) (refl, tt)
    (subst (λ ss. Contains ss (datum block has.0 has.1)) (one.stubs_are high) has.2))

-- so in a leaf with the record the child before its place is that
pub leaf_low : (order least most low high block i n : ℕ) (cs : List Child) (c : Child) → IsNode order 0 least most low high cs → suc i ≡ n → i < length cs → c ≡ get_or cs i c → low_of c ≤ block →
    block < start_by low_of (drop n cs) high → HasDatum block (stubs_under 0 high cs) → low_of c ≡ block
leaf_low order least most low high block i n cs c h at_is lt here from to has =
    let split = split_here cs i c lt here in
    let each = each_back low_of (IsChild order 0) high (take i cs) (c ∷ drop (suc i) cs) (subst (EachBy low_of (IsChild order 0) high) split h.each) in
    datum_low order (start_by low_of (drop n cs) high) block c (subst (λ m. IsChild order 0 (start_by low_of (drop m cs) high) c) at_is each.1)
    (datum_below order 0 least most low high block cs h i n c at_is lt here from to has)
