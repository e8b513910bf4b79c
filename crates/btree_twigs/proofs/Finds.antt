-- Where a search ends.
use Rattle.std.proofs.Common.{◌≡◌, ℕ, zero, suc, ◌-◌, ◌/◌, ◌<◌, ◌≤◌, List, [], ◌∷◌, ◌++◌, length, take, drop, get_or, refl, sym, ap, subst, ◌∙◌, arith, append_assoc}
use Rattle.std.specs.List.{AllByRecursion}
use Rattle.btree_twigs.specs.declared.twigs.Child.{Child, out-Child}
use Rattle.btree_twigs.specs.declared.twigs.Child.TheVariants as made
use Rattle.btree_twigs.specs.declared.twigs.Twig.{Twig}
use Rattle.btree_twigs.specs.declared.twigs.Spot.{Spot}
use Rattle.btree_twigs.specs.declared.twigs.Spot.TheVariants.{Found, Absent, Below}
use Rattle.btree_twigs.specs.Stubs.{Stub, Tiles, datum, start_by, stubs_in, low_in, low_of, stubs, stubs_below}
use Rattle.btree_twigs.specs.Shape.{EachBy, IsDatum, IsChild, IsTwig}
use Rattle.btree_twigs.specs.Updates.{IsNode, stubs_under}
use Rattle.btree_twigs.specs.Search.{IsAt, IsSpot}
use Rattle.btree_twigs.proofs.ListLaws.{stubs_append, each_front, each_back, tiles_by, split_here}
use Rattle.btree_twigs.proofs.Children.{tiles_child, low_of_kept, stubs_of_kept}
use Rattle.btree_twigs.proofs.Nodes.{stubs_of_grown}
use Rattle.btree_twigs.proofs.Ways.{child_is_twig}

pub tiles_before : (low high block : ℕ) (xs : List Stub) → Tiles low high xs → high ≤ block → AllByRecursion (λ s. s.high ≤ block) xs
tiles_before low high block [] h le = tt
tiles_before low high block (x ∷ xs) h le = (go x.high high xs h.2 le, tiles_before x.high high block xs h.2 le)
  where
    go : (low high : ℕ) (xs : List Stub) → Tiles low high xs → high ≤ block → low ≤ block
    go low high [] h le = omega (arith, h, le)
    go low high (x ∷ xs) h le = let t = go x.high high xs h.2 le in omega (arith, h.0, h.1, t)

pub tiles_after : (low high block : ℕ) (xs : List Stub) → Tiles low high xs → block < low → AllByRecursion (λ s. block < s.low) xs
tiles_after low high block [] h lt = tt
tiles_after low high block (x ∷ xs) h lt = (omega (arith, h.0, lt), tiles_after x.high high block xs h.2 (omega (arith, h.0, h.1, lt)))

all_append : (P : Stub → Type 0) (xs ys : List Stub) → AllByRecursion P xs → AllByRecursion P ys → AllByRecursion P (xs ++ ys)
all_append P [] ys h k = k
all_append P (x ∷ xs) ys h k = (h.0, all_append P xs ys h.1 k)

at_lift : (block : ℕ) (xs old bs here : List Stub) → AllByRecursion (λ s. s.high ≤ block) xs → IsAt block old here → AllByRecursion (λ s. block < s.low) bs →
    IsAt block (xs ++ (old ++ bs)) here
at_lift block xs old bs here h p k = record {
  front = xs ++ p.front;
  back = p.back ++ bs;
  all = rw (p.all, append_assoc, append_assoc, append_assoc) refl;
  before = all_append _ xs p.front h p.before;
  after = all_append _ p.back bs p.after k;
}

spot_lift : (block : ℕ) (xs old bs : List Stub) (spot : Spot) → AllByRecursion (λ s. s.high ≤ block) xs → IsSpot block old spot → AllByRecursion (λ s. block < s.low) bs →
    IsSpot block (xs ++ (old ++ bs)) spot
spot_lift block xs old bs (Found addr key) h p k = at_lift block xs old bs _ h p k
spot_lift block xs old bs Absent h p k = at_lift block xs old bs _ h p k
spot_lift block xs old bs (Below level low high addr key) h p k = (p.0, p.1, p.2, at_lift block xs old bs _ h p.3 k)

module _ (order level least most low high block : ℕ) (cs : List Child) (h : IsNode order level least most low high cs) where
  -- before all children
  pub none_before : block < start_by low_of cs high → IsAt block (stubs_under level high cs) []
  none_before lt = record {
    front = [];
    back = stubs_under level high cs;
    all = refl;
    before = tt;
    after = tiles_after (start_by low_of cs high) high block _ (tiles_by low_of (IsChild order level) (stubs level) (λ high c. tiles_child order level high c) high cs h.each) lt;
  }

  -- below the child on the way
  pub found_below : (n : ℕ) (c : Child) (spot : Spot) → 0 < n → n ≤ length cs → c ≡ get_or cs (n - 1) c → low_of c ≤ block → block < start_by low_of (drop n cs) high →
      (IsChild order level (start_by low_of (drop n cs) high) c → IsSpot block (stubs level (start_by low_of (drop n cs) high) c) spot) → IsSpot block (stubs_under level high cs) spot
  found_below n c spot one within here from to spot_is =
      let i = n - 1 in
      let at_is : suc i ≡ n = omega (arith, one) in
      let fs = take i cs in
      let bs = drop (suc i) cs in
      let same : start_by low_of (drop n cs) high ≡ start_by low_of bs high = ap (λ m. start_by low_of (drop m cs) high) (sym at_is) in
      let split = split_here cs i c (omega (arith, one, within)) here in
      let each = subst (EachBy low_of (IsChild order level) high) split h.each in
      let back = each_back low_of (IsChild order level) high fs (c ∷ bs) each in
      let front = each_front low_of (IsChild order level) high fs (c ∷ bs) each in
      let one_tiles = λ (high : ℕ) (c : Child). tiles_child order level high c in
      let ts = tiles_by low_of (IsChild order level) (stubs level) one_tiles (low_of c) fs front in
      let us = tiles_by low_of (IsChild order level) (stubs level) one_tiles high bs back.2 in
      let spot_at = subst (λ m. IsChild order level m c → IsSpot block (stubs level m c) spot) same spot_is back.1 in
      subst (λ xs. IsSpot block xs spot) (sym (ap (stubs_under level high) split ∙ stubs_append low_of (stubs level) high fs (c ∷ bs)))
      (spot_lift block (stubs_under level (low_of c) fs) (stubs level (start_by low_of bs high) c) (stubs_under level high bs) spot
      (tiles_before (start_by low_of fs (low_of c)) (low_of c) block _ ts from) spot_at
      (tiles_after (start_by low_of bs high) high block _ us (omega (arith, to, same))))

pub kept_stub : (level high low addr : ℕ) (key : List ℕ) → stubs (suc level) high (made.Kept low addr key) ≡ record { level = suc level; low = low; high = high; addr = addr; key = key } ∷ []
unfolding stubs
kept_stub level high low addr key = ap (stubs_in (stubs level) (suc level) high) (made.outs-Kept low addr key)

pub at_one : (block : ℕ) (s : Stub) → IsAt block (s ∷ []) (s ∷ [])
at_one block s = record { front = []; back = []; all = refl; before = tt; after = tt }

pub at_none : (block : ℕ) (s : Stub) → s.high ≤ block → IsAt block (s ∷ []) []
at_none block s le = record { front = s ∷ []; back = []; all = refl; before = (le, tt); after = tt }

pub no_grown_datum : (order high low : ℕ) (twig : Twig) → IsChild order 0 high (made.Grown low twig) → ⊥
unfolding IsChild
no_grown_datum order high low twig h = subst IsDatum (made.outs-Grown low twig) h

-- what is found below a node in memory is found below the child that it is
pub grown_spot : (order level high block low : ℕ) (twig : Twig) (child : Child) (spot : Spot) → child ≡ made.Grown low twig →
    ((level : ℕ) → IsTwig order level (order / 2) order low high twig → low ≤ block → block < high → IsSpot block (stubs_below level high twig) spot) →
    low_of child ≤ block → block < high → IsChild order level high child → IsSpot block (stubs level high child) spot
grown_spot order zero high block low twig child spot is rec from to h = absurd (no_grown_datum order high low twig (subst (IsChild order 0 high) is h))
grown_spot order (suc level) high block low twig child spot is rec from to h =
    let below = rec level (child_is_twig order level high low twig (subst (IsChild order (suc level) high) is h))
    (subst (λ x. low_in x ≤ block) (ap out-Child is ∙ made.outs-Grown low twig) from) to in
    subst (λ xs. IsSpot block xs spot) (sym (ap (stubs (suc level) high) is ∙ stubs_of_grown level high low twig)) below

-- a child on the medium, at a level that is not 0
pub below_spot : (level lev high block low addr : ℕ) (key : List ℕ) (child : Child) → child ≡ made.Kept low addr key → lev ≡ suc level → 1 < lev →
    low_of child ≤ block → block < high → IsSpot block (stubs level high child) (Below (lev - 1) low high addr key)
below_spot zero lev high block low addr key child is lev_is more from to = absurd (omega (arith, lev_is, more))
below_spot (suc level) lev high block low addr key child is lev_is more from to =
    let e : lev - 1 ≡ suc level = omega (arith, lev_is) in (
      omega (arith, more),
      subst (λ x. low_in x ≤ block) (ap out-Child is ∙ made.outs-Kept low addr key) from,
      to,
      subst (λ l. IsAt block (stubs (suc level) high child) (record { level = l; low = low; high = high; addr = addr; key = key } ∷ [])) (sym e)
          (subst (λ xs. IsAt block xs (record { level = suc level; low = low; high = high; addr = addr; key = key } ∷ [])) (sym (ap (stubs (suc level) high) is ∙ kept_stub level high low addr key)) (at_one block _)),
    )

-- a data record
pub datum_spot : (level lev high block low addr : ℕ) (key : List ℕ) (child : Child) → child ≡ made.Kept low addr key → lev ≡ suc level → (1 < lev → ⊥) →
    stubs level high child ≡ datum low addr key ∷ []
datum_spot zero lev high block low addr key child is lev_is more = ap (stubs 0 high) is ∙ stubs_of_kept high low addr key
datum_spot (suc level) lev high block low addr key child is lev_is more = absurd (more (omega (arith, lev_is)))

pub low_of_is : (low addr : ℕ) (key : List ℕ) (child : Child) → child ≡ made.Kept low addr key → low_of child ≡ low
low_of_is low addr key child is = ap low_of is ∙ low_of_kept low addr key
