-- What is below a child.
use Rattle.std.proofs.Common.{◌≡◌, ℕ, zero, suc, ◌<◌, ◌≤◌, List, [], ◌∷◌, refl, sym, ap, subst, arith}
use Rattle.btree_twigs.specs.declared.twigs.Child.{Child, Child-F, out-Child}
use Rattle.btree_twigs.specs.declared.twigs.Child.TheOpen.{Kept, Grown}
use Rattle.btree_twigs.specs.declared.twigs.Child.TheVariants as made
use Rattle.btree_twigs.specs.declared.twigs.Twig.{Twig}
use Rattle.btree_twigs.specs.Stubs.{Tiles, datum, start_by, stubs_in, low_in, low_of, children_of, datum_in, stubs}
use Rattle.btree_twigs.specs.Shape.{Begins, IsDatum, IsChildBy, IsChild}
use Rattle.btree_twigs.proofs.ListLaws.{tiles_by, tiles_from}

pub begins_le : (level low start : ℕ) → Begins level low start → low ≤ start
begins_le zero low start h = h
begins_le (suc level) low start h = omega (arith, h)

tiles_datum : {T : Type 0} (x : Child-F Child T) (high : ℕ) → low_in x < high → IsDatum x → Tiles (low_in x) high (datum_in x)
tiles_datum (Kept low addr key) high lt h = (omega arith, omega arith, omega (arith, lt))
tiles_datum (Grown low twig) high lt h = absurd h

-- the places below a child of each level are within its bounds
pub tiles_child : (order level high : ℕ) (c : Child) → low_of c < high → IsChild order level high c → Tiles (low_of c) high (stubs level high c)
unfolding stubs IsChild
tiles_child order zero high c lt h = tiles_datum (out-Child c) high lt h
tiles_child order (suc level) high c lt h = here (λ high c. tiles_child order level high c) (out-Child c) lt h
  where
    here : ((high : ℕ) (c : Child) → low_of c < high → IsChild order level high c → Tiles (low_of c) high (stubs level high c)) → (x : Child-F Child Twig) → low_in x < high → IsChildBy (IsChild order level) order level high x → Tiles (low_in x) high (stubs_in (stubs level) (suc level) high x)
    here below (Kept low addr key) lt h = (omega arith, lt, omega arith)
    here below (Grown low twig) lt h =
        tiles_from (start_by low_of (children_of twig) high) low high _ (begins_le level low _ h.node.begins)
        (tiles_by low_of (IsChild order level) (stubs level) below high (children_of twig) h.node.each)

pub low_of_kept : (low addr : ℕ) (key : List ℕ) → low_of (made.Kept low addr key) ≡ low
low_of_kept low addr key = ap low_in (made.outs-Kept low addr key)

pub stubs_of_kept : (high low addr : ℕ) (key : List ℕ) → stubs 0 high (made.Kept low addr key) ≡ datum low addr key ∷ []
unfolding stubs
stubs_of_kept high low addr key = ap datum_in (made.outs-Kept low addr key)

pub kept_is_datum : (order high low addr : ℕ) (key : List ℕ) → IsChild order 0 high (made.Kept low addr key)
unfolding IsChild
kept_is_datum order high low addr key = subst IsDatum (sym (made.outs-Kept low addr key)) tt

-- a child of a leaf, whatever its upper bound
pub record IsOneDatum (c : Child) : Type 0 where
  pub addr : ℕ
  pub key : List ℕ
  pub stubs_are : (high : ℕ) → stubs 0 high c ≡ datum (low_of c) addr key ∷ []
  pub any : (order high : ℕ) → IsChild order 0 high c

pub one_datum : (order high : ℕ) (c : Child) → IsChild order 0 high c → IsOneDatum c
unfolding stubs IsChild
one_datum order high c h =
    let e = here (out-Child c) h in
    record { addr = e.0; key = e.1; stubs_are = λ high. e.2; any = λ order high. h }
  where
    here : {T : Type 0} (x : Child-F Child T) → IsDatum x → (addr : ℕ) × (key : List ℕ) × (datum_in x ≡ datum (low_in x) addr key ∷ [])
    here (Kept low addr key) h = (addr, key, refl)
    here (Grown low twig) h = absurd h
