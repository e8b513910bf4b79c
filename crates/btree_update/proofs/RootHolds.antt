-- What is held for a root.
use Rattle.std.proofs.Common.{◌≡◌, ℕ, zero, suc, ◌-◌, ◌<◌, ◌≤◌, List, refl, sym, subst, arith}
use Rattle.btree_twigs.specs.declared.twigs.Child.{Child, out-Child}
use Rattle.btree_twigs.specs.declared.twigs.Child.TheVariants as made
use Rattle.btree_twigs.specs.declared.twigs.Twig.{Twig}
use Rattle.btree_twigs.specs.Top.{top_least}
use Rattle.btree_update.specs.Holding.{CanHold, CanHoldRoot, CanHoldBelow}
use Rattle.btree_update.proofs.HoldLaws.{way_grown, way_lt}
use Rattle.btree_update.proofs.RootLaws.{root_low, root_least}

two_at : (level : ℕ) → 1 ≤ level → 2 ≤ top_least level
two_at zero one = absurd (omega (arith, one))
two_at (suc level) one = omega arith

-- a root is a child on the way to each block
pub root_holds : (order least level block high head : ℕ) (top : Child) → CanHoldRoot order level block high head top → least ≡ top_least (level - 1) → CanHold order least level block high head top
root_holds order least level block high head top at is = subst (λ l. CanHold order l level block high head top) (sym is) (record {
  one = at.one;
  two = λ two. two_at (level - 1) (omega (arith, two));
  four = at.four;
  most = at.most;
  shaped = root_least order (level - 1) high (out-Child top) at.shaped;
  from = omega (arith, root_low order (level - 1) high (out-Child top) at.shaped);
  to = at.to;
  size = at.size;
  within = at.within;
})

pub root_grown : (order level block high head low : ℕ) (twig : Twig) → CanHoldRoot order level block high head (made.Grown low twig) → CanHoldBelow order (level - 1) block high head twig
root_grown order level block high head low twig at =
    way_grown order (top_least (level - 1)) level block high head low twig (root_holds order (top_least (level - 1)) level block high head (made.Grown low twig) at refl)

pub root_lt : (order level block high head low addr : ℕ) (key : List ℕ) → CanHoldRoot order level block high head (made.Kept low addr key) → addr < head
root_lt order level block high head low addr key at =
    way_lt order (top_least (level - 1)) level block high head low addr key (root_holds order (top_least (level - 1)) level block high head (made.Kept low addr key) at refl)
