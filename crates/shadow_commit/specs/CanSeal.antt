-- Which nodes in memory can be sealed.
use Rattle.std.specs.Prelude.{ℕ, suc, ◌+◌, ◌<◌, ◌≤◌}
use Rattle.sdbt_base.specs.Keys.{key_size, most_entries}
use Rattle.record_versions.specs.Versions.{IsVersion}
use Rattle.btree_twigs.specs.declared.twigs.Child.{Child}
use Rattle.btree_twigs.specs.declared.twigs.Twig.{Twig}
use Rattle.btree_twigs.specs.Stubs.{stubs, stubs_below, nodes, nodes_below}
use Rattle.btree_twigs.specs.Shape.{IsChild, IsTwig}
use Rattle.btree_update.specs.Held.{bound, AreBelow}

-- a node over children of some level, within the limits of records of a version, over places that are on the medium, with keys of that
-- version; and there is room for it and all nodes in memory below it
pub record CanSeal (version head capacity : ℕ) (twig : Twig) : Type 0 where
  pub order : ℕ
  pub level : ℕ
  pub least : ℕ
  pub low : ℕ
  pub high : ℕ
  pub shaped : IsTwig order level least order low high twig
  pub version_known : IsVersion version
  pub order_most : order ≤ most_entries version
  pub level_most : level < 20
  pub blocks : high ≤ 1048576
  pub below : AreBelow (bound head (key_size version)) (stubs_below level high twig)
  pub room : head + suc (nodes_below level twig) ≤ capacity

-- the same of a child
pub record CanSealChild (version head capacity : ℕ) (child : Child) : Type 0 where
  pub order : ℕ
  pub level : ℕ
  pub high : ℕ
  pub shaped : IsChild order level high child
  pub version_known : IsVersion version
  pub order_most : order ≤ most_entries version
  pub level_most : level ≤ 20
  pub blocks : high ≤ 1048576
  pub below : AreBelow (bound head (key_size version)) (stubs level high child)
  pub room : head + nodes level child ≤ capacity
