-- What an upgrade has ready before it draws a key.
use Rattle.std.specs.Prelude.{◌≡◌, ◌≤◌, ◌+◌, ℕ, List, vec_capacity}
use Rattle.root_codec.specs.declared.root.Root.{Root}
use Rattle.tree_build.specs.Shape.{built, shape_of}
use Rattle.device_core.specs.Upgrading.{order_above}
use Rattle.device_core.specs.UpgradeCalls.{IsUpgradeEntry}
use Rattle.device_core.specs.Surveying.{AreOf, IsListing}
use Rattle.device_core.specs.declared.preparing.Prepared.{Prepared}

-- entries of the tree of a root record, and room behind them for the nodes, whose shape is known
pub record HasRoom (root : Root) (prepared : Prepared) : Type 0 where
  pub listing : IsListing root prepared.items.items
  pub shape : prepared.shape ≡ shape_of (order_above root.order) root.mapped
  pub room : root.mapped + built (order_above root.order) root.mapped ≤ vec_capacity prepared.items

-- so it is, and the line is the entry of the certificate of the upgrade that begins behind so many pages
pub record IsPrepared (tells : Type 0) (pages : List (List ℕ)) (head : ℕ) (root : Root) (prepared : Prepared) : Type 0 where
  pub has : HasRoom root prepared
  pub addrs : List ℕ
  pub of : AreOf tells pages root prepared.items.items addrs
  pub line : IsUpgradeEntry root head prepared.items.items addrs prepared.line
