-- How many pages an upgrade needs.
use Rattle.std.proofs.Common.{◌≤◌, arith}
use Rattle.root_codec.specs.declared.root.Root.{Root}
use Rattle.root_codec.specs.RootRecord.{FitsRoot}
use Rattle.tree_build.proofs.ShapeLaws.{shape_least}
use Rattle.device_core.specs.Upgrading.{order_above, needed_of_root}
use Rattle.device_core.proofs.BeginLaws.{shaped_root}

-- there is a node at least
pub root_needs : (root : Root) → FitsRoot root → 1 ≤ needed_of_root root
root_needs root fits = let least = shape_least (order_above root.order) root.mapped (shaped_root root fits) in omega (arith, least)
