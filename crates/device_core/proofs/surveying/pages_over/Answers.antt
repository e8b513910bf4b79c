use Rattle.std.proofs.Common.{ℕ, arith, sym, subst}
use Rattle.tree_build.specs.Shape.{IsShaped}
use Rattle.tree_build.proofs.ShapeLaws.{shape_most}
use Rattle.device_core.proofs.BeginLaws.{shaped_root}
use Rattle.device_core.proofs.surveying.pages_over.Goals as goal

pub overflow_add-result : goal.overflow_add-result
overflow_add-result c =
    let root = c.args.root.now in
    let shaped = subst (λ (n : ℕ). IsShaped n root.mapped) (sym c.order_over.ensures) (shaped_root root c.requires) in
    let most = shape_most c.order_over.result root.mapped shaped in
    omega (arith, most, c.built.ensures, c.requires.mapped, c.requires.blocks_most)
