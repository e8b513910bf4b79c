use Rattle.std.proofs.Common.{◌≡◌, ◌-◌, List, Some, ap, subst, arith, length, slice_get}
use Rattle.tree_build.specs.declared.shapes.Span.{Span}
use Rattle.device_core.proofs.BeginLaws.{last_level}
use Rattle.device_core.proofs.rewriting.top_level.Goals as goal

pub returns : goal.returns
returns c = λ order count shaped is.
    last_level order count (c.len.result - 1) c.at.result.now shaped (omega (arith, c.requires, c.len.ensures, ap length is))
    (subst (λ (spans : List Span). slice_get spans (c.len.result - 1) ≡ Some c.at.result.now) is c.at.ensures)
