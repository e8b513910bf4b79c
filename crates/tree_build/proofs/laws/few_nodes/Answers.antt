use Rattle.tree_build.proofs.ShapeLaws.{shape_many, shape_most, shape_least, shape_levels}
use Rattle.tree_build.proofs.laws.few_nodes.Goals as goal

pub returns-clause-many : goal.returns-clause-many
returns-clause-many c = shape_many

pub returns-clause-most : goal.returns-clause-most
returns-clause-most c = shape_most

pub returns-clause-least : goal.returns-clause-least
returns-clause-least c = shape_least

pub returns-clause-levels : goal.returns-clause-levels
returns-clause-levels c = shape_levels
