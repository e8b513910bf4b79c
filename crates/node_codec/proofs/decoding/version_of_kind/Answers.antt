-- A node of version 2 has the kind 3, and one of version 1 the kind 2.
use Rattle.std.proofs.Common.{arith}
use Rattle.node_codec.specs.Laws.{kind_says}
use Rattle.node_codec.proofs.decoding.version_of_kind.Goals as goal

pub returns-then-kind-eq3-clause-only : goal.returns-then-kind-eq3-clause-only
returns-then-kind-eq3-clause-only c = λ version addr level items is same.
    omega (arith, kind_says version addr level items c.args.body.now same, c.if-kind-eq3.true)

pub returns-else-kind-eq3-clause-only : goal.returns-else-kind-eq3-clause-only
returns-else-kind-eq3-clause-only c = λ version addr level items is same.
    omega (arith, kind_says version addr level items c.args.body.now same, is, c.if-kind-eq3.false)
