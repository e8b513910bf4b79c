-- The bytes are those of the fields that were read, and of no other head.
use Rattle.std.proofs.Common.{rules, ap, arith, Some}
use Rattle.node_codec.specs.Laws.{head_spelled, head_only}
use Rattle.node_codec.proofs.head.head_of.Goals as goal

pub returns-then-is_framed-clause-found : goal.returns-then-is_framed-clause-found
returns-then-is_framed-clause-found c = head_spelled _ _ c.requires (search rules) c.fields_of-head.ensures

pub returns-then-is_framed-clause-only : goal.returns-then-is_framed-clause-only
returns-then-is_framed-clause-only c = λ addr kind level count block addr-below count-below block-below same.
    ap Some (head_only _ _ addr kind level count block c.fields_of-head.ensures addr-below count-below block-below same).1

pub returns-else-is_framed-clause-only : goal.returns-else-is_framed-clause-only
returns-else-is_framed-clause-only c = λ addr kind level count block addr-below count-below block-below same.
    let known = head_only _ _ addr kind level count block c.fields_of-head.ensures addr-below count-below block-below same in
    absurd (grind (arith, c.is_framed.ensures.1 known.0))
