-- The bytes are those of the fields that were read, and of no other root.
use Rattle.std.proofs.Common.{rules, ap, subst, sym, arith, Some}
use Rattle.root_codec.specs.RootRecord.{FitsRoot}
use Rattle.root_codec.specs.Laws.{spelled, only}
use Rattle.root_codec.proofs.decoding.root_of.Goals as goal
use Rattle.root_codec.proofs.decoding.root_of.Goals.{else-is_framed-via-then-is_framed+else-is_in_range, else-is_framed-via-else-is_framed}

pub returns-then-is_in_range-clause-found : goal.returns-then-is_in_range-clause-found
returns-then-is_in_range-clause-found c = (search rules, spelled _ _ c.requires.size (search rules) c.fields_of-root.ensures)

pub returns-else-is_framed-clause-none : goal.returns-else-is_framed-clause-none
returns-else-is_framed-clause-none c = λ root fits same.
    let known = only _ _ root c.fields_of-root.ensures fits same in
    let framed = known.0 in
    let fits_too : FitsRoot c.fields_of-root.result = subst FitsRoot (sym known.1) fits in
    elim c.else-is_framed.branch [
      | else-is_framed-via-then-is_framed+else-is_in_range w ↦ grind (arith, w.is_in_range.ensures.1 fits_too)
      | else-is_framed-via-else-is_framed w ↦ grind (arith, c.is_framed.ensures.1 framed)
    ]

pub returns-then-is_in_range-clause-again : goal.returns-then-is_in_range-clause-again
returns-then-is_in_range-clause-again c = λ root fits same. ap Some (only _ _ root c.fields_of-root.ensures fits same).1

pub returns-else-is_framed-clause-again : goal.returns-else-is_framed-clause-again
returns-else-is_framed-clause-again c = λ root fits same. absurd (returns-else-is_framed-clause-none c root fits same)
