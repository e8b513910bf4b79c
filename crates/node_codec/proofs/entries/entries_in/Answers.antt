-- The entries that were read are the only ones that the payload can have.
use Rattle.std.proofs.Common.{arith, refl, sym, subst}
use Rattle.node_codec.specs.Parts.{FitsEntries}
use Rattle.node_codec.specs.Laws.{entries_known, all_within, zeros_along}
use Rattle.node_codec.proofs.entries.entries_in.Goals as goal
use Rattle.node_codec.proofs.entries.entries_in.Goals.{else-are_zero-via-then-are_zero+else-are_in_range, else-are_zero-via-else-are_zero}

pub returns-then-are_in_range-clause-only : goal.returns-then-are_in_range-clause-only
returns-then-are_in_range-clause-only c = λ items len same fits.
    (refl, (entries_known c.args.version c.args.addr c.args.payload.now c.read_entries.new.entries.items items c.args.count (omega arith) c.read_entries.ensures.count c.read_entries.ensures.entries c.read_entries.ensures.spelled len same fits).0)

pub returns-else-are_zero-clause-only : goal.returns-else-are_zero-clause-only
returns-else-are_zero-clause-only c = λ items len same fits.
    let known = entries_known c.args.version c.args.addr c.args.payload.now c.read_entries.new.entries.items items c.args.count (omega arith) c.read_entries.ensures.count c.read_entries.ensures.entries c.read_entries.ensures.spelled len same fits in
    let fits-read : FitsEntries c.args.version c.args.addr c.read_entries.new.entries.items = subst (FitsEntries c.args.version c.args.addr) (sym known.0) fits in
    let zero = c.are_zero.ensures.1 (zeros_along _ _ c.rest_behind-rest.ensures known.1) in
    elim c.else-are_zero.branch [
      | else-are_zero-via-then-are_zero+else-are_in_range w ↦
          let fits-slice : FitsEntries c.args.version c.args.addr w.as_slice.result.now = subst (FitsEntries c.args.version c.args.addr) (sym w.as_slice.ensures.value) fits-read in
          grind (arith, w.are_in_range.ensures.1 (fits-slice.ascend, all_within c.args.version c.args.addr _ fits-slice))
      | else-are_zero-via-else-are_zero w ↦ grind (arith, zero)
    ]
