use Rattle.std.proofs.Common.{arith, sym}
use Rattle.tpm_nv.proofs.CellLaws.{one_index, a_device}
use Rattle.tpm_nv.proofs.cells.parse_on_tpm.Goals as goal

pub returns-in_err-index-2-clause-only : goal.returns-in_err-index-2-clause-only
returns-in_err-index-2-clause-only c index device is =
    let named = a_device c.args.rest.now c.in-Some.text.now c.in-Some.device.now index device c.in-Some.ensures.found.1 c.in-Some.ensures.only is in
    absurd (cc (c.in_err-index-2.ensures.only index named.number))

pub returns-then-is_empty-clause-only : goal.returns-then-is_empty-clause-only
returns-then-is_empty-clause-only c index device is =
    let named = a_device c.args.rest.now c.in-Some.text.now c.in-Some.device.now index device c.in-Some.ensures.found.1 c.in-Some.ensures.only is in
    grind (arith, named.some, c.is_empty.ensures)

pub returns-clause-only : goal.returns-clause-only
returns-clause-only c index device is =
    let named = a_device c.args.rest.now c.in-Some.text.now c.in-Some.device.now index device c.in-Some.ensures.found.1 c.in-Some.ensures.only is in
    (one_index c.in-Some.text.now c.in_ok-index-2.index index c.in_ok-index-2.ensures.found named.number, sym named.same)
