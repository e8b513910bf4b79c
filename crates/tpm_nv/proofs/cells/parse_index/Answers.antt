use Rattle.std.proofs.Common.{sym, ◌∙◌}
use Rattle.std.proofs.lemmas.Bool.{false≢true}
use Rattle.std.specs.Prelude.{codes}
use Rattle.tpm_nv.proofs.CellLaws.{zero_lacks_x}
use Rattle.tpm_nv.proofs.cells.parse_index.Goals as goal

pub returns-in_err-zero-clause-only : goal.returns-in_err-zero-clause-only
returns-in_err-zero-clause-only c index is = absurd (c.in_err-zero.ensures.only (codes "0") is.digits zero_lacks_x is.spelled)

pub returns-then-not-is_text-clause-only : goal.returns-then-not-is_text-clause-only
returns-then-not-is_text-clause-only c index is =
    let parts = c.in_ok-zero.ensures.only (codes "0") is.digits zero_lacks_x is.spelled in
    absurd (false≢true (sym c.if-not-is_text.true ∙ c.is_text.ensures.1 parts.0))
