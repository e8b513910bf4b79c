use Rattle.std.proofs.lemmas.Bool.{false≢true}
use Rattle.std.specs.Prelude.{codes}
use Rattle.tpm_nv.proofs.CellLaws.{tpm_lacks_colon}
use Rattle.tpm_nv.proofs.cells.behind_tpm.Goals as goal

pub returns-in_err-scheme-clause-only : goal.returns-in_err-scheme-clause-only
returns-in_err-scheme-clause-only c rest same = absurd (c.in_err-scheme.ensures.only (codes "tpm") rest tpm_lacks_colon same)

pub returns-else-is_text-clause-only : goal.returns-else-is_text-clause-only
returns-else-is_text-clause-only c rest same =
    let parts = c.in_ok-scheme.ensures.only (codes "tpm") rest tpm_lacks_colon same in
    false≢true (c.if-is_text.ensures.1 parts.0)
