use Rattle.std.proofs.Common.{◌≡◌, ◌++◌, length, refl, arith, rules}
use Rattle.tpm_nv.specs.Fields.{sized}
use Rattle.tpm_nv.specs.Messages.{session}
use Rattle.tpm_nv.proofs.FieldLaws.{length-sized}
use Rattle.tpm_nv.proofs.CauseLaws.{carried}
use Rattle.tpm_nv.proofs.contents.bytes_in.Goals as goal
use Rattle.tpm_nv.proofs.contents.bytes_in.Goals.{else-size-eq130-via-then-size-eq130+then-bytes-eq-DATA+else-is_session, else-size-eq130-via-then-size-eq130+else-bytes-eq-DATA, else-size-eq130-via-else-size-eq130}

pub returns-in_err-size-clause-only : goal.returns-in_err-size-clause-only
returns-in_err-size-clause-only c bytes size same =
    absurd (c.in_err-size.ensures.only (length (sized bytes)) (sized bytes ++ session) (omega (arith, length-sized bytes)) same)

pub returns-then-is_session-clause-found : goal.returns-then-is_session-clause-found
returns-then-is_session-clause-found c =
    let size : c.in_ok-size.size ≡ length (sized c.in_ok-bytes.bytes.now) = omega (arith, length-sized c.in_ok-bytes.bytes.now) in (
      search rules,
      carried c.args.body.now c.in_ok-size.rest.now c.in_ok-bytes.rest.now c.in_ok-bytes.bytes.now c.in_ok-size.size
          c.in_ok-size.ensures.found.1 c.in_ok-bytes.ensures.found.1 (c.if-is_session.ensures.0 refl) size,
    )

pub returns-else-size-eq130-clause-only : goal.returns-else-size-eq130-clause-only
returns-else-size-eq130-clause-only c bytes size same =
    let whole = length-sized bytes in
    let first = c.in_ok-size.ensures.only (length (sized bytes)) (sized bytes ++ session) (omega arith) same in
    let second = c.in_ok-bytes.ensures.only bytes session (omega arith) first.1 in
    elim c.else-size-eq130.branch [
      | else-size-eq130-via-then-size-eq130+then-bytes-eq-DATA+else-is_session w ↦ grind (arith, second)
      | else-size-eq130-via-then-size-eq130+else-bytes-eq-DATA w ↦ grind (arith, second)
      | else-size-eq130-via-else-size-eq130 w ↦ grind (arith, first, whole)
    ]
