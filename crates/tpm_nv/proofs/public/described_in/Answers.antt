use Rattle.std.proofs.Common.{[], ◌++◌, arith}
use Rattle.tpm_nv.specs.Fields.{sized}
use Rattle.tpm_nv.specs.Areas.{area_bytes}
use Rattle.tpm_nv.proofs.AreaLaws.{length-area_bytes}
use Rattle.tpm_nv.proofs.public.described_in.Goals as goal

pub returns-then-is_empty-clause-only : goal.returns-then-is_empty-clause-only
returns-then-is_empty-clause-only c area fits short-area short-name same =
    let first = c.in_ok-area.ensures.only (area_bytes c.args.index area) (sized area.name ++ []) short-area same in
    let second = c.in_ok-name.ensures.only area.name [] short-name first.1 in
    c.area_in.ensures.only area fits (omega (arith, length-area_bytes c.args.index area)) first.0 second.0
