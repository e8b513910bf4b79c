use Rattle.std.proofs.Common.{[], ◌∷◌}
use Rattle.std.specs.List.{concat}
use Rattle.std.specs.Int.{w16, w32, to_be_bytes}
use Rattle.tpm_nv.specs.Fields.{sized}
use Rattle.tpm_nv.specs.Areas.{area_bytes}
use Rattle.tpm_nv.proofs.public.area_in.Goals as goal

pub returns-in_err-size-clause-only : goal.returns-in_err-size-clause-only
unfolding area_bytes
returns-in_err-size-clause-only c area fits policy same name =
    let last = to_be_bytes w16 area.size in
    let first = c.in_ok-found.ensures.only c.args.index (concat (to_be_bytes w16 area.algorithm ∷ to_be_bytes w32 area.attributes ∷ sized area.policy ∷ last ∷ [])) (search) same in
    let second = c.in_ok-algorithm.ensures.only area.algorithm (concat (to_be_bytes w32 area.attributes ∷ sized area.policy ∷ last ∷ [])) fits.algorithm first.1 in
    let third = c.in_ok-attributes.ensures.only area.attributes (concat (sized area.policy ∷ last ∷ [])) fits.attributes second.1 in
    let fourth = c.in_ok-policy.ensures.only area.policy last policy third.1 in
    absurd (c.in_err-size.ensures.only area.size [] fits.size fourth.1)
