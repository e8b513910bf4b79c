use Rattle.std.proofs.Common.{refl, sym, ◌∙◌}
use Rattle.std.specs.Cmp.Lexicographic.{bytes_decides}
use Rattle.page_digest.specs.Digest.{digest}
use Rattle.page_digest.proofs.DigestLaws.{fits_any, fits_one}
use Rattle.page_digest.proofs.fits_digest.Goals as goal

pub returns-in-None : goal.returns-in-None
returns-in-None c = (λ _. fits_any c.args.key.now c.args.page.now (sym c.digest.ensures ∙ c.in-None.is), λ _. refl)

pub returns-in-Some : goal.returns-in-Some
returns-in-Some c =
    let f = fits_one c.args.key.now c.args.page.now c.in-Some.want (sym c.digest.ensures ∙ c.in-Some.is) in
    let same = bytes_decides c.in-Some.want c.digest_of.result in
    (λ t. f.0 (same.0 (sym c.eq.ensures ∙ t) ∙ c.digest_of.ensures.value), λ g. c.eq.ensures ∙ same.1 (f.1 g ∙ sym c.digest_of.ensures.value))
