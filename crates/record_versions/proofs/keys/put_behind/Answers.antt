-- Where there is no digest, there are no bytes.
use Rattle.std.proofs.Common.{◌≡◌, ◌∙◌, sym, ap, length, arith}
use Rattle.sdbt_base.specs.Keys.{digest_in}
use Rattle.record_versions.specs.Laws.{digest_is, no_bytes, empty_is}
use Rattle.record_versions.proofs.keys.put_behind.Goals as goal

pub copy_from_slice-requires : goal.copy_from_slice-requires
copy_from_slice-requires c =
    let is : digest_in c.args.key.now ≡ c.in-Some.digest = digest_is c.args.key.now c.in-Some.digest (sym c.digest.ensures ∙ c.in-Some.is) in
    omega (arith, c.requires, ap length is)

pub returns-in-Some : goal.returns-in-Some
returns-in-Some c = c.copy_from_slice.ensures.after ∙ sym (digest_is c.args.key.now c.in-Some.digest (sym c.digest.ensures ∙ c.in-Some.is))

pub returns-in-None : goal.returns-in-None
returns-in-None c =
    let none = no_bytes (digest_in c.args.key.now) (sym c.digest.ensures ∙ c.in-None.is) in
    empty_is c.args.out.now (c.requires ∙ ap length none) ∙ sym none
