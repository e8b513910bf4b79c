-- The digest, or zeros.
use Rattle.std.proofs.Common.{◌≡◌, ◌∙◌, sym, length, rules}
use Rattle.record_versions.specs.Laws.{digest_is, size_with, size_without, field_plain, field_with}
use Rattle.record_versions.proofs.keys.field_of.Goals as goal

pub returns-in-Some : goal.returns-in-Some
returns-in-Some c =
    let said = sym c.digest.ensures ∙ c.in-Some.is in
    let size : length c.in-Some.digest ≡ 32 = search rules in
    sym (digest_is c.args.key.now c.in-Some.digest said) ∙ sym (field_with c.args.key.now (size_with c.args.key.now c.in-Some.digest said size))

pub returns-in-None : goal.returns-in-None
returns-in-None c = sym (field_plain c.args.key.now (size_without c.args.key.now (sym c.digest.ensures ∙ c.in-None.is) c.has_size.ensures))
