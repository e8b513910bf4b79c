use Rattle.std.proofs.Common.{refl, sym, subst, arith}
use Rattle.std.proofs.lemmas.Bool.{false≢true}
use Rattle.device_cli.specs.Given.{IsRecordWord}
use Rattle.device_cli.proofs.GivenLaws.{is_word, stands_for}
use Rattle.device_cli.proofs.given.record_of.Goals as goal

pub returns-then-decode-clause-word : goal.returns-then-decode-clause-word
returns-then-decode-clause-word c =
    (λ some. subst IsRecordWord c.as_bytes-digits.ensures.value (is_word c.as_bytes-digits.result.now _ (omega (arith, c.if-digits.false)) c.if-decode.ensures.found), λ word. refl)

pub returns-else-decode-clause-word : goal.returns-else-decode-clause-word
returns-else-decode-clause-word c = (
  λ some. absurd (false≢true some),
  λ word. let bytes = stands_for _ (subst IsRecordWord (sym c.as_bytes-digits.ensures.value) word) in absurd (c.if-decode.ensures.none bytes.0 bytes.1),
)
