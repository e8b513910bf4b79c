use Rattle.std.proofs.Common.{refl, arith, sym, ap, ◌∙◌, not}
use Rattle.std.specs.Prelude.{string_bytes}
use Rattle.std.proofs.lemmas.Bool.{false≢true}
use Rattle.device_cli.proofs.GivenLaws.{words_more, words_all, other_word}
use Rattle.device_cli.proofs.given.are_record_words.Goals as goal

pub returns-then-is_none : goal.returns-then-is_none
returns-then-is_none c = (
  λ yes. absurd (false≢true yes),
  λ are. absurd (other_word string_bytes c.args.words.now c.loop-word.word-index c.word-item.result (omega (arith, c.loop-word-test.true)) c.word-item.is (λ word. false≢true (sym (c.is_none.ensures ∙ ap not c.if-is_none.true) ∙ c.record_of.ensures.word.1 word)) are),
)

pub loop-word-preserved : goal.loop-word-preserved
loop-word-preserved c =
    words_more string_bytes c.args.words.now c.loop-word.word-index c.word-item.result c.loop-word.invariant (omega (arith, c.loop-word-test.true)) c.word-item.is
    (c.record_of.ensures.word.0 (c.is_none.ensures ∙ ap not c.if-is_none.false))

pub returns : goal.returns
returns c = (
  λ yes. words_all string_bytes c.args.words.now c.loop-word.word-index c.loop-word.invariant (omega (arith, c.loop-word-test.false)) (omega (arith, c.if-words-gt-MOST_RECORDS.false)),
  λ are. refl,
)
