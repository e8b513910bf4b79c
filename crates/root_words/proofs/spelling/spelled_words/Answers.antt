use Rattle.std.proofs.Common.{◌≡◌, ◌∷◌, [], ◌++◌, arith, rules}
use Rattle.std.specs.Prelude.{string_bytes}
use Rattle.std.proofs.lemmas.Result.{err_from_is_err_and}
use Rattle.root_words.specs.declared.refusals.NotSpelled.TheVariants.{Memory}
use Rattle.root_words.proofs.SpelledLaws.{spelled_more, refused_at}
use Rattle.root_words.proofs.spelling.spelled_words.Goals as goal

pub loop-word-preserved : goal.loop-word-preserved
loop-word-preserved g c =
    let at = c.loop-word.word-index in
    let pushed : c.push.new.self.items ≡ c.loop-word.spelled.items ++ c.in_ok-next.next ∷ [] = search rules in
    rw pushed (spelled_more string_bytes c.args.words.now c.loop-word.spelled.items at c.word-item.result c.in_ok-next.next
    c.loop-word.invariant (omega (arith, c.loop-word-test.true)) c.word-item.is (search rules))

pub returns-in_err-next-clause-refused : goal.returns-in_err-next-clause-refused
returns-in_err-next-clause-refused g c =
    let p = err_from_is_err_and c.from_residual.result c.from_residual.ensures.1 in
    rw (p.1, p.2) (refused_at string_bytes c.args.words.now c.loop-word.word-index c.word-item.result c.in_err-next.field-0.0
    (omega (arith, c.loop-word-test.true)) c.word-item.is c.in_err-next.ensures.refused)

pub returns-in_err-map_err-clause-refused : goal.returns-in_err-map_err-clause-refused
returns-in_err-map_err-clause-refused g c =
    let p = err_from_is_err_and c.from_residual-in_err-map_err.result c.from_residual-in_err-map_err.ensures.1 in
    rw (p.1, p.2) (refused_at string_bytes c.args.words.now c.loop-word.word-index c.word-item.result Memory
    (omega (arith, c.loop-word-test.true)) c.word-item.is tt)
