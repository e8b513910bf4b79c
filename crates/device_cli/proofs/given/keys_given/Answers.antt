use Rattle.std.proofs.Common.{◌+◌, ◌++◌, ◌∷◌, [], ◌∙◌, ap, arith, sym, subst, ℕ, List, take}
use Rattle.std.specs.Prelude.{map, string_bytes}
use Rattle.device_cli.specs.Given.{AreGiven}
use Rattle.device_cli.proofs.GivenLaws.{given_more}
use Rattle.device_cli.proofs.given.keys_given.Goals as goal

pub loop-word-preserved : goal.loop-word-preserved
loop-word-preserved c =
    let at = c.loop-word.word-index in
    record {
      given = subst (λ (keys : List (List ℕ)). AreGiven c.args.head (take (at + 1) (map string_bytes c.args.words.now)) keys) (sym (c.push.ensures.items ∙ ap (λ (k : List ℕ). c.loop-word.keys.items ++ k ∷ []) c.bare.ensures))
          (given_more string_bytes c.args.words.now c.args.head c.loop-word.keys.items at c.word-item.result c.in-Some.root c.loop-word.invariant.given (omega (arith, c.loop-word-test.true)) c.word-item.is c.in-Some.ensures.found);
      count = omega (arith, c.push.ensures.len, c.loop-word.invariant.count);
    }
