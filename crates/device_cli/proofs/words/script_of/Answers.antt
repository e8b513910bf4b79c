use Rattle.std.proofs.Common.{arith}
use Rattle.device_cli.proofs.WordLaws.{not_so_many}
use Rattle.device_cli.proofs.words.script_of.Goals as goal

pub returns-then-count-eq0 : goal.returns-then-count-eq0
returns-then-count-eq0 c words = not_so_many _ c.args.count.now c.in_ok-count.count c.in_ok-count.ensures.found (λ some few. omega (arith, some, c.if-count-eq0.true)) words

pub returns-then-count-gt-MAX_COUNT : goal.returns-then-count-gt-MAX_COUNT
returns-then-count-gt-MAX_COUNT c words = not_so_many _ c.args.count.now c.in_ok-count.count c.in_ok-count.ensures.found (λ some few. omega (arith, few, c.if-count-gt-MAX_COUNT.true)) words
