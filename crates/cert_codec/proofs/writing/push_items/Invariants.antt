use Rattle.std.proofs.Common.{◌≡◌, ◌<◌, ◌^◌, ◌++◌, take}
use Rattle.std.specs.Prelude.{All}
use Rattle.cert_codec.specs.Text.{whole}
use Rattle.cert_codec.proofs.Writes.{to_write}
use Rattle.cert_codec.proofs.writing.push_items.Given as goal

abbrev pub invariant-loop-i : goal.invariant-loop-i
invariant-loop-i l =
    (l.out ++ to_write whole l.numbers l.after l.i ≡ l.initial.out ++ to_write whole l.numbers l.initial.after 0) × All (λ n. n < 2 ^ 64) (take l.i l.numbers)
