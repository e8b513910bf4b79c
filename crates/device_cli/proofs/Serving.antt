-- What a run says of the lines of a script that it handled adds up.
use Rattle.std.proofs.Common.{ℕ, ◌≤◌, List, Option, arith}
use Rattle.line_run.specs.Puts.{no_line}
use Rattle.line_run.specs.Stops.{Ending}
use Rattle.line_run.proofs.ReadingLaws.{Replying}
use Rattle.device_cli.specs.Ran.{replies_in}
use Rattle.device_cli.specs.Replied.{Handled}
use Rattle.device_cli.specs.World.{World}
use Rattle.device_cli.proofs.RepliedLaws.{Handled-nothing, Handled-then, Handled-longer, Handled-cut, count-cut, count-then}

abbrev pub HandledBy : Type 0 → World → World → Ending → List (List ℕ) → Option (List ℕ) → Option (List ℕ) → Type 0
HandledBy tells old new ending lines written written_now = Handled tells ⊥ old new no_line ending lines written written_now

pub replying : (tells : Type 0) → Replying World (λ w. w.head ≤ w.capacity) (HandledBy tells) (replies_in tells ⊥ no_line)
replying tells = record {
  handling = record {
    nothing = λ w written fits. Handled-nothing tells w no_line written fits;
    behind = λ old mid new ending lines more a b c p q. Handled-then tells old mid new no_line ending lines more a b c p q;
    longer = λ old new stop lines more a b line p. Handled-longer tells old new no_line stop lines more a b line p;
  };
  each = λ old new lines a b p. p.replied.many;
  behind = λ old mid new ending lines more a b c p q. omega (arith, count-then tells old mid new no_line ending lines more a b c p q);
  failed = λ old new lines a b p. ((Handled-cut tells old new no_line lines a b p).0, (count-cut tells old new no_line lines a b p).0);
  limit = λ old new lines a b p. ((Handled-cut tells old new no_line lines a b p).1, (count-cut tells old new no_line lines a b p).1);
}
