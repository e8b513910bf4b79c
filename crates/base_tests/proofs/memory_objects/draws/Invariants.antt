-- Between two draws the place holds no key.
use Rattle.std.proofs.Common.{◌≡◌, []}
use Rattle.base_tests.proofs.memory_objects.draws.Given as goal

abbrev pub invariant-draws : goal.invariant-draws
invariant-draws g l = l.drawn ≡ []
