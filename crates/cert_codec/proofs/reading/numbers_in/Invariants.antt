use Rattle.cert_codec.specs.Text.{whole}
use Rattle.cert_codec.proofs.Arrays.{IsReadTo}
use Rattle.cert_codec.proofs.reading.numbers_in.Given as goal

abbrev pub invariant-loop-item : goal.invariant-loop-item
invariant-loop-item l = IsReadTo whole l.items l.item-index l.found
