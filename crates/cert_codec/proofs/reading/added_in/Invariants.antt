use Rattle.cert_codec.specs.Text.{added_json}
use Rattle.cert_codec.proofs.Arrays.{IsReadTo}
use Rattle.cert_codec.proofs.reading.added_in.Given as goal

abbrev pub invariant-loop-item : goal.invariant-loop-item
invariant-loop-item l = IsReadTo added_json l.item-items l.item-index l.found
