use Rattle.cert_codec.specs.Text.{never_json}
use Rattle.cert_codec.proofs.Arrays.{IsReadTo}
use Rattle.cert_codec.proofs.reading.never_in.Given as goal

abbrev pub invariant-loop-item : goal.invariant-loop-item
invariant-loop-item l = IsReadTo never_json l.item-items l.item-index l.found
