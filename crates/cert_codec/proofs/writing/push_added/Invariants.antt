use Rattle.std.proofs.Common.{◌≡◌, ◌++◌, take}
use Rattle.std.specs.Prelude.{All}
use Rattle.cert_codec.specs.Text.{added_json, TracedFits}
use Rattle.cert_codec.proofs.Writes.{to_write}
use Rattle.cert_codec.proofs.writing.push_added.Given as goal

abbrev pub invariant-loop-i : goal.invariant-loop-i
invariant-loop-i l =
    (l.out ++ to_write added_json l.added l.after l.i ≡ l.initial.out ++ to_write added_json l.added l.initial.after 0) × All TracedFits (take l.i l.added)
