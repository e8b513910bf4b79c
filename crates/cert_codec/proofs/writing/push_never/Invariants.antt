use Rattle.std.proofs.Common.{◌≡◌, ◌++◌, take}
use Rattle.std.specs.Prelude.{All}
use Rattle.cert_codec.specs.Text.{never_json, PageFits}
use Rattle.cert_codec.proofs.Writes.{to_write}
use Rattle.cert_codec.proofs.writing.push_never.Given as goal

abbrev pub invariant-loop-i : goal.invariant-loop-i
invariant-loop-i l =
    (l.out ++ to_write never_json l.pages l.after l.i ≡ l.initial.out ++ to_write never_json l.pages l.initial.after 0) × All PageFits (take l.i l.pages)
