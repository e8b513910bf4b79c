use Rattle.std.proofs.Common.{◌≡◌, length, take}
use Rattle.std.specs.Prelude.{map, string_bytes}
use Rattle.device_cli.specs.Given.{AreGiven}
use Rattle.device_cli.proofs.given.keys_given.Given as goal

abbrev pub invariant-loop-word : goal.invariant-loop-word
invariant-loop-word l = record {
  given : AreGiven l.head (take l.word-index (map string_bytes l.words)) l.keys.items;
  count : length l.keys.items ≡ l.word-index;
}
