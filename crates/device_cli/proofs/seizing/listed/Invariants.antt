use Rattle.std.proofs.Common.{◌≡◌, take}
use Rattle.device_cli.proofs.seizing.listed.Given as goal

abbrev pub invariant-loop-key : goal.invariant-loop-key
invariant-loop-key l = l.list ≡ take l.key-index l.keys
