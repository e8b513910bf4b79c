use Rattle.std.proofs.Common.{◌≡◌, ◌*◌, Some, length, take}
use Rattle.std.specs.Prelude.{All}
use Rattle.sdbt_base.specs.Arrays.{Device, Session as OpenSession, content_of, mounted}
use Rattle.device_course.specs.States.{IsAt}
use Rattle.session_calls.specs.Along.{Along, Drawn}
use Rattle.transfer.specs.Whole.{HasOne}
use Rattle.transfer.proofs.matching.has_same.Given as goal

abbrev pub invariant-loop-block : goal.invariant-loop-block
invariant-loop-block g l = record {
  source : (any : Drawn) → Along g.P.Platform 0 (21 * l.block-index) l.fn.from l.from any any l.fn.source l.source;
  target : (any : Drawn) → Along g.Q.Platform 0 (21 * l.block-index) l.fn.to l.to any any l.fn.target l.target;
  from_quiet : g.P.Platform.faults l.from ≡ g.P.Platform.faults l.fn.from;
  leads : g.P.Platform.tells → g.Q.Platform.tells → (device there : Device) (array other : OpenSession) → IsAt (g.P.Platform.history l.fn.from).present (Some l.fn.source) (mounted device array)
      → IsAt (g.Q.Platform.history l.fn.to).present (Some l.fn.target) (mounted there other)
      → IsAt (g.P.Platform.history l.from).present (Some l.source) (mounted device array)
      × IsAt (g.Q.Platform.history l.to).present (Some l.target) (mounted there other)
      × All (λ block. content_of array.contents block ≡ content_of other.contents block) (take l.block-index l.blocks);
  to_quiet : g.Q.Platform.faults l.to ≡ g.Q.Platform.faults l.fn.to;
  source_tree : l.source.grove ≡ l.fn.source.grove;
  target_tree : l.target.grove ≡ l.fn.target.grove;
  same : All (HasOne g.P.Platform.tells g.Q.Platform.tells (g.P.Platform.history l.fn.from).present (g.Q.Platform.history l.fn.to).present l.fn.source l.fn.target) (take l.block-index l.blocks);
  size : length l.content ≡ 4096;
  other_size : length l.other ≡ 4096;
}
