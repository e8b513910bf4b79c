use Rattle.std.proofs.Common.{◌≡◌, ◌*◌, Some, length, take}
use Rattle.sdbt_base.specs.Arrays.{Device, Session as OpenSession, mounted}
use Rattle.device_course.specs.States.{IsAt}
use Rattle.transfer.specs.Copies.{copied}
use Rattle.session_calls.specs.Along.{Along, Drawn, drawn_by}
use Rattle.transfer.specs.Whole.{CopiesTree}
use Rattle.transfer.proofs.copying.copy_blocks.Given as goal

abbrev pub invariant-loop-block : goal.invariant-loop-block
invariant-loop-block g l = record {
  source : (any : Drawn) → Along g.P.Platform 0 (21 * l.block-index) l.fn.from l.from any any l.fn.source l.source;
  target : Along g.Q.Platform l.block-index (40 * l.block-index) l.fn.to l.to (drawn_by g.T.Tape l.fn.tape) (drawn_by g.T.Tape l.tape) l.fn.target l.target;
  from_quiet : g.P.Platform.faults l.from ≡ g.P.Platform.faults l.fn.from;
  to_quiet : g.Q.Platform.faults l.to ≡ g.Q.Platform.faults l.fn.to;
  leads : g.P.Platform.tells → g.Q.Platform.tells → (device there : Device) (array other : OpenSession) → IsAt (g.P.Platform.history l.fn.from).present (Some l.fn.source) (mounted device array)
      → IsAt (g.Q.Platform.history l.fn.to).present (Some l.fn.target) (mounted there other)
      → IsAt (g.P.Platform.history l.from).present (Some l.source) (mounted device array)
      × IsAt (g.Q.Platform.history l.to).present (Some l.target) (mounted there (copied array.contents (take l.block-index l.blocks) other));
  tape_quiet : g.T.Tape.faults l.tape ≡ g.T.Tape.faults l.fn.tape;
  tree : l.source.grove ≡ l.fn.source.grove;
  copies : CopiesTree g.P.Platform.tells g.Q.Platform.tells (g.P.Platform.history l.fn.from).present (g.Q.Platform.history l.fn.to).present (g.Q.Platform.history l.to).present l.fn.source l.fn.target l.target (take l.block-index l.blocks);
  size : length l.content ≡ 4096;
}
