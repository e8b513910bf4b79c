use Rattle.std.proofs.Common.{◌≡◌, All, take}
use Rattle.page_store.specs.Keeping.{KeepsKeys}
use Rattle.page_store.specs.Stands.{IsSound}
use Rattle.tree_build.specs.Building.{OnlyAdds}
use Rattle.device_core.proofs.CopyingLaws.{Copying, IsListed}
use Rattle.device_core.proofs.copying.copy_records.Given as goal

abbrev pub invariant-loop-entry : goal.invariant-loop-entry
invariant-loop-entry g l = record {
  are : Copying g.P.Platform.tells (g.P.Platform.head l.fn.platform) (g.P.Platform.head l.platform) (g.P.Platform.history l.fn.platform).present (g.P.Platform.history l.platform).present l.entry-index l.fn.entries l.entries;
  keeps : KeepsKeys g.P.Platform.tells (g.T.Tape.drawn l.fn.tape) (g.T.Tape.drawn l.tape) (g.P.Platform.history l.fn.platform) (g.P.Platform.history l.platform)
      (λ keys. IsSound (g.P.Platform.history l.fn.platform).present) (λ keys. IsSound (g.P.Platform.history l.platform).present × All (IsListed keys) (take l.entry-index l.entries));
  beside : OnlyAdds g.P.Platform g.T.Tape l.entry-index l.entry-index l.fn.platform l.platform l.fn.tape l.tape;
  platform_quiet : g.P.Platform.faults l.platform ≡ g.P.Platform.faults l.fn.platform;
  tape_quiet : g.T.Tape.faults l.tape ≡ g.T.Tape.faults l.fn.tape;
}
