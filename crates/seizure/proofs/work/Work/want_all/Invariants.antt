use Rattle.std.proofs.Common.{◌≡◌, map, take}
use Rattle.std.specs.Prelude.{Contains}
use Rattle.sdbt_base.specs.Keys.{bare}
use Rattle.seizure.specs.Work.{KnowsItsKeys, Gains}
use Rattle.seizure.proofs.work.Work.want_all.Given as goal

abbrev pub invariant-loop-i : goal.invariant-loop-i
invariant-loop-i l = record {
  known : KnowsItsKeys l.self;
  keys : Gains l.initial.self.keys l.self.keys (Contains (take l.i (map bare l.keys)));
  opened : l.self.opened ≡ l.initial.self.opened;
}
