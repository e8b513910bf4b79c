use Rattle.std.proofs.Common.{◌≡◌}
use Rattle.seizure.specs.Work.{KnowsItsKeys, Gains, HasBelow}
use Rattle.seizure.proofs.work.Work.want_entries.Given as goal

abbrev pub invariant-loop-entry : goal.invariant-loop-entry
invariant-loop-entry l = record {
  known : KnowsItsKeys l.self;
  keys : Gains l.initial.self.keys l.self.keys (HasBelow l.body l.size l.entry);
  opened : l.self.opened ≡ l.initial.self.opened;
}
