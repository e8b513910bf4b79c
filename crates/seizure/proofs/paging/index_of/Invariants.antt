use Rattle.seizure.specs.Index.{AreMarks, AreBelow}
use Rattle.seizure.proofs.paging.index_of.Given as goal

abbrev pub invariant-loop-i : goal.invariant-loop-i
invariant-loop-i l = record {
  marks : AreMarks l.pages l.i l.index.marks.items;
  below : AreBelow l.i l.index.marks.items;
}
