use Rattle.std.proofs.Common.{rules}
use Rattle.std.proofs.lemmas.List.Sorted.{IsNonDecreasingBy-from_sort_by_key}
use Rattle.seizure.specs.Index.{number_of}
use Rattle.seizure.specs.declared.index.Marked.{Marked}
use Rattle.seizure.proofs.IndexLaws.{marks_moved, below_moved, apart_moved}
use Rattle.seizure.proofs.index.Index.sort.Goals as goal

pub returns-clause-marks : goal.returns-clause-marks
returns-clause-marks c = λ pages below are. marks_moved pages below c.args.self.now.marks.items c.sort_unstable_by_key.new.self.items c.sort_unstable_by_key.ensures.permutation are

pub returns-clause-rising : goal.returns-clause-rising
returns-clause-rising c = IsNonDecreasingBy-from_sort_by_key (λ (m : Marked). number_of m.front) _ c.sort_unstable_by_key.ensures.sorted (λ a r q k. search rules)

pub returns-clause-below : goal.returns-clause-below
returns-clause-below c = λ below are. below_moved below c.args.self.now.marks.items c.sort_unstable_by_key.new.self.items c.sort_unstable_by_key.ensures.permutation are

pub returns-clause-apart : goal.returns-clause-apart
returns-clause-apart c = λ apart. apart_moved c.args.self.now.marks.items c.sort_unstable_by_key.new.self.items c.sort_unstable_by_key.ensures.permutation apart
