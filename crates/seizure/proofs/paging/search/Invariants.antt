use Rattle.std.proofs.Common.{◌-◌, ◌^◌, ℕ, List, []}
use Rattle.std.specs.Prelude.{Contains}
use Rattle.seizure.specs.Work.{KnowsItsKeys, Gains}
use Rattle.seizure.proofs.SearchLaws.{IsSearched}
use Rattle.seizure.proofs.paging.search.Given as goal

abbrev pub invariant-loop-next : goal.invariant-loop-next
invariant-loop-next l = record {
  known : KnowsItsKeys l.work;
  searched : (roots : List (List ℕ)) → Gains [] l.initial.work.keys (Contains roots) → IsSearched roots l.pages l.work.keys l.work.opened l.next;
}

abbrev pub decreases-loop-next : goal.decreases-loop-next
decreases-loop-next l = 2 ^ 64 - l.next
