use Rattle.std.proofs.Common.{◌≡◌, ◌-◌, ◌^◌, ℕ, List, []}
use Rattle.std.specs.Prelude.{Contains}
use Rattle.seizure.specs.Looks.{Looks}
use Rattle.seizure.specs.Work.{KnowsItsKeys, Gains}
use Rattle.seizure.proofs.ReadsLaws.{HaveRead}
use Rattle.seizure.proofs.SearchLaws.{IsSearched}
use Rattle.seizure.proofs.seizing.search.Given as goal

abbrev pub invariant-loop-next : goal.invariant-loop-next
invariant-loop-next g l = record {
  looks : Looks g.P.Platform l.fn.platform l.platform;
  quiet : g.P.Platform.faults l.platform ≡ g.P.Platform.faults l.fn.platform;
  known : KnowsItsKeys l.work;
  searched : g.P.Platform.tells → (roots : List (List ℕ)) → Gains [] l.fn.work.keys (Contains roots)
      → IsSearched roots (g.P.Platform.history l.fn.platform).present.readable l.work.keys l.work.opened l.next;
  reads : g.P.Platform.tells → (roots : List (List ℕ)) → Gains [] l.fn.work.keys (Contains roots)
      → HaveRead roots (g.P.Platform.history l.fn.platform).present.readable l.work.keys l.next (g.P.Platform.reads l.fn.platform) (g.P.Platform.reads l.platform);
}

abbrev pub decreases-loop-next : goal.decreases-loop-next
decreases-loop-next g l = 2 ^ 64 - l.next
