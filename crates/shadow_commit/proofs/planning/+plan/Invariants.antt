use Rattle.std.proofs.Common.{◌≡◌, ℕ, ◌+◌, ◌*◌, List, take, map}
use Rattle.node_codec.specs.declared.body.Entry.{Entry}
use Rattle.btree_twigs.specs.Stubs.{children_of, level_of, sum_by, nodes}
use Rattle.btree_twigs.specs.Top.{child_level}
use Rattle.shadow_commit.specs.Sealed.{Sealed, Seals, SealsEach}
use Rattle.shadow_commit.specs.CanSeal.{CanSeal}
use Rattle.shadow_commit.specs.Planned.{AddsOf}
use Rattle.shadow_commit.proofs.PlanLaws.{places_so_far}
use Rattle.shadow_commit.proofs.planning.+plan.Given as goal

abbrev pub invariant-plan_twig-loop-child : goal.invariant-plan_twig-loop-child
invariant-plan_twig-loop-child l = record {
  same : l.child-items ≡ children_of l.fn.twig;
  next : (version : ℕ) (at : CanSeal version l.fn.first 4294967296 l.fn.twig) → l.next ≡ l.fn.first + sum_by (nodes at.level) (take l.child-index l.child-items);
  planned : (version : ℕ) (at : CanSeal version l.fn.first 4294967296 l.fn.twig) (ns : List Sealed) (es : List Entry) → SealsEach (Seals version at.level) l.fn.first (take l.child-index l.child-items) ns es →
      (l.children ≡ map (λ (e : Entry). e.addr) es) × AddsOf l.fn.base (places_so_far at.level at.high l.child-index l.child-items) ns l.fn.added l.added;
}

abbrev pub decreases-plan_child : goal.decreases-plan_child
decreases-plan_child l = 2 * child_level l.child.now + 1

abbrev pub decreases-plan_twig : goal.decreases-plan_twig
decreases-plan_twig l = 2 * level_of l.twig.now
