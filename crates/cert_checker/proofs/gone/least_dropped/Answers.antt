use Rattle.std.proofs.Common.{arith, sym, subst, ℕ, Option, ◌+◌, take}
use Rattle.cert_checker.specs.Looks.{LeastOf, IsFoundOr, IsUntakenChild}
use Rattle.cert_checker.proofs.LookLaws.{fails}
use Rattle.cert_checker.proofs.LeastLaws.{least_more, least_kept, least_all}
use Rattle.cert_checker.proofs.gone.least_dropped.Goals.{then-is_dropped, else-is_dropped}
use Rattle.cert_checker.proofs.gone.least_dropped.Goals as goal

pub loop-i-preserved : goal.loop-i-preserved
loop-i-preserved c = elim c.if-is_dropped.branch [
  | then-is_dropped w ↦ subst (λ (o : Option ℕ). LeastOf (IsFoundOr c.args.found (IsUntakenChild c.args.gone.now c.args.taken.now (take (c.loop-i.i + 1) c.args.children.now))) o) (sym w.least-is)
      (least_more c.args.found c.loop-i.least w.lesser-least.result c.args.gone.now c.args.taken.now c.args.children.now c.loop-i.i c.loop-i-test.true c.loop-i.invariant (c.is_dropped.ensures.0 w.if-is_dropped.true) w.lesser-least.ensures)
  | else-is_dropped w ↦ subst (λ (o : Option ℕ). LeastOf (IsFoundOr c.args.found (IsUntakenChild c.args.gone.now c.args.taken.now (take (c.loop-i.i + 1) c.args.children.now))) o) (sym w.least-is)
      (least_kept c.args.found c.loop-i.least c.args.gone.now c.args.taken.now c.args.children.now c.loop-i.i c.loop-i-test.true c.loop-i.invariant (fails c.is_dropped.result c.is_dropped.ensures w.if-is_dropped.false))
]

pub returns : goal.returns
returns c = least_all c.args.found c.loop-i.least c.args.gone.now c.args.taken.now c.args.children.now c.loop-i.i (omega arith) c.loop-i.invariant
