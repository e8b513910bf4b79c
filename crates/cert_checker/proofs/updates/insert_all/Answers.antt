use Rattle.std.proofs.Common.{◌∙◌}
use Rattle.cert_checker.proofs.HeldLaws.{inserted}
use Rattle.cert_checker.proofs.updates.insert_all.Goals as goal

pub loop-item-preserved-in_ok-insert : goal.loop-item-preserved-in_ok-insert
loop-item-preserved-in_ok-insert c = λ q. inserted c.loop-item.left.items c.pop.new.self.items c.in-Some.item q c.loop-item.live c.insert.new.self c.in-Some.ensures.items c.in_ok-insert.ensures.updates ∙ c.loop-item.invariant q

pub loop-item-preserved-in_ok-insert-2 : goal.loop-item-preserved-in_ok-insert-2
loop-item-preserved-in_ok-insert-2 c = λ q. inserted c.loop-item.left.items c.pop.new.self.items c.in-Some.item q c.loop-item.live c.insert.new.self c.in-Some.ensures.items c.in_ok-insert.ensures.updates ∙ c.loop-item.invariant q

pub loop-item-preserved : goal.loop-item-preserved
loop-item-preserved c = λ q. inserted c.loop-item.left.items c.pop.new.self.items c.in-Some.item q c.loop-item.live c.insert.new.self c.in-Some.ensures.items c.in_ok-insert.ensures.updates ∙ c.loop-item.invariant q
