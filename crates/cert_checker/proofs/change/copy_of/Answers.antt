use Rattle.cert_checker.proofs.CopyLaws.{copies_more}
use Rattle.cert_checker.proofs.change.copy_of.Goals as goal

pub loop-i-preserved : goal.loop-i-preserved
loop-i-preserved c = copies_more c.args.addrs.now c.loop-i.copy.items c.push.new.self.items c.loop-i.i c.at.result.now c.loop-i.invariant c.at.ensures c.in_ok-push.ensures.items
