use Rattle.sdbt_base.specs.declared.lists.Unkept.{Unkept}
use Rattle.cert_checker.proofs.CopyLaws.{copies_map}
use Rattle.cert_checker.proofs.change.pages_of.Goals as goal

pub loop-i-preserved : goal.loop-i-preserved
loop-i-preserved c = copies_map (λ (p : Unkept). p.addr) c.args.pages.now c.loop-i.addrs.items c.push.new.self.items c.loop-i.i c.at.result.now c.loop-i.invariant c.at.ensures c.in_ok-push.ensures.items
