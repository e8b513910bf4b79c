use Rattle.sdbt_base.specs.Traces.{Traced}
use Rattle.cert_maker.specs.Added.{traced}
use Rattle.cert_checker.proofs.CopyLaws.{copies_map}
use Rattle.cert_checker.proofs.change.addrs_of.Goals as goal

pub loop-i-preserved : goal.loop-i-preserved
loop-i-preserved c = copies_map (λ (t : Traced). t.addr) c.args.added.now c.loop-i.addrs.items c.push.new.self.items c.loop-i.i (traced c.at.result.now) c.loop-i.invariant c.at.ensures c.in_ok-push.ensures.items
