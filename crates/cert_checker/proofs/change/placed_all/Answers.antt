use Rattle.cert_maker.specs.Added.{traced}
use Rattle.cert_checker.specs.Held.{traced_of}
use Rattle.cert_checker.proofs.CopyLaws.{stands_more}
use Rattle.cert_checker.proofs.change.placed_all.Goals as goal

pub loop-i-preserved : goal.loop-i-preserved
loop-i-preserved c = stands_more traced_of c.args.added.now c.loop-i.items.items c.push.new.self.items c.loop-i.i c.in_ok-placed_of.field-0 (traced c.at.result.now) c.loop-i.invariant c.at.ensures c.in_ok-placed_of.ensures c.in_ok-push.ensures.items
