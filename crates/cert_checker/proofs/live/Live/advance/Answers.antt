use Rattle.cert_checker.proofs.AdvanceLaws.{then_ok, any_ok, advances, adopts}
use Rattle.cert_checker.proofs.live.Live.advance.Goals as goal

pub returns-clause-entries : goal.returns-clause-entries
returns-clause-entries c =
    then_ok c.insert_all.result _ _ c.insert_all.ensures (λ inserted cert of.
    advances c.args.self.now.entries c.remove_all.new.map c.insert_all.new.live c.deref.result.now c.args.change cert c.deref.ensures.value of c.remove_all.ensures inserted)

pub returns-clause-parents : goal.returns-clause-parents
returns-clause-parents c =
    any_ok c.insert_all.result _ (λ cert of.
    adopts c.args.self.now.parents c.remove_all-2.new.map c.adopt_all.new.parents c.deref-2.result.now c.deref-3.result.now c.args.change cert c.deref-2.ensures.value c.deref-3.ensures.value of c.remove_all-2.ensures c.in_ok-adopt_all.ensures)
