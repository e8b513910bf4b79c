use Rattle.base_tests.proofs.volume_tables.Device.take_out.Goals as goal

pub invariant_of-self : goal.invariant_of-self
invariant_of-self c = c.remove.ensures.table _ c.self.invariant
