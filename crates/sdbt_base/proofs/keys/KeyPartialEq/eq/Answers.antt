use Rattle.std.proofs.Common.{sym, ◌∙◌}
use Rattle.sdbt_base.proofs.KeyLaws.{decided_behind, decided_in_front}
use Rattle.sdbt_base.proofs.keys.KeyPartialEq.eq.Goals as goal

pub returns-then-eq : goal.returns-then-eq
returns-then-eq c =
    decided_behind c.self.inside.bytes c.other.inside.bytes c.args.self.now c.args.other.now c.self.inside.digest c.other.inside.digest c.self.invariant c.other.invariant
    c.self.view_is c.other.view_is c.eq-then-eq.result (sym c.if-eq.true ∙ c.eq.ensures) c.eq-then-eq.ensures

pub returns-else-eq : goal.returns-else-eq
returns-else-eq c =
    decided_in_front c.self.inside.bytes c.other.inside.bytes c.args.self.now c.args.other.now c.self.inside.digest c.other.inside.digest c.self.invariant c.other.invariant
    c.self.view_is c.other.view_is c.eq.result c.if-eq.false (sym c.if-eq.false ∙ c.eq.ensures)
