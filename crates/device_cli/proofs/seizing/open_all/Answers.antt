use Rattle.std.proofs.Common.{ℕ, List, inr, refl, subst}
use Rattle.seizure.specs.Report.{BeginsSome}
use Rattle.device_cli.proofs.seizing.open_all.Goals as goal

pub returns-clause-memory : goal.returns-clause-memory
returns-clause-memory g c told lacks =
    let P = g.P.Platform in
    let start = c.args.platform.now in
    inr (subst (λ (keys : List (List ℕ)). BeginsSome (P.head start) (P.history start).present.cell keys) c.in-Ok.ensures.same
    ((rw c.in-Err-Memory.field-0-is at c.in-Err-Memory.ensures.memory) told refl))
