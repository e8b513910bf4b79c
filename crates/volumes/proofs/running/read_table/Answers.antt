use Rattle.std.proofs.Common.{subst, ◌∙◌, ℕ}
use Rattle.volume_table.specs.Tables.{IsTable}
use Rattle.session_calls.proofs.CallLaws.{no_draw}
use Rattle.volumes.proofs.StartLaws.{along_table, first_none, first_table, finds_none, finds_stop, finds_table, read_halt, read_meets}
use Rattle.volumes.proofs.running.read_table.Goals as goal

pub returns-in-Some-clause-along : goal.returns-in-Some-clause-along
returns-in-Some-clause-along g c drawn = along_table g.P.Platform _ _ drawn drawn _ _ _ c.requires.open (c.in-Ok.ensures.goes drawn).along

pub returns-in-None-clause-along : goal.returns-in-None-clause-along
returns-in-None-clause-along g c drawn = along_table g.P.Platform _ _ drawn drawn _ _ _ c.requires.open (c.in-Ok.ensures.goes drawn).along

pub returns-in-Err-clause-along : goal.returns-in-Err-clause-along
returns-in-Err-clause-along g c drawn = along_table g.P.Platform _ _ drawn drawn _ _ _ c.requires.open (c.in-Err.ensures.goes drawn).along

pub returns-in-Some-clause-blame : goal.returns-in-Some-clause-blame
returns-in-Some-clause-blame g c =
    let goes = c.in-Ok.ensures.goes no_draw in
    record { fell = goes.along.fell; quiet = goes.quiet; cause = tt }

pub returns-in-None-clause-blame : goal.returns-in-None-clause-blame
returns-in-None-clause-blame g c =
    let goes = c.in-Ok.ensures.goes no_draw in
    record { fell = goes.along.fell; quiet = tt; cause = goes.quiet }

pub returns-in-Err-clause-blame : goal.returns-in-Err-clause-blame
returns-in-Err-clause-blame g c =
    let goes = c.in-Err.ensures.goes no_draw in
    record { fell = goes.along.fell; quiet = tt; cause = goes.cause }

pub returns-in-Some-clause-table : goal.returns-in-Some-clause-table
returns-in-Some-clause-table g c =
    let along = (c.in-Ok.ensures.goes no_draw).along in
    subst (λ (n : ℕ). IsTable n c.in-Some.table) (c.blocks-in-Ok.ensures ∙ along.blocks) c.in-Some.ensures.found.0

pub returns-in-Some-clause-finds : goal.returns-in-Some-clause-finds
returns-in-Some-clause-finds g c told there array at = finds_table _ _ there array c.read_block.new.out c.in-Some.table (c.in-Ok.ensures.leads told there array at) c.in-Some.ensures.found.1

pub returns-in-None-clause-finds : goal.returns-in-None-clause-finds
returns-in-None-clause-finds g c told there array at =
    finds_none _ _ c.args.session.now _ there array c.read_block.new.out _ at (c.blocks-in-Ok.ensures ∙ (c.in-Ok.ensures.goes no_draw).along.blocks) (c.in-Ok.ensures.leads told there array at) c.in-None.ensures.none

pub returns-in-Err-clause-finds : goal.returns-in-Err-clause-finds
returns-in-Err-clause-finds g c told there array at =
    finds_stop (g.P.Platform.history c.read_block.new.platform).present c.read_block.new.session there array c.read_block.new.out c.in-Err.stop (c.in-Err.ensures.leads told there array at)

pub returns-in-Err-clause-early : goal.returns-in-Err-clause-early
returns-in-Err-clause-early g c = read_halt _ (g.P.Platform.history c.args.platform.now).present (g.P.Platform.history c.read_block.new.platform).present c.args.session.now 0 c.read_block.new.out c.in-Err.stop c.in-Err.ensures.any

pub returns-in-Err-clause-damage : goal.returns-in-Err-clause-damage
returns-in-Err-clause-damage g c told mounted =
    read_meets _ (g.P.Platform.history c.args.platform.now).present (g.P.Platform.history c.read_block.new.platform).present c.args.session.now 0 c.read_block.new.out c.in-Err.stop c.in-Err.ensures.any (told, mounted)

pub returns-in-Some-clause-spelled : goal.returns-in-Some-clause-spelled
returns-in-Some-clause-spelled g c told mounted =
    first_table _ (g.P.Platform.history c.args.platform.now).present (g.P.Platform.history c.read_block.new.platform).present c.args.session.now c.read_block.new.out c.in-Some.table c.in-Ok.ensures.any c.in-Some.ensures.found.1 (told, mounted)

pub returns-in-None-clause-spelled : goal.returns-in-None-clause-spelled
returns-in-None-clause-spelled g c told mounted =
    first_none _ (g.P.Platform.history c.args.platform.now).present (g.P.Platform.history c.read_block.new.platform).present c.args.session.now c.read_block.new.out _ c.in-Ok.ensures.any
    (c.blocks-in-Ok.ensures ∙ (c.in-Ok.ensures.goes no_draw).along.blocks) c.in-None.ensures.none (told, mounted)
