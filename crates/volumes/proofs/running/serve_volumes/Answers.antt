use Rattle.std.proofs.Common.{Ok, Err, inl, inr, refl, sym, ◌∙◌, arith, ℕ, subst}
use Rattle.session_calls.specs.Along.{drawn_by}
use Rattle.volume_table.specs.Tables.{IsTable}
use Rattle.session_calls.proofs.CallLaws.{no_draw}
use Rattle.session_calls.proofs.CarryLaws.{carries_along, carries_end, carries_then}
use Rattle.volumes.proofs.StartLaws.{answers_behind, lines_served, silent_table, spelled_of}
use Rattle.volumes.proofs.StatusLaws.{blames_halt, of_platform}
use Rattle.volumes.proofs.running.serve_volumes.Goals as goal

pub returns-in-Err-clause-carries : goal.returns-in-Err-clause-carries
returns-in-Err-clause-carries g c =
    carries_end _ _ _ _ _ _ _ (λ going. tt)
    (carries_along g.P.Platform g.T.Tape g.L.Sink 0 21 c.args.platform.now c.read_table.new.platform c.args.tape.now c.args.tape.now c.args.ledger.now _ _ c.requires.ready (c.read_table.ensures.along (drawn_by g.T.Tape c.args.tape.now)))

pub returns-in-Err-clause-blame : goal.returns-in-Err-clause-blame
returns-in-Err-clause-blame g c = blames_halt _ _ _ _ c.in-Err.halt (of_platform _ _ _ _ _ _) c.in-Err.ensures.blame

pub returns-in-Err-clause-serves : goal.returns-in-Err-clause-serves
returns-in-Err-clause-serves g c = record { changes = (c.read_table.ensures.along no_draw).changes; serves = inl (c.in-Err.halt, refl, silent_table _ _ _ c.args.first c.read_table.new.session c.in-Err.halt _ _ c.in-Err.ensures.early c.requires.fresh (c.read_table.ensures.along no_draw).cell c.in-Err.ensures.finds c.requires.ready.mounted (λ told. c.in-Err.ensures.spelled told (c.requires.ready.mounted told)) (c.read_table.ensures.along no_draw).reads) }

pub returns-in-Err-clause-idle : goal.returns-in-Err-clause-idle
returns-in-Err-clause-idle g c told of =
    let along = c.read_table.ensures.along no_draw in
    (record { undrawn = refl; untaken = refl; unlisted = refl; pages = omega (arith, along.rises, along.adds); cell = along.cell }, refl)

pub returns-in-Err-clause-damage : goal.returns-in-Err-clause-damage
returns-in-Err-clause-damage g c told = c.in-Err.ensures.damage told (c.requires.ready.mounted told)

pub serve_input-requires-clause-ready : goal.serve_input-requires-clause-ready
serve_input-requires-clause-ready g c =
    let along = c.read_table.ensures.along no_draw in
    record { is_open = along.is_open; mounted = λ told. along.mounted told (c.requires.ready.mounted told) }

pub serve_input-requires-clause-table : goal.serve_input-requires-clause-table
serve_input-requires-clause-table g c = subst (λ (n : ℕ). IsTable n c.in-Ok.table) (sym (c.read_table.ensures.along no_draw).blocks) c.in-Ok.ensures.table

pub returns-in-Ok-serve_input-clause-carries : goal.returns-in-Ok-serve_input-clause-carries
returns-in-Ok-serve_input-clause-carries g c =
    carries_then _ _ _ _ c.args.first c.read_table.new.session _ _ _ tt
    (carries_along g.P.Platform g.T.Tape g.L.Sink 0 21 c.args.platform.now c.read_table.new.platform c.args.tape.now c.args.tape.now c.args.ledger.now _ _ c.requires.ready (c.read_table.ensures.along (drawn_by g.T.Tape c.args.tape.now)))
    c.in-Ok-serve_input.ensures.carries

pub returns-in-Err-serve_input-clause-carries : goal.returns-in-Err-serve_input-clause-carries
returns-in-Err-serve_input-clause-carries g c =
    carries_then _ _ _ _ c.args.first c.read_table.new.session _ _ _ tt
    (carries_along g.P.Platform g.T.Tape g.L.Sink 0 21 c.args.platform.now c.read_table.new.platform c.args.tape.now c.args.tape.now c.args.ledger.now _ _ c.requires.ready (c.read_table.ensures.along (drawn_by g.T.Tape c.args.tape.now)))
    c.in-Err-serve_input.ensures.carries

pub returns-in-Ok-serve_input-clause-serves : goal.returns-in-Ok-serve_input-clause-serves
returns-in-Ok-serve_input-clause-serves g c =
    let along = c.read_table.ensures.along no_draw in
    let ran = c.in-Ok-serve_input.ensures.ran in
    lines_served g.P.Platform.tells _ _ _ _ _ _ (Ok tt) _ _ _ _ _ refl along.changes
    (answers_behind g.P.Platform.tells _ _ _ _ _ c.args.first c.read_table.new.session ran.0 c.in-Ok.table _ (Ok tt) _ _ _ _ (omega (arith, along.rises, along.adds)) refl along.capacity (omega (arith, along.needs)) c.requires.fresh (λ told. along.mounted told (c.requires.ready.mounted told)) along.cell along.reads c.in-Ok.ensures.table c.in-Ok.ensures.finds (λ told. spelled_of _ c.args.first c.in-Ok.table c.requires.fresh (c.requires.ready.mounted told) (c.in-Ok.ensures.spelled told (c.requires.ready.mounted told))) along.blocks (along.forgets.capacity ∙ c.requires.room) ran.1)

pub returns-in-Err-serve_input-clause-serves : goal.returns-in-Err-serve_input-clause-serves
returns-in-Err-serve_input-clause-serves g c =
    let along = c.read_table.ensures.along no_draw in
    let ran = c.in-Err-serve_input.ensures.ran in
    lines_served g.P.Platform.tells _ _ _ _ _ _ (Err c.in-Err-serve_input.stop) _ _ _ _ _ refl along.changes
    (answers_behind g.P.Platform.tells _ _ _ _ _ c.args.first c.read_table.new.session ran.0 c.in-Ok.table _ (Err c.in-Err-serve_input.stop) _ _ _ _ (omega (arith, along.rises, along.adds)) refl along.capacity (omega (arith, along.needs)) c.requires.fresh (λ told. along.mounted told (c.requires.ready.mounted told)) along.cell along.reads c.in-Ok.ensures.table c.in-Ok.ensures.finds (λ told. spelled_of _ c.args.first c.in-Ok.table c.requires.fresh (c.requires.ready.mounted told) (c.in-Ok.ensures.spelled told (c.requires.ready.mounted told))) along.blocks (along.forgets.capacity ∙ c.requires.room) ran.1)
