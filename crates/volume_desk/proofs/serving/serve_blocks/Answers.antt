use Rattle.std.proofs.Common.{◌+◌, arith}
use Rattle.std.proofs.Math.Nat.{le_refl}
use Rattle.device_session.specs.Open.{blocks_of}
use Rattle.session_calls.specs.Along.{drawn_by}
use Rattle.volume_lines.specs.Lines.{Create}
use Rattle.volume_lines.specs.declared.lines.Line.TheVariants as parsed
use Rattle.session_calls.proofs.CallLaws.{calls_more}
use Rattle.volume_desk.specs.Causes.{sizes}
use Rattle.volume_desk.specs.Drawing.{tally}
use Rattle.volume_desk.proofs.CauseLaws.{over_as}
use Rattle.volume_desk.proofs.DrawingLaws.{read_spends, spends_as, spends_some, trim_spends}
use Rattle.volume_desk.proofs.ReadLaws.{calls_as}
use Rattle.volume_desk.proofs.TurnLaws.{turns_as}
use Rattle.volume_desk.proofs.serving.serve_blocks.Goals as goal

pub returns-in-Create-clause-calls : goal.returns-in-Create-clause-calls
returns-in-Create-clause-calls g c =
    calls_as g.P.Platform (1 + blocks_of c.args.session.now) _ _ _ _ _ _ c.args.desk.now.table c.args.line.now (parsed.Create c.in-Create.name c.in-Create.count) c.args.desk.now.buffer _ c.create.result c.in-Create.is (c.create.ensures.calls c.args.desk.now.buffer)

pub returns-in-Create-clause-turns : goal.returns-in-Create-clause-turns
returns-in-Create-clause-turns g c told entry held =
    turns_as _ _ _ _ _ _ entry c.args.line.now (parsed.Create c.in-Create.name c.in-Create.count) c.args.desk.now.buffer _ c.create.result c.in-Create.is (c.create.ensures.turns told entry _ held)

pub returns-in-Read-clause-calls : goal.returns-in-Read-clause-calls
returns-in-Read-clause-calls g c =
    calls_as g.P.Platform (1 + blocks_of c.args.session.now) _ _ _ _ _ _ c.args.desk.now.table c.args.line.now (parsed.Read c.in-Read.name c.in-Read.block) c.args.desk.now.buffer _ c.read.result c.in-Read.is
    (calls_more g.P.Platform 0 (1 + blocks_of c.args.session.now) _ _ _ _ _ _ _ _ c.read.result (omega arith) (le_refl _) (c.read.ensures.calls (drawn_by g.T.Tape c.args.tape.now)))

pub returns-in-Read-clause-turns : goal.returns-in-Read-clause-turns
returns-in-Read-clause-turns g c told entry held =
    turns_as _ _ _ _ _ _ entry c.args.line.now (parsed.Read c.in-Read.name c.in-Read.block) c.args.desk.now.buffer _ c.read.result c.in-Read.is (c.read.ensures.turns told entry held)

pub returns-in-Write-clause-calls : goal.returns-in-Write-clause-calls
returns-in-Write-clause-calls g c =
    calls_as g.P.Platform (1 + blocks_of c.args.session.now) _ _ _ _ _ _ c.args.desk.now.table c.args.line.now (parsed.Write c.in-Write.name c.in-Write.block c.in-Write.count) c.args.desk.now.buffer _ c.write.result c.in-Write.is
    (calls_more g.P.Platform 1 (1 + blocks_of c.args.session.now) _ _ _ _ _ _ _ _ c.write.result (omega arith) (le_refl _) (c.write.ensures.calls c.args.desk.now.buffer))

pub returns-in-Write-clause-turns : goal.returns-in-Write-clause-turns
returns-in-Write-clause-turns g c told entry held =
    turns_as _ _ _ _ _ _ entry c.args.line.now (parsed.Write c.in-Write.name c.in-Write.block c.in-Write.count) c.args.desk.now.buffer _ c.write.result c.in-Write.is (c.write.ensures.turns told entry _ held)

pub returns-in-Trim-clause-calls : goal.returns-in-Trim-clause-calls
returns-in-Trim-clause-calls g c =
    calls_as g.P.Platform (1 + blocks_of c.args.session.now) _ _ _ _ _ _ c.args.desk.now.table c.args.line.now (parsed.Trim c.in-Trim.name c.in-Trim.block) c.args.desk.now.buffer _ c.trim.result c.in-Trim.is
    (calls_more g.P.Platform 1 (1 + blocks_of c.args.session.now) _ _ _ _ _ _ _ _ c.trim.result (omega arith) (le_refl _) (c.trim.ensures.calls (drawn_by g.T.Tape c.args.tape.now) c.args.desk.now.buffer))

pub returns-in-Trim-clause-turns : goal.returns-in-Trim-clause-turns
returns-in-Trim-clause-turns g c told entry held =
    turns_as _ _ _ _ _ _ entry c.args.line.now (parsed.Trim c.in-Trim.name c.in-Trim.block) c.args.desk.now.buffer _ c.trim.result c.in-Trim.is (c.trim.ensures.turns told entry _ held)

pub returns-in-Create-clause-any : goal.returns-in-Create-clause-any
returns-in-Create-clause-any g c =
    over_as g.P.Platform.tells (g.P.Platform.history c.args.platform.now).present (g.P.Platform.history c.create.new.platform).present c.args.session.now c.create.new.session (sizes (blocks_of c.args.session.now) (g.P.Platform.head c.create.new.platform) (g.P.Platform.capacity c.create.new.platform)) c.args.desk.now.table c.create.new.table c.args.line.now (parsed.Create c.in-Create.name c.in-Create.count) c.args.desk.now.buffer _ c.create.result c.in-Create.is (c.create.ensures.any _)

pub returns-in-Read-clause-any : goal.returns-in-Read-clause-any
returns-in-Read-clause-any g c =
    over_as g.P.Platform.tells (g.P.Platform.history c.args.platform.now).present (g.P.Platform.history c.read.new.platform).present c.args.session.now c.read.new.session (sizes (blocks_of c.args.session.now) (g.P.Platform.head c.read.new.platform) (g.P.Platform.capacity c.read.new.platform)) c.args.desk.now.table c.args.desk.now.table c.args.line.now (parsed.Read c.in-Read.name c.in-Read.block) c.args.desk.now.buffer _ c.read.result c.in-Read.is c.read.ensures.any

pub returns-in-Write-clause-any : goal.returns-in-Write-clause-any
returns-in-Write-clause-any g c =
    over_as g.P.Platform.tells (g.P.Platform.history c.args.platform.now).present (g.P.Platform.history c.write.new.platform).present c.args.session.now c.write.new.session (sizes (blocks_of c.args.session.now) (g.P.Platform.head c.write.new.platform) (g.P.Platform.capacity c.write.new.platform)) c.args.desk.now.table c.args.desk.now.table c.args.line.now (parsed.Write c.in-Write.name c.in-Write.block c.in-Write.count) c.args.desk.now.buffer _ c.write.result c.in-Write.is (c.write.ensures.any _)

pub returns-in-Trim-clause-any : goal.returns-in-Trim-clause-any
returns-in-Trim-clause-any g c =
    over_as g.P.Platform.tells (g.P.Platform.history c.args.platform.now).present (g.P.Platform.history c.trim.new.platform).present c.args.session.now c.trim.new.session (sizes (blocks_of c.args.session.now) (g.P.Platform.head c.trim.new.platform) (g.P.Platform.capacity c.trim.new.platform)) c.args.desk.now.table c.args.desk.now.table c.args.line.now (parsed.Trim c.in-Trim.name c.in-Trim.block) c.args.desk.now.buffer _ c.trim.result c.in-Trim.is (c.trim.ensures.any _)

pub returns-in-Create-clause-spends : goal.returns-in-Create-clause-spends
returns-in-Create-clause-spends g c =
    spends_as g.P.Platform.tells c.args.tape.now c.create.new.tape (tally (g.T.Tape.drawn c.args.tape.now) (g.P.Platform.head c.args.platform.now)) (tally (g.T.Tape.drawn c.create.new.tape) (g.P.Platform.head c.create.new.platform)) _ _ c.args.desk.now.table c.args.line.now (parsed.Create c.in-Create.name c.in-Create.count) c.args.desk.now.buffer _ c.create.result c.in-Create.is
    (spends_some g.P.Platform.tells _ _ _ _ _ _ c.args.desk.now.table (Create c.in-Create.name c.in-Create.count) _ c.create.result tt (c.create.ensures.drew c.args.desk.now.buffer) (c.create.ensures.calls c.args.desk.now.buffer).along.reads)

pub returns-in-Read-clause-spends : goal.returns-in-Read-clause-spends
returns-in-Read-clause-spends g c =
    let along = (c.read.ensures.calls (drawn_by g.T.Tape c.args.tape.now)).along in
    spends_as g.P.Platform.tells c.args.tape.now c.args.tape.now (tally (g.T.Tape.drawn c.args.tape.now) (g.P.Platform.head c.args.platform.now)) (tally (g.T.Tape.drawn c.args.tape.now) (g.P.Platform.head c.read.new.platform)) _ _ c.args.desk.now.table c.args.line.now (parsed.Read c.in-Read.name c.in-Read.block) c.args.desk.now.buffer _ c.read.result c.in-Read.is
    (read_spends g.P.Platform.tells c.args.tape.now (g.T.Tape.drawn c.args.tape.now) (g.P.Platform.head c.args.platform.now) (g.P.Platform.head c.read.new.platform) _ _ c.args.desk.now.table c.in-Read.name c.in-Read.block _ c.read.result (omega (arith, along.rises, along.adds)) along.reads)

pub returns-in-Write-clause-spends : goal.returns-in-Write-clause-spends
returns-in-Write-clause-spends g c =
    spends_as g.P.Platform.tells c.args.tape.now c.write.new.tape (tally (g.T.Tape.drawn c.args.tape.now) (g.P.Platform.head c.args.platform.now)) (tally (g.T.Tape.drawn c.write.new.tape) (g.P.Platform.head c.write.new.platform)) _ _ c.args.desk.now.table c.args.line.now (parsed.Write c.in-Write.name c.in-Write.block c.in-Write.count) c.args.desk.now.buffer _ c.write.result c.in-Write.is
    (spends_some g.P.Platform.tells _ _ _ _ _ _ c.args.desk.now.table _ _ c.write.result tt (c.write.ensures.drew c.args.desk.now.buffer) (c.write.ensures.calls c.args.desk.now.buffer).along.reads)

pub returns-in-Trim-clause-spends : goal.returns-in-Trim-clause-spends
returns-in-Trim-clause-spends g c =
    spends_as g.P.Platform.tells c.args.tape.now c.args.tape.now (tally (g.T.Tape.drawn c.args.tape.now) (g.P.Platform.head c.args.platform.now)) (tally (g.T.Tape.drawn c.args.tape.now) (g.P.Platform.head c.trim.new.platform)) _ _ c.args.desk.now.table c.args.line.now (parsed.Trim c.in-Trim.name c.in-Trim.block) c.args.desk.now.buffer _ c.trim.result c.in-Trim.is
    (trim_spends g.P.Platform.tells c.args.tape.now (g.T.Tape.drawn c.args.tape.now) (g.P.Platform.head c.args.platform.now) (g.P.Platform.head c.trim.new.platform) _ _ c.args.desk.now.table c.in-Trim.name c.in-Trim.block _ c.trim.result c.trim.ensures.head
    (c.trim.ensures.calls (drawn_by g.T.Tape c.args.tape.now) c.args.desk.now.buffer).along.reads)
