use Rattle.std.proofs.Common.{◌+◌}
use Rattle.sdbt_base.proofs.RiseLaws.{counted_not}
use Rattle.device_session.specs.Open.{blocks_of}
use Rattle.session_calls.specs.Damage.{IsMounted}
use Rattle.volume_lines.specs.Lines.{asked}
use Rattle.volume_desk.specs.Causes.{answer_in, sizes}
use Rattle.volume_desk.specs.Drawing.{tally}
use Rattle.volume_desk.specs.Turns.{goes_on}
use Rattle.volume_desk.proofs.DrawingLaws.{spends_as}
use Rattle.volume_lines.specs.declared.lines.Line.TheVariants as parsed
use Rattle.session_calls.proofs.CarryLaws.{carries_along, carries_end, carries_going}
use Rattle.volume_desk.proofs.SyncLaws.{changes_as}
use Rattle.volume_desk.proofs.CauseLaws.{along_as, stops_known}
use Rattle.volume_desk.proofs.DoneLaws.{answered_along}
use Rattle.volume_desk.proofs.TurnLaws.{changed_served, serves_as, stopped_kept}
use Rattle.volume_desk.proofs.serving.serve_line.Goals as goal

pub returns-in-Commit-clause-serves : goal.returns-in-Commit-clause-serves
returns-in-Commit-clause-serves g c told entry held =
    serves_as _ _ _ _ _ c.args.desk.now.buffer entry c.args.line.now parsed.Commit c.commit.result c.in-Commit.is (c.commit.ensures.serves told entry c.args.desk.now.table _ held)

pub returns-in-Destroy-clause-serves : goal.returns-in-Destroy-clause-serves
returns-in-Destroy-clause-serves g c told entry held =
    serves_as _ _ _ _ _ c.args.desk.now.buffer entry c.args.line.now (parsed.Destroy c.in-Destroy.name) c.destroy.result c.in-Destroy.is (c.destroy.ensures.serves told entry _ held)

pub returns-in-Ok-clause-carries : goal.returns-in-Ok-clause-carries
returns-in-Ok-clause-carries g c =
    carries_going _ _ _ _ _ _ _ (λ going. tt)
    (carries_along g.P.Platform g.T.Tape g.L.Sink (1 + blocks_of c.args.first) _ c.args.platform.now c.serve_blocks.new.platform c.args.tape.now c.serve_blocks.new.tape c.args.ledger.now _ _ c.requires.ready c.serve_blocks.ensures.calls.along)

pub returns-in-Ok-clause-serves : goal.returns-in-Ok-clause-serves
returns-in-Ok-clause-serves g c told entry held =
    changed_served _ _ c.args.first _ _ _ entry (asked c.args.line.now c.args.desk.now.buffer) _ held (c.serve_blocks.ensures.calls.along.cell told) (c.in-Ok.ensures.turns told entry held)

pub returns-in-Err-clause-carries : goal.returns-in-Err-clause-carries
returns-in-Err-clause-carries g c =
    carries_end _ _ _ _ _ _ _ (λ going. tt)
    (carries_along g.P.Platform g.T.Tape g.L.Sink (1 + blocks_of c.args.first) _ c.args.platform.now c.serve_blocks.new.platform c.args.tape.now c.serve_blocks.new.tape c.args.ledger.now _ _ c.requires.ready c.serve_blocks.ensures.calls.along)

pub returns-in-Err-clause-serves : goal.returns-in-Err-clause-serves
returns-in-Err-clause-serves g c told entry held =
    stopped_kept _ _ c.args.first _ entry (asked c.args.line.now c.args.desk.now.buffer) c.in-Err.stop held (c.serve_blocks.ensures.calls.along.cell told) (c.in-Err.ensures.turns told entry held)

pub returns-in-Commit-clause-any : goal.returns-in-Commit-clause-any
returns-in-Commit-clause-any g c =
    along_as g.P.Platform.tells (g.P.Platform.history c.args.platform.now) (g.P.Platform.history c.commit.new.platform) c.args.first (goes_on c.commit.result) (sizes (blocks_of c.args.first) (g.P.Platform.head c.commit.new.platform) (g.P.Platform.capacity c.commit.new.platform)) c.args.desk.now.table c.args.desk.now.table c.args.line.now parsed.Commit c.args.desk.now.buffer _ (answer_in c.commit.result) c.in-Commit.is (c.commit.ensures.any c.args.desk.now.table _)

pub returns-in-Destroy-clause-any : goal.returns-in-Destroy-clause-any
returns-in-Destroy-clause-any g c =
    along_as g.P.Platform.tells (g.P.Platform.history c.args.platform.now) (g.P.Platform.history c.destroy.new.platform) c.args.first (goes_on c.destroy.result) (sizes (blocks_of c.args.first) (g.P.Platform.head c.destroy.new.platform) (g.P.Platform.capacity c.destroy.new.platform)) c.args.desk.now.table c.destroy.new.table c.args.line.now (parsed.Destroy c.in-Destroy.name) c.args.desk.now.buffer _ (answer_in c.destroy.result) c.in-Destroy.is (c.destroy.ensures.any _)

pub returns-in-Ok-clause-any : goal.returns-in-Ok-clause-any
returns-in-Ok-clause-any g c =
    let along = c.serve_blocks.ensures.calls.along in
    answered_along g.P.Platform.tells (g.P.Platform.history c.args.platform.now) (g.P.Platform.history c.serve_blocks.new.platform) c.args.first c.serve_blocks.new.session
    (sizes (blocks_of c.args.first) (g.P.Platform.head c.serve_blocks.new.platform) (g.P.Platform.capacity c.serve_blocks.new.platform)) c.args.desk.now.table c.serve_blocks.new.desk.table (asked c.args.line.now c.args.desk.now.buffer)
    c.serve_blocks.new.desk.buffer c.in-Ok.reply (λ told. (along.cell told).extends) c.requires.ready.mounted (λ told. along.mounted told (c.requires.ready.mounted told)) c.in-Ok.ensures.any

pub returns-in-Err-clause-any : goal.returns-in-Err-clause-any
returns-in-Err-clause-any g c =
    stops_known (g.P.Platform.tells × IsMounted (g.P.Platform.history c.args.platform.now).present c.args.first) g.P.Platform.tells (g.P.Platform.history c.serve_blocks.new.platform).present c.args.first (blocks_of c.args.first) c.args.desk.now.table (asked c.args.line.now c.args.desk.now.buffer) c.in-Err.stop
    (λ told. (told, c.requires.ready.mounted told)) c.in-Err.ensures.any

pub returns-in-Commit-clause-spends : goal.returns-in-Commit-clause-spends
returns-in-Commit-clause-spends g c =
    spends_as g.P.Platform.tells c.args.tape.now c.commit.new.tape (tally (g.T.Tape.drawn c.args.tape.now) (g.P.Platform.head c.args.platform.now)) (tally (g.T.Tape.drawn c.commit.new.tape) (g.P.Platform.head c.commit.new.platform)) _ _ c.args.desk.now.table c.args.line.now parsed.Commit c.args.desk.now.buffer _ (answer_in c.commit.result) c.in-Commit.is
    (c.commit.ensures.spends c.args.desk.now.table c.args.desk.now.buffer)

pub returns-in-Destroy-clause-spends : goal.returns-in-Destroy-clause-spends
returns-in-Destroy-clause-spends g c =
    spends_as g.P.Platform.tells c.args.tape.now c.destroy.new.tape (tally (g.T.Tape.drawn c.args.tape.now) (g.P.Platform.head c.args.platform.now)) (tally (g.T.Tape.drawn c.destroy.new.tape) (g.P.Platform.head c.destroy.new.platform)) _ _ c.args.desk.now.table c.args.line.now (parsed.Destroy c.in-Destroy.name) c.args.desk.now.buffer _ (answer_in c.destroy.result) c.in-Destroy.is
    (c.destroy.ensures.spends c.args.desk.now.buffer)

pub returns-in-Ok-clause-spends : goal.returns-in-Ok-clause-spends
returns-in-Ok-clause-spends g c = c.in-Ok.ensures.spends

pub returns-in-Err-clause-spends : goal.returns-in-Err-clause-spends
returns-in-Err-clause-spends g c = c.in-Err.ensures.spends

pub returns-in-Commit-clause-changes : goal.returns-in-Commit-clause-changes
returns-in-Commit-clause-changes g c told = changes_as _ _ c.args.line.now parsed.Commit c.args.desk.now.buffer _ (answer_in c.commit.result) c.in-Commit.is (c.commit.ensures.changes told c.args.desk.now.buffer)

pub returns-in-Destroy-clause-changes : goal.returns-in-Destroy-clause-changes
returns-in-Destroy-clause-changes g c told = changes_as _ _ c.args.line.now (parsed.Destroy c.in-Destroy.name) c.args.desk.now.buffer _ (answer_in c.destroy.result) c.in-Destroy.is (c.destroy.ensures.changes told c.args.desk.now.buffer)

pub returns-in-Ok-clause-changes : goal.returns-in-Ok-clause-changes
returns-in-Ok-clause-changes g c told = counted_not _ _ _ (c.serve_blocks.ensures.calls.along.changes told)

pub returns-in-Err-clause-changes : goal.returns-in-Err-clause-changes
returns-in-Err-clause-changes g c told = counted_not _ _ _ (c.serve_blocks.ensures.calls.along.changes told)
