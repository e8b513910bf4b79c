use Rattle.std.proofs.Common.{None, Some, refl}
use Rattle.device_course.specs.States.{Outside, around}
use Rattle.device_session.specs.Open.{blocks_of}
use Rattle.volume_desk.proofs.CauseLaws.{may_meets}
use Rattle.volume_lines.specs.Lines.{Line, asked}
use Rattle.volume_lines.specs.Replies.{Bad, said}
use Rattle.volume_serving.specs.World.{World, world}
use Rattle.volume_serving.specs.Drawing.{tally_of}
use Rattle.volume_serving.proofs.DrawingLaws.{until_cut}
use Rattle.volume_serving.proofs.HandledLaws.{bad_says, bad_turn, later_none, line_stop, line_told, served_says, served_turn, still_of}
use Rattle.std.specs.Prelude.{option_copied}
use Rattle.session_calls.proofs.CarryLaws.{carries_start}
use Rattle.volume_serving.proofs.ServingLaws.{carries_told, some_text}
use Rattle.volume_serving.proofs.serving.answer.Goals as goal

pub returns-in_default-clause-handled : goal.returns-in_default-clause-handled
returns-in_default-clause-handled g c text kept =
    let old : World = world g.P.Platform g.T.Tape g.L.Sink (Some c.args.session) c.args.desk.now.table c.args.platform.now c.args.tape.now c.args.ledger.now in
    line_told g.P.Platform.tells (blocks_of c.args.session) old old.outside old.changes c.args.session c.args.desk.now.table text Bad c.tell.result (g.O.Sink.written c.args.output.now) (g.O.Sink.written c.tell.new.output)
    (later_none old.outside (g.met.P.Platform.has_room c.args.platform.now)) (bad_says g.P.Platform.tells (blocks_of c.args.session) old c.args.session text refl (c.in_default.ensures.none text kept)) (λ told entry on. bad_turn old c.args.session entry text refl (c.in_default.ensures.none text kept) on) c.tell.ensures.session c.tell.ensures.put

pub returns-in-Ok-clause-handled : goal.returns-in-Ok-clause-handled
returns-in-Ok-clause-handled g c text kept =
    let old : World = world g.P.Platform g.T.Tape g.L.Sink (Some c.args.session) c.args.desk.now.table c.args.platform.now c.args.tape.now c.args.ledger.now in
    let carries = c.serve_line.ensures.carries in
    let new : Outside = around g.P.Platform g.T.Tape g.L.Sink c.serve_line.new.platform c.serve_line.new.tape c.serve_line.new.ledger in
    let it : Line = asked c.in-Some.line c.read_line.new.buffer in
    let spends = c.in-Ok.ensures.spends in
    let says = served_says g.P.Platform.tells (blocks_of c.args.session) old c.args.session c.in-Ok.done.session c.serve_line.new.desk.table new (g.P.Platform.changes c.serve_line.new.platform) text it (said c.in-Ok.done.reply c.serve_line.new.desk.buffer) refl (c.in-Some.ensures.found text kept) carries.keeps.keys.extends c.in-Ok.ensures.carries.ready.mounted c.in-Ok.ensures.carries.blocks
    c.in-Ok.ensures.any spends.drew (still_of g.T.Tape.drawn c.args.tape.now c.serve_line.new.tape (g.P.Platform.head c.args.platform.now) (g.P.Platform.head c.serve_line.new.platform) it spends.undrawn spends.unadded) spends.read c.in-Ok.ensures.changes (λ told. g.met.P.Platform.counts_pages told c.serve_line.new.platform) in
    line_told g.P.Platform.tells (blocks_of c.args.session) old new (g.P.Platform.changes c.serve_line.new.platform) c.in-Ok.done.session c.serve_line.new.desk.table text (said c.in-Ok.done.reply c.serve_line.new.desk.buffer)
    c.tell-in-Ok.result (g.O.Sink.written c.args.output.now) (g.O.Sink.written c.tell-in-Ok.new.output)
    (record { capacity = carries.capacity; rises = carries.rises; within = g.met.P.Platform.has_room c.serve_line.new.platform })
    says
    (λ told entry on. served_turn old _ c.args.session c.in-Ok.done.session c.serve_line.new.desk.table entry text (asked c.in-Some.line c.read_line.new.buffer) _ refl (c.in-Some.ensures.found text kept) on (λ held. c.in-Ok.ensures.serves told entry held))
    c.tell-in-Ok.ensures.session c.tell-in-Ok.ensures.put

pub returns-in-Err-clause-handled : goal.returns-in-Err-clause-handled
returns-in-Err-clause-handled g c text kept =
    let old : World = world g.P.Platform g.T.Tape g.L.Sink (Some c.args.session) c.args.desk.now.table c.args.platform.now c.args.tape.now c.args.ledger.now in
    let new : World = world g.P.Platform g.T.Tape g.L.Sink None c.serve_line.new.desk.table c.serve_line.new.platform c.serve_line.new.tape c.serve_line.new.ledger in
    let carries = c.serve_line.ensures.carries in
    let it : Line = asked c.in-Some.line c.read_line.new.buffer in
    let spends = c.in-Err.ensures.spends in
    line_stop g.P.Platform.tells (blocks_of c.args.session) old new c.args.session text (asked c.in-Some.line c.read_line.new.buffer) c.in-Err.stop (g.O.Sink.written c.args.output.now) refl (c.in-Some.ensures.found text kept) c.in-Err.ensures.any
    (record { capacity = carries.capacity; rises = carries.rises; within = g.met.P.Platform.has_room c.serve_line.new.platform }) carries.keeps.keys.extends
    (until_cut (tally_of old.outside) (tally_of new.outside) text it carries.keeps.keys.grew (c.in-Some.ensures.found text kept)
    (still_of g.T.Tape.drawn c.args.tape.now c.serve_line.new.tape (g.P.Platform.head c.args.platform.now) (g.P.Platform.head c.serve_line.new.platform) it spends.undrawn spends.unadded) carries.keeps.keys.drew)
    spends.read c.in-Err.ensures.changes
    (λ told entry held. c.in-Err.ensures.serves told entry held)

pub returns-in_default-clause-carries : goal.returns-in_default-clause-carries
returns-in_default-clause-carries g c = carries_told _ _ _ c.args.session c.args.session (Unit {0}) c.tell.result tt c.tell.ensures.session (carries_start _ _ c.args.session c.requires.ready)

pub serve_line-requires-clause-spelled : goal.serve_line-requires-clause-spelled
serve_line-requires-clause-spelled g c = let text = some_text (option_copied c.args.line) in (text.0, c.in-Some.ensures.found text.0 text.1)

pub returns-in-Ok-clause-carries : goal.returns-in-Ok-clause-carries
returns-in-Ok-clause-carries g c = carries_told _ _ _ c.args.session c.in-Ok.done.session _ c.tell-in-Ok.result refl c.tell-in-Ok.ensures.session c.in-Ok.ensures.carries

pub returns-in-Err-clause-damage : goal.returns-in-Err-clause-damage
returns-in-Err-clause-damage g c told = may_meets g.P.Platform.tells _ c.args.session c.args.desk.now.table (asked c.in-Some.line c.read_line.new.buffer) c.in-Err.stop c.in-Err.ensures.any.0 told
