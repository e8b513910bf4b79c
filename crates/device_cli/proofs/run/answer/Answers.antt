use Rattle.std.proofs.Common.{◌≡◌, ℕ, List, [], ◌∷◌, inl, inr, refl, ap, arith}
use Rattle.platform.specs.History.{Extends}
use Rattle.platform.proofs.Moments.{Extends-refl}
use Rattle.script_lang.specs.Commands.{asked}
use Rattle.script_lang.specs.Replies.{Bad, Full, said}
use Rattle.script_lang.specs.declared.replies.Reply.{Reply as Given}
use Rattle.script_lang.specs.declared.replies.Reply.TheVariants as given
use Rattle.device_cli.specs.World.{World, IsLater, world_by, world_of}
use Rattle.line_run.specs.Puts.{no_line}
use Rattle.device_cli.proofs.RepliedLaws.{IsLater-refl, halts_by, Handled-line, Handled-stop, turned_bad, turned_command, tells_short}
use Rattle.device_cli.proofs.CellLaws.{served_at}
use Rattle.device_cli.proofs.ReplyLaws.{so_there, so_line}
use Rattle.page_store.proofs.KeepingLaws.{drew_none}
use Rattle.device_cli.proofs.DrawingLaws.{until_line, until_none, until_cut}
use Rattle.device_cli.proofs.LookLaws.{changes_most, looks_bad, looks_line}
use Rattle.device_cli.proofs.WipedLaws.{ended_wiped}
use Rattle.device_course.proofs.KeysLaws.{on_start, on_done}
use Rattle.device_cli.proofs.Choices.{on_ok}
use Rattle.device_cli.proofs.run.answer.Goals as goal

pub returns-in_default-clause-handled : goal.returns-in_default-clause-handled
returns-in_default-clause-handled g c text kept =
    let P = g.P.Platform in
    let written = g.O.Sink.written in
    let old : World = world_by P g.T.Tape c.args.desk.now.session c.args.platform.now c.args.tape.now in
    Handled-line P.tells old old no_line text Bad c.put_reply.result (written c.args.output.now) (written c.put_reply.new.output)
    (IsLater-refl old (g.met.P.Platform.has_room c.args.platform.now)) (until_line old.drawn old.drawn text Bad [] (inl (c.in_default.ensures.none text kept, refl)) (drew_none old.drawn old.drawn refl))
    (until_none old.drawn old.drawn (text ∷ []) refl) (so_line P.tells old.history old.history old.session old.session text Bad (λ told. Extends-refl old.history) (λ told. inl (c.in_default.ensures.none text kept, refl, refl, refl))) (λ updates enough e. absurd cc) (λ updates enough. enough) (looks_bad P.tells old old text (Bad ∷ []) _ (c.in_default.ensures.none text kept) refl (λ told. (omega arith, refl)))
    (λ told entry updates rep enough. turned_bad old entry updates text (c.in_default.ensures.none text kept) rep) c.put_reply.ensures.put

-- what is said is that no page was free only where that was given
full_as_said : (reply : Given) (buffer : List ℕ) (X : Type 0) → (reply ≡ given.Full → X) → said reply buffer ≡ Full → X
full_as_said given.Full buffer X full e = full refl
full_as_said given.Formatted buffer X full e = cc
full_as_said (given.Mounted number) buffer X full e = cc
full_as_said (given.Content count) buffer X full e = cc
full_as_said given.Done buffer X full e = cc
full_as_said (given.Committed number) buffer X full e = cc
full_as_said given.Dropped buffer X full e = cc
full_as_said given.Erased buffer X full e = cc
full_as_said (given.Upgraded number) buffer X full e = cc
full_as_said (given.Stat mapped number) buffer X full e = cc
full_as_said (given.Seized pages nodes blocks) buffer X full e = cc
full_as_said given.Bad buffer X full e = cc
full_as_said given.Unmounted buffer X full e = cc
full_as_said given.AlreadyMounted buffer X full e = cc
full_as_said given.NotEmpty buffer X full e = cc
full_as_said given.NoDevice buffer X full e = cc
full_as_said given.AlreadyUpgraded buffer X full e = cc
full_as_said given.Range buffer X full e = cc

pub returns-in-Ok-clause-handled : goal.returns-in-Ok-clause-handled
returns-in-Ok-clause-handled g c text kept =
    let P = g.P.Platform in
    let written = g.O.Sink.written in
    let old : World = world_by P g.T.Tape c.args.desk.now.session c.args.platform.now c.args.tape.now in
    let new : World = world_by P g.T.Tape c.serve.new.self.session c.serve.new.platform c.serve.new.tape in
    let later : IsLater old new = record { capacity = c.serve.ensures.after.capacity; rises = c.serve.ensures.after.rises; within = g.met.P.Platform.has_room c.serve.new.platform } in
    let command = asked c.in-Some.command c.read_line.new.buffer in
    let reply = said c.in-Ok.reply c.serve.new.self.buffer in
    let spent = c.in-Ok.ensures.still.drew in
    let extended : P.tells → Extends old.history new.history = λ told. (c.serve.ensures.keeps.serves told (c.requires.cell told)).extends in
    Handled-line P.tells old new no_line text reply c.put_reply-in-Ok.result (written c.args.output.now) (written c.put_reply-in-Ok.new.output)
    later (until_line old.drawn new.drawn text reply spent.0 (inr (command, c.in-Some.ensures.found text kept, spent.1)) spent.2)
    (until_cut old.drawn new.drawn text command spent.0 (c.in-Some.ensures.found text kept) (λ none. ap g.T.Tape.drawn (c.in-Ok.ensures.still.undrawn none)) spent.2) (so_line P.tells old.history new.history old.session new.session text reply (λ told. extended told) (so_there P.tells c.args.desk.now.session c.serve.new.self.session _ old.history new.history text command reply (c.in-Some.ensures.found text kept) c.requires.ready c.requires.mounted c.in-Ok.ensures.after.mounted (λ told. extended told) c.in-Ok.ensures.any))
    (tells_short P.tells old.history.present old new text command reply (c.in-Some.ensures.found text kept) later (full_as_said c.in-Ok.reply c.serve.new.self.buffer _ c.in-Ok.ensures.after.full)) c.in-Ok.ensures.enough
    (looks_line P.tells old new text (reply ∷ []) command _ (c.in-Some.ensures.found text kept) c.in-Ok.ensures.after.changes (λ told before warm look. let few = c.in-Ok.ensures.looks told before warm look in (few.0, λ done. few.1 refl)))
    (λ told entry updates rep enough. turned_command P.tells old new entry updates text command reply told (c.in-Some.ensures.found text kept) c.requires.ready
    (served_at _ _ (c.serve.ensures.keeps.serves told (c.requires.cell told))) c.in-Ok.ensures.pages
    (c.in-Ok.ensures.seen told entry rep.there) rep enough (c.in-Ok.ensures.answered told entry rep.there))
    c.put_reply-in-Ok.ensures.put

pub returns-in-Err-clause-handled : goal.returns-in-Err-clause-handled
returns-in-Err-clause-handled g c text kept =
    let P = g.P.Platform in
    let old : World = world_by P g.T.Tape c.args.desk.now.session c.args.platform.now c.args.tape.now in
    let new : World = world_by P g.T.Tape c.serve.new.self.session c.serve.new.platform c.serve.new.tape in
    let later : IsLater old new = record { capacity = c.serve.ensures.after.capacity; rises = c.serve.ensures.after.rises; within = g.met.P.Platform.has_room c.serve.new.platform } in
    let command = asked c.in-Some.command c.read_line.new.buffer in
    Handled-stop P.tells old new text command c.in-Err.stop (g.O.Sink.written c.args.output.now) (c.in-Some.ensures.found text kept) later
    (until_cut old.drawn new.drawn text command c.in-Err.ensures.keeps.keys.grew (c.in-Some.ensures.found text kept) (λ none. ap g.T.Tape.drawn (c.in-Err.ensures.still.undrawn none)) c.in-Err.ensures.keeps.keys.drew)
    (λ told. (c.serve.ensures.keeps.serves told (c.requires.cell told)).extends) c.in-Err.ensures.after.added
    c.in-Err.ensures.any
    (looks_line P.tells old new text [] command _ (c.in-Some.ensures.found text kept) (λ told. changes_most command c.in-Err.stop _ _ (c.in-Err.ensures.after.changes told)) (λ told before warm look. ((c.in-Err.ensures.looks told before warm look).0, λ done. absurd cc)))
    (λ told. served_at _ _ (c.serve.ensures.keeps.serves told (c.requires.cell told))) (λ told entry rep. halts_by (world_of P c.args.desk.now.session c.args.platform.now) (world_of P c.serve.new.self.session c.serve.new.platform) old.drawn new.drawn entry command c.in-Err.stop (c.in-Err.ensures.answered told entry rep.there))

pub returns-in_default-clause-keeps : goal.returns-in_default-clause-keeps
returns-in_default-clause-keeps g c = on_done _ _ _ _ _ c.args.desk.now.session _ _ _ _ _ _ (on_start _ _ _ c.args.desk.now.session _ _) (λ going. going) (λ keys h. on_ok c.put_reply.result _ h)

pub returns-in-Ok-clause-keeps : goal.returns-in-Ok-clause-keeps
returns-in-Ok-clause-keeps g c = on_done _ _ _ _ _ c.args.desk.now.session _ _ _ _ _ _ c.in-Ok.ensures.keeps (λ going. refl) (λ keys h. on_ok c.put_reply-in-Ok.result _ h)

pub returns-in-Err-clause-keeps : goal.returns-in-Err-clause-keeps
returns-in-Err-clause-keeps g c = on_done _ _ _ _ _ c.args.desk.now.session _ _ _ _ _ _ c.serve.ensures.keeps (λ never. absurd cc) (λ keys h. tt)

pub returns-in_default-clause-wiped : goal.returns-in_default-clause-wiped
returns-in_default-clause-wiped g c = on_ok c.put_reply.result _ (λ mounted over. absurd (mounted over))

pub returns-in-Ok-clause-wiped : goal.returns-in-Ok-clause-wiped
returns-in-Ok-clause-wiped g c =
    let P = g.P.Platform in
    let old : World = world_of P c.args.desk.now.session c.args.platform.now in
    let new : World = world_of P c.serve.new.self.session c.serve.new.platform in
    let command = asked c.in-Some.command c.read_line.new.buffer in
    on_ok c.put_reply-in-Ok.result _
    (λ mounted over. (ended_wiped P.tells old new command c.in-Ok.reply c.serve.new.self c.in-Ok.ensures.any c.in-Ok.ensures.after.wiped mounted over).buffer)
