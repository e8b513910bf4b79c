use Rattle.std.proofs.Common.{refl, ◌≡◌, true, false, List, ℕ, sym, subst}
use Rattle.std.specs.Prelude.{OnOk, OnErr}
use Rattle.sdbt_base.specs.Told.{Got, GotPart}
use Rattle.nbd_lang.specs.Replies.{reply_bytes}
use Rattle.nbd_lang.specs.declared.replies.Outcome.{Outcome}
use Rattle.nbd_lang.specs.declared.replies.Outcome.TheVariants.{Done}
use Rattle.nbd_core.specs.Serving.{bytes_of_reply}
use Rattle.nbd_core.proofs.ReplyLaws.{no_bytes, room_bytes}
use Rattle.nbd_core.proofs.serving.put_reply.Goals as goal

pub returns-clause-put : goal.returns-clause-put
returns-clause-put g c =
    let none = no_bytes c.args.request.now.kind c.args.request.now.length c.args.outcome c.args.desk.now.reply.items (λ is done. let no : false ≡ true = c.if-has_bytes.ensures.1 (is, done) in cc) in
    subst (λ (bytes : List ℕ). OnOk c.put_head.result (Got (g.O.Sink.written c.args.output.now) (reply_bytes (record { outcome = c.args.outcome; cookie = c.args.request.now.cookie; bytes = bytes })) (g.O.Sink.written c.put_head.new.output))) (sym none) c.put_head.ensures.put

pub returns-clause-part : goal.returns-clause-part
returns-clause-part g c =
    let none = no_bytes c.args.request.now.kind c.args.request.now.length c.args.outcome c.args.desk.now.reply.items (λ is done. let no : false ≡ true = c.if-has_bytes.ensures.1 (is, done) in cc) in
    subst (λ (bytes : List ℕ). OnErr c.put_head.result (GotPart (g.O.Sink.written c.args.output.now) (reply_bytes (record { outcome = c.args.outcome; cookie = c.args.request.now.cookie; bytes = bytes })) (g.O.Sink.written c.put_head.new.output))) (sym none) c.put_head.ensures.part

pub returns-then-has_bytes-clause-put : goal.returns-then-has_bytes-clause-put
returns-then-has_bytes-clause-put g c =
    let both = c.if-has_bytes.ensures.0 refl in
    let bytes = room_bytes c.args.request.now.kind c.args.request.now.length c.args.outcome _ _ both.0 both.1 c.deref_mut.ensures.value in
    subst (λ (outcome : Outcome). OnOk c.put_read.result (Got (g.O.Sink.written c.args.output.now) (reply_bytes (record { outcome = outcome; cookie = c.args.request.now.cookie; bytes = bytes_of_reply c.args.request.now.kind c.args.request.now.length c.args.outcome c.args.desk.now.reply.items })) (g.O.Sink.written c.put_read.new.output))) (sym both.1)
    (subst (λ (bytes : List ℕ). OnOk c.put_read.result (Got (g.O.Sink.written c.args.output.now) (reply_bytes (record { outcome = Done; cookie = c.args.request.now.cookie; bytes = bytes })) (g.O.Sink.written c.put_read.new.output))) (sym bytes) c.put_read.ensures.put)

pub returns-then-has_bytes-clause-part : goal.returns-then-has_bytes-clause-part
returns-then-has_bytes-clause-part g c =
    let both = c.if-has_bytes.ensures.0 refl in
    let bytes = room_bytes c.args.request.now.kind c.args.request.now.length c.args.outcome _ _ both.0 both.1 c.deref_mut.ensures.value in
    subst (λ (outcome : Outcome). OnErr c.put_read.result (GotPart (g.O.Sink.written c.args.output.now) (reply_bytes (record { outcome = outcome; cookie = c.args.request.now.cookie; bytes = bytes_of_reply c.args.request.now.kind c.args.request.now.length c.args.outcome c.args.desk.now.reply.items })) (g.O.Sink.written c.put_read.new.output))) (sym both.1)
    (subst (λ (bytes : List ℕ). OnErr c.put_read.result (GotPart (g.O.Sink.written c.args.output.now) (reply_bytes (record { outcome = Done; cookie = c.args.request.now.cookie; bytes = bytes })) (g.O.Sink.written c.put_read.new.output))) (sym bytes) c.put_read.ensures.part)
