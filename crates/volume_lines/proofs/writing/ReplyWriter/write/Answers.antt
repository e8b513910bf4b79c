use Rattle.std.proofs.Common.{◌≡◌, ℕ, List, [], ◌∷◌, ◌++◌, take, refl, sym, ap, ◌∙◌, subst}
use Rattle.std.specs.Prelude.{OnOk, OnErr}
use Rattle.sdbt_base.specs.Told.{Got, GotPart}
use Rattle.script_lang.specs.Replies.{text_of as script_text, Content as ScriptContent}
use Rattle.volume_lines.specs.Replies.{text_of, line_of, said, Content}
use Rattle.volume_lines.specs.declared.replies.Reply.{Reply as Given}
use Rattle.volume_lines.specs.declared.replies.Reply.TheVariants as given
use Rattle.volume_lines.proofs.writing.ReplyWriter.write.Goals as goal

-- the text is that of a script's reply
same_text : (bytes : List ℕ) → script_text (ScriptContent bytes) ≡ text_of (Content bytes)
unfolding script_text text_of
same_text bytes = refl

same_line : (reply : Given) (count : ℕ) (buffer : List ℕ) → reply ≡ given.Content count → script_text (ScriptContent (take count buffer)) ++ 10 ∷ [] ≡ line_of (said reply buffer)
same_line reply count buffer is = ap (λ (text : List ℕ). text ++ 10 ∷ []) (same_text (take count buffer)) ∙ ap (λ (r : Given). line_of (said r buffer)) (sym is)

pub returns-in-Content-clause-put : goal.returns-in-Content-clause-put
returns-in-Content-clause-put g c =
    subst (λ (line : List ℕ). OnOk c.write.result (Got (g.O.Sink.written c.args.sink.now) line (g.O.Sink.written c.write.new.sink)))
    (same_line c.args.reply.now c.in-Content.count c.args.buffer.now c.in-Content.is) c.write.ensures.put

pub returns-in-Content-clause-part : goal.returns-in-Content-clause-part
returns-in-Content-clause-part g c =
    subst (λ (line : List ℕ). OnErr c.write.result (GotPart (g.O.Sink.written c.args.sink.now) line (g.O.Sink.written c.write.new.sink)))
    (same_line c.args.reply.now c.in-Content.count c.args.buffer.now c.in-Content.is) c.write.ensures.part
