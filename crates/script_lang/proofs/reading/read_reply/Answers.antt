use Rattle.std.proofs.Common.{◌≡◌, ◌≢◌, ℕ, List, Option, Some, None, sym, ◌∙◌}
use Rattle.std.specs.Option.{IfSome, IfNone, IsSomeAnd}
use Rattle.script_lang.specs.Replies.{Reply, IsReply, text_of, said}
use Rattle.script_lang.specs.declared.replies.Reply.{Reply as Given}
use Rattle.script_lang.proofs.ReplyLaws.{one_reply}
use Rattle.script_lang.proofs.reading.read_reply.Goals as goal

-- what is found is the reply whose text it is
same_reply : (text buffer : List ℕ) (found : Option Given) → IfSome found (λ r. IsReply (said r buffer) × (text ≡ text_of (said r buffer)))
    → IfNone found ((r : Reply) → IsReply r → text ≢ text_of r) → (reply : Reply) → IsReply reply → text ≡ text_of reply → IsSomeAnd found (λ r. said r buffer ≡ reply)
same_reply text buffer (Some r) is none reply also e = one_reply (said r buffer) reply is.0 also (sym is.1 ∙ e)
same_reply text buffer None is none reply also e = absurd (none reply also e)

pub returns-clause-same : goal.returns-clause-same
returns-clause-same c = same_reply c.args.line.now c.find_reply.new.buffer c.find_reply.result c.find_reply.ensures.found c.find_reply.ensures.none
