use Rattle.std.proofs.Common.{sym, ◌∙◌, arith}
use Rattle.tpm_nv.proofs.MessageLaws.{head_same, length-reply, head_in, fits_in, reply_parts}
use Rattle.tpm_nv.proofs.heads.parts_of.Goals as goal

pub returns-in_err-front-clause-only : goal.returns-in_err-front-clause-only
returns-in_err-front-clause-only c tag code body below-tag below-code is =
    absurd (omega (arith, c.in_err-front.ensures.cases, length-reply is))

pub returns-in_err-head-clause-only : goal.returns-in_err-head-clause-only
returns-in_err-head-clause-only c tag code body below-tag below-code is =
    absurd (c.in_err-head.ensures.none (head_in tag code c.args.reply.now) (fits_in below-tag below-code is) (c.in_ok-front.ensures.cases.1 ∙ (reply_parts is).0))

pub returns-then-head-reply-clause-only : goal.returns-then-head-reply-clause-only
returns-then-head-reply-clause-only c tag code body below-tag below-code is =
    let parts = reply_parts is in
    let found = c.in_ok-head.ensures.found in
    let heads = head_same c.in_ok-head.head (head_in tag code c.args.reply.now) found.0 (fits_in below-tag below-code is) (sym found.1 ∙ c.in_ok-front.ensures.cases.1 ∙ parts.0) in
    (heads.0, heads.2, c.in_ok-front.ensures.cases.2 ∙ parts.1)

pub returns-else-head-reply-clause-only : goal.returns-else-head-reply-clause-only
returns-else-head-reply-clause-only c tag code body below-tag below-code is =
    let found = c.in_ok-head.ensures.found in
    let heads = head_same c.in_ok-head.head (head_in tag code c.args.reply.now) found.0 (fits_in below-tag below-code is) (sym found.1 ∙ c.in_ok-front.ensures.cases.1 ∙ (reply_parts is).0) in
    c.if-head-reply.false heads.1
