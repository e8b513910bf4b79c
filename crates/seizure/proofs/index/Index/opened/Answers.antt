use Rattle.std.proofs.Common.{◌≡◌, ◌↔◌, ℕ, List, take, sym, subst, ap, ◌∙◌}
use Rattle.std.specs.Prelude.{Contains}
use Rattle.std.proofs.lemmas.Result.{IfOk-weaker}
use Rattle.seal_record.specs.Keystream.{stream}
use Rattle.seizure.specs.Index.{number_of, IsHit}
use Rattle.seizure.proofs.IndexLaws.{hits_open, hits_below}
use Rattle.seizure.proofs.index.Index.opened.Goals as goal

pub returns-clause-opened : goal.returns-clause-opened
returns-clause-opened c =
    let marks = c.args.self.now.marks.items in let near = c.near.result.now in let key = c.args.key.now in
    let front = c.stream_front-front.ensures in
    let wanted : c.number_of_front.result ≡ number_of (take 16 (stream key)) = c.number_of_front.ensures ∙ ap number_of front in
    IfOk-weaker c.hits.result _ _ (λ addrs is pages are addr.
    let opened = hits_open pages marks near number_of key are c.near.ensures.some (λ mark inside same. c.near.ensures.all mark inside (same ∙ sym wanted)) addr in
    let hits : Contains addrs addr ↔ IsHit near (take 16 (stream key)) addr = subst (λ (f : List ℕ). Contains addrs addr ↔ IsHit near f addr) front (is addr) in
    (λ has. opened.0 (hits.0 has), λ opens. hits.1 (opened.1 opens))) c.hits.ensures.hits

pub returns-clause-below : goal.returns-clause-below
returns-clause-below c =
    IfOk-weaker c.hits.result _ _ (λ addrs is below are. hits_below below c.args.self.now.marks.items c.near.result.now c.stream_front-front.result addrs c.near.ensures.some is are) c.hits.ensures.hits

pub returns-clause-once : goal.returns-clause-once
returns-clause-once c = IfOk-weaker c.hits.result _ _ (λ addrs once apart. once (c.near.ensures.apart apart)) c.hits.ensures.once
