use Rattle.std.proofs.Common.{◌≡◌, ◌-◌, ◌<◌, [], length, Some, ap, ◌∙◌, arith}
use Rattle.std.specs.Prelude.{slice_index_or}
use Rattle.std.proofs.lemmas.Option.{slice_get-get_or}
use Rattle.medium_trace.specs.Trace.{Trace, shown, shown_pages}
use Rattle.medium_trace.proofs.Shown.{shown_pages-at, shown_pages-below}
use Rattle.medium_trace.proofs.medium.MediumTrace.page.Goals.{else-place-self-via-then-place-self+else-index, else-place-self-via-else-place-self}
use Rattle.medium_trace.proofs.medium.MediumTrace.page.Goals as goal

pub returns-then-index-clause-page : goal.returns-then-index-clause-page
returns-then-index-clause-page c =
    let inside = c.self.inside in
    let readable_is : shown_pages inside.unmarked inside.recorded inside.torn.items ≡ c.args.self.now.readable = ap (λ (trace : Trace). trace.readable) c.self.view_is in
    let within : c.args.addr < length inside.recorded = rw (ap (λ (trace : Trace). length trace.recorded) c.self.view_is) c.requires in
    let page = slice_index_or inside.recorded c.args.addr [] in
    let here = shown_pages-at inside.unmarked inside.recorded inside.torn.items (c.args.addr - inside.unmarked) c.args.addr page c.index.result.now
    c.self.invariant.as_many (omega arith) (slice_get-get_or inside.recorded c.args.addr [] within) c.index.ensures in
    rw (← readable_is, c.zeros.ensures.bytes) (here ∙ ap (λ mark. Some (shown page mark)) c.if-index.true)

pub returns-else-place-self-clause-page : goal.returns-else-place-self-clause-page
returns-else-place-self-clause-page c =
    let inside = c.self.inside in
    let readable_is : shown_pages inside.unmarked inside.recorded inside.torn.items ≡ c.args.self.now.readable = ap (λ (trace : Trace). trace.readable) c.self.view_is in
    rw (← readable_is) (elim c.else-place-self.branch [
      | else-place-self-via-then-place-self+else-index w ↦
          shown_pages-at inside.unmarked inside.recorded inside.torn.items (c.args.addr - inside.unmarked) c.args.addr c.at.result.now w.index.result.now
          c.self.invariant.as_many (omega arith) c.at.ensures w.index.ensures
          ∙ ap (λ mark. Some (shown c.at.result.now mark)) w.if-index.false
      | else-place-self-via-else-place-self w ↦
          shown_pages-below inside.unmarked inside.recorded inside.torn.items c.args.addr (omega arith) ∙ c.at.ensures
    ])
