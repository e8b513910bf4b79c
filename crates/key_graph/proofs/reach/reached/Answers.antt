use Rattle.std.proofs.Common.{◌≡◌, ◌↔◌, ◌<◌, length, get_or, ℕ, List, Contains, arith, sym, subst, ◌∙◌}
use Rattle.std.proofs.lemmas.List.{get_or_default}
use Rattle.std.proofs.lemmas.Result.{IfOk-weaker}
use Rattle.key_graph.specs.Trace.{TraceReached, entry_in}
use Rattle.key_graph.specs.Search.{children_of, Gains}
use Rattle.key_graph.proofs.SearchLaws.{searched_more, found_all}
use Rattle.key_graph.proofs.reach.reached.Goals as goal

pub loop-next-preserved : goal.loop-next-preserved
loop-next-preserved c =
    let within : c.loop-next.next < length c.loop-next.queue.items = omega (arith, c.len.ensures) in
    let read : c.index.result.now ≡ get_or c.loop-next.queue.items c.loop-next.next 0 =
    c.index.ensures ∙ get_or_default c.loop-next.queue.items c.loop-next.next c.index.result.now 0 within in (
      c.in_ok-visit.ensures.found,
      searched_more (entry_in c.args.trace.now) c.args.root c.loop-next.queue.items c.visit.new.queue.items c.loop-next.next c.loop-next.invariant.1
          within (subst (λ (a : ℕ). Gains c.loop-next.queue.items c.visit.new.queue.items (children_of (entry_in c.args.trace.now a))) read c.in_ok-visit.ensures.queued),
    )

pub returns-clause-exact : goal.returns-clause-exact
returns-clause-exact c =
    let all = found_all (entry_in c.args.trace.now) c.args.root c.loop-next.found c.loop-next.queue.items c.loop-next.next c.loop-next.invariant.0 c.loop-next.invariant.1 (omega (arith, c.len.ensures)) in
    IfOk-weaker c.listed.result _ _ (λ addrs is addr. subst (λ (l : List ℕ). Contains l addr ↔ TraceReached (entry_in c.args.trace.now) c.args.root addr) (sym is) (all addr)) c.listed.ensures.addrs
