use Rattle.std.proofs.Common.{◌≡◌, ℕ, suc, ◌+◌, ◌-◌, List, [], ◌∷◌, ◌++◌, ap, sym, ◌∙◌, arith}
use Rattle.tree_build.specs.declared.shapes.Span.{Span}
use Rattle.tree_build.specs.Shape.{span, cut}
use Rattle.tree_build.proofs.CutLaws.{room_next, cut_next, cut_last, pushed}
use Rattle.tree_build.proofs.shapes.push_level.Goals as goal

pub loop-node-preserved : goal.loop-node-preserved
loop-node-preserved c =
    let all = c.args.all in
    let rest = c.loop-node.rest in
    let half = c.args.half in
    let next = room_next half c.args.nodes c.loop-node._node rest.count (omega arith) c.loop-node.invariant.room in
    let low = next.0 in
    let made = cut_next all.level half rest.first c.args.nodes c.loop-node._node rest.count c.loop-node.spans (omega arith) in
    let above = cut all.level half (rest.first + half) (suc (c.args.nodes - (c.loop-node._node + 1))) (rest.count - half) in
    let one : c.loop-node.spans ++ span rest.level rest.first half ∷ [] ≡ c.loop-node.spans ++ span all.level rest.first half ∷ []
    = ap (λ (l : ℕ). c.loop-node.spans ++ span l rest.first half ∷ []) c.loop-node.invariant.level in
    record {
      level = c.loop-node.invariant.level;
      end = omega (arith, low);
      room = next.1;
      spans = ap (λ (ss : List Span). ss ++ above) (c.in_ok-push.ensures ∙ one) ∙ (sym made ∙ c.loop-node.invariant.spans);
    }

pub returns : goal.returns
returns c =
    let all = c.args.all in
    let rest = c.loop-node.rest in
    let made = cut_last all.level c.args.half rest.first c.args.nodes c.loop-node._node rest.count c.loop-node.spans (omega arith) in
    let last : c.loop-node.spans ++ rest ∷ [] ≡ c.loop-node.spans ++ span all.level rest.first rest.count ∷ []
    = ap (λ (l : ℕ). c.loop-node.spans ++ span l rest.first rest.count ∷ []) c.loop-node.invariant.level in
    pushed c.push-2.result c.loop-node.spans c.push-2.new.self rest (c.args.spans.now ++ cut all.level c.args.half all.first c.args.nodes all.count) c.push-2.ensures
    (last ∙ (sym made ∙ c.loop-node.invariant.spans))
