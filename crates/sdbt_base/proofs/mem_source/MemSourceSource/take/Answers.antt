use Rattle.std.proofs.Common.{ℕ, Some, List, drop, ◌++◌, ◌+◌, ◌≤◌, sym, ◌∙◌, ap, arith}
use Rattle.std.proofs.lemmas.List.{take-take}
use Rattle.std.proofs.lemmas.Grind.{common_steps}
use Rattle.sdbt_base.proofs.ToldLaws.{drop-in_two}
use Rattle.sdbt_base.proofs.mem_source.MemSourceSource.take.Goals as goal

-- src/mem_source.rt:67:5
pub returns-clause-taken : goal.returns-clause-taken
returns-clause-taken c =
    let at = c.self.inside.at in
    let bytes = c.self.inside.bytes.items in
    let count = c.copy_front-count.result in
    let most = c.min.result in
    let within : count ≤ most = grind (arith, common_steps, c.copy_front-count.ensures.count, c.min.ensures) in
    let front = take-take count most (drop at bytes) within in
    ap (λ (rest : List ℕ). Some rest) (sym (ap (λ s. s.left) c.self.view_is) ∙ drop-in_two at count bytes ∙ ap (λ (first : List ℕ). first ++ drop (at + count) bytes) (sym (c.copy_front-count.ensures.front ∙ grind (arith, front, c.split_at.ensures))))
