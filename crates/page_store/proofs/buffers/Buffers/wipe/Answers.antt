use Rattle.std.proofs.Common.{◌≡◌, ◌∙◌, ℕ, ap, length, replicate, vec_len, arith}
use Rattle.std.proofs.lemmas.List.{length-replicate}
use Rattle.page_store.proofs.buffers.Buffers.wipe.Goals as goal

pub invariant_of-self : goal.invariant_of-self
invariant_of-self c =
    let page_size : vec_len c.self.inside.page ≡ 4128 = omega (arith, c.self.invariant.0) in
    let body_size : vec_len c.self.inside.body ≡ 4128 = omega (arith, c.self.invariant.1) in
    let page : c.fill.new.self.items ≡ replicate 4128 0 = c.fill.ensures.items (λ y same. same) ∙ ap (λ (n : ℕ). replicate n 0) page_size in
    let body : c.fill-2.new.self.items ≡ replicate 4128 0 = c.fill-2.ensures.items (λ y same. same) ∙ ap (λ (n : ℕ). replicate n 0) body_size in
    (ap length page ∙ length-replicate {A = ℕ} 4128 0, ap length body ∙ length-replicate {A = ℕ} 4128 0, body, c.self.invariant.3)
