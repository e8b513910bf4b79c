use Rattle.std.proofs.Common.{◌≡◌, ℕ, refl, sym, subst}
use Rattle.std.specs.Prelude.{All}
use Rattle.std.proofs.lemmas.List.Elements.{All-replicate}
use Rattle.page_store.proofs.buffers.Buffers.new.Goals as goal

pub returns : goal.returns
returns c =
    let zero : ℕ → Type 0 = λ b. b ≡ 0 in
    record {
      page = subst (All zero) (sym (c.in_ok-page.ensures.items_if_clones_equal (λ y same. same))) (All-replicate zero 4128 0 refl);
      body = subst (All zero) (sym (c.in_ok-body.ensures.items_if_clones_equal (λ y same. same))) (All-replicate zero 4128 0 refl);
    }
