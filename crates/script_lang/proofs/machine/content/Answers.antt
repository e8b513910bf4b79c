use Rattle.std.proofs.Common.{◌≡◌, ℕ, List, [], Option, None, unwrap_or, replicate, refl, sym, ap, ◌∙◌}
use Rattle.script_lang.specs.Arrays.{trimmed}
use Rattle.script_lang.specs.Replies.{Content}
use Rattle.script_lang.proofs.Trims.{trimmed-zeros}
use Rattle.script_lang.proofs.machine.content.Goals as goal

-- the reply of a block that isn't mapped, whatever its size
unmapped_reply : (n : ℕ) (none : List ℕ) (found : Option (List ℕ)) → none ≡ [] → None ≡ found → Content none ≡ Content (trimmed (unwrap_or found (replicate n 0)))
unmapped_reply n none found empty is =
    ap (λ (bytes : List ℕ). Content bytes) (empty ∙ sym (trimmed-zeros n) ∙ ap (λ (o : Option (List ℕ)). trimmed (unwrap_or o (replicate n 0))) is)

pub returns-in-None-clause-value : goal.returns-in-None-clause-value
returns-in-None-clause-value c = unmapped_reply 4096 [] _ refl c.in-None.ensures
