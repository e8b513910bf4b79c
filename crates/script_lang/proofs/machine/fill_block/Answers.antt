use Rattle.std.proofs.Common.{ℕ, List, length, drop, replicate, ◌++◌, ◌-◌, ap, ◌∙◌}
use Rattle.std.proofs.lemmas.List.{drop-replicate}
use Rattle.script_lang.proofs.machine.fill_block.Goals as goal

pub returns : goal.returns
returns c =
    let filled = c.fill.ensures.after (λ y e. e) ∙ ap (λ (n : ℕ). replicate n 0) c.requires.size in
    ap (λ (rest : List ℕ). c.copy_from_slice.new.self ++ rest) (ap (drop (length c.args.bytes.now)) filled ∙ drop-replicate (length c.args.bytes.now) 4096 0)
    ∙ ap (λ (front : List ℕ). front ++ replicate (4096 - length c.args.bytes.now) 0) c.copy_from_slice.ensures.after
