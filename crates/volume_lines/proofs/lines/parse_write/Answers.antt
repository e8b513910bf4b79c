use Rattle.std.proofs.Common.{ℕ, List, length, drop, ap, ◌∙◌}
use Rattle.volume_lines.proofs.lines.parse_write.Goals as goal

pub returns-in_err-name-clause-none : goal.returns-in_err-name-clause-none
returns-in_err-name-clause-none c =
    rw c.from_residual-in_err-name.ensures (λ name block content spelled.
    let prefix = c.in_ok-strip_prefix.ensures.cases in
    let behind = prefix.1 ∙ ap (λ (word : List ℕ). drop (length word) c.args.line.now) c.as_slice.ensures ∙ ap (drop 6) spelled.2 in
    c.in_err-name.ensures.none name spelled.0 block content spelled.1 behind spelled.3)
